use Rattle.std.proofs.Common.{ℕ, Some, None, Option}
use Rattle.rolls.specs.Places.{Found}
use Rattle.tables.proofs.Listed.{lookup_absent}
use Rattle.records.specs.Kept.{Located}
use Rattle.records.proofs.records.Records.find.Goals as goal

pub returns-clause-located : goal.returns-clause-located
returns-clause-located g c = by c.place.result c.place.ensures.found
  where
    by : (found : Option ℕ) → Found (g.R.Roll.places c.args.self.now.table.roll) c.args.key.now found → Located g.R.Roll g.K.OrderedKey c.args.self.now c.args.key.now found
    by None absent = lookup_absent g.K.OrderedKey.order g.met.K.OrderedKey.lawful (g.R.Roll.places c.args.self.now.table.roll) c.args.self.now.table.values c.args.key.now absent
    by (Some p) there = there.1
