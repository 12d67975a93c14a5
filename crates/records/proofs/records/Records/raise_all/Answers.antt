use Rattle.key_list.specs.Members.{keys_in}
use Rattle.records.specs.Ranks.{raised}
use Rattle.records.proofs.Steps.{has_room}
use Rattle.records.proofs.records.Records.raise_all.Goals as goal

pub returns-in_err-raise_one : goal.returns-in_err-raise_one
returns-in_err-raise_one g c fits =
    absurd
    (has_room g.K.OrderedKey g.R.Roll (raised c.args.rank) (keys_in c.args.keys.now) c.args.self.now c.loop-key.self
    g.met.K.OrderedKey.lawful c.raise_one.new.self c.in-Some.key c.loop-key.key-iterator c.next.new.self c.in-Some.ensures.steps c.loop-key.invariant fits c.in_err-raise_one.ensures)
