use Rattle.std.proofs.Common.{◌≡◌, true, is_err, Ok, Err, Result}
use Rattle.std.proofs.lemmas.Bool.{false≢true}
use Rattle.tables.proofs.Listed.{lookup_absent}
use Rattle.records.specs.Kept.{RaiseAnswer}
use Rattle.records.specs.Ranks.{raised}
use Rattle.records.specs.declared.full.PeersFull.{PeersFull}
use Rattle.records.proofs.Located.{full-listing}
use Rattle.records.proofs.records.Records.raise_one.Goals as goal

pub returns-in_err-enter : goal.returns-in_err-enter
returns-in_err-enter g c = by c.from_residual.result c.from_residual.ensures.0
  where
    by : (r : Result (Unit {0}) PeersFull) → is_err r ≡ true
        → RaiseAnswer g.R.Roll g.K.OrderedKey c.args.self.now (record { table = c.enter.new.self }) (raised c.args.rank) c.args.key.now r
    by (Ok u) h = absurd (false≢true h)
    by (Err f) h =
        let s = c.args.self.now.table in
        let whole = c.in_err-enter.ensures.whole in
        let n = c.in_err-enter.ensures.entered in
        record {
          absent = lookup_absent g.K.OrderedKey.order g.met.K.OrderedKey.lawful (g.R.Roll.places s.roll) s.values c.args.key.now n.absent;
          full =
              full-listing g.K.OrderedKey.order g.met.K.OrderedKey.lawful (g.R.Roll.places s.roll) s.values whole.long
              whole.proper.distinct n.none_empty;
        }
