use Rattle.records.proofs.Located.{recorded}
use Rattle.records.proofs.records.Records.write.Goals as goal

pub returns-in-Some-clause-absent_changes_nothing : goal.returns-in-Some-clause-absent_changes_nothing
returns-in-Some-clause-absent_changes_nothing g c none =
    let s = c.args.self.now.table in
    let whole = c.in-Some.ensures.whole in
    absurd (recorded g.K.OrderedKey.order g.met.K.OrderedKey.lawful (g.R.Roll.places s.roll) s.values c.in-Some.place c.args.key.now whole.long whole.proper.distinct c.in-Some.ensures.located none)
