use Rattle.records.proofs.Located.{recorded}
use Rattle.records.proofs.records.Records.settle.Goals as goal

pub returns-in-Write-clause-absent_changes_nothing : goal.returns-in-Write-clause-absent_changes_nothing
returns-in-Write-clause-absent_changes_nothing g c none =
    let s = c.args.self.now.table in
    let whole = c.in-Some.ensures.whole in
    absurd (recorded g.K.OrderedKey.order g.met.K.OrderedKey.lawful (g.R.Roll.places s.roll) s.values c.in-Some.place c.args.key.now whole.long whole.proper.distinct c.in-Some.ensures.located none)

pub returns-in-Erase-clause-absent_changes_nothing : goal.returns-in-Erase-clause-absent_changes_nothing
returns-in-Erase-clause-absent_changes_nothing g c none =
    let s = c.args.self.now.table in
    let whole = c.in-Some.ensures.whole in
    absurd (recorded g.K.OrderedKey.order g.met.K.OrderedKey.lawful (g.R.Roll.places s.roll) s.values c.in-Some.place c.args.key.now whole.long whole.proper.distinct c.in-Some.ensures.located none)
