use Rattle.std.proofs.Common.{sym, ◌∙◌}
use Rattle.tables.proofs.Listed.{lookup-at_place}
use Rattle.records.proofs.records.Records.at.Goals as goal

pub returns : goal.returns
returns g c key e =
    let s = c.args.self.now.table in
    let whole = c.value_at.ensures.whole in
    c.value_at.ensures.value
    ∙ sym (lookup-at_place g.K.OrderedKey.order g.met.K.OrderedKey.lawful (g.R.Roll.places s.roll) s.values c.args.place key whole.long whole.proper.distinct e)
