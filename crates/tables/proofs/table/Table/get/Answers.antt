use Rattle.std.proofs.Common.{sym, ◌∙◌, arith}
use Rattle.std.proofs.lemmas.Grind.{common_steps}
use Rattle.tables.proofs.Listed.{lookup_absent, lookup-at_place}
use Rattle.tables.proofs.table.Table.get.Goals as goal

pub returns-in_err-place : goal.returns-in_err-place
returns-in_err-place g c = grind (arith, common_steps, lookup_absent g.K.OrderedKey.order g.met.K.OrderedKey.lawful)

pub returns : goal.returns
returns g c =
    let s = c.args.self.now in
    let whole = c.in_ok-place.ensures.whole in
    c.value_at.ensures.value
    ∙ sym (lookup-at_place g.K.OrderedKey.order g.met.K.OrderedKey.lawful (g.R.Roll.places s.roll) s.values c.in_ok-place.field-0 c.args.key.now whole.long whole.proper.distinct c.in_ok-place.ensures.found.1)
