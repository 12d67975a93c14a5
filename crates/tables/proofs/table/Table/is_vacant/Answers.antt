use Rattle.std.proofs.Common.{length, is_none, ◌∙◌, rules, tests, refl, arith}
use Rattle.std.proofs.lemmas.Iterator.{YieldsList-from_range}
use Rattle.std.proofs.lemmas.Iterator.Search.{all_from_yields_List}
use Rattle.rolls.specs.Places.{at}
use Rattle.tables.proofs.Scans.{none_at_places}
use Rattle.tables.proofs.table.Table.is_vacant.Goals as goal

pub returns : goal.returns
returns g c =
    let ps = g.R.Roll.places c.args.roll.now in
    all_from_yields_List (λ p. is_none (at ps p)) _ _ c.all.result c.all.ensures.ran (YieldsList-from_range 0 c.size.result (length ps) refl (omega (arith, c.size.ensures.number))) (λ x b q k. search (rules, tests)) ∙ none_at_places ps
