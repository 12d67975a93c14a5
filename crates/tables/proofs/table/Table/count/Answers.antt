use Rattle.std.proofs.Common.{length, sym, ◌∙◌, rules, tests, arith}
use Rattle.std.proofs.lemmas.Iterator.{YieldsList-from_range}
use Rattle.std.proofs.lemmas.Iterator.Consumers.{YieldsList-from_filter_map, count_from_yields_List}
use Rattle.rolls.specs.Places.{at}
use Rattle.tables.proofs.Listed.{length-listing}
use Rattle.tables.proofs.Scans.{length-at_places}
use Rattle.tables.proofs.table.Table.count.Goals as goal

pub returns : goal.returns
returns g c =
    let s = c.args.self.now in
    let ps = g.R.Roll.places s.roll in
    let whole = c.size.ensures.whole in
    count_from_yields_List c.filter_map.result c.count.result c.count.ensures.ran
    (YieldsList-from_filter_map _ (at ps) (YieldsList-from_range 0 c.size.result (length ps) c.filter_map.ensures.source (omega (arith, c.size.ensures.number))) c.filter_map.ensures.closure (λ x r q k. search (rules, tests)))
    ∙ length-at_places ps
    ∙ sym (length-listing g.K.OrderedKey.order g.met.K.OrderedKey.lawful ps s.values whole.long whole.proper.distinct)
