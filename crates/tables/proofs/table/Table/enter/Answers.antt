use Rattle.std.proofs.Common.{ap, ◌∙◌, arith}
use Rattle.std.proofs.lemmas.Grind.{common_steps}
use Rattle.tables.proofs.Listed.{listing-put}
use Rattle.tables.proofs.Turns.{place_of}
use Rattle.tables.proofs.table.Table.enter.Goals as goal

pub returns-clause-entered : goal.returns-clause-entered
returns-clause-entered g c =
    let ps = g.R.Roll.places c.self.inside.roll in
    let vs = c.self.inside.values.items in
    let whole = c.self.invariant in
    let p = c.in_ok-place.place in
    let took = place_of ps (g.R.Roll.places c.enter.new.self) c.args.key p c.in_ok-place.ensures in
    rw (← c.self.view_is) (record {
      within = took.within;
      free = took.free;
      now_places = ap g.R.Roll.places c.put.ensures.same_roll ∙ took.now_places;
      now_entries = grind (arith, common_steps, took.now_places, listing-put g.K.OrderedKey.order g.met.K.OrderedKey.lawful ps vs p c.args.key whole.long whole.proper.distinct took.within c.args.value took.free);
    })
