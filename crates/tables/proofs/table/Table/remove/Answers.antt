use Rattle.std.proofs.Common.{refl, arith}
use Rattle.std.proofs.lemmas.Grind.{common_steps}
use Rattle.rolls.proofs.Tables.{within, proper_struck}
use Rattle.tables.proofs.Listed.{listing-cut}
use Rattle.tables.proofs.Turns.{struck_places}
use Rattle.tables.proofs.table.Table.remove.Goals as goal

pub invariant_of-self : goal.invariant_of-self
invariant_of-self g c =
    record {
      proper = proper_struck _ _ _ _ c.self.invariant.proper c.strike.ensures;
      long = grind (arith, common_steps, struck_places _ _ _ _ c.strike.ensures);
    }

pub returns : goal.returns
returns g c =
    let ps = g.R.Roll.places c.self.inside.roll in
    let vs = c.self.inside.values.items in
    let whole = c.self.invariant in
    let p = c.args.place in
    let places = struck_places ps (g.R.Roll.places c.strike.new.self) p c.strike.result c.strike.ensures in
    rw (← c.self.view_is) (record {
      now_places = places;
      now_entries = λ key e. rw places (listing-cut g.K.OrderedKey.order g.met.K.OrderedKey.lawful ps vs p key whole.long whole.proper.distinct (within ps p key e) vs e refl (λ j d n. refl));
    })
