use Rattle.std.proofs.Common.{sym, subst, ap, ◌∙◌, length, arith}
use Rattle.rolls.proofs.Tables.{some_none}
use Rattle.sorted_roll.specs.Ranks.{Kept, Sound}
use Rattle.sorted_roll.specs.Bisection.{absent_unless, key_of_past, key_of_read}
use Rattle.sorted_roll.proofs.Lookups.{found_if_same}
use Rattle.sorted_roll.proofs.sorted_roll.SortedRoll.place_if.Goals as goal

pub returns-in_err-place : goal.returns-in_err-place
returns-in_err-place g c =
    let roll = c.args.self.now in
    let ranks = c.deref.ensures.value ∙ ap (λ (now : Kept g.row.K.Denot). now.ranks) c.self.view_is in
    rw c.from_residual.ensures
    (absent_unless _ g.met.K.OrderedKey.lawful _ _ _ (subst (Sound g.K.OrderedKey.order) c.self.view_is c.self.invariant) _ _ c.requires
    (λ a e q. some_none a e (key_of_past roll.places roll.ranks c.args.rank (omega (arith, c.in_err-place.ensures.lookup.3, ap length ranks)))))

pub returns : goal.returns
returns g c =
    let ranks = c.deref.ensures.value ∙ ap (λ (now : Kept g.row.K.Denot). now.ranks) c.self.view_is in
    found_if_same _ g.met.K.OrderedKey.lawful _ _ _ (subst (Sound g.K.OrderedKey.order) c.self.view_is c.self.invariant) _ _ c.in_ok-place.field-0.now c.in_ok-key_at.field-0 _ _ c.requires
    (key_of_read _ _ _ _ _ ranks c.in_ok-place.ensures.lookup.3.1) (sym c.in_ok-key_at.ensures) c.is_same.ensures c.then_some.ensures
