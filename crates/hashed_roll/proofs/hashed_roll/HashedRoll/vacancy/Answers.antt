use Rattle.std.proofs.Common.{true, false, refl, rules, ◌≡◌, arith, tests}
use Rattle.std.proofs.lemmas.Iterator.{YieldsList-from_range, first_from_find}
use Rattle.std.proofs.lemmas.Iterator.Consumers.{YieldsList-from_chain}
use Rattle.hashed_roll.specs.Slots.{slot_at, is_empty}
use Rattle.hashed_roll.proofs.Walks.{vacancy_on_the_way}
use Rattle.hashed_roll.proofs.hashed_roll.HashedRoll.vacancy.Goals as goal

pub returns : goal.returns
returns g c =
    rw (← c.self.view_is)
    (vacancy_on_the_way g.K.HashedKey.hashed c.self.inside.slots.items c.args.key.now _ _ (omega (arith, c.self.inside.slots.ok.0)) c.home-home.ensures.named c.home-home.ensures.no_slots c.find.result
    (first_from_find _ _ c.find.result (λ p. is_empty (slot_at c.self.inside.slots.items p) ≡ true) (λ p. is_empty (slot_at c.self.inside.slots.items p) ≡ false) c.find.ensures.ran
    (YieldsList-from_chain (YieldsList-from_range c.home-home.result c.len-size.result _ c.chain.ensures.first refl) (YieldsList-from_range 0 c.home-home.result c.home-home.result c.chain.ensures.second (omega arith)) c.chain.ensures.first_done c.chain.ensures.second_done)
    (λ x q k. search (rules, tests)) (λ x q k. search (rules, tests))))
