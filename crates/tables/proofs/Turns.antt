-- What a roll's answers say of its places, in one form for all cases.
use Rattle.std.proofs.Common.{◌≡◌, ℕ, ◌<◌, ◌⊎◌, List, length, set, Some, None, Ok, Err, Option, Result, sym, ◌∙◌, inl, inr}
use Rattle.rolls.specs.Places.{at, Absent, Stood, Took, Struck}
use Rattle.tables.proofs.Listed.{set_again}
use Rattle.rolls.specs.declared.fault.RollFault.{RollFault}

module _ {K : Type 0} where
  -- a key that is entered stands at its place, which had it or was empty
  pub record Place (ps qs : List (Option K)) (k : K) (p : ℕ) : Type 0 where
    pub within : p < length ps
    pub now_places : qs ≡ set ps p (Some k)
    pub free : (at ps p ≡ Some k) ⊎ ((at ps p ≡ None) × Absent ps k)

  pub place_of : (ps qs : List (Option K)) (k : K) (p : ℕ) → Stood ps qs k p ⊎ Took ps qs k p → Place ps qs k p
  place_of ps qs k p (inl s) = record { within = s.within; now_places = s.same ∙ sym (set_again ps p (Some k) s.held); free = inl s.held }
  place_of ps qs k p (inr t) = record { within = t.within; now_places = t.set_there; free = inr (t.empty, t.absent) }

  -- a place that is struck is empty, whatever it was
  pub struck_places : (ps qs : List (Option K)) (p : ℕ) (r : Result (Unit {0}) RollFault) → Struck ps qs p r → qs ≡ set ps p None
  struck_places ps qs p (Ok u) s = s.set_there
  struck_places ps qs p (Err f) s = s.same ∙ sym (set_again ps p None s.empty)
