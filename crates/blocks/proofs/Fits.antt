-- When a key finds a place: it has one, or there are fewer entries than places.
use Rattle.std.proofs.Common.{◌≡◌, ℕ, zero, suc, ◌<◌, ◌≤◌, true, false, ◌||◌, ltb, ◌⊎◌, List, [], ◌∷◌, length, is_some, is_ok, Some, None, Ok, Err, Option, Result, Ordering, sym, refl, ap, inl, inr, arith}
use Rattle.std.proofs.lemmas.Bool.{lt-ltb, le-ltb, or_left, or_right, or_from}
use Rattle.keys.specs.Order.{Lawful}
use Rattle.keys.specs.declared.ordered_key.OrderedKey as ordered
use Rattle.rolls.specs.Places.{at, Absent, Distinct, NoneEmpty, occupied}
use Rattle.rolls.specs.declared.fault.RollFault.{RollFault}
use Rattle.rolls.specs.declared.roll.Roll as roll
use Rattle.rolls.proofs.Tables.{occupied_lt}
use Rattle.tables.specs.Listings.{lookup, listing}
use Rattle.tables.specs.Stores.{Whole}
use Rattle.tables.specs.Tabled.{places_of, entries, EnterAnswer}
use Rattle.tables.specs.declared.table.Table.{Table}
use Rattle.tables.proofs.Listed.{some_value, lookup_absent, lookup-listing, length-listing}

-- where no place is empty, each has a key
occupied-full : {K : Type 0} (ps : List (Option K)) → NoneEmpty ps → length ps ≤ occupied ps
occupied-full [] full = omega arith
occupied-full (None ∷ ps) full = absurd (full zero (omega arith) refl)
occupied-full (Some k ∷ ps) full = omega (arith, occupied-full ps (λ p h. full (suc p) (omega arith)))

module _ {K V : Type 0} (order : K → K → Ordering) (lawful : Lawful order) (ps : List (Option K)) (vs : List V) (k : K) (long : length vs ≡ length ps) (distinct : Distinct ps) where
  has-place : (p : ℕ) → p < length ps → (at ps p ≡ Some k) ⊎ ((at ps p ≡ None) × Absent ps k) → (is_some (lookup order k (listing order ps vs)) || ltb (length (listing order ps vs)) (length ps)) ≡ true
  has-place p inside (inl e) =
      let d = some_value vs (omega arith) in
      or_left _ _ (ap is_some (lookup-listing order lawful ps vs p k d long distinct e))
  has-place p inside (inr x) =
      let fewer : length (listing order ps vs) < length ps = omega (arith, length-listing order lawful ps vs long distinct, occupied_lt ps p inside x.0) in
      or_right _ _ (lt-ltb _ _ fewer)

  no_place : Absent ps k → NoneEmpty ps → (is_some (lookup order k (listing order ps vs)) || ltb (length (listing order ps vs)) (length ps)) ≡ false
  no_place absent full =
      let as_many : length ps ≤ length (listing order ps vs) = omega (arith, length-listing order lawful ps vs long distinct, occupied-full ps full) in
      or_from _ _ (ap is_some (lookup_absent order lawful ps vs k absent)) (le-ltb _ _ as_many)

-- entering a key goes well exactly if it fits
pub enter_fits : {K V R : Type 0} (m : roll.Ghosts R K) (o : ordered.Ghosts K) (lawful : Lawful o.order) (before after : Table K V R) (k : K) (v : V) (r : Result ℕ RollFault) → Whole (places_of m before) before.values → EnterAnswer m o before after k v r → is_ok r ≡ (is_some (lookup o.order k (entries m o before)) || ltb (length (entries m o before)) (length (places_of m before)))
enter_fits m o lawful before after k v (Ok p) whole e =
    sym (has-place o.order lawful (places_of m before) before.values k whole.long whole.proper.distinct p e.within e.free)
enter_fits m o lawful before after k v (Err f) whole e =
    sym (no_place o.order lawful (places_of m before) before.values k whole.long whole.proper.distinct e.absent e.none_empty)
