-- Lists of slots: the places that they are, and what a write leaves.
use Rattle.std.specs.Prelude.{◌≡◌, ℕ, zero, suc, ◌<◌, ◌≤◌, Bool, true, false, ◌⊎◌, List, [], ◌∷◌, length, replicate, Some, None, slice_index_or, slice_set, refl}
use Rattle.std.proofs.Common.{sym, ◌∙◌, ap, subst, ⊎_elim, arith}
use Rattle.std.proofs.lemmas.List.{get_or_read, get_or_past, length-map, length-set, length-replicate, map-set, set_past}
use Rattle.keys.specs.Orders.{never}
use Rattle.rolls.specs.Places.{at, Distinct, Proper, RightSize}
use Rattle.rolls.proofs.Tables.{get_or-after_set, distinct_strike, distinct_enter, distinct-vacant}
use Rattle.hashed_roll.specs.Slots.{place_of, places_of, slot_at, is_empty, is_unused}
use Rattle.hashed_roll.specs.Probing.{Reached, Sound, AllUnused, FirstEmpty, Suits}
use Rattle.hashed_roll.specs.declared.slot.Slot.{Slot}
use Rattle.hashed_roll.specs.declared.slot.Slot.TheVariants.{Unused, Struck, Held}

module _ {K : Type 0} where
  -- a slot, and the place that it is

  held_from_some : (s : Slot K) (k : K) → place_of s ≡ Some k → s ≡ Held k
  held_from_some Unused k e = never (cc)
  held_from_some Struck k e = never (cc)
  held_from_some (Held j) k e = let s : j ≡ k = cc in ap Held s

  none_from_empty : (s : Slot K) → is_empty s ≡ true → place_of s ≡ None
  none_from_empty Unused e = refl
  none_from_empty Struck e = refl
  none_from_empty (Held j) e = never (cc)

  pub some_from_full : {X : Type 0} (s : Slot K) → is_empty s ≡ false → place_of s ≡ None → X
  some_from_full Unused e n = never (cc)
  some_from_full Struck e n = never (cc)
  some_from_full (Held j) e n = never (cc)

  pub used_from_full : (s : Slot K) → is_empty s ≡ false → is_unused s ≡ false
  used_from_full Unused e = never (cc)
  used_from_full Struck e = refl
  used_from_full (Held j) e = refl

  -- lists of them

  pub at_places : (slots : List (Slot K)) (p : ℕ) → at (places_of slots) p ≡ place_of (slot_at slots p)
  at_places [] p = refl
  at_places (s ∷ slots) zero = refl
  at_places (s ∷ slots) (suc p) = at_places slots p

  pub held_at : (slots : List (Slot K)) (p : ℕ) (k : K) → at (places_of slots) p ≡ Some k → slot_at slots p ≡ Held k
  held_at slots p k e = held_from_some (slot_at slots p) k (sym (at_places slots p) ∙ e)

  pub some_at : (slots : List (Slot K)) (p : ℕ) (k : K) → slot_at slots p ≡ Held k → at (places_of slots) p ≡ Some k
  some_at slots p k e = at_places slots p ∙ ap place_of e

  pub empty-at : (slots : List (Slot K)) (p : ℕ) → is_empty (slot_at slots p) ≡ true → at (places_of slots) p ≡ None
  empty-at slots p e = at_places slots p ∙ none_from_empty (slot_at slots p) e

  pub full_at : {X : Type 0} (slots : List (Slot K)) (p : ℕ) → is_empty (slot_at slots p) ≡ false → at (places_of slots) p ≡ None → X
  full_at slots p e n = some_from_full (slot_at slots p) e (sym (at_places slots p) ∙ n)

  -- a slot as it was read
  pub slot_read : (slots : List (Slot K)) (p : ℕ) (s : Slot K) → p < length slots → s ≡ slice_index_or slots p s → s ≡ slot_at slots p
  slot_read slots p s h e = get_or_read slots p s h e Unused

  pub slot_past : (slots : List (Slot K)) (p : ℕ) → length slots ≤ p → Unused ≡ slot_at slots p
  slot_past slots p h = sym (get_or_past slots p Unused h)

  pub place_there : (slots : List (Slot K)) (p : ℕ) (s : Slot K) → s ≡ slot_at slots p → place_of s ≡ at (places_of slots) p
  place_there slots p s e = ap place_of e ∙ sym (at_places slots p)

  -- a test of a slot tells of what the slot is
  pub told : (f : Slot K → Bool) (s t : Slot K) (b : Bool) → s ≡ t → b ≡ f s → f t ≡ b
  told f s t b e h = ap f (sym e) ∙ sym h

  -- what a slot is after a write at i: what was written, at i, or what it was
  slot_after-set : (slots : List (Slot K)) (i p : ℕ) (v : Slot K) → (slot_at (slice_set slots i v) p ≡ slot_at slots p) ⊎ ((p ≡ i) × (slot_at (slice_set slots i v) p ≡ v))
  slot_after-set slots i p v = get_or-after_set slots i p v Unused

  used-set : (slots : List (Slot K)) (i : ℕ) (v : Slot K) (p : ℕ) → is_unused v ≡ false → is_unused (slot_at slots p) ≡ false → is_unused (slot_at (slice_set slots i v) p) ≡ false
  used-set slots i v p u h = ⊎_elim (λ e. ap is_unused e ∙ h) (λ e. ap is_unused e.1 ∙ u) (slot_after-set slots i p v)

  -- sound slots

  pub sound-proper : (hashed : K → ℕ) (slots : List (Slot K)) → Sound hashed slots → Proper (places_of slots)
  sound-proper hashed slots s =
      let n = length-map slots place_of in
      record { some = omega (arith, s.some); few = omega (arith, s.few); distinct = s.distinct }

  reached-set : (hashed : K → ℕ) (n : ℕ) (slots : List (Slot K)) (k : K) (p i : ℕ) (v : Slot K) → is_unused v ≡ false → Reached hashed n slots k p → Reached hashed n (slice_set slots i v) k p
  reached-set hashed n slots k p i v u r =
      record { distance = r.distance; near = r.near; there = r.there; used = λ d h. used-set slots i v _ u (r.used d h) }

  -- A write keeps slots sound if it leaves no slot unused and no key twice, and puts a key only
  -- where it can be reached.
  sound-set : (hashed : K → ℕ) (slots : List (Slot K)) (i : ℕ) (v : Slot K) → is_unused v ≡ false → Distinct (slice_set (places_of slots) i (place_of v)) → ((k : K) → v ≡ Held k → Reached hashed (length slots) slots k i) → Sound hashed slots → Sound hashed (slice_set slots i v)
  sound-set hashed slots i v u d r s =
      let n = length-set slots i v in
      record {
        some = omega (arith, s.some);
        few = omega (arith, s.few);
        distinct = subst Distinct (sym (map-set place_of slots i v)) d;
        reached = λ p k e. subst (λ m. Reached hashed m (slice_set slots i v) k p) (sym n) (reached-set hashed (length slots) slots k p i v u (⊎_elim (λ a. s.reached p k (sym a ∙ e)) (λ a. subst (λ q. Reached hashed (length slots) slots k q) (sym a.0) (r k (sym a.1 ∙ e))) (slot_after-set slots i p v)));
      }

  -- the first empty slot can be reached
  empty-reached : (hashed : K → ℕ) (slots : List (Slot K)) (k : K) (p : ℕ) → FirstEmpty hashed slots k p → Reached hashed (length slots) slots k p
  empty-reached hashed slots k p v =
      record { distance = v.distance; near = v.near; there = v.there; used = λ d l. used_from_full _ (v.first d l) }

  pub sound-put : (hashed : K → ℕ) (slots : List (Slot K)) (i : ℕ) (v : Slot K) → Sound hashed slots → Suits hashed slots i v → Sound hashed (slice_set slots i v)
  sound-put hashed slots i Unused s u = absurd u
  sound-put hashed slots i Struck s u =
      sound-set hashed slots i Struck refl (distinct_strike (places_of slots) i s.distinct) (λ k e. never (cc)) s
  sound-put hashed slots i (Held k) s u =
      sound-set hashed slots i (Held k) refl (distinct_enter (places_of slots) i k u.0 s.distinct)
      (λ j e. let same : k ≡ j = cc in subst (λ x. Reached hashed (length slots) slots x i) same (empty-reached hashed slots k i u.1)) s

  pub places-put : (slots : List (Slot K)) (i : ℕ) (v : Slot K) → places_of (slice_set slots i v) ≡ slice_set (places_of slots) i (place_of v)
  places-put slots i v = map-set place_of slots i v

  -- past the end nothing is put
  pub places_past : (slots : List (Slot K)) (i : ℕ) (v : Slot K) → length slots ≤ i → places_of slots ≡ slice_set (places_of slots) i (place_of v)
  places_past slots i v h = sym (set_past (places_of slots) i (place_of v) (omega (arith, length-map slots place_of)))

  -- new slots

  slot_at_new : (n p : ℕ) → slot_at {K = K} (replicate n Unused) p ≡ Unused
  slot_at_new zero p = refl
  slot_at_new (suc n) zero = refl
  slot_at_new (suc n) (suc p) = slot_at_new n p

  pub places_of_new : (n : ℕ) → places_of {K = K} (replicate n Unused) ≡ replicate n None
  places_of_new zero = refl
  places_of_new (suc n) = ap (λ ps. None ∷ ps) (places_of_new n)

  sound_new : (hashed : K → ℕ) (n : ℕ) → RightSize n → Sound hashed (replicate n Unused)
  sound_new hashed n right =
      let m = length-replicate {A = Slot K} n Unused in
      record {
        some = omega arith;
        few = omega arith;
        distinct = subst Distinct (sym (places_of_new n)) (distinct-vacant n);
        reached = λ p k e. let u = slot_at_new n p in never (cc);
      }

  pub all_unused : (hashed : K → ℕ) (slots : List (Slot K)) (n size : ℕ) → slots ≡ replicate n Unused → n ≡ size → AllUnused hashed size slots
  all_unused hashed slots n size e m =
      let new : slots ≡ replicate size Unused = e ∙ ap (λ x. replicate x Unused) m in
      record { empty = ap places_of new ∙ places_of_new size; sound = λ right. subst (Sound hashed) (sym new) (sound_new hashed size right) }
