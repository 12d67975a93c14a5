-- The slots of a hashed roll, and the places that they are.
use Rattle.std.specs.Prelude.{◌≡◌, ℕ, Bool, true, false, List, map, Some, None, Option, slice_index_or}
use Rattle.hashed_roll.specs.declared.slot.Slot.{Slot}
use Rattle.hashed_roll.specs.declared.slot.Slot.TheVariants.{Unused, Struck, Held}

module _ {K : Type 0} where
  -- the place that a slot is: one with its key, or an empty one
  abbrev pub place_of : Slot K → Option K
  place_of Unused = None
  place_of Struck = None
  place_of (Held k) = Some k

  abbrev pub places_of : List (Slot K) → List (Option K)
  places_of slots = map place_of slots

  -- the slot with a number; a number past the end is taken as an unused slot
  abbrev pub slot_at : List (Slot K) → ℕ → Slot K
  slot_at slots p = slice_index_or slots p Unused

  -- whether no key stands in the slot
  abbrev pub is_empty : Slot K → Bool
  is_empty Unused = true
  is_empty Struck = true
  is_empty (Held k) = false

  -- whether no key has stood in the slot yet
  abbrev pub is_unused : Slot K → Bool
  is_unused Unused = true
  is_unused Struck = false
  is_unused (Held k) = false

  -- that the answer says whether the key stands in the slot
  abbrev pub Has : Slot K → K → Bool → Type 0
  Has slot k true = slot ≡ Held k
  Has slot k false = slot ≡ Held k → ⊥
