-- How keys are found: by a walk round the slots that begins at the key's home.
use Rattle.std.specs.Prelude.{◌≡◌, ℕ, ◌+◌, ◌-◌, ◌%◌, ◌<◌, ◌≤◌, false, cond, List, length, replicate, Some, None, Option, nat_lt}
use Rattle.rolls.specs.Places.{at, Absent, Distinct, NoneEmpty, RightSize}
use Rattle.hashed_roll.specs.Slots.{places_of, slot_at, is_empty, is_unused}
use Rattle.hashed_roll.specs.declared.slot.Slot.{Slot}
use Rattle.hashed_roll.specs.declared.slot.Slot.TheVariants.{Unused, Struck, Held}

-- the slot at a distance from a first one: so many slots further, where the first follows the last
abbrev pub around : ℕ → ℕ → ℕ → ℕ
around size first distance = cond (nat_lt (first + distance) size) (first + distance) (first + distance - size)

module _ {K : Type 0} where
  -- the home of a key is the slot that its hash names among so many
  abbrev pub home_of : (K → ℕ) → ℕ → K → ℕ
  home_of hashed size k = hashed k % size

  -- the slot at a distance from a key's home
  abbrev pub from_home : (K → ℕ) → ℕ → K → ℕ → ℕ
  from_home hashed size k distance = around size (home_of hashed size k) distance

  -- A slot can be reached for a key: it lies at some distance from the key's home, and no slot on
  -- the way there is unused, so that a lookup does not end before it.
  pub record Reached (hashed : K → ℕ) (size : ℕ) (slots : List (Slot K)) (k : K) (p : ℕ) : Type 0 where
    pub distance : ℕ
    pub near : distance < size
    pub there : p ≡ from_home hashed size k distance
    pub used : (d : ℕ) → d < distance → is_unused (slot_at slots (from_home hashed size k d)) ≡ false

  -- what holds of the slots of a sound roll: there are 1 to 64, no key is there twice, and each key
  -- stands in a slot that can be reached for it
  pub record Sound (hashed : K → ℕ) (slots : List (Slot K)) : Type 0 where
    pub some : 1 ≤ length slots
    pub few : length slots ≤ 64
    pub distinct : Distinct (places_of slots)
    pub reached : (p : ℕ) (k : K) → slot_at slots p ≡ Held k → Reached hashed (length slots) slots k p

  -- so many slots of a new roll: all are empty, and sound if their number is one that a roll can have
  pub record AllUnused (hashed : K → ℕ) (size : ℕ) (slots : List (Slot K)) : Type 0 where
    pub empty : places_of slots ≡ replicate size None
    pub sound : RightSize size → Sound hashed slots

  -- the slot is empty, and the first such on the way round from the key's home
  pub record FirstEmpty (hashed : K → ℕ) (slots : List (Slot K)) (k : K) (p : ℕ) : Type 0 where
    pub within : p < length (places_of slots)
    pub empty : at (places_of slots) p ≡ None
    pub distance : ℕ
    pub near : distance < length slots
    pub there : p ≡ from_home hashed (length slots) k distance
    pub first : (d : ℕ) → d < distance → is_empty (slot_at slots (from_home hashed (length slots) k d)) ≡ false

  -- what the lookup of an empty slot answers: the first, or none exactly if there is none
  abbrev pub Vacancy : (K → ℕ) → List (Slot K) → K → Option ℕ → Type 0
  Vacancy hashed slots k None = NoneEmpty (places_of slots)
  Vacancy hashed slots k (Some p) = FirstEmpty hashed slots k p

  -- What can be put into a slot so that a sound roll stays sound. No slot gets unused again, any can
  -- be struck, and a key comes in only if it is absent, into the first empty slot.
  abbrev pub Suits : (K → ℕ) → List (Slot K) → ℕ → Slot K → Type 0
  Suits hashed slots p Unused = ⊥
  Suits hashed slots p Struck = Unit {0}
  Suits hashed slots p (Held k) = Absent (places_of slots) k × FirstEmpty hashed slots k p
