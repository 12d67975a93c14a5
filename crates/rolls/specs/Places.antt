-- What a roll means: a list of places, each empty or with a key.
use Rattle.std.specs.Prelude.{◌≡◌, ℕ, suc, ◌<◌, ◌≤◌, ◌⊎◌, List, [], ◌∷◌, length, replicate, Some, None, Ok, Err, Option, Result, ◌≢◌, slice_index_or, slice_set}
use Rattle.rolls.specs.declared.fault.RollFault.{RollFault}
use Rattle.rolls.specs.declared.fault.RollFault.TheVariants.{Full, Vacant, BadSize, OutOfMemory}

module _ {K : Type 0} where
  -- what a place has; a number past the end is taken as an empty place
  abbrev pub at : List (Option K) → ℕ → Option K
  at places p = slice_index_or places p None

  -- no place has the key
  abbrev pub Absent : List (Option K) → K → Type 0
  Absent places k = (p : ℕ) → at places p ≢ Some k

  -- no key is there twice
  abbrev pub Distinct : List (Option K) → Type 0
  Distinct places = (p q : ℕ) (k : K) → at places p ≡ Some k → at places q ≡ Some k → p ≡ q

  -- no place is empty
  abbrev pub NoneEmpty : List (Option K) → Type 0
  NoneEmpty places = (p : ℕ) → p < length places → at places p ≢ None

  -- how many places have a key
  abbrev pub occupied : List (Option K) → ℕ
  occupied [] = 0
  occupied (None ∷ places) = occupied places
  occupied (Some k ∷ places) = suc (occupied places)

  -- what holds of the places of every sound roll: there are 1 to 64, and no key is there twice
  pub record Proper (places : List (Option K)) : Type 0 where
    pub some : 1 ≤ length places
    pub few : length places ≤ 64
    pub distinct : Distinct places

  -- what `find` answers: the place that has the key, or none exactly if the key is absent
  abbrev pub Found : List (Option K) → K → Option ℕ → Type 0
  Found places k None = Absent places k
  Found places k (Some p) = (p < length places) × (at places p ≡ Some k)

  -- the key stood at the place already, and nothing changes
  pub record Stood (before after : List (Option K)) (k : K) (p : ℕ) : Type 0 where
    pub within : p < length before
    pub held : at before p ≡ Some k
    pub same : after ≡ before

  -- The key was absent and has taken the place, which was empty; no other place changes.
  -- Which of the empty places it takes is open: that is the roll's choice.
  pub record Took (before after : List (Option K)) (k : K) (p : ℕ) : Type 0 where
    pub absent : Absent before k
    pub within : p < length before
    pub empty : at before p ≡ None
    pub set_there : after ≡ slice_set before p (Some k)

  -- the key is absent and no place is empty, and nothing changes
  pub record NoRoom (before after : List (Option K)) (k : K) (fault : RollFault) : Type 0 where
    pub is : fault ≡ Full
    pub absent : Absent before k
    pub none_empty : NoneEmpty before
    pub same : after ≡ before

  -- what `enter` answers, and what it leaves
  abbrev pub Entered : List (Option K) → List (Option K) → K → Result ℕ RollFault → Type 0
  Entered before after k (Ok p) = Stood before after k p ⊎ Took before after k p
  Entered before after k (Err fault) = NoRoom before after k fault

  -- the place had a key and has none now; no other place changes
  pub record Emptied (before after : List (Option K)) (p : ℕ) : Type 0 where
    pub held : at before p ≡ None → ⊥
    pub set_there : after ≡ slice_set before p None

  -- the place was empty already, and nothing changes
  pub record WasVacant (before after : List (Option K)) (p : ℕ) (fault : RollFault) : Type 0 where
    pub is : fault ≡ Vacant
    pub empty : at before p ≡ None
    pub same : after ≡ before

  -- what `strike` answers, and what it leaves
  abbrev pub Struck : List (Option K) → List (Option K) → ℕ → Result (Unit {0}) RollFault → Type 0
  Struck before after p (Ok done) = Emptied before after p
  Struck before after p (Err fault) = WasVacant before after p fault

-- the sizes that a roll can have
abbrev pub RightSize : ℕ → Type 0
RightSize size = (1 ≤ size) × (size ≤ 64)

-- What a maker answers of a size: a sound roll with that many empty places where the size is right,
-- 22 exactly if it is not. Want of memory is open: it can come at any size that is right.
abbrev pub Made : {R K : Type 0} → (R → Type 0) → (R → List (Option K)) → ℕ → Result R RollFault → Type 0
Made sound places size (Ok roll) = RightSize size × sound roll × (places roll ≡ replicate size None)
Made sound places size (Err Full) = ⊥
Made sound places size (Err Vacant) = ⊥
Made sound places size (Err BadSize) = RightSize size → ⊥
Made sound places size (Err OutOfMemory) = RightSize size
