-- A sorted roll keeps, beside its places, those that have keys in the order of their keys. The
-- index of a place in that order is its rank.
use Rattle.std.specs.Prelude.{◌≡◌, ℕ, ◌<◌, ◌≤◌, Bool, true, false, List, length, Some, None, Option, ◌≢◌, slice_index_or}
use Rattle.std.specs.declared.cmp.Ordering.TheVariants.{Less}
use Rattle.std.specs.declared.cmp.Ordering.{Ordering}
use Rattle.keys.specs.Order.{is_less}
use Rattle.rolls.specs.Places.{at, occupied, NoneEmpty}

-- what a sorted roll keeps: what each place has, the places that have keys in the order of their
-- keys, and for how many of them there is room
pub record Kept (K : Type 0) : Type 0 where
  pub places : List (Option K)
  pub ranks : List ℕ
  pub room : ℕ

module _ {K : Type 0} where
  -- the place of a rank; past the last rank a number past the last place
  abbrev pub place_of : List (Option K) → List ℕ → ℕ → ℕ
  place_of places ranks i = slice_index_or ranks i (length places)

  -- the key of a rank, and none past the last rank
  abbrev pub key_of : List (Option K) → List ℕ → ℕ → Option K
  key_of places ranks i = at places (place_of places ranks i)

  -- an empty place, or none if no place is empty
  abbrev pub Vacancy : List (Option K) → Option ℕ → Type 0
  Vacancy places None = NoneEmpty places
  Vacancy places (Some p) = (p < length places) × (at places p ≡ None)

module _ {K : Type 0} (order : K → K → Ordering) where
  -- What makes a sorted roll sound: it has 1 to 64 places; every rank has a key, and the keys
  -- ascend with the ranks; every place that has a key has a rank; there are as many ranks as
  -- places with keys, and room for one for each place.
  pub record Ranked (places : List (Option K)) (ranks : List ℕ) (room : ℕ) : Type 0 where
    pub some : 1 ≤ length places
    pub few : length places ≤ 64
    pub held : (i : ℕ) → i < length ranks → key_of places ranks i ≢ None
    pub ascends : (i j : ℕ) (a b : K) → i < j → key_of places ranks i ≡ Some a → key_of places ranks j ≡ Some b → order a b ≡ Less
    pub listed : (p : ℕ) (k : K) → at places p ≡ Some k → (i : ℕ) × (i < length ranks) × (place_of places ranks i ≡ p)
    pub counted : length ranks ≡ occupied places
    pub roomy : length places ≤ room

  -- whether what a rank has is a key below the given one
  abbrev pub below : Option K → K → Bool
  below None key = false
  below (Some held) key = is_less (order held key)

  -- What bisection finds: the rank at which the key stands or would stand. Every key of a rank
  -- before it is below the key, and no key from it on is.
  pub record Located (places : List (Option K)) (ranks : List ℕ) (key : K) (rank : ℕ) : Type 0 where
    pub last : rank ≤ length ranks
    pub before : (i : ℕ) → i < rank → below (key_of places ranks i) key ≡ true
    pub from : (i : ℕ) → rank ≤ i → below (key_of places ranks i) key ≡ false

  -- what a sorted roll keeps, where it agrees
  abbrev pub Sound : Kept K → Type 0
  Sound roll = Ranked roll.places roll.ranks roll.room

  -- the rank of a key in a roll
  abbrev pub RankIn : Kept K → K → ℕ → Type 0
  RankIn roll key rank = Located roll.places roll.ranks key rank

  -- the place has a key, and the rank is that key's
  abbrev pub HasRank : Kept K → ℕ → ℕ → Type 0
  HasRank roll rank place = (key : K) × (at roll.places place ≡ Some key) × RankIn roll key rank
