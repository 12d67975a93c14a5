-- Where a key stands among keys, and lists of pairs.
use Rattle.std.specs.Prelude.{◌≡◌, ℕ, ◌<◌, Bool, true, false, List, length, Some, None, Option, ◌≢◌}
use Rattle.std.specs.declared.cmp.Ordering.{Ordering}
use Rattle.std.specs.List.{position_from, slice_get, zip}
use Rattle.keys.specs.Order.{is_equal}

module _ {K : Type 0} where
  -- the key at an index, or none past the last
  abbrev pub key_at : List K → ℕ → Option K
  key_at ks i = slice_get ks i

  -- the key stands at no index
  abbrev pub Absent : List K → K → Type 0
  Absent ks key = (i : ℕ) → key_at ks i ≢ Some key

  -- what a look for a key answers: an index at which it stands, or none exactly if it is absent
  abbrev pub Found : List K → K → Option ℕ → Type 0
  Found ks key None = Absent ks key
  Found ks key (Some i) = (i < length ks) × (key_at ks i ≡ Some key)

  -- the answer whether a key is there
  abbrev pub Held : List K → K → Bool → Type 0
  Held ks key true = (i : ℕ) × (key_at ks i ≡ Some key)
  Held ks key false = Absent ks key

-- two lists as one list of pairs, as long as the shorter
abbrev pub paired : {X Y : Type 0} → List X → List Y → List (X × Y)
paired xs ys = zip xs ys

-- the index of the first key that is equal to the given one, where the list's first key has the
-- index i
abbrev pub place_of : {K : Type 0} → (K → K → Ordering) → K → ℕ → List K → Option ℕ
place_of order key i ks = position_from (λ k. is_equal (order k key)) i ks
