-- Keys in the first places of a row.
use Rattle.std.specs.Prelude.{ℕ, suc, List, [], ◌∷◌, Some, None, Option}

module _ {K : Type 0} where
  -- the keys up to the first empty place
  abbrev pub keys_of : List (Option K) → List K
  keys_of [] = []
  keys_of (None ∷ places) = []
  keys_of (Some k ∷ places) = k ∷ keys_of places

  -- how many places have a key
  abbrev pub taken : List (Option K) → ℕ
  taken [] = 0
  taken (None ∷ places) = taken places
  taken (Some k ∷ places) = suc (taken places)
