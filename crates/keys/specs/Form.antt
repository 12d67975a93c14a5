-- The byte form of a key: what it has to meet, how it is written, and the big-endian form of a number.
use Rattle.std.specs.Prelude.{◌≡◌, ℕ, zero, suc, ◌+◌, ◌/◌, ◌%◌, ◌^◌, ◌≤◌, Bool, cond, List, [], ◌∷◌, ◌++◌, length, take, drop, Some, None, Option, nat_le}

-- What a kind of key owes of its byte form: every form has the same number of bytes, 1 to 64;
-- no two keys share a form; a form reads as its key, and nothing else does.
pub record Formed {K : Type 0} (size : ℕ) (form : K → List ℕ) (reading : List ℕ → Option K) : Type 0 where
  pub some_bytes : 1 ≤ size
  pub few_bytes : size ≤ 64
  pub sized : (k : K) → length (form k) ≡ size
  pub apart : (j k : K) → form j ≡ form k → j ≡ k
  pub reads_back : (k : K) → reading (form k) ≡ Some k
  pub reads_only : (bytes : List ℕ) (k : K) → reading bytes ≡ Some k → form k ≡ bytes

-- whether bytes fit into a list from a place on
abbrev pub fits : List ℕ → ℕ → List ℕ → Bool
fits out at bytes = nat_le (at + length bytes) (length out)

-- a list with bytes put over what stood from a place on, or as it was where they do not fit
abbrev pub written : List ℕ → ℕ → List ℕ → List ℕ
written out at bytes = cond (fits out at bytes) (take at out ++ (bytes ++ drop (at + length bytes) out)) out

-- the place behind bytes that were written, or none where they did not fit
abbrev pub written_end : List ℕ → ℕ → List ℕ → Option ℕ
written_end out at bytes = cond (fits out at bytes) (Some (at + length bytes)) None

-- the lowest bytes of a number, as many as the width says, the highest first
abbrev pub big_endian : ℕ → ℕ → List ℕ
big_endian zero n = []
big_endian (suc width) n = n / 256 ^ width % 256 ∷ big_endian width n
