-- The hash FNV-1a at 64 bits, as Fowler, Noll and Vo define it.
use Rattle.std.specs.Prelude.{◌≡◌, ℕ, ◌*◌, ◌%◌, ◌^◌, ◌<◌, List, [], ◌∷◌, bit_xor}

-- one byte more: mixed into the low bits, then spread by the prime 2^40 + 2^8 + 0xb3
abbrev pub fnv_step : ℕ → ℕ → ℕ
fnv_step hash byte = bit_xor hash byte * 0x100_0000_01b3 % 2 ^ 64

abbrev pub fnv_from : ℕ → List ℕ → ℕ
fnv_from hash [] = hash
fnv_from hash (b ∷ bs) = fnv_from (fnv_step hash b) bs

-- the hash of a list of bytes, from the offset basis on
abbrev pub fnv_1a : List ℕ → ℕ
fnv_1a bytes = fnv_from 0xcbf2_9ce4_8422_2325 bytes

-- what a hash owes: it is a 64-bit number, and equal keys have equal hashes
pub record Hashing {K : Type 0} (hashed : K → ℕ) : Type 0 where
  pub small : (k : K) → hashed k < 2 ^ 64
  pub agrees : (a b : K) → a ≡ b → hashed a ≡ hashed b
