-- Bit vectors as lists of bits.
use Rattle.std.specs.Prelude.{◌≡◌, ℕ, zero, suc, ◌/◌, ◌%◌, Bool, false, List, [], ◌∷◌, ◌++◌, take, drop, replicate, Some, None, Option, ◌==◌, slice_set}
use Rattle.types.specs.declared.bit_vec.BitVec.{BitVec}

-- whether a number is odd
abbrev pub odd : ℕ → Bool
odd n = n % 2 == 1

-- the lowest bits of a number, as many as the width says, the lowest first
abbrev pub low_bits : ℕ → ℕ → List Bool
low_bits zero n = []
low_bits (suc width) n = odd n ∷ low_bits width (n / 2)

-- all bits of a list of bytes: eight of each byte, that of weight 1 first
abbrev pub bits_of : List ℕ → List Bool
bits_of [] = []
bits_of (b ∷ bs) = low_bits 8 b ++ bits_of bs

-- the bits that a vector has: as many as it claims, and at most those of its bytes
abbrev pub bits : BitVec → List Bool
bits v = take v.len (bits_of v.bytes)

-- the bits behind those
abbrev pub spare_bits : BitVec → List Bool
spare_bits v = drop v.len (bits_of v.bytes)

-- the bit at an index, or none past the last
abbrev pub bit_at : List Bool → ℕ → Option Bool
bit_at [] i = None
bit_at (b ∷ bs) zero = Some b
bit_at (b ∷ bs) (suc i) = bit_at bs i

-- a vector for so many bits, all of them and all spare ones 0
pub record Blank (index len : ℕ) (v : BitVec) : Type 0 where
  pub same_index : v.index ≡ index
  pub same_len : v.len ≡ len
  pub all_zero : bits_of v.bytes ≡ replicate 64 false

-- One bit written: that bit is now as given, past the last bit none is; no other bit changes, spare
-- ones neither, nor the index or the number of bits.
pub record Written (before after : BitVec) (i : ℕ) (bit : Bool) : Type 0 where
  pub same_index : after.index ≡ before.index
  pub same_len : after.len ≡ before.len
  pub now_bits : bits after ≡ slice_set (bits before) i bit
  pub same_spare : spare_bits after ≡ spare_bits before
