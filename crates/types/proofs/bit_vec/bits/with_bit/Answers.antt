use Rattle.std.proofs.Common.{◌≡◌, Bool, false, not, set, sym, ap, ◌∙◌, arith}
use mathlib.Core.Bool.{beq}
use lib.Bits.{bit_xor}
use Rattle.std.proofs.lemmas.Nat.{one_shl}
use Rattle.std.specs.Cmp.{booleans_Decides}
use Rattle.types.specs.Bits.{low_bits}
use Rattle.types.proofs.BitLists.{low_bits_kept, low_bits-turned, odd_is}
use Rattle.types.proofs.bit_vec.bits.with_bit.Goals as goal

turned : (old bit : Bool) → beq old bit ≡ false → not old ≡ bit
turned old bit e = grind arith

pub returns-then-old-bit : goal.returns-then-old-bit
returns-then-old-bit c =
    low_bits_kept c.args.byte c.args.k c.args.bit c.requires (sym (odd_is _) ∙ (booleans_Decides _ _).0 c.if-old-bit.true)

pub returns-else-old-bit : goal.returns-else-old-bit
returns-else-old-bit c =
    ap (λ x. low_bits 8 (bit_xor c.args.byte x)) (one_shl c.args.k 8 c.requires)
    ∙ low_bits-turned 8 c.args.byte c.args.k c.requires
    ∙ ap (λ b. set (low_bits 8 c.args.byte) c.args.k b) (ap not (sym (odd_is _)) ∙ turned _ _ c.if-old-bit.false)
