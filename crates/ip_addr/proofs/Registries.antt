-- What the chains over a registry answer.
use Rattle.std.proofs.Common.{◌≡◌, ℕ, ◌/◌, ◌^◌, ◌<◌, ◌≤◌, eqb, leb, List, [], ◌∷◌, Some, None, Option, sym, refl, ap, ◌∙◌, arith, pow_mono}
use native.Mathlib.Nat.{div-eq_of_lt}
use Rattle.std.specs.List.{fold, reduce}
use Rattle.std.proofs.lemmas.Bool.{le-leb, eq-eqb}
use Rattle.std.proofs.lemmas.Bool.Decides.{nat_tests}
use Rattle.ip_addr.specs.declared.block.Block.{Block}
use Rattle.ip_addr.specs.Registry.{or_longer, longest}

-- Where a prefix leaves 128 bits or more, no bit has to agree.
pub all_agree : (rest base address : ℕ) → 128 ≤ rest → base < 2 ^ 128 → address < 2 ^ 128 → leb 128 rest ≡ eqb (address / 2 ^ rest) (base / 2 ^ rest)
all_agree rest base address far b a =
    let large : 2 ^ 128 ≤ 2 ^ rest = pow_mono far in
    let p : address / 2 ^ rest ≡ 0 = div-eq_of_lt (omega arith) in
    let q : base / 2 ^ rest ≡ 0 = div-eq_of_lt (omega arith) in
    le-leb 128 rest far ∙ sym (eq-eqb (address / 2 ^ rest) (base / 2 ^ rest) (p ∙ sym q))

-- the block with the longest prefix, taken from the front

longer_again : (a b c : Block) → or_longer (or_longer a (Some b)) (Some c) ≡ or_longer a (Some (or_longer b (Some c)))
longer_again a b c = grind (arith, nat_tests)

longer_then : (a b : Block) (r : Option Block) → or_longer (or_longer a (Some b)) r ≡ or_longer a (Some (or_longer b r))
longer_then a b None = refl
longer_then a b (Some c) = longer_again a b c

longest_from : (a : Block) (bs : List Block) → fold (λ best b. or_longer best (Some b)) a bs ≡ or_longer a (longest bs)
longest_from a [] = refl
longest_from a (b ∷ bs) = longest_from (or_longer a (Some b)) bs ∙ longer_then a b (longest bs)

pub longest_is : (bs : List Block) → longest bs ≡ reduce (λ best b. or_longer best (Some b)) bs
longest_is [] = refl
longest_is (b ∷ bs) = ap Some (sym (longest_from b bs))
