-- The number that octets write, the highest first.
use Rattle.std.proofs.Common.{◌≡◌, ℕ, zero, suc, ◌+◌, ◌-◌, ◌*◌, ◌^◌, ◌<◌, ◌≤◌, List, length, get_or, take, sym, refl, ap, ◌∙◌, arith}
use Rattle.std.proofs.Math.Nat.{pow-succ', mul-one}
use Rattle.std.specs.Int.{w32, w128, byte_worth, sum_through, from_be_bytes}
use Rattle.std.specs.Int.Digits.{number_from_digits}
use Rattle.std.proofs.lemmas.Int.Digits.{number_more}
use Rattle.std.proofs.lemmas.List.{take_all}

byte_worth-is : (k b : ℕ) → byte_worth k b ≡ b * 256 ^ k
byte_worth-is zero b = sym (mul-one b)
byte_worth-is (suc k) b = refl

one_more : (n g p : ℕ) {front worth q m : ℕ} → front ≡ n * q → worth ≡ g * p → q ≡ 256 * p → m ≡ n * 256 + g → front + worth ≡ m * p
one_more n g p e f h k = let r : n * (256 * p) + g * p ≡ (n * 256 + g) * p = omega arith in cc

-- what the first octets are worth, where the last one is worth itself
first_octets : (ds : List ℕ) (last i : ℕ) → last < length ds → i ≤ last → sum_through (λ k. byte_worth (last - k) (get_or ds k 0)) i ≡ number_from_digits 256 (take (i + 1) ds) * 256 ^ (last - i)
first_octets ds last zero h few =
    let n : get_or ds 0 0 ≡ number_from_digits 256 (take (0 + 1) ds) = omega (arith, number_more 256 ds 0 (omega arith)) in
    byte_worth-is (last - 0) (get_or ds 0 0) ∙ ap (λ x. x * 256 ^ (last - 0)) n
first_octets ds last (suc i) h few =
    let k : suc i ≡ i + 1 = omega arith in
    let j : last - i ≡ suc (last - suc i) = omega arith in
    let g = get_or ds (suc i) 0 in
    one_more (number_from_digits 256 (take (i + 1) ds)) g (256 ^ (last - suc i))
    (first_octets ds last i h (omega arith))
    (byte_worth-is (last - suc i) g)
    (ap (λ m. 256 ^ m) j ∙ pow-succ' 256 (last - suc i))
    (number_more 256 ds (suc i) (omega arith) ∙ ap (λ m. number_from_digits 256 (take m ds) * 256 + g) k)

number_from_be : (ds : List ℕ) (last : ℕ) → length ds ≡ suc last → sum_through (λ k. byte_worth (last - k) (get_or ds k 0)) last ≡ number_from_digits 256 ds
number_from_be ds last whole =
    let first = first_octets ds last last (omega arith) (omega arith) in
    let all = take_all (last + 1) ds (omega arith) in
    let one : last - last ≡ 0 = omega arith in
    first ∙ ap (λ k. number_from_digits 256 (take (last + 1) ds) * 256 ^ k) one ∙ mul-one _ ∙ ap (number_from_digits 256) all

pub number_of_4 : (ds : List ℕ) → length ds ≡ 4 → number_from_digits 256 ds ≡ from_be_bytes w32 ds
number_of_4 ds whole = sym (number_from_be ds 3 whole)

pub number_of_16 : (ds : List ℕ) → length ds ≡ 16 → number_from_digits 256 ds ≡ from_be_bytes w128 ds
number_of_16 ds whole = sym (number_from_be ds 15 whole)
