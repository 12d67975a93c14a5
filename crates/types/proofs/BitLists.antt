-- Bits of numbers, of lists of bytes and of bit vectors.
use Rattle.std.proofs.Common.{◌≡◌, ℕ, zero, suc, ◌+◌, ◌-◌, ◌*◌, ◌/◌, ◌%◌, ◌^◌, ◌<◌, ◌≤◌, min, Bool, false, cond, not, eqb, ltb, List, [], ◌∷◌, ◌++◌, length, get_or, take, drop, set, Some, None, sym, refl, ap, ◌∙◌, ⊎_elim, div-one, arith}
use Prim.Native.Nat.{differ}
use native.Mathlib.Nat.{pow-succ', div-div-eq-div-mul}
use lib.Bits.{bit_and, bit_xor, xor_step, xor_zero_r}
use Rattle.std.proofs.lemmas.Nat.{and_mask}
use Rattle.std.proofs.lemmas.List.{length-append, get_or_append_left, get_or-append_right, set-append_left, set-append_right, get_or-take, length-take, set-get_or, set_past, drop-set-lt}
use Rattle.std.proofs.lemmas.Bool.{cases_lt, cond-true, cond-false, eq-eqb, ne_eqb, lt-ltb, le-ltb}
use Rattle.types.specs.Bits.{odd, low_bits, bits_of, bits, bit_at, Written}
use Rattle.types.specs.declared.bit_vec.BitVec.{BitVec}

-- a bit of a list

pub bit_at_past : (bs : List Bool) (i : ℕ) → length bs ≤ i → bit_at bs i ≡ None
bit_at_past [] i h = refl
bit_at_past (b ∷ bs) zero h = absurd (omega arith)
bit_at_past (b ∷ bs) (suc i) h = bit_at_past bs i (omega arith)

pub bit_at_is : (bs : List Bool) (i : ℕ) → i < length bs → bit_at bs i ≡ Some (get_or bs i false)
bit_at_is [] i h = absurd (omega arith)
bit_at_is (b ∷ bs) zero h = refl
bit_at_is (b ∷ bs) (suc i) h = bit_at_is bs i (omega arith)

pub set-take : (n : ℕ) (bs : List Bool) (i : ℕ) (b : Bool) → take n (set bs i b) ≡ set (take n bs) i b
set-take zero bs i b = refl
set-take (suc n) [] i b = refl
set-take (suc n) (x ∷ bs) zero b = refl
set-take (suc n) (x ∷ bs) (suc i) b = ap (λ xs. x ∷ xs) (set-take n bs i b)

-- the bits of a number

length-low_bits : (width n : ℕ) → length (low_bits width n) ≡ width
length-low_bits zero n = refl
length-low_bits (suc width) n = ap suc (length-low_bits width (n / 2))

half_power : (n k : ℕ) → n / 2 ^ suc k ≡ n / 2 / 2 ^ k
half_power n k = ap (λ p. n / p) (pow-succ' 2 k) ∙ sym (div-div-eq-div-mul n 2 (2 ^ k))

low_bits-at : (width n k : ℕ) → k < width → get_or (low_bits width n) k false ≡ odd (n / 2 ^ k)
low_bits-at zero n k h = absurd (omega arith)
low_bits-at (suc width) n zero h = ap odd (sym (div-one n))
low_bits-at (suc width) n (suc k) h = low_bits-at width (n / 2) k (omega arith) ∙ ap odd (sym (half_power n k))

-- the lowest bit turned
xor_one : (n : ℕ) → (odd (bit_xor n 1) ≡ not (odd n)) × (bit_xor n 1 / 2 ≡ n / 2)
xor_one n =
    let z : bit_xor (n / 2) 0 ≡ n / 2 = xor_zero_r (n / 2) in
    let s : bit_xor n 1 ≡ bit_xor (n / 2) 0 * 2 + differ (n % 2) 1 = xor_step n 1 in
    ⊎_elim
    (λ h. let e : n % 2 ≡ 0 = omega arith in let d : differ (n % 2) 1 ≡ 1 = ap (λ x. differ x 1) e in
    (eq-eqb (bit_xor n 1 % 2) 1 (omega arith) ∙ ap not (sym (ne_eqb (n % 2) 1 (λ f. omega arith))), omega arith))
    (λ h. let e : n % 2 ≡ 1 = omega arith in let d : differ (n % 2) 1 ≡ 0 = ap (λ x. differ x 1) e in
    (ne_eqb (bit_xor n 1 % 2) 1 (λ f. omega arith) ∙ ap not (sym (eq-eqb (n % 2) 1 e)), omega arith))
    (cases_lt (n % 2) 1)

-- a higher bit turned leaves the lowest
xor_power : (n k : ℕ) → (odd (bit_xor n (2 ^ suc k)) ≡ odd n) × (bit_xor n (2 ^ suc k) / 2 ≡ bit_xor (n / 2) (2 ^ k))
xor_power n k =
    let p : 2 ^ suc k ≡ 2 * 2 ^ k = pow-succ' 2 k in
    let half : 2 ^ suc k / 2 ≡ 2 ^ k = omega arith in
    let even : 2 ^ suc k % 2 ≡ 0 = omega arith in
    let s : bit_xor n (2 ^ suc k) ≡ bit_xor (n / 2) (2 ^ k) * 2 + differ (n % 2) 0 = xor_step n (2 ^ suc k) ∙ ap (λ x. bit_xor (n / 2) x * 2 + differ (n % 2) (2 ^ suc k % 2)) half ∙ ap (λ x. bit_xor (n / 2) (2 ^ k) * 2 + differ (n % 2) x) even in
    let d : differ (n % 2) 0 ≡ n % 2 =
    ⊎_elim (λ h. let e : n % 2 ≡ 0 = omega arith in ap (λ x. differ x 0) e ∙ sym e) (λ h. let e : n % 2 ≡ 1 = omega arith in ap (λ x. differ x 0) e ∙ sym e) (cases_lt (n % 2) 1) in
    let same : bit_xor n (2 ^ suc k) % 2 ≡ n % 2 = omega arith in
    (ap (λ x. eqb x 1) same, omega arith)

pub low_bits-turned : (width n k : ℕ) → k < width → low_bits width (bit_xor n (2 ^ k)) ≡ set (low_bits width n) k (not (odd (n / 2 ^ k)))
low_bits-turned zero n k h = absurd (omega arith)
low_bits-turned (suc width) n zero h =
    let x = xor_one n in
    let o = div-one n in
    cc
low_bits-turned (suc width) n (suc k) h =
    let x = xor_power n k in
    let i = low_bits-turned width (n / 2) k (omega arith) in
    let p = half_power n k in
    cc

-- the bits of bytes

pub length-bits_of : (bytes : List ℕ) → length (bits_of bytes) ≡ 8 * length bytes
length-bits_of [] = refl
length-bits_of (b ∷ bs) = omega (arith, length-append (low_bits 8 b) (bits_of bs), length-low_bits 8 b, length-bits_of bs)

pub bits_of-at : (bytes : List ℕ) (i : ℕ) → i < 8 * length bytes → get_or (bits_of bytes) i false ≡ odd (get_or bytes (i / 8) 0 / 2 ^ (i % 8))
bits_of-at [] i h = absurd (omega arith)
bits_of-at (b ∷ bs) i h =
    ⊎_elim
    (λ l.
    let q : i / 8 ≡ 0 = omega arith in
    let r : i % 8 ≡ i = omega arith in
    get_or_append_left (low_bits 8 b) (bits_of bs) false i (omega (arith, length-low_bits 8 b))
    ∙ low_bits-at 8 b i l
    ∙ sym (ap (λ x. odd (get_or (b ∷ bs) x 0 / 2 ^ (i % 8))) q ∙ ap (λ x. odd (b / 2 ^ x)) r))
    (λ g.
    let q : i / 8 ≡ suc ((i - 8) / 8) = omega arith in
    let r : i % 8 ≡ (i - 8) % 8 = omega arith in
    get_or-append_right (low_bits 8 b) (bits_of bs) 8 i false (length-low_bits 8 b) g
    ∙ bits_of-at bs (i - 8) (omega arith)
    ∙ sym (ap (λ x. odd (get_or (b ∷ bs) x 0 / 2 ^ (i % 8))) q ∙ ap (λ x. odd (get_or bs ((i - 8) / 8) 0 / 2 ^ x)) r))
    (cases_lt i 8)

-- one byte is changed so that one of its bits is
pub bits_of-set : (bytes : List ℕ) (i byte : ℕ) (bit : Bool) → i < 8 * length bytes → low_bits 8 byte ≡ set (low_bits 8 (get_or bytes (i / 8) 0)) (i % 8) bit → bits_of (set bytes (i / 8) byte) ≡ set (bits_of bytes) i bit
bits_of-set [] i byte bit h e = absurd (omega arith)
bits_of-set (b ∷ bs) i byte bit h e =
    ⊎_elim
    (λ l.
    let q : i / 8 ≡ 0 = omega arith in
    let r : i % 8 ≡ i = omega arith in
    let f : low_bits 8 byte ≡ set (low_bits 8 b) i bit = e ∙ ap (λ x. set (low_bits 8 (get_or (b ∷ bs) x 0)) (i % 8) bit) q ∙ ap (λ x. set (low_bits 8 b) x bit) r in
    ap (λ x. bits_of (set (b ∷ bs) x byte)) q
    ∙ ap (λ x. x ++ bits_of bs) f
    ∙ sym (set-append_left (low_bits 8 b) (bits_of bs) i bit (omega (arith, length-low_bits 8 b))))
    (λ g.
    let q : i / 8 ≡ suc ((i - 8) / 8) = omega arith in
    let r : i % 8 ≡ (i - 8) % 8 = omega arith in
    let f : low_bits 8 byte ≡ set (low_bits 8 (get_or bs ((i - 8) / 8) 0)) ((i - 8) % 8) bit = e ∙ ap (λ x. set (low_bits 8 (get_or (b ∷ bs) x 0)) (i % 8) bit) q ∙ ap (λ x. set (low_bits 8 (get_or bs ((i - 8) / 8) 0)) x bit) r in
    ap (λ x. bits_of (set (b ∷ bs) x byte)) q
    ∙ ap (λ x. low_bits 8 b ++ x) (bits_of-set bs (i - 8) byte bit (omega arith) f)
    ∙ sym (set-append_right (low_bits 8 b) (bits_of bs) 8 i bit (length-low_bits 8 b) g))
    (cases_lt i 8)

-- a bit read from its byte
pub odd_is : (n : ℕ) → eqb (bit_and n 1) 1 ≡ odd n
odd_is n = ap (λ x. eqb x 1) (and_mask n 1)

-- a byte whose bit of weight 2^k is kept, or turned
pub low_bits_kept : (n k : ℕ) (bit : Bool) → k < 8 → odd (n / 2 ^ k) ≡ bit → low_bits 8 n ≡ set (low_bits 8 n) k bit
low_bits_kept n k bit h e =
    sym (set-get_or (low_bits 8 n) k false) ∙ ap (λ b. set (low_bits 8 n) k b) (low_bits-at 8 n k h ∙ e)

-- the bits of a vector

module _ (v : BitVec) where
  all_bits : length (bits_of v.bytes) ≡ 64
  all_bits = omega (arith, length-bits_of v.bytes, v.whole)

  pub bits_count : length (bits v) ≡ min v.len 64
  bits_count = length-take v.len (bits_of v.bytes) ∙ ap (λ n. min v.len n) all_bits

  pub bit_read : (i : ℕ) → bit_at (bits v) i ≡ cond (ltb i (min v.len 64)) (Some (eqb (bit_and (get_or v.bytes (i / 8) 0 / 2 ^ (i % 8)) 1) 1)) None
  bit_read i =
      ⊎_elim
      (λ h.
      bit_at_is (bits v) i (omega (arith, bits_count))
      ∙ ap Some (get_or-take v.len (bits_of v.bytes) i false (omega arith) ∙ bits_of-at v.bytes i (omega (arith, v.whole)) ∙ sym (odd_is _))
      ∙ sym (cond-true _ _ _ (lt-ltb i (min v.len 64) h)))
      (λ h. bit_at_past (bits v) i (omega (arith, bits_count)) ∙ sym (cond-false _ _ _ (le-ltb i (min v.len 64) h)))
      (cases_lt i (min v.len 64))

  -- past the last bit a write changes nothing
  pub written_past : (i : ℕ) (bit : Bool) → length (bits v) ≤ i → Written v v i bit
  written_past i bit h = record { same_index = refl; same_len = refl; now_bits = sym (set_past (bits v) i bit h); same_spare = refl }

  -- a write changes one byte so that one of its bits is as given
  pub written_there : (w : BitVec) (i byte : ℕ) (bit : Bool) → w.index ≡ v.index → w.len ≡ v.len → w.bytes ≡ set v.bytes (i / 8) byte → i < length (bits v) → low_bits 8 byte ≡ set (low_bits 8 (get_or v.bytes (i / 8) 0)) (i % 8) bit → Written v w i bit
  written_there w i byte bit e f g h l =
      let few = bits_count in
      let all : bits_of w.bytes ≡ set (bits_of v.bytes) i bit = ap bits_of g ∙ bits_of-set v.bytes i byte bit (omega (arith, v.whole)) l in
      record {
        same_index = e;
        same_len = f;
        now_bits = ap (λ n. take n (bits_of w.bytes)) f ∙ ap (take v.len) all ∙ set-take v.len (bits_of v.bytes) i bit;
        same_spare = ap (λ n. drop n (bits_of w.bytes)) f ∙ ap (drop v.len) all ∙ drop-set-lt v.len (bits_of v.bytes) i bit (omega arith);
      }
