-- The byte forms: numbers of a width and their bytes, and the laws of the two kinds.
use Rattle.std.specs.Prelude.{◌≡◌, ℕ, zero, suc, ◌+◌, ◌*◌, ◌/◌, ◌%◌, ◌^◌, ◌<◌, ◌≤◌, Bool, true, false, cond, ◌&&◌, ◌⊎◌, List, [], ◌∷◌, length, take, Some, None, ◌==◌, ◌≢◌, nat_lt, slice_index, refl}
use Rattle.std.proofs.Common.{sym, ◌∙◌, ap, inl, inr, pow-suc, div-one, arith}
use mathlib.Core.HLevel.{is_prop→PathP}
use Rattle.std.proofs.Math.Nat.{ℕ_set, div-div-eq-div-mul, div-eq_of_lt}
use Rattle.std.proofs.Math.Bridge.{le_prop}
use Rattle.std.proofs.lemmas.Bool.{cases_eq, cases_lt, and_parts, and_from, ltb-true, lt-ltb, eqb-true, eq-eqb, cond-true}
use Rattle.std.specs.Int.Digits.{number_from_digits_after, number_from_digits}
use Rattle.std.proofs.lemmas.Int.Digits.{number_more}
use Rattle.std.proofs.lemmas.List.{take_all}
use Rattle.std.proofs.lemmas.Nat.{div-add-mod', div-mul-add, mod-mul-add}
use Rattle.keys.specs.Form.{Formed, big_endian}
use Rattle.keys.specs.Orders.{never}
use Rattle.keys.specs.Kinds.{station_if, station_of, all_bytes, seat_if, seat_of}
use Rattle.keys.specs.declared.station_key.StationKey.{StationKey}
use Rattle.keys.specs.declared.seat_number.SeatNumber.{SeatNumber}

-- station keys

pub same_station : (j k : StationKey) → j.bytes ≡ k.bytes → j ≡ k
same_station j k e = λ i. record { bytes = e i; whole = is_prop→PathP (λ i. length (e i) ≡ 32) (λ i. ℕ_set (length (e i)) 32) j.whole k.whole i }

station_if-whole : (k : StationKey) (t : (length k.bytes ≡ 32) ⊎ (length k.bytes ≢ 32)) → station_if k.bytes t ≡ Some k
station_if-whole k (inl e) = ap Some (same_station _ k refl)
station_if-whole k (inr n) = absurd (n k.whole)

station_if_only : (bytes : List ℕ) (k : StationKey) (t : (length bytes ≡ 32) ⊎ (length bytes ≢ 32)) → station_if bytes t ≡ Some k → k.bytes ≡ bytes
station_if_only bytes k (inl e) r = let s : ◌≡◌ {A = StationKey} (record { bytes = bytes; whole = e }) k = cc in sym (ap (λ x. x.bytes) s)
station_if_only bytes k (inr n) r = never (cc)

pub station_formed : Formed 32 (λ k. k.bytes) station_of
station_formed =
    record {
      some_bytes = omega arith;
      few_bytes = omega arith;
      sized = λ k. k.whole;
      apart = same_station;
      reads_back = λ k. station_if-whole k (cases_eq (length k.bytes) 32);
      reads_only = λ bytes k r. station_if_only bytes k (cases_eq (length bytes) 32) r;
    }

-- seat numbers

pub same_seat : (j k : SeatNumber) → j.number ≡ k.number → j ≡ k
same_seat j k e = λ i. record { number = e i; small = is_prop→PathP (λ i. e i < 2 ^ 64) (λ i. le_prop) j.small k.small i }

-- a quotient by one power more
div_power : (b n k : ℕ) → n / b ^ suc k ≡ n / b ^ k / b
div_power b n k = ap (λ p. n / p) (pow-suc b k) ∙ sym (div-div-eq-div-mul n (b ^ k) b)

pub length-big_endian : (width n : ℕ) → length (big_endian width n) ≡ width
length-big_endian zero n = refl
length-big_endian (suc width) n = ap suc (length-big_endian width n)

pub bytes_big_endian : (width n : ℕ) → all_bytes (big_endian width n) ≡ true
bytes_big_endian zero n = refl
bytes_big_endian (suc width) n = and_from _ _ (lt-ltb (n / 256 ^ width % 256) 256 (omega arith)) (bytes_big_endian width n)

-- what stands above the bytes of a number, with the bytes after it, is the number
number_after-big_endian : (width n : ℕ) → number_from_digits_after 256 (n / 256 ^ width) (big_endian width n) ≡ n
number_after-big_endian zero n = div-one n
number_after-big_endian (suc width) n =
    let q = n / 256 ^ width in
    let e : n / 256 ^ suc width * 256 + q % 256 ≡ q = ap (λ x. x * 256 + q % 256) (div_power 256 n width) ∙ div-add-mod' q 256 in
    ap (λ x. number_from_digits_after 256 x (big_endian width n)) e ∙ number_after-big_endian width n

pub number_big_endian : (width n : ℕ) → n < 256 ^ width → number_from_digits 256 (big_endian width n) ≡ n
number_big_endian width n h =
    ap (λ x. number_from_digits_after 256 x (big_endian width n)) (sym (div-eq_of_lt h)) ∙ number_after-big_endian width n

-- the bytes after a number do not reach it
number_after-above : (m : ℕ) (bs : List ℕ) → all_bytes bs ≡ true → number_from_digits_after 256 m bs / 256 ^ length bs ≡ m
number_after-above m [] h = div-one m
number_after-above m (b ∷ bs) h =
    let p = and_parts (nat_lt b 256) (all_bytes bs) h in
    div_power 256 (number_from_digits_after 256 (m * 256 + b) bs) (length bs)
    ∙ ap (λ x. x / 256) (number_after-above (m * 256 + b) bs p.1)
    ∙ div-mul-add m 256 b (ltb-true b 256 p.0)

big_endian_number_after : (m : ℕ) (bs : List ℕ) → all_bytes bs ≡ true → big_endian (length bs) (number_from_digits_after 256 m bs) ≡ bs
big_endian_number_after m [] h = refl
big_endian_number_after m (b ∷ bs) h =
    let p = and_parts (nat_lt b 256) (all_bytes bs) h in
    let first : number_from_digits_after 256 (m * 256 + b) bs / 256 ^ length bs % 256 ≡ b = ap (λ x. x % 256) (number_after-above (m * 256 + b) bs p.1) ∙ mod-mul-add m 256 b (ltb-true b 256 p.0) in
    let rest = big_endian_number_after (m * 256 + b) bs p.1 in
    cc

pub big_endian_number : (bs : List ℕ) (width : ℕ) → length bs ≡ width → all_bytes bs ≡ true → big_endian width (number_from_digits 256 bs) ≡ bs
big_endian_number bs width e h = ap (λ w. big_endian w (number_from_digits 256 bs)) (sym e) ∙ big_endian_number_after 0 bs h

seat_if-small : (k : SeatNumber) (n : ℕ) (t : (n < 2 ^ 64) ⊎ (2 ^ 64 ≤ n)) → n ≡ k.number → seat_if n t ≡ Some k
seat_if-small k n (inl h) e = ap Some (same_seat _ k e)
seat_if-small k n (inr h) e = absurd (omega (arith, k.small))

seat_if_only : (n : ℕ) (k : SeatNumber) (t : (n < 2 ^ 64) ⊎ (2 ^ 64 ≤ n)) → seat_if n t ≡ Some k → k.number ≡ n
seat_if_only n k (inl h) r = let s : ◌≡◌ {A = SeatNumber} (record { number = n; small = h }) k = cc in sym (ap (λ x. x.number) s)
seat_if_only n k (inr h) r = never (cc)

-- the number of a form is the seat's
seat_number : (k : SeatNumber) → number_from_digits 256 (big_endian 8 k.number) ≡ k.number
seat_number k = number_big_endian 8 k.number k.small

seat-apart : (j k : SeatNumber) → big_endian 8 j.number ≡ big_endian 8 k.number → j ≡ k
seat-apart j k e = same_seat j k (sym (seat_number j) ∙ ap (number_from_digits 256) e ∙ seat_number k)

seat-reads_back : (k : SeatNumber) → seat_of (big_endian 8 k.number) ≡ Some k
seat-reads_back k =
    cond-true _ _ None (and_from _ _ (eq-eqb _ 8 (length-big_endian 8 k.number)) (bytes_big_endian 8 k.number))
    ∙ seat_if-small k _ (cases_lt _ (2 ^ 64)) (seat_number k)

seat_when : (t : Bool) (bytes : List ℕ) (k : SeatNumber) → t ≡ (length bytes == 8 && all_bytes bytes) → cond t (seat_if (number_from_digits 256 bytes) (cases_lt (number_from_digits 256 bytes) (2 ^ 64))) None ≡ Some k → big_endian 8 k.number ≡ bytes
seat_when true bytes k e r =
    let p = and_parts _ _ (sym e) in
    ap (big_endian 8) (seat_if_only (number_from_digits 256 bytes) k (cases_lt (number_from_digits 256 bytes) (2 ^ 64)) r)
    ∙ big_endian_number bytes 8 (eqb-true (length bytes) 8 p.0) p.1
seat_when false bytes k e r = never (cc)

pub seat_formed : Formed 8 (λ k. big_endian 8 k.number) seat_of
seat_formed =
    record {
      some_bytes = omega arith;
      few_bytes = omega arith;
      sized = λ k. length-big_endian 8 k.number;
      apart = seat-apart;
      reads_back = seat-reads_back;
      reads_only = λ bytes k r. seat_when _ bytes k refl r;
    }

-- what `read` makes of bytes

pub station_from : (bytes : List ℕ) (k : StationKey) → k.bytes ≡ bytes → Some k ≡ station_of bytes
station_from bytes k e = sym (station_formed.reads_back k) ∙ ap station_of e

pub all_bytes_from : (bs : List ℕ) → ((i : ℕ) → slice_index bs i < 256) → all_bytes bs ≡ true
all_bytes_from [] h = refl
all_bytes_from (b ∷ bs) h = and_from _ _ (lt-ltb b 256 (h 0)) (all_bytes_from bs (λ i. h (suc i)))

pub number_eight : (bs : List ℕ) → length bs ≡ 8 → number_from_digits 256 bs ≡ slice_index bs 0 * 72057594037927936 + slice_index bs 1 * 281474976710656 + slice_index bs 2 * 1099511627776 + slice_index bs 3 * 4294967296 + slice_index bs 4 * 16777216 + slice_index bs 5 * 65536 + slice_index bs 6 * 256 + slice_index bs 7
number_eight bs e =
    let all : number_from_digits 256 (take 8 bs) ≡ number_from_digits 256 bs = ap (number_from_digits 256) (take_all 8 bs (omega arith)) in
    omega (arith, all, number_more 256 bs 0 (omega arith), number_more 256 bs 1 (omega arith), number_more 256 bs 2 (omega arith), number_more 256 bs 3 (omega arith), number_more 256 bs 4 (omega arith), number_more 256 bs 5 (omega arith), number_more 256 bs 6 (omega arith), number_more 256 bs 7 (omega arith))

pub seat_from : (bytes : List ℕ) (k : SeatNumber) → length bytes ≡ 8 → ((i : ℕ) → slice_index bytes i < 256) → k.number ≡ number_from_digits 256 bytes → Some k ≡ seat_of bytes
seat_from bytes k e h n =
    sym (seat-reads_back k) ∙ ap seat_of (ap (big_endian 8) n ∙ big_endian_number bytes 8 e (all_bytes_from bytes h))
