-- Where a key stands, and the bits of a set.
use Rattle.std.proofs.Common.{◌≡◌, ℕ, zero, suc, ◌+◌, ◌-◌, ◌<◌, ◌≤◌, Bool, true, false, cond, List, [], ◌∷◌, length, get_or, take, drop, set, replicate, Some, None, Option, Ordering, Less, Equal, Greater, MatchOption, sym, refl, ap, subst, ◌∙◌, arith}
use Rattle.std.specs.List.{position}
use Rattle.std.proofs.lemmas.List.{length-take-le, take-replicate, drop-replicate, set_past, length-set}
use Rattle.std.proofs.lemmas.List.Quantifiers.{position-Some}
use Rattle.std.proofs.lemmas.Iterator.Adapters.{position_from-zero}
use Rattle.std.proofs.lemmas.Option.{slice_get-get_or}
use Rattle.keys.specs.Order.{Lawful, is_equal, ascending}
use Rattle.types.specs.Bits.{bits_of, bits, spare_bits, Blank, Written}
use Rattle.types.specs.declared.bit_vec.BitVec.{BitVec}
use Rattle.types.proofs.BitLists.{length-bits_of}
use Rattle.key_list.specs.Members.{keys_in as listed}
use Rattle.bit_set.specs.Places.{Absent, Found, place_of, paired}
use Rattle.bit_set.specs.Members.{with_second, keys_in, bits_in, Fresh, Marked}
use Rattle.bit_set.specs.declared.bit_set.BitSet.{BitSet}

equal_from_test : (o : Ordering) → is_equal o ≡ true → o ≡ Equal
equal_from_test Less e = cc
equal_from_test Equal e = refl
equal_from_test Greater e = cc

-- where a key stands, in terms of equality of keys
module _ {K : Type 0} (order : K → K → Ordering) (key : K) (lawful : Lawful order) where
  not_first : (k : K) (ks : List K) (i : ℕ) (same : Bool) → is_equal (order k key) ≡ same → cond same (Some i) (place_of order key (i + 1) ks) ≡ None → (place_of order key (i + 1) ks ≡ None → Absent ks key) → Absent (k ∷ ks) key
  not_first k ks i true t e behind n f = cc
  not_first k ks i false t e behind zero f = let itself = lawful.itself key in cc
  not_first k ks i false t e behind (suc n) f = behind e n f

  absent : (ks : List K) (i : ℕ) → place_of order key i ks ≡ None → Absent ks key
  absent [] i e n f = cc
  absent (k ∷ ks) i e n f = not_first k ks i (is_equal (order k key)) refl e (absent ks (i + 1)) n f

  pub found : (ks : List K) (r : Option ℕ) → r ≡ position (λ k. is_equal (order k key)) ks → Found ks key r
  found ks None e = absent ks 0 (sym (e ∙ position_from-zero (λ k. is_equal (order k key)) ks))
  found ks (Some i) e =
      let at = position-Some (λ k. is_equal (order k key)) ks i key (sym e) in
      (at.0, slice_get-get_or ks i key at.0 ∙ ap Some (lawful.same (get_or ks i key) key (equal_from_test _ at.1)))

-- pairs

length-paired : {X Y : Type 0} (xs : List X) (ys : List Y) → length ys ≡ length xs → length (paired xs ys) ≡ length xs
length-paired [] ys e = refl
length-paired (x ∷ xs) [] e = absurd (omega arith)
length-paired (x ∷ xs) (y ∷ ys) e = ap suc (length-paired xs ys (omega arith))

paired-set : {X Y : Type 0} (xs : List X) (ys : List Y) (i : ℕ) (y : Y) → paired xs (set ys i y) ≡ with_second (paired xs ys) i y
paired-set [] ys i y = refl
paired-set (x ∷ xs) [] i y = refl
paired-set (x ∷ xs) (z ∷ ys) zero y = refl
paired-set (x ∷ xs) (z ∷ ys) (suc i) y = ap (λ ps. (x, z) ∷ ps) (paired-set xs ys i y)

-- a new vector

length-bits : (v : BitVec) → v.len ≤ 64 → length (bits v) ≡ v.len
length-bits v h =
    length-take-le v.len (bits_of v.bytes) (omega (arith, length-bits_of v.bytes, v.whole))

blank_bits : (index len : ℕ) (v : BitVec) → Blank index len v → len ≤ 64 → bits v ≡ replicate len false
blank_bits index len v b h =
    ap (λ n. take n (bits_of v.bytes)) b.same_len ∙ ap (take len) b.all_zero ∙ take-replicate len 64 false h

-- a new vector for n bits that was made
pub new_blank : (n : ℕ) (r : Option BitVec) (v : BitVec) → MatchOption r (64 < n) (λ w. (n ≤ 64) × Blank 0 n w) → r ≡ Some v → (m : ℕ) → n ≡ m → Blank 0 m v
new_blank n r v made e m f =
    let here = subst (λ o. MatchOption o (64 < n) (λ w. (n ≤ 64) × Blank 0 n w)) e made in
    subst (λ k. Blank 0 k v) f here.1

-- a vector that has a bit for each key
module _ {K : Type 0} (ks : List K) (v : BitVec) where
  pub every_from : length (bits v) ≡ length ks → length (paired ks (bits v)) ≡ length ks
  every_from e = length-paired ks (bits v) e

  module _ (few : length ks ≤ 64) (blank : Blank 0 (length ks) v) where
    pub blank_enough : length (bits v) ≡ length ks
    blank_enough = length-bits v (omega (arith, blank.same_len)) ∙ blank.same_len

    pub blank_spare : spare_bits v ≡ replicate (64 - length ks) false
    blank_spare = ap (λ n. drop n (bits_of v.bytes)) blank.same_len ∙ ap (drop (length ks)) blank.all_zero ∙ drop-replicate (length ks) 64 false

  -- one bit written
  pub written_enough : (w : BitVec) (i : ℕ) (known : Bool) → Written v w i known → length (bits v) ≡ length ks → length (bits w) ≡ length ks
  written_enough w i known e h = ap length e.now_bits ∙ length-set (bits v) i known ∙ h

module _ {K : Type 0} where
  pub marked : (before after : BitSet K) (i : ℕ) (known : Bool) → after.keys ≡ before.keys → Written before.knowledge after.knowledge i known → Marked before after i known
  marked before after i known e w =
      record {
        same_keys = ap listed e;
        now_bits = w.now_bits;
        now_members = ap (λ ps. paired (listed ps) (bits_in after)) e ∙ ap (paired (keys_in before)) w.now_bits ∙ paired-set (keys_in before) (bits_in before) i known;
      }

  -- past the last key
  pub marked_past : (s : BitSet K) (i : ℕ) (known : Bool) → length (keys_in s) ≤ i → Marked s s i known
  marked_past s i known h =
      let same : bits_in s ≡ set (bits_in s) i known = sym (set_past (bits_in s) i known (omega (arith, s.enough))) in
      record {
        same_keys = refl;
        now_bits = same;
        now_members = ap (paired (keys_in s)) same ∙ paired-set (keys_in s) (bits_in s) i known;
      }

  -- a set with the bits of a new vector
  pub fresh : (order : K → K → Ordering) (keys : List K) (s : BitSet K) → length keys ≤ 64 → Blank 0 (length keys) s.knowledge → keys_in s ≡ keys → ascending order keys ≡ true → Fresh order keys s
  fresh order keys s few b e a =
      let none : bits_in s ≡ replicate (length keys) false = blank_bits 0 (length keys) s.knowledge b few in
      record {
        few = few;
        given_ascend = a;
        same_keys = e;
        none_known = none;
        now_members = ap (λ ks. paired ks (bits_in s)) e ∙ ap (paired keys) none;
        ascends = ap (ascending order) e ∙ a;
      }
