-- The primaries of a set, by the keys and the bits that hold them.
use Rattle.std.proofs.Common.{◌≡◌, ℕ, zero, suc, ◌+◌, ◌-◌, ◌<◌, ◌≤◌, Bool, true, false, cond, ◌||◌, List, [], ◌∷◌, map, length, get_or, replicate, is_some, Some, None, Option, Ordering, sym, refl, ap, ◌∙◌, arith}
use Rattle.std.specs.List.{slice_get}
use Rattle.std.proofs.lemmas.List.{length-replicate}
use Rattle.types.specs.declared.bit_vec.BitVec.{BitVec}
use Rattle.key_list.specs.Keys.{is_equal, has}
use Rattle.key_list.proofs.Rows.{few-keys}
use Rattle.bit_set.specs.Places.{key_at, place_of, paired}
use Rattle.bit_set.specs.Members.{with_second, keys_in, bits_in, members, Updated}
use Rattle.bit_set.specs.Members as bit-sets
use Rattle.bit_set.specs.declared.bit_set.BitSet.{BitSet}
use Rattle.model.specs.Sets.{primaries}
use Rattle.model.specs.There.{marked_first}
use Rattle.peer_sets.specs.Held.{seconds, Carried}

module _ {X : Type 0} where
  primaries-paired : (xs : List X) (bits : List Bool) → length bits ≡ length xs → primaries (paired xs bits) ≡ xs
  primaries-paired [] bits e = refl
  primaries-paired (x ∷ xs) [] e = absurd (omega arith)
  primaries-paired (x ∷ xs) (b ∷ bits) e = ap (λ ys. x ∷ ys) (primaries-paired xs bits (omega arith))

  seconds-paired : {Y : Type 0} (xs : List X) (ys : List Y) → length ys ≡ length xs → seconds (paired xs ys) ≡ ys
  seconds-paired [] [] e = refl
  seconds-paired [] (y ∷ ys) e = absurd (omega arith)
  seconds-paired (x ∷ xs) [] e = absurd (omega arith)
  seconds-paired (x ∷ xs) (y ∷ ys) e = ap (λ zs. y ∷ zs) (seconds-paired xs ys (omega arith))

module _ {K : Type 0} where
  -- the primaries of a bit set are its keys
  pub length-primaries : (ms : List (K × Bool)) → length (primaries ms) ≡ length ms
  length-primaries [] = refl
  length-primaries (m ∷ ms) = ap suc (length-primaries ms)

  pub primaries-members : (s : BitSet K) → primaries (members s) ≡ keys_in s
  primaries-members s = primaries-paired (keys_in s) (bits_in s) s.enough

  pub few-members : (s : BitSet K) → length (members s) ≤ 64
  few-members s = omega (arith, few-keys s.keys, s.every)

  pub primary-at : (s : BitSet K) (i : ℕ) (r : Option K) → r ≡ key_at (keys_in s) i → r ≡ slice_get (primaries (members s)) i
  primary-at s i r e = e ∙ ap (λ ks. slice_get ks i) (sym (primaries-members s))

  pub carried : (s : BitSet K) (index : ℕ) (v : BitVec) → bit-sets.Carried s index v → Carried index (members s) v
  carried s index v c =
      record {
        under = c.under;
        one_each = c.one_each ∙ sym s.every;
        same_bits = c.same_bits ∙ sym (seconds-paired (keys_in s) (bits_in s) s.enough);
        spare_zero = c.spare_zero ∙ ap (λ n. replicate (64 - n) false) (sym s.every);
      }

module _ {K : Type 0} (order : K → K → Ordering) (key : K) where
  has_step : (same : Bool) (i : ℕ) (rest : Option ℕ) (t : Bool) → is_some rest ≡ t → is_some (cond same (Some i) rest) ≡ (same || t)
  has_step true i rest t e = refl
  has_step false i rest t e = e

  place-has : (ks : List K) (i : ℕ) → is_some (place_of order key i ks) ≡ has order key ks
  place-has [] i = refl
  place-has (k ∷ ks) i = has_step (is_equal (order k key)) i (place_of order key (i + 1) ks) (has order key ks) (place-has ks (i + 1))

  pub primary_there : (s : BitSet K) (r : Option ℕ) → r ≡ place_of order key 0 (keys_in s) → is_some r ≡ has order key (primaries (members s))
  primary_there s r e = ap is_some e ∙ place-has (keys_in s) 0 ∙ ap (has order key) (sym (primaries-members s))

  -- an index, if there is one, that is no less than another
  abbrev Low : ℕ → Option ℕ → Type 0
  Low i None = Unit {0}
  Low i (Some j) = i ≤ j

  low_less : (i : ℕ) (r : Option ℕ) → Low (i + 1) r → Low i r
  low_less i None h = tt
  low_less i (Some j) h = omega arith

  low_step : (same : Bool) (i : ℕ) (rest : Option ℕ) → Low (i + 1) rest → Low i (cond same (Some i) rest)
  low_step true i rest h = omega arith
  low_step false i rest h = low_less i rest h

  place_low : (ks : List K) (i : ℕ) → Low i (place_of order key i ks)
  place_low [] i = tt
  place_low (k ∷ ks) i = low_step (is_equal (order k key)) i (place_of order key (i + 1) ks) (place_low ks (i + 1))

  -- the pairs with the bit of one of them written, where the first has the index i
  abbrev written_from : ℕ → List (K × Bool) → Option ℕ → Bool → List (K × Bool)
  written_from i ps None known = ps
  written_from i ps (Some j) known = with_second ps (j - i) known

  written_behind : (i : ℕ) (m : K × Bool) (ps : List (K × Bool)) (r : Option ℕ) (known : Bool) → Low (i + 1) r → written_from i (m ∷ ps) r known ≡ m ∷ written_from (i + 1) ps r known
  written_behind i m ps None known h = refl
  written_behind i m ps (Some j) known h =
      let n : j - i ≡ suc (j - (i + 1)) = omega arith in ap (λ d. with_second (m ∷ ps) d known) n

  written_step : (same : Bool) (i : ℕ) (m : K × Bool) (ps : List (K × Bool)) (rest : Option ℕ) (known : Bool) → Low (i + 1) rest → written_from i (m ∷ ps) (cond same (Some i) rest) known ≡ cond same ((m.0, known) ∷ ps) (m ∷ written_from (i + 1) ps rest known)
  written_step true i m ps rest known h = let n : i - i ≡ 0 = omega arith in ap (λ d. with_second (m ∷ ps) d known) n
  written_step false i m ps rest known h = written_behind i m ps rest known h

  written-marked : (ks : List K) (bits : List Bool) (i : ℕ) (known : Bool) → length bits ≡ length ks → written_from i (paired ks bits) (place_of order key i ks) known ≡ marked_first order key known (paired ks bits)
  written-marked [] bits i known e = none (place_of order key i [])
    where
      none : (r : Option ℕ) → written_from i [] r known ≡ []
      none None = refl
      none (Some j) = refl
  written-marked (k ∷ ks) [] i known e = absurd (omega arith)
  written-marked (k ∷ ks) (b ∷ bits) i known e =
      let rest = place_of order key (i + 1) ks in
      written_step (is_equal (order k key)) i (k, b) (paired ks bits) rest known (place_low ks (i + 1))
      ∙ ap (λ ps. cond (is_equal (order k key)) ((k, known) ∷ paired ks bits) ((k, b) ∷ ps)) (written-marked ks bits (i + 1) known (omega arith))

  updated-members : (before after : BitSet K) (r : Option ℕ) (known done : Bool) → Updated before after r known done → members after ≡ written_from 0 (members before) r known
  updated-members before after None known done u = ap members u.1
  updated-members before after (Some j) known done u =
      let n : j ≡ j - 0 = omega arith in u.1.now_members ∙ ap (λ d. with_second (members before) d known) n

  -- a set after an update of a key's bit
  pub marked-members : (before after : BitSet K) (known done : Bool) → Updated before after (place_of order key 0 (keys_in before)) known done → members after ≡ marked_first order key known (members before)
  marked-members before after known done u =
      updated-members before after _ known done u ∙ written-marked (keys_in before) (bits_in before) 0 known before.enough

-- keys with a bit each: the first i have theirs, the others 0
module _ {K : Type 0} (f : K → Bool) where
  abbrev pub noted : ℕ → List K → List (K × Bool)
  noted zero ks = paired ks (replicate (length ks) false)
  noted (suc i) [] = []
  noted (suc i) (k ∷ ks) = (k, f k) ∷ noted i ks

  -- one more bit written
  pub noted_more : (ks : List K) (i : ℕ) (k : K) → i < length ks → k ≡ get_or ks i k → with_second (noted i ks) i (f k) ≡ noted (i + 1) ks
  noted_more [] i k h e = absurd (omega arith)
  noted_more (j ∷ js) zero k h e = ap (λ z. (j, f z) ∷ paired js (replicate (length js) false)) e
  noted_more (j ∷ js) (suc i) k h e =
      let n : suc (i + 1) ≡ suc i + 1 = omega arith in
      ap (λ ps. (j, f j) ∷ ps) (noted_more js i k (omega arith) e) ∙ ap (λ m. noted m (j ∷ js)) n

  pub noted_all : (ks : List K) (i : ℕ) → length ks ≤ i → noted i ks ≡ map (λ k. (k, f k)) ks
  noted_all [] zero h = refl
  noted_all [] (suc i) h = refl
  noted_all (k ∷ ks) zero h = absurd (omega arith)
  noted_all (k ∷ ks) (suc i) h = ap (λ ps. (k, f k) ∷ ps) (noted_all ks i (omega arith))

  pub primaries-noted : (ks : List K) (i : ℕ) → primaries (noted i ks) ≡ ks
  primaries-noted ks zero = primaries-paired ks (replicate (length ks) false) (length-replicate (length ks) false)
  primaries-noted [] (suc i) = refl
  primaries-noted (k ∷ ks) (suc i) = ap (λ js. k ∷ js) (primaries-noted ks i)
