-- The sets held with one set more, and how often they name a key.
use Rattle.std.proofs.Common.{◌≡◌, ℕ, suc, ◌+◌, ◌-◌, ◌≤◌, Bool, true, false, List, [], ◌∷◌, ◌++◌, length, drop, Ordering, sym, refl, ap, ◌∙◌, arith, length-append, length-drop}
use Rattle.std.proofs.lemmas.List.{drop-drop, drop-append-le}
use Rattle.key_list.specs.Keys.{has}
use Rattle.model.specs.State.{PeerSet}
use Rattle.laws.specs.History.{Held, one_more, newest_part, primary_count, secondary_count}
use Rattle.laws.specs.Law.{bare}

one_more-swap : (a b : Bool) (n : ℕ) → one_more a (one_more b n) ≡ one_more b (one_more a n)
one_more-swap true true n = refl
one_more-swap true false n = refl
one_more-swap false true n = refl
one_more-swap false false n = refl

one_more_le : (b : Bool) (n m : ℕ) → n ≤ m → one_more b n ≤ suc m
one_more_le true n m h = omega arith
one_more_le false n m h = omega arith

module _ {K : Type 0} (order : K → K → Ordering) where
  pub primary_push : (k : K) (sets : List (Held K)) (s : Held K) → primary_count order k (sets ++ s ∷ []) ≡ one_more (has order k s.primary) (primary_count order k sets)
  primary_push k [] s = refl
  primary_push k (t ∷ sets) s = ap (one_more (has order k t.primary)) (primary_push k sets s) ∙ one_more-swap (has order k t.primary) (has order k s.primary) (primary_count order k sets)

  pub secondary_push : (k : K) (sets : List (Held K)) (s : Held K) → secondary_count order k (sets ++ s ∷ []) ≡ one_more (has order k s.secondary) (secondary_count order k sets)
  secondary_push k [] s = refl
  secondary_push k (t ∷ sets) s = ap (one_more (has order k t.secondary)) (secondary_push k sets s) ∙ one_more-swap (has order k t.secondary) (has order k s.secondary) (secondary_count order k sets)

  pub primary_count_le : (k : K) (sets : List (Held K)) → primary_count order k sets ≤ length sets
  primary_count_le k [] = omega arith
  primary_count_le k (s ∷ sets) = one_more_le (has order k s.primary) (primary_count order k sets) (length sets) (primary_count_le k sets)

  pub secondary_count_le : (k : K) (sets : List (Held K)) → secondary_count order k sets ≤ length sets
  secondary_count_le k [] = omega arith
  secondary_count_le k (s ∷ sets) = one_more_le (has order k s.secondary) (secondary_count order k sets) (length sets) (secondary_count_le k sets)

module _ {K : Type 0} where
  pub bare_push : (sets : List (PeerSet K)) (s : PeerSet K) → bare (sets ++ s ∷ []) ≡ bare sets ++ bare (s ∷ [])
  bare_push [] s = refl
  bare_push (t ∷ sets) s = ap (λ xs. bare (t ∷ []) ++ xs) (bare_push sets s)

  pub length-bare : (sets : List (PeerSet K)) → length (bare sets) ≡ length sets
  length-bare [] = refl
  length-bare (s ∷ sets) = ap suc (length-bare sets)

  -- the newest part of a list

  pub part_le : (most : ℕ) (sets : List (Held K)) → length (newest_part most sets) ≤ most
  part_le most sets = let e = length-drop (length sets - most) sets in omega arith

  pub part_fits : (most : ℕ) (sets : List (Held K)) → length sets ≤ most → newest_part most sets ≡ sets
  part_fits most sets h = let e : length sets - most ≡ 0 = omega arith in ap (λ n. drop n sets) e

  pub part_over : (most : ℕ) (s : Held K) (sets : List (Held K)) → length sets ≡ most → newest_part most (s ∷ sets) ≡ sets
  part_over most s sets h = let e : length (s ∷ sets) - most ≡ 1 = omega arith in ap (λ n. drop n (s ∷ sets)) e

  -- one set more asks only about those held

  pub part_push : (most : ℕ) (sets : List (Held K)) (s : Held K) → newest_part most (sets ++ s ∷ []) ≡ newest_part most (newest_part most sets ++ s ∷ [])
  part_push most sets s =
      let n = length sets - most in
      let m = length (drop n sets ++ s ∷ []) - most in
      let a = length-append (drop n sets) (s ∷ []) in
      let b = length-drop n sets in
      let c = length-append sets (s ∷ []) in
      let e : length (sets ++ s ∷ []) - most ≡ n + m = omega arith in
      ap (λ x. drop x (sets ++ s ∷ [])) e
      ∙ sym (drop-drop m n (sets ++ s ∷ []))
      ∙ ap (drop m) (drop-append-le n sets (s ∷ []) (omega arith))
