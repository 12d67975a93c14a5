-- Lists that ascend, by their neighbours.
use Rattle.std.proofs.Common.{◌≡◌, ℕ, zero, suc, ◌+◌, ◌<◌, Bool, true, false, ◌&&◌, List, [], ◌∷◌, length, get_or, sym, ap, ◌∙◌, refl, arith}
use Rattle.std.specs.declared.cmp.Ordering.{Ordering}
use Rattle.std.specs.List.{AllAdjacentBelow, IsAllAdjacentAnswer}
use Rattle.keys.specs.Order.{is_less, ascending}

and_false : (b : Bool) → (b && false) ≡ false
and_false true = refl
and_false false = refl

module _ {K : Type 0} (order : K → K → Ordering) where
  -- the neighbours behind the first key
  behind : (k j : K) (ks : List K) (i : ℕ) (d : K) → is_less (order (get_or (k ∷ j ∷ ks) (suc i) d) (get_or (k ∷ j ∷ ks) (suc i + 1) d)) ≡ is_less (order (get_or (j ∷ ks) i d) (get_or (j ∷ ks) (i + 1) d))
  behind k j ks i d =
      let n : suc i + 1 ≡ suc (i + 1) = omega arith in
      ap (λ m. is_less (order (get_or (j ∷ ks) i d) (get_or (k ∷ j ∷ ks) m d))) n

  -- each key is below the next
  ascending_from_neighbours : (ks : List K) → AllAdjacentBelow (λ a b. true ≡ is_less (order a b)) ks (length ks) → ascending order ks ≡ true
  ascending_from_neighbours [] h = refl
  ascending_from_neighbours (k ∷ []) h = refl
  ascending_from_neighbours (k ∷ j ∷ ks) h =
      ap (λ b. b && ascending order (j ∷ ks)) (sym (h 0 k (omega arith)))
      ∙ ascending_from_neighbours (j ∷ ks) (λ i d l. h (suc i) d (omega (arith, l)) ∙ behind k j ks i d)

  -- some key is not below the next
  not_ascending_at : (ks : List K) (i : ℕ) → i + 1 < length ks → ((d : K) → false ≡ is_less (order (get_or ks i d) (get_or ks (i + 1) d))) → ascending order ks ≡ false
  not_ascending_at [] i l h = absurd (omega arith)
  not_ascending_at (k ∷ []) i l h = absurd (omega (arith, l))
  not_ascending_at (k ∷ j ∷ ks) zero l h = ap (λ b. b && ascending order (j ∷ ks)) (sym (h k))
  not_ascending_at (k ∷ j ∷ ks) (suc i) l h =
      ap (λ b. is_less (order k j) && b) (not_ascending_at (j ∷ ks) i (omega (arith, l)) (λ d. h d ∙ behind k j ks i d))
      ∙ and_false (is_less (order k j))

  -- the answer whether each key is below the next
  pub ascending_from_answers : (ks : List K) (all : Bool) → IsAllAdjacentAnswer (λ a b less. less ≡ is_less (order a b)) ks all → all ≡ ascending order ks
  ascending_from_answers ks true h = sym (ascending_from_neighbours ks h)
  ascending_from_answers ks false h = sym (not_ascending_at ks h.0 h.1 h.2)
