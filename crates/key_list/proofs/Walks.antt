-- A list that is walked by index: what is there at an index, and what is left from it on.
use Rattle.std.proofs.Common.{◌≡◌, ℕ, zero, suc, ◌+◌, ◌<◌, ◌≤◌, Bool, cond, ltb, List, [], ◌∷◌, ◌++◌, length, take, drop, Some, None, Option, sym, refl, ap, ◌∙◌, subst, arith}
use Rattle.std.proofs.lemmas.Bool.{lt-ltb, cond_both}
use Rattle.std.specs.List.{slice_get}
use Rattle.std.proofs.lemmas.List.{drop_all, length-append}
use Rattle.keys.specs.Orders.{never}

module _ {X : Type 0} where
  pub same_some : {x y : X} → Some x ≡ Some y → x ≡ y
  same_some e = cc

  pub some_none : {Y : Type 0} {o : Option X} (x : X) → o ≡ Some x → o ≡ None → Y
  some_none x e f = never (cc)

  -- at an index that has an item

  pub within_from_nth : (xs : List X) (i : ℕ) (x : X) → slice_get xs i ≡ Some x → i < length xs
  within_from_nth [] i x e = some_none x e refl
  within_from_nth (y ∷ xs) zero x e = omega arith
  within_from_nth (y ∷ xs) (suc i) x e = omega (arith, within_from_nth xs i x e)

  pub drop_from_nth : (xs : List X) (i : ℕ) (x : X) → slice_get xs i ≡ Some x → drop i xs ≡ x ∷ drop (i + 1) xs
  drop_from_nth [] i x e = some_none x e refl
  drop_from_nth (y ∷ xs) zero x e = ap (λ z. z ∷ xs) (same_some e)
  drop_from_nth (y ∷ xs) (suc i) x e = let n : suc (i + 1) ≡ suc i + 1 = omega arith in drop_from_nth xs i x e ∙ ap (λ m. x ∷ drop m (y ∷ xs)) n

  pub take_from_nth : (xs : List X) (i : ℕ) (x : X) → slice_get xs i ≡ Some x → take (i + 1) xs ≡ take i xs ++ x ∷ []
  take_from_nth [] i x e = some_none x e refl
  take_from_nth (y ∷ xs) zero x e = ap (λ z. z ∷ []) (same_some e)
  take_from_nth (y ∷ xs) (suc i) x e =
      let n : suc i + 1 ≡ suc (i + 1) = omega arith in ap (λ m. take m (y ∷ xs)) n ∙ ap (λ zs. y ∷ zs) (take_from_nth xs i x e)

  -- at an index that has none

  pub past_from_nth : (xs : List X) (i : ℕ) → slice_get xs i ≡ None → length xs ≤ i
  past_from_nth [] i e = omega arith
  past_from_nth (y ∷ xs) zero e = some_none y refl e
  past_from_nth (y ∷ xs) (suc i) e = omega (arith, past_from_nth xs i e)

  pub drop_from_none : (xs : List X) (i : ℕ) → slice_get xs i ≡ None → drop i xs ≡ []
  drop_from_none xs i e = drop_all i xs (past_from_nth xs i e)

-- an item behind the last, where there is room
module _ {X : Type 0} (xs ys : List X) (x : X) (done : Bool) (room : done ≡ ltb (length xs) 64) (put : ys ≡ cond done (xs ++ x ∷ []) xs) where
  pub pushed_last : length xs < 64 → ys ≡ xs ++ x ∷ []
  pushed_last h = put ∙ ap (λ t. cond t (xs ++ x ∷ []) xs) (room ∙ lt-ltb (length xs) 64 h)

  pub pushed_one : length ys ≤ length xs + 1
  pushed_one = subst (λ zs. length zs ≤ length xs + 1) (sym put) (cond_both done (xs ++ x ∷ []) xs (λ zs. length zs ≤ length xs + 1) (λ t. simp length-append (omega arith)) (λ f. omega arith))
