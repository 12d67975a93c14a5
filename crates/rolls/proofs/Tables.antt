-- Lists of places after a write at one of them.
use Rattle.std.proofs.Common.{◌≡◌, ℕ, zero, suc, ◌+◌, ◌<◌, ◌≤◌, ◌⊎◌, List, [], ◌∷◌, length, get_or, set, replicate, Some, None, Ok, Err, Option, Result, sym, refl, ap, ◌∙◌, inl, inr, ⊎_elim, subst, length-set, arith}
use Rattle.std.proofs.lemmas.List.{get_or_past}
use Rattle.std.proofs.lemmas.Bool.{cases_lt}
use Rattle.rolls.specs.declared.fault.RollFault.{RollFault}
use Rattle.rolls.specs.Places.{at, Absent, Distinct, Proper, Entered, Struck, occupied}

-- what a list has after a write at i, whatever it has past its end: what was written, at i, or what it had
pub get_or-after_set : {X : Type 0} (xs : List X) (i p : ℕ) (v d : X) → (get_or (set xs i v) p d ≡ get_or xs p d) ⊎ ((p ≡ i) × (get_or (set xs i v) p d ≡ v))
get_or-after_set [] i p v d = inl refl
get_or-after_set (x ∷ xs) zero zero v d = inr (refl, refl)
get_or-after_set (x ∷ xs) zero (suc p) v d = inl refl
get_or-after_set (x ∷ xs) (suc i) zero v d = inl refl
get_or-after_set (x ∷ xs) (suc i) (suc p) v d = ⊎_elim inl (λ h. inr (ap suc h.0, h.1)) (get_or-after_set xs i p v d)

module _ {K : Type 0} where
  -- a place with a key is not empty
  pub some_none : {X : Type 0} {o : Option K} (k : K) → o ≡ Some k → o ≡ None → X
  some_none k e n = let z : ◌≡◌ {A = ℕ} 0 1 = cc in absurd (omega arith)

  pub same_some : {j k : K} → Some j ≡ Some k → j ≡ k
  same_some e = cc

  -- a place with a key lies within the roll
  pub within : (ps : List (Option K)) (p : ℕ) (k : K) → at ps p ≡ Some k → p < length ps
  within ps p k e = ⊎_elim (λ h. h) (λ h. some_none k e (get_or_past ps p None h)) (cases_lt p (length ps))

  -- what a place has after a write at i: what was written, at i, or what it had
  pub after-set : (ps : List (Option K)) (i p : ℕ) (v : Option K) → (at (set ps i v) p ≡ at ps p) ⊎ ((p ≡ i) × (at (set ps i v) p ≡ v))
  after-set ps i p v = get_or-after_set ps i p v None

  pub distinct_strike : (ps : List (Option K)) (i : ℕ) → Distinct ps → Distinct (set ps i None)
  distinct_strike ps i d p q k e f =
      ⊎_elim
      (λ a. ⊎_elim (λ b. d p q k (sym a ∙ e) (sym b ∙ f)) (λ b. some_none k f b.1) (after-set ps i q None))
      (λ a. some_none k e a.1)
      (after-set ps i p None)

  pub distinct_enter : (ps : List (Option K)) (i : ℕ) (k : K) → Absent ps k → Distinct ps → Distinct (set ps i (Some k))
  distinct_enter ps i k n d p q j e f =
      ⊎_elim
      (λ a. ⊎_elim (λ b. d p q j (sym a ∙ e) (sym b ∙ f)) (λ b. let s : Some j ≡ Some k = sym f ∙ b.1 in absurd (n p (sym a ∙ e ∙ s))) (after-set ps i q (Some k)))
      (λ a. ⊎_elim (λ b. let s : Some j ≡ Some k = sym e ∙ a.1 in absurd (n q (sym b ∙ f ∙ s))) (λ b. a.0 ∙ sym b.0) (after-set ps i q (Some k)))
      (after-set ps i p (Some k))

  -- a new roll: every place is empty
  pub at-vacant : (n p : ℕ) → at {K = K} (replicate n None) p ≡ None
  at-vacant zero p = refl
  at-vacant (suc n) zero = refl
  at-vacant (suc n) (suc p) = at-vacant n p

  pub distinct-vacant : (n : ℕ) → Distinct {K = K} (replicate n None)
  distinct-vacant n p q k e f = some_none k e (at-vacant n p)

  -- one more place has a key
  pub occupied_enter : (ps : List (Option K)) (p : ℕ) (k : K) → p < length ps → at ps p ≡ None → occupied (set ps p (Some k)) ≡ occupied ps + 1
  occupied_enter [] p k h e = absurd (omega arith)
  occupied_enter (None ∷ ps) zero k h e = omega arith
  occupied_enter (Some j ∷ ps) zero k h e = some_none j refl e
  occupied_enter (None ∷ ps) (suc p) k h e = occupied_enter ps p k (omega arith) e
  occupied_enter (Some j ∷ ps) (suc p) k h e = omega (arith, occupied_enter ps p k (omega arith) e)

  -- one place fewer has a key
  pub occupied_strike : (ps : List (Option K)) (p : ℕ) (k : K) → at ps p ≡ Some k → occupied (set ps p None) + 1 ≡ occupied ps
  occupied_strike [] p k e = some_none k e refl
  occupied_strike (None ∷ ps) zero k e = some_none k e refl
  occupied_strike (Some j ∷ ps) zero k e = omega arith
  occupied_strike (None ∷ ps) (suc p) k e = occupied_strike ps p k e
  occupied_strike (Some j ∷ ps) (suc p) k e = omega (arith, occupied_strike ps p k e)

  pub occupied_le : (ps : List (Option K)) → occupied ps ≤ length ps
  occupied_le [] = omega arith
  occupied_le (None ∷ ps) = omega (arith, occupied_le ps)
  occupied_le (Some j ∷ ps) = omega (arith, occupied_le ps)

  -- a roll with an empty place has fewer keys than places
  pub occupied_lt : (ps : List (Option K)) (p : ℕ) → p < length ps → at ps p ≡ None → occupied ps < length ps
  occupied_lt [] p h e = absurd (omega arith)
  occupied_lt (None ∷ ps) p h e = omega (arith, occupied_le ps)
  occupied_lt (Some j ∷ ps) zero h e = some_none j refl e
  occupied_lt (Some j ∷ ps) (suc p) h e = omega (arith, occupied_lt ps p (omega arith) e)

module _ {K : Type 0} where
  -- a roll stays what it is: 1 to 64 places, and no key twice
  pub proper_entered : (before after : List (Option K)) (k : K) (r : Result ℕ RollFault) → Proper before → Entered before after k r → Proper after
  proper_entered before after k (Ok p) h e =
      ⊎_elim
      (λ stood. subst Proper (sym stood.same) h)
      (λ took. subst Proper (sym took.set_there) (record {
        some = rw length-set h.some;
        few = rw length-set h.few;
        distinct = distinct_enter before p k took.absent h.distinct;
      }))
      e
  proper_entered before after k (Err fault) h e = subst Proper (sym e.same) h

  pub proper_struck : (before after : List (Option K)) (p : ℕ) (r : Result (Unit {0}) RollFault) → Proper before → Struck before after p r → Proper after
  proper_struck before after p (Ok done) h e =
      subst Proper (sym e.set_there) (record {
        some = rw length-set h.some;
        few = rw length-set h.few;
        distinct = distinct_strike before p h.distinct;
      })
  proper_struck before after p (Err fault) h e = subst Proper (sym e.same) h

pub occupied-vacant : (K : Type 0) (n : ℕ) → occupied {K = K} (replicate n None) ≡ 0
occupied-vacant K zero = refl
occupied-vacant K (suc n) = occupied-vacant K n
