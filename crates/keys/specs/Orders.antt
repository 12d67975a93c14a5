-- The laws of the comparisons, and the steps of a list that ascends.
use Rattle.std.specs.Prelude.{◌≡◌, ℕ, zero, suc, ◌+◌, ◌-◌, ◌<◌, ◌≤◌, true, false, ◌&&◌, ◌⊎◌, List, [], ◌∷◌, length, drop, ◌≢◌, slice_index, slice_index_or, refl}
use Rattle.std.specs.declared.cmp.Ordering.TheVariants.{Less, Equal, Greater}
use Rattle.std.specs.declared.cmp.Ordering.{Ordering}
use Rattle.std.proofs.Common.{sym, ◌∙◌, ap, inl, inr, ⊎_elim, arith}
use Rattle.std.proofs.lemmas.List.{drop_more}
use Rattle.std.proofs.lemmas.Bool.{cases_order}
use Rattle.std.proofs.lemmas.Bool.Decides.{nat_tests}
use Rattle.keys.specs.Order.{Lawful, flipped, ranked, then_by, lexical, is_less, ascending}

-- two cases of an enum are never the same
pub never : {X : Type 0} → ◌≡◌ {A = ℕ} 0 1 → X
never z = absurd (omega arith)

-- numbers

pub ranked_less : (m n : ℕ) → m < n → ranked m n ≡ Less
ranked_less m n h = grind (arith, nat_tests)

pub ranked_equal : (n : ℕ) → ranked n n ≡ Equal
ranked_equal n = grind (arith, nat_tests)

pub ranked_greater : (m n : ℕ) → n < m → ranked m n ≡ Greater
ranked_greater m n h = grind (arith, nat_tests)

pub less_from_ranked : (m n : ℕ) → ranked m n ≡ Less → m < n
less_from_ranked m n e =
    ⊎_elim
    (λ s. let r = ap (λ x. ranked x n) s ∙ ranked_equal n in never (cc))
    (⊎_elim (λ l. l) (λ g. let r = ranked_greater m n g in never (cc)))
    (cases_order m n)

pub same_from_ranked : (m n : ℕ) → ranked m n ≡ Equal → m ≡ n
same_from_ranked m n e =
    ⊎_elim
    (λ s. s)
    (⊎_elim (λ l. let r = ranked_less m n l in never (cc)) (λ g. let r = ranked_greater m n g in never (cc)))
    (cases_order m n)

pub ranked-flips : (m n : ℕ) → ranked n m ≡ flipped (ranked m n)
ranked-flips m n =
    ⊎_elim
    (λ s. let a : ranked m n ≡ Equal = ap (λ x. ranked x n) s ∙ ranked_equal n in let b : ranked n m ≡ Equal = ap (λ x. ranked n x) s ∙ ranked_equal n in b ∙ ap flipped (sym a))
    (⊎_elim (λ l. ranked_greater n m l ∙ ap flipped (sym (ranked_less m n l))) (λ g. ranked_less n m g ∙ ap flipped (sym (ranked_greater m n g))))
    (cases_order m n)

pub ranked-chains : (a b c : ℕ) → ranked a b ≡ Less → ranked b c ≡ Less → ranked a c ≡ Less
ranked-chains a b c p q = let l = less_from_ranked a b p in let m = less_from_ranked b c q in ranked_less a c (omega arith)

-- lists of numbers

flipped-then_by : (o p : Ordering) → flipped (then_by o p) ≡ then_by (flipped o) (flipped p)
flipped-then_by Less p = refl
flipped-then_by Equal p = refl
flipped-then_by Greater p = refl

pub lexical-flips : (xs ys : List ℕ) → lexical ys xs ≡ flipped (lexical xs ys)
lexical-flips [] [] = refl
lexical-flips [] (y ∷ ys) = refl
lexical-flips (x ∷ xs) [] = refl
lexical-flips (x ∷ xs) (y ∷ ys) =
    ap (λ o. then_by o (lexical ys xs)) (ranked-flips x y)
    ∙ ap (λ o. then_by (flipped (ranked x y)) o) (lexical-flips xs ys)
    ∙ sym (flipped-then_by (ranked x y) (lexical xs ys))

pub lexical-itself : (xs : List ℕ) → lexical xs xs ≡ Equal
lexical-itself [] = refl
lexical-itself (x ∷ xs) = ap (λ o. then_by o (lexical xs xs)) (ranked_equal x) ∙ lexical-itself xs

both_equal : (o p : Ordering) → then_by o p ≡ Equal → (o ≡ Equal) × (p ≡ Equal)
both_equal Less p e = never (cc)
both_equal Equal p e = (refl, e)
both_equal Greater p e = never (cc)

pub same_from_lexical : (xs ys : List ℕ) → lexical xs ys ≡ Equal → xs ≡ ys
same_from_lexical [] [] e = refl
same_from_lexical [] (y ∷ ys) e = never (cc)
same_from_lexical (x ∷ xs) [] e = never (cc)
same_from_lexical (x ∷ xs) (y ∷ ys) e =
    let b = both_equal (ranked x y) (lexical xs ys) e in
    let h = same_from_ranked x y b.0 in
    let t = same_from_lexical xs ys b.1 in
    cc

first_less : (o p : Ordering) → then_by o p ≡ Less → (o ≡ Less) ⊎ ((o ≡ Equal) × (p ≡ Less))
first_less Less p e = inl refl
first_less Equal p e = inr (refl, e)
first_less Greater p e = never (cc)

less_then : (o p : Ordering) → o ≡ Less → then_by o p ≡ Less
less_then o p e = ap (λ x. then_by x p) e

equal_then : (o p : Ordering) → o ≡ Equal → then_by o p ≡ p
equal_then o p e = ap (λ x. then_by x p) e

pub lexical-chains : (xs ys zs : List ℕ) → lexical xs ys ≡ Less → lexical ys zs ≡ Less → lexical xs zs ≡ Less
lexical-chains [] [] zs p q = q
lexical-chains [] (y ∷ ys) [] p q = never (cc)
lexical-chains [] (y ∷ ys) (z ∷ zs) p q = refl
lexical-chains (x ∷ xs) [] zs p q = never (cc)
lexical-chains (x ∷ xs) (y ∷ ys) [] p q = never (cc)
lexical-chains (x ∷ xs) (y ∷ ys) (z ∷ zs) p q =
    ⊎_elim
    (λ a. ⊎_elim
    (λ b. less_then _ _ (ranked-chains x y z a b))
    (λ b. less_then _ _ (ap (λ w. ranked x w) (sym (same_from_ranked y z b.0)) ∙ a))
    (first_less (ranked y z) (lexical ys zs) q))
    (λ a. ⊎_elim
    (λ b. less_then _ _ (ap (λ w. ranked w z) (same_from_ranked x y a.0) ∙ b))
    (λ b. equal_then _ _ (ap (λ w. ranked w z) (same_from_ranked x y a.0) ∙ b.0) ∙ lexical-chains xs ys zs a.1 b.1)
    (first_less (ranked y z) (lexical ys zs) q))
    (first_less (ranked x y) (lexical xs ys) p)

pub lexical_lawful : Lawful lexical
lexical_lawful = record { flips = lexical-flips; chains = lexical-chains; itself = lexical-itself; same = same_from_lexical }

pub ranked_lawful : Lawful ranked
ranked_lawful = record { flips = ranked-flips; chains = ranked-chains; itself = ranked_equal; same = same_from_ranked }

-- what is left of two lists that are as long: the first numbers decide, or else the rest
module _ (xs ys : List ℕ) (i : ℕ) (in_xs : i < length xs) (in_ys : i < length ys) where
  lexical_rest : lexical (drop i xs) (drop i ys) ≡ then_by (ranked (slice_index xs i) (slice_index ys i)) (lexical (drop (i + 1) xs) (drop (i + 1) ys))
  lexical_rest = let p = drop_more xs i 0 in_xs in let q = drop_more ys i 0 in_ys in cc

  pub lexical_less : slice_index xs i < slice_index ys i → lexical (drop i xs) (drop i ys) ≡ Less
  lexical_less h = lexical_rest ∙ less_then _ _ (ranked_less _ _ h)

  pub lexical_greater : slice_index ys i < slice_index xs i → lexical (drop i xs) (drop i ys) ≡ Greater
  lexical_greater h = lexical_rest ∙ ap (λ o. then_by o (lexical (drop (i + 1) xs) (drop (i + 1) ys))) (ranked_greater _ _ h)

  pub lexical_more : slice_index xs i ≡ slice_index ys i → lexical (drop i xs) (drop i ys) ≡ lexical (drop (i + 1) xs) (drop (i + 1) ys)
  lexical_more e = lexical_rest ∙ equal_then _ _ (ap (λ x. ranked x (slice_index ys i)) e ∙ ranked_equal (slice_index ys i))

-- keys compared by a part of theirs that tells them apart
pub lawful_by : {K X : Type 0} (part : K → X) (order : X → X → Ordering) → ((a b : K) → part a ≡ part b → a ≡ b) → Lawful order → Lawful (λ a b. order (part a) (part b))
lawful_by part order apart l =
    record {
      flips = λ a b. l.flips (part a) (part b);
      chains = λ a b c. l.chains (part a) (part b) (part c);
      itself = λ a. l.itself (part a);
      same = λ a b e. apart a b (l.same (part a) (part b) e);
    }

-- lists of keys

not_less : (o : Ordering) → (o ≢ Less) → is_less o ≡ false
not_less Less n = absurd (n refl)
not_less Equal n = refl
not_less Greater n = refl

module _ {K : Type 0} (order : K → K → Ordering) where
  -- what is left of a list from the key before place i on: a is that key, b the one at i
  module _ (ks : List K) (i : ℕ) (a b : K) (low : 1 ≤ i) (high : i < length ks) (e : a ≡ slice_index_or ks (i - 1) a) (f : b ≡ slice_index_or ks i b) where
    ascending_rest : ascending order (drop (i - 1) ks) ≡ (is_less (order a b) && ascending order (drop i ks))
    ascending_rest =
        let p = drop_more ks (i - 1) a (omega arith) in
        let n : i - 1 + 1 ≡ i = omega arith in
        let q = drop_more ks i b high in
        cc

    pub ascending_more : order a b ≡ Less → ascending order (drop (i - 1) ks) ≡ ascending order (drop (i + 1 - 1) ks)
    ascending_more l =
        let n : i + 1 - 1 ≡ i = omega arith in
        ascending_rest ∙ ap (λ o. is_less o && ascending order (drop i ks)) l ∙ ap (λ m. ascending order (drop m ks)) (sym n)

    pub ascending_ends : (order a b ≢ Less) → ascending order (drop (i - 1) ks) ≡ false
    ascending_ends n = ascending_rest ∙ ap (λ t. t && ascending order (drop i ks)) (not_less (order a b) n)

  -- at most one key is left
  pub ascending_all : (ks : List K) (n : ℕ) → length ks ≤ n + 1 → ascending order (drop n ks) ≡ true
  ascending_all [] zero h = refl
  ascending_all [] (suc n) h = refl
  ascending_all (k ∷ []) zero h = refl
  ascending_all (k ∷ j ∷ ks) zero h = absurd (omega arith)
  ascending_all (k ∷ ks) (suc n) h = ascending_all ks n (omega arith)
