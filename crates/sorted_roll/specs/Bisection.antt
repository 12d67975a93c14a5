-- Bisection over the keys of the ranks.
use Rattle.std.specs.Prelude.{◌≡◌, ℕ, ◌+◌, ◌<◌, ◌≤◌, true, false, ◌⊎◌, List, length, get_or, Some, None, Option, ◌≢◌, slice_index_or, refl}
use Rattle.std.specs.declared.cmp.Ordering.TheVariants.{Less, Equal, Greater}
use Rattle.std.specs.declared.cmp.Ordering.{Ordering}
use Rattle.std.proofs.Common.{sym, ◌∙◌, ap, inl, inr, ⊎_elim, arith}
use Rattle.std.proofs.lemmas.List.{get_or_past}
use Rattle.std.proofs.lemmas.Bool.{cases_eq, cases_lt, cases_order, both_ways}
use Rattle.keys.specs.Order.{Lawful, is_less}
use Rattle.rolls.specs.Places.{at, Absent}
use Rattle.rolls.proofs.Tables.{some_none}
use Rattle.sorted_roll.specs.Ranks.{place_of, key_of, below, Ranked, Located}

less_from : (o : Ordering) → is_less o ≡ true → o ≡ Less
less_from Less e = refl
less_from Equal e = absurd (both_ways _ refl e)
less_from Greater e = absurd (both_ways _ refl e)

module _ {K : Type 0} where
  pub cases_option : (o : Option K) → ((a : K) × (o ≡ Some a)) ⊎ (o ≡ None)
  cases_option None = inr refl
  cases_option (Some a) = inl (a, refl)

  pub key_of_past : (ps : List (Option K)) (rs : List ℕ) (i : ℕ) → length rs ≤ i → key_of ps rs i ≡ None
  key_of_past ps rs i h = ap (at ps) (get_or_past rs i (length ps) h) ∙ get_or_past ps (length ps) None (omega arith)

  -- what a rank has, by the place that was read there
  pub key_of_read : (ps : List (Option K)) (rs rs' : List ℕ) (i p : ℕ) → rs' ≡ rs → ((d : ℕ) → p ≡ slice_index_or rs' i d) → key_of ps rs i ≡ at ps p
  key_of_read ps rs rs' i p e f = ap (at ps) (ap (λ xs. get_or xs i (length ps)) (sym e) ∙ sym (f (length ps)))

  -- a rank that has a key is not past the last
  pub rank_within : (ps : List (Option K)) (rs : List ℕ) (i : ℕ) (a : K) → key_of ps rs i ≡ Some a → i < length rs
  rank_within ps rs i a e = ⊎_elim (λ h. h) (λ h. some_none a e (key_of_past ps rs i h)) (cases_lt i (length rs))

module _ {K : Type 0} (order : K → K → Ordering) where
  pub below_is : (o : Option K) (a k : K) → o ≡ Some a → order a k ≡ Less → below order o k ≡ true
  below_is o a k e l = ap (λ x. below order x k) e ∙ ap is_less l

  pub less_from_below : (o : Option K) (a k : K) → o ≡ Some a → below order o k ≡ true → order a k ≡ Less
  less_from_below o a k e b = less_from (order a k) (sym (ap (λ x. below order x k) e) ∙ b)

  pub some_from_below : (o : Option K) (k : K) → below order o k ≡ true → (a : K) × (o ≡ Some a)
  some_from_below None k b = absurd (both_ways _ refl b)
  some_from_below (Some a) k b = (a, refl)

  not-below_from : (o : Option K) (k : K) → ((a : K) → o ≡ Some a → order a k ≢ Less) → below order o k ≡ false
  not-below_from None k n = refl
  not-below_from (Some a) k n = not_less (order a k) (n a refl)
    where
      not_less : (o : Ordering) → (o ≢ Less) → is_less o ≡ false
      not_less Less f = absurd (f refl)
      not_less Equal f = refl
      not_less Greater f = refl

  module _ (lawful : Lawful order) (ps : List (Option K)) (rs : List ℕ) (room : ℕ) (sound : Ranked order ps rs room) (k : K) where
    -- the key of a rank within the last
    pub held_key : (i : ℕ) → i < length rs → (a : K) × (key_of ps rs i ≡ Some a)
    held_key i h = ⊎_elim (λ x. x) (λ n. absurd (sound.held i h n)) (cases_option (key_of ps rs i))

    -- where the key in the middle is below, so is every key before it
    pub before_middle : (mid : ℕ) → below order (key_of ps rs mid) k ≡ true → (i : ℕ) → i < mid + 1 → below order (key_of ps rs i) k ≡ true
    before_middle mid b i h =
        let m = some_from_below (key_of ps rs mid) k b in
        let in_ranks = rank_within ps rs mid m.0 m.1 in
        let less = less_from_below (key_of ps rs mid) m.0 k m.1 b in
        ⊎_elim
        (λ e. ap (λ x. below order (key_of ps rs x) k) e ∙ b)
        (λ n. let x = held_key i (omega arith) in
        below_is (key_of ps rs i) x.0 k x.1 (lawful.chains x.0 m.0 k (sound.ascends i mid x.0 m.0 (omega arith) x.1 m.1) less))
        (cases_eq i mid)

    -- where it is not below, no key from it on is
    pub from_middle : (mid : ℕ) → mid < length rs → below order (key_of ps rs mid) k ≡ false → (i : ℕ) → mid ≤ i → below order (key_of ps rs i) k ≡ false
    from_middle mid within b i h =
        let m = held_key mid within in
        ⊎_elim
        (λ e. ap (λ x. below order (key_of ps rs x) k) e ∙ b)
        (λ n. not-below_from (key_of ps rs i) k
        (λ a e l. both_ways _ b (below_is (key_of ps rs mid) m.0 k m.1 (lawful.chains m.0 a k (sound.ascends mid i m.0 a (omega arith) m.1 e) l))))
        (cases_eq i mid)

    -- at the start nothing is known, and past the last rank no key is below
    pub from_last : (i : ℕ) → length rs ≤ i → below order (key_of ps rs i) k ≡ false
    from_last i h = ap (λ o. below order o k) (key_of_past ps rs i h)

    -- a key that a place has stands at the rank that bisection finds
    pub rank_of_key : (r : ℕ) → Located order ps rs k r → (p : ℕ) → at ps p ≡ Some k → (r < length rs) × (place_of ps rs r ≡ p)
    rank_of_key r found p e =
        let l = sound.listed p k e in
        let i = l.0 in
        let here : key_of ps rs i ≡ Some k = ap (at ps) l.2 ∙ e in
        let same : i ≡ r =
        ⊎_elim
        (λ s. s)
        (⊎_elim
        (λ lt. let q : order k k ≡ Less = less_from_below (key_of ps rs i) k k here (found.before i lt) in let z : ◌≡◌ {A = ℕ} 0 1 = let f = lawful.itself k in cc in absurd (omega arith))
        (λ gt. let x = held_key r (omega arith) in
        absurd (both_ways _ (found.from r (omega arith)) (below_is (key_of ps rs r) x.0 k x.1 (sound.ascends r i x.0 k gt x.1 here)))))
        (cases_order i r) in
        (omega arith, ap (place_of ps rs) (sym same) ∙ l.2)

    -- where the rank that bisection finds has not the key itself, no place has
    pub absent_unless : (r : ℕ) → Located order ps rs k r → ((a : K) → key_of ps rs r ≡ Some a → order a k ≢ Equal) → Absent ps k
    absent_unless r found n p e =
        n k (ap (at ps) (rank_of_key r found p e).1 ∙ e) (lawful.itself k)
