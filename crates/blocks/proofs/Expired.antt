-- Entries that have expired and entries that have not: what a cut does to them, and when there is none that has.
use Rattle.std.proofs.Common.{◌≡◌, Bool, true, false, cond, not, ◌||◌, List, [], ◌∷◌, ◌++◌, Some, Ordering, sym, refl, ap, ◌∙◌, subst, ⊎_elim}
use Rattle.std.proofs.lemmas.Bool.{not-false, not-true, not_from_true, or_from, or_left, or_right}
use Rattle.keys.specs.Order.{Lawful}
use Rattle.types.specs.Times.{earlier}
use Rattle.types.specs.declared.moment.Moment.{Moment}
use Rattle.key_list.specs.Keys.{is_equal}
use Rattle.key_list.proofs.Walks.{same_some, some_none}
use Rattle.tables.specs.Listings.{lookup, cut, Ascending}
use Rattle.tables.proofs.Entries.{equal_itself, same_from_equal, same_or_not, lookup-before, lookup-cut_same, lookup-cut_other}
use Rattle.tables.proofs.Walks.{cut_between}
use Rattle.model.specs.Calls.{unexpired, any_expired}
use Rattle.blocks.specs.Passed.{has_expired}

module _ {K V : Type 0} where
  -- an entry that is found, and what stands in front of it and behind it
  pub record Between (es : List (K × V)) (k : K) (v : V) : Type 0 where
    pub done : List (K × V)
    pub rest : List (K × V)
    pub whole : es ≡ done ++ (k, v) ∷ rest

  module _ (order : K → K → Ordering) (lawful : Lawful order) where
    pub between_from_lookup : (k : K) (v : V) (es : List (K × V)) → lookup order k es ≡ Some v → Between es k v
    between_from_lookup k v [] l = some_none v l refl
    between_from_lookup k v (e ∷ es) l = by (between_from_lookup k v es) (is_equal (order e.0 k)) refl
      where
        pair_same : (x : K × V) → x.0 ≡ k → x.1 ≡ v → x ≡ (k, v)
        pair_same x p q = λ i. (p i, q i)

        looked : (t : Bool) → is_equal (order e.0 k) ≡ t → cond t (Some e.1) (lookup order k es) ≡ Some v
        looked t h = sym (ap (λ s. cond s (Some e.1) (lookup order k es)) h) ∙ l

        by : (lookup order k es ≡ Some v → Between es k v) → (t : Bool) → is_equal (order e.0 k) ≡ t → Between (e ∷ es) k v
        by later true h = record { done = []; rest = es; whole = ap (λ x. x ∷ es) (pair_same e (same_from_equal order lawful e.0 k h) (same_some (looked true h))) }
        by later false h = let b = later (looked false h) in record { done = e ∷ b.done; rest = b.rest; whole = ap (λ xs. e ∷ xs) b.whole }

module _ {K : Type 0} (moment : Moment) where
  unexpired-append : (es fs : List (K × Moment)) → unexpired moment (es ++ fs) ≡ unexpired moment es ++ unexpired moment fs
  unexpired-append [] fs = refl
  unexpired-append (e ∷ es) fs = by (earlier moment e.1) (unexpired-append es fs)
    where
      by : (t : Bool) → unexpired moment (es ++ fs) ≡ unexpired moment es ++ unexpired moment fs
          → cond t (e ∷ unexpired moment (es ++ fs)) (unexpired moment (es ++ fs)) ≡ cond t (e ∷ unexpired moment es) (unexpired moment es) ++ unexpired moment fs
      by true rest = ap (λ xs. e ∷ xs) rest
      by false rest = rest

  any_expired-append : (es fs : List (K × Moment)) → any_expired moment (es ++ fs) ≡ (any_expired moment es || any_expired moment fs)
  any_expired-append [] fs = refl
  any_expired-append (e ∷ es) fs = by (not (earlier moment e.1)) (any_expired-append es fs)
    where
      by : (t : Bool) → any_expired moment (es ++ fs) ≡ (any_expired moment es || any_expired moment fs) → (t || any_expired moment (es ++ fs)) ≡ ((t || any_expired moment es) || any_expired moment fs)
      by true rest = refl
      by false rest = rest

  module _ (order : K → K → Ordering) (lawful : Lawful order) (es : List (K × Moment)) where
    -- the entry of a key has expired
    module _ (k : K) (v : Moment) (found : lookup order k es ≡ Some v) (expired : not (earlier moment v) ≡ true) where
      pub some_expired : any_expired moment es ≡ true
      some_expired =
          let b = between_from_lookup order lawful k v es found in
          ap (any_expired moment) b.whole
          ∙ any_expired-append b.done ((k, v) ∷ b.rest)
          ∙ or_right (any_expired moment b.done) (any_expired moment ((k, v) ∷ b.rest)) (or_left (not (earlier moment v)) (any_expired moment b.rest) expired)

      -- without it, those that have not expired are the same
      pub unexpired-cut : Ascending order es → unexpired moment (cut order k es) ≡ unexpired moment es
      unexpired-cut a =
          let b = between_from_lookup order lawful k v es found in
          ap (λ xs. unexpired moment (cut order k xs)) b.whole
          ∙ ap (unexpired moment) (cut_between order lawful b.done b.rest k v (subst (Ascending order) b.whole a))
          ∙ unexpired-append b.done b.rest
          ∙ sym (ap (λ t. unexpired moment b.done ++ cond t ((k, v) ∷ unexpired moment b.rest) (unexpired moment b.rest)) (not-true (earlier moment v) expired))
          ∙ sym (unexpired-append b.done ((k, v) ∷ b.rest))
          ∙ sym (ap (unexpired moment) b.whole)

    -- a cut makes no entry expired
    pub cut-unexpired : (j k : K) → has_expired moment (lookup order j es) ≡ false → has_expired moment (lookup order j (cut order k es)) ≡ false
    cut-unexpired j k h =
        ⊎_elim
        (λ s. ap (λ x. has_expired moment (lookup order x (cut order k es))) (sym s) ∙ ap (has_expired moment) (lookup-cut_same order lawful k es))
        (λ n. ap (has_expired moment) (lookup-cut_other order lawful k j es n) ∙ h)
        (same_or_not order lawful k j)

  -- no entry has expired
  pub record NoneExpired (es : List (K × Moment)) : Type 0 where
    pub all_stay : unexpired moment es ≡ es
    pub none : any_expired moment es ≡ false

  module _ (order : K → K → Ordering) (lawful : Lawful order) where
    pub none_expired : (es : List (K × Moment)) → Ascending order es → ((k : K) → has_expired moment (lookup order k es) ≡ false) → NoneExpired es
    none_expired [] a h = record { all_stay = refl; none = refl }
    none_expired (e ∷ es) a h = by (none_expired es a.1 (λ k. later k (is_equal (order e.0 k)) refl)) first
      where
        first : earlier moment e.1 ≡ true
        first =
            not-false (earlier moment e.1)
            (sym (ap (λ t. has_expired moment (cond t (Some e.1) (lookup order e.0 es))) (equal_itself order lawful e.0)) ∙ h e.0)

        later : (k : K) (t : Bool) → is_equal (order e.0 k) ≡ t → has_expired moment (lookup order k es) ≡ false
        later k true s =
            ap (λ x. has_expired moment (lookup order x es)) (sym (same_from_equal order lawful e.0 k s))
            ∙ ap (has_expired moment) (lookup-before order lawful e.0 es a.0 a.1)
        later k false s = sym (ap (λ t. has_expired moment (cond t (Some e.1) (lookup order k es))) s) ∙ h k

        by : NoneExpired es → earlier moment e.1 ≡ true → NoneExpired (e ∷ es)
        by rest t =
            record {
              all_stay = ap (λ s. cond s (e ∷ unexpired moment es) (unexpired moment es)) t ∙ ap (λ xs. e ∷ xs) rest.all_stay;
              none = or_from (not (earlier moment e.1)) (any_expired moment es) (not_from_true (earlier moment e.1) t) rest.none;
            }
