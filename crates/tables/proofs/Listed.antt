-- The listing of places with values: look-ups in it, and what entering, writing and striking do to it.
use Rattle.std.proofs.Common.{◌≡◌, ℕ, zero, suc, ◌<◌, ◌≤◌, true, false, ◌≢◌, ◌⊎◌, List, [], ◌∷◌, length, get_or, set, Some, None, Option, Ordering, sym, refl, ap, ◌∙◌, inl, inr, ⊎_elim, arith}
use Rattle.std.proofs.lemmas.List.{length-set, get_or-set_same, get_or-set_other, set-get_or}
use Rattle.std.specs.List.{slice_get}
use Rattle.std.proofs.lemmas.Option.{slice_get-get_or}
use Rattle.std.proofs.lemmas.Bool.{both_ways}
use Rattle.keys.specs.Order.{Lawful}
use Rattle.rolls.specs.Places.{at, Absent, Distinct, occupied}
use Rattle.rolls.proofs.Tables.{some_none, same_some, within, after-set, distinct_enter, distinct_strike}
use Rattle.tables.specs.Listings.{lookup, put, cut, Ascending, listing}
use Rattle.tables.specs.Tabled.{vacant}
use Rattle.tables.proofs.Entries.{same_or_not, lookup-put_same, lookup-put_other, lookup-cut_same, lookup-cut_other, ascending-put, ascending-cut, same_from_lookups, length-put_new, length-put_le}

module _ {K : Type 0} where
  -- what stands at a place, written there again
  pub set_again : (ps : List (Option K)) (p : ℕ) (v : Option K) → at ps p ≡ v → set ps p v ≡ ps
  set_again ps p v e = ap (set ps p) (sym e) ∙ set-get_or ps p None

  distinct_rest : (o : Option K) (ps : List (Option K)) → Distinct (o ∷ ps) → Distinct ps
  distinct_rest o ps d p q k e f = let s = d (suc p) (suc q) k e f in omega arith

  -- a key that stands at a place stands at no later one
  absent_later : (k : K) (ps : List (Option K)) → Distinct (Some k ∷ ps) → Absent ps k
  absent_later k ps d p e = let s = d zero (suc p) k refl e in omega arith

  -- places with a key written again stay as they are
  distinct_again : (ps : List (Option K)) (p : ℕ) (k : K) → at ps p ≡ Some k → Distinct ps → Distinct (set ps p (Some k))
  distinct_again ps p k e d = rw (set_again ps p (Some k) e) d

pub some_value : {V : Type 0} (vs : List V) → 0 < length vs → V
some_value [] h = absurd (omega arith)
some_value (v ∷ vs) h = v

module _ {K : Type 0} (order : K → K → Ordering) (lawful : Lawful order) where
  -- some place has the key, or none has
  pub placed : (ps : List (Option K)) (k : K) → ((p : ℕ) × (at ps p ≡ Some k)) ⊎ Absent ps k
  placed [] k = inr (λ p e. some_none k e refl)
  placed (None ∷ ps) k = ⊎_elim (λ x. inl (suc x.0, x.1)) (λ n. inr (later n)) (placed ps k)
    where
      later : Absent ps k → Absent (None ∷ ps) k
      later n zero e = some_none k e refl
      later n (suc p) e = n p e
  placed (Some j ∷ ps) k = ⊎_elim (λ s. inl (zero, ap Some s)) (λ d. ⊎_elim (λ x. inl (suc x.0, x.1)) (λ n. inr (later d n)) (placed ps k)) (same_or_not order lawful j k)
    where
      later : (j ≡ k → ⊥) → Absent ps k → Absent (Some j ∷ ps) k
      later d n zero e = d (same_some e)
      later d n (suc p) e = n p e

  module _ {V : Type 0} where
    pub lookup_absent : (ps : List (Option K)) (vs : List V) (k : K) → Absent ps k → lookup order k (listing order ps vs) ≡ None
    lookup_absent [] vs k n = refl
    lookup_absent (o ∷ ps) [] k n = refl
    lookup_absent (None ∷ ps) (v ∷ vs) k n = lookup_absent ps vs k (λ p e. n (suc p) e)
    lookup_absent (Some j ∷ ps) (v ∷ vs) k n =
        lookup-put_other order lawful j k v (listing order ps vs) (λ s. n zero (ap Some s)) ∙ lookup_absent ps vs k (λ p e. n (suc p) e)

    pub lookup-listing : (ps : List (Option K)) (vs : List V) (p : ℕ) (k : K) (d : V) → length vs ≡ length ps → Distinct ps → at ps p ≡ Some k → lookup order k (listing order ps vs) ≡ Some (get_or vs p d)
    lookup-listing [] vs p k d l u e = some_none k e refl
    lookup-listing (o ∷ ps) [] p k d l u e = absurd (omega arith)
    lookup-listing (None ∷ ps) (v ∷ vs) zero k d l u e = some_none k e refl
    lookup-listing (None ∷ ps) (v ∷ vs) (suc p) k d l u e = lookup-listing ps vs p k d (omega arith) (distinct_rest None ps u) e
    lookup-listing (Some j ∷ ps) (v ∷ vs) zero k d l u e =
        ap (λ x. lookup order x (put order j v (listing order ps vs))) (sym (same_some e)) ∙ lookup-put_same order lawful j v (listing order ps vs)
    lookup-listing (Some j ∷ ps) (v ∷ vs) (suc p) k d l u e =
        lookup-put_other order lawful j k v (listing order ps vs) (λ s. absent_later j ps u p (e ∙ ap Some (sym s)))
        ∙ lookup-listing ps vs p k d (omega arith) (distinct_rest (Some j) ps u) e

    -- a key that stands at a place has the value there
    pub lookup-at_place : (ps : List (Option K)) (vs : List V) (p : ℕ) (k : K) → length vs ≡ length ps → Distinct ps → at ps p ≡ Some k → lookup order k (listing order ps vs) ≡ slice_get vs p
    lookup-at_place ps vs p k long distinct e =
        let inside = within ps p k e in
        let d = some_value vs (omega arith) in
        lookup-listing ps vs p k d long distinct e ∙ sym (slice_get-get_or vs p d (omega arith))

    pub ascending-listing : (ps : List (Option K)) (vs : List V) → Ascending order (listing order ps vs)
    ascending-listing [] vs = tt
    ascending-listing (o ∷ ps) [] = tt
    ascending-listing (None ∷ ps) (v ∷ vs) = ascending-listing ps vs
    ascending-listing (Some k ∷ ps) (v ∷ vs) = ascending-put order lawful k v (listing order ps vs) (ascending-listing ps vs)

    module _ (ps : List (Option K)) (vs : List V) (p : ℕ) (k : K) (long : length vs ≡ length ps) (distinct : Distinct ps) (inside : p < length ps) where
      -- a value written at a place that has the key, or that was empty while the key was absent
      module _ (v : V) (fits : (at ps p ≡ Some k) ⊎ ((at ps p ≡ None) × Absent ps k)) where
        distinct-after : Distinct (set ps p (Some k))
        distinct-after = ⊎_elim (λ e. distinct_again ps p k e distinct) (λ x. distinct_enter ps p k x.1 distinct) fits

        long_after : length (set vs p v) ≡ length (set ps p (Some k))
        long_after = length-set vs p v ∙ long ∙ sym (length-set ps p (Some k))

        -- another key does not stand at the place
        not_there : (q : K) (j : ℕ) → (k ≡ q → ⊥) → at ps j ≡ Some q → j ≢ p
        not_there q j n e s =
            ⊎_elim (λ x. n (same_some (sym x ∙ ap (at ps) (sym s) ∙ e))) (λ x. some_none q (ap (at ps) (sym s) ∙ e) x.0) fits

        looked : (q : K) → lookup order q (listing order (set ps p (Some k)) (set vs p v)) ≡ lookup order q (put order k v (listing order ps vs))
        looked q =
            ⊎_elim
            (λ s.
            ap (λ x. lookup order x (listing order (set ps p (Some k)) (set vs p v))) (sym s)
            ∙ lookup-listing (set ps p (Some k)) (set vs p v) p k v long_after distinct-after (get_or-set_same ps p (Some k) None inside)
            ∙ ap Some (get_or-set_same vs p v v (omega arith))
            ∙ sym (lookup-put_same order lawful k v (listing order ps vs))
            ∙ ap (λ x. lookup order x (put order k v (listing order ps vs))) s)
            (λ n. ⊎_elim
            (λ x.
            let other = not_there q x.0 n x.1 in
            lookup-listing (set ps p (Some k)) (set vs p v) x.0 q v long_after distinct-after (get_or-set_other ps p x.0 (Some k) None other ∙ x.1)
            ∙ ap Some (get_or-set_other vs p x.0 v v other)
            ∙ sym (lookup-put_other order lawful k q v (listing order ps vs) n ∙ lookup-listing ps vs x.0 q v long distinct x.1))
            (λ a.
            lookup_absent (set ps p (Some k)) (set vs p v) q (λ j e. ⊎_elim (λ b. a j (sym b ∙ e)) (λ b. n (same_some (sym b.1 ∙ e))) (after-set ps p j (Some k)))
            ∙ sym (lookup-put_other order lawful k q v (listing order ps vs) n ∙ lookup_absent ps vs q a))
            (placed ps q))
            (same_or_not order lawful k q)

        pub listing-put : listing order (set ps p (Some k)) (set vs p v) ≡ put order k v (listing order ps vs)
        listing-put =
            same_from_lookups order lawful _ _ (ascending-listing (set ps p (Some k)) (set vs p v)) (ascending-put order lawful k v (listing order ps vs) (ascending-listing ps vs)) looked

      -- a place that is struck, whatever value stands there then
      module _ (ws : List V) (here : at ps p ≡ Some k) (same_length : length ws ≡ length vs) (same_values : (j : ℕ) (d : V) → j ≢ p → get_or ws j d ≡ get_or vs j d) where
        cut_looked : (q : K) → lookup order q (listing order (set ps p None) ws) ≡ lookup order q (cut order k (listing order ps vs))
        cut_looked q =
            ⊎_elim
            (λ s.
            ap (λ x. lookup order x (listing order (set ps p None) ws)) (sym s)
            ∙ lookup_absent (set ps p None) ws k (λ j e. ⊎_elim (λ b. gone j e b) (λ b. some_none k e b.1) (after-set ps p j None))
            ∙ sym (lookup-cut_same order lawful k (listing order ps vs))
            ∙ ap (λ x. lookup order x (cut order k (listing order ps vs))) s)
            (λ n. ⊎_elim
            (λ x.
            let other : x.0 ≢ p = λ s. n (same_some (sym here ∙ ap (at ps) (sym s) ∙ x.1)) in
            found q n x.0 x.1 other)
            (λ a.
            lookup_absent (set ps p None) ws q (λ j e. ⊎_elim (λ b. a j (sym b ∙ e)) (λ b. some_none q e b.1) (after-set ps p j None))
            ∙ sym (lookup-cut_other order lawful k q (listing order ps vs) n ∙ lookup_absent ps vs q a))
            (placed ps q))
            (same_or_not order lawful k q)
          where
            gone : (j : ℕ) → at (set ps p None) j ≡ Some k → at (set ps p None) j ≡ at ps j → ⊥
            gone j e b =
                let s : j ≡ p = distinct j p k (sym b ∙ e) here in
                some_none k e (ap (at (set ps p None)) s ∙ get_or-set_same ps p None None inside)

            found : (q : K) → (k ≡ q → ⊥) → (j : ℕ) → at ps j ≡ Some q → j ≢ p → lookup order q (listing order (set ps p None) ws) ≡ lookup order q (cut order k (listing order ps vs))
            found q n j e other =
                let d = some_value vs (omega arith) in
                lookup-listing (set ps p None) ws j q d (same_length ∙ long ∙ sym (length-set ps p None)) (distinct_strike ps p distinct) (get_or-set_other ps p j None None other ∙ e)
                ∙ ap Some (same_values j d other)
                ∙ sym (lookup-cut_other order lawful k q (listing order ps vs) n ∙ lookup-listing ps vs j q d long distinct e)

        pub listing-cut : listing order (set ps p None) ws ≡ cut order k (listing order ps vs)
        listing-cut =
            same_from_lookups order lawful _ _ (ascending-listing (set ps p None) ws) (ascending-cut order lawful k (listing order ps vs) (ascending-listing ps vs)) cut_looked

    -- a value written at the place of its key
    pub listing-write : (ps : List (Option K)) (vs : List V) (p : ℕ) (k : K) (v : V) → length vs ≡ length ps → Distinct ps → at ps p ≡ Some k → listing order ps (set vs p v) ≡ put order k v (listing order ps vs)
    listing-write ps vs p k v long distinct e =
        ap (λ qs. listing order qs (set vs p v)) (sym (set_again ps p (Some k) e))
        ∙ listing-put ps vs p k long distinct (within ps p k e) v (inl e)

    -- a listing has an entry for each key
    pub length-listing : (ps : List (Option K)) (vs : List V) → length vs ≡ length ps → Distinct ps → length (listing order ps vs) ≡ occupied ps
    length-listing [] vs l u = refl
    length-listing (o ∷ ps) [] l u = absurd (omega arith)
    length-listing (None ∷ ps) (v ∷ vs) l u = length-listing ps vs (omega arith) (distinct_rest None ps u)
    length-listing (Some k ∷ ps) (v ∷ vs) l u =
        length-put_new order lawful k v (listing order ps vs) (lookup_absent ps vs k (absent_later k ps u))
        ∙ ap suc (length-listing ps vs (omega arith) (distinct_rest (Some k) ps u))

module _ {K V : Type 0} (order : K → K → Ordering) where
  -- a listing has no more entries than there are places
  pub length-listing_le : (ps : List (Option K)) (vs : List V) → length (listing order ps vs) ≤ length ps
  length-listing_le [] vs = omega arith
  length-listing_le (o ∷ ps) [] = omega arith
  length-listing_le (None ∷ ps) (v ∷ vs) = omega (arith, length-listing_le ps vs)
  length-listing_le (Some k ∷ ps) (v ∷ vs) = omega (arith, length-listing_le ps vs, length-put_le order k v (listing order ps vs))

  -- where no place has a key there is no entry, whatever the values
  pub listing-vacant : (ps : List (Option K)) (vs : List V) → vacant ps ≡ true → listing order ps vs ≡ []
  listing-vacant [] vs e = refl
  listing-vacant (None ∷ ps) [] e = refl
  listing-vacant (None ∷ ps) (v ∷ vs) e = listing-vacant ps vs e
  listing-vacant (Some k ∷ ps) vs e = absurd (both_ways false refl e)
