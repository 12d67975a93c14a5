-- Walks over the places of a roll: whether all are empty, how many have keys, and the keys that pass a test.
use Rattle.std.proofs.Common.{◌≡◌, ℕ, suc, ◌+◌, ◌-◌, ◌<◌, ◌≤◌, Bool, true, false, cond, leb, List, [], ◌∷◌, length, map, get_or, drop, is_none, Some, None, Option, Ordering, sym, refl, ap, ◌∙◌, subst, arith}
use Rattle.std.specs.Option.{option_zip}
use Rattle.std.specs.List.{slice_get, list_all, filter_map, cons_option, range_with_len}
use Rattle.std.proofs.lemmas.List.{drop_all, drop_more, length-drop, get_or-drop}
use Rattle.std.proofs.lemmas.Option.{slice_get-get_or}
use Rattle.std.proofs.lemmas.List.Folds.{list_all-map}
use Rattle.std.proofs.lemmas.List.FromFn.{fill_by_all}
use Rattle.std.proofs.lemmas.Bool.{le-leb, cond-true}
use Rattle.keys.specs.Order.{Lawful}
use Rattle.rolls.specs.Places.{at, Absent, Distinct, occupied}
use Rattle.key_list.specs.Keys.{put_key}
use Rattle.key_list.proofs.Walks.{same_some}
use Rattle.tables.specs.Listings.{listing, keys_where}
use Rattle.tables.specs.Tabled.{vacant}
use Rattle.tables.proofs.Listed.{some_value, lookup_absent, ascending-listing, length-listing_le}
use Rattle.tables.proofs.Entries.{length-keys_where, keys_where-put}

module _ {K : Type 0} where
  -- what stands at each place, by its number
  by_place : (ps : List (Option K)) → ps ≡ map (at ps) (range_with_len 0 (length ps))
  by_place ps = fill_by_all (at ps) ps (length ps) None refl (λ k h. refl)

  none_held : (ps : List (Option K)) → list_all is_none ps ≡ vacant ps
  none_held [] = refl
  none_held (None ∷ ps) = none_held ps
  none_held (Some k ∷ ps) = refl

  -- whether all places are empty, one after the other
  pub none_at_places : (ps : List (Option K)) → list_all (λ p. is_none (at ps p)) (range_with_len 0 (length ps)) ≡ vacant ps
  none_at_places ps = sym (list_all-map is_none (at ps) (range_with_len 0 (length ps))) ∙ ap (list_all is_none) (sym (by_place ps)) ∙ none_held ps

  keys_held : (ps : List (Option K)) (ns : List ℕ) → filter_map (at ps) ns ≡ filter_map (λ o. o) (map (at ps) ns)
  keys_held ps [] = refl
  keys_held ps (n ∷ ns) = ap (cons_option (at ps n)) (keys_held ps ns)

  length-held : (ps : List (Option K)) → length (filter_map (λ o. o) ps) ≡ occupied ps
  length-held [] = refl
  length-held (None ∷ ps) = length-held ps
  length-held (Some k ∷ ps) = ap suc (length-held ps)

  -- how many keys stand at all places, one after the other
  pub length-at_places : (ps : List (Option K)) → length (filter_map (at ps) (range_with_len 0 (length ps))) ≡ occupied ps
  length-at_places ps =
      ap length (keys_held ps (range_with_len 0 (length ps)) ∙ ap (filter_map (λ o. o)) (sym (by_place ps))) ∙ length-held ps

  -- no place behind one with a key has that key
  absent_behind : (ps : List (Option K)) (i : ℕ) (k : K) → Distinct ps → at ps i ≡ Some k → Absent (drop (i + 1) ps) k
  absent_behind ps i k distinct here p e = let same = distinct (i + 1 + p) i k (sym (get_or-drop (i + 1) ps p None) ∙ e) here in omega arith

module _ {K V : Type 0} where
  -- a place that has a value is empty if it has not both
  zip_none : (o : Option K) (v : V) → option_zip o (Some v) ≡ None → o ≡ None
  zip_none None v e = refl
  zip_none (Some k) v e = cc

  zip_some : (o : Option K) (v w : V) (k : K) → option_zip o (Some v) ≡ Some (k, w) → (o ≡ Some k) × (v ≡ w)
  zip_some None v w k e = cc
  zip_some (Some j) v w k e = let pair : (j, v) ≡ (k, w) = same_some e in (ap (λ x. Some x.0) pair, ap (λ x. x.1) pair)

  -- what the key and the value of a place are together
  pub both_there : (o : Option K) (p : Option V) (k : K) (w : V) → o ≡ Some k → p ≡ Some w → option_zip o p ≡ Some (k, w)
  both_there o p k w e f = ap (λ x. option_zip x p) e ∙ ap (option_zip (Some k)) f

  pub not_both : (o : Option K) (p : Option V) → o ≡ None → option_zip o p ≡ None
  not_both o p e = ap (λ x. option_zip x p) e

-- Downward from the last place: the keys found pass a test and stand at the place n or further on.
module _ {K V : Type 0} (order : K → K → Ordering) (lawful : Lawful order) (test : K → V → Bool) (ps : List (Option K)) (vs : List V) (long : length vs ≡ length ps) where
  -- the keys that are found from a place on
  abbrev pub found_from : ℕ → List K
  found_from n = keys_where test (listing order (drop n ps) (drop n vs))

  pub found_none : (n : ℕ) → length ps ≤ n → found_from n ≡ []
  found_none n past = ap (λ qs. keys_where test (listing order qs (drop n vs))) (drop_all n ps past)

  pub found_all : (n : ℕ) → n ≤ 0 → found_from n ≡ keys_where test (listing order ps vs)
  found_all n end = let first : n ≡ 0 = omega arith in ap found_from first

  few : (n : ℕ) → length (found_from n) ≤ length ps
  few n = omega (arith, length-keys_where test (listing order (drop n ps) (drop n vs)), length-listing_le order (drop n ps) (drop n vs), length-drop n ps)

  module _ (n : ℕ) (low : 0 < n) (high : n ≤ length ps) where
    -- the place below n, and its value
    abbrev pub here : Option K
    here = at ps (n - 1)

    abbrev d : V
    d = some_value vs (omega arith)

    abbrev v : V
    v = get_or vs (n - 1) d

    below : found_from (n - 1) ≡ keys_where test (listing order (here ∷ drop n ps) (v ∷ drop n vs))
    below =
        let next : n - 1 + 1 ≡ n = omega arith in
        ap (λ qs. keys_where test (listing order qs (drop (n - 1) vs))) (drop_more ps (n - 1) None (omega arith) ∙ ap (λ m. here ∷ drop m ps) next)
        ∙ ap (λ ws. keys_where test (listing order (here ∷ drop n ps) ws)) (drop_more vs (n - 1) d (omega arith) ∙ ap (λ m. v ∷ drop m vs) next)

    valued : slice_get vs (n - 1) ≡ Some v
    valued = slice_get-get_or vs (n - 1) d (omega arith)

    pub found-empty : option_zip here (slice_get vs (n - 1)) ≡ None → found_from (n - 1) ≡ found_from n
    found-empty e =
        below ∙ ap (λ o. keys_where test (listing order (o ∷ drop n ps) (v ∷ drop n vs))) (zip_none here v (ap (option_zip here) (sym valued) ∙ e))

    -- the place has a key
    module _ (distinct : Distinct ps) (k : K) (w : V) (both : option_zip here (slice_get vs (n - 1)) ≡ Some (k, w)) where
      found-there : found_from (n - 1) ≡ cond (test k w) (put_key order k (found_from n)) (found_from n)
      found-there =
          let parts = zip_some here v w k (ap (option_zip here) (sym valued) ∙ both) in
          let next : n - 1 + 1 ≡ n = omega arith in
          below
          ∙ ap (λ o. keys_where test (listing order (o ∷ drop n ps) (v ∷ drop n vs))) parts.0
          ∙ keys_where-put order lawful test k v (listing order (drop n ps) (drop n vs)) (ascending-listing order lawful (drop n ps) (drop n vs))
          (lookup_absent order lawful (drop n ps) (drop n vs) k (subst (λ m. Absent (drop m ps) k) next (absent_behind ps (n - 1) k distinct parts.0)))
          ∙ ap (λ x. cond (test k x) (put_key order k (found_from n)) (found_from n)) parts.1

      pub found-fails : test k w ≡ false → found_from (n - 1) ≡ found_from n
      found-fails fails = found-there ∙ ap (λ b. cond b (put_key order k (found_from n)) (found_from n)) fails

      -- of 64 places there is room for each key
      pub found-passes : length ps ≤ 64 → test k w ≡ true → (fits : Bool) (before after : List K) → before ≡ found_from n → fits ≡ leb (length (put_key order k before)) 64 → after ≡ cond fits (put_key order k before) before → after ≡ found_from (n - 1)
      found-passes few_places passes fits before after so_far f e =
          let put : found_from (n - 1) ≡ put_key order k (found_from n) = found-there ∙ ap (λ b. cond b (put_key order k (found_from n)) (found_from n)) passes in
          let there : put_key order k before ≡ found_from (n - 1) = ap (put_key order k) so_far ∙ sym put in
          e
          ∙ cond-true fits (put_key order k before) before (f ∙ le-leb _ _ (omega (arith, ap length there, few (n - 1))))
          ∙ there
