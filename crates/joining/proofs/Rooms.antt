-- How many records there are after joining, and how many of the keys that join had none before.
use Rattle.std.proofs.Common.{◌≡◌, ℕ, suc, ◌+◌, ◌≤◌, Bool, true, false, cond, not, List, [], ◌∷◌, ◌++◌, length, is_some, Some, None, Option, Ordering, sym, refl, ap, ◌∙◌, add-zero, suc-add, zero-add, arith}
use Rattle.std.proofs.lemmas.Bool.{both_ways, and_right, or_left, or_right, or_parts, cond-true, cond-false}
use Rattle.keys.specs.Order.{Lawful, is_less, ascending}
use Rattle.key_list.specs.Keys.{is_equal, has, without}
use Rattle.record.specs.Records.{primary_up, secondary_up}
use Rattle.record.specs.declared.record.Record.{Record}
use Rattle.tables.specs.Listings.{lookup, put, Ascending}
use Rattle.tables.proofs.Entries.{Answer, below, same, above, answer, below_from_above, unequal, equal_itself, lookup-before, lookup-put_other, ascending-put, length-put_new}
use Rattle.model.specs.There.{changed, each_there}
use Rattle.model.specs.Track.{known, each, joined, newcomers}
use Rattle.joining.proofs.Where.{length-put_old, length-put_le}
use Rattle.joining.proofs.Joining.{unequal_since, has-below, first_once, ascends_rest, has-without, ascends-without, ascending_each, lookup_each}

module _ {K : Type 0} (order : K → K → Ordering) where
  -- the keys of one list and then those of another

  pub each_append : (change : Record K → Record K) (xs ys : List K) (records : List (K × Record K)) → each order change (xs ++ ys) records ≡ each order change ys (each order change xs records)
  each_append change [] ys records = refl
  each_append change (x ∷ xs) ys records = each_append change xs ys (put order x (change (known order records x)) records)

  pub each_there-append : (change : Record K → Record K) (xs ys : List K) (records : List (K × Record K)) → each_there order change (xs ++ ys) records ≡ each_there order change ys (each_there order change xs records)
  each_there-append change [] ys records = refl
  each_there-append change (x ∷ xs) ys records =
      each_there-append change xs ys (changed order change x (lookup order x records) records)

  pub newcomers-append : (xs ys : List K) (records : List (K × Record K)) → newcomers order (xs ++ ys) records ≡ newcomers order xs records + newcomers order ys records
  newcomers-append [] ys records = sym (zero-add (newcomers order ys records))
  newcomers-append (x ∷ xs) ys records = by (is_some (lookup order x records)) (newcomers-append xs ys records)
    where
      by : (t : Bool) → newcomers order (xs ++ ys) records ≡ newcomers order xs records + newcomers order ys records → cond t (newcomers order (xs ++ ys) records) (suc (newcomers order (xs ++ ys) records)) ≡ cond t (newcomers order xs records) (suc (newcomers order xs records)) + newcomers order ys records
      by true rest = rest
      by false rest = ap suc rest ∙ sym (suc-add (newcomers order xs records) (newcomers order ys records))

module _ {K : Type 0} (order : K → K → Ordering) (lawful : Lawful order) where
  -- the keys that have no record

  -- where two lists have the same records of the keys, as many keys have none in the one as in the other
  newcomers_same : (ks : List K) (es fs : List (K × Record K)) → ((j : K) → has order j ks ≡ true → lookup order j es ≡ lookup order j fs) → newcomers order ks es ≡ newcomers order ks fs
  newcomers_same [] es fs agree = refl
  newcomers_same (k ∷ ks) es fs agree =
      ap (λ o. cond (is_some o) (newcomers order ks es) (suc (newcomers order ks es))) (agree k (or_left _ _ (equal_itself order lawful k)))
      ∙ ap (λ n. cond (is_some (lookup order k fs)) n (suc n)) (newcomers_same ks es fs (λ j h. agree j (or_right _ _ h)))

  -- a key that a list lacks is none of those that it has
  apart : (j k : K) (ks : List K) → has order k ks ≡ false → has order j ks ≡ true → k ≡ j → ⊥
  apart j k ks n h s = both_ways (has order j ks) (ap (λ x. has order x ks) (sym s) ∙ n) h

  -- the record of a key that is not in the list stays
  pub lookup_each_other : (change : Record K → Record K) (k : K) (ks : List K) (records : List (K × Record K)) → has order k ks ≡ false → lookup order k (each order change ks records) ≡ lookup order k records
  lookup_each_other change k [] records n = refl
  lookup_each_other change k (j ∷ ks) records n =
      let p = or_parts (is_equal (order j k)) (has order k ks) n in
      lookup_each_other change k ks (put order j (change (known order records j)) records) p.1
      ∙ lookup-put_other order lawful j k (change (known order records j)) records (unequal_since order lawful j k p.0)

  not_both : (t u : Bool) → (t ≡ true → u ≡ false) → u ≡ true → t ≡ false
  not_both true u n h = absurd (both_ways u (n refl) h)
  not_both false u n h = refl

  pub newcomers_each : (change : Record K → Record K) (xs ys : List K) (records : List (K × Record K)) → ((j : K) → has order j xs ≡ true → has order j ys ≡ false) → newcomers order ys (each order change xs records) ≡ newcomers order ys records
  newcomers_each change xs ys records n =
      newcomers_same ys (each order change xs records) records
      (λ j h. lookup_each_other change j xs records (not_both (has order j xs) (has order j ys) (n j) h))

  -- how many records there are

  pub length_each_le : (change : Record K → Record K) (ks : List K) (records : List (K × Record K)) → length records ≤ length (each order change ks records)
  length_each_le change [] records = omega arith
  length_each_le change (k ∷ ks) records =
      let here = length-put_le order lawful k (change (known order records k)) records in
      let rest = length_each_le change ks (put order k (change (known order records k)) records) in
      omega arith

  sum_step : (t : Bool) (before written news all : ℕ) → (t ≡ true → written ≡ before) → (t ≡ false → written ≡ suc before) → all ≡ written + news → all ≡ before + cond t news (suc news)
  sum_step true before written news all p q e = let h = p refl in omega arith
  sum_step false before written news all p q e = let h = q refl in omega arith

  some_value : {V X : Type 0} (o : Option V) → is_some o ≡ true → ((v : V) → o ≡ Some v → X) → X
  some_value None h f = absurd (both_ways false refl h)
  some_value (Some v) h f = f v refl

  no_value : {V : Type 0} (o : Option V) → is_some o ≡ false → o ≡ None
  no_value None h = refl
  no_value (Some v) h = absurd (both_ways true h refl)

  pub length_each : (change : Record K → Record K) (ks : List K) (records : List (K × Record K)) → ascending order ks ≡ true → Ascending order records → length (each order change ks records) ≡ length records + newcomers order ks records
  length_each change [] records a b = sym (add-zero (length records))
  length_each change (k ∷ ks) records a b =
      sum_step (is_some (lookup order k records)) (length records) (length written) (newcomers order ks records) _
      (λ h. some_value (lookup order k records) h (λ w e. length-put_old order lawful k (change (known order records k)) w records b e))
      (λ h. length-put_new order lawful k (change (known order records k)) records (no_value (lookup order k records) h))
      (length_each change ks written (ascends_rest order lawful k ks a) (ascending-put order lawful k (change (known order records k)) records b)
      ∙ ap (λ n. length written + n) (newcomers_same ks written records (λ j h. lookup-put_other order lawful k j _ records (apart j k ks (first_once order lawful k ks a) h))))
    where
      written : List (K × Record K)
      written = put order k (change (known order records k)) records

  -- no primary is among the secondaries less the primaries
  pub disjoint_without : (p q : List K) (j : K) → has order j p ≡ true → has order j (without order q p) ≡ false
  disjoint_without p q j h = has-without order lawful j q p ∙ and_right (has order j q) _ (ap not h)

  pub length-joined : (p q : List K) (records : List (K × Record K)) → ascending order p ≡ true → ascending order q ≡ true → Ascending order records → length (joined order p q records) ≡ length records + newcomers order (p ++ without order q p) records
  length-joined p q records a b c =
      let after = each order primary_up p records in
      let first = length_each primary_up p records a c in
      let second = length_each secondary_up (without order q p) after (ascends-without order lawful q p b) (ascending_each order lawful primary_up p records c) in
      let same-news = newcomers_each primary_up p (without order q p) records (disjoint_without p q) in
      let both = newcomers-append order p (without order q p) records in
      omega arith

  -- there are at least as many records as keys that have one

  -- keys that all have an entry have it behind the first one, if that is none of theirs
  found_behind : {V : Type 0} (e : K × V) (ks : List K) (es : List (K × V)) → has order e.0 ks ≡ false → ((j : K) → has order j ks ≡ true → is_some (lookup order j (e ∷ es)) ≡ true) → (j : K) → has order j ks ≡ true → is_some (lookup order j es) ≡ true
  found_behind e ks es n all j h =
      ap is_some (sym (cond-false (is_equal (order e.0 j)) (Some e.1) (lookup order j es) (unequal order lawful e.0 j (apart j e.0 ks n h)))) ∙ all j h

  -- keys in ascending order that all have an entry are at most as many as the entries
  pub few_found : {V : Type 0} (ks : List K) (es : List (K × V)) → ascending order ks ≡ true → Ascending order es → ((j : K) → has order j ks ≡ true → is_some (lookup order j es) ≡ true) → length ks ≤ length es
  few_found [] es a b all = omega arith
  few_found (k ∷ ks) [] a b all = absurd (both_ways false refl (all k (or_left _ _ (equal_itself order lawful k))))
  few_found (k ∷ ks) (e ∷ es) a b all =
      by (few_found ks es (ascends_rest order lawful k ks a) b.1) (few_found (k ∷ ks) es a b.1) (answer (order k e.0))
    where
      by : (((j : K) → has order j ks ≡ true → is_some (lookup order j es) ≡ true) → length ks ≤ length es) → (((j : K) → has order j (k ∷ ks) ≡ true → is_some (lookup order j es) ≡ true) → length (k ∷ ks) ≤ length es) → Answer (order k e.0) → length (k ∷ ks) ≤ length (e ∷ es)
      by rest later (below h) =
          absurd (both_ways true (sym (all k (or_left _ _ (equal_itself order lawful k))) ∙ ap is_some (lookup-before order lawful k (e ∷ es) h b)) refl)
      by rest later (same h) =
          let once = ap (λ x. has order x ks) (sym (lawful.same k e.0 h)) ∙ first_once order lawful k ks a in
          let r = rest (found_behind e ks es once (λ j i. all j (or_right _ _ i))) in
          omega arith
      by rest later (above h) =
          let n = has-below order lawful e.0 (k ∷ ks) (ap is_less (below_from_above order lawful k e.0 h)) a in
          let r = later (found_behind e (k ∷ ks) es n all) in
          omega arith

  pub few_each : (change : Record K → Record K) (ks : List K) (records : List (K × Record K)) → ascending order ks ≡ true → Ascending order records → length ks ≤ length (each order change ks records)
  few_each change ks records a b =
      few_found ks (each order change ks records) a (ascending_each order lawful change ks records b)
      (λ j h. ap is_some (lookup_each order lawful change j ks records a ∙ cond-true _ _ _ h))

  pub few-primary : (p q : List K) (records : List (K × Record K)) (n : ℕ) → ascending order p ≡ true → Ascending order records → length (joined order p q records) ≤ n → length p ≤ n
  few-primary p q records n a c h =
      let first = few_each primary_up p records a c in
      let second = length_each_le secondary_up (without order q p) (each order primary_up p records) in
      omega arith

  pub few-secondary : (p q : List K) (records : List (K × Record K)) (n : ℕ) → ascending order q ≡ true → Ascending order records → length (joined order p q records) ≤ n → length (without order q p) ≤ n
  few-secondary p q records n b c h =
      let first = few_each secondary_up (without order q p) (each order primary_up p records) (ascends-without order lawful q p b) (ascending_each order lawful primary_up p records c) in
      omega arith
