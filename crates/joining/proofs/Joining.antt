-- What joining and leaving make of each key's record, and which links a set that leaves has closed.
use Rattle.std.proofs.Common.{◌≡◌, ℕ, Bool, true, false, cond, not, ◌&&◌, ◌||◌, List, [], ◌∷◌, Some, None, Option, Ordering, Less, Equal, Greater, unwrap_or, sym, refl, ap, ◌∙◌, subst}
use Rattle.std.specs.Option.{option_map}
use Rattle.std.proofs.lemmas.Bool.{both_ways, and_from, and_parts, and_right, or_from, or_left, cond-true, cond-false}
use Rattle.keys.specs.Order.{Lawful, is_less, below_first, ascending}
use Rattle.keys.specs.Orders.{never}
use Rattle.key_list.specs.Keys.{is_equal, has, without}
use Rattle.record.specs.Records.{fresh, deletable, teardown, primary_up, primary_down, secondary_up, secondary_down}
use Rattle.record.specs.declared.address.Address.TheVariants.{Unknown}
use Rattle.record.specs.declared.record.Record.{Record}
use Rattle.tables.specs.Listings.{lookup, put, Ascending}
use Rattle.tables.proofs.Entries.{above_from_below, equal_itself, same_from_equal, lookup-put_same, lookup-put_other, ascending-put}
use Rattle.model.specs.Sets.{primaries}
use Rattle.model.specs.State.{PeerSet}
use Rattle.model.specs.There.{changed, each_there}
use Rattle.model.specs.Track.{known, each, joined, with_bits, left, is_member, to_close, tidied, record_joined, record_tidied, record_left}
use Rattle.joining.proofs.Where.{kept, passes, kept_at, lookup-entries_where, ascending-entries_where, has-keys_where, ascends-keys_where}
use Rattle.joining.proofs.Wheres.{to_close-where, tidied-where}

less_from : (o : Ordering) → is_less o ≡ true → o ≡ Less
less_from Less h = refl
less_from Equal h = never (cc)
less_from Greater h = never (cc)

-- the record of a key after its set left, before any is deleted, by whether the key was a primary or a secondary
abbrev pub record_down : {K : Type 0} → Bool → Bool → Option (Record K) → Option (Record K)
record_down primary secondary r =
    cond secondary (Some (secondary_down (unwrap_or (cond primary (Some (primary_down (unwrap_or r (fresh Unknown false)))) r) (fresh Unknown false))))
    (cond primary (Some (primary_down (unwrap_or r (fresh Unknown false)))) r)

-- lists of keys

module _ {K : Type 0} (order : K → K → Ordering) (lawful : Lawful order) where
  -- keys that compare unequal are not the same
  pub unequal_since : (j k : K) → is_equal (order j k) ≡ false → j ≡ k → ⊥
  unequal_since j k h s = both_ways (is_equal (order j k)) h (ap (λ x. is_equal (order j x)) (sym s) ∙ equal_itself order lawful j)

  -- a key below one that is below the first is below the first
  below_on : (j k : K) (ks : List K) → order j k ≡ Less → below_first order k ks ≡ true → below_first order j ks ≡ true
  below_on j k [] h b = refl
  below_on j k (i ∷ ks) h b = ap is_less (lawful.chains j k i h (less_from (order k i) b))

  -- a key below the first is not there
  pub has-below : (k : K) (ks : List K) → below_first order k ks ≡ true → ascending order ks ≡ true → has order k ks ≡ false
  has-below k [] b a = refl
  has-below k (j ∷ ks) b a =
      let l = less_from (order k j) b in
      let p = and_parts (below_first order j ks) (ascending order ks) a in
      or_from _ _ (ap is_equal (above_from_below order lawful k j l)) (has-below k ks (below_on k j ks l p.0) p.1)

  -- the first key of an ascending list stands there once
  pub first_once : (k : K) (ks : List K) → ascending order (k ∷ ks) ≡ true → has order k ks ≡ false
  first_once k ks a = let p = and_parts (below_first order k ks) (ascending order ks) a in has-below k ks p.0 p.1

  pub ascends_rest : (k : K) (ks : List K) → ascending order (k ∷ ks) ≡ true → ascending order ks ≡ true
  ascends_rest k ks a = (and_parts (below_first order k ks) (ascending order ks) a).1

  -- the keys that another list has not

  pub has-without : (k : K) (ks others : List K) → has order k (without order ks others) ≡ (has order k ks && not (has order k others))
  has-without k [] others = refl
  has-without k (j ∷ ks) others = by (is_equal (order j k)) (has order j others) refl refl (has-without k ks others)
    where
      by : (s t : Bool) → is_equal (order j k) ≡ s → has order j others ≡ t → has order k (without order ks others) ≡ (has order k ks && not (has order k others)) → has order k (without order (j ∷ ks) others) ≡ (has order k (j ∷ ks) && not (has order k others))
      by true true p q rest =
          let h = ap (λ x. has order x others) (sym (same_from_equal order lawful j k p)) ∙ q in
          ap (λ t. has order k (cond t (without order ks others) (j ∷ without order ks others))) q
          ∙ rest
          ∙ and_right (has order k ks) _ (ap not h)
          ∙ sym (and_right (has order k (j ∷ ks)) _ (ap not h))
      by true false p q rest =
          let h = ap (λ x. has order x others) (sym (same_from_equal order lawful j k p)) ∙ q in
          ap (λ t. has order k (cond t (without order ks others) (j ∷ without order ks others))) q
          ∙ or_left _ _ p
          ∙ sym (and_from (has order k (j ∷ ks)) _ (or_left _ _ p) (ap not h))
      by false true p q rest =
          ap (λ t. has order k (cond t (without order ks others) (j ∷ without order ks others))) q
          ∙ rest
          ∙ sym (ap (λ t. (t || has order k ks) && not (has order k others)) p)
      by false false p q rest =
          ap (λ t. has order k (cond t (without order ks others) (j ∷ without order ks others))) q
          ∙ ap (λ t. t || has order k (without order ks others)) p
          ∙ rest
          ∙ sym (ap (λ t. (t || has order k ks) && not (has order k others)) p)

  below-without : (k : K) (ks others : List K) → below_first order k ks ≡ true → ascending order ks ≡ true → below_first order k (without order ks others) ≡ true
  below-without k [] others b a = refl
  below-without k (j ∷ ks) others b a =
      let p = and_parts (below_first order j ks) (ascending order ks) a in
      by (has order j others) (below-without k ks others (below_on k j ks (less_from (order k j) b) p.0) p.1)
    where
      by : (t : Bool) → below_first order k (without order ks others) ≡ true → below_first order k (cond t (without order ks others) (j ∷ without order ks others)) ≡ true
      by true rest = rest
      by false rest = b

  pub ascends-without : (ks others : List K) → ascending order ks ≡ true → ascending order (without order ks others) ≡ true
  ascends-without [] others a = refl
  ascends-without (k ∷ ks) others a =
      let p = and_parts (below_first order k ks) (ascending order ks) a in
      by (has order k others) (below-without k ks others p.0 p.1) (ascends-without ks others p.1)
    where
      by : (t : Bool) → below_first order k (without order ks others) ≡ true → ascending order (without order ks others) ≡ true → ascending order (cond t (without order ks others) (k ∷ without order ks others)) ≡ true
      by true b rest = rest
      by false b rest = and_from _ _ b rest

-- the records

module _ {K : Type 0} (order : K → K → Ordering) (lawful : Lawful order) where
  -- the order is kept

  pub ascending_each : (change : Record K → Record K) (ks : List K) (records : List (K × Record K)) → Ascending order records → Ascending order (each order change ks records)
  ascending_each change [] records a = a
  ascending_each change (k ∷ ks) records a = ascending_each change ks _ (ascending-put order lawful k _ records a)

  ascending-changed : (change : Record K → Record K) (k : K) (o : Option (Record K)) (records : List (K × Record K)) → Ascending order records → Ascending order (changed order change k o records)
  ascending-changed change k None records a = a
  ascending-changed change k (Some r) records a = ascending-put order lawful k (change r) records a

  pub ascending-each_there : (change : Record K → Record K) (ks : List K) (records : List (K × Record K)) → Ascending order records → Ascending order (each_there order change ks records)
  ascending-each_there change [] records a = a
  ascending-each_there change (k ∷ ks) records a =
      ascending-each_there change ks _ (ascending-changed change k (lookup order k records) records a)

  pub ascending-joined : (p q : List K) (records : List (K × Record K)) → Ascending order records → Ascending order (joined order p q records)
  ascending-joined p q records a =
      ascending_each secondary_up (without order q p) (each order primary_up p records) (ascending_each primary_up p records a)

  pub ascending_left : (set : PeerSet K) (records : List (K × Record K)) → Ascending order records → Ascending order (left order set records)
  ascending_left set records a =
      ascending_each secondary_down set.secondary (each order primary_down (primaries set.primary) records)
      (ascending_each primary_down (primaries set.primary) records a)

  pub ascending-tidied : (set : PeerSet K) (records : List (K × Record K)) → Ascending order records → Ascending order (tidied order set records)
  ascending-tidied set records a =
      subst (Ascending order) (sym (tidied-where order set records))
      (ascending-entries_where order lawful (λ k r. not (is_member order set k && deletable r)) records a)

  -- each record of a list of keys changed

  pub lookup_each : (change : Record K → Record K) (k : K) (ks : List K) (records : List (K × Record K)) → ascending order ks ≡ true → lookup order k (each order change ks records) ≡ cond (has order k ks) (Some (change (known order records k))) (lookup order k records)
  lookup_each change k [] records a = refl
  lookup_each change k (j ∷ ks) records a =
      by (is_equal (order j k)) refl (lookup_each change k ks (put order j (change (known order records j)) records) (ascends_rest order lawful j ks a))
    where
      written : List (K × Record K)
      written = put order j (change (known order records j)) records

      by : (t : Bool) → is_equal (order j k) ≡ t → lookup order k (each order change ks written) ≡ cond (has order k ks) (Some (change (known order written k))) (lookup order k written) → lookup order k (each order change ks written) ≡ cond (has order k (j ∷ ks)) (Some (change (known order records k))) (lookup order k records)
      by true h rest =
          let s = same_from_equal order lawful j k h in
          rest
          ∙ cond-false _ _ _ (ap (λ x. has order x ks) (sym s) ∙ first_once order lawful j ks a)
          ∙ ap (λ x. lookup order x written) (sym s)
          ∙ lookup-put_same order lawful j (change (known order records j)) records
          ∙ ap (λ x. Some (change (known order records x))) s
          ∙ sym (cond-true (has order k (j ∷ ks)) _ _ (or_left _ _ h))
      by false h rest =
          rest
          ∙ ap (λ o. cond (has order k ks) (Some (change (unwrap_or o (fresh Unknown false)))) o) (lookup-put_other order lawful j k _ records (unequal_since order lawful j k h))
          ∙ sym (ap (λ t. cond (t || has order k ks) (Some (change (known order records k))) (lookup order k records)) h)

  lookup-changed_same : (change : Record K → Record K) (k : K) (o : Option (Record K)) (records : List (K × Record K)) → lookup order k records ≡ o → lookup order k (changed order change k o records) ≡ option_map change o
  lookup-changed_same change k None records e = e
  lookup-changed_same change k (Some r) records e = lookup-put_same order lawful k (change r) records

  lookup-changed_other : (change : Record K → Record K) (k q : K) (o : Option (Record K)) (records : List (K × Record K)) → (k ≡ q → ⊥) → lookup order q (changed order change k o records) ≡ lookup order q records
  lookup-changed_other change k q None records n = refl
  lookup-changed_other change k q (Some r) records n = lookup-put_other order lawful k q (change r) records n

  pub lookup-each_there : (change : Record K → Record K) (k : K) (ks : List K) (records : List (K × Record K)) → ascending order ks ≡ true → lookup order k (each_there order change ks records) ≡ cond (has order k ks) (option_map change (lookup order k records)) (lookup order k records)
  lookup-each_there change k [] records a = refl
  lookup-each_there change k (j ∷ ks) records a =
      by (is_equal (order j k)) refl (lookup-each_there change k ks (changed order change j (lookup order j records) records) (ascends_rest order lawful j ks a))
    where
      written : List (K × Record K)
      written = changed order change j (lookup order j records) records

      by : (t : Bool) → is_equal (order j k) ≡ t → lookup order k (each_there order change ks written) ≡ cond (has order k ks) (option_map change (lookup order k written)) (lookup order k written) → lookup order k (each_there order change ks written) ≡ cond (has order k (j ∷ ks)) (option_map change (lookup order k records)) (lookup order k records)
      by true h rest =
          let s = same_from_equal order lawful j k h in
          rest
          ∙ cond-false _ _ _ (ap (λ x. has order x ks) (sym s) ∙ first_once order lawful j ks a)
          ∙ ap (λ x. lookup order x written) (sym s)
          ∙ lookup-changed_same change j (lookup order j records) records refl
          ∙ ap (λ x. option_map change (lookup order x records)) s
          ∙ sym (cond-true (has order k (j ∷ ks)) _ _ (or_left _ _ h))
      by false h rest =
          rest
          ∙ ap (λ o. cond (has order k ks) (option_map change o) o) (lookup-changed_other change j k (lookup order j records) records (unequal_since order lawful j k h))
          ∙ sym (ap (λ t. cond (t || has order k ks) (option_map change (lookup order k records)) (lookup order k records)) h)

  -- joining

  joined_by : (p q : Bool) (o : Option (Record K)) → cond (q && not p) (Some (secondary_up (unwrap_or (cond p (Some (primary_up (unwrap_or o (fresh Unknown false)))) o) (fresh Unknown false)))) (cond p (Some (primary_up (unwrap_or o (fresh Unknown false)))) o) ≡ record_joined p q o
  joined_by true true o = refl
  joined_by true false o = refl
  joined_by false true o = refl
  joined_by false false o = refl

  pub lookup-joined : (k : K) (p q : List K) (records : List (K × Record K)) → ascending order p ≡ true → ascending order q ≡ true → lookup order k (joined order p q records) ≡ record_joined (has order k p) (has order k q) (lookup order k records)
  lookup-joined k p q records a b =
      lookup_each secondary_up k (without order q p) (each order primary_up p records) (ascends-without order lawful q p b)
      ∙ ap (λ t. cond t (Some (secondary_up (known order (each order primary_up p records) k))) (lookup order k (each order primary_up p records))) (has-without order lawful k q p)
      ∙ ap (λ o. cond (has order k q && not (has order k p)) (Some (secondary_up (unwrap_or o (fresh Unknown false)))) o) (lookup_each primary_up k p records a)
      ∙ joined_by (has order k p) (has order k q) (lookup order k records)

  pub primaries-with_bits : (limit : ℕ) (records : List (K × Record K)) (ks : List K) → primaries (with_bits order limit records ks) ≡ ks
  primaries-with_bits limit records [] = refl
  primaries-with_bits limit records (k ∷ ks) = ap (λ js. k ∷ js) (primaries-with_bits limit records ks)

  -- leaving

  pub lookup_left : (set : PeerSet K) (k : K) (records : List (K × Record K)) → ascending order (primaries set.primary) ≡ true → ascending order set.secondary ≡ true → lookup order k (left order set records) ≡ record_down (has order k (primaries set.primary)) (has order k set.secondary) (lookup order k records)
  lookup_left set k records a b =
      lookup_each secondary_down k set.secondary (each order primary_down (primaries set.primary) records) b
      ∙ ap (λ o. cond (has order k set.secondary) (Some (secondary_down (unwrap_or o (fresh Unknown false)))) o) (lookup_each primary_down k (primaries set.primary) records a)

  -- a member's record that is kept unless it may be deleted
  tidy : (r : Record K) → cond (not (deletable r)) (Some r) None ≡ record_tidied r
  tidy r = by (deletable r)
    where
      by : (t : Bool) → cond (not t) (Some r) None ≡ cond t None (Some r)
      by true = refl
      by false = refl

  left_by : (p q : Bool) (k : K) (o : Option (Record K)) → (p ≡ true → q ≡ false) → kept (λ j r. not ((p || q) && deletable r)) k (record_down p q o) ≡ record_left p q o
  left_by true true k o n = absurd (both_ways true (n refl) refl)
  left_by true false k None n = refl
  left_by true false k (Some r) n = tidy (primary_down r)
  left_by false true k None n = refl
  left_by false true k (Some r) n = tidy (secondary_down r)
  left_by false false k None n = refl
  left_by false false k (Some r) n = refl

  pub lookup-leaving : (set : PeerSet K) (k : K) (records : List (K × Record K)) → Ascending order records → ascending order (primaries set.primary) ≡ true → ascending order set.secondary ≡ true → ((j : K) → has order j (primaries set.primary) ≡ true → has order j set.secondary ≡ false) → lookup order k (tidied order set (left order set records)) ≡ record_left (has order k (primaries set.primary)) (has order k set.secondary) (lookup order k records)
  lookup-leaving set k records c a b n =
      ap (lookup order k) (tidied-where order set (left order set records))
      ∙ lookup-entries_where order lawful (λ j r. not (is_member order set j && deletable r)) k (left order set records) (ascending_left set records c)
      ∙ kept_at (λ j r. not (is_member order set j && deletable r)) k (lookup order k (left order set records))
      ∙ ap (kept (λ j r. not (is_member order set k && deletable r)) k) (lookup_left set k records a b)
      ∙ left_by (has order k (primaries set.primary)) (has order k set.secondary) k (lookup order k records) (n k)

  -- the links to close

  pub has-to_close : (set : PeerSet K) (k : K) (es : List (K × Record K)) → Ascending order es → has order k (to_close order set es) ≡ (is_member order set k && passes (λ j r. teardown r) k (lookup order k es))
  has-to_close set k es a =
      ap (has order k) (to_close-where order set es)
      ∙ has-keys_where order lawful (λ j r. is_member order set j && teardown r) k es a
      ∙ by (lookup order k es)
    where
      by : (o : Option (Record K)) → passes (λ j r. is_member order set j && teardown r) k o ≡ (is_member order set k && passes (λ j r. teardown r) k o)
      by None = sym (and_right (is_member order set k) false refl)
      by (Some r) = refl

  pub ascends-to_close : (set : PeerSet K) (es : List (K × Record K)) → Ascending order es → ascending order (to_close order set es) ≡ true
  ascends-to_close set es a =
      ap (ascending order) (to_close-where order set es)
      ∙ ascends-keys_where order lawful (λ j r. is_member order set j && teardown r) es a
