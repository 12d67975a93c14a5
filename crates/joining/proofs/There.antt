-- What the code does to what stands there is what the definitions of the calls say: members without a record make no difference to
-- what is left after a set, and a bit is written once where no primary stands twice.
use Rattle.std.proofs.Common.{◌≡◌, Bool, true, false, cond, not, ◌&&◌, ◌||◌, List, [], ◌∷◌, is_some, Some, None, Option, Ordering, unwrap_or, sym, refl, ap, ◌∙◌}
use Rattle.std.specs.List.{AllByRecursion}
use Rattle.std.specs.Option.{option_map}
use Rattle.std.proofs.lemmas.Bool.{both_ways, or_parts, cond-false}
use Rattle.keys.specs.Order.{Lawful, ascending}
use Rattle.key_list.specs.Keys.{is_equal, has}
use Rattle.record.specs.Records.{fresh, deletable, teardown, primary_down, secondary_down}
use Rattle.record.specs.declared.address.Address.TheVariants.{Unknown}
use Rattle.record.specs.declared.record.Record.{Record}
use Rattle.tables.specs.Listings.{lookup, keys, entries_where, Ascending}
use Rattle.tables.proofs.Entries.{same_from_equal, same_from_lookups}
use Rattle.model.specs.Sets.{primaries, marked, marked_all}
use Rattle.model.specs.State.{PeerSet}
use Rattle.model.specs.There.{each_there, left_there, marked_first, marked_first_all}
use Rattle.model.specs.Track.{known, each, left, is_member, to_close, tidied}
use Rattle.joining.proofs.Joining.{record_down, first_once, ascends_rest, ascending_each, ascending-each_there, ascending_left, lookup_each, lookup-each_there, lookup_left}
use Rattle.joining.proofs.Where.{kept, kept_at, keys-entries_where, lookup-entries_where, ascending-entries_where}
use Rattle.joining.proofs.Wheres.{to_close-where, tidied-where}

-- the record of a key after its set left, where it has one
abbrev pub record_down_there : {K : Type 0} → Bool → Bool → Option (Record K) → Option (Record K)
record_down_there primary secondary r =
    cond secondary (option_map secondary_down (cond primary (option_map primary_down r) r)) (cond primary (option_map primary_down r) r)

module _ {K : Type 0} where
  -- a key that has a record if it is a member gets no other
  down_there : (p q : Bool) (o : Option (Record K)) → ((p || q) ≡ true → is_some o ≡ true) → record_down p q o ≡ record_down_there p q o
  down_there true true None n = absurd (both_ways false refl (n refl))
  down_there true false None n = absurd (both_ways false refl (n refl))
  down_there false true None n = absurd (both_ways false refl (n refl))
  down_there false false None n = refl
  down_there true true (Some r) n = refl
  down_there true false (Some r) n = refl
  down_there false true (Some r) n = refl
  down_there false false (Some r) n = refl

  -- the record that a member without one gets is deleted again
  tidy_there : (p q : Bool) (k : K) (o : Option (Record K)) → kept (λ j r. not ((p || q) && deletable r)) k (record_down p q o) ≡ kept (λ j r. not ((p || q) && deletable r)) k (record_down_there p q o)
  tidy_there true true k None = refl
  tidy_there true false k None = refl
  tidy_there false true k None = refl
  tidy_there false false k None = refl
  tidy_there true true k (Some r) = refl
  tidy_there true false k (Some r) = refl
  tidy_there false true k (Some r) = refl
  tidy_there false false k (Some r) = refl

  -- and it has no link to close
  close_there : (p q : Bool) (k : K) (o : Option (Record K)) → kept (λ j r. (p || q) && teardown r) k (record_down p q o) ≡ kept (λ j r. (p || q) && teardown r) k (record_down_there p q o)
  close_there true true k None = refl
  close_there true false k None = refl
  close_there false true k None = refl
  close_there false false k None = refl
  close_there true true k (Some r) = refl
  close_there true false k (Some r) = refl
  close_there false true k (Some r) = refl
  close_there false false k (Some r) = refl

module _ {K : Type 0} (order : K → K → Ordering) (lawful : Lawful order) where
  -- two lists keep the same where each key's value is kept alike
  same_where : {V : Type 0} (test : K → V → Bool) (es fs : List (K × V)) → Ascending order es → Ascending order fs → ((k : K) → kept test k (lookup order k es) ≡ kept test k (lookup order k fs)) → entries_where test es ≡ entries_where test fs
  same_where test es fs a b same =
      same_from_lookups order lawful (entries_where test es) (entries_where test fs) (ascending-entries_where order lawful test es a) (ascending-entries_where order lawful test fs b)
      (λ k. lookup-entries_where order lawful test k es a ∙ same k ∙ sym (lookup-entries_where order lawful test k fs b))

  -- records of keys changed, where each key has one

  pub each-each_there : (change : Record K → Record K) (ks : List K) (records : List (K × Record K)) → ascending order ks ≡ true → Ascending order records → ((j : K) → has order j ks ≡ true → is_some (lookup order j records) ≡ true) → each order change ks records ≡ each_there order change ks records
  each-each_there change ks records a b all =
      same_from_lookups order lawful (each order change ks records) (each_there order change ks records) (ascending_each order lawful change ks records b) (ascending-each_there order lawful change ks records b)
      (λ k. lookup_each order lawful change k ks records a ∙ by k (has order k ks) refl (lookup order k records) refl ∙ sym (lookup-each_there order lawful change k ks records a))
    where
      by : (k : K) (t : Bool) → has order k ks ≡ t → (o : Option (Record K)) → lookup order k records ≡ o → cond (has order k ks) (Some (change (known order records k))) (lookup order k records) ≡ cond (has order k ks) (option_map change (lookup order k records)) (lookup order k records)
      by k true h None e = absurd (both_ways false refl (ap is_some (sym e) ∙ all k h))
      by k true h (Some r) e = ap (λ x. cond (has order k ks) x (lookup order k records)) (ap (λ x. Some (change (unwrap_or x (fresh Unknown false)))) e ∙ sym (ap (option_map change) e))
      by k false h o e = cond-false (has order k ks) _ _ h ∙ sym (cond-false (has order k ks) _ _ h)

  -- a set that leaves

  pub ascending-left_there : (set : PeerSet K) (records : List (K × Record K)) → Ascending order records → Ascending order (left_there order set records)
  ascending-left_there set records a =
      ascending-each_there order lawful secondary_down set.secondary (each_there order primary_down (primaries set.primary) records)
      (ascending-each_there order lawful primary_down (primaries set.primary) records a)

  pub lookup-left_there : (set : PeerSet K) (k : K) (records : List (K × Record K)) → ascending order (primaries set.primary) ≡ true → ascending order set.secondary ≡ true → lookup order k (left_there order set records) ≡ record_down_there (has order k (primaries set.primary)) (has order k set.secondary) (lookup order k records)
  lookup-left_there set k records a b =
      lookup-each_there order lawful secondary_down k set.secondary (each_there order primary_down (primaries set.primary) records) b
      ∙ ap (λ o. cond (has order k set.secondary) (option_map secondary_down o) o) (lookup-each_there order lawful primary_down k (primaries set.primary) records a)

  module _ (set : PeerSet K) (records : List (K × Record K)) (c : Ascending order records) (a : ascending order (primaries set.primary) ≡ true) (b : ascending order set.secondary ≡ true) where
    -- where each member has a record, the records are the same
    pub left-left_there : ((j : K) → is_member order set j ≡ true → is_some (lookup order j records) ≡ true) → left order set records ≡ left_there order set records
    left-left_there all =
        same_from_lookups order lawful (left order set records) (left_there order set records) (ascending_left order lawful set records c) (ascending-left_there set records c)
        (λ k. lookup_left order lawful set k records a b ∙ down_there (has order k (primaries set.primary)) (has order k set.secondary) (lookup order k records) (all k) ∙ sym (lookup-left_there set k records a b))

    -- what is kept by a test of members
    kept_alike : (test : Bool → Record K → Bool) → ((k : K) → kept (λ j. test (is_member order set k)) k (record_down (has order k (primaries set.primary)) (has order k set.secondary) (lookup order k records)) ≡ kept (λ j. test (is_member order set k)) k (record_down_there (has order k (primaries set.primary)) (has order k set.secondary) (lookup order k records))) → entries_where (λ j. test (is_member order set j)) (left order set records) ≡ entries_where (λ j. test (is_member order set j)) (left_there order set records)
    kept_alike test same =
        same_where (λ j. test (is_member order set j)) (left order set records) (left_there order set records) (ascending_left order lawful set records c) (ascending-left_there set records c)
        (λ k. kept_at (λ j. test (is_member order set j)) k (lookup order k (left order set records))
        ∙ ap (kept (λ j. test (is_member order set k)) k) (lookup_left order lawful set k records a b)
        ∙ same k
        ∙ sym (kept_at (λ j. test (is_member order set j)) k (lookup order k (left_there order set records)) ∙ ap (kept (λ j. test (is_member order set k)) k) (lookup-left_there set k records a b)))

    -- once the records that nothing holds are deleted, the records are the same in any case
    pub tidied-left_there : tidied order set (left order set records) ≡ tidied order set (left_there order set records)
    tidied-left_there =
        tidied-where order set (left order set records)
        ∙ kept_alike (λ t r. not (t && deletable r)) (λ k. tidy_there (has order k (primaries set.primary)) (has order k set.secondary) k (lookup order k records))
        ∙ sym (tidied-where order set (left_there order set records))

    -- and so are the links to close
    pub to_close-left_there : to_close order set (left order set records) ≡ to_close order set (left_there order set records)
    to_close-left_there =
        to_close-where order set (left order set records)
        ∙ keys-entries_where _ (left order set records)
        ∙ ap keys (kept_alike (λ t r. t && teardown r) (λ k. close_there (has order k (primaries set.primary)) (has order k set.secondary) k (lookup order k records)))
        ∙ sym (to_close-where order set (left_there order set records) ∙ keys-entries_where _ (left_there order set records))

  -- the bit of a key, in primaries that ascend

  -- a key that is no primary leaves all as they are
  pub marked-absent : (k : K) (bit : Bool) (ms : List (K × Bool)) → has order k (primaries ms) ≡ false → marked order k bit ms ≡ ms
  marked-absent k bit [] n = refl
  marked-absent k bit (m ∷ ms) n =
      let p = or_parts (is_equal (order m.0 k)) (has order k (primaries ms)) n in
      ap (λ t. (m.0, cond t bit m.1) ∷ marked order k bit ms) p.0 ∙ ap (λ xs. m ∷ xs) (marked-absent k bit ms p.1)

  pub marked_first-marked : (k : K) (bit : Bool) (ms : List (K × Bool)) → ascending order (primaries ms) ≡ true → marked_first order k bit ms ≡ marked order k bit ms
  marked_first-marked k bit [] a = refl
  marked_first-marked k bit (m ∷ ms) a =
      by (is_equal (order m.0 k)) refl (marked_first-marked k bit ms (ascends_rest order lawful m.0 (primaries ms) a))
    where
      by : (t : Bool) → is_equal (order m.0 k) ≡ t → marked_first order k bit ms ≡ marked order k bit ms → cond t ((m.0, bit) ∷ ms) (m ∷ marked_first order k bit ms) ≡ (m.0, cond t bit m.1) ∷ marked order k bit ms
      by true h rest =
          let s = same_from_equal order lawful m.0 k h in
          ap (λ xs. (m.0, bit) ∷ xs) (sym (marked-absent k bit ms (ap (λ x. has order x (primaries ms)) (sym s) ∙ first_once order lawful m.0 (primaries ms) a)))
      by false h rest = ap (λ xs. m ∷ xs) rest

  pub marked_first_all-marked_all : (k : K) (bit : Bool) (sets : List (PeerSet K)) → AllByRecursion (λ set. ascending order (primaries set.primary) ≡ true) sets → marked_first_all order k bit sets ≡ marked_all order k bit sets
  marked_first_all-marked_all k bit [] all = refl
  marked_first_all-marked_all k bit (s ∷ sets) all =
      let h = marked_first-marked k bit s.primary all.0 in
      let rest = marked_first_all-marked_all k bit sets all.1 in
      λ i. record { index = s.index; primary = h i; secondary = s.secondary } ∷ rest i
