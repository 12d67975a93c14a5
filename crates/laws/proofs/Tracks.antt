-- A new set, and the oldest that leaves, keep a state tied to what the history says.
use Rattle.std.proofs.Common.{◌≡◌, ℕ, ◌<◌, Bool, true, false, not, ◌&&◌, List, [], ◌∷◌, ◌++◌, length, Some, Ordering, unwrap_or, sym, refl, ap, ◌∙◌, subst, arith}
use Rattle.std.specs.List.{AllByRecursion}
use Rattle.std.proofs.ByRecursion.{All-push}
use Rattle.std.proofs.lemmas.Bool.{cond-true, cond-false, and_right}
use Rattle.keys.specs.Order.{Lawful, ascending}
use Rattle.keys.specs.Orders.{never}
use Rattle.record.specs.Records.{fresh, most_sets, wanted}
use Rattle.record.specs.declared.address.Address.TheVariants.{Unknown}
use Rattle.record.specs.declared.record.Record.{Record}
use Rattle.key_list.specs.Keys.{is_equal, has, without}
use Rattle.tables.specs.Listings.{lookup}
use Rattle.tables.proofs.Entries.{same_from_equal}
use Rattle.joining.proofs.Joining.{ascending-joined, ascending_left, ascending-tidied, lookup-joined, lookup-leaving, primaries-with_bits, has-without, ascends-without}
use Rattle.model.specs.Calls.{with_records}
use Rattle.model.specs.Sets.{primaries}
use Rattle.model.specs.State.{State, PeerSet}
use Rattle.model.specs.Track.{known, joined, with_bits, new_set, left, tidied, with_set, record_joined}
use Rattle.laws.specs.History.{Held, Start, Other, one_more, primary_count, secondary_count, is_own}
use Rattle.laws.specs.Law.{bare}
use Rattle.laws.specs.Starts.{Proper}
use Rattle.laws.proofs.Marks.{Bits, has-lookup, bits_kept}
use Rattle.laws.proofs.Seats.{joined-tied, left_tied, joined-info, lacking-info, lacking_seated}
use Rattle.laws.proofs.Sets.{primary_push, secondary_push, primary_count_le, secondary_count_le, bare_push}
use Rattle.laws.proofs.States.{Sound, wants, wanted-tied}
use Rattle.laws.proofs.Values.{Values, Tied, next}

module _ {K : Type 0} (order : K → K → Ordering) (lawful : Lawful order) where
  -- the bits of a new set
  lookup-with_bits : (limit : ℕ) (records : List (K × Record K)) (k : K) (b : Bool) (ks : List K) → lookup order k (with_bits order limit records ks) ≡ Some b → b ≡ not (wanted limit (known order records k))
  lookup-with_bits limit records k b [] e = never (cc)
  lookup-with_bits limit records k b (j ∷ ks) e = by (is_equal (order j k)) refl (lookup-with_bits limit records k b ks)
    where
      by : (t : Bool) → is_equal (order j k) ≡ t → (lookup order k (with_bits order limit records ks) ≡ Some b → b ≡ not (wanted limit (known order records k))) → b ≡ not (wanted limit (known order records k))
      by true h rest =
          let p : Some (not (wanted limit (known order records j))) ≡ Some b = sym (cond-true (is_equal (order j k)) _ (lookup order k (with_bits order limit records ks)) h) ∙ e in
          let q : b ≡ not (wanted limit (known order records j)) = cc in
          q ∙ ap (λ x. not (wanted limit (known order records x))) (same_from_equal order lawful j k h)
      by false h rest = rest (sym (cond-false (is_equal (order j k)) _ (lookup order k (with_bits order limit records ks)) h) ∙ e)

  -- a set that was accepted
  pub new_proper : (index : ℕ) (p q : List K) → ascending order p ≡ true → ascending order q ≡ true → Proper order (record { index = index; primary = p; secondary = without order q p })
  new_proper index p q a b =
      record {
        primaries_ascend = a;
        secondaries_ascend = ascends-without order lawful q p b;
        apart = λ k h. has-without order lawful k q p ∙ and_right (has order k q) _ (ap not h);
      }

module _ {K : Type 0} (order : K → K → Ordering) where
  -- the sets with a new one
  abbrev pub joined_sets : ℕ → List K → List K → List (Held K) → List (Held K)
  joined_sets index p q sets = sets ++ record { index = index; primary = p; secondary = without order q p } ∷ []

  module _ (start : Start K) where
    -- what is said of a peer once there is a set more
    abbrev pub joined_values : (K → Values K) → List K → List K → K → Values K
    joined_values vals p q k =
        next (is_own order start k) Other (one_more (has order k p) (vals k).primary) (one_more (has order k q && not (has order k p)) (vals k).secondary) (vals k)

    -- what is said of a peer once the sets are others
    abbrev pub left_values : (K → Values K) → List (Held K) → K → Values K
    left_values vals sets k = next (is_own order start k) Other (primary_count order k sets) (secondary_count order k sets) (vals k)

module _ {K : Type 0} (order : K → K → Ordering) (lawful : Lawful order) (start : Start K) where
  -- joining

  module _ (vals : K → Values K) (sets : List (Held K)) (s : State K) (index : ℕ) (p q : List K) where
    module _ (few : length sets < most_sets) (a : ascending order p ≡ true) (b : ascending order q ≡ true) (h : Sound order start vals sets s) where
      tied-joined : (k : K) → Tied (is_own order start k) (joined_values order start vals p q k) (lookup order k (joined order p q s.records))
      tied-joined k =
          let m = primary_count_le order k sets in
          let n = secondary_count_le order k sets in
          let e = h.primaries_so k in
          let f = h.secondaries_so k in
          subst (Tied (is_own order start k) (joined_values order start vals p q k)) (sym (lookup-joined order lawful k p q s.records a b))
          (joined-tied (is_own order start k) (has order k p) (has order k q) (vals k) (lookup order k s.records) (omega arith) (omega arith) (h.tied k))

      pub joined_same_info : (k : K) → (joined_values order start vals p q k).info ≡ (vals k).info
      joined_same_info k = joined-info (is_own order start k) (has order k p) (has order k q && not (has order k p)) (vals k) (lookup order k s.records) (h.tied k)

      wants-joined : (k : K) → wants order start (joined_values order start vals p q) k ≡ wants order start vals k
      wants-joined k =
          lacking-info start.config.dial_fail_limit (is_own order start k) (one_more (has order k p) (vals k).primary) (one_more (has order k q && not (has order k p)) (vals k).secondary) (vals k) (joined_same_info k)

      known-tied : (k : K) → has order k p ≡ true → wanted start.config.dial_fail_limit (known order (joined order p q s.records) k) ≡ wants order start (joined_values order start vals p q) k
      known-tied k i =
          let e : lookup order k (joined order p q s.records) ≡ Some _ = lookup-joined order lawful k p q s.records a b ∙ ap (λ x. record_joined x (has order k q) (lookup order k s.records)) i in
          ap (λ o. wanted start.config.dial_fail_limit (unwrap_or o (fresh Unknown false))) e
          ∙ wanted-tied start.config.dial_fail_limit (is_own order start k) (joined_values order start vals p q k) _ h.counted (subst (Tied (is_own order start k) (joined_values order start vals p q k)) e (tied-joined k))

      new_bits : (k : K) (bit : Bool) → lookup order k (new_set order s index p q).primary ≡ Some bit → bit ≡ not (wants order start (joined_values order start vals p q) k)
      new_bits k bit e =
          let i = ap (has order k) (sym (primaries-with_bits order lawful s.config.dial_fail_limit (joined order p q s.records) p)) ∙ has-lookup order k bit (new_set order s index p q).primary e in
          lookup-with_bits order lawful s.config.dial_fail_limit (joined order p q s.records) k bit p e
          ∙ ap (λ c. not (wanted c.dial_fail_limit (known order (joined order p q s.records) k))) h.config_same
          ∙ ap not (known-tied k i)

      pub sound-joined : Sound order start (joined_values order start vals p q) (joined_sets order index p q sets) (with_set order s index p q)
      sound-joined =
          record {
            own_same = h.own_same;
            config_same = h.config_same;
            counted = h.counted;
            ordered = ascending-joined order lawful p q s.records h.ordered;
            tied = tied-joined;
            primaries_so = λ k. ap (one_more (has order k p)) (h.primaries_so k) ∙ sym (primary_push order k sets _);
            secondaries_so = λ k.
                ap (λ x. one_more x (vals k).secondary) (sym (has-without order lawful k q p))
                ∙ ap (one_more (has order k (without order q p))) (h.secondaries_so k)
                ∙ sym (secondary_push order k sets _);
            sets_so =
                bare_push s.sets (new_set order s index p q)
                ∙ ap (λ xs. xs ++ bare (new_set order s index p q ∷ [])) h.sets_so
                ∙ ap (λ x. sets ++ record { index = index; primary = x; secondary = without order q p } ∷ []) (primaries-with_bits order lawful s.config.dial_fail_limit (joined order p q s.records) p);
            proper = All-push (Proper order) sets _ h.proper (new_proper order lawful index p q a b);
            bits = All-push _ s.sets _ (bits_kept order lawful (wants order start vals) (wants order start (joined_values order start vals p q)) s.sets (λ k n. wants-joined k) h.bits) new_bits;
          }

  -- leaving

  module _ (vals : K → Values K) (sets : List (Held K)) (s : State K) (oldest : PeerSet K) (rest : List (PeerSet K)) (holds : s.sets ≡ oldest ∷ rest) (h : Sound order start vals sets s) where
    sets_there : sets ≡ bare (oldest ∷ rest)
    sets_there = sym h.sets_so ∙ ap bare holds

    all_proper : AllByRecursion (Proper order) (bare (oldest ∷ rest))
    all_proper = subst (AllByRecursion (Proper order)) sets_there h.proper

    pub left_primary_so : (k : K) → (vals k).primary ≡ one_more (has order k (primaries oldest.primary)) (primary_count order k (bare rest))
    left_primary_so k = h.primaries_so k ∙ ap (primary_count order k) sets_there

    pub left_secondary_so : (k : K) → (vals k).secondary ≡ one_more (has order k oldest.secondary) (secondary_count order k (bare rest))
    left_secondary_so k = h.secondaries_so k ∙ ap (secondary_count order k) sets_there

    pub oldest_proper : Proper order (record { index = oldest.index; primary = primaries oldest.primary; secondary = oldest.secondary })
    oldest_proper = all_proper.0

    tied_left : (k : K) → Tied (is_own order start k) (left_values order start vals (bare rest) k) (lookup order k (tidied order oldest (left order oldest s.records)))
    tied_left k =
        subst (Tied (is_own order start k) (left_values order start vals (bare rest) k))
        (sym (lookup-leaving order lawful oldest k s.records h.ordered oldest_proper.primaries_ascend oldest_proper.secondaries_ascend oldest_proper.apart))
        (left_tied (is_own order start k) (has order k (primaries oldest.primary)) (has order k oldest.secondary) _ _ (vals k) (lookup order k s.records) (left_primary_so k) (left_secondary_so k) (oldest_proper.apart k) (h.tied k))

    pub sound_left : Sound order start (left_values order start vals (bare rest)) (bare rest) (with_records order s (tidied order oldest (left order oldest s.records)) rest)
    sound_left =
        record {
          own_same = h.own_same;
          config_same = h.config_same;
          counted = h.counted;
          ordered = ascending-tidied order lawful oldest (left order oldest s.records) (ascending_left order lawful oldest s.records h.ordered);
          tied = tied_left;
          primaries_so = λ k. refl;
          secondaries_so = λ k. refl;
          sets_so = refl;
          proper = all_proper.1;
          bits = bits_kept order lawful (wants order start vals) (wants order start (left_values order start vals (bare rest))) rest (λ k n. lacking_seated start.config.dial_fail_limit (is_own order start k) (primary_count order k (bare rest)) (secondary_count order k (bare rest)) (vals k) n) (subst (Bits order (wants order start vals)) holds h.bits).1;
        }
