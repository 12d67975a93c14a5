-- A new set: why it is refused, and what is left once it is entered.
use Rattle.std.proofs.Common.{◌≡◌, ℕ, ◌+◌, ◌≤◌, Bool, true, false, cond, not, ◌&&◌, leb, List, [], ◌∷◌, ◌++◌, length, drop, Some, None, Option, Ordering, sym, refl, ap, ◌∙◌, ⊎_elim, arith}
use Rattle.std.specs.Option.{ok_or}
use Rattle.std.specs.List.{slice_get}
use Rattle.std.proofs.lemmas.Bool.{cases_Bool, leb-true, le-leb, and_from, both_ways}
use Rattle.keys.specs.Order.{Lawful, ascending}
use Rattle.keys.specs.declared.ordered_key.OrderedKey as ordered
use Rattle.rolls.specs.declared.roll.Roll as roll
use Rattle.key_list.specs.Keys.{has, without}
use Rattle.key_list.proofs.Walks.{same_some, some_none}
use Rattle.tables.specs.Listings.{Ascending}
use Rattle.records.specs.Ranks.{Proper}
use Rattle.peer_sets.specs.Held.{held, Fresh, Made, can_make}
use Rattle.peer_sets.specs.declared.peer_set.PeerSet as sets
use Rattle.model.specs.Calls.{with_records}
use Rattle.model.specs.Sets.{is_held, newest}
use Rattle.model.specs.State.{State, PeerSet}
use Rattle.model.specs.Track.{is_above, newcomers, joined, left, tidied, to_close, track_fits, track_refusal, dropped_from, closed_from}
use Rattle.model.specs.declared.fault.Fault.{Fault}
use Rattle.model.specs.declared.fault.Fault.TheVariants as fault
use Rattle.joining.proofs.Joining.{ascends-without}
use Rattle.joining.proofs.Rooms.{disjoint_without, length-joined, few-primary, few-secondary}
use Rattle.tracker.specs.Directories.{state}
use Rattle.tracker.specs.Tracking.{early_refusal, SetAnswer}
use Rattle.tracker.specs.declared.directory.Directory.{Directory}

module _ {K : Type 0} (order : K → K → Ordering) (s : State K) (index : ℕ) (p q : List K) where
  pub refusal_early : (f : Fault) → Some f ≡ early_refusal order s.sets index p q → track_refusal order s index p q ≡ Some f
  refusal_early f = by (ascending order p) (ascending order q) (is_held index s.sets) (is_above (newest s.sets) index) (track_fits order s p q)
    where
      by : (a b h v t : Bool)
          → Some f ≡ cond (not (a && b)) (Some fault.NotAscending) (cond h (Some fault.IndexHeld) (cond (not v) (Some fault.IndexBelowNewest) None))
          → cond (not (a && b)) (Some fault.NotAscending) (cond h (Some fault.IndexHeld) (cond (not v) (Some fault.IndexBelowNewest) (cond t None (Some fault.TooManyPeers)))) ≡ Some f
      by false b h v t e = sym e
      by true false h v t e = sym e
      by true true true v t e = sym e
      by true true false false t e = sym e
      by true true false true t e = some_none f (sym e) refl

  -- what is known of a set that is not refused early
  pub early_passed : early_refusal order s.sets index p q ≡ None → (ascending order p ≡ true) × (ascending order q ≡ true) × (track_refusal order s index p q ≡ cond (track_fits order s p q) None (Some fault.TooManyPeers))
  early_passed = by (ascending order p) (ascending order q) (is_held index s.sets) (is_above (newest s.sets) index) (track_fits order s p q)
    where
      by : (a b h v t : Bool)
          → cond (not (a && b)) (Some fault.NotAscending) (cond h (Some fault.IndexHeld) (cond (not v) (Some fault.IndexBelowNewest) None)) ≡ None
          → (a ≡ true) × (b ≡ true) × (cond (not (a && b)) (Some fault.NotAscending) (cond h (Some fault.IndexHeld) (cond (not v) (Some fault.IndexBelowNewest) (cond t None (Some fault.TooManyPeers)))) ≡ cond t None (Some fault.TooManyPeers))
      by false b h v t e = some_none fault.NotAscending refl e
      by true false h v t e = some_none fault.NotAscending refl e
      by true true true v t e = some_none fault.IndexHeld refl e
      by true true false false t e = some_none fault.IndexBelowNewest refl e
      by true true false true t e = (refl, refl, refl)

  module _ (lawful : Lawful order) (p-ascends : ascending order p ≡ true) (q-ascends : ascending order q ≡ true) where
    -- where there is room for all members, there are at most as many as places
    pub makes : Ascending order s.records → s.record_places ≤ 64 → track_fits order s p q ≡ true → can_make order p q ≡ true
    makes ordered few fits =
        let room : length (joined order p q s.records) ≤ 64 =
        omega (arith, length-joined order lawful p q s.records p-ascends q-ascends ordered, leb-true (length s.records + newcomers order (p ++ without order q p) s.records) s.record_places fits, few) in
        and_from (ascending order p && leb (length p) 64) (leb (length (without order q p)) 64)
        (and_from (ascending order p) (leb (length p) 64) p-ascends (le-leb (length p) 64 (few-primary order lawful p q s.records 64 p-ascends ordered room)))
        (le-leb (length (without order q p)) 64 (few-secondary order lawful p q s.records 64 q-ascends ordered room))

    pub refusal_many : Ascending order s.records → s.record_places ≤ 64 → early_refusal order s.sets index p q ≡ None → can_make order p q ≡ false → track_refusal order s index p q ≡ Some fault.TooManyPeers
    refusal_many ordered few early none =
        (early_passed early).2
        ∙ ⊎_elim
        (λ t. absurd (both_ways (can_make order p q) none (makes ordered few t)))
        (λ f. ap (λ b. cond b None (Some fault.TooManyPeers)) f)
        (cases_Bool (track_fits order s p q))

    -- a new set is proper
    pub proper-fresh : (set : PeerSet K) → Fresh order index p q set → Proper order set
    proper-fresh set fresh =
        record {
          primaries_ascend = ap (ascending order) fresh.same_primaries ∙ p-ascends;
          secondaries_ascend = ap (ascending order) fresh.no_primary ∙ ascends-without order lawful q p q-ascends;
          apart = λ k h. ap (has order k) fresh.no_primary ∙ disjoint_without order lawful p q k (ap (has order k) (sym fresh.same_primaries) ∙ h);
        }

-- the set that leaves, if one does
module _ {K : Type 0} (order : K → K → Ordering) (s : State K) where
  pub none_left : (t : Bool) (xs : List (PeerSet K)) → None ≡ cond t (slice_get xs 0) None
      → (dropped_from order s t xs ≡ s) × (closed_from order s t xs ≡ []) × (cond t (drop 1 xs) xs ≡ xs)
  none_left true [] e = (refl, refl, refl)
  none_left true (x ∷ xs) e = some_none x refl (sym e)
  none_left false xs e = (refl, refl, refl)

  pub one_left : (t : Bool) (xs : List (PeerSet K)) (oldest : PeerSet K) → Some oldest ≡ cond t (slice_get xs 0) None
      → (dropped_from order s t xs ≡ with_records order s (tidied order oldest (left order oldest s.records)) (cond t (drop 1 xs) xs))
      × (closed_from order s t xs ≡ to_close order oldest (left order oldest s.records))
  one_left true [] oldest e = some_none oldest (sym e) refl
  one_left true (x ∷ xs) oldest e =
      let same = same_some e in
      (ap (λ y. with_records order s (tidied order y (left order y s.records)) xs) (sym same), ap (λ y. to_close order y (left order y s.records)) (sym same))
  one_left false xs oldest e = some_none oldest (sym e) refl

-- a set that was made, or the refusal where it was not
module _ {K R B : Type 0} (o : ordered.Ghosts K) (m : roll.Ghosts R K) (n : roll.Ghosts B K) (d : Directory K R B) (index : ℕ) (p q : List K) where
  pub made_or_many : (r : Option (sets.PeerSet K)) → early_refusal o.order (held d.sets) index p q ≡ None
      → (can_make o.order p q ≡ false → track_refusal o.order (state o m n d) index p q ≡ Some fault.TooManyPeers)
      → Made o.order index p q r → SetAnswer o m n d index p q (ok_or r fault.TooManyPeers)
  made_or_many (Some set) early many made = (early, made)
  made_or_many None early many made = many made
