-- Tracking a set keeps a state tied to the history, and names the links to close.
use Rattle.std.proofs.Common.{◌≡◌, ℕ, ◌+◌, ◌<◌, ◌≤◌, Bool, true, false, cond, not, ◌&&◌, ltb, List, [], ◌∷◌, length, is_some, Some, None, Err, Option, Result, Ordering, sym, refl, ap, ◌∙◌, subst, arith, length-append}
use Rattle.std.proofs.lemmas.Bool.{both_ways, and_parts, cond_both, ltb-true, ltb-false}
use Rattle.keys.specs.Order.{Lawful, ascending}
use Rattle.keys.specs.Orders.{never}
use Rattle.record.specs.Records.{most_sets, teardown}
use Rattle.key_list.specs.Keys.{has, without}
use Rattle.tables.specs.Listings.{lookup, Ascending}
use Rattle.joining.proofs.Where.{passes}
use Rattle.joining.proofs.Joining.{ascending_left, lookup_left, has-to_close, ascends-to_close}
use Rattle.model.specs.Runs.{Track, Answer, Refused, Named, named_or, answer, after}
use Rattle.model.specs.Sets.{primaries}
use Rattle.model.specs.State.{State, PeerSet}
use Rattle.model.specs.Track.{is_member, left, new_set, to_close, track_refusal, with_set, dropped_from, dropped, closed_from, closed, track_of, tracked_from}
use Rattle.model.specs.declared.fault.Fault.{Fault}
use Rattle.model.specs.declared.fault.Fault.TheVariants as fault
use Rattle.laws.specs.History.{Held, Start, Event, Other, one_more, leaving, newest_part, tracked, primary_count, secondary_count, leaves_with, is_own, bootstrapper, all_sets, sets_held, is_open, has_seat}
use Rattle.laws.specs.Law.{bare, LinksNamed}
use Rattle.laws.specs.Starts.{Proper}
use Rattle.laws.proofs.Links.{close_by, leaving_none, leaving_first}
use Rattle.laws.proofs.Seats.{next-next}
use Rattle.laws.proofs.Sets.{length-bare, part_le, part_fits, part_over, part_push}
use Rattle.laws.proofs.States.{Sound, sound_same}
use Rattle.laws.proofs.Steps.{event, Follows, Kept, kept_idle}
use Rattle.laws.proofs.Tracks.{joined_sets, joined_values, joined_same_info, sound-joined, left_values, sound_left, left_primary_so, left_secondary_so, oldest_proper}
use Rattle.laws.proofs.Values.{Values, seat_by, next, values}

-- a refusal that is none leaves ascending lists
ascending_since : (b : Bool) (o : Option Fault) → cond (not b) (Some fault.NotAscending) o ≡ None → b ≡ true
ascending_since true o e = refl
ascending_since false o e = never (cc)

module _ {K : Type 0} (order : K → K → Ordering) (start : Start K) where
  -- an event that tracks no set names no links
  pub links_idle : (h : List (Event K)) (e : Event K) → tracked order e ≡ None → LinksNamed order start (e ∷ h)
  links_idle h e q s = absurd (both_ways (is_some (tracked order e)) (ap is_some q) s)

module _ {K : Type 0} (order : K → K → Ordering) (lawful : Lawful order) (start : Start K) (some_held : 1 ≤ start.config.max_sets) (few_held : start.config.max_sets ≤ 8) (h : List (Event K)) (s : State K) (sound : Follows order start h s) (room index : ℕ) (p q : List K) where
  abbrev Tracked : Answer K → State K → Type 0
  Tracked answer s' = Kept order start h (event (Track room index p q) answer) s' × LinksNamed order start (event (Track room index p q) answer ∷ h)

  refused_track : (f : Fault) → Tracked (Refused f) s
  refused_track f = (kept_idle order lawful start h s sound (event (Track room index p q) (Refused f)) refl (λ k. refl), links_idle order start h (event (Track room index p q) (Refused f)) refl)

  module _ (a : ascending order p ≡ true) (b : ascending order q ≡ true) where
    abbrev most : ℕ
    most = start.config.max_sets

    -- the sets held before, and what the history says
    abbrev held : List (Held K)
    held = sets_held order start h

    abbrev said : K → Values K
    said = values order start h

    -- with the new set, before any leaves
    abbrev wide : State K
    wide = with_set order s index p q

    abbrev more_sets : List (Held K)
    more_sets = joined_sets order index p q held

    abbrev joins : K → Values K
    joins = joined_values order start said p q

    few : length held < most_sets
    few = let m = part_le most (all_sets order start h) in omega arith

    grown : Sound order start joins more_sets wide
    grown = sound-joined order lawful start said held s index p q few a b sound

    grown_info : (k : K) → (joins k).info ≡ (said k).info
    grown_info = joined_same_info order lawful start said held s index p q few a b sound

    grown_length : length wide.sets ≡ length held + 1
    grown_length =
        sym (length-bare wide.sets)
        ∙ ap length grown.sets_so
        ∙ length-append held (record { index = index; primary = p; secondary = without order q p } ∷ [])

    held-before : length held ≤ most
    held-before = part_le most (all_sets order start h)

    module _ (names : List K) where
      abbrev done : Event K
      done = event (Track room index p q) (Named names)

      sets-after : sets_held order start (done ∷ h) ≡ newest_part most more_sets
      sets-after = part_push most (all_sets order start h) (record { index = index; primary = p; secondary = without order q p })

      -- the state that is left, if it is tied to what the history says with other sets
      settled : (sets : List (Held K)) (s' : State K) → sets_held order start (done ∷ h) ≡ sets → Sound order start (left_values order start said sets) sets s' → Kept order start h done s'
      settled sets s' e t = (subst (λ x. Sound order start (left_values order start said x) x s') (sym e) t, λ k. tt)

    -- no set leaves

    module _ (fits : length wide.sets ≤ most) where
      all_stay : newest_part most more_sets ≡ more_sets
      all_stay = part_fits most _ (let e = sym (length-bare wide.sets) ∙ ap length grown.sets_so in omega arith)

      stay_values : (k : K) → left_values order start said more_sets k ≡ joins k
      stay_values k =
          ap (λ n. next (is_own order start k) Other n (secondary_count order k more_sets) (said k)) (sym (grown.primaries_so k))
          ∙ ap (λ n. next (is_own order start k) Other (joins k).primary n (said k)) (sym (grown.secondaries_so k))

      kept_all : Tracked (Named []) wide
      kept_all = (
        settled [] more_sets wide (sets-after [] ∙ all_stay)
            (sound_same order start joins (left_values order start said more_sets) more_sets wide stay_values grown),
        λ t. (refl, λ k. sym (ap (λ o. leaves_with order k o && is_open order k h && not (has_seat order start k (done [] ∷ h))) (leaving_none most held (let g = grown_length in omega arith)))),
      )

    -- the oldest set leaves

    module _ (oldest : PeerSet K) (rest : List (PeerSet K)) (holds : wide.sets ≡ oldest ∷ rest) (over : most < length wide.sets) where
      rest_stays : newest_part most more_sets ≡ bare rest
      rest_stays =
          ap (newest_part most) (sym grown.sets_so ∙ ap bare holds)
          ∙ part_over most _ (bare rest) (let g = grown_length in let e = ap length holds in let f = length-bare rest in let m = held-before in omega arith)

      abbrev closing : List K
      closing = to_close order oldest (left order oldest wide.records)

      shrunk : Sound order start (left_values order start joins (bare rest)) (bare rest) (dropped_from order wide true (oldest ∷ rest))
      shrunk = sound_left order lawful start joins more_sets wide oldest rest holds grown

      shrunk_values : (k : K) → left_values order start said (bare rest) k ≡ left_values order start joins (bare rest) k
      shrunk_values k = sym (next-next (is_own order start k) (one_more (has order k p) (said k).primary) (one_more (has order k q && not (has order k p)) (said k).secondary) _ _ (said k) (grown_info k))

      kept_rest : Kept order start h (done closing) (dropped_from order wide true (oldest ∷ rest))
      kept_rest =
          settled closing (bare rest) _ (sets-after closing ∙ rest_stays)
          (sound_same order start (left_values order start joins (bare rest)) (left_values order start said (bare rest)) (bare rest) _ shrunk_values shrunk)

      oldest_leaves : leaving most held ≡ Some (record { index = oldest.index; primary = primaries oldest.primary; secondary = oldest.secondary })
      oldest_leaves =
          let g = grown_length in
          let e = ap length sound.sets_so in
          ap (leaving most) (sym sound.sets_so)
          ∙ leaving_first most s.sets rest (new_set order s index p q) oldest holds (omega arith) (omega arith)

      grown_left : Ascending order (left order oldest wide.records)
      grown_left = ascending_left order lawful oldest wide.records grown.ordered

      closed_so : (k : K) → has order k closing ≡ (is_member order oldest k && is_open order k h && not (has_seat order start k (done closing ∷ h)))
      closed_so k =
          has-to_close order lawful oldest k (left order oldest wide.records) grown_left
          ∙ ap (λ o. is_member order oldest k && passes (λ (j : K) r. teardown r) k o) (lookup_left order lawful oldest k wide.records proper.primaries_ascend proper.secondaries_ascend)
          ∙ close_by (is_own order start k) (has order k (primaries oldest.primary)) (has order k oldest.secondary) k (primary_count order k (bare rest)) (secondary_count order k (bare rest)) (joins k) (lookup order k wide.records)
          (left_primary_so order lawful start joins more_sets wide oldest rest holds grown k)
          (left_secondary_so order lawful start joins more_sets wide oldest rest holds grown k)
          (proper.apart k)
          (grown.tied k)
          ∙ ap (λ x. is_member order oldest k && is_open order k h && not (seat_by (primary_count order k x) (secondary_count order k x) (bootstrapper order start k))) (sym (sets-after closing ∙ rest_stays))
        where
          proper : Proper order (record { index = oldest.index; primary = primaries oldest.primary; secondary = oldest.secondary })
          proper = oldest_proper order lawful start joins more_sets wide oldest rest holds grown

      kept_but_oldest : Tracked (Named closing) (dropped_from order wide true (oldest ∷ rest))
      kept_but_oldest = (
        kept_rest,
        λ t. (
          ascends-to_close order lawful oldest (left order oldest wide.records) grown_left,
          λ k. closed_so k ∙ sym (ap (λ o. leaves_with order k o && is_open order k h && not (has_seat order start k (done closing ∷ h))) oldest_leaves),
        ),
      )

    -- one or the other
    accepted_by : (t : Bool) (sets : List (PeerSet K)) → ltb most (length wide.sets) ≡ t → wide.sets ≡ sets → Tracked (Named (closed_from order wide t sets)) (dropped_from order wide t sets)
    accepted_by false sets e f = kept_all (ltb-false _ _ e)
    accepted_by true [] e f = absurd (let g = ltb-true _ _ e in let l = ap length f in omega arith)
    accepted_by true (oldest ∷ rest) e f = kept_but_oldest oldest rest f (ltb-true _ _ e)

    accepted_track : Tracked (Named (closed order wide)) (dropped order wide)
    accepted_track =
        subst (λ c. Tracked (Named (closed_from order wide (ltb c.max_sets (length wide.sets)) wide.sets)) (dropped_from order wide (ltb c.max_sets (length wide.sets)) wide.sets))
        (sym sound.config_same)
        (accepted_by (ltb most (length wide.sets)) wide.sets refl refl)

  abbrev TrackKept : Result (List K) Fault → Type 0
  TrackKept r = Tracked (named_or r) (tracked_from order r s (with_set order s index p q))

  by_refusal : (o : Option Fault) → track_refusal order s index p q ≡ o → TrackKept (track_of order o (with_set order s index p q))
  by_refusal (Some f) e = refused_track f
  by_refusal None e =
      let a = and_parts (ascending order p) (ascending order q) (ascending_since _ _ e) in
      accepted_track a.0 a.1

  pub track_kept : Tracked (answer order s (Track room index p q)) (after order s (Track room index p q))
  track_kept =
      cond_both (ltb room 64) (Err fault.ShortList) (track_of order (track_refusal order s index p q) (with_set order s index p q)) TrackKept
      (λ e. refused_track fault.ShortList)
      (λ e. by_refusal (track_refusal order s index p q) refl)
