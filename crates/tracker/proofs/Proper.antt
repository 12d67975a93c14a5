-- The sets held stay proper: as bits are set, as a set enters, and as the oldest leaves.
use Rattle.std.proofs.Common.{◌≡◌, Bool, true, false, cond, List, [], ◌∷◌, ◌++◌, drop, Some, None, Ordering, sym, refl, ap, ◌∙◌, subst}
use Rattle.std.specs.List.{slice_get, AllByRecursion}
use Rattle.keys.specs.Order.{Lawful, ascending}
use Rattle.key_list.specs.Keys.{has}
use Rattle.key_list.proofs.Walks.{same_some, some_none}
use Rattle.records.specs.Ranks.{Proper}
use Rattle.model.specs.Sets.{primaries, marked, marked_all}
use Rattle.model.specs.State.{PeerSet}
use Rattle.model.specs.There.{marked_first_all}
use Rattle.joining.proofs.There.{marked_first_all-marked_all}
use Rattle.laws.proofs.Marks.{primaries-marked}

module _ {K : Type 0} (order : K → K → Ordering) where
  -- a set with the same members is proper too
  pub proper_alike : (before after : PeerSet K) → primaries after.primary ≡ primaries before.primary → after.secondary ≡ before.secondary → Proper order before → Proper order after
  proper_alike before after p q proper =
      record {
        primaries_ascend = ap (ascending order) p ∙ proper.primaries_ascend;
        secondaries_ascend = ap (ascending order) q ∙ proper.secondaries_ascend;
        apart = λ k h. ap (has order k) q ∙ proper.apart k (ap (has order k) (sym p) ∙ h);
      }

  all_marked : (k : K) (bit : Bool) (sets : List (PeerSet K)) → AllByRecursion (Proper order) sets → AllByRecursion (Proper order) (marked_all order k bit sets)
  all_marked k bit [] all = tt
  all_marked k bit (s ∷ sets) all =
      (proper_alike s (record { index = s.index; primary = marked order k bit s.primary; secondary = s.secondary }) (primaries-marked order k bit s.primary) refl all.0, all_marked k bit sets all.1)

  all_ascend : (sets : List (PeerSet K)) → AllByRecursion (Proper order) sets → AllByRecursion (λ set. ascending order (primaries set.primary) ≡ true) sets
  all_ascend [] all = tt
  all_ascend (s ∷ sets) all = (all.0.primaries_ascend, all_ascend sets all.1)

  module _ (lawful : Lawful order) (k : K) (bit : Bool) (before after : List (PeerSet K)) (marks : after ≡ marked_first_all order k bit before) (all : AllByRecursion (Proper order) before) where
    -- a bit that is set at the first primary that is the key is set everywhere
    pub now-marked : after ≡ marked_all order k bit before
    now-marked = marks ∙ marked_first_all-marked_all order lawful k bit before (all_ascend before all)

    pub proper-marked : AllByRecursion (Proper order) after
    proper-marked = subst (AllByRecursion (Proper order)) (sym now-marked) (all_marked k bit before all)

  pub proper-entered : (sets : List (PeerSet K)) (set : PeerSet K) → AllByRecursion (Proper order) sets → Proper order set → AllByRecursion (Proper order) (sets ++ set ∷ [])
  proper-entered [] set all proper = (proper, tt)
  proper-entered (s ∷ sets) set all proper = (all.0, proper-entered sets set all.1 proper)

  -- those that stay as the oldest leaves, if it does
  pub proper-kept : (t : Bool) (sets : List (PeerSet K)) → AllByRecursion (Proper order) sets → AllByRecursion (Proper order) (cond t (drop 1 sets) sets)
  proper-kept true [] all = tt
  proper-kept true (s ∷ sets) all = all.1
  proper-kept false sets all = all

  pub proper-oldest : (t : Bool) (sets : List (PeerSet K)) (oldest : PeerSet K) → Some oldest ≡ cond t (slice_get sets 0) None → AllByRecursion (Proper order) sets → Proper order oldest
  proper-oldest true [] oldest e all = some_none oldest (sym e) refl
  proper-oldest true (s ∷ sets) oldest e all = subst (Proper order) (sym (same_some e)) all.0
  proper-oldest false sets oldest e all = some_none oldest (sym e) refl
