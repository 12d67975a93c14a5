-- A new set whose members have joined, as the definitions have it.
use Rattle.std.proofs.Common.{◌≡◌, ℕ, ◌+◌, cond, leb, List, [], ◌∷◌, ◌++◌, length, Some, None, sym, ap, ◌∙◌}
use Rattle.keys.specs.Order.{Lawful}
use Rattle.keys.specs.declared.ordered_key.OrderedKey as ordered
use Rattle.rolls.specs.declared.roll.Roll as roll
use Rattle.record.specs.Records.{primary_up, secondary_up}
use Rattle.blocks.specs.Blocked as blocked
use Rattle.records.specs.Kept as kept
use Rattle.records.specs.Ranks.{Proper}
use Rattle.joining.proofs.Joining.{primaries-with_bits}
use Rattle.peer_sets.specs.Held.{held, Fresh}
use Rattle.model.specs.Sets.{primaries}
use Rattle.model.specs.State.{PeerSet}
use Rattle.model.specs.Track.{newcomers, each, joined, with_bits, new_set, track_fits}
use Rattle.model.specs.declared.fault.Fault.{Fault}
use Rattle.model.specs.declared.fault.Fault.TheVariants.{TooManyPeers}
use Rattle.tracker.specs.Directories.{state}
use Rattle.tracker.specs.Tracking.{early_refusal, JoinedSet, NotJoinedSet, Admitted, NotAdmitted}
use Rattle.tracker.specs.declared.directory.Directory.{Directory}
use Rattle.tracker.proofs.Parts.{same_state}
use Rattle.tracker.proofs.Proper.{proper_alike}
use Rattle.tracker.proofs.Sets.{early_passed}

module _ {K R B : Type 0} (o : ordered.Ghosts K) (m : roll.Ghosts R K) (n : roll.Ghosts B K) (before after : Directory K R B) (index : ℕ) (p q : List K) (set : PeerSet K)
    (early : early_refusal o.order (held before.sets) index p q ≡ None) (fresh : Fresh o.order index p q set) where
  -- room for the members of the set is room for those of both lists
  same_room : kept.fits m o before.records set ≡ track_fits o.order (state o m n before) p q
  same_room =
      λ i. leb (length (kept.records_of m o before.records) + newcomers o.order (fresh.same_primaries i ++ fresh.no_primary i) (kept.records_of m o before.records)) (length (kept.places_of m before.records))

  pub not_admitted : (why : Fault) → NotJoinedSet o m n before after set why → NotAdmitted o m n before after index p q why
  not_admitted why none =
      record {
        refused =
            (early_passed o.order (state o m n before) index p q early).2
            ∙ ap (λ t. cond t None (Some TooManyPeers)) (sym same_room ∙ none.no_room)
            ∙ ap Some (sym none.is);
        unchanged = none.unchanged;
      }

  pub admitted : Lawful o.order → (marked : PeerSet K) → Proper o.order set → JoinedSet o m n before after set marked → Admitted o m n before after index p q marked
  admitted lawful marked proper j =
      let records = kept.records_of m o before.records in
      let now-joined : kept.records_of m o after.records ≡ joined o.order p q records =
      j.now_records ∙ (λ i. each o.order secondary_up (fresh.no_primary i) (each o.order primary_up (fresh.same_primaries i) records)) in
      let limit = ap (λ c. c.dial_fail_limit) j.only_records.same_config in
      let bits : marked.primary ≡ with_bits o.order before.config.dial_fail_limit (joined o.order p q records) p =
      j.now_marked.now_primary ∙ (λ i. with_bits o.order (limit i) (now-joined i) (fresh.same_primaries i)) in
      let is-new : marked ≡ new_set o.order (state o m n before) index p q =
      λ i. record { index = (j.now_marked.same_index ∙ fresh.same_index) i; primary = bits i; secondary = (j.now_marked.same_secondary ∙ fresh.no_primary) i } in
      record {
        accepted = (early_passed o.order (state o m n before) index p q early).2 ∙ ap (λ t. cond t None (Some TooManyPeers)) (sym same_room ∙ j.room);
        proper =
            proper_alike o.order set marked (ap primaries j.now_marked.now_primary ∙ primaries-with_bits o.order lawful after.config.dial_fail_limit (kept.records_of m o after.records) (primaries set.primary)) j.now_marked.same_secondary
            proper;
        enters =
            same_state _ _ j.only_records.same_own j.only_records.same_config j.filled.0 (ap (λ b. length (blocked.places_of n b)) j.only_records.same_blocks) now-joined
            (λ i. held (j.only_records.same_sets i) ++ is-new i ∷ []) (ap (blocked.expiries_of n o) j.only_records.same_blocks);
        filled = j.filled;
        block_places = ap (blocked.places_of n) j.only_records.same_blocks;
      }
