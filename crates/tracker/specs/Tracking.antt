-- What tracking a new set promises, step by step.
use Rattle.std.specs.Prelude.{◌≡◌, ℕ, true, false, cond, not, ◌&&◌, List, [], ◌∷◌, ◌++◌, take, drop, Some, None, Ok, Err, Option, Result}
use Rattle.std.specs.declared.cmp.Ordering.{Ordering}
use Rattle.keys.specs.Order.{ascending}
use Rattle.keys.specs.declared.ordered_key.OrderedKey as ordered
use Rattle.rolls.specs.declared.roll.Roll as roll
use Rattle.key_list.specs.Members.{keys_in}
use Rattle.key_list.specs.declared.key_list.KeyList.{KeyList}
use Rattle.records.specs.Kept as kept
use Rattle.records.specs.Ranks.{Proper}
use Rattle.blocks.specs.Blocked as blocked
use Rattle.peer_sets.specs.Held.{set_of, held, Fresh}
use Rattle.peer_sets.specs.declared.peer_set.PeerSet as sets
use Rattle.model.specs.Sets.{primaries, is_held, newest}
use Rattle.model.specs.Calls.{with_records}
use Rattle.model.specs.State.{State, PeerSet}
use Rattle.model.specs.Track.{is_above, left, tidied, to_close, with_bits, track_refusal, with_set, closed, dropped}
use Rattle.model.specs.declared.fault.Fault.{Fault}
use Rattle.model.specs.declared.fault.Fault.TheVariants as fault
use Rattle.tracker.specs.Directories.{state}
use Rattle.tracker.specs.declared.directory.Directory.{Directory}

module _ {K : Type 0} where
  -- why a set is refused, whatever room there is
  abbrev pub early_refusal : (K → K → Ordering) → List (PeerSet K) → ℕ → List K → List K → Option Fault
  early_refusal order sets index primary secondary =
      cond (not (ascending order primary && ascending order secondary)) (Some fault.NotAscending)
      (cond (is_held index sets) (Some fault.IndexHeld)
      (cond (not (is_above (newest sets) index)) (Some fault.IndexBelowNewest) None))

module _ {K R B : Type 0} (o : ordered.Ghosts K) (m : roll.Ghosts R K) (n : roll.Ghosts B K) where
  -- each primary of a set has the bit that its record calls for
  pub record Marked (d : Directory K R B) (before after : PeerSet K) : Type 0 where
    pub same_index : after.index ≡ before.index
    pub same_secondary : after.secondary ≡ before.secondary
    pub now_primary : after.primary ≡ with_bits o.order d.config.dial_fail_limit (kept.records_of m o d.records) (primaries before.primary)

  -- of the first so many primaries each has it, and the others' bits are 0, if those of all were so before
  pub record MarkedFirst (d : Directory K R B) (before after : PeerSet K) (i : ℕ) : Type 0 where
    pub same_index : after.index ≡ before.index
    pub same_secondary : after.secondary ≡ before.secondary
    pub now_primary : after.primary ≡ with_bits o.order d.config.dial_fail_limit (kept.records_of m o d.records) (take i (primaries before.primary)) ++ drop i before.primary

  -- all but the records is as before
  pub record OnlyRecords (before after : Directory K R B) : Type 0 where
    pub same_own : after.own ≡ before.own
    pub same_config : after.config ≡ before.config
    pub same_sets : after.sets ≡ before.sets
    pub same_blocks : after.blocks ≡ before.blocks

  -- a set has left: its members are in one set fewer, and records that nothing holds are gone
  pub record DroppedSet (before after : Directory K R B) (oldest : PeerSet K) (named : List K) : Type 0 where
    pub only_records : OnlyRecords before after
    pub now_records : kept.records_of m o after.records ≡ tidied o.order oldest (left o.order oldest (kept.records_of m o before.records))
    pub names : named ≡ to_close o.order oldest (left o.order oldest (kept.records_of m o before.records))
    pub emptied : kept.Emptied (kept.places_of m before.records) (kept.places_of m after.records)

  -- a new set was made, or why it is refused
  abbrev pub SetAnswer : Directory K R B → ℕ → List K → List K → Result (sets.PeerSet K) Fault → Type 0
  SetAnswer d index primary secondary (Ok set) =
      (early_refusal o.order (held d.sets) index primary secondary ≡ None) × Fresh o.order index primary secondary (set_of set)
  SetAnswer d index primary secondary (Err why) = track_refusal o.order (state o m n d) index primary secondary ≡ Some why

  -- the members of a set have joined, and the bits of its primaries are set
  pub record JoinedSet (before after : Directory K R B) (set marked : PeerSet K) : Type 0 where
    pub room : kept.fits m o before.records set ≡ true
    pub only_records : OnlyRecords before after
    pub now_records : kept.records_of m o after.records ≡ kept.with_members m o set (kept.records_of m o before.records)
    pub now_marked : Marked after set marked
    pub filled : kept.Filled (kept.places_of m before.records) (kept.places_of m after.records)

  -- there is no room for them, and nothing changed
  pub record NotJoinedSet (before after : Directory K R B) (set : PeerSet K) (why : Fault) : Type 0 where
    pub is : why ≡ fault.TooManyPeers
    pub no_room : kept.fits m o before.records set ≡ false
    pub unchanged : after ≡ before

  abbrev pub JoinSetAnswer : Directory K R B → Directory K R B → PeerSet K → PeerSet K → Result (Unit {0}) Fault → Type 0
  JoinSetAnswer before after set marked (Ok u) = JoinedSet before after set marked
  JoinSetAnswer before after set marked (Err why) = NotJoinedSet before after set why

  -- the state with a set entered, before any leaves
  abbrev pub entered : Directory K R B → PeerSet K → State K
  entered d set = with_records o.order (state o m n d) (kept.records_of m o d.records) (held d.sets ++ set ∷ [])

  -- a set was entered, and the oldest has left if there were too many
  pub record EnteredSet (before after : Directory K R B) (set : PeerSet K) (named : List K) : Type 0 where
    pub names : named ≡ closed o.order (entered before set)
    pub leaves : state o m n after ≡ dropped o.order (entered before set)
    pub emptied : kept.Emptied (kept.places_of m before.records) (kept.places_of m after.records)
    pub block_places : blocked.places_of n after.blocks ≡ blocked.places_of n before.blocks

  -- a set was made and its members have joined
  pub record Admitted (before after : Directory K R B) (index : ℕ) (primary secondary : List K) (set : PeerSet K) : Type 0 where
    pub accepted : track_refusal o.order (state o m n before) index primary secondary ≡ None
    pub proper : Proper o.order set
    pub enters : entered after set ≡ with_set o.order (state o m n before) index primary secondary
    pub filled : kept.Filled (kept.places_of m before.records) (kept.places_of m after.records)
    pub block_places : blocked.places_of n after.blocks ≡ blocked.places_of n before.blocks

  -- it was refused, and nothing changed
  pub record NotAdmitted (before after : Directory K R B) (index : ℕ) (primary secondary : List K) (why : Fault) : Type 0 where
    pub refused : track_refusal o.order (state o m n before) index primary secondary ≡ Some why
    pub unchanged : after ≡ before

  abbrev pub AdmitAnswer : Directory K R B → Directory K R B → ℕ → List K → List K → Result (sets.PeerSet K) Fault → Type 0
  AdmitAnswer before after index primary secondary (Ok set) = Admitted before after index primary secondary (set_of set)
  AdmitAnswer before after index primary secondary (Err why) = NotAdmitted before after index primary secondary why

  -- Empty places of the records' roll may have been filled, and then places emptied; those of the blocks' roll stay.
  pub record TrackPlaces (before after : Directory K R B) : Type 0 where
    pub record_places : (between : List (Option K)) × kept.Filled (kept.places_of m before.records) between × kept.Emptied between (kept.places_of m after.records)
    pub block_places : blocked.places_of n after.blocks ≡ blocked.places_of n before.blocks

  -- a set was tracked
  pub record Tracked (before after : Directory K R B) (index : ℕ) (primary secondary : List K) (named : List K) : Type 0 where
    pub accepted : track_refusal o.order (state o m n before) index primary secondary ≡ None
    pub names : named ≡ closed o.order (with_set o.order (state o m n before) index primary secondary)
    pub leaves : state o m n after ≡ dropped o.order (with_set o.order (state o m n before) index primary secondary)
    pub places : TrackPlaces before after

  abbrev pub TrackAnswer : Directory K R B → Directory K R B → ℕ → List K → List K → Result (KeyList K) Fault → Type 0
  TrackAnswer before after index primary secondary (Ok keys) = Tracked before after index primary secondary (keys_in keys)
  TrackAnswer before after index primary secondary (Err why) = NotAdmitted before after index primary secondary why
