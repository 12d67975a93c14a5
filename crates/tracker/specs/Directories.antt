-- What a directory stands for, and what its calls promise.
use Rattle.std.specs.Prelude.{◌≡◌, ℕ, ◌+◌, Bool, false, cond, not, ◌⊎◌, List, ◌∷◌, length, is_some, Some, None, Ok, Err, Result, slice_set}
use Rattle.keys.specs.declared.ordered_key.OrderedKey as ordered
use Rattle.rolls.specs.declared.roll.Roll as roll
use Rattle.rolls.specs.Places.{at}
use Rattle.tables.specs.Tabled as table
use Rattle.blocks.specs.Blocked as blocked
use Rattle.records.specs.Kept as kept
use Rattle.peer_sets.specs.Held.{held}
use Rattle.types.specs.declared.info.Info.{Info}
use Rattle.record.specs.Records.{wanted}
use Rattle.record.specs.declared.record.Record.{Record}
use Rattle.model.specs.Calls.{record_of, after_reserving, after_telling, info_turn, after_info, after_infos, taken}
use Rattle.model.specs.Peers.{Turn, refuse, write, erase}
use Rattle.model.specs.State.{State}
use Rattle.model.specs.Runs.{Call, Answer, Refused, Done, answer, after as left_by}
use Rattle.model.specs.declared.fault.Fault.{Fault}
use Rattle.laws.specs.History.{Start, Event}
use Rattle.laws.specs.Law.{Law}
use Rattle.laws.specs.Starts.{Reached}
use Rattle.tracker.specs.declared.directory.Directory.{Directory}
use Rattle.tracker.specs.declared.reservation.Reservation.{Reservation}

module _ {K : Type 0} where
  -- whether a peer's information is known once its record is as a turn says
  abbrev pub known_by : ℕ → Turn K → Bool
  known_by limit (refuse f) = false
  known_by limit (write r) = not (wanted limit r)
  known_by limit (erase r) = not (wanted limit r)

  -- the answer of a call that hands out a reservation
  abbrev pub reserved_or : Result (Reservation K) Fault → Answer K
  reserved_or (Ok token) = Done
  reserved_or (Err f) = Refused f

module _ {K R B : Type 0} (o : ordered.Ghosts K) (m : roll.Ghosts R K) (n : roll.Ghosts B K) where
  -- what a directory stands for
  abbrev pub state : Directory K R B → State K
  state d =
      record {
        own = d.own;
        config = d.config;
        record_places = length (kept.places_of m d.records);
        block_places = length (blocked.places_of n d.blocks);
        records = kept.records_of m o d.records;
        sets = held d.sets;
        blocks = blocked.expiries_of n o d.blocks;
      }

  -- Nothing changed: the places of both rolls, the values of both tables, the sets held, our key and the settings are as before.
  pub record Unchanged (before after : Directory K R B) : Type 0 where
    pub same_records : table.Unchanged m o before.records.table after.records.table
    pub same_blocks : table.Unchanged n o before.blocks.expiries after.blocks.expiries
    pub same_sets : held after.sets ≡ held before.sets
    pub same_own : after.own ≡ before.own
    pub same_config : after.config ≡ before.config

  -- the places of both rolls are as before
  pub record SamePlaces (before after : Directory K R B) : Type 0 where
    pub record_places : kept.places_of m after.records ≡ kept.places_of m before.records
    pub block_places : blocked.places_of n after.blocks ≡ blocked.places_of n before.blocks

  -- a call was answered, and left the directory, as the definitions have it
  pub record Performed (before after : Directory K R B) (call : Call K) (given : Answer K) : Type 0 where
    pub answers : given ≡ answer o.order (state before) call
    pub leaves : state after ≡ left_by o.order (state before) call

  -- The law over runs is kept: whatever history led from a start to the directory before, with this call and its answer it
  -- leads to the directory after, of whose tables the law holds.
  abbrev pub KeepsLaw : Directory K R B → Directory K R B → Call K → Answer K → Type 0
  KeepsLaw before after call given =
      (start : Start K) (h : List (Event K)) → Reached o.order start h (state before)
      → Reached o.order start (record { call = call; answer = given } ∷ h) (state after)
      × Law o.order start (record { call = call; answer = given } ∷ h) (state after)

  -- the record of a peer was written as it is once reserved; the places stay
  pub record Reserving (before after : Directory K R B) (key : K) (reserved : Record K) : Type 0 where
    pub leaves : state after ≡ after_reserving o.order (state before) key (write reserved)
    pub places : SamePlaces before after

  -- the record of a peer was written or erased, and its bit set in every set held
  pub record Telling (before after : Directory K R B) (key : K) (turn : Turn K) : Type 0 where
    pub leaves : state after ≡ after_telling o.order (state before) key turn
    pub record_places : kept.PlacesAfter m o (kept.places_of m before.records) (kept.places_of m after.records) key turn
    pub block_places : blocked.places_of n after.blocks ≡ blocked.places_of n before.blocks

  -- The places are as before, but that the place of a key may have been emptied.
  pub record OneEmptied (before after : Directory K R B) (key : K) : Type 0 where
    pub record_places :
        (kept.places_of m after.records ≡ kept.places_of m before.records)
        ⊎ ((p : ℕ) × (at (kept.places_of m before.records) p ≡ Some key) × (kept.places_of m after.records ≡ slice_set (kept.places_of m before.records) p None))
    pub block_places : blocked.places_of n after.blocks ≡ blocked.places_of n before.blocks

  -- an info was taken, which counts as one, or passed over; the places stay
  pub record LearntOne (before after : Directory K R B) (info : Info K) (one : ℕ) : Type 0 where
    pub counts : one ≡ cond (is_some (info_turn o.order info (record_of o.order (state before) info.public_key))) 1 0
    pub leaves : state after ≡ after_info o.order (state before) info
    pub places : SamePlaces before after

  -- of a list of infos all but those that are left were taken or passed over, and so many were taken
  pub record LearntAll (before after : Directory K R B) (infos left : List (Info K)) (count : ℕ) : Type 0 where
    pub counts : count + taken o.order (state after) left ≡ taken o.order (state before) infos
    pub leaves : after_infos o.order (state after) left ≡ after_infos o.order (state before) infos
    pub places : SamePlaces before after

  -- The places are as before, but that the blocks' roll may have the key at a place that was empty.
  pub record OneBlock (before after : Directory K R B) (key : K) : Type 0 where
    pub record_places : kept.places_of m after.records ≡ kept.places_of m before.records
    pub block_places :
        (blocked.places_of n after.blocks ≡ blocked.places_of n before.blocks)
        ⊎ ((p : ℕ) × (at (blocked.places_of n before.blocks) p ≡ None) × (blocked.places_of n after.blocks ≡ slice_set (blocked.places_of n before.blocks) p (Some key)))

  -- The records' places are as before, and those of the blocks' roll were at most emptied.
  pub record FewerBlocks (before after : Directory K R B) : Type 0 where
    pub record_places : kept.places_of m after.records ≡ kept.places_of m before.records
    pub block_places : blocked.OnlyEmptied n (blocked.places_of n before.blocks) (blocked.places_of n after.blocks)
