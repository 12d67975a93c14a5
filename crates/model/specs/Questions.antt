-- What each question answers.
use Rattle.std.specs.Prelude.{ℕ, suc, ◌-◌, ◌%◌, Bool, true, false, cond, not, ◌&&◌, List, [], ◌∷◌, length, Some, None, Ok, Err, Option, Result, ◌==◌, nat_lt}
use Rattle.std.specs.declared.cmp.Ordering.{Ordering}
use Rattle.std.specs.List.{slice_get}
use Rattle.types.specs.Times.{earlier, earliest}
use Rattle.types.specs.declared.info.Info.{Info}
use Rattle.types.specs.declared.moment.Moment.{Moment}
use Rattle.record.specs.Cases.{is_inert}
use Rattle.record.specs.Records.{eligible, acceptable, sharable, dial_status, granted}
use Rattle.record.specs.declared.dialing.DialStatus.{DialStatus}
use Rattle.record.specs.declared.dialing.DialStatus.TheVariants as dial
use Rattle.record.specs.declared.record.Record.{Record}
use Rattle.record.specs.declared.role.Role.{Role}
use Rattle.model.specs.Calls.{record_of, block_of}
use Rattle.model.specs.Peers.{is_blocked}
use Rattle.model.specs.Sets.{set_at}
use Rattle.model.specs.State.{State, PeerSet}
use Rattle.model.specs.declared.fault.Fault.{Fault}
use Rattle.model.specs.declared.fault.Fault.TheVariants as fault

-- what a question about a record answers where there is none
abbrev pub asked : {R A : Type 0} → (R → A) → A → Option R → A
asked question none None = none
asked question none (Some r) = question r

-- whether a dial status is Now
abbrev pub is_now : DialStatus → Bool
is_now dial.Now = true
is_now (dial.After moment) = false
is_now dial.Unavailable = false

-- the earliest of what was found so far and the moment of a dial status
abbrev pub earliest_after : Option Moment → DialStatus → Option Moment
earliest_after found dial.Now = found
earliest_after found (dial.After moment) = Some (earliest found moment)
earliest_after found dial.Unavailable = found

-- the earliest of what was found so far and the expiry of a block
abbrev pub earliest_expiry_of : Option Moment → Option Moment → Option Moment
earliest_expiry_of found None = found
earliest_expiry_of found (Some expiry) = Some (earliest found expiry)

module _ {K : Type 0} where
  -- an info, if it is there and was signed at or before now, in front of others
  abbrev pub with_info : Moment → Option (Info K) → List (Info K) → List (Info K)
  with_info now None infos = infos
  with_info now (Some i) infos = cond (earlier now i.timestamp) infos (i ∷ infos)

module _ {K : Type 0} (order : K → K → Ordering) where
  abbrev pub status_of : State K → Moment → Record K → DialStatus
  status_of s now r = dial_status r now s.config.allow_private_ips s.config.allow_dns

  -- the keys that can be dialled now: unblocked, in key order
  abbrev pub dialable_keys : State K → Moment → List (K × Record K) → List K
  dialable_keys s now [] = []
  dialable_keys s now (e ∷ es) =
      cond (not (is_blocked now (block_of order s e.0)) && is_now (status_of s now e.1)) (e.0 ∷ dialable_keys s now es) (dialable_keys s now es)

  -- when to ask again: the earliest moment from which on another peer can be dialled, or at which the block of one with a
  -- record expires
  abbrev pub dialable_next : State K → Moment → List (K × Record K) → Option Moment → Option Moment
  dialable_next s now [] found = found
  dialable_next s now (e ∷ es) found =
      dialable_next s now es
      (cond (is_blocked now (block_of order s e.0)) (earliest_expiry_of found (block_of order s e.0)) (earliest_after found (status_of s now e.1)))

  -- whether there may be a connection to a peer: it is unblocked too
  abbrev pub is_eligible : State K → Moment → K → Bool
  is_eligible s now k = not (is_blocked now (block_of order s k)) && asked eligible false (record_of order s k)

  abbrev pub is_acceptable : State K → Moment → K → Bool
  is_acceptable s now k = not (is_blocked now (block_of order s k)) && asked acceptable false (record_of order s k)

  -- the info of a peer that may be given to others
  abbrev pub info_of : State K → K → Option (Info K)
  info_of s k = asked sharable None (record_of order s k)

  -- the role of a peer's reservation or connection
  abbrev pub metadata_of : State K → K → Option Role
  metadata_of s k = asked granted None (record_of order s k)

  -- the infos of those primaries whose bit is 0, if signed at or before now
  abbrev pub infos_for : State K → Moment → List (K × Bool) → List Bool → List (Info K)
  infos_for s now [] bits = []
  infos_for s now (m ∷ ms) [] = []
  infos_for s now (m ∷ ms) (b ∷ bits) = cond b (infos_for s now ms bits) (with_info now (info_of s m.0) (infos_for s now ms bits))

  -- an index that is not held gives no infos; a vector that has not one bit for each primary is refused
  abbrev pub infos_from : State K → Moment → ℕ → List Bool → Option (PeerSet K) → Result (List (Info K)) Fault
  infos_from s now count bits None = Ok []
  infos_from s now count bits (Some set) = cond (count == length set.primary) (Ok (infos_for s now set.primary bits)) (Err fault.WrongBits)

  abbrev pub infos_answer : State K → Moment → ℕ → ℕ → ℕ → List Bool → Result (List (Info K)) Fault
  infos_answer s now room index count bits = cond (nat_lt room 64) (Err fault.ShortList) (infos_from s now count bits (set_at index s.sets))

module _ {K : Type 0} where
  -- the peers that are blocked, in key order
  abbrev pub blocked_keys : Moment → List (K × Moment) → List K
  blocked_keys now [] = []
  blocked_keys now (b ∷ bs) = cond (earlier now b.1) (b.0 ∷ blocked_keys now bs) (blocked_keys now bs)

  -- the earliest expiry of a block
  abbrev pub first_expiry : List (K × Moment) → Option Moment → Option Moment
  first_expiry [] found = found
  first_expiry (b ∷ bs) found = first_expiry bs (Some (earliest found b.1))

  -- all primaries, and those that are secondaries only, in key order
  abbrev pub all_primary : List (K × Record K) → List K
  all_primary [] = []
  all_primary (e ∷ es) = cond (nat_lt 0 e.1.primary_sets) (e.0 ∷ all_primary es) (all_primary es)

  abbrev pub all_secondary : List (K × Record K) → List K
  all_secondary [] = []
  all_secondary (e ∷ es) =
      cond (not (nat_lt 0 e.1.primary_sets) && nat_lt 0 e.1.secondary_sets) (e.0 ∷ all_secondary es) (all_secondary es)

  -- the set of a draw, oldest first, or none while there is none
  abbrev pub drawn_set : ℕ → List (PeerSet K) → Option (PeerSet K)
  drawn_set draw [] = None
  drawn_set draw (s ∷ ss) = slice_get (s ∷ ss) (draw % length (s ∷ ss))

  -- the gauges: peers with a record, not counting ourselves, and peers that are not inert

  abbrev pub tracked : State K → ℕ
  tracked s = length s.records - 1

  abbrev pub reserved_in : List (K × Record K) → ℕ
  reserved_in [] = 0
  reserved_in (e ∷ es) = cond (is_inert e.1.status) (reserved_in es) (suc (reserved_in es))

  abbrev pub reserved : State K → ℕ
  reserved s = reserved_in s.records
