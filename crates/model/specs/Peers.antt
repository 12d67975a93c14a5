-- What a call about one peer makes of that peer's record.
use Rattle.std.specs.Prelude.{ℕ, Bool, true, false, cond, not, Some, None, Option}
use Rattle.types.specs.Times.{earlier}
use Rattle.types.specs.declared.ingress.Ingress.{Ingress}
use Rattle.types.specs.declared.moment.Moment.{Moment}
use Rattle.record.specs.Cases.{is_inert}
use Rattle.record.specs.Records.{eligible, deletable, dial_status, dial_ingress, reserved_at, connected, released}
use Rattle.record.specs.declared.dialing.DialStatus.{DialStatus}
use Rattle.record.specs.declared.dialing.DialStatus.TheVariants as dial
use Rattle.record.specs.declared.record.Record.{Record}
use Rattle.record.specs.declared.role.Role.TheVariants.{Dialer, Listener}
use Rattle.record.specs.declared.status.Status.{Status}
use Rattle.record.specs.declared.status.Status.TheVariants.{Inert, Reserved, Active}
use Rattle.model.specs.declared.config.Config.{Config}
use Rattle.model.specs.declared.fault.Fault.{Fault}
use Rattle.model.specs.declared.fault.Fault.TheVariants as fault

-- what a call makes of a record: it is refused, the record is written, or it is erased once it is as given
pub data Turn (K : Type 0) : Type 0 where
  refuse : Fault → Turn K
  write : Record K → Turn K
  erase : Record K → Turn K

-- a peer is blocked while its block expires later
abbrev pub is_blocked : Moment → Option Moment → Bool
is_blocked now None = false
is_blocked now (Some expiry) = earlier now expiry

-- whether a dial status is one of a peer that cannot be dialled
abbrev pub is_unavailable : DialStatus → Bool
is_unavailable dial.Now = false
is_unavailable (dial.After moment) = false
is_unavailable dial.Unavailable = true

module _ {K : Type 0} where
  -- a record that is written, or erased if nothing holds it
  abbrev pub kept : Record K → Turn K
  kept r = cond (deletable r) (erase r) (write r)

  module _ (config : Config) where
    -- a dial at the ingress that is known
    abbrev pub dial_known : Moment → ℕ → Record K → Option Ingress → Turn K
    dial_known now draw r None = refuse fault.NotDialable
    dial_known now draw r (Some ingress) = write (reserved_at r now draw config.peer_connection_cooldown (Dialer ingress))

    -- a record; it can be dialled; unblocked; not too early
    abbrev pub dial_turn : Moment → ℕ → Option Moment → Option (Record K) → Turn K
    dial_turn now draw block None = refuse fault.NoRecord
    dial_turn now draw block (Some r) =
        cond (is_unavailable (dial_status r now config.allow_private_ips config.allow_dns)) (refuse fault.NotDialable)
        (cond (is_blocked now block) (refuse fault.Blocked)
        (cond (earlier now r.next_reservable_at) (refuse fault.TooEarly)
        (dial_known now draw r (dial_ingress r.address))))

    -- a record; eligible; inert; not too early
    abbrev pub listen_turn_of : Moment → ℕ → Option (Record K) → Turn K
    listen_turn_of now draw None = refuse fault.NoRecord
    listen_turn_of now draw (Some r) =
        cond (not (eligible r)) (refuse fault.NotEligible)
        (cond (not (is_inert r.status)) (refuse fault.NotInert)
        (cond (earlier now r.next_reservable_at) (refuse fault.TooEarly)
        (write (reserved_at r now draw config.peer_connection_cooldown Listener))))

    -- unblocked, before all else
    abbrev pub listen_turn : Moment → ℕ → Option Moment → Option (Record K) → Turn K
    listen_turn now draw block r = cond (is_blocked now block) (refuse fault.Blocked) (listen_turn_of now draw r)

  -- a record; reserved
  abbrev pub connect_at : Record K → Status → Turn K
  connect_at r Inert = refuse fault.NotReserved
  connect_at r Reserved = write (connected r)
  connect_at r Active = refuse fault.NotReserved

  abbrev pub connect_turn : Option (Record K) → Turn K
  connect_turn None = refuse fault.NoRecord
  connect_turn (Some r) = connect_at r r.status

  -- a record; not inert; then it is deleted if nothing holds it
  abbrev pub release_at : Record K → Status → Turn K
  release_at r Inert = refuse fault.IsInert
  release_at r Reserved = kept (released r)
  release_at r Active = kept (released r)

  abbrev pub release_turn : Option (Record K) → Turn K
  release_turn None = refuse fault.NoRecord
  release_turn (Some r) = release_at r r.status
