-- What a record means: what is asked of it, and what each change makes of it.
use Rattle.std.specs.Prelude.{ℕ, ◌+◌, ◌-◌, ◌^◌, min, Bool, true, false, cond, not, ◌&&◌, ◌||◌, Some, None, Ok, Err, Option, Result, ◌==◌, nat_le, nat_lt}
use Rattle.types.specs.Ingresses.{is_valid, same_ingress}
use Rattle.types.specs.Times.{plus, jitter, earlier}
use Rattle.types.specs.declared.info.Info.{Info}
use Rattle.types.specs.declared.ingress.Ingress.{Ingress}
use Rattle.types.specs.declared.moment.Moment.{Moment}
use Rattle.types.specs.declared.span.Span.{Span}
use Rattle.record.specs.Cases.{is_inert}
use Rattle.record.specs.declared.address.Address.{Address}
use Rattle.record.specs.declared.address.Address.TheVariants.{Unknown, Myself, Bootstrapper, Discovered}
use Rattle.record.specs.declared.dialing.DialStatus.{DialStatus}
use Rattle.record.specs.declared.dialing.DialStatus.TheVariants as dial
use Rattle.record.specs.declared.dialing.ReserveResult.{ReserveResult}
use Rattle.record.specs.declared.dialing.ReserveResult.TheVariants as reserve
use Rattle.record.specs.declared.fault.RecordFault.{RecordFault}
use Rattle.record.specs.declared.fault.RecordFault.TheVariants.{NotReserved, IsInert}
use Rattle.record.specs.declared.record.Record.{Record}
use Rattle.record.specs.declared.role.Role.{Role}
use Rattle.record.specs.declared.role.Role.TheVariants.{Dialer, Listener}
use Rattle.record.specs.declared.status.Status.{Status}
use Rattle.record.specs.declared.status.Status.TheVariants.{Inert, Reserved, Active}

-- the beginning of time, at which a new record may be reserved and dialled
abbrev pub epoch : Moment
epoch = record { millis = 0 }

-- the largest number of failures that is counted
abbrev pub most_failures : ℕ
most_failures = 2 ^ 64 - 1

-- the largest number of sets that is counted
abbrev pub most_sets : ℕ
most_sets = 2 ^ 64 - 1

-- whether dials have failed so often that we ask for news, of a peer that is not connected
abbrev pub given_up : ℕ → ℕ → Status → Bool
given_up limit failures Inert = nat_le limit failures
given_up limit failures Reserved = nat_le limit failures
given_up limit failures Active = false

-- from when on a peer that can be dialled is to be
abbrev pub dial_when : Moment → Moment → DialStatus
dial_when now next = cond (earlier now next) (dial.After next) dial.Now

-- the dial status of an ingress that may be known and may be dialled
abbrev pub dial_at : Option Ingress → Bool → Bool → Moment → Moment → DialStatus
dial_at None private dns now next = dial.Unavailable
dial_at (Some ingress) private dns now next = cond (is_valid ingress private dns) (dial_when now next) dial.Unavailable

-- what `connect` answers
abbrev pub connect_answer : Status → Result (Unit {0}) RecordFault
connect_answer Inert = Err NotReserved
connect_answer Reserved = Ok tt
connect_answer Active = Err NotReserved

-- what `release` answers
abbrev pub release_answer : Status → Result (Unit {0}) RecordFault
release_answer Inert = Err IsInert
release_answer Reserved = Ok tt
release_answer Active = Ok tt

module _ {K : Type 0} where
  -- a new record of an address: inert, in no set, reservable and dialable from the beginning of time
  abbrev pub fresh : Address K → Bool → Record K
  fresh address persistent =
      record {
        address = address;
        status = Inert;
        primary_sets = 0;
        secondary_sets = 0;
        persistent = persistent;
        next_reservable_at = epoch;
        next_dial_at = epoch;
        role = None;
      }

  -- a record with another address, status, number of sets, or role

  abbrev pub with_address : Record K → Address K → Record K
  with_address r address =
      record {
        address = address;
        status = r.status;
        primary_sets = r.primary_sets;
        secondary_sets = r.secondary_sets;
        persistent = r.persistent;
        next_reservable_at = r.next_reservable_at;
        next_dial_at = r.next_dial_at;
        role = r.role;
      }

  abbrev pub with_sets : Record K → ℕ → ℕ → Record K
  with_sets r primary secondary =
      record {
        address = r.address;
        status = r.status;
        primary_sets = primary;
        secondary_sets = secondary;
        persistent = r.persistent;
        next_reservable_at = r.next_reservable_at;
        next_dial_at = r.next_dial_at;
        role = r.role;
      }

  abbrev pub with_status : Record K → Address K → Status → Option Role → Record K
  with_status r address status role =
      record {
        address = address;
        status = status;
        primary_sets = r.primary_sets;
        secondary_sets = r.secondary_sets;
        persistent = r.persistent;
        next_reservable_at = r.next_reservable_at;
        next_dial_at = r.next_dial_at;
        role = role;
      }

  -- questions

  -- whether the peer is ourselves
  abbrev pub is_myself : Address K → Bool
  is_myself Unknown = false
  is_myself (Myself info) = true
  is_myself (Bootstrapper ingress) = false
  is_myself (Discovered info failures) = false

  -- whether the peer is to be dialled: it is primary in some set, or a bootstrapper
  abbrev pub outbound_target : Record K → Bool
  outbound_target r = nat_lt 0 r.primary_sets || r.persistent

  -- whether there may be a connection to the peer: it is not ourselves, and is in some set or persistent
  abbrev pub eligible : Record K → Bool
  eligible r = not (is_myself r.address) && (nat_lt 0 r.primary_sets || nat_lt 0 r.secondary_sets || r.persistent)

  -- whether the peer may connect to us: it is eligible, and there is no reservation or connection
  abbrev pub acceptable : Record K → Bool
  acceptable r = eligible r && is_inert r.status

  -- whether the record may be deleted: in no set, not persistent, inert
  abbrev pub deletable : Record K → Bool
  deletable r = r.primary_sets == 0 && r.secondary_sets == 0 && not r.persistent && is_inert r.status

  -- whether the peer can be blocked: all but ourselves can
  abbrev pub blockable : Record K → Bool
  blockable r = not (is_myself r.address)

  -- whether a reservation or connection is to be closed: there is one, and the peer is not eligible
  abbrev pub teardown : Record K → Bool
  teardown r = not (is_inert r.status) && not (eligible r)

  -- Whether the peer's information is wanted: ours never is; that of a peer of which there is none is; any other is
  -- once dialing the peer has failed as often as the limit says, unless it is connected.
  abbrev pub wanted_of : ℕ → Address K → Status → Bool
  wanted_of limit Unknown status = true
  wanted_of limit (Myself info) status = false
  wanted_of limit (Bootstrapper ingress) status = true
  wanted_of limit (Discovered info failures) status = given_up limit failures status

  abbrev pub wanted : ℕ → Record K → Bool
  wanted limit r = wanted_of limit r.address r.status

  -- the info that may be given to others: our own, and that of a peer that is connected
  abbrev pub sharable_of : Address K → Status → Option (Info K)
  sharable_of Unknown status = None
  sharable_of (Myself info) status = Some info
  sharable_of (Bootstrapper ingress) status = None
  sharable_of (Discovered info failures) Inert = None
  sharable_of (Discovered info failures) Reserved = None
  sharable_of (Discovered info failures) Active = Some info

  abbrev pub sharable : Record K → Option (Info K)
  sharable r = sharable_of r.address r.status

  -- the ingress at which a peer can be dialled: a bootstrapper's, or that of an info
  abbrev pub dial_ingress : Address K → Option Ingress
  dial_ingress Unknown = None
  dial_ingress (Myself info) = None
  dial_ingress (Bootstrapper ingress) = Some ingress
  dial_ingress (Discovered info failures) = Some info.ingress

  -- whether and when the peer can be dialled: it is inert and to be dialled, at an ingress that may be
  abbrev pub dial_status : Record K → Moment → Bool → Bool → DialStatus
  dial_status r now private dns =
      cond (is_inert r.status && outbound_target r) (dial_at (dial_ingress r.address) private dns now r.next_dial_at) dial.Unavailable

  -- the role of the reservation or connection, as granted
  abbrev pub granted : Record K → Option Role
  granted r = cond (is_inert r.status) None r.role

  -- changes

  -- whether an info is taken: never of ourselves, always where there is none, else if it is newer
  abbrev pub takes : Address K → Info K → Bool
  takes Unknown info = true
  takes (Myself own) info = false
  takes (Bootstrapper ingress) info = true
  takes (Discovered old failures) info = earlier old.timestamp info.timestamp

  abbrev pub updated : Record K → Info K → Record K
  updated r info = cond (takes r.address info) (with_address r (Discovered info 0)) r

  -- a member of one set more or fewer

  abbrev pub primary_up : Record K → Record K
  primary_up r = with_sets r (min (r.primary_sets + 1) most_sets) r.secondary_sets

  abbrev pub primary_down : Record K → Record K
  primary_down r = with_sets r (r.primary_sets - 1) r.secondary_sets

  abbrev pub secondary_up : Record K → Record K
  secondary_up r = with_sets r r.primary_sets (min (r.secondary_sets + 1) most_sets)

  abbrev pub secondary_down : Record K → Record K
  secondary_down r = with_sets r r.primary_sets (r.secondary_sets - 1)

  -- what comes of an attempt to reserve at a moment
  abbrev pub reserve_result : Record K → Moment → ReserveResult
  reserve_result r now =
      cond (is_myself r.address || not (is_inert r.status)) reserve.Unavailable
      (cond (earlier now r.next_reservable_at) reserve.RateLimited reserve.Reserved)

  -- a record that is reserved at a moment, for a role
  abbrev pub reserved_at : Record K → Moment → ℕ → Span → Role → Record K
  reserved_at r now draw cooldown role =
      record {
        address = r.address;
        status = Reserved;
        primary_sets = r.primary_sets;
        secondary_sets = r.secondary_sets;
        persistent = r.persistent;
        next_reservable_at = plus now cooldown;
        next_dial_at = plus (plus now cooldown) (jitter cooldown draw);
        role = Some role;
      }

  abbrev pub after_reserve : ReserveResult → Record K → Moment → ℕ → Span → Role → Record K
  after_reserve reserve.Reserved r now draw cooldown role = reserved_at r now draw cooldown role
  after_reserve reserve.RateLimited r now draw cooldown role = r
  after_reserve reserve.Unavailable r now draw cooldown role = r

  -- a dial that came up: no failures any more
  abbrev pub came_up : Address K → Option Role → Address K
  came_up Unknown role = Unknown
  came_up (Myself info) role = Myself info
  came_up (Bootstrapper ingress) role = Bootstrapper ingress
  came_up (Discovered info failures) None = Discovered info failures
  came_up (Discovered info failures) (Some Listener) = Discovered info failures
  came_up (Discovered info failures) (Some (Dialer ingress)) = Discovered info 0

  -- what `connect` leaves
  abbrev pub connected_from : Record K → Status → Record K
  connected_from r Inert = r
  connected_from r Reserved = with_status r (came_up r.address r.role) Active r.role
  connected_from r Active = r

  abbrev pub connected : Record K → Record K
  connected r = connected_from r r.status

  -- One failure more, if the dial's ingress is that of the info still held; a dial of another ingress says nothing
  -- of this one.
  abbrev pub failed_at : Ingress → Address K → Address K
  failed_at ingress Unknown = Unknown
  failed_at ingress (Myself info) = Myself info
  failed_at ingress (Bootstrapper own) = Bootstrapper own
  failed_at ingress (Discovered info failures) = Discovered info (cond (same_ingress info.ingress ingress) (min (failures + 1) most_failures) failures)

  -- A reservation of a dial that is released has failed; a connection has not, nor has waiting for a peer.
  abbrev pub fell_through : Address K → Status → Option Role → Address K
  fell_through address Inert role = address
  fell_through address Active role = address
  fell_through address Reserved None = address
  fell_through address Reserved (Some Listener) = address
  fell_through address Reserved (Some (Dialer ingress)) = failed_at ingress address

  -- what `release` leaves
  abbrev pub released : Record K → Record K
  released r = cond (is_inert r.status) r (with_status r (fell_through r.address r.status r.role) Inert None)
