-- What becomes of a record, as the definitions have it.
use Rattle.std.specs.Prelude.{◌≡◌, true, false, Some, None, Ok, Err, Option, Result}
use Rattle.types.specs.declared.ingress.Ingress.{Ingress}
use Rattle.types.specs.declared.moment.Moment.{Moment}
use Rattle.record.specs.Cases.{is_inert}
use Rattle.record.specs.Records.{is_myself, dial_status, dial_ingress}
use Rattle.record.specs.declared.record.Record.{Record}
use Rattle.model.specs.Peers.{Turn as Meant, refuse, write, erase, is_unavailable}
use Rattle.model.specs.declared.config.Config.{Config}
use Rattle.model.specs.declared.fault.Fault.{Fault}
use Rattle.turns.specs.declared.turn.Turn.{Turn}
use Rattle.turns.specs.declared.turn.Turn.TheVariants.{Write, Erase}

-- What is known of a peer by the ingress at which it can be dialled: none exactly if its dial status is Unavailable; else it is
-- that of its address, and the peer is not ourselves, and inert.
abbrev pub Available : {K : Type 0} → Config → Moment → Record K → Option Ingress → Type 0
Available config at r None = is_unavailable (dial_status r at config.allow_private_ips config.allow_dns) ≡ true
Available config at r (Some ingress) =
    (is_unavailable (dial_status r at config.allow_private_ips config.allow_dns) ≡ false)
    × (dial_ingress r.address ≡ Some ingress)
    × (is_myself r.address ≡ false)
    × (is_inert r.status ≡ true)

module _ {K : Type 0} where
  -- what a turn stands for
  abbrev pub taken : Turn K → Meant K
  taken (Write r) = write r
  taken (Erase r) = erase r

  -- a record that is written, or a refusal
  abbrev pub written_or : Result (Record K) Fault → Meant K
  written_or (Ok r) = write r
  written_or (Err f) = refuse f

  -- a turn that is taken, or refused
  abbrev pub turn_of : Result (Turn K) Fault → Meant K
  turn_of (Ok t) = taken t
  turn_of (Err f) = refuse f
