-- Worked rows: what the definitions give at seat numbers.
use Rattle.std.proofs.Common.{◌≡◌, ℕ, Bool, true, false, List, [], ◌∷◌, replicate, Ok, Err, refl}
use Rattle.keys.specs.Order.{ranked}
use Rattle.ip_addr.specs.declared.ip_addr.IpAddr.TheVariants.{V4}
use Rattle.types.specs.declared.info.Info.{Info}
use Rattle.types.specs.declared.ingress.Ingress.{Ingress}
use Rattle.types.specs.declared.ingress.Ingress.TheVariants.{Socket}
use Rattle.types.specs.declared.moment.Moment.{Moment}
use Rattle.model.specs.Calls.{dial, listen, turn_answer, after_reserving, after_telling, record_of, after_update, update_answer, after_block}
use Rattle.model.specs.Peers.{connect_turn, release_turn}
use Rattle.model.specs.Questions.{asked, tracked, reserved}
use Rattle.model.specs.State.{State, PeerSet}
use Rattle.model.specs.Track.{first_state, init_answer, track_answer, after_track}
use Rattle.model.specs.declared.config.Config.{Config}
use Rattle.model.specs.declared.fault.Fault.TheVariants as fault

abbrev at : ℕ → Moment
at n = record { millis = n }

abbrev socket : ℕ → Ingress
socket port = Socket (record { ip = V4 (record { octets = 10 ∷ 0 ∷ 0 ∷ 1 ∷ []; whole = refl }); port = port })

abbrev info : ℕ → ℕ → Info ℕ
info k stamp = record { ingress = socket 80; timestamp = at stamp; public_key = k; signature = replicate 64 0 }

abbrev config : Config
config =
    record {
      allow_private_ips = true;
      allow_dns = false;
      max_sets = 2;
      dial_fail_limit = 1;
      peer_connection_cooldown = record { millis = 1000 };
      block_duration = record { millis = 5000 };
    }

abbrev s0 : State ℕ
s0 = first_state ranked (info 9 0) [] config 64 64

abbrev s1 : State ℕ
s1 = after_track ranked s0 64 1 (3 ∷ 5 ∷ []) (7 ∷ [])

abbrev s2 : State ℕ
s2 = after_reserving ranked s1 5 (listen ranked s1 (at 2000) 0 5)

abbrev s3 : State ℕ
s3 = after_track ranked s2 64 2 (3 ∷ []) []

abbrev s4 : State ℕ
s4 = after_track ranked s3 64 3 (4 ∷ []) []

abbrev s5 : State ℕ
s5 = after_telling ranked s4 5 (release_turn (record_of ranked s4 5))

row_init : init_answer ranked (info 9 0) [] config 64 true ≡ Ok tt
row_init = refl

row_1 : (tracked s0 ≡ 0) × (tracked s1 ≡ 3) × (reserved s1 ≡ 0) × (tracked s2 ≡ 3) × (reserved s2 ≡ 1) × (tracked s3 ≡ 3) × (tracked s4 ≡ 3) × (reserved s4 ≡ 1) × (tracked s5 ≡ 2) × (reserved s5 ≡ 0)
row_1 = (refl, refl, refl, refl, refl, refl, refl, refl, refl, refl)

row_1_named : track_answer ranked s3 64 3 (4 ∷ []) [] ≡ Ok (5 ∷ [])
row_1_named = refl

row_1_gone : turn_answer (release_turn (record_of ranked s5 5)) ≡ Err fault.NoRecord
row_1_gone = refl

row_2 : (track_answer ranked s4 64 1 [] [] ≡ Err fault.IndexBelowNewest) × (track_answer ranked s4 64 3 [] [] ≡ Err fault.IndexHeld)
row_2 = (refl, refl)

abbrev s6 : State ℕ
s6 = after_telling ranked s2 5 (release_turn (record_of ranked s2 5))

row_3 : (turn_answer (listen ranked s6 (at 2999) 0 5) ≡ Err fault.TooEarly) × (turn_answer (listen ranked s6 (at 3000) 0 5) ≡ Ok tt)
row_3 = (refl, refl)

abbrev s7 : State ℕ
s7 = after_block ranked s1 (at 2000) 5

row_5 : (turn_answer (listen ranked s7 (at 6999) 0 5) ≡ Err fault.Blocked) × (turn_answer (listen ranked s7 (at 7000) 0 5) ≡ Ok tt)
row_5 = (refl, refl)

row_6 : (update_answer ranked s1 (info 5 10 ∷ info 5 10 ∷ []) ≡ Ok 1) × (update_answer ranked s1 (info 5 10 ∷ info 5 11 ∷ []) ≡ Ok 2)
row_6 = (refl, refl)

row_8 : (turn_answer (dial ranked (after_track ranked s0 64 1 (9 ∷ []) []) (at 2000) 0 9) ≡ Err fault.NotDialable) × (turn_answer (listen ranked (after_track ranked s0 64 1 (9 ∷ []) []) (at 2000) 0 9) ≡ Err fault.NotEligible)
row_8 = (refl, refl)

-- a primary that was discovered at 10
abbrev t0 : State ℕ
t0 = after_update ranked s1 (info 5 10 ∷ [])

-- and is dialled at 2000
abbrev t1 : ℕ → State ℕ
t1 draw = after_reserving ranked t0 5 (dial ranked t0 (at 2000) draw 5)

abbrev next_dial : State ℕ → ℕ
next_dial s = asked (λ r. r.next_dial_at.millis) 0 (record_of ranked s 5)

row_4 : (next_dial (t1 500) ≡ 3500) × (next_dial (t1 501) ≡ 3000)
row_4 = (refl, refl)

abbrev connected_then : State ℕ → State ℕ
connected_then s = after_telling ranked s 5 (connect_turn (record_of ranked s 5))

abbrev released_then : State ℕ → State ℕ
released_then s = after_telling ranked s 5 (release_turn (record_of ranked s 5))

-- the bits of the sets held
abbrev bits_of : List (PeerSet ℕ) → List (List (ℕ × Bool))
bits_of [] = []
bits_of (s ∷ ss) = s.primary ∷ bits_of ss

row_7 : (bits_of (released_then (connected_then (t1 0))).sets ≡ ((3, false) ∷ (5, true) ∷ []) ∷ []) × (bits_of (released_then (t1 0)).sets ≡ ((3, false) ∷ (5, false) ∷ []) ∷ [])
row_7 = (refl, refl)

row_8_bit : bits_of (after_track ranked s0 64 1 (9 ∷ []) []).sets ≡ ((9, true) ∷ []) ∷ []
row_8_bit = refl
