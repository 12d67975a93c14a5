-- Worked rows: what the notions of a history give at seat numbers.
use Rattle.std.proofs.Common.{◌≡◌, ℕ, true, false, List, [], ◌∷◌, take, drop, replicate, Some, None, refl}
use Rattle.keys.specs.Order.{ranked}
use Rattle.ip_addr.specs.declared.ip_addr.IpAddr.TheVariants.{V4}
use Rattle.types.specs.declared.info.Info.{Info}
use Rattle.types.specs.declared.ingress.Ingress.{Ingress}
use Rattle.types.specs.declared.ingress.Ingress.TheVariants.{Socket}
use Rattle.types.specs.declared.moment.Moment.{Moment}
use Rattle.model.specs.Runs.{Call, Track, Dial, Listen, Connect, Release, UpdatePeers, Named, run_answers}
use Rattle.model.specs.State.{State}
use Rattle.model.specs.Track.{first_state}
use Rattle.model.specs.declared.config.Config.{Config}
use Rattle.laws.specs.History.{Start, Event, count, reserves, releases, sets_held, is_open, is_connected, has_seat, last_info, dialled_at, failed_dials, is_wanted}
use Rattle.laws.specs.Starts.{new_start, history_of}

abbrev at : ℕ → Moment
at n = record { millis = n }

abbrev socket : ℕ → Ingress
socket port = Socket (record { ip = V4 (record { octets = 10 ∷ 0 ∷ 0 ∷ 1 ∷ []; whole = refl }); port = port })

abbrev info : ℕ → ℕ → ℕ → Info ℕ
info k stamp port = record { ingress = socket port; timestamp = at stamp; public_key = k; signature = replicate 64 0 }

abbrev config : Config
config =
    record {
      allow_private_ips = true;
      allow_dns = false;
      max_sets = 2;
      dial_fail_limit = 1;
      peer_connection_cooldown = record { millis = 1000 };
      block_duration = record { millis = 5000 };
    }

-- we are 9, and 4 is a bootstrapper
abbrev start : Start ℕ
start = new_start (info 9 0 80) ((4, socket 70) ∷ (9, socket 71) ∷ (4, socket 72) ∷ []) config

abbrev new : State ℕ
new = first_state ranked (info 9 0 80) ((4, socket 70) ∷ (9, socket 71) ∷ (4, socket 72) ∷ []) config 64 64

-- the history of the first calls of a list
abbrev first : ℕ → List (Call ℕ) → List (Event ℕ)
first n calls = history_of (take n calls) (take n (run_answers ranked new calls))

-- sets come and go

abbrev sets_calls : List (Call ℕ)
sets_calls =
    Track 64 1 (3 ∷ 5 ∷ []) (5 ∷ 7 ∷ []) ∷ Listen (at 2000) 0 5 ∷ Listen (at 2000) 0 5 ∷ Track 64 2 (3 ∷ []) [] ∷ Track 64 2 [] [] ∷ UpdatePeers (info 5 1 80 ∷ info 7 1 80 ∷ []) ∷ Track 64 3 (4 ∷ []) [] ∷ Release 5 ∷ []

row_held : sets_held ranked start (first 7 sets_calls) ≡ record { index = 2; primary = 3 ∷ []; secondary = [] } ∷ record { index = 3; primary = 4 ∷ []; secondary = [] } ∷ []
row_held = refl

row_first : sets_held ranked start (first 1 sets_calls) ≡ record { index = 1; primary = 3 ∷ 5 ∷ []; secondary = 7 ∷ [] } ∷ []
row_first = refl

-- 5 is open from its one accepted listen to its release, in the set that leaves or not; 7 goes with its set, and what it said too

row_open : (count (reserves ranked 5) (first 7 sets_calls) ≡ 1) × (is_open ranked 5 (first 1 sets_calls) ≡ false) × (is_open ranked 5 (first 2 sets_calls) ≡ true) × (is_open ranked 5 (first 7 sets_calls) ≡ true) × (is_open ranked 5 (first 8 sets_calls) ≡ false) × (count (releases ranked 5) (first 8 sets_calls) ≡ 1)
row_open = (refl, refl, refl, refl, refl, refl)

row_seats : (has_seat ranked start 5 (first 6 sets_calls) ≡ true) × (has_seat ranked start 5 (first 7 sets_calls) ≡ false) × (has_seat ranked start 4 (first 6 sets_calls) ≡ true) × (has_seat ranked start 3 (first 7 sets_calls) ≡ true)
row_seats = (refl, refl, refl, refl)

row_infos : (last_info ranked start 5 (first 7 sets_calls) ≡ Some (info 5 1 80)) × (last_info ranked start 5 (first 8 sets_calls) ≡ None) × (last_info ranked start 7 (first 6 sets_calls) ≡ Some (info 7 1 80)) × (last_info ranked start 7 (first 7 sets_calls) ≡ None)
row_infos = (refl, refl, refl, refl)

row_named : take 1 (drop 6 (run_answers ranked new sets_calls)) ≡ Named (5 ∷ []) ∷ []
row_named = refl

-- dials fail

abbrev dial_calls : List (Call ℕ)
dial_calls =
    Dial (at 2000) 0 4 ∷ Release 4 ∷ UpdatePeers (info 4 5 80 ∷ info 4 5 81 ∷ []) ∷ Dial (at 4000) 0 4 ∷ Release 4 ∷ UpdatePeers (info 4 4 81 ∷ []) ∷ Dial (at 6000) 0 4 ∷ UpdatePeers (info 4 6 82 ∷ []) ∷ Release 4 ∷ Dial (at 8000) 0 4 ∷ Release 4 ∷ Dial (at 10000) 0 4 ∷ Connect 4 ∷ Release 4 ∷ []

-- the later of two bootstrappers with one key counts, and no info of it was taken
row_bootstrapper : (dialled_at ranked start 4 (first 1 dial_calls) ≡ Some (socket 72)) × (failed_dials ranked start 4 (first 2 dial_calls) ≡ 0) × (is_wanted ranked start 4 (first 2 dial_calls) ≡ true)
row_bootstrapper = (refl, refl, refl)

-- the first of two infos with one stamp is taken; a failed dial makes the information wanted, and an older info does not help
row_failed : (last_info ranked start 4 (first 3 dial_calls) ≡ Some (info 4 5 80)) × (is_wanted ranked start 4 (first 3 dial_calls) ≡ false) × (failed_dials ranked start 4 (first 5 dial_calls) ≡ 1) × (is_wanted ranked start 4 (first 5 dial_calls) ≡ true) × (failed_dials ranked start 4 (first 6 dial_calls) ≡ 1)
row_failed = (refl, refl, refl, refl, refl)

-- a newer info does, and a dial at an ingress from before it does not count
row_renewed : (failed_dials ranked start 4 (first 8 dial_calls) ≡ 0) × (dialled_at ranked start 4 (first 8 dial_calls) ≡ Some (socket 80)) × (failed_dials ranked start 4 (first 9 dial_calls) ≡ 0) × (failed_dials ranked start 4 (first 11 dial_calls) ≡ 1)
row_renewed = (refl, refl, refl, refl)

-- nor does one that was connected, which also clears what was counted
row_connected : (is_connected ranked 4 (first 13 dial_calls) ≡ true) × (is_wanted ranked start 4 (first 12 dial_calls) ≡ true) × (is_wanted ranked start 4 (first 13 dial_calls) ≡ false) × (failed_dials ranked start 4 (first 14 dial_calls) ≡ 0) × (is_wanted ranked start 4 (first 14 dial_calls) ≡ false)
row_connected = (refl, refl, refl, refl, refl)

-- ours is never wanted, though we are among the bootstrappers
row_ours : (is_wanted ranked start 9 (first 3 dial_calls) ≡ false) × (is_wanted ranked start 3 [] ≡ true)
row_ours = (refl, refl)
