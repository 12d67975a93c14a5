-- What each call answers, and what it leaves.
use Rattle.std.specs.Prelude.{ℕ, ◌+◌, Bool, true, false, cond, not, ◌&&◌, ◌||◌, List, [], ◌∷◌, length, is_some, is_ok, Some, None, Ok, Err, Option, Result, nat_lt}
use Rattle.std.specs.declared.cmp.Ordering.{Ordering}
use Rattle.types.specs.Ingresses.{host_well_formed}
use Rattle.types.specs.Times.{plus, earlier}
use Rattle.types.specs.declared.info.Info.{Info}
use Rattle.types.specs.declared.moment.Moment.{Moment}
use Rattle.record.specs.Records.{wanted, takes, updated}
use Rattle.record.specs.declared.record.Record.{Record}
use Rattle.tables.specs.Listings.{is_equal, lookup, put, cut}
use Rattle.model.specs.Peers.{Turn, refuse, write, erase, is_blocked, dial_turn, listen_turn}
use Rattle.model.specs.Sets.{marked_all}
use Rattle.model.specs.State.{State, PeerSet}
use Rattle.model.specs.declared.fault.Fault.{Fault}
use Rattle.model.specs.declared.fault.Fault.TheVariants as fault

-- what a call about one peer answers
abbrev pub turn_answer : {K : Type 0} → Turn K → Result (Unit {0}) Fault
turn_answer (refuse f) = Err f
turn_answer (write r) = Ok tt
turn_answer (erase r) = Ok tt

module _ {K : Type 0} (order : K → K → Ordering) where
  abbrev pub with_records : State K → List (K × Record K) → List (PeerSet K) → State K
  with_records s records sets =
      record { own = s.own; config = s.config; record_places = s.record_places; block_places = s.block_places; records = records; sets = sets; blocks = s.blocks }

  -- the records after a turn of one key
  abbrev pub turned : K → Turn K → List (K × Record K) → List (K × Record K)
  turned k (refuse f) records = records
  turned k (write r) records = put order k r records
  turned k (erase r) records = cut order k records

  -- the sets after a turn that tells what is known of a key: its bit is 0 while its information is wanted
  abbrev pub told : ℕ → K → Turn K → List (PeerSet K) → List (PeerSet K)
  told limit k (refuse f) sets = sets
  told limit k (write r) sets = marked_all order k (not (wanted limit r)) sets
  told limit k (erase r) sets = marked_all order k (not (wanted limit r)) sets

  abbrev pub record_of : State K → K → Option (Record K)
  record_of s k = lookup order k s.records

  abbrev pub block_of : State K → K → Option Moment
  block_of s k = lookup order k s.blocks

  abbrev pub dial : State K → Moment → ℕ → K → Turn K
  dial s now draw k = dial_turn s.config now draw (block_of s k) (record_of s k)

  abbrev pub listen : State K → Moment → ℕ → K → Turn K
  listen s now draw k = listen_turn s.config now draw (block_of s k) (record_of s k)

  -- a reservation changes the record alone
  abbrev pub after_reserving : State K → K → Turn K → State K
  after_reserving s k turn = with_records s (turned k turn s.records) s.sets

  -- connecting and releasing also tell what is known of the peer, in every set held
  abbrev pub after_telling : State K → K → Turn K → State K
  after_telling s k turn = with_records s (turned k turn s.records) (told s.config.dial_fail_limit k turn s.sets)

  -- blocks

  abbrev pub with_blocks : State K → List (K × Moment) → State K
  with_blocks s blocks =
      record { own = s.own; config = s.config; record_places = s.record_places; block_places = s.block_places; records = s.records; sets = s.sets; blocks = blocks }

  -- whether there is room for the block of a key: it has an entry already, or a place is empty
  abbrev pub block_fits : State K → K → Bool
  block_fits s k = is_some (block_of s k) || nat_lt (length s.blocks) s.block_places

  -- unblocked; not ourselves; room for it
  abbrev pub block_answer : State K → Moment → K → Result (Unit {0}) Fault
  block_answer s now k =
      cond (is_blocked now (block_of s k)) (Err fault.BlockedAlready)
      (cond (is_equal (order s.own k)) (Err fault.Ourselves)
      (cond (block_fits s k) (Ok tt) (Err fault.TooManyBlocks)))

  -- the block expires the set length of time later
  abbrev pub after_block : State K → Moment → K → State K
  after_block s now k =
      cond (is_ok (block_answer s now k)) (with_blocks s (put order k (plus now s.config.block_duration) s.blocks)) s

  -- infos

  -- whether the host of every info is well formed
  abbrev pub all_well_formed : List (Info K) → Bool
  all_well_formed [] = true
  all_well_formed (i ∷ is) = host_well_formed i.ingress && all_well_formed is

  -- what an info makes of the record of its peer: nothing where there is none, or where it is no news
  abbrev pub info_turn : Info K → Option (Record K) → Option (Record K)
  info_turn info None = None
  info_turn info (Some r) = cond (takes r.address info) (Some (updated r info)) None

  -- the state after an info that was taken or not
  abbrev pub learnt : State K → Info K → Option (Record K) → State K
  learnt s info None = s
  learnt s info (Some r) = after_telling s info.public_key (write r)

  abbrev pub after_info : State K → Info K → State K
  after_info s info = learnt s info (info_turn info (record_of s info.public_key))

  abbrev pub after_infos : State K → List (Info K) → State K
  after_infos s [] = s
  after_infos s (i ∷ is) = after_infos (after_info s i) is

  -- how many infos are taken, one after the other
  abbrev pub taken : State K → List (Info K) → ℕ
  taken s [] = 0
  taken s (i ∷ is) = cond (is_some (info_turn i (record_of s i.public_key))) 1 0 + taken (after_info s i) is

  abbrev pub update_answer : State K → List (Info K) → Result ℕ Fault
  update_answer s infos = cond (all_well_formed infos) (Ok (taken s infos)) (Err fault.MalformedHost)

  abbrev pub after_update : State K → List (Info K) → State K
  after_update s infos = cond (all_well_formed infos) (after_infos s infos) s

-- blocks that have expired go

abbrev pub unexpired : {K : Type 0} → Moment → List (K × Moment) → List (K × Moment)
unexpired now [] = []
unexpired now (b ∷ bs) = cond (earlier now b.1) (b ∷ unexpired now bs) (unexpired now bs)

-- whether any has
abbrev pub any_expired : {K : Type 0} → Moment → List (K × Moment) → Bool
any_expired now [] = false
any_expired now (b ∷ bs) = not (earlier now b.1) || any_expired now bs
