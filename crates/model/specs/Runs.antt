-- The calls that change a directory, with what each is given and what it answers; and runs of calls.
use Rattle.std.specs.Prelude.{ℕ, Bool, List, [], ◌∷◌, Ok, Err, Result}
use Rattle.std.specs.declared.cmp.Ordering.{Ordering}
use Rattle.types.specs.declared.info.Info.{Info}
use Rattle.types.specs.declared.moment.Moment.{Moment}
use Rattle.model.specs.Calls.{turn_answer, record_of, dial, listen, after_reserving, after_telling, block_answer, after_block, update_answer, after_update, with_blocks, unexpired, any_expired}
use Rattle.model.specs.Peers.{connect_turn, release_turn}
use Rattle.model.specs.State.{State}
use Rattle.model.specs.Track.{track_answer, after_track}
use Rattle.model.specs.declared.fault.Fault.{Fault}

-- a call, with what it is given; for `Track` that is the length of the caller's list, the index, and both lists of keys
pub data Call (K : Type 0) : Type 0 where
  Track : ℕ → ℕ → List K → List K → Call K
  Dial : Moment → ℕ → K → Call K
  Listen : Moment → ℕ → K → Call K
  Connect : K → Call K
  Release : K → Call K
  UpdatePeers : List (Info K) → Call K
  Block : Moment → K → Call K
  UnblockExpired : Moment → Call K

-- what a call answers: it is refused; or it is accepted, with the keys whose links are to be closed, with how many infos were
-- taken, with whether any block went, or with nothing to tell
pub data Answer (K : Type 0) : Type 0 where
  Refused : Fault → Answer K
  Done : Answer K
  Named : List K → Answer K
  Taken : ℕ → Answer K
  Unblocked : Bool → Answer K

module _ {K : Type 0} where
  abbrev pub done_or : Result (Unit {0}) Fault → Answer K
  done_or (Ok u) = Done
  done_or (Err f) = Refused f

  abbrev pub named_or : Result (List K) Fault → Answer K
  named_or (Ok keys) = Named keys
  named_or (Err f) = Refused f

  abbrev pub taken_or : Result ℕ Fault → Answer K
  taken_or (Ok n) = Taken n
  taken_or (Err f) = Refused f

module _ {K : Type 0} (order : K → K → Ordering) where
  -- what a call answers in a state
  abbrev pub answer : State K → Call K → Answer K
  answer s (Track room index primary secondary) = named_or (track_answer order s room index primary secondary)
  answer s (Dial now draw k) = done_or (turn_answer (dial order s now draw k))
  answer s (Listen now draw k) = done_or (turn_answer (listen order s now draw k))
  answer s (Connect k) = done_or (turn_answer (connect_turn (record_of order s k)))
  answer s (Release k) = done_or (turn_answer (release_turn (record_of order s k)))
  answer s (UpdatePeers infos) = taken_or (update_answer order s infos)
  answer s (Block now k) = done_or (block_answer order s now k)
  answer s (UnblockExpired now) = Unblocked (any_expired now s.blocks)

  -- the state that it leaves
  abbrev pub after : State K → Call K → State K
  after s (Track room index primary secondary) = after_track order s room index primary secondary
  after s (Dial now draw k) = after_reserving order s k (dial order s now draw k)
  after s (Listen now draw k) = after_reserving order s k (listen order s now draw k)
  after s (Connect k) = after_telling order s k (connect_turn (record_of order s k))
  after s (Release k) = after_telling order s k (release_turn (record_of order s k))
  after s (UpdatePeers infos) = after_update order s infos
  after s (Block now k) = after_block order s now k
  after s (UnblockExpired now) = with_blocks order s (unexpired now s.blocks)

  -- the state after a list of calls, and what they answer
  abbrev pub run_state : State K → List (Call K) → State K
  run_state s [] = s
  run_state s (c ∷ cs) = run_state (after s c) cs

  abbrev pub run_answers : State K → List (Call K) → List (Answer K)
  run_answers s [] = []
  run_answers s (c ∷ cs) = answer s c ∷ run_answers (after s c) cs
