use Rattle.std.proofs.Common.{◌≡◌, ℕ, ◌<◌, Some}
use Rattle.keys.specs.declared.seat_number.SeatNumber.{SeatNumber}
use Rattle.rolls.specs.Places.{at, Absent}
use Rattle.roll_demo.proofs.perform.all_in.Given as goal

abbrev pub invariant-loop-place : goal.invariant-loop-place
invariant-loop-place g l =
    (p : ℕ) → p < l.place → (k : SeatNumber) → at (g.A.Roll.places l.roll) p ≡ Some k → Absent (g.B.Roll.places l.other) k → ⊥
