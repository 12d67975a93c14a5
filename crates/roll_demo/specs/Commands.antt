-- What a roll answers to a command, and what it leaves.
use Rattle.std.specs.Prelude.{◌≡◌, ℕ, Bool, true, false, ◌⊎◌, List, Some, None, Option, slice_set}
use Rattle.keys.specs.declared.seat_number.SeatNumber.{SeatNumber}
use Rattle.rolls.specs.Places.{at, Absent, NoneEmpty, Stood, Took}
use Rattle.roll_demo.specs.declared.command.Command.{Command}
use Rattle.roll_demo.specs.declared.command.Command.TheVariants.{Enter, Strike, Find}
use Rattle.roll_demo.specs.declared.answer.Answer.{Answer}
use Rattle.roll_demo.specs.declared.answer.Answer.TheVariants.{Place, Full, Missing}

-- the places before and after a command, and its answer
abbrev pub Performed : List (Option SeatNumber) → List (Option SeatNumber) → Command → Answer → Type 0
Performed before after (Enter k) (Place p) = Stood before after k p ⊎ Took before after k p
Performed before after (Enter k) Full = Absent before k × NoneEmpty before × (after ≡ before)
Performed before after (Enter k) Missing = ⊥
Performed before after (Strike k) (Place p) = (at before p ≡ Some k) × (after ≡ slice_set before p None)
Performed before after (Strike k) Full = ⊥
Performed before after (Strike k) Missing = Absent before k × (after ≡ before)
Performed before after (Find k) (Place p) = (at before p ≡ Some k) × (after ≡ before)
Performed before after (Find k) Full = ⊥
Performed before after (Find k) Missing = Absent before k × (after ≡ before)

-- whether every key of one list of places is in another
abbrev pub AllIn : List (Option SeatNumber) → List (Option SeatNumber) → Bool → Type 0
AllIn places others true = (p : ℕ) (k : SeatNumber) → at places p ≡ Some k → Absent others k → ⊥
AllIn places others false = (p : ℕ) × (k : SeatNumber) × (at places p ≡ Some k) × Absent others k
