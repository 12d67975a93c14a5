-- What the blocks mean: the keys that have an entry, ascending, each with the moment at which its block expires.
use Rattle.std.specs.Prelude.{◌≡◌, ℕ, Bool, List, length, Some, Ok, Err, Option, Result}
use Rattle.keys.specs.declared.ordered_key.OrderedKey as ordered
use Rattle.rolls.specs.declared.roll.Roll as roll
use Rattle.rolls.specs.Places.{at}
use Rattle.tables.specs.Tabled as table
use Rattle.rolls.specs.declared.fault.RollFault.TheVariants.{Full}
use Rattle.types.specs.declared.moment.Moment.{Moment}
use Rattle.model.specs.Calls.{unexpired, any_expired}
use Rattle.blocks.specs.declared.blocks.Blocks.{Blocks}
use Rattle.blocks.specs.declared.full.BlocksFull.{BlocksFull}

module _ {K B : Type 0} where
  -- the roll that gives the keys their places
  abbrev pub roll_of : Blocks K B → B
  roll_of b = b.expiries.roll

module _ {K B : Type 0} (m : roll.Ghosts B K) where
  -- the places of the roll
  abbrev pub places_of : Blocks K B → List (Option K)
  places_of b = table.places_of m b.expiries

  -- every key that is there has been there: places may only have been emptied
  abbrev pub OnlyEmptied : List (Option K) → List (Option K) → Type 0
  OnlyEmptied before after = (length after ≡ length before) × ((p : ℕ) (k : K) → at after p ≡ Some k → at before p ≡ Some k)

  module _ (o : ordered.Ghosts K) where
    -- the entries: keys with the expiries of their blocks
    abbrev pub expiries_of : Blocks K B → List (K × Moment)
    expiries_of b = table.entries m o b.expiries

    abbrev pub Unchanged : Blocks K B → Blocks K B → Type 0
    Unchanged before after = table.Unchanged m o before.expiries after.expiries

    -- what writing a block answers, and what it leaves; which empty place a new key takes is open
    abbrev pub BlockAnswer : Blocks K B → Blocks K B → K → Moment → Result (Unit {0}) BlocksFull → Type 0
    BlockAnswer before after key expiry (Ok u) =
        (p : ℕ) × table.Entered m o before.expiries after.expiries key expiry p
    BlockAnswer before after key expiry (Err full) =
        table.NoRoom m o before.expiries after.expiries key Full

    -- the blocks that have expired at a moment are gone; the answer is whether there were any
    pub record Unblocked (before after : Blocks K B) (moment : Moment) (any : Bool) : Type 0 where
      pub now_expiries : expiries_of after ≡ unexpired moment (expiries_of before)
      pub is : any ≡ any_expired moment (expiries_of before)
      pub emptied : OnlyEmptied (places_of before) (places_of after)
