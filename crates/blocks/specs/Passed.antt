-- Walks over the blocks: what holds when the places below one have been passed.
use Rattle.std.specs.Prelude.{◌≡◌, ℕ, ◌+◌, ◌<◌, Bool, false, not, ◌||◌, drop, Some, None, Option}
use Rattle.keys.specs.declared.ordered_key.OrderedKey as ordered
use Rattle.rolls.specs.declared.roll.Roll as roll
use Rattle.rolls.specs.Places.{at}
use Rattle.types.specs.Times.{earlier}
use Rattle.types.specs.declared.moment.Moment.{Moment}
use Rattle.tables.specs.Listings.{lookup, listing}
use Rattle.model.specs.Calls.{unexpired, any_expired}
use Rattle.model.specs.Questions.{first_expiry}
use Rattle.blocks.specs.Blocked.{places_of, OnlyEmptied, expiries_of}
use Rattle.blocks.specs.declared.blocks.Blocks.{Blocks}

-- whether there is an expiry that is at or before a moment
abbrev pub has_expired : Moment → Option Moment → Bool
has_expired moment None = false
has_expired moment (Some expiry) = not (earlier moment expiry)

module _ {K B : Type 0} (m : roll.Ghosts B K) (o : ordered.Ghosts K) where
  -- the expiry at a place: none exactly if it is empty, else that of its key
  abbrev pub Standing : Blocks K B → ℕ → Option Moment → Type 0
  Standing b p None = at (places_of m b) p ≡ None
  Standing b p (Some expiry) = (k : K) × (at (places_of m b) p ≡ Some k) × (lookup o.order k (expiries_of m o b) ≡ Some expiry)

  -- At the places below one no entry has expired any more. What has not expired is as it was, and what has is gone or stands
  -- further on.
  pub record LiftedBelow (before after : Blocks K B) (moment : Moment) (place : ℕ) (any : Bool) : Type 0 where
    pub same_unexpired : unexpired moment (expiries_of m o after) ≡ unexpired moment (expiries_of m o before)
    pub same_expired : (any || any_expired moment (expiries_of m o after)) ≡ any_expired moment (expiries_of m o before)
    pub none_below : (p : ℕ) (k : K) → p < place → at (places_of m after) p ≡ Some k → has_expired moment (lookup o.order k (expiries_of m o after)) ≡ false
    pub emptied : OnlyEmptied m (places_of m before) (places_of m after)

  -- one place further, from whatever blocks the walk began
  abbrev pub LiftedMore : Blocks K B → Blocks K B → Moment → ℕ → Bool → Bool → Type 0
  LiftedMore before after moment place any-before any-after =
      (start : Blocks K B) → LiftedBelow start before moment place any-before → LiftedBelow start after moment (place + 1) any-after

  -- the earliest of what was found and the expiries from a place on
  abbrev pub first_from : Blocks K B → ℕ → Option Moment → Option Moment
  first_from b place found =
      first_expiry (listing o.order (drop place (places_of m b)) (drop place b.expiries.values)) found
