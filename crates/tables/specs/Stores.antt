-- What a table keeps: a roll, and a value for each of its places.
use Rattle.std.specs.Prelude.{◌≡◌, List, length, Option}
use Rattle.rolls.specs.Places.{Proper}

pub record Store (V R : Type 0) : Type 0 where
  pub roll : R
  pub values : List V

-- what holds of every table: its roll has 1 to 64 places with no key twice, and there is a value for each place
pub record Whole {K V : Type 0} (places : List (Option K)) (values : List V) : Type 0 where
  pub proper : Proper places
  pub long : length values ≡ length places
