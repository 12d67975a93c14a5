-- The abstract state of a directory.
use Rattle.std.specs.Prelude.{ℕ, Bool, List}
use Rattle.types.specs.declared.moment.Moment.{Moment}
use Rattle.record.specs.declared.record.Record.{Record}
use Rattle.model.specs.declared.config.Config.{Config}

-- a set that is held: its index, its primaries with a bit for each (whether their information is known), and its
-- secondaries, both ascending and with no key in common
pub record PeerSet (K : Type 0) : Type 0 where
  pub index : ℕ
  pub primary : List (K × Bool)
  pub secondary : List K

-- What a directory stands for: our key, the settings, how many places the two rolls have, the records by ascending key,
-- the sets held, oldest first, and the blocks by ascending key, each with the moment at which it expires.
pub record State (K : Type 0) : Type 0 where
  pub own : K
  pub config : Config
  pub record_places : ℕ
  pub block_places : ℕ
  pub records : List (K × Record K)
  pub sets : List (PeerSet K)
  pub blocks : List (K × Moment)
