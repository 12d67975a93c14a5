-- What a directory is made of, and what holds of it.
use Rattle.std.specs.Prelude.{◌≤◌, List, length, Option}
use Rattle.std.specs.List.{AllByRecursion}
use Rattle.std.specs.declared.cmp.Ordering.{Ordering}
use Rattle.records.specs.Ranks.{Proper}
use Rattle.records.specs.declared.records.Records.{Records}
use Rattle.peer_sets.specs.declared.peer_sets.PeerSets.{PeerSets}
use Rattle.blocks.specs.declared.blocks.Blocks.{Blocks}
use Rattle.model.specs.State.{PeerSet}
use Rattle.model.specs.declared.config.Config.{Config}

pub record Parts (K R B : Type 0) : Type 0 where
  pub own : K
  pub config : Config
  pub records : Records K R
  pub sets : PeerSets K
  pub blocks : Blocks K B

-- What holds of every directory: it has at most 64 places for records, it holds 1 to 8 sets at most, and both lists of each set
-- held ascend and have no key in common.
pub record Sound {K : Type 0} (order : K → K → Ordering) (config : Config) (places : List (Option K)) (sets : List (PeerSet K)) : Type 0 where
  pub few_places : length places ≤ 64
  pub some_sets : 1 ≤ config.max_sets
  pub few_sets : config.max_sets ≤ 8
  pub sets_proper : AllByRecursion (Proper order) sets
