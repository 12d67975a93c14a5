use Rattle.hashed_roll.specs.Tables.{sound-proper}
use Rattle.hashed_roll.proofs.hashed_roll.HashedRollRoll.size.Goals as goal

pub returns-clause-proper : goal.returns-clause-proper
returns-clause-proper g c = rw (← c.self.view_is) (sound-proper _ _ c.self.invariant)
