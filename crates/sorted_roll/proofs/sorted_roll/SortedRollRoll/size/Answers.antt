use Rattle.sorted_roll.specs.Ranking.{ranked-proper}
use Rattle.sorted_roll.proofs.sorted_roll.SortedRollRoll.size.Goals as goal

pub returns-clause-proper : goal.returns-clause-proper
returns-clause-proper g c = rw (← c.self.view_is) (ranked-proper _ g.met.K.OrderedKey.lawful _ _ _ c.self.invariant)
