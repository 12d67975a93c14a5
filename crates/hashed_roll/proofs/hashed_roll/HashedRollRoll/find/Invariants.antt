use Rattle.std.proofs.Common.{◌-◌}
use Rattle.hashed_roll.proofs.Walks.{Walk}
use Rattle.hashed_roll.proofs.hashed_roll.HashedRollRoll.find.Given as goal

abbrev pub invariant-loop-seen : goal.invariant-loop-seen
invariant-loop-seen g l = Walk g.K.HashedKey.hashed l.self l.key l.at l.seen

abbrev pub decreases-loop-seen : goal.decreases-loop-seen
decreases-loop-seen g l = l.size - l.seen
