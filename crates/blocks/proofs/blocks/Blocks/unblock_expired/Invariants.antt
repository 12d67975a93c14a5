use Rattle.blocks.specs.Passed.{LiftedBelow}
use Rattle.blocks.proofs.blocks.Blocks.unblock_expired.Given as goal

abbrev pub invariant-loop-place : goal.invariant-loop-place
invariant-loop-place g l = LiftedBelow g.B.Roll g.K.OrderedKey l.initial.self l.self l.at l.place l.any
