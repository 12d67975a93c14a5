use Rattle.std.proofs.Common.{◌≡◌, None}
use Rattle.model.specs.Questions.{first_expiry}
use Rattle.blocks.specs.Blocked.{expiries_of}
use Rattle.blocks.specs.Passed.{first_from}
use Rattle.blocks.proofs.blocks.Blocks.earliest.Given as goal

abbrev pub invariant-loop-place : goal.invariant-loop-place
invariant-loop-place g l =
    first_from g.B.Roll g.K.OrderedKey l.self l.place l.found ≡ first_expiry (expiries_of g.B.Roll g.K.OrderedKey l.self) None
