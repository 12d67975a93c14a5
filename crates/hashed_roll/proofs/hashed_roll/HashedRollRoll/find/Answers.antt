use Rattle.std.proofs.Common.{subst, ap, length, arith}
use Rattle.hashed_roll.specs.Slots.{is_unused}
use Rattle.hashed_roll.specs.Probing.{Sound}
use Rattle.hashed_roll.specs.Tables.{told}
use Rattle.hashed_roll.proofs.Walks.{absent_all, absent_unused}
use Rattle.hashed_roll.proofs.hashed_roll.HashedRollRoll.find.Goals as goal

pub returns-then-seen-size : goal.returns-then-seen-size
returns-then-seen-size g c =
    absent_all _ _ _ _ _ c.loop-seen.invariant (subst (Sound g.K.HashedKey.hashed) c.self.view_is c.self.invariant) (omega (arith, ap length c.self.view_is))

pub returns-then-is_unused : goal.returns-then-is_unused
returns-then-is_unused g c =
    absent_unused _ _ _ _ _ c.loop-seen.invariant (subst (Sound g.K.HashedKey.hashed) c.self.view_is c.self.invariant) (omega (arith, ap length c.self.view_is))
    (told is_unused _ _ _ c.slot-slot.ensures.there c.if-is_unused.ensures)
