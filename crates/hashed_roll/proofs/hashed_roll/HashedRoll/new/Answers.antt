use Rattle.std.proofs.Common.{refl, rules}
use Rattle.rolls.specs.Places.{RightSize}
use Rattle.hashed_roll.specs.Tables.{all_unused}
use Rattle.hashed_roll.proofs.hashed_roll.HashedRoll.new.Goals as goal

pub invariant_of-result : goal.invariant_of-result
invariant_of-result g c =
    let size = c.args.size in
    let right : RightSize size = search rules in
    (all_unused g.K.HashedKey.hashed _ size size (c.in_ok-slots.ensures.items_if_clones_equal (λ y e. search rules)) refl).sound right

pub returns : goal.returns
returns g c =
    let size = c.args.size in
    let right : RightSize size = search rules in
    let unused = all_unused g.K.HashedKey.hashed _ size size (c.in_ok-slots.ensures.items_if_clones_equal (λ y e. search rules)) refl in
    (right, unused.sound right, unused.empty)
