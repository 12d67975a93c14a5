use Rattle.std.proofs.Common.{◌≤◌, rules}
use Rattle.sorted_roll.specs.Ranking.{ranked_new}
use Rattle.sorted_roll.proofs.sorted_roll.SortedRoll.new.Goals as goal

pub invariant_of-result : goal.invariant_of-result
invariant_of-result g c =
    let size = c.args.size in
    let right : (1 ≤ size) × (size ≤ 64) = search rules in
    ranked_new _ _ _ size _ (c.in_ok-places.ensures.items_if_clones_equal (λ y e. search rules)) c.in_ok-ranks.ensures.items right.0 right.1 c.in_ok-ranks.ensures.capacity

pub returns : goal.returns
returns g c =
    let size = c.args.size in
    let right : (1 ≤ size) × (size ≤ 64) = search rules in
    let empty = c.in_ok-places.ensures.items_if_clones_equal (λ y e. search rules) in
    (right, ranked_new _ _ _ size _ empty c.in_ok-ranks.ensures.items right.0 right.1 c.in_ok-ranks.ensures.capacity, empty)
