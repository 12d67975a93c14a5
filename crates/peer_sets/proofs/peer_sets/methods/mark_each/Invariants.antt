use Rattle.std.proofs.Common.{◌≡◌, ◌++◌, map, take, drop}
use Rattle.peer_sets.specs.Held.{set_of, marked_set}
use Rattle.peer_sets.proofs.peer_sets.methods.mark_each.Given as goal

abbrev pub invariant-loop-set : goal.invariant-loop-set
invariant-loop-set g l =
    map set_of l.sets
    ≡ map (marked_set g.K.OrderedKey.order l.key l.known) (take l.set-index (map set_of l.initial.sets)) ++ drop l.set-index (map set_of l.initial.sets)
