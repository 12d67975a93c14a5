use Rattle.std.proofs.Common.{◌≡◌, ◌++◌, drop}
use Rattle.key_list.specs.Keys.{without}
use Rattle.key_list.specs.Members.{keys_in}
use Rattle.bit_set.specs.Members.{members}
use Rattle.model.specs.Sets.{primaries}
use Rattle.peer_sets.proofs.primaries.apart.Given as goal

abbrev pub invariant-loop-key : goal.invariant-loop-key
invariant-loop-key g l =
    keys_in l.apart ++ without g.K.OrderedKey.order (drop l.key-index l.keys) (primaries (members l.primary))
    ≡ without g.K.OrderedKey.order l.keys (primaries (members l.primary))
