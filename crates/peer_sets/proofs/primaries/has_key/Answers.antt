use Rattle.std.proofs.Common.{◌∙◌}
use Rattle.peer_sets.proofs.Marks.{primary_there}
use Rattle.peer_sets.proofs.primaries.has_key.Goals as goal

pub returns : goal.returns
returns g c =
    c.is_some.ensures
    ∙ primary_there g.K.OrderedKey.order c.args.key.now c.args.primary.now c.position.result c.position.ensures.value
