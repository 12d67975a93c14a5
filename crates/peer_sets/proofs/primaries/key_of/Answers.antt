use Rattle.peer_sets.proofs.Marks.{primary-at}
use Rattle.peer_sets.proofs.primaries.key_of.Goals as goal

pub returns : goal.returns
returns g c = primary-at c.args.primary.now c.args.index c.key_at.result c.key_at.ensures.value
