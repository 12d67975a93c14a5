use Rattle.peer_sets.proofs.Marks.{carried}
use Rattle.peer_sets.proofs.primaries.bits_of.Goals as goal

pub returns : goal.returns
returns g c = carried c.args.primary.now c.args.index c.knowledge.result c.knowledge.ensures
