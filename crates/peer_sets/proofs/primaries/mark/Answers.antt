use Rattle.peer_sets.proofs.Marks.{marked-members}
use Rattle.peer_sets.proofs.primaries.mark.Goals as goal

pub returns : goal.returns
returns g c =
    marked-members g.K.OrderedKey.order c.args.key.now c.args.primary.now _ c.args.known c.update.result c.update.ensures.written
