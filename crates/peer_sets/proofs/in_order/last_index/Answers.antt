use Rattle.peer_sets.proofs.Rows.{newest_last}
use Rattle.peer_sets.proofs.in_order.last_index.Goals as goal

pub returns : goal.returns
returns g c = newest_last c.args.sets.now c.in_ok-last.last.now c.in_ok-last.ensures.value
