use Rattle.std.proofs.Common.{subst, sym}
use Rattle.peer_sets.specs.Held.{Unmarked}
use Rattle.peer_sets.proofs.Makes.{unmarked_from}
use Rattle.peer_sets.proofs.primaries.unmarked.Goals as goal

pub returns : goal.returns
returns g c =
    subst (Unmarked g.K.OrderedKey.order c.args.keys.now) (sym c.ok.ensures.value) (unmarked_from g.K.OrderedKey.order c.args.keys.now c.new.result c.new.ensures)
