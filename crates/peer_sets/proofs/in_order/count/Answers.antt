use Rattle.std.proofs.Common.{sym, refl}
use Rattle.std.proofs.lemmas.List.{length-map}
use Rattle.peer_sets.specs.Held.{set_of}
use Rattle.peer_sets.proofs.in_order.count.Goals as goal

pub returns : goal.returns
returns g c = record { all = sym (length-map c.args.sets.now set_of); len = refl }
