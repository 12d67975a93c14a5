use Rattle.std.proofs.Common.{sym, ◌∙◌}
use Rattle.peer_sets.proofs.Marks.{primaries-members}
use Rattle.peer_sets.proofs.primaries.keys_of.Goals as goal

pub returns : goal.returns
returns g c = c.keys.ensures ∙ sym (primaries-members c.args.primary.now)
