use Rattle.std.proofs.Common.{is_some, subst, sym, ap, ◌∙◌}
use Rattle.bit_set.specs.Members.{members}
use Rattle.model.specs.Sets.{primaries}
use Rattle.peer_sets.specs.Held.{Made}
use Rattle.peer_sets.proofs.Makes.{cannot_make}
use Rattle.peer_sets.proofs.peer_set.PeerSet.new.Goals as goal

pub returns-in_err-secondary : goal.returns-in_err-secondary
returns-in_err-secondary g c =
    let no-set = cannot_make g.K.OrderedKey.order c.args.primary.now c.args.secondary.now (primaries (members c.in_ok-primary.primary)) c.in_ok-primary.ensures.1 c.in_err-secondary.ensures in
    record {
      test = ap is_some c.from_residual-in_err-secondary.ensures ∙ sym no-set;
      made = subst (Made g.K.OrderedKey.order c.args.index c.args.primary.now c.args.secondary.now) (sym c.from_residual-in_err-secondary.ensures) no-set;
    }
