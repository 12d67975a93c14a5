use Rattle.std.proofs.Common.{sym, ◌∙◌, of_calls}
use Rattle.types.specs.Times.{earlier}
use Rattle.joining.proofs.Wheres.{blocked_keys-where}
use Rattle.blocks.specs.Blocked.{expiries_of}
use Rattle.blocks.proofs.blocks.Blocks.peers.Goals as goal

pub returns : goal.returns
returns g c =
    c.keys_where.ensures (λ k expiry. earlier c.args.at expiry) (λ k v r called. search of_calls)
    ∙ sym (blocked_keys-where c.args.at (expiries_of g.B.Roll g.K.OrderedKey c.args.self.now))
