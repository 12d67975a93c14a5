use Rattle.blocks.proofs.Passes.{standing}
use Rattle.blocks.proofs.blocks.Blocks.expiry_at.Goals as goal

pub returns-clause-standing : goal.returns-clause-standing
returns-clause-standing g c =
    standing g.B.Roll g.K.OrderedKey g.met.K.OrderedKey.lawful c.args.self.now c.args.place c.in_ok-key.key c.expiry.result
    c.in_ok-key.ensures.whole c.in_ok-key.ensures.key c.expiry.ensures
