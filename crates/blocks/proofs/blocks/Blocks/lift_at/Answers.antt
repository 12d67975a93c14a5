use Rattle.std.proofs.Common.{sym}
use Rattle.blocks.proofs.Passes.{lifted_gone}
use Rattle.blocks.proofs.blocks.Blocks.lift_at.Goals as goal

pub returns-then-expired : goal.returns-then-expired
returns-then-expired g c any start so_far =
    lifted_gone g.B.Roll g.K.OrderedKey g.met.K.OrderedKey.lawful start c.args.self.now c.args.at c.args.place any so_far
    (record { expiries = c.remove.new.self }) c.expiry_at.result c.has_expired-expired.result c.expiry_at.ensures.standing (sym c.has_expired-expired.ensures) c.if-expired.true c.remove.ensures
