use Rattle.std.proofs.Common.{sym, ◌∙◌, arith}
use Rattle.blocks.proofs.Firsts.{first_all}
use Rattle.blocks.proofs.blocks.Blocks.earliest.Goals as goal

pub returns : goal.returns
returns g c =
    let s = c.args.self.now.expiries in
    sym (first_all g.K.OrderedKey.order g.met.K.OrderedKey.lawful (g.B.Roll.places s.roll) s.values c.loop-place.place c.loop-place.found (omega arith)) ∙ c.loop-place.invariant
