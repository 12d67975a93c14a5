use Rattle.std.proofs.Common.{◌≤◌, length, arith}
use Rattle.blocks.specs.Blocked.{places_of}
use Rattle.blocks.proofs.Passes.{lifted_all}
use Rattle.blocks.proofs.blocks.Blocks.unblock_expired.Goals as goal

pub returns : goal.returns
returns g c =
    let all = c.loop-place.invariant in
    let past : length (places_of g.B.Roll c.loop-place.self) ≤ c.loop-place.place = omega (arith, all.emptied.0, c.places-place-end.ensures, c.loop-place-test.false) in
    lifted_all g.B.Roll g.K.OrderedKey g.met.K.OrderedKey.lawful c.args.self.now c.loop-place.self c.args.at c.loop-place.place c.loop-place.any all past

pub loop-place-preserved : goal.loop-place-preserved
loop-place-preserved g c = c.lift_at-any.ensures c.loop-place.any c.args.self.now c.loop-place.invariant
