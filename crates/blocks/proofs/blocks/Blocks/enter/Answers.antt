use Rattle.blocks.proofs.Fits.{enter_fits}
use Rattle.blocks.proofs.blocks.Blocks.enter.Goals as goal

pub returns : goal.returns
returns g c =
    let s = c.args.self.now.expiries in
    record {
      entered = c.enter.ensures.entered;
      fits =
          enter_fits g.B.Roll g.K.OrderedKey g.met.K.OrderedKey.lawful s c.enter.new.self c.args.key c.args.expiry c.enter.result
          c.enter.ensures.whole c.enter.ensures.entered;
    }
