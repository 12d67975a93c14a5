use Rattle.std.proofs.Common.{arith}
use Rattle.tracker.proofs.Learning.{learnt_more, learnt_all}
use Rattle.tracker.proofs.directory.Directory.learn_all.Goals as goal

pub loop-info-preserved : goal.loop-info-preserved
loop-info-preserved g c = (
  omega (arith, c.loop-info.invariant.0, c.learn-taken.ensures.few),
  learnt_more g.K.OrderedKey g.R.Roll g.B.Roll c.args.self.now c.loop-info.self c.args.infos.now c.loop-info.info-index c.loop-info.taken c.loop-info.invariant.1
      c.learn-taken.new.self c.info-item.result c.learn-taken.result c.loop-info-test.true c.info-item.is c.learn-taken.ensures.learnt,
)

pub returns : goal.returns
returns g c =
    learnt_all g.K.OrderedKey g.R.Roll g.B.Roll c.args.self.now c.loop-info.self c.args.infos.now c.loop-info.info-index c.loop-info.taken c.loop-info.invariant.1 c.loop-info-test.false
