use Rattle.std.proofs.Common.{sym, ap, refl, arith}
use Rattle.key_list.specs.Keys.{put_key}
use Rattle.key_list.proofs.Puts.{goes_last, goes_before, stays, walk_within, put_more}
use Rattle.key_list.proofs.Rows.{few-keys}
use Rattle.key_list.proofs.key_list.KeyList.gap.Goals as goal

pub loop-index-init : goal.loop-index-init
loop-index-init g c =
    record {
      all = sym c.iter-held-items.ensures.all;
      counted = refl;
      below = ap (put_key g.K.OrderedKey.order c.args.key.now) (sym c.iter-held-items.ensures.all);
    }

pub returns-in-Less : goal.returns-in-Less
returns-in-Less g c = goes_before _ _ _ _ _ _ _ _ c.loop-index.invariant c.in-Some.ensures.steps c.in-Less.ensures

pub returns-in-Equal : goal.returns-in-Equal
returns-in-Equal g c =
    stays _ _ _ _ _ _ _ _ c.loop-index.invariant c.in-Some.ensures.steps (few-keys c.args.self.now) g.met.K.OrderedKey.lawful c.in-Equal.ensures

pub overflow_step-index : goal.overflow_step-index
overflow_step-index g c =
    omega (arith, few-keys c.args.self.now, walk_within _ _ _ _ _ _ _ _ c.loop-index.invariant c.in-Some.ensures.steps)

pub loop-index-preserved : goal.loop-index-preserved
loop-index-preserved g c = put_more _ _ _ _ _ _ _ _ c.loop-index.invariant c.in-Some.ensures.steps c.in-Greater.ensures

pub returns : goal.returns
returns g c = goes_last _ _ _ _ _ _ c.loop-index.invariant c.in-None.ensures.steps.0 c.len.result c.len.ensures
