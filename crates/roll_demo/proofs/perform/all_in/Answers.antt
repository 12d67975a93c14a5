use Rattle.std.proofs.Common.{sym, ◌∙◌, arith, below_more}
use Rattle.rolls.proofs.Tables.{some_none, within}
use Rattle.roll_demo.proofs.perform.all_in.Goals as goal

pub loop-place-preserved-in_default : goal.loop-place-preserved-in_default
loop-place-preserved-in_default g c =
    below_more _ _ c.loop-place.invariant (λ k e absent. some_none k e (sym c.in_default.ensures))

pub returns-in_default-find : goal.returns-in_default-find
returns-in_default-find g c = (c.loop-place.place, c.in-Some.key, sym c.in-Some.ensures, c.in_default-find.ensures)

pub loop-place-preserved : goal.loop-place-preserved
loop-place-preserved g c =
    below_more _ _ c.loop-place.invariant (λ k e absent. absent _ (c.in-Some-find.ensures.1 ∙ c.in-Some.ensures ∙ e))

pub returns : goal.returns
returns g c p k e absent = c.loop-place.invariant p (omega (arith, within _ p k e)) k e absent
