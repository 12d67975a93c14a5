use Rattle.std.proofs.Common.{eqb, rules, of_calls, ◌∙◌}
use borrow.Author.Tests.{tests}
use Rattle.std.proofs.lemmas.Iterator.{YieldsList-from_slice}
use Rattle.std.proofs.lemmas.Iterator.Search.{any_from_yields_List}
use Rattle.peer_sets.proofs.Rows.{any_held}
use Rattle.peer_sets.proofs.in_order.any_has.Goals as goal

pub returns : goal.returns
returns g c =
    any_from_yields_List (λ s. eqb s.index c.args.index) _ _ _ c.any.ensures.ran (YieldsList-from_slice c.args.sets.now cc) (λ x b q called. search (rules, of_calls, tests))
    ∙ any_held c.args.index c.args.sets.now
