use Rattle.std.proofs.Common.{eqb, rules, of_calls, sym, ap, ◌∙◌}
use borrow.Author.Tests.{tests}
use Rattle.std.specs.Option.{option_map}
use Rattle.std.proofs.lemmas.Iterator.{YieldsList-from_slice}
use Rattle.std.proofs.lemmas.Iterator.Search.{find_from_yields_List}
use Rattle.peer_sets.specs.Held.{set_of}
use Rattle.peer_sets.proofs.Rows.{copied_now, found_set}
use Rattle.peer_sets.proofs.in_order.find.Goals as goal

pub returns : goal.returns
returns g c =
    ap (option_map set_of) (c.copied.ensures ∙ copied_now c.find-found.result ∙ find_from_yields_List (λ s. eqb s.index c.args.index) _ _ c.find-found.result c.find-found.ensures.ran (YieldsList-from_slice c.args.sets.now cc) (λ x b q called. search (rules, of_calls, tests)))
    ∙ sym (found_set c.args.index c.args.sets.now)
