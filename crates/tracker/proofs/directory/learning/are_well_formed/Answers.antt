use borrow.Author.Tests.{tests}
use Rattle.std.proofs.Common.{rules, ◌∙◌}
use Rattle.std.proofs.lemmas.Iterator.{YieldsList-from_slice}
use Rattle.std.proofs.lemmas.Iterator.Search.{all_from_yields_List}
use Rattle.types.specs.Ingresses.{host_well_formed}
use Rattle.tracker.proofs.Learning.{all_formed}
use Rattle.tracker.proofs.directory.learning.are_well_formed.Goals as goal

pub returns : goal.returns
returns g c =
    all_from_yields_List (λ info. host_well_formed info.ingress) _ _ c.all.result c.all.ensures.ran (YieldsList-from_slice c.args.infos.now cc) (λ x b q k. search (rules, tests))
    ∙ all_formed g.K.OrderedKey.order c.args.infos.now
