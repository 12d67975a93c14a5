use borrow.Author.Tests.{tests}
use Rattle.std.proofs.Common.{is_none, ◌∙◌, rules}
use Rattle.std.proofs.lemmas.Iterator.Consumers.{YieldsList-from_first, YieldsList-from_filter, count_from_yields_List}
use Rattle.key_list.specs.Members.{keys_in}
use Rattle.tables.specs.Listings.{lookup}
use Rattle.records.specs.Kept.{records_of}
use Rattle.records.proofs.Steps.{newcomers-filter}
use Rattle.records.proofs.records.Records.newcomers.Goals as goal

pub returns-clause-all : goal.returns-clause-all
returns-clause-all g c =
    let order = g.K.OrderedKey.order in
    let es = records_of g.R.Roll g.K.OrderedKey c.args.self.now in
    let ks = keys_in c.args.keys.now in
    count_from_yields_List c.filter.result c.count.result c.count.ensures.ran
    (YieldsList-from_filter _ (λ k. is_none (lookup order k es)) (YieldsList-from_first (λ k. k) (λ rest. rest) ks (c.filter.ensures.source ∙ c.iter.ensures.all)) c.filter.ensures.closure (λ k b q called. search (rules, tests)))
    ∙ newcomers-filter order es ks
