use Rattle.std.proofs.Common.{rules}
use borrow.Author.Tests.{tests}
use Rattle.std.proofs.lemmas.Iterator.Consumers.{YieldsList-from_first}
use Rattle.std.proofs.lemmas.Iterator.Search.{any_from_yields_List}
use Rattle.keys.specs.Order.{is_equal}
use Rattle.key_list.specs.Members.{keys_in}
use Rattle.key_list.proofs.key_list.KeyList.has.Goals as goal

pub returns : goal.returns
returns g c =
    any_from_yields_List (λ held. is_equal (g.K.OrderedKey.order held c.args.key.now)) _ _ _ c.any.ensures.ran (YieldsList-from_first (λ k. k) (λ rest. rest) (keys_in c.args.self.now) c.iter.ensures.all) (λ k b q called. search (rules, tests))
