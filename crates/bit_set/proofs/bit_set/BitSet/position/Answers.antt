use Rattle.std.proofs.Common.{◌≡◌, rules, ◌∙◌}
use borrow.Author.Tests.{tests}
use Rattle.std.specs.List.{position}
use Rattle.std.proofs.lemmas.Iterator.Consumers.{YieldsList-from_first}
use Rattle.std.proofs.lemmas.Iterator.Search.{position_from_yields_List}
use Rattle.std.proofs.lemmas.Iterator.Adapters.{position_from-zero}
use Rattle.keys.specs.Order.{is_equal}
use Rattle.bit_set.specs.Members.{keys_in}
use Rattle.bit_set.proofs.Holding.{found}
use Rattle.bit_set.proofs.bit_set.BitSet.position.Goals as goal

pub returns : goal.returns
returns g c =
    let ks = keys_in c.args.self.now in
    let same = λ (k : _). is_equal (g.K.OrderedKey.order k c.args.key.now) in
    let first : c.position.result ≡ position same ks = position_from_yields_List same _ _ _ c.position.ensures.ran (YieldsList-from_first (λ k. k) (λ rest. rest) ks c.iter.ensures.all) (λ k b q called. search (rules, tests)) in
    record { value = first ∙ position_from-zero same ks; found = found g.K.OrderedKey.order c.args.key.now g.met.K.OrderedKey.lawful ks c.position.result first }
