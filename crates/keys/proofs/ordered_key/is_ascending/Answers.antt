use Rattle.std.proofs.Common.{of_calls}
use Rattle.std.proofs.lemmas.List.Sorted.{answers_always}
use Rattle.keys.specs.Order.{is_less}
use Rattle.keys.proofs.Ascents.{ascending_from_answers}
use Rattle.keys.proofs.ordered_key.is_ascending.Goals as goal

pub returns : goal.returns
returns g c =
    ascending_from_answers g.K.OrderedKey.order c.args.keys.now c.is_sorted_by.result (c.is_sorted_by.ensures.cases (λ a b. is_less (g.K.OrderedKey.order a b)) (answers_always _ _ _ (λ f a r f' called. search of_calls)))
