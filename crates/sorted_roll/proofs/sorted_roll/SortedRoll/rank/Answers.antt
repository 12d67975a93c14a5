use Rattle.std.proofs.Common.{subst, ap, ◌∙◌, of_calls}
use Rattle.std.proofs.lemmas.List.Sorted.{IsPartitionPoint-from_clause}
use Rattle.rolls.specs.Places.{at}
use Rattle.sorted_roll.specs.Ranks.{Kept, Sound, below}
use Rattle.sorted_roll.proofs.Lookups.{located_behind}
use Rattle.sorted_roll.proofs.sorted_roll.SortedRoll.rank.Goals as goal

pub returns : goal.returns
returns g c =
    let ranks = c.deref.ensures.value ∙ ap (λ (now : Kept g.row.K.Denot). now.ranks) c.self.view_is in
    located_behind _ g.met.K.OrderedKey.lawful _ _ _ (subst (Sound g.K.OrderedKey.order) c.self.view_is c.self.invariant) _ _ _ ranks c.partition_point.ensures.bound
    (λ parted. IsPartitionPoint-from_clause (λ p. below g.K.OrderedKey.order (at c.args.self.now.places p) c.args.key.now) _ _ c.partition_point.ensures.partitioned parted (λ a r q k. search of_calls))
