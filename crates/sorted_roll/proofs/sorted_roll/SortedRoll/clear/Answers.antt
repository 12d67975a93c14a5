use Rattle.std.proofs.Common.{sym, subst, arith}
use Rattle.sorted_roll.specs.Ranks.{HasRank}
use Rattle.sorted_roll.specs.Ranking.{at_rank, ranked_strike}
use Rattle.sorted_roll.proofs.sorted_roll.SortedRoll.clear.Goals as goal

pub remove-requires : goal.remove-requires
remove-requires g c =
    let here = subst (λ roll. HasRank g.K.OrderedKey.order roll c.args.rank c.args.place) (sym c.self.view_is) c.requires in
    omega (arith, (at_rank _ g.met.K.OrderedKey.lawful _ _ _ c.self.invariant here.0 _ here.2 _ here.1).0, c.self.inside.ranks.ok.0)

pub invariant_of-self : goal.invariant_of-self
invariant_of-self g c =
    let here = subst (λ roll. HasRank g.K.OrderedKey.order roll c.args.rank c.args.place) (sym c.self.view_is) c.requires in
    ranked_strike _ g.met.K.OrderedKey.lawful _ _ _ c.self.invariant here.0 _ here.2 _ here.1 _ _ c.remove.ensures.items c.remove.ensures.capacity
