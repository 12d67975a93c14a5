use Rattle.std.proofs.Common.{◌<◌, ◌∙◌, sym, subst, Some, is_ok, arith, rules, true, ◌≡◌}
use Rattle.std.proofs.lemmas.Bool.{cond-true, both_ways}
use Rattle.rolls.specs.Places.{Absent}
use Rattle.rolls.proofs.Tables.{occupied_lt}
use Rattle.sorted_roll.specs.Ranks.{Kept, RankIn, Vacancy}
use Rattle.sorted_roll.specs.Ranking.{ranked_enter}
use Rattle.sorted_roll.proofs.sorted_roll.SortedRoll.put.Goals as goal

pub returns-in_err-map_err : goal.returns-in_err-map_err
returns-in_err-map_err g c =
    let roll = c.self.inside in
    let vacant = subst (λ (now : Kept g.row.K.Denot). Vacancy now.places (Some c.args.place)) (sym c.self.view_is) c.requires.vacant in
    let room : roll.ranks.len < roll.ranks.cap = omega (arith, occupied_lt roll.places.items _ vacant.0 vacant.1, c.self.invariant.counted, c.self.invariant.roomy, roll.ranks.ok.0) in
    absurd (both_ways _ (sym c.in_err-map_err.ensures.variant) (c.insert.ensures.succeeds room))

pub invariant_of-self-2 : goal.invariant_of-self-2
invariant_of-self-2 g c =
    let located = subst (λ now. RankIn g.K.OrderedKey.order now c.args.key c.args.rank) (sym c.self.view_is) c.requires.at_rank in
    let absent = subst (λ (now : Kept g.row.K.Denot). Absent now.places c.args.key) (sym c.self.view_is) c.requires.absent in
    let vacant = subst (λ (now : Kept g.row.K.Denot). Vacancy now.places (Some c.args.place)) (sym c.self.view_is) c.requires.vacant in
    let done : is_ok c.insert.result ≡ true = search rules in
    ranked_enter _ g.met.K.OrderedKey.lawful _ _ _ c.self.invariant c.args.key c.args.rank located c.insert.new.self.cap c.args.place c.insert.ensures.capacity located.last absent vacant.0 vacant.1 c.insert.new.self.items (c.insert.ensures.items ∙ cond-true _ _ _ done)
