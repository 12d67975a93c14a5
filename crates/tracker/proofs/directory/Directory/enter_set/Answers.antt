use Rattle.std.proofs.Common.{rules, ltb, [], ◌∷◌, ◌++◌, length, sym, refl, ap, ◌∙◌, subst}
use Rattle.std.specs.List.{AllByRecursion}
use Rattle.blocks.specs.Blocked as blocked
use Rattle.records.specs.Ranks.{Proper}
use Rattle.peer_sets.specs.Held.{set_of, held}
use Rattle.tracker.specs.Tracking.{entered}
use Rattle.tracker.specs.declared.directory.Directory.{Directory}
use Rattle.tracker.proofs.Parts.{same_state, sound_with}
use Rattle.tracker.proofs.Proper.{proper-entered, proper-kept, proper-oldest}
use Rattle.tracker.proofs.Sets.{one_left, none_left}
use Rattle.tracker.proofs.directory.Directory.enter_set.Goals as goal

pub invariant_of-self : goal.invariant_of-self
invariant_of-self g c =
    let order = g.K.OrderedKey.order in
    let xs = held c.self.inside.sets ++ set_of c.args.set ∷ [] in
    let all = proper-entered order (held c.self.inside.sets) (set_of c.args.set) c.self.invariant.sets_proper c.requires in
    sound_with order _ _ _ _ _ refl (subst (AllByRecursion (Proper order)) (sym (c.in-Some.ensures.stay c.self.invariant.few_sets)) (proper-kept order (ltb c.self.inside.config.max_sets (length xs)) xs all)) c.self.invariant

-- the directory, the set and the keys named are each below half of the memory, and the set is proper
pub drop_set-requires : goal.drop_set-requires
drop_set-requires g c =
    let order = g.K.OrderedKey.order in
    let xs = held c.self.inside.sets ++ set_of c.args.set ∷ [] in
    let all = proper-entered order (held c.self.inside.sets) (set_of c.args.set) c.self.invariant.sets_proper c.requires in
    (search rules, (search rules, (search rules, proper-oldest order (ltb c.self.inside.config.max_sets (length xs)) xs (set_of c.in-Some.oldest) (c.in-Some.ensures.oldest c.self.invariant.few_sets) all)))

pub invariant_of-self-in-None : goal.invariant_of-self-in-None
invariant_of-self-in-None g c =
    let order = g.K.OrderedKey.order in
    let xs = held c.self.inside.sets ++ set_of c.args.set ∷ [] in
    let all = proper-entered order (held c.self.inside.sets) (set_of c.args.set) c.self.invariant.sets_proper c.requires in
    sound_with order _ _ _ _ _ refl (subst (AllByRecursion (Proper order)) (sym (c.in-None.ensures.stay c.self.invariant.few_sets)) (proper-kept order (ltb c.self.inside.config.max_sets (length xs)) xs all)) c.self.invariant

pub returns-in-Some : goal.returns-in-Some
returns-in-Some g c =
    let o = g.K.OrderedKey in
    let d : Directory g.row.K.Denot g.row.R.Denot g.row.B.Denot = record { own = c.self.inside.own; config = c.self.inside.config; records = c.self.inside.records; sets = c.self.inside.sets; blocks = c.self.inside.blocks } in
    let xs = held d.sets ++ set_of c.args.set ∷ [] in
    let many = ltb d.config.max_sets (length xs) in
    let few = c.self.invariant.few_sets in
    let gone = c.drop_set.ensures in
    let one = one_left o.order (entered o g.R.Roll g.B.Roll d (set_of c.args.set)) many xs (set_of c.in-Some.oldest) (c.in-Some.ensures.oldest few) in
    rw (← c.self.view_is) (record {
      names = gone.names ∙ sym one.1;
      leaves =
          same_state _ _ gone.only_records.same_own gone.only_records.same_config gone.emptied.0 (ap (λ b. length (blocked.places_of g.B.Roll b)) gone.only_records.same_blocks) gone.now_records
          (ap held gone.only_records.same_sets ∙ c.in-Some.ensures.stay few) (ap (blocked.expiries_of g.B.Roll o) gone.only_records.same_blocks)
          ∙ sym one.0;
      emptied = gone.emptied;
      block_places = ap (blocked.places_of g.B.Roll) gone.only_records.same_blocks;
    })

pub returns-in-None : goal.returns-in-None
returns-in-None g c =
    let o = g.K.OrderedKey in
    let d : Directory g.row.K.Denot g.row.R.Denot g.row.B.Denot = record { own = c.self.inside.own; config = c.self.inside.config; records = c.self.inside.records; sets = c.self.inside.sets; blocks = c.self.inside.blocks } in
    let xs = held d.sets ++ set_of c.args.set ∷ [] in
    let many = ltb d.config.max_sets (length xs) in
    let few = c.self.invariant.few_sets in
    let none = none_left o.order (entered o g.R.Roll g.B.Roll d (set_of c.args.set)) many xs (c.in-None.ensures.oldest few) in
    rw (← c.self.view_is) (record {
      names = c.new.ensures ∙ sym none.1;
      leaves = same_state _ (entered o g.R.Roll g.B.Roll d (set_of c.args.set)) refl refl refl refl refl (c.in-None.ensures.stay few ∙ none.2) refl ∙ sym none.0;
      emptied = (refl, λ p k h. h);
      block_places = refl;
    })
