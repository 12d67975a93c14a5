use Rattle.std.proofs.Common.{cond, not, length, is_some, refl, ap, ◌∙◌}
use Rattle.peer_sets.specs.Held.{held}
use Rattle.model.specs.Calls.{learnt}
use Rattle.model.specs.Sets.{marked_all}
use Rattle.tracker.specs.Directories.{state}
use Rattle.tracker.specs.declared.directory.Directory.{Directory}
use Rattle.tracker.proofs.Parts.{same_state, sound_with}
use Rattle.tracker.proofs.Proper.{now-marked, proper-marked}
use Rattle.tracker.proofs.directory.Directory.learn.Goals as goal

pub invariant_of-self-2 : goal.invariant_of-self-2
invariant_of-self-2 g c =
    sound_with g.K.OrderedKey.order _ _ _ (held c.self.inside.sets) _ (ap length c.in-Some.ensures.same_places)
    (proper-marked g.K.OrderedKey.order g.met.K.OrderedKey.lawful c.args.info.now.public_key (not c.want.result) (held c.self.inside.sets) (held c.update.new.self) c.update.ensures c.self.invariant.sets_proper) c.self.invariant

pub returns-clause-learnt : goal.returns-clause-learnt
returns-clause-learnt g c =
    let l = c.in-Some.ensures in
    let o = g.K.OrderedKey in
    let d : Directory g.row.K.Denot g.row.R.Denot g.row.B.Denot = record { own = c.self.inside.own; config = c.self.inside.config; records = c.self.inside.records; sets = c.self.inside.sets; blocks = c.self.inside.blocks } in
    let k = c.args.info.now.public_key in
    let before = held c.self.inside.sets in
    rw (← c.self.view_is) (record {
      counts = ap (λ x. cond (is_some x) 1 0) l.is;
      leaves =
          same_state _ _ refl refl (ap length l.same_places) refl l.now_records
          (now-marked o.order g.met.K.OrderedKey.lawful k (not c.want.result) before (held c.update.new.self) c.update.ensures c.self.invariant.sets_proper
          ∙ ap (λ t. marked_all o.order k (not t) before) c.want.ensures) refl
          ∙ ap (learnt o.order (state o g.R.Roll g.B.Roll d) c.args.info.now) l.is;
      places = record { record_places = l.same_places; block_places = refl };
    })
