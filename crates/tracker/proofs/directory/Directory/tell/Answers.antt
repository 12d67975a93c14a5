use Rattle.std.proofs.Common.{◌≡◌, true, is_some, sym, refl, ap, ◌∙◌, subst}
use Rattle.turns.specs.Turned.{taken}
use Rattle.peer_sets.specs.Held.{held}
use Rattle.model.specs.Calls.{record_of}
use Rattle.model.specs.Sets.{marked_all}
use Rattle.tracker.specs.Directories.{state}
use Rattle.tracker.specs.declared.directory.Directory.{Directory}
use Rattle.tracker.proofs.Parts.{same_state, sound_with}
use Rattle.tracker.proofs.Proper.{now-marked, proper-marked}
use Rattle.tracker.proofs.Tellings.{told-known, places-length}
use Rattle.tracker.proofs.directory.Directory.tell.Goals as goal

pub invariant_of-self : goal.invariant_of-self
invariant_of-self g c =
    let there = subst (λ (d : Directory g.row.K.Denot g.row.R.Denot g.row.B.Denot). is_some (record_of g.K.OrderedKey.order (state g.K.OrderedKey g.R.Roll g.B.Roll d) c.args.key.now) ≡ true) (sym c.self.view_is) c.requires in
    let o = g.K.OrderedKey in
    let k = c.args.key.now in
    let before = held c.self.inside.sets in
    sound_with o.order _ _ _ before _ (places-length g.R.Roll o c.self.inside.records c.settle.new.self k (taken c.args.turn) (c.settle.ensures.settled there).now_places)
    (proper-marked o.order g.met.K.OrderedKey.lawful k c.is_known.result before (held c.update.new.self) c.update.ensures c.self.invariant.sets_proper) c.self.invariant

pub returns : goal.returns
returns g c =
    let there = subst (λ (d : Directory g.row.K.Denot g.row.R.Denot g.row.B.Denot). is_some (record_of g.K.OrderedKey.order (state g.K.OrderedKey g.R.Roll g.B.Roll d) c.args.key.now) ≡ true) (sym c.self.view_is) c.requires in
    let o = g.K.OrderedKey in
    let k = c.args.key.now in
    let before = held c.self.inside.sets in
    let w = c.settle.ensures.settled there in
    rw (← c.self.view_is) (record {
      leaves =
          same_state _ _ refl refl (places-length g.R.Roll o c.self.inside.records c.settle.new.self k (taken c.args.turn) w.now_places) refl w.now_records
          (now-marked o.order g.met.K.OrderedKey.lawful k c.is_known.result before (held c.update.new.self) c.update.ensures c.self.invariant.sets_proper
          ∙ ap (λ t. marked_all o.order k t before) c.is_known.ensures
          ∙ told-known o.order c.self.inside.config.dial_fail_limit k c.args.turn before) refl;
      record_places = w.now_places;
      block_places = refl;
    })
