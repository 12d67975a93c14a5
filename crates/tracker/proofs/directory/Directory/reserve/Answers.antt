use Rattle.std.proofs.Common.{◌≡◌, true, length, is_some, sym, refl, ap, subst}
use Rattle.model.specs.Calls.{record_of}
use Rattle.tracker.specs.Directories.{state}
use Rattle.tracker.specs.declared.directory.Directory.{Directory}
use Rattle.tracker.proofs.Parts.{same_state, sound_with}
use Rattle.tracker.proofs.directory.Directory.reserve.Goals as goal

pub invariant_of-self : goal.invariant_of-self
invariant_of-self g c =
    let there = subst (λ (d : Directory g.row.K.Denot g.row.R.Denot g.row.B.Denot). is_some (record_of g.K.OrderedKey.order (state g.K.OrderedKey g.R.Roll g.B.Roll d) c.args.key.now) ≡ true) (sym c.self.view_is) c.requires in
    sound_with g.K.OrderedKey.order _ _ _ _ _ (ap length (c.write.ensures.written there).same_places) c.self.invariant.sets_proper c.self.invariant

pub returns-clause-reserving : goal.returns-clause-reserving
returns-clause-reserving g c =
    let there = subst (λ (d : Directory g.row.K.Denot g.row.R.Denot g.row.B.Denot). is_some (record_of g.K.OrderedKey.order (state g.K.OrderedKey g.R.Roll g.B.Roll d) c.args.key.now) ≡ true) (sym c.self.view_is) c.requires in
    let w = c.write.ensures.written there in
    rw (← c.self.view_is) (record {
      leaves = same_state _ _ refl refl (ap length w.same_places) refl w.now_records refl refl;
      places = record { record_places = w.same_places; block_places = refl };
    })
