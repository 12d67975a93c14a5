use Rattle.std.proofs.Common.{length, refl, ap}
use Rattle.peer_sets.specs.Held.{set_of}
use Rattle.records.specs.Kept.{places_of}
use Rattle.model.specs.declared.fault.Fault.TheVariants.{TooManyPeers}
use Rattle.tracker.specs.Tracking.{JoinSetAnswer}
use Rattle.tracker.specs.declared.directory.Directory.{Directory}
use Rattle.tracker.proofs.Parts.{carried, sound_with}
use Rattle.tracker.proofs.directory.Directory.join_set.Goals as goal

pub returns-in_err-join : goal.returns-in_err-join
returns-in_err-join g c =
    let d : Directory g.row.K.Denot g.row.R.Denot g.row.B.Denot = record { own = c.self.inside.own; config = c.self.inside.config; records = c.self.inside.records; sets = c.self.inside.sets; blocks = c.self.inside.blocks } in
    let e : Directory g.row.K.Denot g.row.R.Denot g.row.B.Denot = record { own = c.self.inside.own; config = c.self.inside.config; records = c.join.new.self; sets = c.self.inside.sets; blocks = c.self.inside.blocks } in
    let none = c.in_err-join.ensures c.requires in
    rw (← c.self.view_is) (carried c.from_residual.result TooManyPeers (JoinSetAnswer g.K.OrderedKey g.R.Roll g.B.Roll d e (set_of c.args.set.now) (set_of c.args.set.now)) c.from_residual.ensures.0 c.from_residual.ensures.1
    (record { is = refl; no_room = none.no_room; unchanged = λ i. record { own = c.self.inside.own; config = c.self.inside.config; records = none.unchanged i; sets = c.self.inside.sets; blocks = c.self.inside.blocks } }))

pub invariant_of-self : goal.invariant_of-self
invariant_of-self g c = sound_with g.K.OrderedKey.order _ _ _ _ _ (ap (λ r. length (places_of g.R.Roll r)) (c.in_err-join.ensures c.requires).unchanged) c.self.invariant.sets_proper c.self.invariant

pub invariant_of-self-2 : goal.invariant_of-self-2
invariant_of-self-2 g c = sound_with g.K.OrderedKey.order _ _ _ _ _ (c.in_ok-join.ensures c.requires).filled.0 c.self.invariant.sets_proper c.self.invariant

pub returns : goal.returns
returns g c =
    let j = c.in_ok-join.ensures c.requires in
    rw (← c.self.view_is) (record {
      room = j.room;
      only_records = record { same_own = refl; same_config = refl; same_sets = refl; same_blocks = refl };
      now_records = j.now_records;
      now_marked = c.mark.ensures;
      filled = j.filled;
    })
