use Rattle.std.proofs.Common.{◌≡◌, not, length, Some, sym, ap, ◌∙◌, arith}
use Rattle.std.specs.List.{slice_get}
use Rattle.std.proofs.lemmas.List.{length_push}
use Rattle.std.proofs.lemmas.Option.{slice_get-get_or}
use Rattle.std.proofs.lemmas.Iterator.Consumers.{YieldsList-from_first, YieldsList-turn, YieldsList-end}
use Rattle.key_list.specs.Members.{keys_in}
use Rattle.key_list.proofs.Rows.{few-keys}
use Rattle.record.specs.Records.{wanted}
use Rattle.model.specs.Sets.{primaries}
use Rattle.model.specs.Track.{known}
use Rattle.records.specs.Kept.{records_of}
use Rattle.peer_sets.specs.Held.{set_of}
use Rattle.peer_sets.proofs.Marks.{length-primaries}
use Rattle.tracker.specs.declared.directory.Directory.{Directory}
use Rattle.tracker.proofs.Marking.{mark_one, mark_all}
use Rattle.tracker.proofs.directory.Directory.mark.Goals as goal

pub overflow_step-i : goal.overflow_step-i
overflow_step-i g c =
    let ks = keys_in c.primaries-primaries.result in
    let turn = YieldsList-turn (YieldsList-from_first (λ j. j) (λ rest. rest) ks c.iter-key-items.ensures.all) c.loop-i.yielded _ c.loop-i.yielded_by _ _ c.in-Some.key c.in-Some.is c.next.ensures.steps in
    omega (arith, turn.0, c.loop-i.invariant.0, few-keys c.primaries-primaries.result)

pub loop-i-preserved : goal.loop-i-preserved
loop-i-preserved g c = (
  omega (arith, length_push c.loop-i.yielded c.in-Some.key, c.loop-i.invariant.0),
  (
      let first = c.loop-i.invariant.1 in
      let ks = keys_in c.primaries-primaries.result in
      let ms = (set_of c.args.set.now).primary in
      let k = c.in-Some.key in
      let turn = YieldsList-turn (YieldsList-from_first (λ j. j) (λ rest. rest) ks c.iter-key-items.ensures.all) c.loop-i.yielded _ c.loop-i.yielded_by _ _ k c.in-Some.is c.next.ensures.steps in
      let at_i : slice_get (primaries ms) c.loop-i.i ≡ Some k =
      ap (slice_get (primaries ms)) c.loop-i.invariant.0
      ∙ ap (λ js. slice_get js (length c.loop-i.yielded)) (sym c.primaries-primaries.ensures)
      ∙ slice_get-get_or ks (length c.loop-i.yielded) k turn.0
      ∙ ap Some (sym turn.1) in
      record {
        same_index = ap (λ s. s.index) c.mark_at.ensures ∙ first.same_index;
        same_secondary = ap (λ s. s.secondary) c.mark_at.ensures ∙ first.same_secondary;
        now_primary =
            ap (λ s. s.primary) c.mark_at.ensures
            ∙ mark_one g.K.OrderedKey.order c.args.self.now.config.dial_fail_limit (records_of g.R.Roll g.K.OrderedKey c.args.self.now.records) ms (set_of c.loop-i.set).primary c.loop-i.i k c.is_known.result first.now_primary
            at_i
            (c.is_known.ensures ∙ ap (λ (d : Directory g.row.K.Denot g.row.R.Denot g.row.B.Denot). not (wanted d.config.dial_fail_limit (known g.K.OrderedKey.order (records_of g.R.Roll g.K.OrderedKey d.records) k))) c.self.view_is);
      }),
)

pub returns : goal.returns
returns g c =
    let first = c.loop-i.invariant.1 in
    let ks = keys_in c.primaries-primaries.result in
    let ms = (set_of c.args.set.now).primary in
    let end = YieldsList-end (YieldsList-from_first (λ j. j) (λ rest. rest) ks c.iter-key-items.ensures.all) c.loop-i.yielded _ c.loop-i.yielded_by _ _ c.in-None.is c.next.ensures.steps in
    record {
      same_index = first.same_index;
      same_secondary = first.same_secondary;
      now_primary =
          mark_all g.K.OrderedKey.order c.args.self.now.config.dial_fail_limit (records_of g.R.Roll g.K.OrderedKey c.args.self.now.records) ms (set_of c.loop-i.set).primary c.loop-i.i
          (omega (arith, end.1, c.loop-i.invariant.0, ap length c.primaries-primaries.ensures, length-primaries ms)) first.now_primary;
    }
