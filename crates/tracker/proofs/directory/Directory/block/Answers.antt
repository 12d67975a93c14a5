use Rattle.std.proofs.Common.{length, Some, sym, refl, ap, ◌∙◌, inl}
use Rattle.std.proofs.lemmas.List.{length-set}
use Rattle.blocks.specs.Blocked.{places_of, expiries_of}
use Rattle.key_list.specs.Keys.{is_equal}
use Rattle.tables.specs.Listings.{listing, put}
use Rattle.model.specs.Runs.{Block, done_or}
use Rattle.model.specs.declared.fault.Fault.TheVariants.{TooManyBlocks}
use Rattle.tracker.specs.Directories.{state, Performed}
use Rattle.tracker.specs.declared.directory.Directory.{Directory}
use Rattle.tracker.proofs.Blocking.{answers-full, answers-done, performed_unblocked, performed_blocking, one_filled}
use Rattle.tracker.proofs.Parts.{carried, same_state}
use Rattle.tracker.proofs.directory.Directory.block.Goals as goal

pub returns-in_err-block-clause-performed : goal.returns-in_err-block-clause-performed
returns-in_err-block-clause-performed g c =
    let d : Directory g.row.K.Denot g.row.R.Denot g.row.B.Denot = record { own = c.self.inside.own; config = c.self.inside.config; records = c.self.inside.records; sets = c.self.inside.sets; blocks = c.self.inside.blocks } in
    let e : Directory g.row.K.Denot g.row.R.Denot g.row.B.Denot = record { own = c.self.inside.own; config = c.self.inside.config; records = c.self.inside.records; sets = c.self.inside.sets; blocks = c.block.new.self } in
    let full = c.in_err-block.ensures in
    let kept = full.answered.unchanged in
    rw (← c.self.view_is) (carried c.from_residual.result TooManyBlocks (λ r. Performed g.K.OrderedKey g.R.Roll g.B.Roll d e (Block c.args.at c.args.key.now) (done_or r)) c.from_residual.ensures.0 c.from_residual.ensures.1
    (performed_unblocked g.K.OrderedKey g.R.Roll g.B.Roll d e c.args.at c.args.key.now TooManyBlocks
    (answers-full g.K.OrderedKey.order (state g.K.OrderedKey g.R.Roll g.B.Roll d) c.args.at c.args.key.now c.if-is_blocked.ensures (c.if-is_ourselves.ensures ∙ ap (λ (x : Directory g.row.K.Denot g.row.R.Denot g.row.B.Denot). is_equal (g.K.OrderedKey.order x.own c.args.key.now)) (sym c.self.view_is)) full.fits)
    (same_state _ _ refl refl refl (ap length kept.same_places) refl refl (λ i. listing g.K.OrderedKey.order (kept.same_places i) (kept.same_values i)))))

pub returns-in_err-block-clause-at_most_one_place_filled : goal.returns-in_err-block-clause-at_most_one_place_filled
returns-in_err-block-clause-at_most_one_place_filled g c =
    rw (← c.self.view_is) (record { record_places = refl; block_places = inl c.in_err-block.ensures.answered.unchanged.same_places })

pub returns-clause-performed : goal.returns-clause-performed
returns-clause-performed g c =
    let d : Directory g.row.K.Denot g.row.R.Denot g.row.B.Denot = record { own = c.self.inside.own; config = c.self.inside.config; records = c.self.inside.records; sets = c.self.inside.sets; blocks = c.self.inside.blocks } in
    let e : Directory g.row.K.Denot g.row.R.Denot g.row.B.Denot = record { own = c.self.inside.own; config = c.self.inside.config; records = c.self.inside.records; sets = c.self.inside.sets; blocks = c.block.new.self } in
    let done = c.in_ok-block.ensures in
    let entered = done.answered in
    rw (← c.self.view_is) (performed_blocking g.K.OrderedKey g.R.Roll g.B.Roll d e c.args.at c.args.key.now
    (answers-done g.K.OrderedKey.order (state g.K.OrderedKey g.R.Roll g.B.Roll d) c.args.at c.args.key.now c.if-is_blocked.ensures (c.if-is_ourselves.ensures ∙ ap (λ (x : Directory g.row.K.Denot g.row.R.Denot g.row.B.Denot). is_equal (g.K.OrderedKey.order x.own c.args.key.now)) (sym c.self.view_is)) done.fits)
    (same_state _ _ refl refl refl (ap length entered.1.now_places ∙ length-set (places_of g.B.Roll d.blocks) entered.0 (Some c.args.key.now)) refl refl
    (entered.1.now_entries ∙ ap (λ x. put g.K.OrderedKey.order c.args.key.now x (expiries_of g.B.Roll g.K.OrderedKey d.blocks)) c.saturating_add-expiry.ensures)))

pub returns-clause-at_most_one_place_filled : goal.returns-clause-at_most_one_place_filled
returns-clause-at_most_one_place_filled g c =
    let entered = c.in_ok-block.ensures.answered in
    rw (← c.self.view_is) (record { record_places = refl; block_places = one_filled (places_of g.B.Roll c.self.inside.blocks) (places_of g.B.Roll c.block.new.self) c.args.key.now entered.0 entered.1.free entered.1.now_places })
