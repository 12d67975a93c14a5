use Rattle.std.proofs.Common.{sym, refl, subst}
use Rattle.tables.proofs.Walks.{ascending-entries}
use Rattle.tracker.specs.Directories.{state}
use Rattle.tracker.specs.Tracking.{SetAnswer}
use Rattle.tracker.proofs.Parts.{carried}
use Rattle.tracker.proofs.Sets.{refusal_early, early_passed, refusal_many, made_or_many}
use Rattle.tracker.proofs.directory.Directory.make_set.Goals as goal

pub returns-in_err-check_new : goal.returns-in_err-check_new
returns-in_err-check_new g c =
    carried c.from_residual.result c.in_err-check_new.field-0.0 (SetAnswer g.K.OrderedKey g.R.Roll g.B.Roll c.args.self.now c.args.given.now.index c.args.given.now.primary.now c.args.given.now.secondary.now) c.from_residual.ensures.0 c.from_residual.ensures.1
    (refusal_early g.K.OrderedKey.order (state g.K.OrderedKey g.R.Roll g.B.Roll c.args.self.now) c.args.given.now.index c.args.given.now.primary.now c.args.given.now.secondary.now c.in_err-check_new.field-0.0 c.in_err-check_new.ensures.refused)

pub returns : goal.returns
returns g c =
    let order = g.K.OrderedKey.order in
    let d = c.args.self.now in
    let s = state g.K.OrderedKey g.R.Roll g.B.Roll d in
    let p = c.args.given.now.primary.now in
    let q = c.args.given.now.secondary.now in
    let early = sym c.in_ok-check_new.ensures.refused in
    let passed = early_passed order s c.args.given.now.index p q early in
    let table = d.records.table in
    subst (SetAnswer g.K.OrderedKey g.R.Roll g.B.Roll d c.args.given.now.index p q) (sym c.ok_or.ensures.value)
    (made_or_many g.K.OrderedKey g.R.Roll g.B.Roll d c.args.given.now.index p q c.new.result early
    (λ none. refusal_many order s c.args.given.now.index p q g.met.K.OrderedKey.lawful passed.0 passed.1 (ascending-entries g.R.Roll g.K.OrderedKey g.met.K.OrderedKey.lawful table)
    (c.in_ok-check_new.ensures.few_places refl) early none)
    c.new.ensures.made)
