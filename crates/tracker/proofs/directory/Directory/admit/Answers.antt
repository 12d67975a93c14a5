use Rattle.std.proofs.Common.{rules}
use Rattle.peer_sets.specs.Held.{set_of}
use Rattle.tracker.specs.Directories.{state}
use Rattle.tracker.specs.Tracking.{AdmitAnswer}
use Rattle.tracker.proofs.Parts.{carried}
use Rattle.tracker.proofs.Sets.{early_passed, proper-fresh}
use Rattle.tracker.proofs.Admitting.{admitted, not_admitted}
use Rattle.tracker.proofs.directory.Directory.admit.Goals as goal

-- the directory and the set are each below half of the memory, and the set is proper
pub join_set-requires : goal.join_set-requires
join_set-requires g c =
    let s = state g.K.OrderedKey g.R.Roll g.B.Roll c.args.self.now in
    let made = c.in_ok-set.ensures in
    let passed = early_passed g.K.OrderedKey.order s c.args.given.now.index c.args.given.now.primary.now c.args.given.now.secondary.now made.0 in
    (search rules, (search rules, proper-fresh g.K.OrderedKey.order s c.args.given.now.index c.args.given.now.primary.now c.args.given.now.secondary.now g.met.K.OrderedKey.lawful passed.0 passed.1 (set_of c.in_ok-set.set) made.1))

pub returns-in_err-join_set : goal.returns-in_err-join_set
returns-in_err-join_set g c =
    let s = state g.K.OrderedKey g.R.Roll g.B.Roll c.args.self.now in
    let made = c.in_ok-set.ensures in
    let passed = early_passed g.K.OrderedKey.order s c.args.given.now.index c.args.given.now.primary.now c.args.given.now.secondary.now made.0 in
    let proper = proper-fresh g.K.OrderedKey.order s c.args.given.now.index c.args.given.now.primary.now c.args.given.now.secondary.now g.met.K.OrderedKey.lawful passed.0 passed.1 (set_of c.in_ok-set.set) made.1 in
    carried c.from_residual-in_err-join_set.result c.in_err-join_set.field-0.0 (AdmitAnswer g.K.OrderedKey g.R.Roll g.B.Roll c.args.self.now c.join_set.new.self c.args.given.now.index c.args.given.now.primary.now c.args.given.now.secondary.now)
    c.from_residual-in_err-join_set.ensures.0 c.from_residual-in_err-join_set.ensures.1
    (not_admitted g.K.OrderedKey g.R.Roll g.B.Roll c.args.self.now c.join_set.new.self c.args.given.now.index c.args.given.now.primary.now c.args.given.now.secondary.now (set_of c.in_ok-set.set) made.0 made.1 c.in_err-join_set.field-0.0
    c.in_err-join_set.ensures)

pub returns : goal.returns
returns g c =
    let s = state g.K.OrderedKey g.R.Roll g.B.Roll c.args.self.now in
    let made = c.in_ok-set.ensures in
    let passed = early_passed g.K.OrderedKey.order s c.args.given.now.index c.args.given.now.primary.now c.args.given.now.secondary.now made.0 in
    let proper = proper-fresh g.K.OrderedKey.order s c.args.given.now.index c.args.given.now.primary.now c.args.given.now.secondary.now g.met.K.OrderedKey.lawful passed.0 passed.1 (set_of c.in_ok-set.set) made.1 in
    admitted g.K.OrderedKey g.R.Roll g.B.Roll c.args.self.now c.join_set.new.self c.args.given.now.index c.args.given.now.primary.now c.args.given.now.secondary.now (set_of c.in_ok-set.set) made.0 made.1 g.met.K.OrderedKey.lawful (set_of c.join_set.new.set)
    proper c.in_ok-join_set.ensures
