use Rattle.std.proofs.Common.{◌≡◌, length}
use Rattle.peer_sets.specs.Held.{set_of}
use Rattle.tracker.specs.Tracking.{MarkedFirst}
use Rattle.tracker.proofs.directory.Directory.mark.Given as goal

abbrev pub invariant-loop-i : goal.invariant-loop-i
invariant-loop-i g l =
    (l.i ≡ length l.yielded)
    × MarkedFirst g.K.OrderedKey g.R.Roll g.B.Roll l.self (set_of l.initial.set) (set_of l.set) l.i
