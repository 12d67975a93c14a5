use Rattle.std.proofs.Common.{◌≤◌, drop}
use Rattle.tracker.specs.Directories.{LearntAll}
use Rattle.tracker.proofs.directory.Directory.learn_all.Given as goal

abbrev pub invariant-loop-info : goal.invariant-loop-info
invariant-loop-info g l =
    (l.taken ≤ l.info-index)
    × LearntAll g.K.OrderedKey g.R.Roll g.B.Roll l.initial.self l.self l.infos (drop l.info-index l.infos) l.taken
