use Rattle.peer_sets.specs.Held.{set_of}
use Rattle.records.proofs.Chosen.{TidiedTo}
use Rattle.records.proofs.records.Records.tidy.Given as goal

abbrev pub invariant-loop-key : goal.invariant-loop-key
invariant-loop-key g l = TidiedTo g.R.Roll g.K.OrderedKey l.initial.self l.self (set_of l.members) l.yielded l.key-iterator
