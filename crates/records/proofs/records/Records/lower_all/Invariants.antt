use Rattle.key_list.specs.Members.{keys_in}
use Rattle.records.specs.Kept.{LoweredAll}
use Rattle.records.specs.Ranks.{lowered}
use Rattle.records.proofs.records.Records.lower_all.Given as goal

abbrev pub invariant-loop-key : goal.invariant-loop-key
invariant-loop-key g l = LoweredAll g.R.Roll g.K.OrderedKey l.initial.self l.self (lowered l.rank) (keys_in l.keys) l.key-iterator
