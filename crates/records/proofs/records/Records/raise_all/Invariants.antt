use Rattle.key_list.specs.Members.{keys_in}
use Rattle.records.specs.Kept.{RaisedAll}
use Rattle.records.specs.Ranks.{raised}
use Rattle.records.proofs.records.Records.raise_all.Given as goal

abbrev pub invariant-loop-key : goal.invariant-loop-key
invariant-loop-key g l = RaisedAll g.R.Roll g.K.OrderedKey l.initial.self l.self (raised l.rank) (keys_in l.keys) l.key-iterator
