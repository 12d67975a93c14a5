use Rattle.key_list.specs.Members.{keys_in}
use Rattle.key_list.proofs.Puts.{Passed}
use Rattle.key_list.proofs.key_list.KeyList.gap.Given as goal

abbrev pub invariant-loop-index : goal.invariant-loop-index
invariant-loop-index g l = Passed g.K.OrderedKey.order l.key (keys_in l.self) l.yielded l.index l.held-iterator
