use Rattle.peer_sets.specs.Held.{set_of}
use Rattle.std.proofs.Common.{arith}
use Rattle.peer_sets.proofs.Rows.{all_stay, none_leaves, rest_stays, first_leaves}
use Rattle.peer_sets.proofs.peer_sets.methods.put_behind.Goals as goal

pub returns-then-len-min-clause-stay : goal.returns-then-len-min-clause-stay
returns-then-len-min-clause-stay g c =
    λ h. all_stay set_of c.args.sets.now.items c.args.set c.args.most c.push.new.self.items c.push.ensures.items (omega arith)

pub returns-then-len-min-clause-oldest : goal.returns-then-len-min-clause-oldest
returns-then-len-min-clause-oldest g c =
    λ h. none_leaves set_of c.args.sets.now.items c.args.set c.args.most c.push.new.self.items c.push.ensures.items (omega arith)

pub returns-clause-stay : goal.returns-clause-stay
returns-clause-stay g c =
    λ h. rest_stays set_of c.args.sets.now.items c.args.set c.args.most c.push.new.self.items c.push.ensures.items c.remove.new.self.items c.remove.ensures.items (omega arith)

pub returns-clause-oldest : goal.returns-clause-oldest
returns-clause-oldest g c =
    λ h. first_leaves set_of c.args.sets.now.items c.args.set c.args.most c.push.new.self.items c.push.ensures.items c.remove.result c.remove.ensures.value (omega arith)
