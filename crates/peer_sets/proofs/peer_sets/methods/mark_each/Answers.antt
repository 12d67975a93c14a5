use Rattle.std.proofs.Common.{◌<◌, map, arith, rules}
use Rattle.std.proofs.lemmas.List.{length-map}
use Rattle.peer_sets.specs.Held.{set_of}
use Rattle.peer_sets.proofs.Rows.{marked_more, marked_all}
use Rattle.peer_sets.proofs.peer_sets.methods.mark_each.Goals as goal

pub offset_bounds-sets-set-index : goal.offset_bounds-sets-set-index
offset_bounds-sets-set-index g c = let h : c.loop-set.set-index < 9 = omega arith in search rules

pub loop-set-preserved : goal.loop-set-preserved
loop-set-preserved g c =
    marked_more g.K.OrderedKey.order c.args.key.now c.args.known (map set_of c.args.sets.now) c.loop-set.sets c.loop-set.set-index c.set-item.result c.update.new.self (omega (arith, length-map c.args.sets.now set_of)) (omega arith) c.loop-set.invariant c.set-item.is c.update.ensures

pub returns : goal.returns
returns g c =
    marked_all g.K.OrderedKey.order c.args.key.now c.args.known (map set_of c.args.sets.now) c.loop-set.sets c.loop-set.set-index (omega (arith, length-map c.args.sets.now set_of)) (omega arith) c.loop-set.invariant
