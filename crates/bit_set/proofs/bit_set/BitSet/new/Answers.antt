use Rattle.std.proofs.Common.{◌≤◌, length, subst, sym, ap, ◌∙◌, arith}
use Rattle.key_list.specs.Members.{keys_in, Made}
use Rattle.bit_set.proofs.Holding.{new_blank, every_from, blank_enough, blank_spare, fresh}
use Rattle.bit_set.proofs.bit_set.BitSet.new.Goals as goal

pub invariant_of-result : goal.invariant_of-result
invariant_of-result g c =
    let ks = keys_in c.in_ok-list.list in
    let v = c.in_ok-knowledge.knowledge in
    let listed = subst (Made c.args.keys.now) c.in_ok-list.ensures.ok_part c.of.ensures in
    let few : length ks ≤ 64 = omega (arith, ap length listed.1) in
    let blank = new_blank _ _ v c.new.ensures c.in_ok-knowledge.ensures.ok_part (length ks) c.len.ensures in
    let enough = blank_enough ks v few blank in
    record { counted = blank.same_len; enough = enough; every = every_from ks v enough; spare = blank_spare ks v few blank }

pub returns : goal.returns
returns g c =
    let listed = subst (Made c.args.keys.now) c.in_ok-list.ensures.ok_part c.of.ensures in
    let blank = new_blank _ _ c.in_ok-knowledge.knowledge c.new.ensures c.in_ok-knowledge.ensures.ok_part (length c.args.keys.now) (c.len.ensures ∙ ap length listed.1) in
    fresh g.K.OrderedKey.order c.args.keys.now _ listed.0 blank listed.1 (sym c.is_ascending.ensures ∙ c.if-not-is_ascending.false)
