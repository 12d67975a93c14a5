use Rattle.std.proofs.Common.{◌≡◌, ◌-◌, Some, sym, ◌∙◌, arith, of_calls}
use Rattle.std.specs.Option.{option_zip}
use Rattle.std.specs.List.{slice_get}
use Rattle.key_list.specs.Members.{keys_in}
use Rattle.rolls.specs.Places.{at}
use Rattle.tables.proofs.Scans.{both_there, not_both, found_none, found_all, found-empty, found-fails, found-passes}
use Rattle.tables.proofs.table.Table.keys_where.Goals as goal

pub loop-place-init : goal.loop-place-init
loop-place-init g c t says =
    let s = c.args.self.now in
    let whole = c.size-place.ensures.whole in
    c.new-found.ensures ∙ sym (found_none g.K.OrderedKey.order g.met.K.OrderedKey.lawful t (g.R.Roll.places s.roll) s.values whole.long c.size-place.result (omega arith))

pub loop-place-preserved-in_default : goal.loop-place-preserved-in_default
loop-place-preserved-in_default g c t says =
    let s = c.args.self.now in
    let whole = c.size-place.ensures.whole in
    c.loop-place.invariant t says
    ∙ sym (found-empty g.K.OrderedKey.order g.met.K.OrderedKey.lawful t (g.R.Roll.places s.roll) s.values whole.long c.loop-place.place (omega arith) (omega arith) (not_both _ _ (sym c.key_at.ensures.key ∙ c.in_default.is)))

pub loop-place-preserved-then-test : goal.loop-place-preserved-then-test
loop-place-preserved-then-test g c t says =
    let s = c.args.self.now in
    let whole = c.size-place.ensures.whole in
    let told : c.test.result ≡ t c.in-Some.key c.in-Some-value_at.value = search (of_calls, says) in
    let both : option_zip (at (g.R.Roll.places s.roll) (c.loop-place.place - 1)) (slice_get s.values (c.loop-place.place - 1)) ≡ Some (c.in-Some.key, c.in-Some-value_at.value) = both_there _ _ _ _ (search of_calls) (search of_calls) in
    found-passes g.K.OrderedKey.order g.met.K.OrderedKey.lawful t (g.R.Roll.places s.roll) s.values whole.long c.loop-place.place (omega arith) (omega arith)
    whole.proper.distinct c.in-Some.key c.in-Some-value_at.value both whole.proper.few (sym told ∙ c.if-test.true)
    c.insert.result (keys_in c.loop-place.found) (keys_in c.insert.new.self) (c.loop-place.invariant t says) (search of_calls) (search of_calls)

pub loop-place-preserved : goal.loop-place-preserved
loop-place-preserved g c t says =
    let s = c.args.self.now in
    let whole = c.size-place.ensures.whole in
    let told : c.test.result ≡ t c.in-Some.key c.in-Some-value_at.value = search (of_calls, says) in
    let both : option_zip (at (g.R.Roll.places s.roll) (c.loop-place.place - 1)) (slice_get s.values (c.loop-place.place - 1)) ≡ Some (c.in-Some.key, c.in-Some-value_at.value) = both_there _ _ _ _ (search of_calls) (search of_calls) in
    c.loop-place.invariant t says
    ∙ sym (found-fails g.K.OrderedKey.order g.met.K.OrderedKey.lawful t (g.R.Roll.places s.roll) s.values whole.long c.loop-place.place (omega arith) (omega arith)
    whole.proper.distinct c.in-Some.key c.in-Some-value_at.value both (sym told ∙ c.if-test.false))

pub returns : goal.returns
returns g c t says =
    let s = c.args.self.now in
    let whole = c.size-place.ensures.whole in
    c.loop-place.invariant t says
    ∙ found_all g.K.OrderedKey.order g.met.K.OrderedKey.lawful t (g.R.Roll.places s.roll) s.values whole.long c.loop-place.place c.loop-place-test.false
