use Rattle.std.proofs.Common.{◌+◌, ◌++◌, drop, sym, ap, ◌∙◌, arith}
use Rattle.std.proofs.lemmas.Bool.{ltb-false}
use Rattle.key_list.specs.Keys.{without}
use Rattle.key_list.specs.Members.{keys_in}
use Rattle.key_list.proofs.Rows.{few-keys}
use Rattle.bit_set.specs.Members.{members}
use Rattle.model.specs.Sets.{primaries}
use Rattle.peer_sets.proofs.Makes.{apart_skips, apart-takes, apart-full, apart_all}
use Rattle.peer_sets.proofs.primaries.apart.Goals as goal

pub returns-then-not-push : goal.returns-then-not-push
returns-then-not-push g c =
    apart-full g.K.OrderedKey.order (keys_in c.loop-key.apart) c.args.keys.now (primaries (members c.args.primary.now)) c.loop-key.key-index c.key-item.result (omega arith) c.key-item.is (sym c.if-has_key.ensures) (ltb-false _ _ (sym c.if-not-push.ensures.room)) c.loop-key.invariant

pub loop-key-preserved-then-has_key : goal.loop-key-preserved-then-has_key
loop-key-preserved-then-has_key g c =
    apart_skips g.K.OrderedKey.order (keys_in c.loop-key.apart) c.args.keys.now (primaries (members c.args.primary.now)) c.loop-key.key-index c.key-item.result (omega arith) c.key-item.is (sym c.if-has_key.ensures)
    ∙ c.loop-key.invariant

pub loop-key-preserved : goal.loop-key-preserved
loop-key-preserved g c =
    ap (λ ks. ks ++ without g.K.OrderedKey.order (drop (c.loop-key.key-index + 1) c.args.keys.now) (primaries (members c.args.primary.now))) c.if-not-push.ensures.now_keys
    ∙ apart-takes g.K.OrderedKey.order (keys_in c.loop-key.apart) c.args.keys.now (primaries (members c.args.primary.now)) c.loop-key.key-index c.key-item.result (omega arith) c.key-item.is (sym c.if-has_key.ensures)
    ∙ c.loop-key.invariant

pub returns : goal.returns
returns g c =
    apart_all g.K.OrderedKey.order (keys_in c.loop-key.apart) c.args.keys.now (primaries (members c.args.primary.now)) c.loop-key.key-index (omega arith) (few-keys c.loop-key.apart) c.loop-key.invariant
