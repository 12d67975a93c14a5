use Rattle.std.proofs.Common.{sym, ◌∙◌, arith}
use Rattle.std.proofs.lemmas.List.{at_drop_all}
use Rattle.keys.specs.Hash.{fnv_from}
use Rattle.keys.specs.Hashes.{fnv_from_more}
use Rattle.keys.proofs.bytes.fnv_1a.Goals as goal

pub loop-byte-preserved : goal.loop-byte-preserved
loop-byte-preserved c =
    fnv_from_more c.loop-byte.hash c.args.bytes.now c.loop-byte.byte-index c.from.result c.loop-byte-test.true c.from.ensures
    ∙ c.loop-byte.invariant

pub returns : goal.returns
returns c =
    sym (at_drop_all (fnv_from c.loop-byte.hash) c.args.bytes.now c.loop-byte.byte-index (omega arith))
    ∙ c.loop-byte.invariant
