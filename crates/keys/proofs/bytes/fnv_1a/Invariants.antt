use Rattle.std.proofs.Common.{◌≡◌, drop}
use Rattle.keys.specs.Hash.{fnv_from, fnv_1a}
use Rattle.keys.proofs.bytes.fnv_1a.Given as goal

abbrev pub invariant-loop-byte : goal.invariant-loop-byte
invariant-loop-byte l = fnv_from l.hash (drop l.byte-index l.bytes) ≡ fnv_1a l.bytes
