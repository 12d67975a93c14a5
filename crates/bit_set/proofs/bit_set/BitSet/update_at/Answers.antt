use Rattle.std.proofs.Common.{◌≤◌, length, sym, refl, arith}
use Rattle.std.proofs.lemmas.Bool.{le-ltb}
use Rattle.bit_set.specs.Members.{keys_in}
use Rattle.bit_set.proofs.Holding.{marked_past}
use Rattle.bit_set.proofs.bit_set.BitSet.update_at.Goals as goal

pub returns-then-index-len : goal.returns-then-index-len
returns-then-index-len g c =
    let s = c.args.self.now in
    let past : length (keys_in s) ≤ c.args.index = omega arith in
    record { there = sym (le-ltb _ _ past); written = marked_past s c.args.index c.args.known past; past = λ h. refl; keys = refl }
