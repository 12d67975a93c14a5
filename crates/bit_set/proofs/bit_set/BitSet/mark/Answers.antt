use Rattle.std.proofs.Common.{◌≡◌, length, refl, ◌∙◌}
use Rattle.types.specs.Bits.{bits}
use Rattle.bit_set.specs.Members.{keys_in}
use Rattle.bit_set.proofs.Holding.{every_from, written_enough, marked}
use Rattle.bit_set.proofs.bit_set.BitSet.mark.Goals as goal

pub invariant_of-self : goal.invariant_of-self
invariant_of-self g c =
    let s = c.args.self.now in
    let w = c.set.ensures.written in
    let enough : length (bits c.set.new.self) ≡ length (keys_in s) = written_enough (keys_in s) s.knowledge c.set.new.self _ _ w s.enough in
    record {
      counted = w.same_len ∙ s.counted;
      enough = enough;
      every = every_from (keys_in s) c.set.new.self enough;
      spare = w.same_spare ∙ s.spare;
    }

pub returns : goal.returns
returns g c = marked c.args.self.now _ c.args.index c.args.known refl c.set.ensures.written
