use Rattle.std.proofs.Common.{refl}
use Rattle.types.proofs.BitLists.{written_there}
use Rattle.types.proofs.bit_vec.BitVec.put.Goals as goal

pub returns : goal.returns
returns c = written_there c.args.self.now _ c.args.i c.with_bit.result c.args.bit refl refl refl c.requires c.with_bit.ensures
