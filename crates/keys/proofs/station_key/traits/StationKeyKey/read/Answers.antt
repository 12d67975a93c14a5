use Rattle.keys.specs.Forms.{station_from}
use Rattle.keys.proofs.station_key.traits.StationKeyKey.read.Goals as goal

pub returns : goal.returns
returns c = station_from c.args.bytes.now _ c.in-Ok.ensures.1.same
