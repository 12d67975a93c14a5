use Rattle.std.proofs.Common.{rules, refl}
use Rattle.tracker.proofs.directory.Directory.dial.Goals as goal

-- the directory is below half of the memory, and the peer has a record
pub reserve-requires : goal.reserve-requires
reserve-requires g c = (search rules, c.in_ok-reserved.ensures.of_a_record refl)
