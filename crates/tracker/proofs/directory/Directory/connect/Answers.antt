use Rattle.std.proofs.Common.{rules, refl}
use Rattle.tracker.proofs.directory.Directory.connect.Goals as goal

-- the directory is below half of the memory, and the peer has a record
pub tell-requires : goal.tell-requires
tell-requires g c = (search rules, c.in_ok-connected.ensures.of_a_record refl)
