use Rattle.std.proofs.Common.{refl}
use Rattle.tracker.proofs.directory.Directory.unblock_expired.Goals as goal

pub returns-clause-places_only_emptied : goal.returns-clause-places_only_emptied
returns-clause-places_only_emptied g c = rw (← c.self.view_is) (record { record_places = refl; block_places = c.unblock_expired.ensures.emptied })
