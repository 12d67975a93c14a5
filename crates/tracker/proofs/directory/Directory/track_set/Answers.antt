use Rattle.std.proofs.Common.{ap, ◌∙◌, rules}
use Rattle.records.specs.Kept.{places_of}
use Rattle.model.specs.Track.{closed, dropped}
use Rattle.tracker.proofs.directory.Directory.track_set.Goals as goal

-- the directory, the set and the keys named are each below half of the memory, and the set is proper
pub enter_set-requires : goal.enter_set-requires
enter_set-requires g c = (search rules, (search rules, (search rules, c.in_ok-set.ensures.proper)))

pub returns : goal.returns
returns g c =
    let a = c.in_ok-set.ensures in
    let e = c.enter_set.ensures in
    record {
      accepted = a.accepted;
      names = e.names ∙ ap (closed g.K.OrderedKey.order) a.enters;
      leaves = e.leaves ∙ ap (dropped g.K.OrderedKey.order) a.enters;
      places =
          record {
            record_places = (places_of g.R.Roll c.admit.new.self.records, a.filled, e.emptied);
            block_places = e.block_places ∙ a.block_places;
          };
    }
