use Rattle.std.proofs.Common.{rules, refl}
use Rattle.turns.specs.Turned.{taken}
use Rattle.model.specs.Calls.{record_of}
use Rattle.model.specs.Peers.{release_turn}
use Rattle.model.specs.Runs.{Release}
use Rattle.tracker.specs.Directories.{state}
use Rattle.tracker.proofs.Tellings.{performed_telling, one_emptied}
use Rattle.tracker.proofs.directory.Directory.release.Goals as goal

-- the directory is below half of the memory, and the peer has a record
pub tell-requires : goal.tell-requires
tell-requires g c = (search rules, c.in_ok-turn.ensures.of_a_record refl)

pub returns-clause-performed : goal.returns-clause-performed
returns-clause-performed g c =
    performed_telling g.K.OrderedKey g.R.Roll g.B.Roll c.args.self.now (Release c.args.key.now) c.args.key.now
    (release_turn (record_of g.K.OrderedKey.order (state g.K.OrderedKey g.R.Roll g.B.Roll c.args.self.now) c.args.key.now)) refl refl
    c.tell.new.self c.in_ok-turn.turn c.in_ok-turn.ensures.turn c.tell.ensures

pub returns-clause-at_most_one_place_emptied : goal.returns-clause-at_most_one_place_emptied
returns-clause-at_most_one_place_emptied g c =
    one_emptied g.K.OrderedKey g.R.Roll g.B.Roll c.args.self.now c.tell.new.self c.args.key.now (taken c.in_ok-turn.turn) c.tell.ensures
