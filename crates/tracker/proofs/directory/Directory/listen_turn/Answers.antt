use Rattle.std.proofs.Common.{rules, is_some, sym, ap, ◌∙◌}
use Rattle.tracker.proofs.directory.Directory.listen_turn.Goals as goal

pub returns-clause-turn : goal.returns-clause-turn
returns-clause-turn g c = rw (← c.self.view_is) (search rules)

pub returns-clause-of_a_record : goal.returns-clause-of_a_record
returns-clause-of_a_record g c = rw (← c.self.view_is) (λ ok. ap is_some (sym c.get.ensures) ∙ c.listened.ensures.of_a_record ok)
