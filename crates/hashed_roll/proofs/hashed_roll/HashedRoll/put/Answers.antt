use Rattle.std.proofs.Common.{subst, sym}
use Rattle.hashed_roll.specs.Probing.{Suits}
use Rattle.hashed_roll.specs.Tables.{sound-put, places-put}
use Rattle.hashed_roll.proofs.hashed_roll.HashedRoll.put.Goals as goal

pub invariant_of-self : goal.invariant_of-self
invariant_of-self g c =
    sound-put _ _ _ _ c.self.invariant (subst (λ slots. Suits g.K.HashedKey.hashed slots c.args.number c.args.slot) (sym c.self.view_is) c.requires.suits)

pub returns : goal.returns
returns g c = rw (← c.self.view_is) (places-put _ _ _)
