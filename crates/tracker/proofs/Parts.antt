-- The state of a directory by its parts, and what a call that was performed means for the law.
use Rattle.std.proofs.Common.{◌≡◌, ◌≤◌, true, List, ◌∷◌, length, is_err, IsErrAnd, Ok, Err, Option, Ordering, Result, sym, subst}
use Rattle.std.specs.List.{AllByRecursion}
use Rattle.std.proofs.lemmas.Bool.{false≢true}
use Rattle.keys.specs.Order.{Lawful}
use Rattle.keys.specs.declared.ordered_key.OrderedKey as ordered
use Rattle.rolls.specs.declared.roll.Roll as roll
use Rattle.records.specs.Ranks.{Proper}
use Rattle.model.specs.State.{State, PeerSet}
use Rattle.model.specs.Runs.{Call, Answer, answer}
use Rattle.model.specs.declared.config.Config.{Config}
use Rattle.model.specs.declared.fault.Fault.{Fault}
use Rattle.laws.specs.History.{Start, Event}
use Rattle.laws.specs.Law.{Law}
use Rattle.laws.specs.Starts.{Reached}
use Rattle.laws.proofs.Laws.{reached_more, reached_law}
use Rattle.tracker.specs.Directories.{state, Performed}
use Rattle.tracker.specs.Parts.{Sound}
use Rattle.tracker.specs.declared.directory.Directory.{Directory}

-- what a refusal is that was carried up
pub carried : {X : Type 0} (r : Result X Fault) (f : Fault) (P : Result X Fault → Type 0) → is_err r ≡ true → IsErrAnd r (λ g. g ≡ f) → P (Err f) → P r
carried (Ok x) f P e h p = absurd (false≢true e)
carried (Err g) f P e h p = subst (λ x. P (Err x)) (sym h) p

-- states are the same if their parts are
pub same_state : {K : Type 0} (s t : State K) → s.own ≡ t.own → s.config ≡ t.config → s.record_places ≡ t.record_places → s.block_places ≡ t.block_places
    → s.records ≡ t.records → s.sets ≡ t.sets → s.blocks ≡ t.blocks → s ≡ t
same_state s t a b c d e f g = λ i. record { own = a i; config = b i; record_places = c i; block_places = d i; records = e i; sets = f i; blocks = g i }

-- with as many places, and sets that are proper, what holds of a directory still holds
pub sound_with : {K : Type 0} (order : K → K → Ordering) (config : Config) (before after : List (Option K)) (sets now-sets : List (PeerSet K)) → length after ≡ length before
    → AllByRecursion (Proper order) now-sets → Sound order config before sets → Sound order config after now-sets
sound_with order config before after sets now-sets p proper sound =
    record {
      few_places = subst (λ x. x ≤ 64) (sym p) sound.few_places;
      some_sets = sound.some_sets;
      few_sets = sound.few_sets;
      sets_proper = proper;
    }

module _ {K R B : Type 0} (o : ordered.Ghosts K) (m : roll.Ghosts R K) (n : roll.Ghosts B K) where
  -- a call that was performed keeps the law
  pub kept_law : Lawful o.order → (before after : Directory K R B) (call : Call K) (given : Answer K) → Performed o m n before after call given
      → (start : Start K) (h : List (Event K)) → Reached o.order start h (state o m n before)
      → Reached o.order start (record { call = call; answer = given } ∷ h) (state o m n after) × Law o.order start (record { call = call; answer = given } ∷ h) (state o m n after)
  kept_law lawful before after call given done start h reached =
      let next = reached_more o.order lawful start h (state o m n before) call reached in
      let now-so =
      subst (λ a. Reached o.order start (record { call = call; answer = a } ∷ h) (state o m n after)) (sym done.answers)
      (subst (Reached o.order start (record { call = call; answer = answer o.order (state o m n before) call } ∷ h)) (sym done.leaves) next) in
      (now-so, reached_law o.order lawful start (record { call = call; answer = given } ∷ h) (state o m n after) now-so)
