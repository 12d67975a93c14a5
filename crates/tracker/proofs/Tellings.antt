-- Calls that tell what is known of a peer: connecting, releasing, learning.
use Rattle.std.proofs.Common.{◌≡◌, ℕ, List, length, None, Ordering, sym, refl, ap, ◌∙◌, inl, inr}
use Rattle.std.proofs.lemmas.List.{length-set}
use Rattle.keys.specs.declared.ordered_key.OrderedKey as ordered
use Rattle.rolls.specs.declared.roll.Roll as roll
use Rattle.records.specs.Kept.{PlacesAfter, places_of}
use Rattle.records.specs.declared.records.Records.{Records}
use Rattle.turns.specs.Turned.{taken}
use Rattle.turns.specs.declared.turn.Turn as turns
use Rattle.turns.specs.declared.turn.Turn.TheVariants.{Write, Erase}
use Rattle.model.specs.Calls.{turn_answer, told, after_telling}
use Rattle.model.specs.Peers.{Turn, refuse, write, erase}
use Rattle.model.specs.Runs.{Call, Answer, Done, done_or, answer, after as left_by}
use Rattle.model.specs.Sets.{marked_all}
use Rattle.model.specs.State.{PeerSet}
use Rattle.tracker.specs.Directories.{state, Performed, Telling, OneEmptied, known_by}
use Rattle.tracker.specs.declared.directory.Directory.{Directory}

-- the bit of a peer is set in every set held, by whether its information is known
pub told-known : {K : Type 0} (order : K → K → Ordering) (limit : ℕ) (k : K) (turn : turns.Turn K) (sets : List (PeerSet K))
    → marked_all order k (known_by limit (taken turn)) sets ≡ told order limit k (taken turn) sets
told-known order limit k (Write r) sets = refl
told-known order limit k (Erase r) sets = refl

-- there are as many places as before
pub places-length : {K R : Type 0} (m : roll.Ghosts R K) (o : ordered.Ghosts K) (before after : Records K R) (k : K) (turn : Turn K)
    → PlacesAfter m o (places_of m before) (places_of m after) k turn → length (places_of m after) ≡ length (places_of m before)
places-length m o before after k (refuse f) h = ap length h
places-length m o before after k (write r) h = ap length h
places-length m o before after k (erase r) h = ap length h.2 ∙ length-set (places_of m before) h.0 None

module _ {K R B : Type 0} (o : ordered.Ghosts K) (m : roll.Ghosts R K) (n : roll.Ghosts B K) (before : Directory K R B) (call : Call K) (key : K) (turn : Turn K)
    (answers : answer o.order (state o m n before) call ≡ done_or (turn_answer turn))
    (leaves : left_by o.order (state o m n before) call ≡ after_telling o.order (state o m n before) key turn) where
  pub performed_telling : (after : Directory K R B) (t : turns.Turn K) → taken t ≡ turn → Telling o m n before after key (taken t) → Performed o m n before after call Done
  performed_telling after t e done =
      record {
        answers = accepted t ∙ ap (λ x. done_or (turn_answer x)) e ∙ sym answers;
        leaves = done.leaves ∙ ap (after_telling o.order (state o m n before) key) e ∙ sym leaves;
      }
    where
      accepted : (u : turns.Turn K) → ◌≡◌ {A = Answer K} Done (done_or (turn_answer (taken u)))
      accepted (Write r) = refl
      accepted (Erase r) = refl

-- at most the place of the key is emptied
pub one_emptied : {K R B : Type 0} (o : ordered.Ghosts K) (m : roll.Ghosts R K) (n : roll.Ghosts B K) (before after : Directory K R B) (key : K) (t : Turn K)
    → Telling o m n before after key t → OneEmptied o m n before after key
one_emptied o m n before after key (refuse f) h = record { record_places = inl h.record_places; block_places = h.block_places }
one_emptied o m n before after key (write r) h = record { record_places = inl h.record_places; block_places = h.block_places }
one_emptied o m n before after key (erase r) h = record { record_places = inr h.record_places; block_places = h.block_places }
