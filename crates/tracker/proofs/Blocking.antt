-- Blocking a peer: what is answered, and what is left.
use Rattle.std.proofs.Common.{◌≡◌, ℕ, true, false, cond, ◌⊎◌, List, set, is_ok, Some, None, Ok, Err, Option, Ordering, sym, ap, ◌∙◌, inl, inr}
use Rattle.std.proofs.lemmas.List.{set-get_or}
use Rattle.keys.specs.declared.ordered_key.OrderedKey as ordered
use Rattle.rolls.specs.declared.roll.Roll as roll
use Rattle.rolls.specs.Places.{at, Absent}
use Rattle.types.specs.Times.{plus}
use Rattle.types.specs.declared.moment.Moment.{Moment}
use Rattle.key_list.specs.Keys.{is_equal}
use Rattle.tables.specs.Listings.{put}
use Rattle.model.specs.Calls.{block_of, block_fits, block_answer, with_blocks}
use Rattle.model.specs.Peers.{is_blocked}
use Rattle.model.specs.Runs.{Block, Done, Refused, done_or}
use Rattle.model.specs.State.{State}
use Rattle.model.specs.declared.fault.Fault.{Fault}
use Rattle.model.specs.declared.fault.Fault.TheVariants.{BlockedAlready, Ourselves, TooManyBlocks}
use Rattle.tracker.specs.Directories.{state, Performed}
use Rattle.tracker.specs.declared.directory.Directory.{Directory}

module _ {K : Type 0} (order : K → K → Ordering) (s : State K) (moment : Moment) (k : K) where
  module _ (unblocked : false ≡ is_blocked moment (block_of order s k)) where
    next : block_answer order s moment k ≡ cond (is_equal (order s.own k)) (Err Ourselves) (cond (block_fits order s k) (Ok tt) (Err TooManyBlocks))
    next = ap (λ b. cond b (Err BlockedAlready) (cond (is_equal (order s.own k)) (Err Ourselves) (cond (block_fits order s k) (Ok tt) (Err TooManyBlocks)))) (sym unblocked)

    module _ (other : false ≡ is_equal (order s.own k)) where
      last : block_answer order s moment k ≡ cond (block_fits order s k) (Ok tt) (Err TooManyBlocks)
      last = next ∙ ap (λ b. cond b (Err Ourselves) (cond (block_fits order s k) (Ok tt) (Err TooManyBlocks))) (sym other)

      pub answers-full : false ≡ block_fits order s k → block_answer order s moment k ≡ Err TooManyBlocks
      answers-full f = last ∙ ap (λ b. cond b (Ok tt) (Err TooManyBlocks)) (sym f)

      pub answers-done : true ≡ block_fits order s k → block_answer order s moment k ≡ Ok tt
      answers-done t = last ∙ ap (λ b. cond b (Ok tt) (Err TooManyBlocks)) (sym t)

module _ {K R B : Type 0} (o : ordered.Ghosts K) (m : roll.Ghosts R K) (n : roll.Ghosts B K) (before after : Directory K R B) (moment : Moment) (k : K) where
  pub performed_unblocked : (f : Fault) → block_answer o.order (state o m n before) moment k ≡ Err f → state o m n after ≡ state o m n before
      → Performed o m n before after (Block moment k) (Refused f)
  performed_unblocked f e same =
      let s = state o m n before in
      record {
        answers = sym (ap done_or e);
        leaves = same ∙ sym (ap (λ a. cond (is_ok a) (with_blocks o.order s (put o.order k (plus moment s.config.block_duration) s.blocks)) s) e);
      }

  pub performed_blocking : block_answer o.order (state o m n before) moment k ≡ Ok tt
      → state o m n after ≡ with_blocks o.order (state o m n before) (put o.order k (plus moment (state o m n before).config.block_duration) (state o m n before).blocks)
      → Performed o m n before after (Block moment k) Done
  performed_blocking e same =
      let s = state o m n before in
      record {
        answers = sym (ap done_or e);
        leaves = same ∙ sym (ap (λ a. cond (is_ok a) (with_blocks o.order s (put o.order k (plus moment s.config.block_duration) s.blocks)) s) e);
      }

-- a key that is entered stands where it stood, or in a place that was empty
pub one_filled : {K : Type 0} (ps qs : List (Option K)) (k : K) (p : ℕ) → (at ps p ≡ Some k) ⊎ ((at ps p ≡ None) × Absent ps k) → qs ≡ set ps p (Some k)
    → (qs ≡ ps) ⊎ ((q : ℕ) × (at ps q ≡ None) × (qs ≡ set ps q (Some k)))
one_filled ps qs k p (inl h) e = inl (e ∙ ap (set ps p) (sym h) ∙ set-get_or ps p None)
one_filled ps qs k p (inr h) e = inr (p, h.0, e)
