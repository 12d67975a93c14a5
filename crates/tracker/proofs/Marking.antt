-- The bits of a new set, set one after the other.
use Rattle.std.proofs.Common.{◌≡◌, ℕ, zero, suc, ◌+◌, ◌≤◌, Bool, not, List, [], ◌∷◌, ◌++◌, length, take, drop, Some, Ordering, sym, refl, ap, ◌∙◌, add-one, arith}
use Rattle.std.specs.List.{slice_get}
use Rattle.std.proofs.lemmas.List.{append-nil, drop_all, take_all}
use Rattle.record.specs.Records.{wanted}
use Rattle.record.specs.declared.record.Record.{Record}
use Rattle.key_list.proofs.Walks.{same_some, some_none}
use Rattle.bit_set.specs.Members.{with_second}
use Rattle.peer_sets.proofs.Marks.{length-primaries}
use Rattle.model.specs.Sets.{primaries}
use Rattle.model.specs.Track.{known, with_bits}

module _ {K : Type 0} (order : K → K → Ordering) (limit : ℕ) (records : List (K × Record K)) where
  mark_next : (ms : List (K × Bool)) (i : ℕ) (k : K) → slice_get (primaries ms) i ≡ Some k
      → with_second (with_bits order limit records (take i (primaries ms)) ++ drop i ms) i (not (wanted limit (known order records k)))
      ≡ with_bits order limit records (take (suc i) (primaries ms)) ++ drop (suc i) ms
  mark_next [] i k e = some_none k e refl
  mark_next (m ∷ ms) zero k e = ap (λ x. (m.0, not (wanted limit (known order records x))) ∷ ms) (sym (same_some e))
  mark_next (m ∷ ms) (suc i) k e = ap (λ xs. (m.0, not (wanted limit (known order records m.0))) ∷ xs) (mark_next ms i k e)

  pub mark_one : (ms now-ms : List (K × Bool)) (i : ℕ) (k : K) (bit : Bool) → now-ms ≡ with_bits order limit records (take i (primaries ms)) ++ drop i ms
      → slice_get (primaries ms) i ≡ Some k → bit ≡ not (wanted limit (known order records k))
      → with_second now-ms i bit ≡ with_bits order limit records (take (i + 1) (primaries ms)) ++ drop (i + 1) ms
  mark_one ms now-ms i k bit e at_i b =
      ap (λ xs. with_second xs i bit) e
      ∙ ap (with_second (with_bits order limit records (take i (primaries ms)) ++ drop i ms) i) b
      ∙ mark_next ms i k at_i
      ∙ ap (λ j. with_bits order limit records (take j (primaries ms)) ++ drop j ms) (sym (add-one i))

  pub mark_all : (ms now-ms : List (K × Bool)) (i : ℕ) → length ms ≤ i → now-ms ≡ with_bits order limit records (take i (primaries ms)) ++ drop i ms
      → now-ms ≡ with_bits order limit records (primaries ms)
  mark_all ms now-ms i h e =
      e
      ∙ ap (λ xs. with_bits order limit records (take i (primaries ms)) ++ xs) (drop_all i ms h)
      ∙ append-nil (with_bits order limit records (take i (primaries ms)))
      ∙ ap (with_bits order limit records) (take_all i (primaries ms) (omega (arith, length-primaries ms, h)))
