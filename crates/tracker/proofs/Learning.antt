-- Infos taken one after the other.
use Rattle.std.proofs.Common.{◌≡◌, ℕ, ◌+◌, ◌<◌, ◌≤◌, ◌&&◌, List, [], ◌∷◌, length, get_or, drop, Ordering, sym, refl, ap, ◌∙◌, arith}
use Rattle.std.specs.List.{list_all}
use Rattle.std.proofs.lemmas.List.{at_drop_more, drop_all}
use Rattle.keys.specs.declared.ordered_key.OrderedKey as ordered
use Rattle.rolls.specs.declared.roll.Roll as roll
use Rattle.types.specs.Ingresses.{host_well_formed}
use Rattle.types.specs.declared.info.Info.{Info}
use Rattle.model.specs.Calls.{all_well_formed, after_infos, taken}
use Rattle.tracker.specs.Directories.{state, LearntOne, LearntAll}
use Rattle.tracker.specs.declared.directory.Directory.{Directory}

-- what is left of a list that is walked
pub front : {X : Type 0} (xs : List X) (i : ℕ) (x : X) → i < length xs → x ≡ get_or xs i x → drop i xs ≡ x ∷ drop (i + 1) xs
front xs i x h e = at_drop_more (λ y. y) xs i x h ∙ ap (λ y. y ∷ drop (i + 1) xs) (sym e)

-- the test of each host, one after the other
pub all_formed : {K : Type 0} (order : K → K → Ordering) (infos : List (Info K)) → list_all (λ info. host_well_formed info.ingress) infos ≡ all_well_formed order infos
all_formed order [] = refl
all_formed order (info ∷ infos) = ap (λ b. host_well_formed info.ingress && b) (all_formed order infos)

module _ {K R B : Type 0} (o : ordered.Ghosts K) (m : roll.Ghosts R K) (n : roll.Ghosts B K) (before mid : Directory K R B) (infos : List (Info K)) (i count : ℕ)
    (all : LearntAll o m n before mid infos (drop i infos) count) where
  -- one info more
  pub learnt_more : (after : Directory K R B) (info : Info K) (one : ℕ) → i < length infos → info ≡ get_or infos i info → LearntOne o m n mid after info one
      → LearntAll o m n before after infos (drop (i + 1) infos) (count + one)
  learnt_more after info one h e next =
      let rest = drop (i + 1) infos in
      let split = front infos i info h e in
      let s = state o m n mid in
      let all-counts = ap (λ xs. count + taken o.order s xs) (sym split) ∙ all.counts in
      let same = ap (λ t. taken o.order t rest) next.leaves in
      record {
        counts = omega (arith, all-counts, same, next.counts);
        leaves = ap (λ t. after_infos o.order t rest) next.leaves ∙ sym (ap (after_infos o.order s) split) ∙ all.leaves;
        places = record { record_places = next.places.record_places ∙ all.places.record_places; block_places = next.places.block_places ∙ all.places.block_places };
      }

  -- none is left
  pub learnt_all : length infos ≤ i → LearntAll o m n before mid infos [] count
  learnt_all h =
      record {
        counts = ap (λ xs. count + taken o.order (state o m n mid) xs) (sym (drop_all i infos h)) ∙ all.counts;
        leaves = ap (after_infos o.order (state o m n mid)) (sym (drop_all i infos h)) ∙ all.leaves;
        places = all.places;
      }
