-- What is known of the rank that bisection finds, and of the place of that rank.
use Rattle.std.proofs.Common.{◌≡◌, ℕ, ◌≤◌, Bool, true, false, List, length, Some, Option, sym, ap, ◌∙◌, refl, subst, ⊎_elim, arith}
use Rattle.std.specs.Bool.{then_some}
use Rattle.std.specs.List.Sorted.{IsPartitionedBy, IsPartitionPoint}
use Rattle.std.specs.declared.cmp.Ordering.{Ordering}
use Rattle.std.specs.declared.cmp.Ordering.TheVariants.{Less, Equal, Greater}
use Rattle.std.proofs.lemmas.Bool.{cases_lt}
use Rattle.std.proofs.lemmas.List.{get_or_default}
use Rattle.keys.specs.Order.{Lawful, is_equal}
use Rattle.rolls.specs.Places.{at, Found}
use Rattle.rolls.proofs.Tables.{within}
use Rattle.sorted_roll.specs.Ranks.{key_of, below, Ranked, Located}
use Rattle.sorted_roll.specs.Bisection.{before_middle, from_last, absent_unless}

module _ {K : Type 0} (order : K → K → Ordering) (lawful : Lawful order) (ps : List (Option K)) (rs : List ℕ) (room : ℕ) (sound : Ranked order ps rs room) (k : K) where
  -- the ranks whose keys are below the given one come first
  pub below_come_first : IsPartitionedBy (λ p. below order (at ps p) k) rs
  below_come_first i j d h l b =
      ap (λ p. below order (at ps p) k) (get_or_default rs i d (length ps) (omega arith))
      ∙ before_middle order lawful ps rs room sound k j (ap (λ p. below order (at ps p) k) (get_or_default rs j (length ps) d l) ∙ b) i (omega arith)

  -- the rank behind those is where the key stands or would stand
  pub located_behind : (r : ℕ) (is : List ℕ) → is ≡ rs → r ≤ length is
      → (IsPartitionedBy (λ p. below order (at ps p) k) is → IsPartitionPoint (λ p. below order (at ps p) k ≡ true) (λ p. below order (at ps p) k ≡ false) is r)
      → Located order ps rs k r
  located_behind r is e last behind =
      let parted = subst (IsPartitionedBy (λ p. below order (at ps p) k)) (sym e) below_come_first in
      let point = subst (λ xs. IsPartitionPoint (λ p. below order (at ps p) k ≡ true) (λ p. below order (at ps p) k ≡ false) xs r) e (behind parted) in
      record {
        last = subst (λ xs. r ≤ length xs) e last;
        before = λ i h. point.0 i (length ps) (omega arith) h;
        from = λ i h. ⊎_elim (λ l. point.1 i (length ps) h l) (λ l. from_last order lawful ps rs room sound k i l) (cases_lt i (length rs));
      }

  -- the place of the key's rank, if it has the key
  pub found_if_same : (r p : ℕ) (a : K) (same : Bool) (answer : Option ℕ) → Located order ps rs k r → key_of ps rs r ≡ at ps p → at ps p ≡ Some a → same ≡ is_equal (order a k) → answer ≡ then_some same p → Found ps k answer
  found_if_same r p a same answer located here held s e = subst (Found ps k) (sym (e ∙ ap (λ b. then_some b p) s)) (by (order a k) refl)
    where
      by : (o : Ordering) → order a k ≡ o → Found ps k (then_some (is_equal o) p)
      by Less l = absent_unless order lawful ps rs room sound k r located (λ b f q. cc)
      by Equal l = let there = held ∙ ap Some (lawful.same a k l) in (within ps p k there, there)
      by Greater l = absent_unless order lawful ps rs room sound k r located (λ b f q. cc)
