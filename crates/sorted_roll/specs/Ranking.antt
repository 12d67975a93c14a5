-- The ranks after a key is entered, and after a place is struck.
use Rattle.std.specs.Prelude.{◌≡◌, ℕ, ◌+◌, ◌-◌, ◌<◌, ◌≤◌, ◌≢◌, ◌⊎◌, List, [], length, replicate, Some, None, Option, slice_index_or, slice_set, refl}
use Rattle.std.specs.declared.cmp.Ordering.TheVariants.{Less, Equal, Greater}
use Rattle.std.specs.declared.cmp.Ordering.{Ordering}
use Rattle.std.proofs.Math.Path.{sym, ap}
use Rattle.std.proofs.Common.{◌∙◌, subst, inl, inr, arith}
use Rattle.std.proofs.Math.Logic.{⊎_elim}
use Rattle.std.specs.List.{insert, remove}
use Rattle.std.proofs.lemmas.List.Edits.{length-insert, get_or-insert_below, get_or-insert_at, get_or-insert_above, length-remove, get_or-remove_below, get_or-remove_above}
use Rattle.std.proofs.lemmas.List.{get_or_past, get_or-set_same, get_or-set_other, length-set, length-replicate}
use Rattle.std.proofs.lemmas.Bool.{cases_lt, cases_order, both_ways}
use Rattle.keys.specs.Order.{Lawful, flipped}
use Rattle.rolls.specs.Places.{at, Absent, Proper}
use Rattle.rolls.proofs.Tables.{some_none, within, after-set, at-vacant, occupied-vacant, occupied_enter, occupied_strike}
use Rattle.sorted_roll.specs.Ranks.{place_of, key_of, Ranked, Located}
use Rattle.sorted_roll.specs.Bisection.{below_is, less_from_below, rank_of_key}

-- a new roll has no ranks
ranked-vacant : {K : Type 0} (order : K → K → Ordering) (n room : ℕ) → 1 ≤ n → n ≤ 64 → n ≤ room → Ranked order (replicate n None) [] room
ranked-vacant {K} order n room low high roomy =
    let long = length-replicate {A = Option K} n None in
    record {
      some = omega arith;
      few = omega arith;
      held = λ i h e. absurd (omega arith);
      ascends = λ i j a b h e f. some_none a e (at-vacant n (length (replicate {A = Option K} n None)));
      listed = λ p k e. some_none k e (at-vacant n p);
      counted = sym (occupied-vacant K n);
      roomy = omega arith;
    }

-- the same of lists that are known to be so
pub ranked_new : {K : Type 0} (order : K → K → Ordering) (ps : List (Option K)) (rs : List ℕ) (n room : ℕ) → ps ≡ replicate n None → rs ≡ [] → 1 ≤ n → n ≤ 64 → n ≤ room → Ranked order ps rs room
ranked_new order ps rs n room e f low high roomy =
    subst (λ x. Ranked order x rs room) (sym e) (subst (λ y. Ranked order (replicate n None) y room) (sym f) (ranked-vacant order n room low high roomy))

module _ {K : Type 0} (order : K → K → Ordering) (lawful : Lawful order) where
  -- no key is below itself
  not_itself : {X : Type 0} (k : K) → order k k ≡ Less → X
  not_itself k e = let f = lawful.itself k in let z : ◌≡◌ {A = ℕ} 0 1 = cc in absurd (omega arith)

  -- a key that is neither below another nor the same is above it
  above : (a b : K) → (order a b ≢ Less) → (a ≢ b) → order b a ≡ Less
  above a b not_less not_same = by (order a b) refl
    where
      by : (o : Ordering) → order a b ≡ o → order b a ≡ Less
      by Less e = absurd (not_less e)
      by Equal e = absurd (not_same (lawful.same a b e))
      by Greater e = lawful.flips a b ∙ ap flipped e

  module _ (ps : List (Option K)) (rs : List ℕ) (room : ℕ) (sound : Ranked order ps rs room) where
    -- no key is there twice, since keys ascend with the ranks
    pub ranked-proper : Proper ps
    ranked-proper =
        record {
          some = sound.some;
          few = sound.few;
          distinct =
              λ p q k e f.
              let i = sound.listed p k e in
              let j = sound.listed q k f in
              let at_i : key_of ps rs i.0 ≡ Some k = ap (at ps) i.2 ∙ e in
              let at_j : key_of ps rs j.0 ≡ Some k = ap (at ps) j.2 ∙ f in
              ⊎_elim
              (λ s. sym i.2 ∙ ap (place_of ps rs) s ∙ j.2)
              (⊎_elim (λ l. not_itself k (sound.ascends i.0 j.0 k k l at_i at_j)) (λ l. not_itself k (sound.ascends j.0 i.0 k k l at_j at_i)))
              (cases_order i.0 j.0);
        }

    module _ (k : K) (r : ℕ) (found : Located order ps rs k r) where
      -- a rank before r has a key below k
      before_less : (i : ℕ) (a : K) → i < r → key_of ps rs i ≡ Some a → order a k ≡ Less
      before_less i a h e = less_from_below order (key_of ps rs i) a k e (found.before i h)

      module _ (room' p : ℕ) (wider : room ≤ room') (in_ranks : r ≤ length rs) (absent : Absent ps k) (in_places : p < length ps) (empty : at ps p ≡ None) where
        ps' : List (Option K)
        ps' = slice_set ps p (Some k)

        rs' : List ℕ
        rs' = insert rs r p

        -- a rank from r on has a key above k
        from_above : (i : ℕ) (b : K) → r ≤ i → key_of ps rs i ≡ Some b → order k b ≡ Less
        from_above i b h e =
            above b k
            (λ l. both_ways _ (found.from i h) (below_is order (key_of ps rs i) b k e l))
            (λ s. absent (place_of ps rs i) (e ∙ ap Some s))

        -- no rank names the place that was empty
        other : (i : ℕ) → place_of ps rs i ≢ p
        other i e =
            ⊎_elim
            (λ h. sound.held i h (ap (at ps) e ∙ empty))
            (λ h. let d = get_or_past rs i (length ps) h in omega arith)
            (cases_lt i (length rs))

        kept : (i : ℕ) (q : ℕ) → q ≡ place_of ps rs i → at ps' q ≡ key_of ps rs i
        unfolding ps'
        kept i q e = ap (at (slice_set ps p (Some k))) e ∙ get_or-set_other ps p (place_of ps rs i) (Some k) None (other i)

        key_before : (i : ℕ) → i < r → key_of ps' rs' i ≡ key_of ps rs i
        unfolding ps' rs'
        key_before i h = kept i _ (ap (slice_index_or (insert rs r p) i) (length-set ps p (Some k)) ∙ get_or-insert_below rs r p (length ps) i h in_ranks)

        key_here : key_of ps' rs' r ≡ Some k
        unfolding ps' rs'
        key_here = ap (at (slice_set ps p (Some k))) (get_or-insert_at rs r p (length (slice_set ps p (Some k))) in_ranks) ∙ get_or-set_same ps p (Some k) None in_places

        key_after : (i : ℕ) → r ≤ i → key_of ps' rs' (i + 1) ≡ key_of ps rs i
        unfolding ps' rs'
        key_after i h = kept i _ (ap (slice_index_or (insert rs r p) (i + 1)) (length-set ps p (Some k)) ∙ get_or-insert_above rs r p (length ps) i h in_ranks)

        -- what a rank has after the key is entered
        entered_key : (i : ℕ) → ((i < r) × (key_of ps' rs' i ≡ key_of ps rs i)) ⊎ (((i ≡ r) × (key_of ps' rs' i ≡ Some k)) ⊎ ((r < i) × (key_of ps' rs' i ≡ key_of ps rs (i - 1))))
        entered_key i =
            ⊎_elim
            (λ e. inr (inl (e, ap (key_of ps' rs') e ∙ key_here)))
            (⊎_elim
            (λ l. inl (l, key_before i l))
            (λ g. let n : i ≡ i - 1 + 1 = omega arith in inr (inr (g, ap (key_of ps' rs') n ∙ key_after (i - 1) (omega arith)))))
            (cases_order i r)

        entered-ascends : (i j : ℕ) (a b : K) → i < j → key_of ps' rs' i ≡ Some a → key_of ps' rs' j ≡ Some b → order a b ≡ Less
        entered-ascends i j a b h e f =
            ⊎_elim
            (λ x. ⊎_elim
            (λ y. sound.ascends i j a b h (sym x.1 ∙ e) (sym y.1 ∙ f))
            (⊎_elim
            (λ y. let s : Some k ≡ Some b = sym y.1 ∙ f in let t : k ≡ b = cc in ap (order a) (sym t) ∙ before_less i a x.0 (sym x.1 ∙ e))
            (λ y. sound.ascends i (j - 1) a b (omega arith) (sym x.1 ∙ e) (sym y.1 ∙ f)))
            (entered_key j))
            (⊎_elim
            (λ x. let s : Some k ≡ Some a = sym x.1 ∙ e in let t : k ≡ a = cc in
            ⊎_elim
            (λ y. absurd (omega arith))
            (⊎_elim (λ y. absurd (omega arith)) (λ y. ap (λ z. order z b) (sym t) ∙ from_above (j - 1) b (omega arith) (sym y.1 ∙ f)))
            (entered_key j))
            (λ x. ⊎_elim
            (λ y. absurd (omega arith))
            (⊎_elim (λ y. absurd (omega arith)) (λ y. sound.ascends (i - 1) (j - 1) a b (omega arith) (sym x.1 ∙ e) (sym y.1 ∙ f)))
            (entered_key j)))
            (entered_key i)

        long : length rs' ≡ length rs + 1
        unfolding rs'
        long = length-insert rs r p in_ranks

        entered-held : (i : ℕ) → i < length rs' → key_of ps' rs' i ≢ None
        entered-held i h n =
            ⊎_elim
            (λ x. sound.held i (omega arith) (sym x.1 ∙ n))
            (⊎_elim (λ x. some_none k x.1 n) (λ x. sound.held (i - 1) (omega (arith, long)) (sym x.1 ∙ n)))
            (entered_key i)

        entered-listed : (q : ℕ) (j : K) → at ps' q ≡ Some j → (i : ℕ) × (i < length rs') × (place_of ps' rs' i ≡ q)
        unfolding ps' rs'
        entered-listed q j e =
            ⊎_elim
            (λ a.
            let l = sound.listed q j (sym a ∙ e) in
            let i = l.0 in
            ⊎_elim
            (λ h. (i, omega (arith, long), ap (slice_index_or (insert rs r p) i) (length-set ps p (Some k)) ∙ get_or-insert_below rs r p (length ps) i h in_ranks ∙ l.2))
            (λ h. (i + 1, omega (arith, long), ap (slice_index_or (insert rs r p) (i + 1)) (length-set ps p (Some k)) ∙ get_or-insert_above rs r p (length ps) i h in_ranks ∙ l.2))
            (cases_lt i r))
            (λ a. (r, omega (arith, long), get_or-insert_at rs r p (length (slice_set ps p (Some k))) in_ranks ∙ sym a.0))
            (after-set ps p q (Some k))

        ranked_inserted : Ranked order (slice_set ps p (Some k)) (insert rs r p) room'
        unfolding ps' rs'
        ranked_inserted =
            let n = length-set ps p (Some k) in
            record {
              some = omega (arith, sound.some);
              few = omega (arith, sound.few);
              held = entered-held;
              ascends = entered-ascends;
              listed = entered-listed;
              counted = omega (arith, long, occupied_enter ps p k in_places empty, sound.counted);
              roomy = omega (arith, sound.roomy);
            }

        pub ranked_enter : (qs : List ℕ) → qs ≡ insert rs r p → Ranked order (slice_set ps p (Some k)) qs room'
        ranked_enter qs e = subst (λ xs. Ranked order (slice_set ps p (Some k)) xs room') (sym e) ranked_inserted

      module _ (p : ℕ) (here : at ps p ≡ Some k) where
        pub at_rank : (r < length rs) × (place_of ps rs r ≡ p)
        at_rank = rank_of_key order lawful ps rs room sound k r found p here

        -- no other rank names the place
        another : (i : ℕ) → i ≢ r → place_of ps rs i ≢ p
        another i n e =
            let in_places = within ps p k here in
            let at_r : key_of ps rs r ≡ Some k = ap (at ps) at_rank.1 ∙ here in
            let at_i : key_of ps rs i ≡ Some k = ap (at ps) e ∙ here in
            ⊎_elim
            (λ s. n s)
            (⊎_elim (λ l. not_itself k (sound.ascends i r k k l at_i at_r)) (λ g. not_itself k (sound.ascends r i k k g at_r at_i)))
            (cases_order i r)

        left : (i : ℕ) (q : ℕ) → i ≢ r → q ≡ place_of ps rs i → at (slice_set ps p None) q ≡ key_of ps rs i
        left i q n e = ap (at (slice_set ps p None)) e ∙ get_or-set_other ps p (place_of ps rs i) None None (another i n)

        -- what a rank has after the place is struck
        struck_key : (i : ℕ) → ((i < r) × (key_of (slice_set ps p None) (remove rs r) i ≡ key_of ps rs i)) ⊎ ((r ≤ i) × (key_of (slice_set ps p None) (remove rs r) i ≡ key_of ps rs (i + 1)))
        struck_key i =
            ⊎_elim
            (λ l. inl (l, left i _ (omega arith) (ap (slice_index_or (remove rs r) i) (length-set ps p None) ∙ get_or-remove_below rs r (length ps) i l at_rank.0)))
            (λ g. inr (g, left (i + 1) _ (omega arith) (ap (slice_index_or (remove rs r) i) (length-set ps p None) ∙ get_or-remove_above rs r (length ps) i g at_rank.0)))
            (cases_lt i r)

        shorter : length (remove rs r) + 1 ≡ length rs
        shorter = length-remove rs r at_rank.0

        struck_ascends : (i j : ℕ) (a b : K) → i < j → key_of (slice_set ps p None) (remove rs r) i ≡ Some a → key_of (slice_set ps p None) (remove rs r) j ≡ Some b → order a b ≡ Less
        struck_ascends i j a b h e f =
            ⊎_elim
            (λ x. ⊎_elim
            (λ y. sound.ascends i j a b h (sym x.1 ∙ e) (sym y.1 ∙ f))
            (λ y. sound.ascends i (j + 1) a b (omega arith) (sym x.1 ∙ e) (sym y.1 ∙ f))
            (struck_key j))
            (λ x. ⊎_elim
            (λ y. absurd (omega arith))
            (λ y. sound.ascends (i + 1) (j + 1) a b (omega arith) (sym x.1 ∙ e) (sym y.1 ∙ f))
            (struck_key j))
            (struck_key i)

        struck_listed : (q : ℕ) (j : K) → at (slice_set ps p None) q ≡ Some j → (i : ℕ) × (i < length (remove rs r)) × (place_of (slice_set ps p None) (remove rs r) i ≡ q)
        struck_listed q j e =
            ⊎_elim
            (λ a.
            let l = sound.listed q j (sym a ∙ e) in
            let i = l.0 in
            let apart : q ≢ p = λ s. some_none j e (ap (at (slice_set ps p None)) s ∙ get_or-set_same ps p None None (within ps p k here)) in
            ⊎_elim
            (λ s. absurd (apart (sym l.2 ∙ ap (place_of ps rs) s ∙ at_rank.1)))
            (⊎_elim
            (λ h. (i, omega (arith, shorter, at_rank.0), ap (slice_index_or (remove rs r) i) (length-set ps p None) ∙ get_or-remove_below rs r (length ps) i h at_rank.0 ∙ l.2))
            (λ h. let n : i ≡ i - 1 + 1 = omega arith in
            (i - 1, omega (arith, shorter, l.1), ap (slice_index_or (remove rs r) (i - 1)) (length-set ps p None) ∙ get_or-remove_above rs r (length ps) (i - 1) (omega arith) at_rank.0 ∙ ap (place_of ps rs) (sym n) ∙ l.2)))
            (cases_order i r))
            (λ a. some_none j e a.1)
            (after-set ps p q None)

        ranked_removed : Ranked order (slice_set ps p None) (remove rs r) room
        ranked_removed =
            let n = length-set ps p None in
            record {
              some = omega (arith, sound.some);
              few = omega (arith, sound.few);
              held =
                  λ i h e. ⊎_elim (λ x. sound.held i (omega (arith, shorter)) (sym x.1 ∙ e)) (λ x. sound.held (i + 1) (omega (arith, shorter)) (sym x.1 ∙ e)) (struck_key i);
              ascends = struck_ascends;
              listed = struck_listed;
              counted = omega (arith, shorter, occupied_strike ps p k here, sound.counted);
              roomy = omega (arith, sound.roomy);
            }

        pub ranked_strike : (qs : List ℕ) (room' : ℕ) → qs ≡ remove rs r → room' ≡ room → Ranked order (slice_set ps p None) qs room'
        ranked_strike qs room' e f =
            subst (λ xs. Ranked order (slice_set ps p None) xs room') (sym e) (subst (λ n. Ranked order (slice_set ps p None) (remove rs r) n) (sym f) ranked_removed)
