-- What ties a whole state to what a history says of every peer and of the sets held, and how writing one record keeps it.
use Rattle.std.proofs.Common.{◌≡◌, ℕ, ◌+◌, ◌^◌, ◌<◌, Bool, true, false, cond, not, List, Some, None, Ordering, sym, refl, ap, ◌∙◌, subst, ⊎_elim, arith}
use mathlib.Core.Path.{fun_ext}
use Rattle.std.specs.List.{AllByRecursion}
use Rattle.std.proofs.lemmas.Bool.{both_ways}
use Rattle.keys.specs.Order.{Lawful}
use Rattle.record.specs.Records.{is_myself, wanted, wanted_of}
use Rattle.record.specs.declared.address.Address.{Address}
use Rattle.record.specs.declared.address.Address.TheVariants.{Unknown, Myself, Bootstrapper, Discovered}
use Rattle.record.specs.declared.record.Record.{Record}
use Rattle.record.specs.declared.status.Status.{Status}
use Rattle.tables.specs.Listings.{lookup, put, cut, Ascending}
use Rattle.tables.proofs.Entries.{same_or_not, lookup-put_same, lookup-put_other, lookup-cut_same, lookup-cut_other, ascending-put, ascending-cut}
use Rattle.model.specs.Calls.{after_reserving, after_telling}
use Rattle.model.specs.Peers.{write, erase}
use Rattle.model.specs.State.{State}
use Rattle.laws.specs.History.{Held, Start, Act, Dialled, Listened, Connected, Released, Told, Other, one_more, is_reserving, is_releasing, primary_count, secondary_count, is_own}
use Rattle.laws.specs.Law.{bare}
use Rattle.laws.specs.Starts.{Proper}
use Rattle.laws.proofs.Marks.{Bits, bare-marked, bits_kept, bits-marked}
use Rattle.laws.proofs.Turns.{wanted-theirs}
use Rattle.laws.proofs.Values.{Values, Tied, lacking}

-- reserving is fair where nothing is open, and releasing where something is
abbrev pub Fair : {K : Type 0} → Act K → Bool → Type 0
Fair Dialled opened = opened ≡ false
Fair Listened opened = opened ≡ false
Fair Connected opened = Unit {0}
Fair Released opened = opened ≡ true
Fair (Told infos) opened = Unit {0}
Fair Other opened = Unit {0}

abbrev pub one_if : Bool → ℕ
one_if opened = cond opened 1 0

pub fair_balance : {K : Type 0} (a : Act K) (opened : Bool) (m n : ℕ) → Fair a opened → m ≡ n + one_if opened → one_more (is_reserving a) m ≡ one_more (is_releasing a) n + one_if (cond (is_reserving a) true (cond (is_releasing a) false opened))
fair_balance Dialled opened m n f e = let g : one_if opened ≡ 0 = ap one_if f in omega arith
fair_balance Listened opened m n f e = let g : one_if opened ≡ 0 = ap one_if f in omega arith
fair_balance Connected opened m n f e = e
fair_balance Released opened m n f e = let g : one_if opened ≡ 1 = ap one_if f in omega arith
fair_balance (Told infos) opened m n f e = e
fair_balance Other opened m n f e = e

module _ {K : Type 0} where
  never_wanted : (limit : ℕ) (address : Address K) (status : Status) → is_myself address ≡ true → wanted_of limit address status ≡ false
  never_wanted limit Unknown status e = absurd (both_ways false refl e)
  never_wanted limit (Myself info) status e = refl
  never_wanted limit (Bootstrapper ingress) status e = absurd (both_ways false refl e)
  never_wanted limit (Discovered info failures) status e = absurd (both_ways false refl e)

  -- a record is wanted exactly if the history says so
  pub wanted-tied : (limit : ℕ) (mine : Bool) (v : Values K) (r : Record K) → limit < 2 ^ 64 → Tied mine v (Some r) → wanted limit r ≡ lacking limit mine v
  wanted-tied limit true v r h t = never_wanted limit r.address r.status t.myself
  wanted-tied limit false v r h t = wanted-theirs limit v r h t

module _ {K : Type 0} (order : K → K → Ordering) (start : Start K) where
  -- whether information is wanted, by what a history says
  abbrev pub wants : (K → Values K) → K → Bool
  wants vals k = lacking start.config.dial_fail_limit (is_own order start k) (vals k)

  pub record Sound (vals : K → Values K) (sets : List (Held K)) (s : State K) : Type 0 where
    pub own_same : s.own ≡ start.own
    pub config_same : s.config ≡ start.config
    pub counted : start.config.dial_fail_limit < 2 ^ 64
    pub ordered : Ascending order s.records
    pub tied : (k : K) → Tied (is_own order start k) (vals k) (lookup order k s.records)
    pub primaries_so : (k : K) → (vals k).primary ≡ primary_count order k sets
    pub secondaries_so : (k : K) → (vals k).secondary ≡ secondary_count order k sets
    pub sets_so : bare s.sets ≡ sets
    pub proper : AllByRecursion (Proper order) sets
    pub bits : Bits order (wants vals) s.sets

  pub sound_same : (vals vals' : K → Values K) (sets : List (Held K)) (s : State K) → ((k : K) → vals' k ≡ vals k) → Sound vals sets s → Sound vals' sets s
  sound_same vals vals' sets s same h = subst (λ f. Sound f sets s) (sym (fun_ext same)) h

module _ {K : Type 0} (order : K → K → Ordering) (lawful : Lawful order) (start : Start K) where
  -- one key changes, in what the history says and in the records
  module _ (vals vals' : K → Values K) (sets : List (Held K)) (s : State K) (j : K) (others : (k : K) → (j ≡ k → ⊥) → vals' k ≡ vals k) (same-primary : (vals' j).primary ≡ (vals j).primary) (same_secondary : (vals' j).secondary ≡ (vals j).secondary) (h : Sound order start vals sets s) where
    at_others : (P : K → Values K → Type 0) → P j (vals' j) → ((k : K) → (j ≡ k → ⊥) → P k (vals k)) → (k : K) → P k (vals' k)
    at_others P here there k =
        ⊎_elim (λ p. subst (λ x. P x (vals' x)) p here) (λ n. subst (P k) (sym (others k n)) (there k n)) (same_or_not order lawful j k)

    primaries-still : (k : K) → (vals' k).primary ≡ primary_count order k sets
    primaries-still = at_others (λ k v. v.primary ≡ primary_count order k sets) (same-primary ∙ h.primaries_so j) (λ k n. h.primaries_so k)

    secondaries_still : (k : K) → (vals' k).secondary ≡ secondary_count order k sets
    secondaries_still = at_others (λ k v. v.secondary ≡ secondary_count order k sets) (same_secondary ∙ h.secondaries_so j) (λ k n. h.secondaries_so k)

    wants-others : (k : K) → (j ≡ k → ⊥) → wants order start vals' k ≡ wants order start vals k
    wants-others k n = ap (λ v. lacking start.config.dial_fail_limit (is_own order start k) v) (others k n)

    tied-put : (r : Record K) → Tied (is_own order start j) (vals' j) (Some r) → (k : K) → Tied (is_own order start k) (vals' k) (lookup order k (put order j r s.records))
    tied-put r t =
        at_others (λ k v. Tied (is_own order start k) v (lookup order k (put order j r s.records)))
        (subst (Tied (is_own order start j) (vals' j)) (sym (lookup-put_same order lawful j r s.records)) t)
        (λ k n. subst (Tied (is_own order start k) (vals k)) (sym (lookup-put_other order lawful j k r s.records n)) (h.tied k))

    tied-cut : Tied (is_own order start j) (vals' j) None → (k : K) → Tied (is_own order start k) (vals' k) (lookup order k (cut order j s.records))
    tied-cut t =
        at_others (λ k v. Tied (is_own order start k) v (lookup order k (cut order j s.records)))
        (subst (Tied (is_own order start j) (vals' j)) (sym (lookup-cut_same order lawful j s.records)) t)
        (λ k n. subst (Tied (is_own order start k) (vals k)) (sym (lookup-cut_other order lawful j k s.records n)) (h.tied k))

    -- a write that leaves as it is whether information is wanted
    pub sound-reserved : (r : Record K) → wants order start vals' j ≡ wants order start vals j → Tied (is_own order start j) (vals' j) (Some r) → Sound order start vals' sets (after_reserving order s j (write r))
    sound-reserved r w t =
        record {
          own_same = h.own_same;
          config_same = h.config_same;
          counted = h.counted;
          ordered = ascending-put order lawful j r s.records h.ordered;
          tied = tied-put r t;
          primaries_so = primaries-still;
          secondaries_so = secondaries_still;
          sets_so = h.sets_so;
          proper = h.proper;
          bits = bits_kept order lawful (wants order start vals) (wants order start vals') s.sets (λ k n. ⊎_elim (λ p. subst (λ x. wants order start vals' x ≡ wants order start vals x) p w) (wants-others k) (same_or_not order lawful j k)) h.bits;
        }

    -- a write that tells what is known of the peer
    pub sound-written : (r : Record K) → Tied (is_own order start j) (vals' j) (Some r) → Sound order start vals' sets (after_telling order s j (write r))
    sound-written r t =
        record {
          own_same = h.own_same;
          config_same = h.config_same;
          counted = h.counted;
          ordered = ascending-put order lawful j r s.records h.ordered;
          tied = tied-put r t;
          primaries_so = primaries-still;
          secondaries_so = secondaries_still;
          sets_so = bare-marked order j _ s.sets ∙ h.sets_so;
          proper = h.proper;
          bits = bits-marked order lawful (wants order start vals) (wants order start vals') j _ s.sets wants-others (λ n. ap not (right_bit r t)) h.bits;
        }
      where
        right_bit : (r : Record K) → Tied (is_own order start j) (vals' j) (Some r) → wanted s.config.dial_fail_limit r ≡ wants order start vals' j
        right_bit r t =
            ap (λ c. wanted c.dial_fail_limit r) h.config_same
            ∙ wanted-tied start.config.dial_fail_limit (is_own order start j) (vals' j) r h.counted t

    -- a record that goes
    pub sound_erased : (r : Record K) → Tied (is_own order start j) (vals' j) None → Sound order start vals' sets (after_telling order s j (erase r))
    sound_erased r t =
        record {
          own_same = h.own_same;
          config_same = h.config_same;
          counted = h.counted;
          ordered = ascending-cut order lawful j s.records h.ordered;
          tied = tied-cut t;
          primaries_so = primaries-still;
          secondaries_so = secondaries_still;
          sets_so = bare-marked order j _ s.sets ∙ h.sets_so;
          proper = h.proper;
          bits = bits-marked order lawful (wants order start vals) (wants order start vals') j _ s.sets wants-others (λ n. absurd (in_none n)) h.bits;
        }
      where
        no_sets : (mine : Bool) → Tied mine (vals' j) None → (vals' j).primary ≡ 0
        no_sets true g = absurd g
        no_sets false g = g.primary_none

        in_none : 0 < primary_count order j (bare s.sets) → ⊥
        in_none n =
            let a : primary_count order j (bare s.sets) ≡ 0 = ap (primary_count order j) h.sets_so ∙ sym (primaries-still j) ∙ no_sets (is_own order start j) t in
            omega arith
