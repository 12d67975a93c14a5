-- Walks over the blocks: one place further, and when all have been passed.
use Rattle.std.proofs.Common.{◌≡◌, ℕ, ◌+◌, ◌<◌, ◌≤◌, Bool, true, false, not, ◌||◌, List, length, set, Some, None, Option, sym, refl, ap, ◌∙◌, ⊎_elim, arith}
use Rattle.std.proofs.lemmas.List.{length-set, get_or-set_same}
use Rattle.std.proofs.lemmas.Bool.{or_right}
use Rattle.keys.specs.Order.{Lawful}
use Rattle.keys.specs.declared.ordered_key.OrderedKey as ordered
use Rattle.rolls.specs.declared.roll.Roll as roll
use Rattle.rolls.specs.Places.{at}
use Rattle.rolls.proofs.Tables.{within, after-set}
use Rattle.types.specs.Times.{earlier, earliest}
use Rattle.types.specs.declared.moment.Moment.{Moment}
use Rattle.key_list.proofs.Walks.{some_none}
use Rattle.tables.specs.Listings.{lookup}
use Rattle.tables.specs.Stores.{Whole}
use Rattle.tables.specs.Tabled as table
use Rattle.tables.proofs.Listed.{some_value, placed, lookup_absent, lookup-listing}
use Rattle.tables.proofs.Walks.{ascending-entries}
use Rattle.model.specs.Calls.{unexpired, any_expired}
use Rattle.blocks.specs.Blocked.{places_of, expiries_of, Unblocked}
use Rattle.blocks.specs.Passed.{has_expired, Standing, LiftedBelow, first_from}
use Rattle.blocks.specs.declared.blocks.Blocks.{Blocks}
use Rattle.blocks.proofs.Firsts.{first_empty, first_more}
use Rattle.blocks.proofs.Expired.{some_expired, unexpired-cut, cut-unexpired, none_expired}

-- a key that is still there after a place was emptied stood there, and not at that place
still_there : {K : Type 0} (ps qs : List (Option K)) (place p : ℕ) (k j : K) → qs ≡ set ps place None → at ps place ≡ Some k → at qs p ≡ Some j → (at ps p ≡ Some j) × (p ≡ place → ⊥)
still_there ps qs place p k j e here there = (
  ⊎_elim (λ a. sym a ∙ now_there) (λ a. some_none j now_there a.1) (after-set ps place p None),
  λ s. some_none j now_there (ap (at (set ps place None)) s ∙ get_or-set_same ps place None None (within ps place k here)),
)
  where
    now_there : at (set ps place None) p ≡ Some j
    now_there = ap (λ xs. at xs p) (sym e) ∙ there

or_none : (x y : Bool) → y ≡ false → (x || y) ≡ x
or_none true y e = refl
or_none false y e = e

-- the earlier of what was found and an expiry, where there is one
abbrev pub sooner : Option Moment → Option Moment → Option Moment
sooner found None = found
sooner found (Some expiry) = Some (earliest found expiry)

module _ {K B : Type 0} (m : roll.Ghosts B K) (o : ordered.Ghosts K) (lawful : Lawful o.order) where
  -- a key that stands at a place has an expiry
  pub standing : (b : Blocks K B) (p : ℕ) (k : K) (r : Option Moment) → Whole (places_of m b) b.expiries.values → Some k ≡ at (places_of m b) p → r ≡ lookup o.order k (expiries_of m o b) → Standing m o b p r
  standing b p k None whole here e =
      let inside : p < length (places_of m b) = within (places_of m b) p k (sym here) in
      let long = whole.long in
      let d = some_value b.expiries.values (omega arith) in
      some_none _ (lookup-listing o.order lawful (places_of m b) b.expiries.values p k d long whole.proper.distinct (sym here)) (sym e)
  standing b p k (Some v) whole here e = (k, sym here, sym e)

  -- towards the earliest expiry: an empty place changes nothing, and the expiry at another is taken
  pub first_further : (b : Blocks K B) (p : ℕ) (found next r : Option Moment) → Whole (places_of m b) b.expiries.values → Standing m o b p r → next ≡ sooner found r → first_from m o b (p + 1) next ≡ first_from m o b p found
  first_further b p found next None whole stands e =
      ap (first_from m o b (p + 1)) e ∙ first_empty o.order lawful (places_of m b) b.expiries.values p whole.long found stands
  first_further b p found next (Some v) whole (k, here, value) e =
      ap (first_from m o b (p + 1)) e
      ∙ first_more o.order lawful (places_of m b) b.expiries.values p whole.long whole.proper.distinct k here v found value

  module _ (start b : Blocks K B) (moment : Moment) (place : ℕ) (any : Bool) (so_far : LiftedBelow m o start b moment place any) where
    -- the entry at the place has expired, and is removed
    pub lifted_gone : (after : Blocks K B) (r : Option Moment) (now : Bool) → Standing m o b place r → has_expired moment r ≡ now → now ≡ true → table.Removed m o b.expiries after.expiries place → LiftedBelow m o start after moment (place + 1) (any || now)
    lifted_gone after None now stands e h gone = cc
    lifted_gone after (Some v) now (k, here, found) e h gone =
        rw (or_right any now h) record {
          same_unexpired = ap (unexpired moment) (gone.now_entries k here) ∙ unexpired-cut moment o.order lawful es k v found expired (ascending-entries m o lawful b.expiries) ∙ so_far.same_unexpired;
          same_expired = sym (or_right any (any_expired moment es) (some_expired moment o.order lawful es k v found expired)) ∙ so_far.same_expired;
          none_below = below;
          emptied = (ap length gone.now_places ∙ length-set ps place None ∙ so_far.emptied.0, λ p j e. so_far.emptied.1 p j (stood p j e).0);
        }
      where
        expired : not (earlier moment v) ≡ true
        expired = e ∙ h

        es : List (K × Moment)
        es = expiries_of m o b

        ps : List (Option K)
        ps = places_of m b

        stood : (p : ℕ) (j : K) → at (places_of m after) p ≡ Some j → (at ps p ≡ Some j) × (p ≡ place → ⊥)
        stood p j e = still_there ps (places_of m after) place p k j gone.now_places here e

        below : (p : ℕ) (j : K) → p < place + 1 → at (places_of m after) p ≡ Some j → has_expired moment (lookup o.order j (expiries_of m o after)) ≡ false
        below p j h e =
            let s = stood p j e in
            let other = s.1 in
            let in-front : p < place = omega arith in
            ap (λ xs. has_expired moment (lookup o.order j xs)) (gone.now_entries k here)
            ∙ cut-unexpired moment o.order lawful es j k (so_far.none_below p j in-front s.0)

    -- no place is left
    pub lifted_all : length (places_of m b) ≤ place → Unblocked m o start b moment any
    lifted_all past =
        let ps = places_of m b in
        let none = none_expired moment o.order lawful (expiries_of m o b) (ascending-entries m o lawful b.expiries) stays in
        record {
          now_expiries = sym none.all_stay ∙ so_far.same_unexpired;
          is = sym (or_none any (any_expired moment (expiries_of m o b)) none.none) ∙ so_far.same_expired;
          emptied = so_far.emptied;
        }
      where
        stays : (k : K) → has_expired moment (lookup o.order k (expiries_of m o b)) ≡ false
        stays k =
            ⊎_elim
            (λ x. let inside = within (places_of m b) x.0 k x.1 in let h : x.0 < place = omega arith in so_far.none_below x.0 k h x.1)
            (λ a. ap (has_expired moment) (lookup_absent o.order lawful (places_of m b) b.expiries.values k a))
            (placed o.order lawful (places_of m b) k)
