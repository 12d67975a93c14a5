-- Members of a new set: whether there is room for their records, and the records once they have joined.
use Rattle.std.proofs.Common.{◌≡◌, ℕ, ◌+◌, ◌-◌, ◌≤◌, true, false, leb, ◌⊎◌, List, ◌++◌, length, set, Some, None, Option, Ordering, sym, ap, ◌∙◌, inl, inr, ⊎_elim, arith}
use Rattle.std.proofs.lemmas.List.{length-set}
use Rattle.std.proofs.lemmas.Bool.{leb-true, leb-false, le-leb, lt-leb, cases_Bool}
use Rattle.keys.specs.Order.{Lawful, ascending}
use Rattle.rolls.specs.Places.{at}
use Rattle.rolls.proofs.Tables.{after-set, some_none}
use Rattle.record.specs.declared.record.Record.{Record}
use Rattle.key_list.specs.Keys.{has}
use Rattle.tables.specs.Listings.{Ascending}
use Rattle.model.specs.Track.{newcomers, each}
use Rattle.records.specs.Kept.{Emptied}
use Rattle.joining.proofs.Joining.{ascending_each}
use Rattle.joining.proofs.Rooms.{newcomers-append, newcomers_each, length_each, length_each_le}

-- there is room for as many as are free
pub fits-free : (a b all used places : ℕ) → all ≡ a + b → used ≤ places → leb (a + b) (places - used) ≡ leb (used + all) places
fits-free a b all used places e h =
    ⊎_elim
    (λ t. t ∙ sym (le-leb (used + all) places (omega (arith, leb-true (a + b) (places - used) t, e, h))))
    (λ f. f ∙ sym (lt-leb (used + all) places (omega (arith, leb-false (a + b) (places - used) f, e, h))))
    (cases_Bool (leb (a + b) (places - used)))

module _ {K : Type 0} (order : K → K → Ordering) (lawful : Lawful order) (p q : List K) (records : List (K × Record K))
    (p-ascends : ascending order p ≡ true) (q-ascends : ascending order q ≡ true) (apart : (k : K) → has order k p ≡ true → has order k q ≡ false)
    (ordered : Ascending order records) (up down : Record K → Record K) where
  length_both : length (each order down q (each order up p records)) ≡ length records + newcomers order (p ++ q) records
  length_both =
      let second = length_each order lawful down q (each order up p records) q-ascends (ascending_each order lawful up p records ordered) in
      let first = length_each order lawful up p records p-ascends ordered in
      let same = newcomers_each order lawful up p q records apart in
      let all = newcomers-append order p q records in
      omega (arith, second, first, same, all)

  -- room for all members is room for the primaries, and then for the secondaries
  pub room_first : (places : ℕ) → leb (length records + newcomers order (p ++ q) records) places ≡ true → length (each order up p records) ≤ places
  room_first places h =
      omega (arith, length_both, length_each_le order lawful down q (each order up p records), leb-true (length records + newcomers order (p ++ q) records) places h)

  pub room_both : (places : ℕ) → leb (length records + newcomers order (p ++ q) records) places ≡ true → length (each order down q (each order up p records)) ≤ places
  room_both places h = omega (arith, length_both, leb-true (length records + newcomers order (p ++ q) records) places h)

-- a place that is emptied, and no other
pub emptied_to : {K : Type 0} (ps qs : List (Option K)) (p : ℕ) → qs ≡ set ps p None → Emptied ps qs
emptied_to {K = K} ps qs p e = (ap length e ∙ length-set ps p None, λ q k h. by q k (ap (λ xs. at xs q) (sym e) ∙ h) (after-set ps p q None))
  where
    by : (q : ℕ) (k : K) → at (set ps p None) q ≡ Some k → (at (set ps p None) q ≡ at ps q) ⊎ ((q ≡ p) × (at (set ps p None) q ≡ None)) → at ps q ≡ Some k
    by q k e (inl h) = sym h ∙ e
    by q k e (inr h) = some_none k e h.1
