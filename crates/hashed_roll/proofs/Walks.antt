-- Walks round the slots, slot by slot from a key's home.
use Rattle.std.proofs.Common.{◌≡◌, ℕ, ◌+◌, ◌-◌, ◌<◌, ◌≤◌, true, false, List, ◌++◌, length, get_or, Some, None, Option, sym, ap, subst, ◌∙◌, ⊎_elim, arith}
use Rattle.std.proofs.lemmas.List.{length-map, length-append, get_or_append_left, get_or-append_right}
use Rattle.std.proofs.lemmas.List.FromFn.{length-range_with_len, get_or-range_with_len}
use Rattle.std.proofs.lemmas.Bool.{cases_order, cases_lt}
use Rattle.std.proofs.lemmas.Bool.Decides.{nat_tests}
use Rattle.std.specs.List.{range_with_len, AllWithin, HoldsAt}
use Rattle.std.specs.Option.{MatchOption}
use Rattle.keys.specs.Orders.{never}
use Rattle.rolls.specs.Places.{Absent, Found}
use Rattle.hashed_roll.specs.Slots.{place_of, places_of, slot_at, is_empty, is_unused}
use Rattle.hashed_roll.specs.Probing.{around, home_of, from_home, Reached, Sound, Vacancy}
use Rattle.hashed_roll.specs.declared.slot.Slot.{Slot}
use Rattle.hashed_roll.specs.declared.slot.Slot.TheVariants.{Held}
use Rattle.hashed_roll.specs.Tables.{held_at, some_at, empty-at, full_at}

-- a lookup goes on past a slot that was used, unless the key stands there
abbrev pub Other : {K : Type 0} → K → Slot K → Type 0
Other k s = (is_unused s ≡ false) × (s ≡ Held k → ⊥)

-- a walk that has passed so many slots and stands at the next
pub record Walk {K : Type 0} (hashed : K → ℕ) (slots : List (Slot K)) (k : K) (place seen : ℕ) : Type 0 where
  pub few : seen ≤ length slots
  pub stands : 0 < length slots → place ≡ from_home hashed (length slots) k seen
  pub passed : (d : ℕ) → d < seen → Other k (slot_at slots (from_home hashed (length slots) k d))

around-within : (size first distance : ℕ) → first < size → distance < size → around size first distance < size
around-within size first distance l m = grind (arith, nat_tests)

-- a walk round meets every slot
around_meets : (size first p : ℕ) → first < size → p < size → (d : ℕ) × (d < size) × (p ≡ around size first d)
around_meets size first p l m =
    ⊎_elim
    (λ b. (p + size - first, omega arith, grind (arith, nat_tests)))
    (λ a. (p - first, omega arith, grind (arith, nat_tests)))
    (cases_lt p first)

-- the numbers of so many slots, on the way round from a first one
abbrev pub way_round : ℕ → ℕ → List ℕ
way_round size first = range_with_len first (size - first) ++ range_with_len 0 first

length-way_round : (size first : ℕ) → first ≤ size → length (way_round size first) ≡ size
length-way_round size first h = simp (length-append, length-range_with_len) (omega arith)

around-before_end : (size first d : ℕ) → d < size - first → first + d ≡ around size first d
around-before_end size first d h = grind (arith, nat_tests)

around-past_end : (size first d : ℕ) → first ≤ size → size - first ≤ d → 0 + (d - (size - first)) ≡ around size first d
around-past_end size first d l h = grind (arith, nat_tests)

get_or-way_round : (size first d e : ℕ) → first < size → d < size → get_or (way_round size first) d e ≡ around size first d
get_or-way_round size first d e l m =
    let n = length-range_with_len first (size - first) in
    ⊎_elim
    (λ b. get_or_append_left (range_with_len first (size - first)) (range_with_len 0 first) e d (omega arith) ∙ get_or-range_with_len first (size - first) d e b ∙ around-before_end size first d b)
    (λ a. get_or-append_right (range_with_len first (size - first)) (range_with_len 0 first) (size - first) d e n a ∙ get_or-range_with_len 0 first (d - (size - first)) e (omega arith) ∙ around-past_end size first d (omega arith) a)
    (cases_lt d (size - first))

module _ {K : Type 0} where
  module _ (hashed : K → ℕ) (slots : List (Slot K)) (k : K) (place seen : ℕ) (w : Walk hashed slots k place seen) where
    pub found_there : seen < length slots → (s : Slot K) → s ≡ slot_at slots place → s ≡ Held k → Found (places_of slots) k (Some place)
    found_there more s there e = (
      omega (arith, w.stands (omega arith), around-within (length slots) (home_of hashed (length slots) k) seen (omega arith) more, length-map slots place_of),
      some_at slots place k (sym there ∙ e),
    )

  module _ (hashed : K → ℕ) (slots : List (Slot K)) (k : K) (place seen : ℕ) (w : Walk hashed slots k place seen) (sound : Sound hashed slots) where
    -- a key is not where a lookup passed, since each slot there was seen
    not-passed : (p : ℕ) (r : Reached hashed (length slots) slots k p) → slot_at slots p ≡ Held k → r.distance < seen → ⊥
    not-passed p r e l = (w.passed r.distance l).1 (sym (ap (λ x. slot_at slots x) r.there) ∙ e)

    -- all slots were passed
    pub absent_all : length slots ≤ seen → Absent (places_of slots) k
    absent_all all p e =
        let h = held_at slots p k e in
        let r = sound.reached p k h in
        not-passed p r h (omega (arith, r.near))

    -- the lookup met an unused slot
    pub absent_unused : seen < length slots → is_unused (slot_at slots place) ≡ true → Absent (places_of slots) k
    absent_unused more u p e =
        let h = held_at slots p k e in
        let r = sound.reached p k h in
        let there : place ≡ from_home hashed (length slots) k seen = w.stands (omega arith) in
        ⊎_elim
        (λ s. let t : slot_at slots place ≡ Held k = ap (λ x. slot_at slots x) (there ∙ ap (λ d. from_home hashed (length slots) k d) (sym s) ∙ sym r.there) ∙ h in never (let z = ap is_unused t in cc))
        (⊎_elim (λ b. not-passed p r h b) (λ a. let z = r.used seen a in let y = ap (λ x. is_unused (slot_at slots x)) there in never (cc)))
        (cases_order r.distance seen)

  -- what `find` answers of the way round so many slots, where it looks for an empty one
  abbrev pub FirstOnTheWay : List (Slot K) → List ℕ → Option ℕ → Type 0
  FirstOnTheWay slots way r =
      MatchOption r
      (AllWithin (λ p. is_empty (slot_at slots p) ≡ false) way 0 (length way))
      (λ p. (is_empty (slot_at slots p) ≡ true) × (d : ℕ) × (d < length way) × HoldsAt (λ q. q ≡ p) way d × AllWithin (λ q. is_empty (slot_at slots q) ≡ false) way 0 d)

  module _ (hashed : K → ℕ) (slots : List (Slot K)) (k : K) (size first : ℕ) (all : size ≡ length slots) (named : 0 < size → first ≡ home_of hashed size k) (none : size ≡ 0 → first ≡ 0) where
    first_within : first ≤ size
    first_within = ⊎_elim (λ s. omega (arith, named s)) (λ n. omega (arith, none (omega arith))) (cases_lt 0 size)

    at_distance : (d : ℕ) → d < size → get_or (way_round size first) d 0 ≡ from_home hashed (length slots) k d
    at_distance d l =
        let home = named (omega arith) in
        subst (λ m. get_or (way_round size first) d 0 ≡ from_home hashed m k d) all (get_or-way_round size first d 0 (omega arith) l ∙ ap (λ f. around size f d) home)

    pub vacancy_on_the_way : (r : Option ℕ) → FirstOnTheWay slots (way_round size first) r → Vacancy hashed slots k r
    vacancy_on_the_way None full =
        λ p l e.
        let n = length-map slots place_of in
        let m = around_meets (length slots) (home_of hashed (length slots) k) p (omega arith) (omega arith) in
        let there = m.2 ∙ sym (at_distance m.0 (omega (arith, m.1))) in
        full_at slots p (ap (λ q. is_empty (slot_at slots q)) there ∙ full m.0 0 (omega arith) (omega (arith, length-way_round size first first_within, m.1))) e
    vacancy_on_the_way (Some p) found =
        let d = found.1 in
        let n = length-map slots place_of in
        let near : d < length slots = omega (arith, found.2, length-way_round size first first_within) in
        let there = sym (found.3 0) ∙ at_distance d (omega arith) in
        record {
          within = omega (arith, around-within (length slots) (home_of hashed (length slots) k) d (omega arith) near);
          empty = empty-at slots p found.0;
          distance = d;
          near = near;
          there = there;
          first = λ c l. ap (λ q. is_empty (slot_at slots q)) (sym (at_distance c (omega arith))) ∙ found.4 c 0 (omega arith) l;
        }
