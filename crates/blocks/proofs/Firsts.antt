-- The earliest expiry of a table, place by place.
use Rattle.std.proofs.Common.{◌≡◌, ℕ, ◌+◌, ◌<◌, ◌≤◌, min, cond, List, [], ◌∷◌, length, get_or, drop, Some, None, Option, Ordering, sym, refl, ap, ◌∙◌, ⊎_elim, arith}
use Rattle.std.proofs.lemmas.List.{drop_all, drop_more, get_or-drop}
use Rattle.std.proofs.lemmas.Bool.{cases_lt}
use Rattle.keys.specs.Order.{Lawful}
use Rattle.rolls.specs.Places.{at, Absent, Distinct}
use Rattle.rolls.proofs.Tables.{within}
use Rattle.types.specs.Times.{earliest}
use Rattle.types.specs.declared.moment.Moment.{Moment}
use Rattle.key_list.specs.Keys.{is_equal, put_by}
use Rattle.key_list.proofs.Walks.{same_some, some_none}
use Rattle.tables.specs.Listings.{lookup, put, listing}
use Rattle.tables.proofs.Entries.{Answer, below, same, above, answer, below_from_above, equal_itself}
use Rattle.tables.proofs.Listed.{some_value, lookup_absent, lookup-listing}
use Rattle.model.specs.Questions.{first_expiry}

-- in which order two moments are taken makes no difference
earliest-swap : (found : Option Moment) (a b : Moment) → earliest (Some (earliest found a)) b ≡ earliest (Some (earliest found b)) a
earliest-swap None a b = let e : min a.millis b.millis ≡ min b.millis a.millis = omega arith in ap (λ n. record { millis = n }) e
earliest-swap (Some f) a b =
    let e : min (min f.millis a.millis) b.millis ≡ min (min f.millis b.millis) a.millis = omega arith in ap (λ n. record { millis = n }) e

module _ {K : Type 0} (order : K → K → Ordering) (lawful : Lawful order) where
  -- one entry more, whose key is new
  first_put : (k : K) (v : Moment) (es : List (K × Moment)) (found : Option Moment) → lookup order k es ≡ None → first_expiry (put order k v es) found ≡ first_expiry es (Some (earliest found v))
  first_put k v [] found n = refl
  first_put k v (e ∷ es) found n = by (first_put k v es (Some (earliest found e.1))) (answer (order k e.0))
    where
      by : (lookup order k es ≡ None → first_expiry (put order k v es) (Some (earliest found e.1)) ≡ first_expiry es (Some (earliest (Some (earliest found e.1)) v)))
          → Answer (order k e.0) → first_expiry (put order k v (e ∷ es)) found ≡ first_expiry (e ∷ es) (Some (earliest found v))
      by rest (below h) = ap (λ o. first_expiry (put_by o (k, v) e es (put order k v es)) found) h
      by rest (same h) =
          some_none e.1
          (ap (λ x. lookup order x (e ∷ es)) (lawful.same k e.0 h) ∙ ap (λ t. cond t (Some e.1) (lookup order e.0 es)) (equal_itself order lawful e.0)) n
      by rest (above h) =
          ap (λ o. first_expiry (put_by o (k, v) e es (put order k v es)) found) h
          ∙ rest (sym (ap (λ t. cond t (Some e.1) (lookup order k es)) (ap is_equal (below_from_above order lawful k e.0 h))) ∙ n)
          ∙ ap (λ x. first_expiry es (Some x)) (earliest-swap found e.1 v)

  -- the place p of a table, and what is found from there on
  module _ (ps : List (Option K)) (vs : List Moment) (p : ℕ) (long : length vs ≡ length ps) where
    left_from : (v : Moment) → p < length ps → listing order (drop p ps) (drop p vs) ≡ listing order (at ps p ∷ drop (p + 1) ps) (get_or vs p v ∷ drop (p + 1) vs)
    left_from v inside =
        ap (λ qs. listing order qs (drop p vs)) (drop_more ps p None inside)
        ∙ ap (listing order (at ps p ∷ drop (p + 1) ps)) (drop_more vs p v (omega arith))

    pub first_empty : (found : Option Moment) → at ps p ≡ None → first_expiry (listing order (drop (p + 1) ps) (drop (p + 1) vs)) found ≡ first_expiry (listing order (drop p ps) (drop p vs)) found
    first_empty found e = ap (λ es. first_expiry es found) (⊎_elim inside past (cases_lt p (length ps)))
      where
        inside : p < length ps → listing order (drop (p + 1) ps) (drop (p + 1) vs) ≡ listing order (drop p ps) (drop p vs)
        inside h =
            let v = some_value vs (omega arith) in
            sym (left_from v h ∙ ap (λ o. listing order (o ∷ drop (p + 1) ps) (get_or vs p v ∷ drop (p + 1) vs)) e)

        past : length ps ≤ p → listing order (drop (p + 1) ps) (drop (p + 1) vs) ≡ listing order (drop p ps) (drop p vs)
        past h =
            ap (λ qs. listing order qs (drop (p + 1) vs)) (drop_all (p + 1) ps (omega arith)) ∙ sym (ap (λ qs. listing order qs (drop p vs)) (drop_all p ps h))

    module _ (distinct : Distinct ps) (k : K) (here : at ps p ≡ Some k) where
      absent_behind : Absent (drop (p + 1) ps) k
      absent_behind q e = let s = distinct (p + 1 + q) p k (sym (get_or-drop (p + 1) ps q None) ∙ e) here in omega arith

      pub first_more : (v : Moment) (found : Option Moment) → lookup order k (listing order ps vs) ≡ Some v → first_expiry (listing order (drop (p + 1) ps) (drop (p + 1) vs)) (Some (earliest found v)) ≡ first_expiry (listing order (drop p ps) (drop p vs)) found
      first_more v found l =
          let value : get_or vs p v ≡ v = same_some (sym (lookup-listing order lawful ps vs p k v long distinct here) ∙ l) in
          let rest = listing order (drop (p + 1) ps) (drop (p + 1) vs) in
          sym (first_put k v rest found (lookup_absent order lawful (drop (p + 1) ps) (drop (p + 1) vs) k absent_behind))
          ∙ sym
          (ap (λ es. first_expiry es found)
          (left_from v (within ps p k here)
          ∙ ap (λ o. listing order (o ∷ drop (p + 1) ps) (get_or vs p v ∷ drop (p + 1) vs)) here
          ∙ ap (λ w. put order k w rest) value))

  pub first_all : (ps : List (Option K)) (vs : List Moment) (p : ℕ) (found : Option Moment) → length ps ≤ p → first_expiry (listing order (drop p ps) (drop p vs)) found ≡ found
  first_all ps vs p found h = ap (λ qs. first_expiry (listing order qs (drop p vs)) found) (drop_all p ps h)
