-- Entries of keys that stand at places.
use Rattle.std.proofs.Common.{◌≡◌, ℕ, zero, suc, ◌<◌, List, [], ◌∷◌, length, Some, None, Option, Ordering, get_or, sym, refl, ap, ◌∙◌, arith}
use Rattle.keys.specs.Order.{Lawful}
use Rattle.rolls.specs.Places.{at, Absent, Distinct, NoneEmpty}
use Rattle.rolls.proofs.Tables.{within}
use Rattle.tables.specs.Listings.{lookup, listing}
use Rattle.tables.proofs.Entries.{length-put_new}
use Rattle.tables.proofs.Listed.{some_value, lookup-listing, lookup_absent}

module _ {K V : Type 0} (order : K → K → Ordering) (lawful : Lawful order) where
  -- a key that stands at a place has an entry
  pub recorded : (ps : List (Option K)) (vs : List V) (p : ℕ) (k : K) → length vs ≡ length ps → Distinct ps → at ps p ≡ Some k → lookup order k (listing order ps vs) ≡ None → ⊥
  recorded ps vs p k long distinct e none =
      let inside : p < length ps = within ps p k e in
      let d : V = some_value vs (omega arith) in
      let both : Some (get_or vs p d) ≡ None = sym (lookup-listing order lawful ps vs p k d long distinct e) ∙ none in
      cc

  -- where no place is empty there are as many entries as places
  pub full-listing : (ps : List (Option K)) (vs : List V) → length vs ≡ length ps → Distinct ps → NoneEmpty ps → length (listing order ps vs) ≡ length ps
  full-listing [] vs long distinct full = refl
  full-listing (o ∷ ps) [] long distinct full = absurd (omega arith)
  full-listing (None ∷ ps) (v ∷ vs) long distinct full = absurd (full zero (omega arith) refl)
  full-listing (Some k ∷ ps) (v ∷ vs) long distinct full =
      length-put_new order lawful k v (listing order ps vs) (lookup_absent order lawful ps vs k later)
      ∙ ap suc (full-listing ps vs (omega arith) (λ p q j e f. let s = distinct (suc p) (suc q) j e f in omega arith) (λ p h. full (suc p) (omega arith)))
    where
      later : Absent ps k
      later p e = let s = distinct zero (suc p) k refl e in omega arith
