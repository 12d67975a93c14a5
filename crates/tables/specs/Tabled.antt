-- What a table means: the keys of its roll with the values that stand at their places, as an ascending list.
use Rattle.std.specs.Prelude.{◌≡◌, ℕ, ◌<◌, Bool, true, false, ◌⊎◌, List, [], ◌∷◌, length, Some, None, Ok, Err, Option, Result, slice_set}
use Rattle.keys.specs.declared.ordered_key.OrderedKey as ordered
use Rattle.rolls.specs.declared.roll.Roll as roll
use Rattle.rolls.specs.Places.{at, Absent, NoneEmpty}
use Rattle.rolls.specs.declared.fault.RollFault.{RollFault}
use Rattle.rolls.specs.declared.fault.RollFault.TheVariants.{Full}
use Rattle.tables.specs.Listings.{put, cut, listing}
use Rattle.tables.specs.declared.table.Table.{Table}

-- whether every place is empty
abbrev pub vacant : {K : Type 0} → List (Option K) → Bool
vacant [] = true
vacant (None ∷ places) = vacant places
vacant (Some k ∷ places) = false

module _ {K V R : Type 0} (m : roll.Ghosts R K) where
  -- the places of the table's roll
  abbrev pub places_of : Table K V R → List (Option K)
  places_of t = m.places t.roll

  module _ (o : ordered.Ghosts K) where
    -- the entries of a table
    abbrev pub entries : Table K V R → List (K × V)
    entries t = listing o.order (places_of t) t.values

    -- nothing changed: the places and the values are as before
    pub record Unchanged (before after : Table K V R) : Type 0 where
      pub same_places : places_of after ≡ places_of before
      pub same_values : after.values ≡ before.values

    -- a key with its value stands in the table, at a place that had the key or was empty; no other place changes
    pub record Entered (before after : Table K V R) (key : K) (value : V) (p : ℕ) : Type 0 where
      pub within : p < length (places_of before)
      pub free : (at (places_of before) p ≡ Some key) ⊎ ((at (places_of before) p ≡ None) × Absent (places_of before) key)
      pub now_places : places_of after ≡ slice_set (places_of before) p (Some key)
      pub now_entries : entries after ≡ put o.order key value (entries before)

    -- the key is absent, and no place is empty
    pub record NoRoom (before after : Table K V R) (key : K) (fault : RollFault) : Type 0 where
      pub is : fault ≡ Full
      pub absent : Absent (places_of before) key
      pub none_empty : NoneEmpty (places_of before)
      pub unchanged : Unchanged before after

    -- what `enter` answers, and what it leaves
    abbrev pub EnterAnswer : Table K V R → Table K V R → K → V → Result ℕ RollFault → Type 0
    EnterAnswer before after key value (Ok p) = Entered before after key value p
    EnterAnswer before after key value (Err fault) = NoRoom before after key fault

    -- the value of the key at a place is written; the places stay
    pub record Written (before after : Table K V R) (p : ℕ) (value : V) : Type 0 where
      pub same_places : places_of after ≡ places_of before
      pub now_entries : (key : K) → at (places_of before) p ≡ Some key → entries after ≡ put o.order key value (entries before)

    -- the place is empty now, and its key has no entry; no other place changes
    pub record Removed (before after : Table K V R) (p : ℕ) : Type 0 where
      pub now_places : places_of after ≡ slice_set (places_of before) p None
      pub now_entries : (key : K) → at (places_of before) p ≡ Some key → entries after ≡ cut o.order key (entries before)
