-- Turns of the loops over the members of a set.
use Rattle.std.proofs.Common.{◌≡◌, suc, ◌≤◌, cond, List, [], ◌∷◌, length, is_some, is_none, Some, None, Option, Ordering, sym, refl, ap, ◌∙◌, arith}
use Rattle.std.specs.List.{filter}
use Rattle.keys.specs.Order.{Lawful}
use Rattle.keys.specs.declared.ordered_key.OrderedKey as ordered
use Rattle.rolls.specs.declared.roll.Roll as roll
use Rattle.record.specs.declared.record.Record.{Record}
use Rattle.tables.specs.Listings.{lookup, put}
use Rattle.model.specs.Track.{known, newcomers, each}
use Rattle.tables.proofs.Entries.{length-put_new}
use Rattle.joining.proofs.Rooms.{length_each_le}
use Rattle.records.specs.Kept.{places_of, records_of, RaisedAll, NoRoom}
use Rattle.records.specs.declared.records.Records.{Records}

-- the keys that are counted have no record
module _ {K : Type 0} (order : K → K → Ordering) (records : List (K × Record K)) where
  pub newcomers-filter : (ks : List K) → length (filter (λ k. is_none (lookup order k records)) ks) ≡ newcomers order ks records
  newcomers-filter [] = refl
  newcomers-filter (k ∷ ks) = by (lookup order k records) (newcomers-filter ks)
    where
      lacking : List K
      lacking = filter (λ j. is_none (lookup order j records)) ks

      by : (r : Option (Record K)) → length lacking ≡ newcomers order ks records
          → length (cond (is_none r) (k ∷ lacking) lacking) ≡ cond (is_some r) (newcomers order ks records) (suc (newcomers order ks records))
      by None rest = ap suc rest
      by (Some r) rest = rest

module _ {K R : Type 0} (o : ordered.Ghosts K) (m : roll.Ghosts R K) (change : Record K → Record K) (ks : List K) (before mid : Records K R) where
  -- where there is room for all, there is room for each
  pub has_room : Lawful o.order → (after : Records K R) (k : K) (left rest : List K) → left ≡ k ∷ rest → RaisedAll m o before mid change ks left
      → length (each o.order change ks (records_of m o before)) ≤ length (places_of m before) → NoRoom m o mid after k → ⊥
  has_room lawful after k left rest e all fits none =
      let es = records_of m o mid in
      let v = change (known o.order es k) in
      let same = ap length (sym (ap (λ xs. each o.order change xs es) e) ∙ all.now_records) in
      let grown = length_each_le o.order lawful change rest (put o.order k v es) in
      let new = length-put_new o.order lawful k v es none.absent in
      let places = all.filled.0 in
      let full = none.full in
      omega (arith, same, grown, new, places, full, fits)
