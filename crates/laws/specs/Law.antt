-- What holds of a directory's own tables at the start and after every call.
use Rattle.std.specs.Prelude.{◌≡◌, ℕ, ◌+◌, true, cond, not, ◌&&◌, List, [], ◌∷◌, is_some, Some, None, Option}
use Rattle.std.specs.declared.cmp.Ordering.{Ordering}
use Rattle.std.specs.List.{AllByRecursion}
use Rattle.keys.specs.Order.{ascending}
use Rattle.record.specs.Cases.{is_inert}
use Rattle.record.specs.declared.record.Record.{Record}
use Rattle.key_list.specs.Keys.{has}
use Rattle.tables.specs.Listings.{lookup}
use Rattle.model.specs.Sets.{primaries}
use Rattle.model.specs.State.{State, PeerSet}
use Rattle.laws.specs.History.{Held, Start, Event, named, count, leaving, reserves, releases, tracked, primary_count, secondary_count, leaves_with, is_in_some, sets_held, is_open, has_seat, is_wanted}

module _ {K : Type 0} where
  -- the sets of a state, without the bits of their primaries
  abbrev pub bare : List (PeerSet K) → List (Held K)
  bare [] = []
  bare (s ∷ ss) = record { index = s.index; primary = primaries s.primary; secondary = s.secondary } ∷ bare ss

  -- one while a peer has a record that is Reserved or Active
  abbrev pub busy : Option (Record K) → ℕ
  busy None = 0
  busy (Some r) = cond (is_inert r.status) 0 1

module _ {K : Type 0} (order : K → K → Ordering) (start : Start K) where
  -- in each set a primary's bit is set exactly when its information is not wanted
  abbrev pub BitsAgree : List (Event K) → List (PeerSet K) → Type 0
  BitsAgree h = AllByRecursion (λ set. AllByRecursion (λ m. m.1 ≡ not (is_wanted order start m.0 h)) set.primary)

  -- An accepted track, if it is the newest event, names in key order and once each exactly the members of the set that leaves, if
  -- one does, who have an open reservation and no seat left.
  abbrev pub LinksNamed : List (Event K) → Type 0
  LinksNamed [] = Unit {0}
  LinksNamed (e ∷ h) =
      is_some (tracked order e) ≡ true
      → (ascending order (named e.answer) ≡ true)
      × ((k : K) → has order k (named e.answer) ≡ (leaves_with order k (leaving start.config.max_sets (sets_held order start h)) && is_open order k h && not (has_seat order start k (e ∷ h))))

  pub record Law (h : List (Event K)) (s : State K) : Type 0 where
    -- accepted dials and listens are accepted releases, and one more while the peer is Reserved or Active
    pub balanced : (k : K) → count (reserves order k) h ≡ count (releases order k) h + busy (lookup order k s.records)
    pub sets_agree : bare s.sets ≡ sets_held order start h
    pub members_recorded : (k : K) → is_in_some order k (sets_held order start h) ≡ true → is_some (lookup order k s.records) ≡ true
    pub primary_counted : (k : K) (r : Record K) → lookup order k s.records ≡ Some r → r.primary_sets ≡ primary_count order k (sets_held order start h)
    pub secondary_counted : (k : K) (r : Record K) → lookup order k s.records ≡ Some r → r.secondary_sets ≡ secondary_count order k (sets_held order start h)
    pub bits_agree : BitsAgree h s.sets
    pub links_named : LinksNamed h
