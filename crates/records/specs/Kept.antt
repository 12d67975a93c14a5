-- What the table of records means, and what the changes of one peer's record leave.
use Rattle.std.specs.Prelude.{◌≡◌, ℕ, ◌+◌, Bool, true, false, cond, not, List, ◌++◌, length, take, drop, set as put_at, Some, None, Ok, Err, Option, Result, nat_le}
use Rattle.keys.specs.declared.ordered_key.OrderedKey as ordered
use Rattle.rolls.specs.declared.roll.Roll as roll
use Rattle.rolls.specs.Places.{at}
use Rattle.types.specs.declared.info.Info.{Info}
use Rattle.record.specs.Records.{primary_up, secondary_up}
use Rattle.record.specs.declared.record.Record.{Record}
use Rattle.model.specs.Sets.{primaries}
use Rattle.model.specs.State.{PeerSet}
use Rattle.tables.specs.Listings.{lookup, put, cut, entries_where}
use Rattle.tables.specs.Tabled as table
use Rattle.model.specs.Peers.{Turn, refuse, write, erase}
use Rattle.model.specs.Calls.{turned, info_turn}
use Rattle.model.specs.There.{changed, each_there, left_there}
use Rattle.model.specs.Track.{known, newcomers, each, tidied}
use Rattle.records.specs.declared.full.PeersFull.{PeersFull}
use Rattle.records.specs.Ranks.{is_stale}
use Rattle.records.specs.declared.records.Records.{Records}

module _ {K : Type 0} where
  -- Every key keeps its place; only empty places may have been filled.
  abbrev pub Filled : List (Option K) → List (Option K) → Type 0
  Filled before after = (length after ≡ length before) × ((p : ℕ) (k : K) → at before p ≡ Some k → at after p ≡ Some k)

  -- Every key that is there has been there; places may only have been emptied.
  abbrev pub Emptied : List (Option K) → List (Option K) → Type 0
  Emptied before after = (length after ≡ length before) × ((p : ℕ) (k : K) → at after p ≡ Some k → at before p ≡ Some k)

module _ {K R : Type 0} (m : roll.Ghosts R K) where
  -- the places of the roll
  abbrev pub places_of : Records K R → List (Option K)
  places_of p = table.places_of m p.table

  module _ (o : ordered.Ghosts K) where
    -- the records, by ascending key
    abbrev pub records_of : Records K R → List (K × Record K)
    records_of p = table.entries m o p.table

    -- where a peer's record stands: none exactly if it has none
    abbrev pub Located : Records K R → K → Option ℕ → Type 0
    Located p key None = lookup o.order key (records_of p) ≡ None
    Located p key (Some place) = at (places_of p) place ≡ Some key

    -- the record of one key was written; the places stay
    pub record Written (before after : Records K R) (key : K) (r : Record K) : Type 0 where
      pub now_records : records_of after ≡ put o.order key r (records_of before)
      pub same_places : places_of after ≡ places_of before

    -- what becomes of the places: they stay, unless the record is erased, which empties the key's place alone
    abbrev pub PlacesAfter : List (Option K) → List (Option K) → K → Turn K → Type 0
    PlacesAfter before after key (refuse f) = after ≡ before
    PlacesAfter before after key (write r) = after ≡ before
    PlacesAfter before after key (erase r) = (p : ℕ) × (at before p ≡ Some key) × (after ≡ put_at before p None)

    -- a turn of one key's record was taken
    pub record Settled (before after : Records K R) (key : K) (turn : Turn K) : Type 0 where
      pub now_records : records_of after ≡ turned o.order key turn (records_of before)
      pub now_places : PlacesAfter (places_of before) (places_of after) key turn

    -- the records with one written, if there is one to be
    abbrev pub with_learnt : K → Option (Record K) → List (K × Record K) → List (K × Record K)
    with_learnt key None records = records
    with_learnt key (Some r) records = put o.order key r records

    -- an info was taken or passed over
    pub record Learnt (before after : Records K R) (info : Info K) (learnt : Option (Record K)) : Type 0 where
      pub is : learnt ≡ info_turn o.order info (lookup o.order info.public_key (records_of before))
      pub now_records : records_of after ≡ with_learnt info.public_key learnt (records_of before)
      pub same_places : places_of after ≡ places_of before

    -- one record more or another, changed from what was known
    pub record Raised (before after : Records K R) (change : Record K → Record K) (key : K) : Type 0 where
      pub now_records : records_of after ≡ put o.order key (change (known o.order (records_of before) key)) (records_of before)
      pub filled : Filled (places_of before) (places_of after)

    -- the peer has no record and there is no place for one
    pub record NoRoom (before after : Records K R) (key : K) : Type 0 where
      pub absent : lookup o.order key (records_of before) ≡ None
      pub full : length (records_of before) ≡ length (places_of before)

    abbrev pub RaiseAnswer : Records K R → Records K R → (Record K → Record K) → K → Result (Unit {0}) PeersFull → Type 0
    RaiseAnswer before after change key (Ok u) = Raised before after change key
    RaiseAnswer before after change key (Err full) = NoRoom before after key

    -- the record of a key changed, if it has one; the places stay
    pub record Lowered (before after : Records K R) (change : Record K → Record K) (key : K) : Type 0 where
      pub now_records : records_of after ≡ changed o.order change key (lookup o.order key (records_of before)) (records_of before)
      pub same_places : places_of after ≡ places_of before

    -- Of a list of keys all but the last ones, which are left, have been changed alike: with those changed too, the records are
    -- what they become by the whole list. Keys without a record have got one.
    pub record RaisedAll (before after : Records K R) (change : Record K → Record K) (keys left : List K) : Type 0 where
      pub now_records : each o.order change left (records_of after) ≡ each o.order change keys (records_of before)
      pub filled : Filled (places_of before) (places_of after)

    -- the same of keys that have a record; the places stay
    pub record LoweredAll (before after : Records K R) (change : Record K → Record K) (keys left : List K) : Type 0 where
      pub now_records : each_there o.order change left (records_of after) ≡ each_there o.order change keys (records_of before)
      pub same_places : places_of after ≡ places_of before

    -- whether there is room for the records of all members, each once
    abbrev pub fits : Records K R → PeerSet K → Bool
    fits p set = nat_le (length (records_of p) + newcomers o.order (primaries set.primary ++ set.secondary) (records_of p)) (length (places_of p))

    -- the records once the members of a set have joined: primaries, then secondaries
    abbrev pub with_members : PeerSet K → List (K × Record K) → List (K × Record K)
    with_members set records = each o.order secondary_up set.secondary (each o.order primary_up (primaries set.primary) records)

    pub record Joined (before after : Records K R) (set : PeerSet K) : Type 0 where
      pub room : fits before set ≡ true
      pub now_records : records_of after ≡ with_members set (records_of before)
      pub filled : Filled (places_of before) (places_of after)

    pub record NotJoined (before after : Records K R) (set : PeerSet K) : Type 0 where
      pub no_room : fits before set ≡ false
      pub unchanged : after ≡ before

    abbrev pub JoinAnswer : Records K R → Records K R → PeerSet K → Result (Unit {0}) PeersFull → Type 0
    JoinAnswer before after set (Ok u) = Joined before after set
    JoinAnswer before after set (Err full) = NotJoined before after set

    -- members have left: those who have a record are in one set fewer
    pub record Left (before after : Records K R) (set : PeerSet K) : Type 0 where
      pub now_records : records_of after ≡ left_there o.order set (records_of before)
      pub same_places : places_of after ≡ places_of before

    -- the records without that of a key, if it is stale
    abbrev pub without_stale : PeerSet K → K → Option (Record K) → List (K × Record K) → List (K × Record K)
    without_stale set k None records = records
    without_stale set k (Some r) records = cond (is_stale o.order set k r) (cut o.order k records) records

    pub record TidiedOne (before after : Records K R) (set : PeerSet K) (k : K) : Type 0 where
      pub now_records : records_of after ≡ without_stale set k (lookup o.order k (records_of before)) (records_of before)
      pub emptied : Emptied (places_of before) (places_of after)

    -- the records of stale members have gone
    pub record Tidied (before after : Records K R) (set : PeerSet K) : Type 0 where
      pub now_records : records_of after ≡ tidied o.order set (records_of before)
      pub emptied : Emptied (places_of before) (places_of after)

    -- those of the first so many records have
    pub record TidiedFirst (before after : Records K R) (set : PeerSet K) (n : ℕ) : Type 0 where
      pub now_records : records_of after ≡ entries_where (λ k r. not (is_stale o.order set k r)) (take n (records_of before)) ++ drop n (records_of before)
      pub emptied : Emptied (places_of before) (places_of after)
