-- Making a directory, and tracking a new set.
use Rattle.std.specs.Prelude.{ℕ, suc, ◌+◌, Bool, true, false, cond, not, ◌&&◌, ◌||◌, List, [], ◌∷◌, ◌++◌, length, is_some, Some, None, Ok, Err, Option, Result, nat_le, nat_lt}
use Rattle.std.specs.declared.cmp.Ordering.{Ordering}
use Rattle.std.specs.Option.{unwrap_or}
use Rattle.keys.specs.Order.{ascending}
use Rattle.types.specs.Ingresses.{host_well_formed}
use Rattle.types.specs.declared.info.Info.{Info}
use Rattle.types.specs.declared.ingress.Ingress.{Ingress}
use Rattle.record.specs.Records.{fresh, wanted, deletable, teardown, primary_up, primary_down, secondary_up, secondary_down}
use Rattle.record.specs.declared.address.Address.TheVariants.{Unknown, Myself, Bootstrapper}
use Rattle.record.specs.declared.record.Record.{Record}
use Rattle.tables.specs.Listings.{lookup, put}
use Rattle.model.specs.Calls.{with_records}
use Rattle.model.specs.Sets.{has, without, primaries, is_held, newest}
use Rattle.model.specs.State.{State, PeerSet}
use Rattle.model.specs.declared.config.Config.{Config}
use Rattle.model.specs.declared.fault.Fault.{Fault}
use Rattle.model.specs.declared.fault.Fault.TheVariants as fault

-- whether the host of every bootstrapper is well formed
abbrev pub all_hosts_formed : {K : Type 0} → List (K × Ingress) → Bool
all_hosts_formed [] = true
all_hosts_formed (b ∷ bs) = host_well_formed b.1 && all_hosts_formed bs

-- an index is above the newest, or there is none
abbrev pub is_above : Option ℕ → ℕ → Bool
is_above None index = true
is_above (Some newest) index = nat_lt newest index

module _ {K : Type 0} (order : K → K → Ordering) where
  -- making a directory

  -- a record for each bootstrapper; the later of two with one key stays
  abbrev pub with_bootstrappers : List (K × Ingress) → List (K × Record K) → List (K × Record K)
  with_bootstrappers [] records = records
  with_bootstrappers (b ∷ bs) records = with_bootstrappers bs (put order b.0 (fresh (Bootstrapper b.1) true) records)

  -- and one of ourselves, which stays above all
  abbrev pub first_records : Info K → List (K × Ingress) → List (K × Record K)
  first_records own bootstrappers = put order own.public_key (fresh (Myself own) true) (with_bootstrappers bootstrappers [])

  abbrev pub first_state : Info K → List (K × Ingress) → Config → ℕ → ℕ → State K
  first_state own bootstrappers config record_places block_places =
      record {
        own = own.public_key;
        config = config;
        record_places = record_places;
        block_places = block_places;
        records = first_records own bootstrappers;
        sets = [];
        blocks = [];
      }

  -- hosts well formed; 1 to 8 sets; both rolls empty; room for all
  abbrev pub init_answer : Info K → List (K × Ingress) → Config → ℕ → Bool → Result (Unit {0}) Fault
  init_answer own bootstrappers config record_places empty =
      cond (not (host_well_formed own.ingress && all_hosts_formed bootstrappers)) (Err fault.MalformedHost)
      (cond (not (nat_le 1 config.max_sets && nat_le config.max_sets 8)) (Err fault.BadMaxSets)
      (cond (not empty) (Err fault.RollInUse)
      (cond (nat_le (length (first_records own bootstrappers)) record_places) (Ok tt) (Err fault.TooManyBootstrappers))))

  -- joining

  -- the record of a key, or a new one of a peer of which nothing is known
  abbrev pub known : List (K × Record K) → K → Record K
  known records k = unwrap_or (lookup order k records) (fresh Unknown false)

  -- the record of each key of a list changed alike
  abbrev pub each : (Record K → Record K) → List K → List (K × Record K) → List (K × Record K)
  each change [] records = records
  each change (k ∷ ks) records = each change ks (put order k (change (known records k)) records)

  -- the members of a new set are in one set more; a key of both lists is a primary only
  abbrev pub joined : List K → List K → List (K × Record K) → List (K × Record K)
  joined primary secondary records = each secondary_up (without order secondary primary) (each primary_up primary records)

  -- the bit of each primary: 0 while its information is wanted
  abbrev pub with_bits : ℕ → List (K × Record K) → List K → List (K × Bool)
  with_bits limit records [] = []
  with_bits limit records (k ∷ ks) = (k, not (wanted limit (known records k))) ∷ with_bits limit records ks

  abbrev pub new_set : State K → ℕ → List K → List K → PeerSet K
  new_set s index primary secondary =
      record {
        index = index;
        primary = with_bits s.config.dial_fail_limit (joined primary secondary s.records) primary;
        secondary = without order secondary primary;
      }

  -- leaving

  -- the members of a set that leaves are in one set fewer
  abbrev pub left : PeerSet K → List (K × Record K) → List (K × Record K)
  left set records = each secondary_down set.secondary (each primary_down (primaries set.primary) records)

  -- whether a set has a key
  abbrev pub is_member : PeerSet K → K → Bool
  is_member set k = has order k (primaries set.primary) || has order k set.secondary

  -- the members of a set whose links are to be closed, in key order
  abbrev pub to_close : PeerSet K → List (K × Record K) → List K
  to_close set [] = []
  to_close set (e ∷ es) = cond (is_member set e.0 && teardown e.1) (e.0 ∷ to_close set es) (to_close set es)

  -- the records without those of members that nothing holds any more
  abbrev pub tidied : PeerSet K → List (K × Record K) → List (K × Record K)
  tidied set [] = []
  tidied set (e ∷ es) = cond (is_member set e.0 && deletable e.1) (tidied set es) (e ∷ tidied set es)

  -- tracking

  -- how many keys of a list have no record
  abbrev pub newcomers : List K → List (K × Record K) → ℕ
  newcomers [] records = 0
  newcomers (k ∷ ks) records = cond (is_some (lookup order k records)) (newcomers ks records) (suc (newcomers ks records))

  abbrev pub track_fits : State K → List K → List K → Bool
  track_fits s primary secondary =
      nat_le (length s.records + newcomers (primary ++ without order secondary primary) s.records) s.record_places

  -- ascending lists; an index that is not held; above the newest; room for all
  abbrev pub track_refusal : State K → ℕ → List K → List K → Option Fault
  track_refusal s index primary secondary =
      cond (not (ascending order primary && ascending order secondary)) (Some fault.NotAscending)
      (cond (is_held index s.sets) (Some fault.IndexHeld)
      (cond (not (is_above (newest s.sets) index)) (Some fault.IndexBelowNewest)
      (cond (track_fits s primary secondary) None (Some fault.TooManyPeers))))

  -- the state with the new set, before any leaves
  abbrev pub with_set : State K → ℕ → List K → List K → State K
  with_set s index primary secondary =
      with_records order s (joined primary secondary s.records) (s.sets ++ new_set s index primary secondary ∷ [])

  -- the oldest set leaves, if there are too many
  abbrev pub dropped_from : State K → Bool → List (PeerSet K) → State K
  dropped_from s false sets = s
  dropped_from s true [] = s
  dropped_from s true (oldest ∷ sets) = with_records order s (tidied oldest (left oldest s.records)) sets

  abbrev pub dropped : State K → State K
  dropped s = dropped_from s (nat_lt s.config.max_sets (length s.sets)) s.sets

  -- the links to close as the oldest set leaves
  abbrev pub closed_from : State K → Bool → List (PeerSet K) → List K
  closed_from s false sets = []
  closed_from s true [] = []
  closed_from s true (oldest ∷ sets) = to_close oldest (left oldest s.records)

  abbrev pub closed : State K → List K
  closed s = closed_from s (nat_lt s.config.max_sets (length s.sets)) s.sets

  -- what `track` answers, given how long the caller's list is: the keys whose links are to be closed
  abbrev pub track_of : Option Fault → State K → Result (List K) Fault
  track_of None s = Ok (closed s)
  track_of (Some f) s = Err f

  abbrev pub track_answer : State K → ℕ → ℕ → List K → List K → Result (List K) Fault
  track_answer s room index primary secondary =
      cond (nat_lt room 64) (Err fault.ShortList) (track_of (track_refusal s index primary secondary) (with_set s index primary secondary))

  abbrev pub tracked_from : Result (List K) Fault → State K → State K → State K
  tracked_from (Ok named) s joined = dropped joined
  tracked_from (Err f) s joined = s

  abbrev pub after_track : State K → ℕ → ℕ → List K → List K → State K
  after_track s room index primary secondary =
      tracked_from (track_answer s room index primary secondary) s (with_set s index primary secondary)

-- What tracking makes of one key's record, by which lists of the new set and of the set that leaves have the key.
-- It depends on nothing else.

module _ {K : Type 0} where
  -- a primary, or else a secondary, of the new set gets a record if it has none, and is in one set more
  abbrev pub record_joined : Bool → Bool → Option (Record K) → Option (Record K)
  record_joined true secondary r = Some (primary_up (unwrap_or r (fresh Unknown false)))
  record_joined false true r = Some (secondary_up (unwrap_or r (fresh Unknown false)))
  record_joined false false r = r

  -- a record that is deleted if nothing holds it
  abbrev pub record_tidied : Record K → Option (Record K)
  record_tidied r = cond (deletable r) None (Some r)

  -- a primary, or else a secondary, of the set that leaves is in one set fewer
  abbrev pub record_left : Bool → Bool → Option (Record K) → Option (Record K)
  record_left primary secondary None = None
  record_left true secondary (Some r) = record_tidied (primary_down r)
  record_left false true (Some r) = record_tidied (secondary_down r)
  record_left false false (Some r) = Some r
