-- What the code does to what stands there. Where each member of a set has a record, and no primary stands twice in a set, it is what
-- the definitions of the calls say.
use Rattle.std.specs.Prelude.{Bool, cond, List, [], ◌∷◌, Some, None, Option}
use Rattle.std.specs.declared.cmp.Ordering.{Ordering}
use Rattle.key_list.specs.Keys.{is_equal}
use Rattle.record.specs.Records.{primary_down, secondary_down}
use Rattle.record.specs.declared.record.Record.{Record}
use Rattle.tables.specs.Listings.{lookup, put}
use Rattle.model.specs.Sets.{primaries}
use Rattle.model.specs.State.{PeerSet}

module _ {K : Type 0} (order : K → K → Ordering) where
  -- the record of a key changed, if there is one
  abbrev pub changed : (Record K → Record K) → K → Option (Record K) → List (K × Record K) → List (K × Record K)
  changed change k None records = records
  changed change k (Some r) records = put order k (change r) records

  -- the record of each key of a list changed alike, where there is one
  abbrev pub each_there : (Record K → Record K) → List K → List (K × Record K) → List (K × Record K)
  each_there change [] records = records
  each_there change (k ∷ ks) records = each_there change ks (changed change k (lookup order k records) records)

  -- the members of a set that leaves are in one set fewer, where they have a record
  abbrev pub left_there : PeerSet K → List (K × Record K) → List (K × Record K)
  left_there set records = each_there secondary_down set.secondary (each_there primary_down (primaries set.primary) records)

  -- the bit of a key written at the first primary that it is, if it is one
  abbrev pub marked_first : K → Bool → List (K × Bool) → List (K × Bool)
  marked_first k bit [] = []
  marked_first k bit (m ∷ ms) = cond (is_equal (order m.0 k)) ((m.0, bit) ∷ ms) (m ∷ marked_first k bit ms)

  -- the same in every set held
  abbrev pub marked_first_all : K → Bool → List (PeerSet K) → List (PeerSet K)
  marked_first_all k bit [] = []
  marked_first_all k bit (s ∷ sets) = record s { primary = marked_first k bit s.primary } ∷ marked_first_all k bit sets
