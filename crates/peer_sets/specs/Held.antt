-- What a set, and the sets held, stand for.
use Rattle.std.specs.Prelude.{◌≡◌, ℕ, ◌-◌, Bool, true, false, cond, ◌&&◌, List, [], ◌∷◌, map, length, drop, replicate, Some, None, Option, nat_le, nat_lt}
use Rattle.std.specs.declared.cmp.Ordering.{Ordering}
use Rattle.std.specs.List.{slice_get}
use Rattle.keys.specs.Order.{ascending}
use Rattle.key_list.specs.Keys.{without}
use Rattle.key_list.specs.Members.{keys_in}
use Rattle.types.specs.Bits.{bits, spare_bits}
use Rattle.types.specs.declared.bit_vec.BitVec.{BitVec}
use Rattle.bit_set.specs.Places.{paired}
use Rattle.bit_set.specs.Members.{members, with_second}
use Rattle.bit_set.specs.declared.bit_set.BitSet.{BitSet}
use Rattle.model.specs.Sets.{primaries}
use Rattle.model.specs.State.{PeerSet as Meant}
use Rattle.model.specs.There.{marked_first}
use Rattle.peer_sets.specs.declared.peer_set.PeerSet.{PeerSet}
use Rattle.peer_sets.specs.declared.peer_sets.PeerSets.{PeerSets}

-- the second parts of pairs
abbrev pub seconds : {X Y : Type 0} → List (X × Y) → List Y
seconds [] = []
seconds (p ∷ ps) = p.1 ∷ seconds ps

module _ {K : Type 0} where
  -- what a set stands for: its index, its primaries with their bits, and its secondaries
  abbrev pub set_of : PeerSet K → Meant K
  set_of s = record { index = s.index; primary = members s.primary; secondary = keys_in s.secondary }

  -- what the sets held stand for, oldest first
  abbrev pub held : PeerSets K → List (Meant K)
  held s = map set_of s.sets.items

  -- a set with no members, under the index 0
  abbrev pub IsBlank : PeerSet K → Type 0
  IsBlank s = set_of s ≡ record { index = 0; primary = []; secondary = [] }

  -- the set with the bit of the primary at an index as given; past the last primary nothing changes
  abbrev pub marked_at : ℕ → Bool → Meant K → Meant K
  marked_at i known s = record { index = s.index; primary = with_second s.primary i known; secondary = s.secondary }

  -- A vector that has the bits of primaries, under an index: one bit for each, and 0 behind them.
  pub record Carried (index : ℕ) (primary : List (K × Bool)) (v : BitVec) : Type 0 where
    pub under : v.index ≡ index
    pub one_each : v.len ≡ length primary
    pub same_bits : bits v ≡ seconds primary
    pub spare_zero : spare_bits v ≡ replicate (64 - length primary) false

module _ {K : Type 0} (order : K → K → Ordering) where
  -- the set with the bit of a key as given, if the key is among the primaries
  abbrev pub marked_set : K → Bool → Meant K → Meant K
  marked_set key known s = record { index = s.index; primary = marked_first order key known s.primary; secondary = s.secondary }

  -- whether keys can be the primaries of a set: they ascend, and are at most 64
  abbrev pub can_be_primary : List K → Bool
  can_be_primary keys = ascending order keys && nat_le (length keys) 64

  -- what the maker of primaries answers: just these keys, of which none is known
  abbrev pub Unmarked : List K → Option (BitSet K) → Type 0
  Unmarked keys None = can_be_primary keys ≡ false
  Unmarked keys (Some s) =
      (can_be_primary keys ≡ true) × (primaries (members s) ≡ keys) × (members s ≡ paired keys (replicate (length keys) false))

  -- whether there is a set of these primaries and secondaries: those that are no primaries are at most 64
  abbrev pub can_make : List K → List K → Bool
  can_make primary secondary = can_be_primary primary && nat_le (length (without order secondary primary)) 64

  -- A set of just these primaries, of which none is known, and of the secondaries that are no primaries.
  pub record Fresh (index : ℕ) (primary secondary : List K) (s : Meant K) : Type 0 where
    pub same_index : s.index ≡ index
    pub same_primaries : primaries s.primary ≡ primary
    pub none_known : s.primary ≡ paired primary (replicate (length primary) false)
    pub no_primary : s.secondary ≡ without order secondary primary

  -- what the maker of a set answers
  abbrev pub Made : ℕ → List K → List K → Option (PeerSet K) → Type 0
  Made index primary secondary None = can_make primary secondary ≡ false
  Made index primary secondary (Some s) = Fresh index primary secondary (set_of s)

-- the items after one more, where at most so many stay: if there are more, the first leaves
abbrev pub kept : {X : Type 0} → ℕ → List X → List X
kept most xs = cond (nat_lt most (length xs)) (drop 1 xs) xs

-- the item that leaves then, or none
abbrev pub leaving : {X : Type 0} → ℕ → List X → Option X
leaving most xs = cond (nat_lt most (length xs)) (slice_get xs 0) None
