-- The sets held: their members, and the bits of their primaries.
use Rattle.std.specs.Prelude.{ℕ, Bool, false, cond, ◌||◌, List, [], ◌∷◌, Some, None, Option, ◌==◌}
use Rattle.std.specs.declared.cmp.Ordering.{Ordering}
pub use Rattle.key_list.specs.Keys.{has, without}
use Rattle.tables.specs.Listings.{is_equal}
use Rattle.model.specs.State.{PeerSet}

-- the primaries of a set
abbrev pub primaries : {K : Type 0} → List (K × Bool) → List K
primaries [] = []
primaries (m ∷ ms) = m.0 ∷ primaries ms

module _ {K : Type 0} (order : K → K → Ordering) where
  -- the bit of a key written, if it is among the primaries
  abbrev pub marked : K → Bool → List (K × Bool) → List (K × Bool)
  marked k bit [] = []
  marked k bit (m ∷ ms) = (m.0, cond (is_equal (order m.0 k)) bit m.1) ∷ marked k bit ms

  -- the bit of a key written in every set held
  abbrev pub marked_all : K → Bool → List (PeerSet K) → List (PeerSet K)
  marked_all k bit [] = []
  marked_all k bit (s ∷ ss) =
      record { index = s.index; primary = marked k bit s.primary; secondary = s.secondary } ∷ marked_all k bit ss

-- the index of the newest set held, or none
abbrev pub newest : {K : Type 0} → List (PeerSet K) → Option ℕ
newest [] = None
newest (s ∷ []) = Some s.index
newest (s ∷ t ∷ ss) = newest (t ∷ ss)

-- the set with an index, or none
abbrev pub set_at : {K : Type 0} → ℕ → List (PeerSet K) → Option (PeerSet K)
set_at index [] = None
set_at index (s ∷ ss) = cond (s.index == index) (Some s) (set_at index ss)

-- whether a set that is held has an index
abbrev pub is_held : {K : Type 0} → ℕ → List (PeerSet K) → Bool
is_held index [] = false
is_held index (s ∷ ss) = s.index == index || is_held index ss
