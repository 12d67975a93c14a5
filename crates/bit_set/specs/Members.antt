-- What a set means: its keys in order, each with its bit.
use Rattle.std.specs.Prelude.{◌≡◌, ℕ, zero, suc, ◌-◌, ◌<◌, ◌≤◌, Bool, true, false, List, [], ◌∷◌, length, replicate, Some, None, Ok, Err, Option, Result, slice_set}
use Rattle.std.specs.declared.cmp.Ordering.{Ordering}
use Rattle.keys.specs.Order.{ascending}
use Rattle.types.specs.Bits.{bits, spare_bits}
use Rattle.types.specs.declared.bit_vec.BitVec.{BitVec}
use Rattle.key_list.specs.Members.{keys_in as listed}
use Rattle.bit_set.specs.Places.{paired}
use Rattle.bit_set.specs.declared.bit_set.BitSet.{BitSet}
use Rattle.bit_set.specs.declared.fault.BitSetFault.{BitSetFault}
use Rattle.bit_set.specs.declared.fault.BitSetFault.TheVariants.{TooMany, NotAscending}

-- the pairs with the second part of one of them as given; past the last pair nothing changes
abbrev pub with_second : {X Y : Type 0} → List (X × Y) → ℕ → Y → List (X × Y)
with_second [] i y = []
with_second (p ∷ ps) zero y = (p.0, y) ∷ ps
with_second (p ∷ ps) (suc i) y = p ∷ with_second ps i y

module _ {K : Type 0} where
  -- the keys of a set, in order
  abbrev pub keys_in : BitSet K → List K
  keys_in s = listed s.keys

  -- its bits, in the order of the keys
  abbrev pub bits_in : BitSet K → List Bool
  bits_in s = bits s.knowledge

  -- its keys, each with whether that peer's information is known
  abbrev pub members : BitSet K → List (K × Bool)
  members s = paired (keys_in s) (bits_in s)

  -- A set of just these keys, of which none is known. Its keys ascend.
  pub record Fresh (order : K → K → Ordering) (keys : List K) (s : BitSet K) : Type 0 where
    pub few : length keys ≤ 64
    pub given_ascend : ascending order keys ≡ true
    pub same_keys : keys_in s ≡ keys
    pub none_known : bits_in s ≡ replicate (length keys) false
    pub now_members : members s ≡ paired keys (replicate (length keys) false)
    pub ascends : ascending order (keys_in s) ≡ true

  -- What a maker answers: a set exactly if the keys are at most 64 and ascend; that they are too many
  -- exactly if they are more than 64; that they do not ascend exactly if they are at most 64 and do not.
  abbrev pub Made : (K → K → Ordering) → List K → Result (BitSet K) BitSetFault → Type 0
  Made order keys (Ok s) = Fresh order keys s
  Made order keys (Err TooMany) = 64 < length keys
  Made order keys (Err NotAscending) = (length keys ≤ 64) × (ascending order keys ≡ false)

  -- One bit written: that bit is now as given, past the last key none is; no key changes, nor any
  -- other bit.
  pub record Marked (before after : BitSet K) (i : ℕ) (known : Bool) : Type 0 where
    pub same_keys : keys_in after ≡ keys_in before
    pub now_bits : bits_in after ≡ slice_set (bits_in before) i known
    pub now_members : members after ≡ with_second (members before) i known

  -- What an update at the index of a key answers and leaves: the key's bit is written, and where
  -- there is no such key nothing changes.
  abbrev pub Updated : BitSet K → BitSet K → Option ℕ → Bool → Bool → Type 0
  Updated before after None known done = (done ≡ false) × (after ≡ before)
  Updated before after (Some i) known done = (done ≡ true) × Marked before after i known

  -- A vector that has the bits of a set, under an index: one bit for each key, and 0 behind them.
  pub record Carried (s : BitSet K) (index : ℕ) (v : BitVec) : Type 0 where
    pub under : v.index ≡ index
    pub one_each : v.len ≡ length (keys_in s)
    pub same_bits : bits v ≡ bits_in s
    pub as_many : length (bits v) ≡ length (keys_in s)
    pub spare_zero : spare_bits v ≡ replicate (64 - length (keys_in s)) false
