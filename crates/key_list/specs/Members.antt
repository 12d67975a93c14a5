-- What a list of keys means: its keys in order.
use Rattle.std.specs.Prelude.{◌≡◌, ℕ, ◌+◌, ◌<◌, ◌≤◌, true, List, length, Some, None, Option, nat_le}
use Rattle.std.specs.declared.cmp.Ordering.{Ordering}
use Rattle.std.specs.List.{insert}
use Rattle.key_list.specs.Keys.{put_key}
use Rattle.key_list.specs.Places.{keys_of}
use Rattle.key_list.specs.declared.key_list.KeyList.{KeyList}

module _ {K : Type 0} where
  -- the keys of a list, in order
  abbrev pub keys_in : KeyList K → List K
  keys_in list = keys_of list.keys

  -- what a maker answers: a list of just these keys, none exactly if they are more than 64
  abbrev pub Made : List K → Option (KeyList K) → Type 0
  Made keys None = 64 < length keys
  Made keys (Some list) = (length keys ≤ 64) × (keys_in list ≡ keys)

module _ {K : Type 0} (order : K → K → Ordering) where
  -- a key that is not there goes to an index; one key more is there then
  pub record Goes (key : K) (ks : List K) (i : ℕ) : Type 0 where
    pub within : i ≤ length ks
    pub put_there : put_key order key ks ≡ insert ks i key
    pub one_more : length (put_key order key ks) ≡ length ks + 1

  -- a key that is there stays there; so there are no more than there is room for
  pub record Stays (key : K) (ks : List K) : Type 0 where
    pub same : put_key order key ks ≡ ks
    pub has_room : nat_le (length (put_key order key ks)) 64 ≡ true

  -- where a key goes among keys, or none if it is there
  abbrev pub Gap : K → List K → Option ℕ → Type 0
  Gap key ks None = Stays key ks
  Gap key ks (Some i) = Goes key ks i
