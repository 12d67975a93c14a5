-- The states in which a directory may start, and the histories that lead on from them.
use Rattle.std.specs.Prelude.{◌≡◌, ℕ, ◌^◌, ◌<◌, ◌≤◌, min, true, false, ◌||◌, List, [], ◌∷◌, length, is_some, Some, None, Option}
use Rattle.std.specs.declared.cmp.Ordering.{Ordering}
use Rattle.std.specs.List.{AllByRecursion}
use Rattle.keys.specs.Order.{ascending}
use Rattle.types.specs.declared.info.Info.{Info}
use Rattle.types.specs.declared.ingress.Ingress.{Ingress}
use Rattle.record.specs.Records.{is_myself, most_failures}
use Rattle.record.specs.declared.address.Address.{Address}
use Rattle.record.specs.declared.address.Address.TheVariants.{Unknown, Bootstrapper, Discovered}
use Rattle.record.specs.declared.record.Record.{Record}
use Rattle.record.specs.declared.status.Status.TheVariants.{Inert}
use Rattle.key_list.specs.Keys.{has}
use Rattle.tables.specs.Listings.{lookup, Ascending}
use Rattle.model.specs.Runs.{Call, Answer, answer, after}
use Rattle.model.specs.State.{State}
use Rattle.model.specs.declared.config.Config.{Config}
use Rattle.laws.specs.History.{Held, Start, Event, info_in, failures_in, is_own, bootstrapper, has_seat, primary_count, secondary_count}
use Rattle.laws.specs.Law.{bare, BitsAgree}

module _ {K : Type 0} where
  -- at a newly made directory only the bootstrappers are known
  abbrev pub new_start : Info K → List (K × Ingress) → Config → Start K
  new_start own bootstrappers config =
      record { own = own.public_key; config = config; bootstrappers = bootstrappers; infos = []; sets = [] }

  -- the address of another peer: its info with the dials that failed, else a bootstrapper's ingress, else nothing is known
  abbrev pub address_by : Option (Info K) → Option Ingress → ℕ → Address K
  address_by (Some info) bootstrapper failed = Discovered info (min failed most_failures)
  address_by None (Some ingress) failed = Bootstrapper ingress
  address_by None None failed = Unknown

  -- calls with their answers, the newest first, in front of a history
  abbrev pub onto : List (Event K) → List (Call K) → List (Answer K) → List (Event K)
  onto h [] answers = h
  onto h (c ∷ cs) [] = h
  onto h (c ∷ cs) (a ∷ answers) = onto (record { call = c; answer = a } ∷ h) cs answers

  abbrev pub history_of : List (Call K) → List (Answer K) → List (Event K)
  history_of calls answers = onto [] calls answers

module _ {K : Type 0} (order : K → K → Ordering) where
  -- both lists of a set ascend and have no key in common
  pub record Proper (set : Held K) : Type 0 where
    pub primaries_ascend : ascending order set.primary ≡ true
    pub secondaries_ascend : ascending order set.secondary ≡ true
    pub apart : (k : K) → has order k set.primary ≡ true → has order k set.secondary ≡ false

  module _ (start : Start K) where
    -- the record of a peer at the start
    pub record FirstRecord (k : K) (r : Record K) : Type 0 where
      pub held : (is_own order start k || has_seat order start k []) ≡ true
      pub inert : r.status ≡ Inert
      pub ours : is_own order start k ≡ true → is_myself r.address ≡ true
      pub theirs : is_own order start k ≡ false → r.address ≡ address_by (info_in (lookup order k start.infos)) (bootstrapper order start k) (failures_in (lookup order k start.infos))
      pub stays : r.persistent ≡ (is_own order start k || is_some (bootstrapper order start k))
      pub primary_counted : r.primary_sets ≡ primary_count order k start.sets
      pub secondary_counted : r.secondary_sets ≡ secondary_count order k start.sets

    -- we have a record, and so has each peer with a seat
    abbrev pub First : K → Option (Record K) → Type 0
    First k None = (is_own order start k || has_seat order start k []) ≡ false
    First k (Some r) = FirstRecord k r

    -- a state in which nothing is reserved, and everything else is as the start says
    pub record Begins (s : State K) : Type 0 where
      pub own_key : s.own ≡ start.own
      pub settings : s.config ≡ start.config
      pub some_held : 1 ≤ start.config.max_sets
      pub few_held : start.config.max_sets ≤ 8
      -- the limit is a number of 64 bits, like the failures that are counted against it
      pub counted : start.config.dial_fail_limit < 2 ^ 64
      pub within : length start.sets ≤ start.config.max_sets
      pub proper : AllByRecursion Proper start.sets
      pub ordered : Ascending order s.records
      pub recorded : (k : K) → First k (lookup order k s.records)
      pub sets_agree : bare s.sets ≡ start.sets
      pub bits_agree : BitsAgree order start [] s.sets

    -- a history that leads from a start to a state: none, or one call more, answered as that state has it
    pub data Reached : List (Event K) → State K → Type 0 where
      begun : {s : State K} → Begins s → Reached [] s
      more : {h : List (Event K)} {s : State K} (c : Call K) → Reached h s → Reached (record { call = c; answer = answer order s c } ∷ h) (after order s c)
