-- What calls and their answers say of peers and sets, by relations and counts alone: no record and no state is used.
use Rattle.std.specs.Prelude.{ℕ, suc, ◌-◌, Bool, true, false, cond, not, ◌&&◌, ◌||◌, List, [], ◌∷◌, ◌++◌, length, drop, is_some, Some, None, Option, nat_le, nat_lt}
use Rattle.std.specs.declared.cmp.Ordering.{Ordering}
use Rattle.types.specs.Ingresses.{same_ingress}
use Rattle.types.specs.Times.{earlier}
use Rattle.types.specs.declared.info.Info.{Info}
use Rattle.types.specs.declared.ingress.Ingress.{Ingress}
use Rattle.key_list.specs.Keys.{is_equal, has, without}
use Rattle.tables.specs.Listings.{lookup}
use Rattle.model.specs.Runs.{Call, Answer, Track, Dial, Listen, Connect, Release, UpdatePeers, Block, UnblockExpired, Refused, Done, Named, Taken, Unblocked}
use Rattle.model.specs.declared.config.Config.{Config}

-- a set: its index, its primaries, and its secondaries less its primaries
pub record Held (K : Type 0) : Type 0 where
  pub index : ℕ
  pub primary : List K
  pub secondary : List K

-- What is known when the calls begin: our key, the settings, the bootstrappers (the later of two with one key counts), infos of
-- peers, each with how many dials have failed since, and the sets held, oldest first.
pub record Start (K : Type 0) : Type 0 where
  pub own : K
  pub config : Config
  pub bootstrappers : List (K × Ingress)
  pub infos : List (K × (Info K × ℕ))
  pub sets : List (Held K)

-- a call with its answer; a history is a list of them, the newest first
pub record Event (K : Type 0) : Type 0 where
  pub call : Call K
  pub answer : Answer K

-- what an accepted call is to one peer: its dial, listen, connect or release; news of it; or nothing
pub data Act (K : Type 0) : Type 0 where
  Dialled : Act K
  Listened : Act K
  Connected : Act K
  Released : Act K
  Told : List (Info K) → Act K
  Other : Act K

-- a number, or the next one
abbrev pub one_more : Bool → ℕ → ℕ
one_more true n = suc n
one_more false n = n

module _ {K : Type 0} where
  -- a call is accepted if its answer has no number of a refusal
  abbrev pub accepted : Answer K → Bool
  accepted = elim [ Refused f ↦ false | Done ↦ true | Named keys ↦ true | Taken n ↦ true | Unblocked any ↦ true ]

  -- the keys that an answer names
  abbrev pub named : Answer K → List K
  named = elim [ Refused f ↦ [] | Done ↦ [] | Named keys ↦ keys | Taken n ↦ [] | Unblocked any ↦ [] ]

  abbrev pub is_dialling : Act K → Bool
  is_dialling = elim [ Dialled ↦ true | Listened ↦ false | Connected ↦ false | Released ↦ false | Told infos ↦ false | Other ↦ false ]

  abbrev pub is_reserving : Act K → Bool
  is_reserving = elim [ Dialled ↦ true | Listened ↦ true | Connected ↦ false | Released ↦ false | Told infos ↦ false | Other ↦ false ]

  abbrev pub is_connecting : Act K → Bool
  is_connecting = elim [ Dialled ↦ false | Listened ↦ false | Connected ↦ true | Released ↦ false | Told infos ↦ false | Other ↦ false ]

  abbrev pub is_releasing : Act K → Bool
  is_releasing = elim [ Dialled ↦ false | Listened ↦ false | Connected ↦ false | Released ↦ true | Told infos ↦ false | Other ↦ false ]

  abbrev pub infos_told : Act K → List (Info K)
  infos_told = elim [ Dialled ↦ [] | Listened ↦ [] | Connected ↦ [] | Released ↦ [] | Told infos ↦ infos | Other ↦ [] ]

  -- how many events of a history pass a test
  abbrev pub count : (Event K → Bool) → List (Event K) → ℕ
  count test [] = 0
  count test (e ∷ h) = one_more (test e) (count test h)

  -- the info that is known of a peer at the start, and how many dials have failed since

  abbrev pub info_in : Option (Info K × ℕ) → Option (Info K)
  info_in None = None
  info_in (Some known) = Some known.0

  abbrev pub failures_in : Option (Info K × ℕ) → ℕ
  failures_in None = 0
  failures_in (Some known) = known.1

  -- whether an info is taken, by the one last taken: the first is, a later one if its stamp is above
  abbrev pub is_news : Option (Info K) → Info K → Bool
  is_news None info = true
  is_news (Some last) info = earlier last.timestamp info.timestamp

  -- the info last taken, once these have come one after the other; and whether any of them was taken
  abbrev pub newest_of : Option (Info K) → List (Info K) → Option (Info K)
  newest_of last [] = last
  newest_of last (i ∷ is) = newest_of (cond (is_news last i) (Some i) last) is

  abbrev pub any_news : Option (Info K) → List (Info K) → Bool
  any_news last [] = false
  any_news last (i ∷ is) = is_news last i || any_news last is

  -- the ingress of an info, or else another
  abbrev pub ingress_or : Option Ingress → Option (Info K) → Option Ingress
  ingress_or other None = other
  ingress_or other (Some info) = Some info.ingress

  -- whether there is an info, and a dial at its ingress
  abbrev pub dialled_it : Option (Info K) → Option Ingress → Bool
  dialled_it None dialled = false
  dialled_it (Some info) None = false
  dialled_it (Some info) (Some ingress) = same_ingress info.ingress ingress

  -- whether information is wanted of another peer, by the info last taken
  abbrev pub is_lacking : ℕ → Option (Info K) → Bool → ℕ → Bool
  is_lacking limit None connected failed = true
  is_lacking limit (Some info) connected failed = not connected && nat_le limit failed

  -- the part of a list that stays if at most so many are held, the oldest being first
  abbrev pub newest_part : ℕ → List (Held K) → List (Held K)
  newest_part most sets = drop (length sets - most) sets

  -- a list with a set at its end, if there is one
  abbrev pub followed_by : List (Held K) → Option (Held K) → List (Held K)
  followed_by sets None = sets
  followed_by sets (Some set) = sets ++ set ∷ []

  -- the oldest set, which leaves where as many are held as may be
  abbrev pub leaving : ℕ → List (Held K) → Option (Held K)
  leaving most [] = None
  leaving most (oldest ∷ sets) = cond (nat_le most (length (oldest ∷ sets))) (Some oldest) None

module _ {K : Type 0} (order : K → K → Ordering) where
  -- the infos of one peer
  abbrev pub infos_of : K → List (Info K) → List (Info K)
  infos_of k [] = []
  infos_of k (i ∷ is) = cond (is_equal (order i.public_key k)) (i ∷ infos_of k is) (infos_of k is)

  abbrev pub act_of : K → Call K → Act K
  act_of k (Track room index primary secondary) = Other
  act_of k (Dial now draw j) = cond (is_equal (order j k)) Dialled Other
  act_of k (Listen now draw j) = cond (is_equal (order j k)) Listened Other
  act_of k (Connect j) = cond (is_equal (order j k)) Connected Other
  act_of k (Release j) = cond (is_equal (order j k)) Released Other
  act_of k (UpdatePeers infos) = Told (infos_of k infos)
  act_of k (Block now j) = Other
  act_of k (UnblockExpired now) = Other

  abbrev pub act : K → Event K → Act K
  act k e = cond (accepted e.answer) (act_of k e.call) Other

  -- accepted dials and listens of a peer, and accepted releases

  abbrev pub reserves : K → Event K → Bool
  reserves k e = is_reserving (act k e)

  abbrev pub releases : K → Event K → Bool
  releases k e = is_releasing (act k e)

  -- a reservation is open from an accepted dial or listen to the next accepted release
  abbrev pub is_open : K → List (Event K) → Bool
  is_open k [] = false
  is_open k (e ∷ h) = cond (is_reserving (act k e)) true (cond (is_releasing (act k e)) false (is_open k h))

  -- a peer is connected from an accepted connect to the next accepted release
  abbrev pub is_connected : K → List (Event K) → Bool
  is_connected k [] = false
  is_connected k (e ∷ h) = cond (is_connecting (act k e)) true (cond (is_releasing (act k e)) false (is_connected k h))

  -- the set of an accepted track

  abbrev pub set_of : Call K → Option (Held K)
  set_of (Track room index primary secondary) = Some (record { index = index; primary = primary; secondary = without order secondary primary })
  set_of (Dial now draw k) = None
  set_of (Listen now draw k) = None
  set_of (Connect k) = None
  set_of (Release k) = None
  set_of (UpdatePeers infos) = None
  set_of (Block now k) = None
  set_of (UnblockExpired now) = None

  abbrev pub tracked : Event K → Option (Held K)
  tracked e = cond (accepted e.answer) (set_of e.call) None

  -- how many sets of a list name a peer primary, and secondary

  abbrev pub primary_count : K → List (Held K) → ℕ
  primary_count k [] = 0
  primary_count k (s ∷ ss) = one_more (has order k s.primary) (primary_count k ss)

  abbrev pub secondary_count : K → List (Held K) → ℕ
  secondary_count k [] = 0
  secondary_count k (s ∷ ss) = one_more (has order k s.secondary) (secondary_count k ss)

  abbrev pub is_member : K → Held K → Bool
  is_member k s = has order k s.primary || has order k s.secondary

  -- whether the set that leaves, if one does, has a peer
  abbrev pub leaves_with : K → Option (Held K) → Bool
  leaves_with k None = false
  leaves_with k (Some s) = is_member k s

  -- whether some set of a list has a peer
  abbrev pub is_in_some : K → List (Held K) → Bool
  is_in_some k sets = nat_lt 0 (primary_count k sets) || nat_lt 0 (secondary_count k sets)

  -- the value of a key in a list in which the later of two counts
  abbrev pub latest_or : {V : Type 0} → K → Option V → List (K × V) → Option V
  latest_or k found [] = found
  latest_or k found (e ∷ es) = latest_or k (cond (is_equal (order e.0 k)) (Some e.1) found) es

  module _ (start : Start K) where
    abbrev pub is_own : K → Bool
    is_own k = is_equal (order start.own k)

    -- the ingress of a bootstrapper
    abbrev pub bootstrapper : K → Option Ingress
    bootstrapper k = latest_or k None start.bootstrappers

    -- every set there was, oldest first: those of the start and of each accepted track
    abbrev pub all_sets : List (Event K) → List (Held K)
    all_sets [] = start.sets
    all_sets (e ∷ h) = followed_by (all_sets h) (tracked e)

    -- the sets held: the newest, as many as may be
    abbrev pub sets_held : List (Event K) → List (Held K)
    sets_held h = newest_part start.config.max_sets (all_sets h)

    -- a seat is a membership in a set held, or being a bootstrapper
    abbrev pub has_seat : K → List (Event K) → Bool
    has_seat k h = is_in_some k (sets_held h) || is_some (bootstrapper k)

    -- whether infos are taken of a peer: of another than ourselves that has a seat or an open reservation
    abbrev pub is_heard : K → List (Event K) → Bool
    is_heard k h = not (is_own k) && (has_seat k h || is_open k h)

    -- the info last taken, of those since the peer last had neither
    abbrev pub last_info : K → List (Event K) → Option (Info K)
    last_info k [] = cond (is_heard k []) (info_in (lookup order k start.infos)) None
    last_info k (e ∷ h) = cond (is_heard k (e ∷ h)) (newest_of (last_info k h) (infos_told (act k e))) None

    -- the ingress of the newest reservation, if it was a dial: that of the info last taken before it, else the bootstrapper's
    abbrev pub dialled_at : K → List (Event K) → Option Ingress
    dialled_at k [] = None
    dialled_at k (e ∷ h) =
        cond (is_reserving (act k e)) (cond (is_dialling (act k e)) (ingress_or (bootstrapper k) (last_info k h)) None) (dialled_at k h)

    -- whether, after a history, an event takes an info of a peer; is the connect of a dial; or is the release of a dial that was
    -- not connected, at the ingress of the info last taken: a dial that failed

    abbrev pub takes_info : K → List (Event K) → Event K → Bool
    takes_info k h e = any_news (last_info k h) (infos_told (act k e)) && is_heard k h

    abbrev pub connects_dial : K → List (Event K) → Event K → Bool
    connects_dial k h e = is_connecting (act k e) && is_some (dialled_at k h)

    abbrev pub fails_dial : K → List (Event K) → Event K → Bool
    fails_dial k h e = is_releasing (act k e) && not (is_connected k h) && dialled_it (last_info k h) (dialled_at k h)

    -- the dials that failed since the last info taken or, if later, the last connect of a dial
    abbrev pub failed_dials : K → List (Event K) → ℕ
    failed_dials k [] = failures_in (lookup order k start.infos)
    failed_dials k (e ∷ h) = cond (takes_info k h e || connects_dial k h e) 0 (one_more (fails_dial k h e) (failed_dials k h))

    -- Whether a peer's information is wanted: ours never is; that of another is while no info was taken, and then while the peer
    -- is not connected and as many dials have failed as the limit says.
    abbrev pub is_wanted : K → List (Event K) → Bool
    is_wanted k h = not (is_own k) && is_lacking start.config.dial_fail_limit (last_info k h) (is_connected k h) (failed_dials k h)
