-- How a set has a peer, and what joining or leaving it so makes of the peer's record.
use Rattle.std.specs.Prelude.{◌≡◌, Bool, true, false, not, ◌&&◌, nat_lt}
use Rattle.std.specs.declared.cmp.Ordering.{Ordering}
use Rattle.keys.specs.Order.{ascending}
use Rattle.key_list.specs.Keys.{has}
use Rattle.model.specs.Sets.{primaries}
use Rattle.model.specs.State.{PeerSet}
use Rattle.model.specs.Track.{is_member}
use Rattle.record.specs.Cases.{is_inert}
use Rattle.record.specs.Records.{deletable, teardown, primary_up, primary_down, secondary_up, secondary_down}
use Rattle.record.specs.declared.record.Record.{Record}
use Rattle.records.specs.declared.choice.Choice.{Choice}
use Rattle.records.specs.declared.choice.Choice.TheVariants.{Primaries, Secondaries, Reserved}
use Rattle.records.specs.declared.rank.Rank.{Rank}
use Rattle.records.specs.declared.rank.Rank.TheVariants.{Primary, Secondary}

module _ {K : Type 0} where
  -- one set more has the peer
  abbrev pub raised : Rank → Record K → Record K
  raised Primary r = primary_up r
  raised Secondary r = secondary_up r

  -- one set fewer
  abbrev pub lowered : Rank → Record K → Record K
  lowered Primary r = primary_down r
  lowered Secondary r = secondary_down r

-- whether a member's record is to be deleted
abbrev pub is_stale : {K : Type 0} → (K → K → Ordering) → PeerSet K → K → Record K → Bool
is_stale order set k r = is_member order set k && deletable r

-- whether the link to a member is to be closed
abbrev pub is_cut_off : {K : Type 0} → (K → K → Ordering) → PeerSet K → K → Record K → Bool
is_cut_off order set k r = is_member order set k && teardown r

-- Which records are chosen: those of primaries; of secondaries that are no primaries; of peers that are reserved or connected.
abbrev pub is_chosen : {K : Type 0} → Choice → Record K → Bool
is_chosen Primaries r = nat_lt 0 r.primary_sets
is_chosen Secondaries r = not (nat_lt 0 r.primary_sets) && nat_lt 0 r.secondary_sets
is_chosen Reserved r = not (is_inert r.status)

-- both lists of a set ascend, and have no key in common
pub record Proper {K : Type 0} (order : K → K → Ordering) (set : PeerSet K) : Type 0 where
  pub primaries_ascend : ascending order (primaries set.primary) ≡ true
  pub secondaries_ascend : ascending order set.secondary ≡ true
  pub apart : (k : K) → has order k (primaries set.primary) ≡ true → has order k set.secondary ≡ false
