-- What a reservation or connection is for.
use Rattle.record.specs.declared.role.Role.{Role}
use Rattle.record.specs.declared.role.Role.TheVariants as role
use Rattle.tracker.specs.declared.metadata.Metadata.{Metadata}
use Rattle.tracker.specs.declared.metadata.Metadata.TheVariants.{Dialer, Listener}

module _ {K : Type 0} where
  -- the peer's key
  abbrev pub metadata_key : Metadata K → K
  metadata_key (Dialer k ingress) = k
  metadata_key (Listener k) = k

  -- the metadata of a peer that has a role
  abbrev pub metadata_with : K → Role → Metadata K
  metadata_with k (role.Dialer ingress) = Dialer k ingress
  metadata_with k role.Listener = Listener k
