-- What is dialled to connect to a peer.
use Rattle.std.specs.Prelude.{ℕ, Bool, true, false, ◌&&◌, ◌||◌, Some, None, Option, ◌==◌}
use Rattle.hostname.specs.Held.{host_bytes, same_host}
use Rattle.hostname.specs.Names.{well_formed}
use Rattle.ip_addr.specs.Addresses.{kind_number, is_global, same_ip}
use Rattle.ip_addr.specs.declared.ip_addr.IpAddr.{IpAddr}
use Rattle.types.specs.declared.ingress.Ingress.{Ingress}
use Rattle.types.specs.declared.ingress.Ingress.TheVariants.{Socket, Dns}

-- the number of what is dialled: 0 nothing, 1 a host, 4 and 6 an address of that kind
abbrev pub ingress_kind : Option Ingress → ℕ
ingress_kind None = 0
ingress_kind (Some (Dns host port)) = 1
ingress_kind (Some (Socket addr)) = kind_number addr.ip

abbrev pub port_of : Ingress → ℕ
port_of (Socket addr) = addr.port
port_of (Dns host port) = port

-- the IP address of a socket
abbrev pub ip_of : Ingress → Option IpAddr
ip_of (Socket addr) = Some addr.ip
ip_of (Dns host port) = None

-- whether it may be dialled, where private addresses are allowed or not, and DNS is or not
abbrev pub is_valid : Ingress → Bool → Bool → Bool
is_valid (Socket addr) private dns = private || is_global addr.ip
is_valid (Dns host port) private dns = dns

-- whether two are the same: of one kind, with the same address or host bytes and the same port
abbrev pub same_ingress : Ingress → Ingress → Bool
same_ingress (Socket a) (Socket b) = same_ip a.ip b.ip && a.port == b.port
same_ingress (Socket a) (Dns host port) = false
same_ingress (Dns host port) (Socket b) = false
same_ingress (Dns a p) (Dns b q) = same_host a b && p == q

-- whether its host is well formed; a socket always is
abbrev pub host_well_formed : Ingress → Bool
host_well_formed (Socket addr) = true
host_well_formed (Dns host port) = well_formed (host_bytes host)
