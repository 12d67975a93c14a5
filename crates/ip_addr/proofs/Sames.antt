-- When two addresses are the same.
use Rattle.std.proofs.Common.{◌≡◌, ℕ, length, Decides, ap, arith}
use mathlib.Core.HLevel.{is_prop→PathP}
use native.Mathlib.Nat.{ℕ_set}
use Rattle.std.proofs.lemmas.Slice.Eq.{bytes_eq-Decides}
use Rattle.std.proofs.lemmas.Bool.{false≢true}
use Rattle.std.proofs.lemmas.Bool.Decides.{Decides-like}
use Rattle.ip_addr.specs.declared.ip_addr.IpAddr.{IpAddr}
use Rattle.ip_addr.specs.declared.ip_addr.IpAddr.TheVariants.{V4, V6}
use Rattle.ip_addr.specs.declared.ipv4_addr.Ipv4Addr.{Ipv4Addr}
use Rattle.ip_addr.specs.declared.ipv6_addr.Ipv6Addr.{Ipv6Addr}
use Rattle.ip_addr.specs.Addresses.{octets_of, same_ip}

pub same_v4 : (a b : Ipv4Addr) → a.octets ≡ b.octets → a ≡ b
same_v4 a b e = λ i. record { octets = e i; whole = is_prop→PathP (λ i. length (e i) ≡ 4) (λ i. ℕ_set (length (e i)) 4) a.whole b.whole i }

pub same_v6 : (a b : Ipv6Addr) → a.octets ≡ b.octets → a ≡ b
same_v6 a b e = λ i. record { octets = e i; whole = is_prop→PathP (λ i. length (e i) ≡ 16) (λ i. ℕ_set (length (e i)) 16) a.whole b.whole i }

-- `same_ip` is true exactly if the two addresses are equal
pub same_ip_decides : (a b : IpAddr) → Decides (same_ip a b) (a ≡ b)
same_ip_decides (V4 a) (V4 b) = Decides-like _ (λ e. ap V4 (same_v4 a b e)) (λ e. ap octets_of e) (bytes_eq-Decides a.octets b.octets)
same_ip_decides (V4 a) (V6 b) = (λ t. absurd (false≢true t), λ e. absurd (let z : ◌≡◌ {A = ℕ} 0 1 = cc in omega arith))
same_ip_decides (V6 a) (V4 b) = (λ t. absurd (false≢true t), λ e. absurd (let z : ◌≡◌ {A = ℕ} 0 1 = cc in omega arith))
same_ip_decides (V6 a) (V6 b) = Decides-like _ (λ e. ap V6 (same_v6 a b e)) (λ e. ap octets_of e) (bytes_eq-Decides a.octets b.octets)
