-- What a hostname holds.
use Rattle.std.proofs.Common.{◌≡◌, ◌-◌, ◌≤◌, ◌&&◌, eqb, Bool, ◌++◌, length, take, drop, replicate, sym, ap, ◌∙◌, refl, arith}
use mathlib.Core.List.{is_set}
use mathlib.Core.HLevel.{is_prop→PathP}
use native.Mathlib.Nat.{ℕ_set}
use native.Mathlib.Bridge.{le_prop}
use Rattle.std.proofs.lemmas.List.{take-append-drop, length-take-le}
use Rattle.std.specs.Cmp.Lexicographic.{pointwise}
use Rattle.std.proofs.lemmas.Bool.Decides.{Decides-eqb, Decides-and, Decides-like, Decides-at, same_from_decides}
use Rattle.std.proofs.lemmas.Slice.Eq.{bytes_eq-Decides, slice_eq-Decides}
use Rattle.hostname.specs.Held.{host_bytes, same_host}
use Rattle.hostname.specs.declared.hostname.Hostname.{Hostname}

-- a name's length

pub length_host : (h : Hostname) → length (host_bytes h) ≡ h.len
length_host h = length-take-le h.len h.bytes (omega (arith, h.short, h.whole))

pub few_bytes : (h : Hostname) → length (host_bytes h) ≤ 253
few_bytes h = omega (arith, length_host h, h.short)

-- two names of the same bytes are the same

same_len : (a b : Hostname) → host_bytes a ≡ host_bytes b → a.len ≡ b.len
same_len a b e = sym (length_host a) ∙ ap length e ∙ length_host b

whole_host : (h : Hostname) → h.bytes ≡ host_bytes h ++ replicate (253 - h.len) 0
whole_host h = sym (take-append-drop h.len h.bytes) ∙ ap (λ r. host_bytes h ++ r) h.padded

same_bytes : (a b : Hostname) → host_bytes a ≡ host_bytes b → a.bytes ≡ b.bytes
same_bytes a b e =
    whole_host a
    ∙ ap (λ x. x ++ replicate (253 - a.len) 0) e
    ∙ ap (λ n. host_bytes b ++ replicate (253 - n) 0) (same_len a b e)
    ∙ sym (whole_host b)

pub host_from_bytes : (a b : Hostname) → host_bytes a ≡ host_bytes b → a ≡ b
host_from_bytes a b e =
    let n = same_len a b e in
    let s = same_bytes a b e in
    λ i.
    record {
      bytes = s i;
      len = n i;
      whole = is_prop→PathP (λ i. length (s i) ≡ 253) (λ i. ℕ_set (length (s i)) 253) a.whole b.whole i;
      short = is_prop→PathP (λ i. n i ≤ 253) (λ i. le_prop) a.short b.short i;
      padded = is_prop→PathP (λ i. drop (n i) (s i) ≡ replicate (253 - n i) 0) (λ i. is_set ℕ_set (drop (n i) (s i)) (replicate (253 - n i) 0)) a.padded b.padded i;
    }

-- what `==` says of the fields of two names is what it says of their bytes
pub same_from_fields : (a b : Hostname) (r : Bool) → r ≡ (pointwise eqb a.bytes b.bytes && eqb a.len b.len) → r ≡ same_host a b
same_from_fields a b r e =
    same_from_decides r _
    (Decides-at r _ e
    (Decides-like _
    (λ h. ap (λ n. take n a.bytes) h.1 ∙ ap (λ bs. take b.len bs) h.0)
    (λ e. (same_bytes a b e, same_len a b e))
    (Decides-and _ _ (slice_eq-Decides Decides-eqb a.bytes b.bytes _ refl) (Decides-eqb a.len b.len))))
    (bytes_eq-Decides (host_bytes a) (host_bytes b))
