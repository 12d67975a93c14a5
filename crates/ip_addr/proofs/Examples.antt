-- Addresses inside the blocks and just outside them, by computation.
use Rattle.std.proofs.Common.{◌≡◌, ℕ, ◌/◌, ◌%◌, Bool, true, not, ◌&&◌, List, [], ◌∷◌, Some, None, refl}
use Rattle.ip_addr.specs.declared.global.Global.TheVariants.{False}
use Rattle.ip_addr.specs.declared.ip_addr.IpAddr.{IpAddr}
use Rattle.ip_addr.specs.declared.ip_addr.IpAddr.TheVariants.{V4, V6}
use Rattle.ip_addr.specs.Tables.{v4_row, v6_row}
use Rattle.ip_addr.specs.Addresses.{is_global, most_specific}

abbrev v4 : ℕ → ℕ → ℕ → ℕ → IpAddr
v4 a b c d = V4 (record { octets = a ∷ b ∷ c ∷ d ∷ []; whole = refl })

-- an IPv6 address whose groups of 16 bits are 0 but for the first two and the last
abbrev v6 : ℕ → ℕ → ℕ → IpAddr
v6 a b z =
    V6 (record { octets = a / 256 ∷ a % 256 ∷ b / 256 ∷ b % 256 ∷ 0 ∷ 0 ∷ 0 ∷ 0 ∷ 0 ∷ 0 ∷ 0 ∷ 0 ∷ 0 ∷ 0 ∷ z / 256 ∷ z % 256 ∷ []; whole = refl })

abbrev all_global : List IpAddr → Bool
all_global [] = true
all_global (ip ∷ ips) = is_global ip && all_global ips

abbrev none_global : List IpAddr → Bool
none_global [] = true
none_global (ip ∷ ips) = not (is_global ip) && none_global ips

-- among them an address of each block that is marked True, and multicast addresses
global_v4 : all_global (v4 1 0 0 0 ∷ v4 8 8 8 8 ∷ v4 100 63 255 255 ∷ v4 100 128 0 0 ∷ v4 172 15 255 255 ∷ v4 172 32 0 0 ∷ v4 192 0 1 0 ∷ v4 192 88 99 1 ∷ v4 198 20 0 0 ∷ v4 224 0 0 1 ∷ v4 239 255 255 255 ∷ []) ≡ true
global_v4 = refl

global_v6 : all_global (v6 0 0 2 ∷ v6 0x64 0xff9b 1 ∷ v6 0x2001 0x200 0 ∷ v6 0x2001 0xdb9 0 ∷ v6 0x2003 0 1 ∷ v6 0xfbff 0xffff 1 ∷ v6 0xfec0 0 0 ∷ v6 0xff02 0 1 ∷ []) ≡ true
global_v6 = refl

not_global_v4 : none_global (v4 0 255 255 255 ∷ v4 10 0 0 1 ∷ v4 100 64 0 0 ∷ v4 100 127 255 255 ∷ v4 127 0 0 1 ∷ v4 172 16 0 0 ∷ v4 172 31 255 255 ∷ v4 192 0 0 255 ∷ v4 198 19 255 255 ∷ v4 240 0 0 0 ∷ v4 255 255 255 255 ∷ []) ≡ true
not_global_v4 = refl

-- among them an address of the block that is marked N/A
not_global_v6 : none_global (v6 0 0 0 ∷ v6 0 0 1 ∷ v6 0x100 0 1 ∷ v6 0x2001 0x1ff 0 ∷ v6 0x2001 0xdb8 1 ∷ v6 0x2002 0xffff 1 ∷ v6 0xfdff 0 1 ∷ v6 0xfebf 0xffff 1 ∷ []) ≡ true
not_global_v6 = refl

in_no_block : most_specific (v4 8 8 8 8) ≡ None
in_no_block = refl

in_the_longer : most_specific (v4 192 0 0 7) ≡ Some (v4_row 192 0 0 0 29 False)
in_the_longer = refl

past_the_longer : most_specific (v4 192 0 0 8) ≡ Some (v4_row 192 0 0 0 24 False)
past_the_longer = refl

in_the_longer-v6 : most_specific (v6 0x2001 0x1f 1) ≡ Some (v6_row 0x2001 0x10 0 0 0 0 0 0 28 False)
in_the_longer-v6 = refl

past_the_longer-v6 : most_specific (v6 0x2001 0x20 1) ≡ Some (v6_row 0x2001 0 0 0 0 0 0 0 23 False)
past_the_longer-v6 = refl
