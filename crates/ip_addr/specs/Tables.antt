-- The special-purpose address registries of RFC 6890, sections 2.2.2 and 2.2.3, row by row: the block, its
-- prefix, and its entry "Global".
use Rattle.std.specs.Prelude.{ℕ, List, [], ◌∷◌}
use Rattle.std.specs.Int.Digits.{number_from_digits}
use Rattle.ip_addr.specs.declared.block.Block.{Block}
use Rattle.ip_addr.specs.declared.global.Global.{Global}
use Rattle.ip_addr.specs.declared.global.Global.TheVariants.{True, False, NotApplicable}

-- a row of the IPv4 registry: the four octets of the block's base, as they are written, its prefix, and
-- its entry "Global"
abbrev pub v4_row : ℕ → ℕ → ℕ → ℕ → ℕ → Global → Block
v4_row a b c d prefix global = record { base = number_from_digits 256 (a ∷ b ∷ c ∷ d ∷ []); prefix = prefix; global = global }

-- a row of the IPv6 registry: the eight groups of 16 bits of the block's base, as they are written
abbrev pub v6_row : ℕ → ℕ → ℕ → ℕ → ℕ → ℕ → ℕ → ℕ → ℕ → Global → Block
v6_row a b c d e f g h prefix global =
    record { base = number_from_digits 65536 (a ∷ b ∷ c ∷ d ∷ e ∷ f ∷ g ∷ h ∷ []); prefix = prefix; global = global }

-- section 2.2.2
abbrev pub v4_table : List Block
v4_table =
    -- 0.0.0.0/8: this host on this network
    v4_row 0 0 0 0 8 False
    -- 10.0.0.0/8: private use
    ∷ v4_row 10 0 0 0 8 False
    -- 100.64.0.0/10: shared address space
    ∷ v4_row 100 64 0 0 10 False
    -- 127.0.0.0/8: loopback
    ∷ v4_row 127 0 0 0 8 False
    -- 169.254.0.0/16: link local
    ∷ v4_row 169 254 0 0 16 False
    -- 172.16.0.0/12: private use
    ∷ v4_row 172 16 0 0 12 False
    -- 192.0.0.0/24: IETF protocol assignments
    ∷ v4_row 192 0 0 0 24 False
    -- 192.0.0.0/29: DS-Lite
    ∷ v4_row 192 0 0 0 29 False
    -- 192.0.2.0/24: documentation, TEST-NET-1
    ∷ v4_row 192 0 2 0 24 False
    -- 192.88.99.0/24: 6to4 relay anycast
    ∷ v4_row 192 88 99 0 24 True
    -- 192.168.0.0/16: private use
    ∷ v4_row 192 168 0 0 16 False
    -- 198.18.0.0/15: network interconnect device benchmark testing
    ∷ v4_row 198 18 0 0 15 False
    -- 198.51.100.0/24: documentation, TEST-NET-2
    ∷ v4_row 198 51 100 0 24 False
    -- 203.0.113.0/24: documentation, TEST-NET-3
    ∷ v4_row 203 0 113 0 24 False
    -- 240.0.0.0/4: reserved for future use
    ∷ v4_row 240 0 0 0 4 False
    -- 255.255.255.255/32: limited broadcast
    ∷ v4_row 255 255 255 255 32 False
    ∷ []

-- section 2.2.3
abbrev pub v6_table : List Block
v6_table =
    -- ::1/128: loopback address
    v6_row 0 0 0 0 0 0 0 1 128 False
    -- ::/128: unspecified address
    ∷ v6_row 0 0 0 0 0 0 0 0 128 False
    -- 64:ff9b::/96: IPv4-IPv6 translation
    ∷ v6_row 0x64 0xff9b 0 0 0 0 0 0 96 True
    -- ::ffff:0:0/96: IPv4-mapped address
    ∷ v6_row 0 0 0 0 0 0xffff 0 0 96 False
    -- 100::/64: discard-only address block
    ∷ v6_row 0x100 0 0 0 0 0 0 0 64 False
    -- 2001::/23: IETF protocol assignments
    ∷ v6_row 0x2001 0 0 0 0 0 0 0 23 False
    -- 2001::/32: TEREDO
    ∷ v6_row 0x2001 0 0 0 0 0 0 0 32 False
    -- 2001:2::/48: benchmarking
    ∷ v6_row 0x2001 2 0 0 0 0 0 0 48 False
    -- 2001:db8::/32: documentation
    ∷ v6_row 0x2001 0xdb8 0 0 0 0 0 0 32 False
    -- 2001:10::/28: ORCHID
    ∷ v6_row 0x2001 0x10 0 0 0 0 0 0 28 False
    -- 2002::/16: 6to4
    ∷ v6_row 0x2002 0 0 0 0 0 0 0 16 NotApplicable
    -- fc00::/7: unique local
    ∷ v6_row 0xfc00 0 0 0 0 0 0 0 7 False
    -- fe80::/10: link-scoped unicast
    ∷ v6_row 0xfe80 0 0 0 0 0 0 0 10 False
    ∷ []
