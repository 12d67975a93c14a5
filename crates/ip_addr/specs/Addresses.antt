-- IP addresses of both kinds: their numbers and registries, whether they are global, and when two are the same.
use Rattle.std.specs.Prelude.{ℕ, Bool, false, not, List, Option}
use Rattle.std.specs.Int.Digits.{number_from_digits}
use Rattle.std.specs.Str.{bytes_eq}
use Rattle.ip_addr.specs.declared.block.Block.{Block}
use Rattle.ip_addr.specs.declared.ip_addr.IpAddr.{IpAddr}
use Rattle.ip_addr.specs.declared.ip_addr.IpAddr.TheVariants.{V4, V6}
use Rattle.ip_addr.specs.Registry.{is_barred, blocks_around, longest, LongestOrNone}
use Rattle.ip_addr.specs.Tables.{v4_table, v6_table}

-- the version of the protocol
abbrev pub kind_number : IpAddr → ℕ
kind_number (V4 a) = 4
kind_number (V6 a) = 6

-- how many bits an address of this kind has
abbrev pub width_of : IpAddr → ℕ
width_of (V4 a) = 32
width_of (V6 a) = 128

-- the octets of an address
abbrev pub octets_of : IpAddr → List ℕ
octets_of (V4 a) = a.octets
octets_of (V6 a) = a.octets

-- the number that the octets write, the highest first
abbrev pub number_of : IpAddr → ℕ
number_of ip = number_from_digits 256 (octets_of ip)

-- the registry for addresses of this kind
abbrev pub table_of : IpAddr → List Block
table_of (V4 a) = v4_table
table_of (V6 a) = v6_table

-- an address is not global exactly if it lies in a block whose entry "Global" is not True; one that lies in no
-- block is global
abbrev pub is_global : IpAddr → Bool
is_global ip = not (is_barred (width_of ip) (number_of ip) (table_of ip))

-- of the blocks in which an address lies, the one with the longest prefix, or none
abbrev pub most_specific : IpAddr → Option Block
most_specific ip = longest (blocks_around (width_of ip) (number_of ip) (table_of ip))

-- that an answer is such a block, or that it is none and the address lies in no block
abbrev pub MostSpecific : IpAddr → Option Block → Type 0
MostSpecific ip answer = LongestOrNone (width_of ip) (number_of ip) (table_of ip) answer

-- whether two addresses are of one kind and have the same octets
abbrev pub same_ip : IpAddr → IpAddr → Bool
same_ip (V4 a) (V4 b) = bytes_eq a.octets b.octets
same_ip (V4 a) (V6 b) = false
same_ip (V6 a) (V4 b) = false
same_ip (V6 a) (V6 b) = bytes_eq a.octets b.octets
