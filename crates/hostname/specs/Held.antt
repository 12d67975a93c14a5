-- What a hostname holds: a list of bytes.
use Rattle.std.specs.Prelude.{ℕ, Bool, cond, List, length, take, Some, None, Option, nat_lt, slice_index}
use Rattle.std.specs.Str.{bytes_eq}
use Rattle.hostname.specs.declared.hostname.Hostname.{Hostname}

-- the bytes of a name
abbrev pub host_bytes : Hostname → List ℕ
host_bytes h = take h.len h.bytes

-- the byte at a place, or none past the last
abbrev pub byte_of : List ℕ → ℕ → Option ℕ
byte_of cs i = cond (nat_lt i (length cs)) (Some (slice_index cs i)) None

-- whether two names have the same bytes
abbrev pub same_host : Hostname → Hostname → Bool
same_host a b = bytes_eq (host_bytes a) (host_bytes b)
