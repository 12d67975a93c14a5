-- The number of the refusal.
use Rattle.std.specs.Prelude.{ℕ}
use Rattle.hostname.specs.declared.malformed_host.MalformedHost.{MalformedHost}

-- a malformed host is refused with 2
abbrev pub number_of : MalformedHost → ℕ
number_of refusal = 2
