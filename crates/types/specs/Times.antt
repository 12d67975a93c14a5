-- Moments and lengths of time.
use Rattle.std.specs.Prelude.{ℕ, ◌+◌, ◌-◌, ◌/◌, ◌%◌, ◌^◌, min, Bool, Some, None, Option, nat_lt}
use Rattle.types.specs.declared.moment.Moment.{Moment}
use Rattle.types.specs.declared.span.Span.{Span}

-- a moment and a length of time later; the sum stops at the last moment there is
abbrev pub plus : Moment → Span → Moment
plus moment span = record { millis = min (moment.millis + span.millis) (2 ^ 64 - 1) }

-- a length drawn from 0 up to half of the given one, rounded down
abbrev pub jitter : Span → ℕ → Span
jitter span draw = record { millis = draw % (span.millis / 2 + 1) }

-- whether one moment is before another
abbrev pub earlier : Moment → Moment → Bool
earlier a b = nat_lt a.millis b.millis

-- the earlier of two moments, or the second where there is no first
abbrev pub earliest : Option Moment → Moment → Moment
earliest None b = b
earliest (Some a) b = record { millis = min a.millis b.millis }
