-- One pass over a name from left to right, by what has been read of the label that it stands in.
use Rattle.std.specs.Prelude.{ℕ, ◌+◌, Bool, true, false, cond, not, ◌&&◌, ◌||◌, Some, None, Option, nat_lt}
use Rattle.hostname.specs.Names.{is_letter, is_digit, is_hyphen, is_dot}
use Rattle.hostname.specs.declared.label.Label.{Label}

-- a label before its first byte
abbrev pub nothing_read : Label
nothing_read = record { len = 0; hyphen = false }

-- whether a label may end here
abbrev pub may_end : Label → Bool
may_end l = nat_lt 0 l.len && not l.hyphen

-- a label with one byte more, which is a hyphen or not; none if it has 63 already
abbrev pub longer : Label → Bool → Option Label
longer l hyphen = cond (nat_lt l.len 63) (Some (record { len = l.len + 1; hyphen = hyphen })) None

-- what has been read past a dot; none if the label may not end
abbrev pub past_dot : Label → Option Label
past_dot l = cond (may_end l) (Some nothing_read) None

-- what has been read after a byte that is no dot; none if it may not stand there
abbrev pub in_label : Label → ℕ → Option Label
in_label l c =
    cond (is_hyphen c)
    (cond (nat_lt 0 l.len) (longer l true) None)
    (cond (is_letter c || is_digit c) (longer l false) None)

-- what has been read after one byte more; none if no name goes on like that
abbrev pub after : Label → ℕ → Option Label
after l c = cond (is_dot c) (past_dot l) (in_label l c)
