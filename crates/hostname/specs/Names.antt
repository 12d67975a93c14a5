-- Names of hosts, after RFC 1123, section 2.1, which takes the grammar of RFC 952 and lets the first
-- character be a digit too. A name is one label or more with dots between them. A label is made of letters of both cases,
-- digits and hyphens, and neither begins nor ends with a hyphen. A label has 1 to 63 bytes, a name 1 to 253.
use Rattle.std.specs.Prelude.{ℕ, Bool, true, false, cond, not, ◌&&◌, ◌||◌, List, [], ◌∷◌, length, ◌==◌, nat_le}

-- whether a byte is one from the first to the last of a range
abbrev pub in_range : ℕ → ℕ → ℕ → Bool
in_range first last c = nat_le first c && nat_le c last

-- A to Z and a to z
abbrev pub is_letter : ℕ → Bool
is_letter c = in_range 65 90 c || in_range 97 122 c

-- 0 to 9
abbrev pub is_digit : ℕ → Bool
is_digit c = in_range 48 57 c

abbrev pub is_hyphen : ℕ → Bool
is_hyphen c = c == 45

abbrev pub is_dot : ℕ → Bool
is_dot c = c == 46

-- whether a byte may stand in a label
abbrev pub is_label_byte : ℕ → Bool
is_label_byte c = is_letter c || is_digit c || is_hyphen c

-- whether a test holds of each element of a list
abbrev pub all : {X : Type 0} → (X → Bool) → List X → Bool
all test [] = true
all test (x ∷ xs) = test x && all test xs

abbrev pub hyphen_first : List ℕ → Bool
hyphen_first [] = false
hyphen_first (c ∷ cs) = is_hyphen c

abbrev pub hyphen_last : List ℕ → Bool
hyphen_last [] = false
hyphen_last (c ∷ []) = is_hyphen c
hyphen_last (c ∷ d ∷ cs) = hyphen_last (d ∷ cs)

-- whether bytes are a label
abbrev pub is_label : List ℕ → Bool
is_label l = nat_le 1 (length l) && nat_le (length l) 63 && all is_label_byte l && not (hyphen_first l) && not (hyphen_last l)

-- a list of labels, the first of them with a byte put in front
abbrev pub with_first : ℕ → List (List ℕ) → List (List ℕ)
with_first c [] = (c ∷ []) ∷ []
with_first c (l ∷ ls) = (c ∷ l) ∷ ls

-- What stands between the dots of a text: one label more than there are dots. A dot at the front, at the end or
-- behind another one leaves an empty label.
abbrev pub labels : List ℕ → List (List ℕ)
labels [] = [] ∷ []
labels (c ∷ cs) = cond (is_dot c) ([] ∷ labels cs) (with_first c (labels cs))

-- whether bytes are a name of a host
abbrev pub well_formed : List ℕ → Bool
well_formed bytes = nat_le 1 (length bytes) && nat_le (length bytes) 253 && all is_label (labels bytes)
