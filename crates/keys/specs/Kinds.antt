-- The two kinds of key: which bytes each reads as a key.
use Rattle.std.specs.Prelude.{◌≡◌, ℕ, ◌^◌, ◌<◌, ◌≤◌, Bool, true, cond, ◌&&◌, ◌⊎◌, List, [], ◌∷◌, length, Some, None, Option, ◌==◌, ◌≢◌, nat_lt}
use Rattle.std.proofs.Common.{inl, inr}
use Rattle.std.specs.Int.Digits.{number_from_digits}
use Rattle.std.proofs.lemmas.Bool.{cases_eq, cases_lt}
use Rattle.keys.specs.declared.station_key.StationKey.{StationKey}
use Rattle.keys.specs.declared.seat_number.SeatNumber.{SeatNumber}

-- a station key, if the number of its bytes is 32
abbrev pub station_if : (bytes : List ℕ) → (length bytes ≡ 32) ⊎ (length bytes ≢ 32) → Option StationKey
station_if bytes (inl whole) = Some (record { bytes = bytes; whole = whole })
station_if bytes (inr other) = None

-- any 32 bytes are a station key, and nothing else is
abbrev pub station_of : List ℕ → Option StationKey
station_of bytes = station_if bytes (cases_eq (length bytes) 32)

-- whether each number of a list is a byte
abbrev pub all_bytes : List ℕ → Bool
all_bytes [] = true
all_bytes (b ∷ bs) = nat_lt b 256 && all_bytes bs

-- a seat number, if it has 64 bits
abbrev pub seat_if : (n : ℕ) → (n < 2 ^ 64) ⊎ (2 ^ 64 ≤ n) → Option SeatNumber
seat_if n (inl small) = Some (record { number = n; small = small })
seat_if n (inr large) = None

-- any 8 bytes are a seat number, the highest byte first, and nothing else is
abbrev pub seat_of : List ℕ → Option SeatNumber
seat_of bytes = cond (length bytes == 8 && all_bytes bytes) (seat_if (number_from_digits 256 bytes) (cases_lt (number_from_digits 256 bytes) (2 ^ 64))) None
