-- Times in seconds, with up to nine digits after the point.
use Rattle.std.specs.Prelude.{ℕ, ◌+◌, ◌-◌, ◌*◌, ◌^◌, Bool, ◌&&◌, ◌==◌, nat_le, nat_lt, List, [], ◌∷◌, Option, Some, None, if◌then◌else◌}

abbrev pub is_digit : ℕ → Bool
is_digit c = nat_le 48 c && nat_le c 57

-- n, and further digits, of which so many may come, in the unit of the last that may
abbrev pub with_places : (places n : ℕ) → List ℕ → Option ℕ
with_places places n [] = Some (n * 10 ^ places)
with_places places n (c ∷ cs) =
    if is_digit c && nat_lt 0 places then with_places (places - 1) (n * 10 + (c - 48)) cs else None

-- n, and further digits; and behind a point up to nine
abbrev pub with_digits : (n : ℕ) → List ℕ → Option ℕ
with_digits n [] = with_places 9 n []
with_digits n (c ∷ cs) =
    if c == 46 then with_places 9 n cs else if is_digit c then with_digits (n * 10 + (c - 48)) cs else None

-- the nanoseconds in so many seconds, a number that begins with a digit
abbrev pub nanoseconds_of : List ℕ → Option ℕ
nanoseconds_of [] = None
nanoseconds_of (c ∷ cs) = if is_digit c then with_digits (c - 48) cs else None
