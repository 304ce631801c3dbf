-- Readers: how much the bytes so far say of what is read.
use Rattle.std.specs.Prelude.{ℕ, ◌+◌, List, length, take, drop, nat_lt, if◌then◌else◌}
use Rattle.std.specs.Int.{Width, from_be_bytes}

-- What the bytes so far say: nothing yet, a fault, or a value and how many bytes it takes.
pub data Said (A F : Type 0) : Type 0 where
  More : Said A F
  Bad : F → Said A F
  Got : A → (used : ℕ) → Said A F

-- A reader gives a value, or refuses, or takes the next n bytes and goes by them; one that idles has nothing left to
-- read. So each fault is found as soon as the bytes that it speaks of are there.
pub data Reader (A F : Type 0) : Type 0 where
  Gives : A → Reader A F
  Refuses : F → Reader A F
  Takes : (n : ℕ) → (List ℕ → Reader A F) → Reader A F
  Idles : Reader A F

-- what a reader that has taken this many bytes says of those after them
abbrev pub says : {A F : Type 0} → Reader A F → (taken : ℕ) → List ℕ → Said A F
says (Gives v) taken bytes = Got v taken
says (Refuses why) taken bytes = Bad why
says Idles taken bytes = More
says (Takes n next) taken bytes =
    if nat_lt (length bytes) n then More else says (next (take n bytes)) (taken + n) (drop n bytes)

-- n bytes that a container with this much room has to hold
abbrev pub fits : {A F : Type 0} → F → (room n : ℕ) → Reader A F → Reader A F
fits fault room n next = if nat_lt room n then Refuses fault else next

-- a number of n bytes, the highest byte first (section 3)
unfoldable pub number_of : {A F : Type 0} → F → (n : ℕ) → Width → (room : ℕ) → (ℕ → Reader A F) → Reader A F
number_of fault n w room next = fits fault room n (Takes n (λ b. next (from_be_bytes w b)))
