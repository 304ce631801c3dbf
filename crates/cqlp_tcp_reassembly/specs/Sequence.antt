-- Sequence numbers, which wrap at 2^32 (RFC 9293, section 3.4).
use Rattle.std.specs.Prelude.{ℕ, ◌+◌, ◌-◌, ◌%◌, ◌^◌, nat_lt, if◌then◌else◌}
use Rattle.cqlp_tcp_reassembly.specs.declared.sequence.Distance.{Distance}
use Rattle.cqlp_tcp_reassembly.specs.declared.sequence.Distance.TheVariants.{Ahead, Behind}

-- how many numbers it is up from one number to another
abbrev pub up : (from to : ℕ) → ℕ
up from to = (to + (2 ^ 32 - from)) % 2 ^ 32

-- the shorter way
abbrev pub distance : (from to : ℕ) → Distance
distance from to = if nat_lt (up from to) (2 ^ 31) then Ahead (up from to) else Behind (up to from)
