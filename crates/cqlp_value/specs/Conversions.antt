-- Values of a program's own as values of cells.
use Rattle.std.specs.Prelude.{◌≡◌, ℕ, pos, ◌+ℤ◌, ◌^◌, Option, Some, None, is_nan, to_bits, if◌then◌else◌}
use lib.Ieee.{Float, binary32, binary64}
use Rattle.std.specs.Net.Addr.{ipv4_octets, ipv6_octets}
use Rattle.std.specs.declared.net.ip_addr.IpAddr.{IpAddr}
use Rattle.std.specs.declared.net.ip_addr.IpAddr.TheVariants as ip
use Rattle.jiff_core.specs.declared.civil.date.Date.{Date}
use Rattle.jiff_core.specs.Date.{epoch_day}
use Rattle.cqlp_note.specs.declared.prim.Address.{Address}
use Rattle.cqlp_note.specs.declared.prim.Address.TheVariants as address
use Rattle.cqlp_value.specs.declared.value.Atom.TheVariants as atom
use Rattle.cqlp_value.specs.declared.value.Value.{Value, Null, Leaf}

-- the bits of a binary32, where each NaN is the quiet one without a sign
abbrev pub float_bits : Float → ℕ
float_bits x = if is_nan x then 0x7fc00000 else to_bits binary32 x

-- the same of a binary64
abbrev pub double_bits : Float → ℕ
double_bits x = if is_nan x then 0x7ff8000000000000 else to_bits binary64 x

abbrev pub inet_of : IpAddr → Address
inet_of (ip.V4 a) = address.V4 (ipv4_octets a)
inet_of (ip.V6 a) = address.V6 (ipv6_octets a)

-- A date's day is its distance from the first of January 1970, whose day is 2^31.
pub record IsDay (d : Date) (v : Value) : Type 0 where
  pub day : ℕ
  pub is : v ≡ Leaf (atom.Date day)
  pub distance : pos day ≡ pos (2 ^ 31) +ℤ epoch_day d

-- null where there is none, and else what becomes of what there is
abbrev pub value_or_null : {X : Type 0} → (X → Value → Type 0) → Option X → Value → Type 0
value_or_null gives None v = v ≡ Null
value_or_null gives (Some x) v = gives x v
