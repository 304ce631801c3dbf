-- Scalars out of their bytes.
use Rattle.std.specs.Prelude.{ℕ, List, length, Result, Ok, Err, if◌then◌else◌}
use Rattle.std.specs.Option.{ok_or}
use Rattle.cqlp_note.specs.declared.refusal.Reason.{Reason}
use Rattle.cqlp_note.specs.declared.refusal.Reason.TheVariants.{BadSize}
use Rattle.cqlp_kind.specs.declared.kind.Kind.{Kind}
use Rattle.cqlp_kind.specs.declared.scalars.Scalar.{Scalar}
use Rattle.cqlp_kind.specs.declared.scalars.Scalar.TheVariants as scalar
use Rattle.cqlp_kind.specs.Scalars.{ScalarValue, Custom, Blob, Raw, Varint, Double, Float, Uuid, Timeuuid, Ascii, Varchar, Bigint}
use Rattle.cqlp_kind.specs.Scalars.{Counter, Timestamp, Time, Int, Smallint, Tinyint, Date, Boolean, Decimal, Inet, allows_size}
use Rattle.cqlp_kind.specs.Scalars.{scalar_of, fault_of}

-- what a scalar holds, without where its bytes lie
abbrev pub value_of : Scalar → ScalarValue
value_of (scalar.Custom c) = Custom c.now
value_of (scalar.Ascii c) = Ascii c.now
value_of (scalar.Bigint z) = Bigint z
value_of (scalar.Blob c) = Blob c.now
value_of (scalar.Boolean b) = Boolean b
value_of (scalar.Counter z) = Counter z
value_of (scalar.Decimal z c) = Decimal z c.now
value_of (scalar.Double c) = Double c
value_of (scalar.Float c) = Float c
value_of (scalar.Int z) = Int z
value_of (scalar.Timestamp z) = Timestamp z
value_of (scalar.Uuid c) = Uuid c
value_of (scalar.Varchar c) = Varchar c.now
value_of (scalar.Varint c) = Varint c.now
value_of (scalar.Timeuuid c) = Timeuuid c
value_of (scalar.Inet a) = Inet a
value_of (scalar.Date n) = Date n
value_of (scalar.Time z) = Time z
value_of (scalar.Smallint z) = Smallint z
value_of (scalar.Tinyint z) = Tinyint z
value_of (scalar.Raw c) = Raw c.now

-- What a content that is not empty is in a cell of a scalar kind: its size is looked at first.
abbrev pub scalar_in : Kind → List ℕ → Result ScalarValue Reason
scalar_in k c = if allows_size k (length c) then ok_or (scalar_of k c) (fault_of k) else Err BadSize

abbrev pub value_in : Result Scalar Reason → Result ScalarValue Reason
value_in (Ok s) = Ok (value_of s)
value_in (Err why) = Err why
