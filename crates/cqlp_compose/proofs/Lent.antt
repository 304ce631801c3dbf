-- For each scalar of an event there is a value that owns its content.
use Rattle.std.proofs.Common.{◌≡◌, ℕ, ◌<◌, ◌≤◌, ◌^◌, List, length, refl, sym, arith, true}
use Rattle.std.specs.declared.vec.Vec.{Vec}
use Rattle.std.specs.declared.string.String.{String}
use Rattle.std.specs.declared.alloc.Global.{Global}
use Rattle.std.specs.Str.{is_utf8}
use Rattle.std.proofs.lemmas.Str.{IsUtf8-from_is_utf8}
use denote.RawPtr.{null_ptr}
use Rattle.cqlp_kind.specs.Scalars.{ScalarValue, IsInRange, content_of, Custom, Blob, Raw, Varint, Double, Float, Uuid, Timeuuid, Ascii, Varchar, Bigint, Counter, Timestamp, Time, Int, Smallint, Tinyint, Date, Boolean, Decimal, Inet}
use Rattle.cqlp_value.specs.declared.value.Atom.{Atom}
use Rattle.cqlp_value.specs.declared.value.Atom.TheVariants as atom
use Rattle.cqlp_value.specs.Owned.{atom_of}

module _ (g : Global) where
  abbrev pub a_vec : (c : List ℕ) → length c < 2 ^ 63 → Vec ℕ Global
  a_vec c small = record { ptr = null_ptr; len = length c; cap = length c; alloc = g; items = c; ok = (refl, omega arith); small = small }

  abbrev a_string : (c : List ℕ) → length c < 2 ^ 63 → is_utf8 c ≡ true → String Global
  a_string c small text = record { bytes = a_vec c small; ok = ∣ IsUtf8-from_is_utf8 c text ∣₁ }

  pub an_atom : (v : ScalarValue) → IsInRange v → length (content_of v) < 2 ^ 32 → (a : Atom) × (atom_of a ≡ v)
  an_atom (Custom c) r s = (atom.Custom (a_vec c (omega (arith, s))), refl)
  an_atom (Blob c) r s = (atom.Blob (a_vec c (omega (arith, s))), refl)
  an_atom (Raw c) r s = (atom.Raw (a_vec c (omega (arith, s))), refl)
  an_atom (Varint c) r s = (atom.Varint (a_vec c (omega (arith, s))), refl)
  an_atom (Double c) r s = (atom.Double c, refl)
  an_atom (Float c) r s = (atom.Float c, refl)
  an_atom (Uuid c) r s = (atom.Uuid c, refl)
  an_atom (Timeuuid c) r s = (atom.Timeuuid c, refl)
  an_atom (Ascii c) r s = (atom.Ascii (a_string c (omega (arith, s)) r), refl)
  an_atom (Varchar c) r s = (atom.Varchar (a_string c (omega (arith, s)) r), refl)
  an_atom (Bigint z) r s = (atom.Bigint z, refl)
  an_atom (Counter z) r s = (atom.Counter z, refl)
  an_atom (Timestamp z) r s = (atom.Timestamp z, refl)
  an_atom (Time z) r s = (atom.Time z, refl)
  an_atom (Int z) r s = (atom.Int z, refl)
  an_atom (Smallint z) r s = (atom.Smallint z, refl)
  an_atom (Tinyint z) r s = (atom.Tinyint z, refl)
  an_atom (Date n) r s = (atom.Date n, refl)
  an_atom (Boolean b) r s = (atom.Boolean b, refl)
  an_atom (Decimal z c) r s = (atom.Decimal z (a_vec c (omega (arith, s))), refl)
  an_atom (Inet a) r s = (atom.Inet a, refl)
