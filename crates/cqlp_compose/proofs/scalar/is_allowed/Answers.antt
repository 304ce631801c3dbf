use Rattle.std.proofs.Common.{◌≡◌, SFits, true, false, ltb, eqb, not, of_z, rules, length, sym, ap, ◌∙◌, refl}
use Rattle.std.specs.Int.{w64}
use Rattle.std.specs.Str.{is_utf8}
use Rattle.std.proofs.Math.Facts.{to_z-of_z}
use Rattle.std.proofs.lemmas.Bool.{eq-eqb}
use Rattle.std.proofs.lemmas.Str.{IsUtf8-from_is_utf8}
use Rattle.cqlp_kind.specs.declared.scalars.Scalar.{Scalar}
use Rattle.cqlp_kind.specs.declared.scalars.Scalar.TheVariants as scalar
use Rattle.cqlp_kind.specs.Contents.{value_of}
use Rattle.cqlp_kind.specs.Scalars.{scalar_fits, IsInRange, Varchar}
use Rattle.cqlp_value.proofs.ScalarFits.{some_bytes, custom_fits, blob_fits, varint_fits, raw_fits, ascii_fits, varchar_fits, decimal_fits, timeuuid_fits, time_fits}
use Rattle.cqlp_compose.proofs.Allowed.{IsOther, other_fits}
use Rattle.cqlp_compose.proofs.scalar.is_allowed.Goals as goal

pub returns-in-Custom : goal.returns-in-Custom
returns-in-Custom c = rw c.in-Custom.is (ap not c.is_empty.ensures ∙ some_bytes _ ∙ sym (custom_fits _))

pub returns-in-Blob : goal.returns-in-Blob
returns-in-Blob c = rw c.in-Blob.is (ap not c.is_empty-in-Blob.ensures ∙ some_bytes _ ∙ sym (blob_fits _))

pub returns-in-Varint : goal.returns-in-Varint
returns-in-Varint c = rw c.in-Varint.is (ap not c.is_empty-in-Varint.ensures ∙ some_bytes _ ∙ sym (varint_fits _))

pub returns-in-Raw : goal.returns-in-Raw
returns-in-Raw c = rw c.in-Raw.is (ap not c.is_empty-in-Raw.ensures ∙ some_bytes _ ∙ sym (raw_fits _))

pub returns-then-not-is_empty : goal.returns-then-not-is_empty
returns-then-not-is_empty c =
    let s = c.in-Ascii.text.now in
    let empty : false ≡ eqb (length s) 0 = c.if-not-is_empty.ensures in
    let some : ltb 0 (length s) ≡ true = sym (some_bytes (length s)) ∙ ap not (sym empty) in
    rw c.in-Ascii.is (ascii_fits s c.is_ascii.result c.is_ascii.ensures.cases some)

pub returns-in-Varchar : goal.returns-in-Varchar
returns-in-Varchar c =
    let s = c.in-Varchar.text.now in
    let text : is_utf8 s ≡ true = rw c.in-Varchar.is at c.requires in
    rw c.in-Varchar.is (ap not c.is_empty-in-Varchar.ensures ∙ some_bytes _ ∙ sym (varchar_fits s (IsUtf8-from_is_utf8 s text)))

pub returns-in-Decimal : goal.returns-in-Decimal
returns-in-Decimal c = rw c.in-Decimal.is (ap not c.is_empty-in-Decimal.ensures ∙ some_bytes _ ∙ sym (decimal_fits _ c.in-Decimal.scale))

pub returns-in-Timeuuid : goal.returns-in-Timeuuid
returns-in-Timeuuid c =
    let long : length c.in-Timeuuid.bytes ≡ 16 = rw c.in-Timeuuid.is at c.requires in
    rw c.in-Timeuuid.is (timeuuid_fits _ (eq-eqb _ _ long))

pub returns-in-Time : goal.returns-in-Time
returns-in-Time c =
    let z = c.in-Time.number in
    let fits : SFits w64 z = search rules in
    rw c.in-Time.is (time_fits z _ c.cast_unsigned.type_inv (c.cast_unsigned.ensures ∙ ap (of_z w64) (to_z-of_z {w = w64} fits)))

default_is : (s : Scalar) (c : goal.In_default) → c.args.scalar.now ≡ s → IsOther (value_of s)
default_is (scalar.Custom x) c e = c.in_default.not-Custom x e
default_is (scalar.Ascii x) c e = c.in_default.not-Ascii x e
default_is (scalar.Blob x) c e = c.in_default.not-Blob x e
default_is (scalar.Varchar x) c e = c.in_default.not-Varchar x e
default_is (scalar.Varint x) c e = c.in_default.not-Varint x e
default_is (scalar.Timeuuid x) c e = c.in_default.not-Timeuuid x e
default_is (scalar.Time x) c e = c.in_default.not-Time x e
default_is (scalar.Raw x) c e = c.in_default.not-Raw x e
default_is (scalar.Decimal z x) c e = c.in_default.not-Decimal z x e
default_is s c e = tt

pub returns-in_default : goal.returns-in_default
returns-in_default c = other_fits _ c.requires (default_is c.args.scalar.now c refl)
