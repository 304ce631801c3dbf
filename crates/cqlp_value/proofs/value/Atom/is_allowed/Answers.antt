use Rattle.std.proofs.Common.{◌≡◌, SFits, true, false, ltb, eqb, not, vec_len, arith, of_z, rules, length, sym, ap, ◌∙◌, refl}
use Rattle.std.specs.Int.{w64}
use Rattle.std.proofs.Math.Facts.{to_z-of_z}
use Rattle.std.specs.Prelude.{string_bytes, string_len}
use Rattle.cqlp_value.specs.declared.value.Atom.{Atom}
use Rattle.cqlp_value.specs.declared.value.Atom.TheVariants as atom
use Rattle.cqlp_value.specs.Owned.{atom_of}
use Rattle.cqlp_kind.specs.Scalars.{scalar_fits}
use Rattle.cqlp_value.proofs.ScalarFits.{HasAnyBytes, others_fit, some_bytes, bytes_fit, ascii_fits, varchar_fits, decimal_fits, double_fits, float_fits, uuid_fits, timeuuid_fits, v4_fits, v6_fits, time_fits}
use Rattle.cqlp_value.proofs.value.Atom.is_allowed.Goals as goal

pub returns-in-Custom : goal.returns-in-Custom
returns-in-Custom c =
    let v = c.in-Custom.bytes in
    let n : vec_len v ≡ length v.items = omega arith in
    let empty : c.is_empty-in-Custom.result ≡ eqb (length v.items) 0 = rw n at c.is_empty-in-Custom.ensures in
    ap not empty ∙ some_bytes _ ∙ sym (bytes_fit c.args.self.now v c.in-Custom.is)

pub returns-then-not-is_empty : goal.returns-then-not-is_empty
returns-then-not-is_empty c =
    let s = string_bytes c.in-Ascii.text in
    let cases = rw c.deref.ensures at c.is_ascii.ensures.cases in
    let n : string_len c.in-Ascii.text ≡ length s = omega arith in
    let empty : false ≡ eqb (length s) 0 = rw n at c.if-not-is_empty.ensures in
    let some : ltb 0 (length s) ≡ true = sym (some_bytes (length s)) ∙ ap not (sym empty) in
    rw c.in-Ascii.is (ascii_fits s c.is_ascii.result cases some)

pub returns-in-Varchar : goal.returns-in-Varchar
returns-in-Varchar c =
    let s = string_bytes c.in-Varchar.text in
    let fits : scalar_fits (atom_of c.args.self.now) ≡ ltb 0 (length s) = rw c.in-Varchar.is (varchar_fits s (rw c.as_str.ensures.value at c.as_str.utf8)) in
    rw (c.is_empty-in-Varchar.ensures, c.as_str.ensures.value) (some_bytes (length s) ∙ sym fits)

pub returns-in-Decimal : goal.returns-in-Decimal
returns-in-Decimal c =
    let v = c.in-Decimal.unscaled in
    let n : vec_len v ≡ length v.items = omega arith in
    let empty : c.is_empty-in-Decimal.result ≡ eqb (length v.items) 0 = rw n at c.is_empty-in-Decimal.ensures in
    rw c.in-Decimal.is (ap not empty ∙ some_bytes _ ∙ sym (decimal_fits v.items c.in-Decimal.scale))

pub returns-in-Double : goal.returns-in-Double
returns-in-Double c = rw c.in-Double.is (c.may_be.ensures ∙ double_fits _)

pub returns-in-Float : goal.returns-in-Float
returns-in-Float c = rw c.in-Float.is (c.may_be-in-Float.ensures ∙ float_fits _)

pub returns-in-Uuid : goal.returns-in-Uuid
returns-in-Uuid c = rw c.in-Uuid.is (c.may_be-in-Uuid.ensures ∙ uuid_fits _)

pub returns-then-may_be : goal.returns-then-may_be
returns-then-may_be c = rw c.in-Timeuuid.is (timeuuid_fits _ (sym c.may_be-in-Timeuuid.ensures ∙ c.if-may_be.true))

pub returns-in-V4 : goal.returns-in-V4
returns-in-V4 c = rw c.in-Inet.is (c.may_be-in-V4.ensures ∙ v4_fits _ _ c.in-V4.is)

pub returns-in-V6 : goal.returns-in-V6
returns-in-V6 c = rw c.in-Inet.is (c.may_be-in-V6.ensures ∙ v6_fits _ _ c.in-V6.is)

pub returns-in-Time : goal.returns-in-Time
returns-in-Time c =
    let z = c.in-Time.number in
    let fits : SFits w64 z = search rules in
    rw c.in-Time.is (time_fits z _ c.cast_unsigned.type_inv (c.cast_unsigned.ensures ∙ ap (of_z w64) (to_z-of_z {w = w64} fits)))

default_is : (a : Atom) (c : goal.In_default) → c.args.self.now ≡ a → HasAnyBytes a
default_is (atom.Custom x) c e = c.in_default.not-Custom x e
default_is (atom.Ascii x) c e = c.in_default.not-Ascii x e
default_is (atom.Blob x) c e = c.in_default.not-Blob x e
default_is (atom.Double x) c e = c.in_default.not-Double x e
default_is (atom.Float x) c e = c.in_default.not-Float x e
default_is (atom.Uuid x) c e = c.in_default.not-Uuid x e
default_is (atom.Varchar x) c e = c.in_default.not-Varchar x e
default_is (atom.Varint x) c e = c.in_default.not-Varint x e
default_is (atom.Timeuuid x) c e = c.in_default.not-Timeuuid x e
default_is (atom.Time x) c e = c.in_default.not-Time x e
default_is (atom.Raw x) c e = c.in_default.not-Raw x e
default_is (atom.Decimal z x) c e = c.in_default.not-Decimal z x e
default_is (atom.Inet x) c e = c.in_default.not-Inet x e
default_is a c e = tt

pub returns-in_default : goal.returns-in_default
returns-in_default c = others_fit c.args.self.now (default_is c.args.self.now c refl)
