-- Which scalars are of their kinds.
use Rattle.std.proofs.Common.{◌≡◌, ℕ, ◌<◌, ◌^◌, Bool, true, false, ◌&&◌, not, ltb, eqb, List, length, is_some, refl, sym, arith, ◌⊎◌, inl, inr}
use Rattle.std.specs.Prelude.{ℤ, string_bytes}
use Rattle.std.specs.declared.vec.Vec.{Vec}
use Rattle.std.specs.declared.string.String.{String}
use Rattle.std.proofs.lemmas.Str.{is_utf8-from_IsUtf8}
use Rattle.std.specs.declared.alloc.Global.{Global}
use Rattle.std.specs.Int.{w64, to_be_bytes, from_be_bytes, cast_unsigned}
use Rattle.std.specs.Bool.{MatchBool}
use Rattle.std.specs.Str.{IsUtf8, IsAscii, IsNotAscii}
use Rattle.std.proofs.lemmas.Bool.{eqb-true}
use Rattle.std.proofs.lemmas.Nat.{from_be_bytes-to_be_bytes_8}
use Rattle.std.proofs.lemmas.Bool.Decides.{nat_tests}
use Rattle.cqlp_note.specs.declared.prim.Address.{Address}
use Rattle.cqlp_note.specs.declared.prim.Address.TheVariants as address
use Rattle.cqlp_kind.specs.declared.kind.Kind.TheVariants as kind
use Rattle.cqlp_value.specs.declared.value.Atom.{Atom}
use Rattle.cqlp_value.specs.declared.value.Atom.TheVariants as atom
use Rattle.cqlp_kind.specs.Scalars.{ScalarValue, Custom, Blob, Raw, Varint, Double, Float, Uuid, Timeuuid, Ascii, Varchar, Time, Decimal, Inet, allows_size, is_time, is_version_1, only_if, scalar_of, scalar_fits, IsInRange}
use Rattle.cqlp_value.specs.Owned.{atom_of}
use Rattle.cqlp_kind.proofs.Texts.{varchar_decided, timeuuid_decided, ascii_decided}

and_true : (b : Bool) → ((b && true) && true) ≡ b
and_true true = refl
and_true false = refl

is_some_if : (b : Bool) (v : ScalarValue) → is_some (only_if b v) ≡ b
is_some_if true v = refl
is_some_if false v = refl

only_last : (b : Bool) → ((true && true) && b) ≡ b
only_last true = refl
only_last false = refl

pub some_bytes : (n : ℕ) → not (eqb n 0) ≡ ltb 0 n
some_bytes n = grind (arith, nat_tests)

pub time_fits : (z : ℤ) (n : ℕ) → n < 2 ^ 64 → n ≡ cast_unsigned w64 z → ltb n 86400000000000 ≡ scalar_fits (Time z)
unfolding scalar_of
time_fits z n lt e =
    let back : from_be_bytes w64 (to_be_bytes w64 n) ≡ n = from_be_bytes-to_be_bytes_8 n lt in
    rw (← e, is_some_if (is_time (from_be_bytes w64 (to_be_bytes w64 n))) _, back) refl

module _ (c : List ℕ) where
  pub custom_fits : scalar_fits (Custom c) ≡ ltb 0 (length c)
  unfolding scalar_of
  custom_fits = and_true (ltb 0 (length c))

  pub blob_fits : scalar_fits (Blob c) ≡ ltb 0 (length c)
  unfolding scalar_of
  blob_fits = and_true (ltb 0 (length c))

  pub varint_fits : scalar_fits (Varint c) ≡ ltb 0 (length c)
  unfolding scalar_of
  varint_fits = and_true (ltb 0 (length c))

  pub raw_fits : scalar_fits (Raw c) ≡ ltb 0 (length c)
  unfolding scalar_of
  raw_fits = and_true (ltb 0 (length c))

  pub varchar_fits : IsUtf8 c → scalar_fits (Varchar c) ≡ ltb 0 (length c)
  varchar_fits text = rw (varchar_decided c text) (and_true (ltb 0 (length c)))

  pub decimal_fits : (z : ℤ) → scalar_fits (Decimal z c) ≡ ltb 0 (length c)
  unfolding scalar_of
  decimal_fits z = grind (arith, nat_tests)

  pub double_fits : allows_size kind.Double (length c) ≡ scalar_fits (Double c)
  unfolding scalar_of
  double_fits = grind (arith, nat_tests)

  pub float_fits : allows_size kind.Float (length c) ≡ scalar_fits (Float c)
  unfolding scalar_of
  float_fits = grind (arith, nat_tests)

  pub uuid_fits : allows_size kind.Uuid (length c) ≡ scalar_fits (Uuid c)
  unfolding scalar_of
  uuid_fits = grind (arith, nat_tests)

  pub timeuuid_fits : allows_size kind.Timeuuid (length c) ≡ true → is_version_1 c ≡ scalar_fits (Timeuuid c)
  timeuuid_fits e = rw (eqb-true (length c) 16 e, ← timeuuid_decided c) refl

  pub v4_fits : (a : Address) → a ≡ address.V4 c → allows_size kind.Inet (length c) ≡ scalar_fits (Inet a)
  unfolding scalar_of
  v4_fits a e = rw e (grind (arith, nat_tests))

  pub v6_fits : (a : Address) → a ≡ address.V6 c → allows_size kind.Inet (length c) ≡ scalar_fits (Inet a)
  unfolding scalar_of
  v6_fits a e = rw e (grind (arith, nat_tests))

  pub ascii_fits : (b : Bool) → MatchBool b (IsAscii c) (IsNotAscii c) → ltb 0 (length c) ≡ true → b ≡ scalar_fits (Ascii c)
  ascii_fits b m some = rw (some, ← ascii_decided c b m) (sym (only_last b))

pub bytes_fit : (a : Atom) (v : Vec ℕ Global) → (a ≡ atom.Custom v) ⊎ ((a ≡ atom.Blob v) ⊎ ((a ≡ atom.Varint v) ⊎ (a ≡ atom.Raw v))) → scalar_fits (atom_of a) ≡ ltb 0 (length v.items)
bytes_fit a v (inl e) = rw e (custom_fits v.items)
bytes_fit a v (inr (inl e)) = rw e (blob_fits v.items)
bytes_fit a v (inr (inr (inl e))) = rw e (varint_fits v.items)
bytes_fit a v (inr (inr (inr e))) = rw e (raw_fits v.items)

-- scalars of a fixed length, which may be any bytes
abbrev pub HasAnyBytes : Atom → Type 0
HasAnyBytes (atom.Custom c) = ⊥
HasAnyBytes (atom.Ascii c) = ⊥
HasAnyBytes (atom.Blob c) = ⊥
HasAnyBytes (atom.Double c) = ⊥
HasAnyBytes (atom.Float c) = ⊥
HasAnyBytes (atom.Uuid c) = ⊥
HasAnyBytes (atom.Varchar c) = ⊥
HasAnyBytes (atom.Varint c) = ⊥
HasAnyBytes (atom.Timeuuid c) = ⊥
HasAnyBytes (atom.Inet c) = ⊥
HasAnyBytes (atom.Time c) = ⊥
HasAnyBytes (atom.Raw c) = ⊥
HasAnyBytes (atom.Decimal z c) = ⊥
HasAnyBytes a = Unit {0}

pub others_fit : (a : Atom) → HasAnyBytes a → true ≡ scalar_fits (atom_of a)
unfolding scalar_of
others_fit (atom.Custom c) h = absurd h
others_fit (atom.Ascii c) h = absurd h
others_fit (atom.Blob c) h = absurd h
others_fit (atom.Double c) h = absurd h
others_fit (atom.Float c) h = absurd h
others_fit (atom.Uuid c) h = absurd h
others_fit (atom.Varchar c) h = absurd h
others_fit (atom.Varint c) h = absurd h
others_fit (atom.Timeuuid c) h = absurd h
others_fit (atom.Inet c) h = absurd h
others_fit (atom.Time c) h = absurd h
others_fit (atom.Raw c) h = absurd h
others_fit (atom.Decimal z c) h = absurd h
others_fit a h = refl

-- a text is UTF-8
pub text_in_range : (a : Atom) (s : String Global) → (a ≡ atom.Ascii s) ⊎ (a ≡ atom.Varchar s) → IsUtf8 (string_bytes s) → IsInRange (atom_of a)
text_in_range a s (inl e) text = rw e (is_utf8-from_IsUtf8 (string_bytes s) text)
text_in_range a s (inr e) text = rw e (is_utf8-from_IsUtf8 (string_bytes s) text)
