-- Scalars in range that are of their kinds whatever they hold.
use Rattle.std.proofs.Common.{◌≡◌, true, refl, sym, ◌∙◌, eqb}
use Rattle.std.specs.Prelude.{◌||◌}
use Rattle.std.proofs.lemmas.Bool.{eq-eqb}
use Rattle.cqlp_note.specs.declared.prim.Address.{Address}
use Rattle.cqlp_note.specs.declared.prim.Address.TheVariants as address
use Rattle.cqlp_kind.specs.Scalars.{ScalarValue, IsInRange, scalar_of, scalar_fits, Custom, Blob, Raw, Varint, Double, Float, Uuid, Timeuuid, Ascii, Varchar, Time, Decimal, Inet}
use Rattle.cqlp_value.proofs.ScalarFits.{double_fits, float_fits, uuid_fits, v4_fits, v6_fits}

abbrev pub IsOther : ScalarValue → Type 0
IsOther (Custom c) = ⊥
IsOther (Ascii c) = ⊥
IsOther (Blob c) = ⊥
IsOther (Varchar c) = ⊥
IsOther (Varint c) = ⊥
IsOther (Timeuuid c) = ⊥
IsOther (Time c) = ⊥
IsOther (Raw c) = ⊥
IsOther (Decimal z c) = ⊥
IsOther v = Unit {0}

address_fits : (a : Address) → IsInRange (Inet a) → true ≡ scalar_fits (Inet a)
address_fits (address.V4 c) r = sym (rw r refl) ∙ v4_fits c (address.V4 c) refl
address_fits (address.V6 c) r = sym (rw r refl) ∙ v6_fits c (address.V6 c) refl

pub other_fits : (v : ScalarValue) → IsInRange v → IsOther v → true ≡ scalar_fits v
unfolding scalar_of
other_fits (Custom c) r h = absurd h
other_fits (Ascii c) r h = absurd h
other_fits (Blob c) r h = absurd h
other_fits (Varchar c) r h = absurd h
other_fits (Varint c) r h = absurd h
other_fits (Timeuuid c) r h = absurd h
other_fits (Time c) r h = absurd h
other_fits (Raw c) r h = absurd h
other_fits (Decimal z c) r h = absurd h
other_fits (Double c) r h = sym (eq-eqb _ _ r) ∙ double_fits c
other_fits (Float c) r h = sym (eq-eqb _ _ r) ∙ float_fits c
other_fits (Uuid c) r h = sym (eq-eqb _ _ r) ∙ uuid_fits c
other_fits (Inet a) r h = address_fits a r
other_fits v r h = refl
