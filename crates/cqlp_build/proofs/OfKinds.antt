-- Scalars of their kinds, as cells.
use Rattle.std.proofs.Common.{◌≡◌, ℕ, Bool, true, false, List, length, eqb, not, refl, sym, ap, ◌∙◌}
use Rattle.std.specs.Prelude.{◌&&◌, ℤ, string_bytes}
use Rattle.std.specs.Str.{IsUtf8}
use Rattle.std.specs.declared.string.String.{String}
use Rattle.std.specs.declared.alloc.Global.{Global}
use Rattle.cqlp_kind.specs.declared.kind.Kind.{Kind}
use Rattle.cqlp_kind.specs.declared.kind.Kind.TheVariants as kind
use Rattle.cqlp_kind.specs.Scalars.{Varchar, scalar_fits}
use Rattle.cqlp_value.specs.Owned.{atom_of}
use Rattle.cqlp_value.specs.declared.value.Atom.{Atom}
use Rattle.cqlp_value.specs.declared.value.Atom.TheVariants as atom
use Rattle.cqlp_value.specs.declared.value.Value.{Leaf}
use Rattle.cqlp_value.proofs.ScalarFits.{others_fit, some_bytes, varchar_fits}
use Rattle.cqlp_build.specs.Plain.{is_of_kind}

of_this : (k j : Kind) (a : Atom) → k ≡ j → scalar_fits (atom_of a) ≡ true → (is_of_kind j (Leaf a)) ≡ (scalar_fits (atom_of a) && true) → is_of_kind k (Leaf a) ≡ true
of_this k j a e f is = ap (λ i. is_of_kind i (Leaf a)) e ∙ (is ∙ ap (λ b. b && true) f)

pub int_is : (k : Kind) (z : ℤ) → k ≡ kind.Int → is_of_kind k (Leaf (atom.Int z)) ≡ true
int_is k z e = of_this k kind.Int (atom.Int z) e (sym (others_fit (atom.Int z) tt)) refl

pub bigint_is : (k : Kind) (z : ℤ) → k ≡ kind.Bigint → is_of_kind k (Leaf (atom.Bigint z)) ≡ true
bigint_is k z e = of_this k kind.Bigint (atom.Bigint z) e (sym (others_fit (atom.Bigint z) tt)) refl

pub boolean_is : (k : Kind) (b : Bool) → k ≡ kind.Boolean → is_of_kind k (Leaf (atom.Boolean b)) ≡ true
boolean_is k b e = of_this k kind.Boolean (atom.Boolean b) e (sym (others_fit (atom.Boolean b) tt)) refl

pub varchar_is : (t : String Global) (s : List ℕ) → string_bytes t ≡ s → IsUtf8 s → eqb (length s) 0 ≡ false → is_of_kind kind.Varchar (Leaf (atom.Varchar t)) ≡ true
varchar_is t s e utf8 some =
    let fits : scalar_fits (Varchar s) ≡ true = varchar_fits s utf8 ∙ (sym (some_bytes (length s)) ∙ ap not some) in
    of_this kind.Varchar kind.Varchar (atom.Varchar t) refl (ap (λ x. scalar_fits (Varchar x)) e ∙ fits) refl
