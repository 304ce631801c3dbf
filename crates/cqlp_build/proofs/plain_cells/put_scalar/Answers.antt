use Rattle.std.proofs.Common.{◌≡◌, ◌++◌, ◌∷◌, [], SFits, ap, rules, sym, ◌∙◌}
use Rattle.std.specs.Int.{w32, w64}
use Rattle.std.proofs.Math.Facts.{to_z-of_z}
use Rattle.cqlp_kind.specs.Contents.{value_of}
use Rattle.cqlp_kind.specs.declared.kind.Kind.TheVariants as kind
use Rattle.cqlp_value.specs.declared.value.Atom.TheVariants as atom
use Rattle.cqlp_value.specs.declared.value.Value.{Leaf}
use Rattle.cqlp_build.proofs.OfKinds.{int_is, bigint_is, boolean_is}
use Rattle.cqlp_build.proofs.plain_cells.put_scalar.Goals as goal

pub returns-in-Int : goal.returns-in-Int
returns-in-Int c =
    let z = c.in-Int.number in
    let fits : SFits w32 z = search rules in
    let this : c.args.kind ≡ kind.Int = search rules in
    let items = c.put.ensures.is ∙ ap (λ n. c.args.cells.now.items ++ Leaf (atom.Int n) ∷ []) (to_z-of_z {w = w32} fits) in
    record { put = (atom.Int z, items, ap value_of (sym c.in-Int.is), int_is c.args.kind z this); sized = c.put.ensures.sized }

pub returns-in-Bigint : goal.returns-in-Bigint
returns-in-Bigint c =
    let z = c.in-Bigint.number in
    let fits : SFits w64 z = search rules in
    let this : c.args.kind ≡ kind.Bigint = search rules in
    let items = c.put-in-Bigint.ensures.is ∙ ap (λ n. c.args.cells.now.items ++ Leaf (atom.Bigint n) ∷ []) (to_z-of_z {w = w64} fits) in
    record { put = (atom.Bigint z, items, ap value_of (sym c.in-Bigint.is), bigint_is c.args.kind z this); sized = c.put-in-Bigint.ensures.sized }

pub returns-in-Boolean : goal.returns-in-Boolean
returns-in-Boolean c =
    let b = c.in-Boolean.value in
    let this : c.args.kind ≡ kind.Boolean = search rules in
    record { put = (atom.Boolean b, c.put-in-Boolean.ensures.is, ap value_of (sym c.in-Boolean.is), boolean_is c.args.kind b this); sized = c.put-in-Boolean.ensures.sized }
