use Rattle.std.proofs.Common.{◌≡◌, false, length, eqb, ap, sym, ◌∙◌}
use Rattle.std.specs.Prelude.{string_bytes}
use Rattle.cqlp_kind.specs.Scalars.{Varchar}
use Rattle.cqlp_value.specs.declared.value.Atom.TheVariants as atom
use Rattle.cqlp_build.proofs.OfKinds.{varchar_is}
use Rattle.cqlp_build.proofs.plain_cells.put_text.Goals as goal

pub returns : goal.returns
returns c =
    let t = c.in_ok-text.text in
    let same : string_bytes t ≡ c.args.text.now = c.in_ok-text.ensures.ok in
    let some : eqb (length c.args.text.now) 0 ≡ false = sym c.is_empty.ensures ∙ c.if-is_empty.false in
    record { put = (atom.Varchar t, c.put.ensures.is, ap Varchar same, varchar_is t c.args.text.now same c.utf8.text some); sized = c.put.ensures.sized }
