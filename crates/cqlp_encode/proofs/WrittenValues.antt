-- A value that is written has as many bytes as its size says.
use Rattle.std.proofs.Common.{◌≡◌, ◌<◌, ◌≤◌, ◌^◌, true, length, Option, Some, None, arith}
use Rattle.cqlp_note.specs.declared.header.TheConstants.Header.{LONGEST_BODY}
use Rattle.cqlp_kind.specs.declared.kind.Kind.TheVariants as kind
use Rattle.cqlp_kind.specs.Types.{NoMore}
use Rattle.cqlp_type.specs.declared.tree.TypeTree.{TypeTree}
use Rattle.cqlp_type.specs.Trees.{kind_in, types_in}
use Rattle.cqlp_type.specs.TypeTrees.{head_of, inner_of}
use Rattle.cqlp_value.specs.declared.value.Value.{Value}
use Rattle.cqlp_value.specs.Owned.{cell_type, fits_type, value_of}
use Rattle.cqlp_value.specs.Values.{AreInRange, ValuesSpell, values_bytes, values_size}
use Rattle.cqlp_value.proofs.ValuesWritten.{value_written}
use Rattle.cqlp_encode.specs.ValueWriting.{CanBeWritten}

pub spelled : (v : Value) (t : Option TypeTree) → AreInRange (value_of v) → CanBeWritten v t → ValuesSpell (cell_type t) (value_of v) (values_bytes (value_of v))
spelled v None range can = (value_written kind.Raw NoMore (value_of v) range can.fits (omega (arith, can.short))).0
spelled v (Some t) range can = (value_written (kind_in (head_of t)) (types_in (inner_of t)) (value_of v) range can.fits (omega (arith, can.short))).0

long : (v : Value) (t : Option TypeTree) → fits_type v t ≡ true → AreInRange (value_of v) → values_size (value_of v) < 2 ^ 31 → length (values_bytes (value_of v)) ≡ values_size (value_of v)
long v None fits range lt = (value_written kind.Raw NoMore (value_of v) range fits lt).1
long v (Some t) fits range lt = (value_written (kind_in (head_of t)) (types_in (inner_of t)) (value_of v) range fits lt).1

pub can_be_written : (v : Value) (t : Option TypeTree) → fits_type v t ≡ true → AreInRange (value_of v) → values_size (value_of v) ≤ LONGEST_BODY → CanBeWritten v t
can_be_written v t fits range short = record { fits = fits; short = short; long = long v t fits range (omega arith) }
