-- Pages whose columns are not described, and cells of types that the caller names (section 4.2.5.2 of native_protocol_v4.spec).
use Rattle.std.specs.Prelude.{◌&&◌, Bool, false, is_none, [], if◌then◌else◌}
use Rattle.cqlp_kind.specs.Scalars.{Raw}
use Rattle.cqlp_type.specs.declared.tree.TypeTree.{TypeTree}
use Rattle.cqlp_value.specs.declared.value.Value.{Value}
use Rattle.cqlp_value.specs.Measures.{fits_tree}
use Rattle.cqlp_value.specs.Owned.{value_of}
use Rattle.cqlp_value.specs.Values.{Values, NoValue, Scalar_and}
use Rattle.cqlp_message.specs.FrameValues.{FrameValue, Message, Rows}
use Rattle.cqlp_encode.specs.Binding.{raw_written}

-- a value is one of this type, and the message is a page whose columns are not described
abbrev pub fits_undescribed : Message → Value → TypeTree → Bool
fits_undescribed (Rows p) v t = is_none p.meta.specs && fits_tree v t
fits_undescribed m v t = false

-- a raw scalar without bytes, which is a cell of no column
abbrev pub no_cell : Values
no_cell = Scalar_and (Raw []) NoValue

-- The cell that a value of a type that the caller names is in a page whose columns are not described. In another page, and
-- where the value is none of the type, it is no cell.
abbrev pub cell_of : FrameValue → Value → TypeTree → Values
cell_of f v t = if fits_undescribed f.message v t then raw_written (value_of v) else no_cell
