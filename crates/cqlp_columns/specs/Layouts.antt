-- How the values of columns lie in memory.
use Rattle.std.specs.Prelude.{Option, Some, None}
use Rattle.cqlp_kind.specs.declared.kind.Kind.{Kind}
use Rattle.cqlp_kind.specs.declared.kind.Kind.TheVariants as kind
use Rattle.cqlp_columns.specs.declared.layout.Layout.{Layout}
use Rattle.cqlp_columns.specs.declared.layout.Layout.TheVariants.{Bits, Fixed, Variable}

-- the layout of a kind's values, where they have no items
abbrev pub layout_of : Kind → Option Layout
layout_of kind.Boolean = Some Bits
layout_of kind.Tinyint = Some (Fixed 1)
layout_of kind.Smallint = Some (Fixed 2)
layout_of kind.Int = Some (Fixed 4)
layout_of kind.Date = Some (Fixed 4)
layout_of kind.Float = Some (Fixed 4)
layout_of kind.Bigint = Some (Fixed 8)
layout_of kind.Counter = Some (Fixed 8)
layout_of kind.Timestamp = Some (Fixed 8)
layout_of kind.Time = Some (Fixed 8)
layout_of kind.Double = Some (Fixed 8)
layout_of kind.Uuid = Some (Fixed 16)
layout_of kind.Timeuuid = Some (Fixed 16)
layout_of kind.List = None
layout_of kind.Map = None
layout_of kind.Set = None
layout_of kind.Udt = None
layout_of kind.Tuple = None
layout_of _ = Some Variable
