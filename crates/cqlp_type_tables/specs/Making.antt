-- What becomes of types that a table is to be made of.
use Rattle.std.specs.Prelude.{◌≡◌, ◌<◌, ◌≤◌, true, false, List, map, Result, Ok, Err}
use Rattle.cqlp_note.specs.declared.header.TheConstants.Header.{LONGEST_BODY}
use Rattle.cqlp_kind.specs.Types.{preorder}
use Rattle.cqlp_message.specs.declared.response.Spec.{Spec}
use Rattle.cqlp_type.specs.declared.tree.TypeTree.{TypeTree}
use Rattle.cqlp_type.specs.Table.{Table}
use Rattle.cqlp_type.specs.TreeChecks.{checks_of}
use Rattle.cqlp_type.specs.Trees.{Trees, options_in, types_in}
use Rattle.cqlp_type.specs.TypeTrees.{trees_size}
use Rattle.cqlp_type_tables.specs.declared.making.TableError.{TableError}
use Rattle.cqlp_type_tables.specs.declared.making.TableError.TheVariants as error

-- Nothing keeps the types from having options.
abbrev pub AreWritable : Trees → Type 0
AreWritable ts = checks_of false ts ≡ record { formed = true; counts = true; texts = true }

-- Their options have no more bytes together than the body of a frame can have.
abbrev pub AreInBody : Trees → Type 0
AreInBody ts = trees_size false ts ≤ LONGEST_BODY

-- the nodes of the types in preorder, with room for just these
abbrev pub table_of : Trees → Table
table_of ts = record { nodes = preorder (types_in ts); room = options_in ts }

-- The table of the types, or the first reason in this order why there is none.
abbrev pub Makes : Trees → Result Table TableError → Type 0
Makes ts (Ok t) = AreWritable ts × AreInBody ts × (t ≡ table_of ts)
Makes ts (Err error.NotWritable) = AreWritable ts → ⊥
Makes ts (Err error.TooLong) = AreWritable ts × (LONGEST_BODY < trees_size false ts)
Makes ts (Err error.NoMemory) = AreWritable ts × AreInBody ts

-- Section 4.2.5.2: the types of columns, or of values that are to be bound.
abbrev pub types_of_specs : List Spec → List TypeTree
types_of_specs specs = map (λ s. s.tree) specs
