-- What becomes of a scalar that is put behind the cells of a run.
use Rattle.std.specs.Prelude.{◌≡◌, ℕ, Bool, true, false, List, [], ◌∷◌, ◌++◌, map, Result, Ok, Err}
use Rattle.cqlp_kind.specs.declared.kind.Kind.{Kind}
use Rattle.cqlp_kind.specs.CellStep as cell
use Rattle.cqlp_kind.specs.Scalars.{ScalarValue}
use Rattle.cqlp_value.specs.declared.value.Atom.{Atom}
use Rattle.cqlp_value.specs.declared.value.Value.{Value, Leaf}
use Rattle.cqlp_value.specs.Owned.{atom_of}
use Rattle.cqlp_grammar.specs.Events.{Event, Cell_at}
use Rattle.cqlp_build.specs.FrameEvents.{item_event}
use Rattle.cqlp_build.specs.Held.{Held}
use Rattle.cqlp_build.specs.Plain.{is_of_kind}

-- It is the last of the cells, and of this kind; or they are as they were.
abbrev pub PutsScalar : {E : Type 0} → Kind → ScalarValue → Result Bool E → (old new : List Value) → Type 0
PutsScalar k s (Ok true) old new = (a : Atom) × (new ≡ old ++ Leaf a ∷ []) × (atom_of a ≡ s) × (is_of_kind k (Leaf a) ≡ true)
PutsScalar k s (Ok false) old new = new ≡ old
PutsScalar k s (Err why) old new = new ≡ old

-- the event of a scalar that is the cell of this row and column
abbrev pub scalar_event : (row column : ℕ) → ScalarValue → Event
scalar_event row column s = Cell_at row column (cell.Leaf 0 s)

-- It comes behind the others; or they are as they were.
abbrev pub PutsEvent : {E : Type 0} → Event → Result Bool E → (old new : Held) → Type 0
PutsEvent e (Ok true) old new = map item_event new.items ≡ map item_event old.items ++ e ∷ []
PutsEvent e (Ok false) old new = new.items ≡ old.items
PutsEvent e (Err why) old new = new.items ≡ old.items
