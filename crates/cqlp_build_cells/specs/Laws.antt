-- Laws of the builder of cells.
use Rattle.std.specs.Prelude.{◌≡◌, ⊤, ◌⊎◌, List, true, Option, Result, Ok, Err}
use Rattle.cqlp_kind.specs.CellStep.{CellEvent}
use Rattle.cqlp_type.specs.declared.tree.TypeTree.{TypeTree}
use Rattle.cqlp_grammar.specs.Events.{Event}
use Rattle.cqlp_value.specs.declared.value.Value.{Value}
use Rattle.cqlp_value.specs.Owned.{cell_type, value_of}
use Rattle.cqlp_value.specs.Values.{values_fit}
use Rattle.cqlp_build_cells.specs.declared.error.CellError.{CellError}
use Rattle.cqlp_build_cells.specs.declared.error.CellError.TheVariants as error
use Rattle.cqlp_build_cells.specs.Building.{AreEventsOf, CellState, Finishes, TakesEvent, is_formed}

abbrev pub Answer : Type 0
Answer = Result (Unit {0}) CellError

-- An event has one answer and leaves one state, unless memory was refused.
abbrev pub OneAnswer : Type 0
OneAnswer =
    (old : CellState) (e : Event) (a b : Answer) (after_a after_b : CellState)
    → TakesEvent old e a after_a → TakesEvent old e b after_b
    → ((a ≡ b) × (after_a ≡ after_b)) ⊎ ((a ≡ Err error.NoMemory) ⊎ (b ≡ Err error.NoMemory))

-- the same value, wherever it lies in memory, or the same refusal; or memory was refused to one of them
abbrev pub AreSame : (a b : Result Value CellError) → Type 0
AreSame (Err error.NoMemory) b = ⊤
AreSame a (Err error.NoMemory) = ⊤
AreSame (Ok v) (Ok w) = value_of v ≡ value_of w
AreSame (Err e) (Err d) = e ≡ d
AreSame a b = ⊥

-- Of the same events and type there is one answer, but where memory is refused.
abbrev pub OneAnswerOfFinish : Type 0
OneAnswerOfFinish =
    (es : List CellEvent) (t : Option TypeTree) (a b : Result Value CellError) → Finishes es t a → Finishes es t b → AreSame a b

-- Of the events of a value of a type that is formed this value is built, but where memory is refused.
abbrev pub ValueIsBuilt : Type 0
ValueIsBuilt =
    (es : List CellEvent) (t : Option TypeTree) (v : Value) (r : Result Value CellError)
    → is_formed t ≡ true → values_fit (cell_type t) (value_of v) ≡ true → AreEventsOf es (cell_type t) (value_of v) → Finishes es t r
    → AreSame r (Ok v)
