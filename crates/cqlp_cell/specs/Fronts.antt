-- A scalar that lies whole at the front of the input.
use Rattle.std.specs.Prelude.{◌≡◌, ℕ, ◌<◌, ◌≤◌, false, List, [], length, Option, Some, None}
use Rattle.cqlp_note.specs.Reader.{Got, says}
use Rattle.cqlp_note.specs.Limits.{Rules, with_lenient}
use Rattle.cqlp_kind.specs.declared.kind.Kind.{Kind}
use Rattle.cqlp_kind.specs.Types.{Types}
use Rattle.cqlp_cell.specs.declared.front.FrontScalar.{FrontScalar}
use Rattle.cqlp_kind.specs.Scalars.{ScalarValue}
use Rattle.cqlp_kind.specs.Contents.{value_of}
use Rattle.cqlp_kind.specs.CellStep.{CellSymbol, CellPlace, Leaf, place_after, value_step}

-- Wherever a value of this kind is read, in a container with this much room: these bytes say that it is this scalar.
pub record SaysScalar (l : Rules) (k : Kind) (room : ℕ) (input : List ℕ) (used : ℕ) (v : ScalarValue) : Type 0 where
  pub is : (p : CellPlace) (rest : List CellSymbol) (inner : Types) (level : ℕ)
      → says (value_step l p rest k inner level room) 0 input
      ≡ Got (record { at = p.offset; event = Leaf level v; after = place_after p rest [] }) used
  pub within : used ≤ length input
  pub inside : used ≤ room
  pub some : 0 < used

-- A scalar at the front of the input, just where these bytes say one to a caller who is not lenient; they say it to one who
-- is, too.
abbrev pub IsFront : Rules → Kind → (room : ℕ) → (input : List ℕ) → Option FrontScalar → Type 0
IsFront l k room input None = (used : ℕ) (v : ScalarValue) → ¬ (SaysScalar (with_lenient false l) k room input used v)
IsFront l k room input (Some f) =
    SaysScalar l k room input f.used (value_of f.scalar)
    × SaysScalar (with_lenient false l) k room input f.used (value_of f.scalar)
