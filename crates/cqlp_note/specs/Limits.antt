-- The caller's limits.
use Rattle.std.specs.Prelude.{ℕ, Bool, false, ◌&&◌, nat_le, if◌then◌else◌, Result, Ok, Err}
use Rattle.cqlp_note.specs.declared.limits.Limits.{Limits}
use Rattle.cqlp_note.specs.declared.limits.Asked.{Asked}
use Rattle.cqlp_note.specs.declared.limits.LimitRange.{LimitRange}
use Rattle.cqlp_note.specs.declared.limits.TheConstants.Limits.{TEXT, CELL, ENTRIES, DEPTH}
use Rattle.cqlp_note.specs.declared.limits.BadLimits.{BadLimits}
use Rattle.cqlp_note.specs.declared.limits.BadLimits.TheVariants as bad
use Rattle.cqlp_note.specs.declared.field.Notation.{Notation}
use Rattle.cqlp_note.specs.declared.field.Notation.TheVariants as notation

abbrev pub is_in : LimitRange → ℕ → Bool
is_in range n = nat_le range.least n && nat_le n range.greatest

-- the first limit that is out of its range
abbrev pub first_bad : Limits → Result Unit BadLimits
first_bad l =
    if is_in TEXT l.text
    then (if is_in CELL l.cell
    then (if is_in ENTRIES l.entries
    then (if is_in DEPTH l.depth then Ok tt else Err bad.Depth)
    else Err bad.Entries)
    else Err bad.Cell)
    else Err bad.Text

-- What a caller sets, as definitions see it: the limits, the size of a part of a long content, and what is read.
pub record Rules : Type 0 where
  pub text : ℕ
  pub cell : ℕ
  pub entries : ℕ
  pub depth : ℕ
  pub part : ℕ
  pub types : Bool
  pub parts : Bool
  -- Lenient: what a type does not have is read as raw bytes.
  pub lenient : Bool

abbrev pub rules_of : Limits → Rules
rules_of l = record {
  text = l.text;
  cell = l.cell;
  entries = l.entries;
  depth = l.depth;
  part = l.cell;
  types = l.types;
  parts = l.parts;
  lenient = false;
}

-- Lenient: the same rules, for a caller who asks for it or not.
abbrev pub with_lenient : (lenient : Bool) → Rules → Rules
with_lenient lenient l = record l { lenient = lenient }

abbrev pub asked_of : Limits → (lenient : Bool) → Asked
asked_of l lenient = record {
  text = l.text;
  cell = l.cell;
  entries = l.entries;
  depth = l.depth;
  types = l.types;
  parts = l.parts;
  lenient = lenient;
}

-- what a reader is asked for, as rules
abbrev pub rules_asked : Asked → Rules
rules_asked a = record {
  text = a.text;
  cell = a.cell;
  entries = a.entries;
  depth = a.depth;
  part = a.cell;
  types = a.types;
  parts = a.parts;
  lenient = a.lenient;
}

-- the caller's limit on the content of a field in this notation
abbrev pub limit_of : Rules → Notation → ℕ
limit_of l notation.Text16 = l.text
limit_of l notation.Text32 = l.text
limit_of l notation.Bytes16 = l.cell
limit_of l notation.Bytes32 = l.cell
limit_of l notation.Bound = l.cell
limit_of l (notation.Content n) = l.cell
limit_of l notation.Byte = 0
limit_of l notation.Short = 0
limit_of l notation.Int = 0
limit_of l notation.Long = 0
limit_of l notation.Uuid = 0
limit_of l notation.Count16 = 0
limit_of l notation.Count32 = 0
limit_of l notation.Inet = 0
