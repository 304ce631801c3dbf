-- How deep type options are nested, by their events.
use Rattle.std.specs.Prelude.{ℕ, zero, suc, ◌-◌, List, [], ◌∷◌, length}
use Rattle.cqlp_note.specs.declared.field.Field.{Field}
use Rattle.cqlp_note.specs.declared.field.Field.TheVariants as field
use Rattle.cqlp_note.specs.Field.{FieldValue, Count}
use Rattle.cqlp_kind.specs.declared.kind.Kind.{Kind}
use Rattle.cqlp_kind.specs.declared.kind.Kind.TheVariants as kind
use Rattle.cqlp_kind.specs.TypeStep.{arity_of}
use Rattle.cqlp_grammar.specs.Events.{Event, Holds, Node_of}

-- The type options in which others are still to begin, the innermost first, are a list of how many: of each, how many inner
-- options have not begun. Behind one that has some are those around it, also where they have none.

-- how many inner options of a type option of this kind are to begin; where they are counted, one before their count comes
abbrev pub inner_due : Kind → ℕ
inner_due kind.Udt = 1
inner_due kind.Tuple = 1
inner_due k = arity_of k

-- without the innermost that have none
abbrev pub still_open : List ℕ → List ℕ
still_open [] = []
still_open (zero ∷ around) = still_open around
still_open (suc n ∷ around) = suc n ∷ around

-- one of the innermost's begins
abbrev pub one_begun : List ℕ → List ℕ
one_begun [] = []
one_begun (n ∷ around) = (n - 1) ∷ around

-- the innermost's are this many
abbrev pub counted : (n : ℕ) → List ℕ → List ℕ
counted n [] = []
counted n (m ∷ around) = still_open (n ∷ around)

abbrev pub after_field : Field → FieldValue → List ℕ → List ℕ
after_field field.Fields (Count n) around = counted n around
after_field f v around = around

abbrev pub after_event : Event → List ℕ → List ℕ
after_event (Node_of k) around = still_open (inner_due k ∷ one_begun around)
after_event (Holds f v) around = after_field f v around
after_event e around = around

-- At what depth an event begins a type option, that of a column being at 1; and 0 where it begins none.
abbrev pub depth_at : Event → List ℕ → ℕ
depth_at (Node_of k) around = suc (length around)
depth_at e around = 0
