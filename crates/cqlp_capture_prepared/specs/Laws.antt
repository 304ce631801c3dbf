-- Laws: a page never gets types that its statement has not by all that happened, and gets those where no statement and no EXECUTE had to go.
use Rattle.std.specs.Prelude.{◌≡◌, ℕ, ◌≤◌, ◌<◌, ℤ, true, false, List, [], ◌∷◌, ◌++◌, length, Some}
use Rattle.cqlp_kind.specs.declared.node.Node.{Node}
use Rattle.cqlp_capture_prepared.specs.Keeping.{Keeping, new_keeping, types_for, types_of}
use Rattle.cqlp_capture_prepared.specs.History.{AreShort, Heard, WaitNeverMore, after, ids_named, is_named, statements_prepared, types_by}

-- What is reported are the types that the last PREPARED said of the id that the last EXECUTE under the stream id named, if nothing came under it since.
abbrev pub ReportsNoOthers : Type 0
ReportsNoOthers =
    (statements executes : ℕ) (heard : List Heard) (stream : ℤ) (types : List Node)
    → types_for stream (after statements executes heard) ≡ Some types → types_by stream heard ≡ Some types

-- They are reported of each page where no more statements were prepared, and no more EXECUTEs waited, than there are places for.
abbrev pub ReportsAll : Type 0
ReportsAll =
    (statements executes : ℕ) (heard : List Heard) (stream : ℤ)
    → AreShort heard → statements_prepared heard ≤ statements → WaitNeverMore executes heard
    → types_for stream (after statements executes heard) ≡ types_by stream heard

-- A statement that is named and known stays known, with its types, until as many others were named as there are places for.
abbrev pub KeepsTheLatest : Type 0
KeepsTheLatest =
    (statements executes : ℕ) (before : List Heard) (h : Heard) (later : List Heard) (id : List ℕ) (types : List Node)
    → length id ≤ 64 → is_named id (h ∷ []) ≡ true → types_of id (after statements executes (h ∷ before)) ≡ Some types
    → is_named id later ≡ false → ids_named later < statements
    → types_of id (after statements executes (later ++ h ∷ before)) ≡ Some types

-- where memory is granted
abbrev pub OneAnswerOfNew : Type 0
OneAnswerOfNew =
    (statements executes : ℕ) (p q : Keeping) → p ≡ new_keeping statements executes → q ≡ new_keeping statements executes → q ≡ p
