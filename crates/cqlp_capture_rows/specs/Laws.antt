-- Laws: two answers are the same, and whose types a page has.
use Rattle.std.specs.Prelude.{◌≡◌, ℕ, ◌≤◌, List, length, Some, None, Ok}
use Rattle.cqlp_kind.specs.declared.node.Node.{Node}
use Rattle.cqlp_statement_types.specs.Types.{Given}
use Rattle.cqlp_capture_prepared.specs.Keeping.{types_of}
use Rattle.cqlp_capture_frames.specs.Happenings.{Ends}
use Rattle.cqlp_text.specs.Outputs.{Output}
use Rattle.cqlp_capture_streams.specs.ConnectionEvents.{ConnectionEvent}
use Rattle.cqlp_capture_rows.specs.Others.{OtherTypes, learns, types_given}
use Rattle.cqlp_capture_rows.specs.Responses.{Responses, types_known}
use Rattle.cqlp_capture_rows.specs.Listening.{Hears, Listening, new_listening}

abbrev pub OneAnswerOfNew : Type 0
OneAnswerOfNew =
    (given : Given) (asked : ℕ) (out : Output) (e f : Listening)
    → e ≡ new_listening given asked out → f ≡ new_listening given asked out → f ≡ e

-- where the output does not fail
abbrev pub OneAnswerOfHear : Type 0
OneAnswerOfHear =
    (before e f : Listening) (s : ConnectionEvent) (u v : Unit {0}) → Hears before s (Ok u) e → Hears before s (Ok v) f → f ≡ e

-- ---- whose types a page has

-- those that its own connection's PREPARED said, if they are known
abbrev pub OwnTypesFirst : Type 0
OwnTypesFirst =
    (id : List ℕ) (r : Responses) (types : List Node) → types_of id r.known ≡ Some types → types_known id r ≡ Some types

-- or else those that the others' did
abbrev pub ElseOfOthers : Type 0
ElseOfOthers =
    (id : List ℕ) (r : Responses) (types : List Node)
    → types_of id r.known ≡ None → types_of id r.others.known ≡ Some types → types_known id r ≡ Some types

-- or else those that were given
abbrev pub ElseOfGiven : Type 0
ElseOfGiven =
    (id : List ℕ) (r : Responses)
    → types_of id r.known ≡ None → types_of id r.others.known ≡ None → types_known id r ≡ types_given id r.others.given

-- of the others the latest
abbrev pub LatestOfOthers : Type 0
LatestOfOthers =
    (id : List ℕ) (o : OtherTypes) (types : List Node)
    → o.id ≡ Some id → length id ≤ 64 → types_of id (learns o (Ends types)).known ≡ Some types
