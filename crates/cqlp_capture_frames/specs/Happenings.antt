-- What happens in one direction of a connection, and how that is written.
use Rattle.std.specs.Prelude.{ℕ, List, [], ◌∷◌, ◌++◌, Option, Result, Ok, Err}
use Rattle.cqlp_note.specs.declared.header.Header.{Header}
use Rattle.cqlp_note.specs.declared.refusal.Reason.{Reason}
use Rattle.cqlp_kind.specs.declared.node.Node.{Node}
use Rattle.cqlp_grammar.specs.Events.{Event}
use Rattle.cqlp_tcp_reassembly.specs.declared.step.GapCause.{GapCause}

-- At an offset of the direction: a frame with this header begins, of which the bytes are read; it says an event; it is refused; a frame with this
-- header begins that is compressed; one begins that there is no room to read; this many bytes are missing, for this cause. Or the frame came
-- whole, and these are the types of the metadata that it described last; or no more is read of it.
pub data Happening : Type 0 where
  Begins : (at : ℕ) → Header → Happening
  Says : (at : ℕ) → Event → Happening
  Fails : (at : ℕ) → Reason → Happening
  Compressed : (at : ℕ) → Header → Happening
  Unread : (at : ℕ) → Header → Happening
  Gap : (at length : ℕ) → GapCause → Happening
  Ends : (types : List Node) → Happening
  Closes : Happening

-- The text of what happens, where this is known of what happened before it; what is known after it; and the types that are given for the page of a
-- frame that begins with this header, should it not describe its columns.
pub record Manner (S : Type 0) : Type 0 where
  pub text : S → Happening → List ℕ
  pub after : S → Happening → S
  pub types : S → (at : ℕ) → Header → Option (List Node)

-- one thing after the other
module _ {S : Type 0} (m : Manner S) where
  abbrev pub texts : S → List Happening → List ℕ
  texts s [] = []
  texts s (h ∷ hs) = m.text s h ++ texts (m.after s h) hs

  abbrev pub after_all : S → List Happening → S
  after_all s [] = s
  after_all s (h ∷ hs) = after_all (m.after s h) hs

-- whether it was written, whatever was answered
abbrev pub outcome : {X F : Type 0} → Result X F → Result (Unit {0}) F
outcome (Ok x) = Ok tt
outcome (Err e) = Err e
