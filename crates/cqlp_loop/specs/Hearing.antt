-- Which messages the events of a stream are of.
use Rattle.std.specs.Prelude.{ℕ, Bool, true, false, if◌then◌else◌, List, [], ◌∷◌, ◌++◌}
use Rattle.cqlp_note.specs.declared.header.Header.{Header}
use Rattle.cqlp_grammar.specs.Events.{Event, Frame, End}

-- whether a message is under way, and the headers so far
pub record Hearing : Type 0 where
  pub under_way : Bool
  pub headers : List Header

-- between two messages
abbrev pub idle : List Header → Hearing
idle hs = record { under_way = false; headers = hs }

-- within a message
abbrev pub amid : List Header → Hearing
amid hs = record { under_way = true; headers = hs }

-- After one more event: a message begins at its header, and lasts to the next end.
abbrev pub with_event : Hearing → Event → Hearing
with_event h (Frame x) = if h.under_way then h else amid (h.headers ++ x ∷ [])
with_event h (End n) = idle h.headers
with_event h e = h

-- after these events, in order
abbrev pub with_events : Hearing → List (ℕ × Event) → Hearing
with_events h [] = h
with_events h (e ∷ es) = with_events (with_event h e.1) es
