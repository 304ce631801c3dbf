-- What is kept of a message.
use Rattle.std.specs.Prelude.{ℕ, ◌+◌, ◌&&◌, Bool, true, false, List, [], Option, Some, None, length, if◌then◌else◌}
use Rattle.cqlp_note.specs.declared.header.Header.{Header}
use Rattle.cqlp_note.specs.Heading.{has}
use Rattle.cqlp_observer_facts.specs.declared.facts.Facts.{Facts}
use Rattle.cqlp_observer_facts.specs.Facts.{no_facts}

-- the first bytes of the message proper, those that lie before it where warnings do, what it says, and whether all of that was dropped
pub record Kept : Type 0 where
  pub front : List ℕ
  pub announced : Option (List ℕ)
  pub facts : Facts
  pub is_text_dropped : Bool

abbrev pub kept : (front : List ℕ) → (announced : Option (List ℕ)) → Facts → (is_text_dropped : Bool) → Kept
kept front announced facts is_text_dropped = record {
  front = front;
  announced = announced;
  facts = facts;
  is_text_dropped = is_text_dropped;
}

-- the header alone
abbrev pub bare_kept : Kept
bare_kept = kept [] None no_facts true

-- Section 2.2: a response has warnings before its message (08), which are not to be seen in a body that is compressed (01).
abbrev pub announces_warnings : Header → Bool
announces_warnings h = if has h.flags 0x01 then false else h.response && has h.flags 0x08

-- the bytes before the message that are kept of it, none where no warnings are among them
abbrev pub announced_bytes : Option (List ℕ) → List ℕ
announced_bytes None = []
announced_bytes (Some b) = b

-- how many bytes of room it takes
abbrev pub announced_cost : Option (List ℕ) → ℕ
announced_cost None = 0
announced_cost (Some b) = 64 + length b

abbrev pub cost_of : Kept → ℕ
cost_of k = if k.is_text_dropped then 0 else 128 + length k.front + announced_cost k.announced
