-- What the bytes of a body say, from the first to the last.
use Rattle.std.specs.Prelude.{ℕ, ◌+◌, ◌-◌, Bool, true, false, ◌&&◌, List, [], ◌∷◌, ◌++◌, length, nat_lt, if◌then◌else◌}
use Rattle.cqlp_note.specs.declared.header.Header.{Header}
use Rattle.cqlp_note.specs.declared.opcode.Opcode.TheVariants as opcode
use Rattle.cqlp_observer_facts.specs.declared.due.Due.{Due}
use Rattle.cqlp_observer_facts.specs.declared.due.Due.TheVariants as due
use Rattle.cqlp_observer_facts.specs.declared.due.Next.{Next}
use Rattle.cqlp_observer_facts.specs.declared.reader.FactsReader.{FactsReader}
use Rattle.cqlp_observer_facts.specs.Announced.{opening}
use Rattle.cqlp_observer_facts.specs.Bodies.{following, width}
use Rattle.cqlp_observer_facts.specs.Due.{is_idle, is_opening}
use Rattle.cqlp_observer_facts.specs.Facts.{no_facts, with_fact_if}

-- nothing is read
abbrev pub idle : FactsReader
idle = record { flags = 0; opcode = opcode.Options; due = due.Over; front = []; passing = 0; facts = no_facts }

-- nothing came of a body
abbrev pub begun : Header → FactsReader
begun h = record { flags = h.flags; opcode = h.opcode; due = opening h; front = []; passing = 0; facts = no_facts }

-- so many bytes are passed over
abbrev pub passed : ℕ → FactsReader → FactsReader
passed n s = record { flags = s.flags; opcode = s.opcode; due = s.due; front = s.front; passing = s.passing - n; facts = s.facts }

-- these bytes of a field came so far
abbrev pub waiting : List ℕ → FactsReader → FactsReader
waiting b s = record { flags = s.flags; opcode = s.opcode; due = s.due; front = b; passing = s.passing; facts = s.facts }

-- this field is due
abbrev pub with_due : Due → FactsReader → FactsReader
with_due d s = record { flags = s.flags; opcode = s.opcode; due = d; front = s.front; passing = s.passing; facts = s.facts }

-- what follows a field
abbrev pub gone_to : Next → FactsReader → FactsReader
gone_to n s = record { flags = s.flags; opcode = s.opcode; due = n.due; front = []; passing = n.passing; facts = with_fact_if n.fact s.facts }

abbrev pub gone_on : List ℕ → FactsReader → FactsReader
gone_on b s = gone_to (following s.flags s.opcode s.due b) s

-- these are the bytes of a field, all or the first ones
abbrev pub filled : List ℕ → FactsReader → FactsReader
filled b s = if nat_lt (length b) (width s.due) then waiting b s else gone_on b s

abbrev pub taken : ℕ → FactsReader → FactsReader
taken x s = filled (s.front ++ x ∷ []) s

-- A byte is passed over, or is one of the field that is due.
unfoldable pub after_byte : ℕ → FactsReader → FactsReader
after_byte x s =
    if nat_lt 0 s.passing then passed 1 s
    else if is_idle s.due then s
    else taken x s

abbrev pub read : List ℕ → FactsReader → FactsReader
read [] s = s
read (x ∷ b) s = read b (after_byte x s)

-- ---- how many of them lie before the message proper

abbrev pub is_announced : Due → Bool
is_announced (due.Announced f) = true
is_announced d = false

-- the next byte is one of a field that is announced, or of the content of the last of them
abbrev pub is_before : FactsReader → Bool
is_before s = if is_announced s.due then true else nat_lt 0 s.passing && is_opening s.due

abbrev pub before : List ℕ → FactsReader → ℕ
before [] s = 0
before (x ∷ b) s = (if is_before s then 1 else 0) + before b (after_byte x s)
