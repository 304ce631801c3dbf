-- The fields of a body, one after the other: what follows a field.
use Rattle.std.specs.Prelude.{ℕ, Bool, true, false, Some, None}
use Rattle.cqlp_note.specs.declared.opcode.Opcode.{Opcode}
use Rattle.cqlp_note.specs.declared.opcode.Opcode.TheVariants as opcode
use Rattle.cqlp_observer_facts.specs.declared.batch.BatchField.TheVariants as batch
use Rattle.cqlp_observer_facts.specs.declared.due.Due.{Due}
use Rattle.cqlp_observer_facts.specs.declared.due.Due.TheVariants as due
use Rattle.cqlp_observer_facts.specs.declared.due.Next.{Next}
use Rattle.cqlp_observer_facts.specs.declared.facts.Fact.{Fact}

-- this field, also after so many bytes that are passed over, also with a fact that the present field says
abbrev pub past : (passing : ℕ) → Due → Next
past passing d = record { passing = passing; due = d; fact = None }

abbrev pub at : Due → Next
at d = past 0 d

abbrev pub says : Fact → Due → Next
says fact d = record { passing = 0; due = d; fact = Some fact }

-- Sections 4.1.4, 4.1.6, 4.1.7, 4.2.1 and 4.2.5: the first field of a message.
abbrev pub opening_of : Opcode → Due
opening_of opcode.Query = due.QueryText
opening_of opcode.Execute = due.StatementId
opening_of opcode.Batch = due.Batch batch.Type
opening_of opcode.Error = due.ErrorCode
opening_of opcode.Result = due.ResultKind
opening_of o = due.Unread

abbrev pub is_opening : Due → Bool
is_opening due.QueryText = true
is_opening due.StatementId = true
is_opening (due.Batch batch.Type) = true
is_opening due.ErrorCode = true
is_opening due.ResultKind = true
is_opening due.Unread = true
is_opening d = false

-- no field is due
abbrev pub is_idle : Due → Bool
is_idle due.Unread = true
is_idle due.Over = true
is_idle d = false
