-- Bodies: the bytes of each field, and what follows it.
use Rattle.std.specs.Prelude.{ℕ, ◌==◌, List, if◌then◌else◌}
use Rattle.cqlp_note.specs.declared.opcode.Opcode.{Opcode}
use Rattle.cqlp_observer_facts.specs.declared.due.Due.{Due}
use Rattle.cqlp_observer_facts.specs.declared.due.Due.TheVariants as due
use Rattle.cqlp_observer_facts.specs.declared.due.Next.{Next}
use Rattle.cqlp_observer_facts.specs.declared.facts.Fact.TheVariants as fact
use Rattle.cqlp_observer_facts.specs.declared.query.QueryField.TheVariants as query
use Rattle.cqlp_observer_facts.specs.declared.rows.RowsField.TheVariants as rows
use Rattle.cqlp_observer_facts.specs.Announced.{announced_following, announced_width}
use Rattle.cqlp_observer_facts.specs.Batches.{batch_following, batch_width}
use Rattle.cqlp_observer_facts.specs.Contents.{past_text}
use Rattle.cqlp_observer_facts.specs.Due.{at, past, says}
use Rattle.cqlp_observer_facts.specs.Numbers.{int, short}
use Rattle.cqlp_observer_facts.specs.Queries.{query_following, query_width}
use Rattle.cqlp_observer_facts.specs.Rows.{rows_following, rows_width}

-- how many bytes a field has, without its content
abbrev pub width : Due → ℕ
width (due.Announced f) = announced_width f
width due.QueryText = 4
width due.StatementId = 2
width (due.Query f) = query_width f
width (due.Batch f) = batch_width f
width due.ErrorCode = 4
width due.ResultKind = 4
width (due.Rows f) = rows_width f
width due.Unread = 4
width due.Over = 4

-- Section 4.2.5: the kind 2 is Rows.
abbrev pub result_kind : ℕ → Next
result_kind kind = says (fact.Result kind) (if kind == 2 then due.Rows rows.Flags else due.Over)

-- what follows a field, by its bytes; in a message with these flags and this opcode
abbrev pub following : (flags : ℕ) → Opcode → Due → List ℕ → Next
following flags o (due.Announced f) b = announced_following flags o f b
following flags o due.QueryText b = past_text (int b) (due.Query query.Consistency)
following flags o due.StatementId b = past (short b) (due.Query query.Consistency)
following flags o (due.Query f) b = query_following f b
following flags o (due.Batch f) b = batch_following f b
following flags o due.ErrorCode b = says (fact.Error (int b)) due.Over
following flags o due.ResultKind b = result_kind (int b)
following flags o (due.Rows f) b = rows_following f b
following flags o due.Unread b = at due.Over
following flags o due.Over b = at due.Over
