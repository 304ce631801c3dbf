-- A BATCH (section 4.1.7 of native_protocol_v4.spec), up to the consistency: <type><n><query_1>...<query_n><consistency>, where a query is
-- <kind><string_or_id><n><value_1>...<value_n>
use Rattle.std.specs.Prelude.{ℕ, ◌-◌, ◌==◌, List, if◌then◌else◌}
use Rattle.cqlp_observer_facts.specs.declared.batch.BatchField.{BatchField}
use Rattle.cqlp_observer_facts.specs.declared.batch.BatchField.TheVariants as batch
use Rattle.cqlp_observer_facts.specs.declared.due.Due.{Due}
use Rattle.cqlp_observer_facts.specs.declared.due.Due.TheVariants as due
use Rattle.cqlp_observer_facts.specs.declared.due.Next.{Next}
use Rattle.cqlp_observer_facts.specs.declared.facts.Fact.TheVariants as fact
use Rattle.cqlp_observer_facts.specs.Contents.{past_text, past_value}
use Rattle.cqlp_observer_facts.specs.Due.{at, past, says}
use Rattle.cqlp_observer_facts.specs.Numbers.{byte, int, short}

-- so many queries
abbrev pub entries_due : ℕ → Due
entries_due n = if n == 0 then due.Batch batch.Consistency else due.Batch (batch.Kind (n - 1))

-- so many values of a query, before so many more queries
abbrev pub entry_values_due : ℕ → (more : ℕ) → Due
entry_values_due n more = if n == 0 then entries_due more else due.Batch (batch.Value (n - 1) more)

-- The kind 0 is a text, and 1 a prepared id.
abbrev pub kind_following : (kind more : ℕ) → Due
kind_following kind more =
    if kind == 0 then due.Batch (batch.Text more)
    else if kind == 1 then due.Batch (batch.Id more)
    else due.Over

abbrev pub batch_width : BatchField → ℕ
batch_width batch.Type = 1
batch_width batch.Count = 2
batch_width (batch.Kind more) = 1
batch_width (batch.Text more) = 4
batch_width (batch.Id more) = 2
batch_width (batch.ValueCount more) = 2
batch_width (batch.Value values more) = 4
batch_width batch.Consistency = 2

abbrev pub batch_following : BatchField → List ℕ → Next
batch_following batch.Type b = at (due.Batch batch.Count)
batch_following batch.Count b = at (entries_due (short b))
batch_following (batch.Kind more) b = at (kind_following (byte b) more)
batch_following (batch.Text more) b = past_text (int b) (due.Batch (batch.ValueCount more))
batch_following (batch.Id more) b = past (short b) (due.Batch (batch.ValueCount more))
batch_following (batch.ValueCount more) b = at (entry_values_due (short b) more)
batch_following (batch.Value values more) b = past_value (int b) (entry_values_due values more)
batch_following batch.Consistency b = says (fact.Consistency (short b)) due.Over
