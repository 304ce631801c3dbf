-- The parameters of a QUERY and an EXECUTE (sections 4.1.4 and 4.1.6 of native_protocol_v4.spec), up to the page size:
-- <consistency><flags>[<n>[name_1]<value_1>...[name_n]<value_n>][<result_page_size>]
use Rattle.std.specs.Prelude.{ℕ, ◌-◌, ◌==◌, Bool, List, if◌then◌else◌}
use Rattle.cqlp_note.specs.Heading.{has}
use Rattle.cqlp_observer_facts.specs.declared.due.Due.{Due}
use Rattle.cqlp_observer_facts.specs.declared.due.Due.TheVariants as due
use Rattle.cqlp_observer_facts.specs.declared.due.Next.{Next}
use Rattle.cqlp_observer_facts.specs.declared.facts.Fact.TheVariants as fact
use Rattle.cqlp_observer_facts.specs.declared.query.QueryField.{QueryField}
use Rattle.cqlp_observer_facts.specs.declared.query.QueryField.TheVariants.{Consistency, Flags, ValueCount, ValueName, Value, PageSize}
use Rattle.cqlp_observer_facts.specs.declared.query.ValueForm.{ValueForm}
use Rattle.cqlp_observer_facts.specs.Contents.{past_value}
use Rattle.cqlp_observer_facts.specs.Due.{at, past, says}
use Rattle.cqlp_observer_facts.specs.Numbers.{byte, int, short, signed_int}

abbrev pub page_size_due : (paged : Bool) → Due
page_size_due paged = if paged then due.Query PageSize else due.Over

-- so many values, each after its name if they have names
abbrev pub values_due : ℕ → ValueForm → Due
values_due n form =
    if n == 0 then page_size_due form.paged
    else if form.named then due.Query (ValueName (n - 1) form)
    else due.Query (Value (n - 1) form)

-- The flag 01 says that there are values, 40 that they have names, and 04 that there is a page size.
abbrev pub flags_following : (flags : ℕ) → Due
flags_following flags =
    if has flags 0x01 then due.Query (ValueCount (record { named = has flags 0x40; paged = has flags 0x04 }))
    else page_size_due (has flags 0x04)

-- The flag 08 says that there is a paging state: a page after the first is asked for.
abbrev pub has_paging_state : (flags : ℕ) → Bool
has_paging_state flags = has flags 0x08

abbrev pub query_width : QueryField → ℕ
query_width Consistency = 2
query_width Flags = 1
query_width (ValueCount form) = 2
query_width (ValueName more form) = 2
query_width (Value more form) = 4
query_width PageSize = 4

-- what follows the flags
abbrev pub flags_next : (flags : ℕ) → Next
flags_next flags = says (fact.HasPagingState (has_paging_state flags)) (flags_following flags)

abbrev pub query_following : QueryField → List ℕ → Next
query_following Consistency b = says (fact.Consistency (short b)) (due.Query Flags)
query_following Flags b = flags_next (byte b)
query_following (ValueCount form) b = at (values_due (short b) form)
query_following (ValueName more form) b = past (short b) (due.Query (Value more form))
query_following (Value more form) b = past_value (int b) (values_due more form)
query_following PageSize b = says (fact.PageSize (signed_int b)) due.Over
