-- What a message says beside its first field.
use Rattle.std.specs.Prelude.{Option, Some, None}
use Rattle.cqlp_observer_facts.specs.declared.facts.Fact.{Fact}
use Rattle.cqlp_observer_facts.specs.declared.facts.Fact.TheVariants as fact
use Rattle.cqlp_observer_facts.specs.declared.facts.Facts.{Facts}

abbrev pub no_facts : Facts
no_facts = record {
  consistency = None;
  page_size = None;
  has_paging_state = None;
  trace_id = None;
  warnings = None;
  result = None;
  error = None;
  rows = None;
  columns = None;
  has_more_pages = None;
}

abbrev pub known_or : {A : Type 0} → Option A → A → Option A
known_or (Some x) said = Some x
known_or None said = Some said

-- A fact that is known stays.
abbrev pub with_fact : Fact → Facts → Facts
with_fact (fact.Consistency level) f = record f { consistency = known_or f.consistency level }
with_fact (fact.PageSize size) f = record f { page_size = known_or f.page_size size }
with_fact (fact.HasPagingState has) f = record f { has_paging_state = known_or f.has_paging_state has }
with_fact (fact.TraceId id) f = record f { trace_id = known_or f.trace_id id }
with_fact (fact.Warnings count) f = record f { warnings = known_or f.warnings count }
with_fact (fact.Result kind) f = record f { result = known_or f.result kind }
with_fact (fact.Error code) f = record f { error = known_or f.error code }
with_fact (fact.Rows count) f = record f { rows = known_or f.rows count }
with_fact (fact.Columns count) f = record f { columns = known_or f.columns count }
with_fact (fact.HasMorePages has) f = record f { has_more_pages = known_or f.has_more_pages has }

abbrev pub with_fact_if : Option Fact → Facts → Facts
with_fact_if (Some fact) f = with_fact fact f
with_fact_if None f = f
