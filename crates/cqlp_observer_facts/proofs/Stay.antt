-- What is known stays.
use Rattle.std.proofs.Common.{ℕ, Bool, true, false, cond, List, [], ◌∷◌, ◌++◌, length, Option, Some, None}
use Rattle.std.specs.Prelude.{nat_lt}
use Rattle.cqlp_observer_facts.specs.declared.facts.Fact.{Fact}
use Rattle.cqlp_observer_facts.specs.declared.facts.Fact.TheVariants as fact
use Rattle.cqlp_observer_facts.specs.declared.facts.Facts.{Facts}
use Rattle.cqlp_observer_facts.specs.declared.reader.FactsReader.{FactsReader}
use Rattle.cqlp_observer_facts.specs.Bodies.{following, width}
use Rattle.cqlp_observer_facts.specs.Due.{is_idle}
use Rattle.cqlp_observer_facts.specs.Facts.{known_or, with_fact, with_fact_if}
use Rattle.cqlp_observer_facts.specs.Laws.{AreKept, IsKept, KeepsFacts}
use Rattle.cqlp_observer_facts.specs.Reading.{after_byte, filled, gone_on, passed, read, taken, waiting}

same : {A : Type 0} (o : Option A) → IsKept o o
same o x e = e

known : {A : Type 0} (o : Option A) (said : A) → IsKept o (known_or o said)
known (Some y) said x e = e
known None said x e = absurd (cc e)

then : {A : Type 0} (a b c : Option A) → IsKept a b → IsKept b c → IsKept a c
then a b c f g x e = g x (f x e)

all : {f g : Facts} → IsKept f.consistency g.consistency → IsKept f.page_size g.page_size
    → IsKept f.has_paging_state g.has_paging_state → IsKept f.trace_id g.trace_id → IsKept f.warnings g.warnings → IsKept f.result g.result → IsKept f.error g.error → IsKept f.rows g.rows
    → IsKept f.columns g.columns → IsKept f.has_more_pages g.has_more_pages → AreKept f g
all consistency page_size has_paging_state trace_id warnings result error rows columns has_more_pages = record {
  consistency = consistency;
  page_size = page_size;
  has_paging_state = has_paging_state;
  trace_id = trace_id;
  warnings = warnings;
  result = result;
  error = error;
  rows = rows;
  columns = columns;
  has_more_pages = has_more_pages;
}

all_same : (f : Facts) → AreKept f f
all_same f = all (same _) (same _) (same _) (same _) (same _) (same _) (same _) (same _) (same _) (same _)

all_then : (f g h : Facts) → AreKept f g → AreKept g h → AreKept f h
all_then f g h a b = record {
  consistency = then f.consistency g.consistency h.consistency a.consistency b.consistency;
  page_size = then f.page_size g.page_size h.page_size a.page_size b.page_size;
  has_paging_state = then f.has_paging_state g.has_paging_state h.has_paging_state a.has_paging_state b.has_paging_state;
  trace_id = then f.trace_id g.trace_id h.trace_id a.trace_id b.trace_id;
  warnings = then f.warnings g.warnings h.warnings a.warnings b.warnings;
  result = then f.result g.result h.result a.result b.result;
  error = then f.error g.error h.error a.error b.error;
  rows = then f.rows g.rows h.rows a.rows b.rows;
  columns = then f.columns g.columns h.columns a.columns b.columns;
  has_more_pages = then f.has_more_pages g.has_more_pages h.has_more_pages a.has_more_pages b.has_more_pages;
}

with_one : (said : Fact) (f : Facts) → AreKept f (with_fact said f)
with_one (fact.Consistency said) f = all (known _ said) (same _) (same _) (same _) (same _) (same _) (same _) (same _) (same _) (same _)
with_one (fact.PageSize said) f = all (same _) (known _ said) (same _) (same _) (same _) (same _) (same _) (same _) (same _) (same _)
with_one (fact.HasPagingState said) f = all (same _) (same _) (known _ said) (same _) (same _) (same _) (same _) (same _) (same _) (same _)
with_one (fact.TraceId said) f = all (same _) (same _) (same _) (known _ said) (same _) (same _) (same _) (same _) (same _) (same _)
with_one (fact.Warnings said) f = all (same _) (same _) (same _) (same _) (known _ said) (same _) (same _) (same _) (same _) (same _)
with_one (fact.Result said) f = all (same _) (same _) (same _) (same _) (same _) (known _ said) (same _) (same _) (same _) (same _)
with_one (fact.Error said) f = all (same _) (same _) (same _) (same _) (same _) (same _) (known _ said) (same _) (same _) (same _)
with_one (fact.Rows said) f = all (same _) (same _) (same _) (same _) (same _) (same _) (same _) (known _ said) (same _) (same _)
with_one (fact.Columns said) f = all (same _) (same _) (same _) (same _) (same _) (same _) (same _) (same _) (known _ said) (same _)
with_one (fact.HasMorePages said) f = all (same _) (same _) (same _) (same _) (same _) (same _) (same _) (same _) (same _) (known _ said)

with_some : (said : Option Fact) (f : Facts) → AreKept f (with_fact_if said f)
with_some (Some said) f = with_one said f
with_some None f = all_same f

abbrev From : FactsReader → FactsReader → Type 0
From s t = AreKept s.facts t.facts

-- ---- a byte

chosen : (c : Bool) (s t u : FactsReader) → From s t → From s u → From s (cond c t u)
chosen true s t u a b = a
chosen false s t u a b = b

kept_filled : (b : List ℕ) (s : FactsReader) → From s (filled b s)
kept_filled b s =
    chosen (nat_lt (length b) (width s.due)) s (waiting b s) (gone_on b s) (all_same s.facts) (with_some (following s.flags s.opcode s.due b).fact s.facts)

kept_byte : (x : ℕ) (s : FactsReader) → From s (after_byte x s)
unfolding after_byte
kept_byte x s =
    chosen (nat_lt 0 s.passing) s (passed 1 s) (cond (is_idle s.due) s (taken x s)) (all_same s.facts) (
    chosen (is_idle s.due) s s (taken x s) (all_same s.facts) (kept_filled (s.front ++ x ∷ []) s)
    )

pub keeps_facts : KeepsFacts
keeps_facts [] s = all_same s.facts
keeps_facts (x ∷ xs) s = all_then s.facts (after_byte x s).facts (read xs (after_byte x s)).facts (kept_byte x s) (keeps_facts xs (after_byte x s))
