-- Laws.
use Rattle.std.specs.Prelude.{◌≡◌, ◌+◌, ℕ, List, ◌++◌, Option, Some}
use Rattle.cqlp_observer_facts.specs.declared.facts.Facts.{Facts}
use Rattle.cqlp_observer_facts.specs.declared.reader.FactsReader.{FactsReader}
use Rattle.cqlp_observer_facts.specs.Reading.{before, read}

-- bytes in pieces, and as a whole
abbrev pub ReadsPieces : Type 0
ReadsPieces =
    (xs ys : List ℕ) (s : FactsReader)
    → (read (xs ++ ys) s ≡ read ys (read xs s)) × (before (xs ++ ys) s ≡ before xs s + before ys (read xs s))

-- what is known is known as the same later
abbrev pub IsKept : {A : Type 0} → (earlier later : Option A) → Type 0
IsKept {A} earlier later = (x : A) → earlier ≡ Some x → later ≡ Some x

pub record AreKept (earlier later : Facts) : Type 0 where
  pub consistency : IsKept earlier.consistency later.consistency
  pub page_size : IsKept earlier.page_size later.page_size
  pub has_paging_state : IsKept earlier.has_paging_state later.has_paging_state
  pub trace_id : IsKept earlier.trace_id later.trace_id
  pub warnings : IsKept earlier.warnings later.warnings
  pub result : IsKept earlier.result later.result
  pub error : IsKept earlier.error later.error
  pub rows : IsKept earlier.rows later.rows
  pub columns : IsKept earlier.columns later.columns
  pub has_more_pages : IsKept earlier.has_more_pages later.has_more_pages

-- more bytes change no fact
abbrev pub KeepsFacts : Type 0
KeepsFacts = (xs : List ℕ) (s : FactsReader) → AreKept s.facts (read xs s).facts
