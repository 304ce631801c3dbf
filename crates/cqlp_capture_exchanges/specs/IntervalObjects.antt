-- An interval of time as JSON: an object in a line (RFC 8259).
use Rattle.std.specs.Prelude.{ℕ, ◌*◌, ◌/◌, ◌%◌, ◌==◌, List, [], ◌∷◌, Option, Some, None, codes, decimal, max, if◌then◌else◌}
use Rattle.cqlp_text.specs.CellText.{digits}
use Rattle.cqlp_json.specs.Lines.{Members, member, texts}
use Rattle.cqlp_capture_summary.specs.declared.tally.Figures.{Figures}
use Rattle.cqlp_capture_summary.specs.Intervals.{begin_of}
use Rattle.cqlp_capture_exchanges.specs.Members.{null, number, utc}
use Rattle.cqlp_capture_exchanges.specs.Objects.{first_member}
use Rattle.cqlp_capture_exchanges.specs.SummaryObjects.{percentile_members}
use Rattle.cqlp_capture_exchanges.specs.Times.{joined}

-- when it begins, by the last time in it
abbrev pub begin_or_null : (seconds : ℕ) → (last : Option ℕ) → List ℕ
begin_or_null seconds None = null
begin_or_null seconds (Some time) = utc (begin_of seconds time * 1_000_000_000)

abbrev pub begin_members : (seconds : ℕ) → (last : Option ℕ) → Members
begin_members seconds last = first_member "begin" (begin_or_null seconds last) ∷ []

-- how many there were in a second, cut to the thousandth
abbrev pub rate_member : (seconds count : ℕ) → List ℕ
rate_member seconds n =
    joined (codes ",\"per_s\":" ∷ decimal (n / max seconds 1) ∷ codes "." ∷ digits 3 (n % max seconds 1 * 1_000 / max seconds 1) ∷ [])

abbrev pub count_members : Figures → Members
count_members f =
    member "count" (number f.count) ∷ member "errors" (number f.errors) ∷ member "unanswered" (number f.unanswered)
    ∷ member "rows" (number f.rows) ∷ member "bytes" (number f.bytes) ∷ []

abbrev pub some_interval : (seconds : ℕ) → Figures → List ℕ
some_interval seconds f =
    joined (texts (begin_members seconds f.last) ∷ rate_member seconds f.count ∷ texts (count_members f) ∷ texts (percentile_members f.times)
    ∷ codes "}\n" ∷ [])

-- nothing where nothing is counted
abbrev pub interval_object : (seconds : ℕ) → Figures → List ℕ
interval_object seconds f = if f.count == 0 then [] else some_interval seconds f
