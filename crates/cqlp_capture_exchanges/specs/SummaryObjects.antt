-- A summary as JSON: an object a line (RFC 8259).
use Rattle.std.specs.Prelude.{ℕ, suc, ◌==◌, ◌&&◌, Bool, true, false, List, [], ◌∷◌, ◌++◌, Option, Some, None, codes, length, slice_index_or, if◌then◌else◌}
use Rattle.std.specs.List.{flat_map}
use Rattle.cqlp_text.specs.CellText.{boolean_text}
use Rattle.cqlp_json.specs.Lines.{Members, member, texts}
use Rattle.cqlp_json.specs.Values.{string, word}
use Rattle.cqlp_capture_summary.specs.declared.tally.Figures.{Figures}
use Rattle.cqlp_capture_summary.specs.declared.tally.Times.{Times}
use Rattle.cqlp_capture_summary.specs.Buckets.{greatest_in}
use Rattle.cqlp_capture_summary.specs.Counts.{Tally}
use Rattle.cqlp_capture_summary.specs.Lines.{text_front}
use Rattle.cqlp_capture_summary.specs.Names.{Name, name}
use Rattle.cqlp_capture_summary.specs.Order.{upto}
use Rattle.cqlp_capture_summary.specs.Summaries.{Summary, missing_at}
use Rattle.cqlp_capture_summary.specs.Tallies.{figures_of, none_counted}
use Rattle.cqlp_capture_exchanges.specs.Members.{null, number, seconds, utc_or_null}
use Rattle.cqlp_capture_exchanges.specs.Objects.{first_member}
use Rattle.cqlp_capture_exchanges.specs.Times.{joined}

abbrev pub seconds_of : (nanoseconds : ℕ) → List ℕ
seconds_of n = seconds (record { is_before = false; nanoseconds = n })

abbrev pub text_or_null : Option (List ℕ) → List ℕ
text_or_null None = null
text_or_null (Some text) = string text

-- what the name is of, the name, of the others none, and whether it is whole; and the counts
abbrev pub count_members : (by : List ℕ) → (text : Option (List ℕ)) → (is_whole : Bool) → Figures → Members
count_members by text is_whole f =
    first_member "by" (word by) ∷ member "name" (text_or_null text) ∷ member "name_is_whole" (boolean_text is_whole)
    ∷ member "count" (number f.count) ∷ member "errors" (number f.errors) ∷ member "unanswered" (number f.unanswered)
    ∷ member "rows" (number f.rows) ∷ member "bytes" (number f.bytes) ∷ []

-- when it was first and last asked for, how long it took in sum, and how long it may have taken before
abbrev pub time_members : (missing : ℕ) → Figures → Members
time_members missing f =
    member "first" (utc_or_null f.first) ∷ member "last" (utc_or_null f.last) ∷ member "time" (seconds_of f.time)
    ∷ member "missing" (seconds_of missing) ∷ []

abbrev pub percentile_members : Option Times → Members
percentile_members None = member "p50" null ∷ member "p95" null ∷ member "p99" null ∷ member "max" null ∷ []
percentile_members (Some t) =
    member "p50" (seconds_of t.median) ∷ member "p95" (seconds_of t.percentile_95) ∷ member "p99" (seconds_of t.percentile_99)
    ∷ member "max" (seconds_of t.greatest) ∷ []

-- ---- the buckets that have times: the greatest time of each, and how many it has

abbrev pub separator : (is_first : Bool) → List ℕ
separator true = []
separator false = codes ","

abbrev pub pair_members : (greatest count : ℕ) → Members
pair_members greatest n = (codes "[" ++ seconds_of greatest) ∷ (codes "," ++ number n) ∷ []

abbrev pub some_bucket : (is_first : Bool) → (bucket count : ℕ) → List ℕ
some_bucket is_first b n = joined (separator is_first ∷ texts (pair_members (greatest_in b) n) ∷ codes "]" ∷ [])

abbrev pub bucket_text : (is_first : Bool) → (bucket count : ℕ) → List ℕ
bucket_text is_first b n = if n == 0 then [] else some_bucket is_first b n

-- of buckets from the b-th on
abbrev pub buckets_text : (is_first : Bool) → (b : ℕ) → (counts : List ℕ) → List ℕ
buckets_text is_first b [] = []
buckets_text is_first b (n ∷ ns) = bucket_text is_first b n ++ buckets_text (is_first && n == 0) (suc b) ns

-- ---- the objects

abbrev pub object : (by : List ℕ) → (text : Option (List ℕ)) → (is_whole : Bool) → (missing : ℕ) → Figures → (buckets : List ℕ) → List ℕ
object by text is_whole missing f buckets =
    joined (texts (count_members by text is_whole f) ∷ texts (time_members missing f) ∷ texts (percentile_members f.times)
    ∷ codes ",\"buckets\":[" ∷ buckets_text true 0 buckets ∷ codes "]}\n" ∷ [])

abbrev pub object_of : (by : List ℕ) → Name → (missing : ℕ) → Tally → List ℕ
object_of by n missing t = object by (Some (text_front n.bytes)) n.is_whole missing (figures_of t) t.buckets

-- of the name at a place of the table
abbrev pub object_at : (by : List ℕ) → Summary → (place : ℕ) → List ℕ
object_at by s place = object_of by (slice_index_or s.names place (name [] true)) (missing_at place s) (slice_index_or s.tallies place none_counted)

abbrev pub known_objects : (by : List ℕ) → Summary → List ℕ
known_objects by s = flat_map (object_at by s) (upto 0 (length s.names))

-- of all other names, if there are any
abbrev pub others_object : (by : List ℕ) → Summary → List ℕ
others_object by s = if s.others.count == 0 then [] else object by None true 0 (figures_of s.others) s.others.buckets

abbrev pub summary_objects : (by : List ℕ) → Summary → List ℕ
summary_objects by s = joined (known_objects by s ∷ others_object by s ∷ [])
