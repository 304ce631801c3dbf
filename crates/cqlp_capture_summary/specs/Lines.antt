-- What a summary says.
use Rattle.std.specs.Prelude.{ℕ, ◌-◌, ◌==◌, Bool, true, false, List, [], ◌∷◌, Option, Some, None, codes, length, slice_index_or, take, if◌then◌else◌}
use Rattle.std.specs.List.{flat_map}
use Rattle.std.specs.Str.Lossy.{utf8_valid_len}
use Rattle.cqlp_capture_summary.specs.declared.tally.Figures.{Figures}
use Rattle.cqlp_capture_summary.specs.declared.tally.Times.{Times}
use Rattle.cqlp_capture_summary.specs.Columns.{joined, number_column, share_of, share_text, text_column, time_column}
use Rattle.cqlp_capture_summary.specs.Counts.{Tally}
use Rattle.cqlp_capture_summary.specs.Names.{Name, name}
use Rattle.cqlp_capture_summary.specs.Order.{rank_of, tally_at, upto}
use Rattle.cqlp_capture_summary.specs.Shown.{shown_text}
use Rattle.cqlp_capture_summary.specs.Summaries.{Summary}
use Rattle.cqlp_capture_summary.specs.Tallies.{counted, figures_of}

-- above the columns; the last has this heading
abbrev pub header : (heading : List ℕ) → List ℕ
header heading =
    joined
    (codes "     %    time_ms    count errors unanswered      rows       bytes   p50_ms   p95_ms   p99_ms    max_ms " ∷ heading ∷ codes "\n" ∷ [])

-- two points behind what is not all of a name
abbrev pub more : (is_whole : Bool) → List ℕ
more true = []
more false = codes ".."

-- the longest front that is UTF-8
abbrev pub text_front : List ℕ → List ℕ
text_front bytes = take (utf8_valid_len bytes) bytes

abbrev pub name_text : Name → List ℕ
name_text n = joined (codes " " ∷ shown_text (text_front n.bytes) ∷ more n.is_whole ∷ codes "\n" ∷ [])

abbrev pub request_counts_text : Figures → List ℕ
request_counts_text f =
    joined
    (number_column 8 f.count ∷ number_column 6 f.errors ∷ number_column 10 f.unanswered ∷ number_column 9 f.rows ∷ number_column 11 f.bytes ∷ [])

abbrev pub counts_text : Figures → List ℕ
counts_text f = joined (time_column 6 f.time ∷ request_counts_text f ∷ [])

-- where no time is known a dash represents each
abbrev pub times_text : Option Times → List ℕ
times_text None =
    joined (text_column 8 (codes "-") ∷ text_column 8 (codes "-") ∷ text_column 8 (codes "-") ∷ text_column 9 (codes "-") ∷ [])
times_text (Some t) =
    joined (time_column 4 t.median ∷ time_column 4 t.percentile_95 ∷ time_column 4 t.percentile_99 ∷ time_column 5 t.greatest ∷ [])

-- what may be missing of a statement that left the table before
abbrev pub some_missing_text : (missing : ℕ) → List ℕ
some_missing_text n = joined (codes " (up to" ∷ time_column 1 n ∷ codes " ms more)" ∷ [])

abbrev pub missing_text : (missing : ℕ) → List ℕ
missing_text n = if n == 0 then [] else some_missing_text n

abbrev pub figures_line : (total : ℕ) → Name → (missing : ℕ) → Figures → List ℕ
figures_line total n missing f =
    joined (share_text (share_of f.time total) ∷ counts_text f ∷ times_text f.times ∷ missing_text missing ∷ name_text n ∷ [])

abbrev pub line : (total : ℕ) → Name → (missing : ℕ) → Tally → List ℕ
line total n missing t = figures_line total n missing (figures_of t)

-- ---- the lines of the statements that are distinguished, by their ranks, and the line of the others if there are any

abbrev pub line_at : (total : ℕ) → List Name → (weights : List ℕ) → List Tally → (place : ℕ) → List ℕ
line_at total names ws ts place =
    line total (slice_index_or names place (name [] true)) (slice_index_or ws place 0 - (tally_at ts place).time) (tally_at ts place)

abbrev pub line_if : (total : ℕ) → List Name → (weights : List ℕ) → List Tally → (rank place : ℕ) → List ℕ
line_if total names ws ts rank place = if rank_of place ts == rank then line_at total names ws ts place else []

abbrev pub lines_of_rank : (total : ℕ) → List Name → (weights : List ℕ) → List Tally → (rank : ℕ) → List ℕ
lines_of_rank total names ws ts rank = flat_map (line_if total names ws ts rank) (upto 0 (length ts))

abbrev pub lines : (total : ℕ) → List Name → (weights : List ℕ) → List Tally → List ℕ
lines total names ws ts = flat_map (lines_of_rank total names ws ts) (upto 0 (length ts))

abbrev pub others_line : (total : ℕ) → Tally → List ℕ
others_line total t = if t.count == 0 then [] else line total (name (codes "others") true) 0 t

-- the time of all of them
abbrev pub time_with : (sum : ℕ) → List Tally → ℕ
time_with sum [] = sum
time_with sum (t ∷ ts) = time_with (counted sum t.time) ts

abbrev pub text_of : (total : ℕ) → (heading : List ℕ) → List Name → (weights : List ℕ) → List Tally → (others : Tally) → List ℕ
text_of total heading names ws ts others = joined (header heading ∷ lines total names ws ts ∷ others_line total others ∷ [])

abbrev pub known_and_others : (heading : List ℕ) → List Name → (weights : List ℕ) → (known : List Tally) → (others : Tally) → List ℕ
known_and_others heading names ws ts others = text_of (time_with others.time ts) heading names ws ts others

-- the heading is that of the names
abbrev pub summary_text : (heading : List ℕ) → Summary → List ℕ
summary_text heading s = known_and_others heading s.names s.weights (take (length s.names) s.tallies) s.others
