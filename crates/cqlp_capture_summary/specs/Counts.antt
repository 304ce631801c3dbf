-- What is counted of a statement.
use Rattle.std.specs.Prelude.{ℕ, Bool, true, List, Option, None}
use Rattle.cqlp_capture_summary.specs.declared.occurrence.Occurrence.{Occurrence}

-- one time that a statement was asked for, wherever its name lies
pub record Entry : Type 0 where
  pub name : List ℕ
  pub is_whole_name : Bool
  pub is_error : Bool
  pub rows : ℕ
  pub bytes : ℕ
  pub took : Option ℕ

abbrev pub entry_of : Occurrence → Entry
entry_of o =
    record { name = o.name.now; is_whole_name = o.is_whole_name; is_error = o.is_error; rows = o.rows; bytes = o.bytes; took = o.took }

-- the same, whether it was answered, and when it was asked for, in nanoseconds since some moment, where that is known
pub record Request : Type 0 where
  pub entry : Entry
  pub is_answered : Bool
  pub at : Option ℕ

abbrev pub request_of : Occurrence → (is_answered : Bool) → (at : Option ℕ) → Request
request_of o is_answered at = record { entry = entry_of o; is_answered = is_answered; at = at }

-- one that was answered, and nothing more is known
abbrev pub answered : Entry → Request
answered e = record { entry = e; is_answered = true; at = None }

-- how often it was asked for, how often it was answered by an ERROR, how often it was not answered, rows, bytes; when it was first and last asked for;
-- how many of the times are known, their sum, the greatest of them, and how many there are in each bucket
pub record Tally : Type 0 where
  pub count : ℕ
  pub errors : ℕ
  pub unanswered : ℕ
  pub rows : ℕ
  pub bytes : ℕ
  pub first : Option ℕ
  pub last : Option ℕ
  pub timed : ℕ
  pub time : ℕ
  pub greatest : ℕ
  pub buckets : List ℕ

abbrev pub tally : (count errors unanswered rows bytes : ℕ) → (first last : Option ℕ) → (timed time greatest : ℕ) → List ℕ → Tally
tally count errors unanswered rows bytes first last timed time greatest buckets = record {
  count = count;
  errors = errors;
  unanswered = unanswered;
  rows = rows;
  bytes = bytes;
  first = first;
  last = last;
  timed = timed;
  time = time;
  greatest = greatest;
  buckets = buckets;
}
