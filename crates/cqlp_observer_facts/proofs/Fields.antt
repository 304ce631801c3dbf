-- A field that lies whole in a piece is read at once.
use Rattle.std.proofs.Common.{◌≡◌, ℕ, suc, ◌+◌, ◌<◌, ◌≤◌, Bool, true, false, cond, List, [], ◌∷◌, ◌++◌, length, take, refl, ap, ◌∙◌, arith}
use Rattle.std.proofs.lemmas.Bool.{lt-ltb, le-ltb}
use Rattle.std.proofs.lemmas.List.{append_assoc, length-append, length-take-le}
use Rattle.cqlp_observer_facts.specs.declared.announced.Announced.{Announced}
use Rattle.cqlp_observer_facts.specs.declared.announced.Announced.TheVariants as announced
use Rattle.cqlp_observer_facts.specs.declared.batch.BatchField.{BatchField}
use Rattle.cqlp_observer_facts.specs.declared.batch.BatchField.TheVariants as batch
use Rattle.cqlp_observer_facts.specs.declared.due.Due.{Due}
use Rattle.cqlp_observer_facts.specs.declared.due.Due.TheVariants as due
use Rattle.cqlp_observer_facts.specs.declared.query.QueryField.{QueryField}
use Rattle.cqlp_observer_facts.specs.declared.query.QueryField.TheVariants as query
use Rattle.cqlp_observer_facts.specs.declared.rows.RowsField.{RowsField}
use Rattle.cqlp_observer_facts.specs.declared.rows.RowsField.TheVariants as rows
use Rattle.cqlp_observer_facts.specs.declared.reader.FactsReader.{FactsReader}
use Rattle.cqlp_observer_facts.specs.Announced.{announced_width}
use Rattle.cqlp_observer_facts.specs.Batches.{batch_width}
use Rattle.cqlp_observer_facts.specs.Bodies.{width}
use Rattle.cqlp_observer_facts.specs.Due.{is_idle}
use Rattle.cqlp_observer_facts.specs.Queries.{query_width}
use Rattle.cqlp_observer_facts.specs.Reading.{after_byte, before, filled, gone_on, is_before, read, taken, waiting}
use Rattle.cqlp_observer_facts.specs.Rows.{rows_width}

-- ---- each field has a byte

announced_wide : (f : Announced) → 1 ≤ announced_width f
announced_wide announced.TraceId = omega arith
announced_wide announced.WarningCount = omega arith
announced_wide (announced.Warning more) = omega arith
announced_wide announced.PayloadCount = omega arith
announced_wide (announced.PayloadKey more) = omega arith
announced_wide (announced.PayloadValue more) = omega arith

query_wide : (f : QueryField) → 1 ≤ query_width f
query_wide query.Consistency = omega arith
query_wide query.Flags = omega arith
query_wide (query.ValueCount form) = omega arith
query_wide (query.ValueName more form) = omega arith
query_wide (query.Value more form) = omega arith
query_wide query.PageSize = omega arith

batch_wide : (f : BatchField) → 1 ≤ batch_width f
batch_wide batch.Type = omega arith
batch_wide batch.Count = omega arith
batch_wide (batch.Kind more) = omega arith
batch_wide (batch.Text more) = omega arith
batch_wide (batch.Id more) = omega arith
batch_wide (batch.ValueCount more) = omega arith
batch_wide (batch.Value values more) = omega arith
batch_wide batch.Consistency = omega arith

rows_wide : (f : RowsField) → 1 ≤ rows_width f
rows_wide rows.Flags = omega arith
rows_wide (rows.ColumnCount flags) = omega arith
rows_wide (rows.PagingState flags columns) = omega arith
rows_wide (rows.Name more t) = omega arith
rows_wide (rows.Type t) = omega arith
rows_wide (rows.UdtName is_own t) = omega arith
rows_wide (rows.FieldCount t) = omega arith
rows_wide (rows.ItemCount t) = omega arith
rows_wide rows.RowCount = omega arith

pub wide : (d : Due) → 1 ≤ width d
wide (due.Announced f) = announced_wide f
wide due.QueryText = omega arith
wide due.StatementId = omega arith
wide (due.Query f) = query_wide f
wide (due.Batch f) = batch_wide f
wide due.ErrorCode = omega arith
wide due.ResultKind = omega arith
wide (due.Rows f) = rows_wide f
wide due.Unread = omega arith
wide due.Over = omega arith

-- ---- bytes of a field, one after the other

takes_one : (x : ℕ) (s : FactsReader) → s.passing ≡ 0 → is_idle s.due ≡ false → after_byte x s ≡ taken x s
unfolding after_byte
takes_one x s none busy = rw (none, busy) refl

short_waits : (b : List ℕ) (s : FactsReader) → length b < width s.due → filled b s ≡ waiting b s
short_waits b s lt = rw (lt-ltb (length b) (width s.due) lt) refl

long_goes_on : (b : List ℕ) (s : FactsReader) → width s.due ≤ length b → filled b s ≡ gone_on b s
long_goes_on b s le = rw (le-ltb (length b) (width s.due) le) refl

-- the rest of a field of which these bytes came
field_read : (front b : List ℕ) (x : ℕ) (s : FactsReader) → s.passing ≡ 0 → is_idle s.due ≡ false → length front + suc (length b) ≡ width s.due → read (x ∷ b) (waiting front s) ≡ gone_on (front ++ (x ∷ b)) s
field_read front [] x s none busy long =
    let one : length (front ++ x ∷ []) ≡ length front + 1 = length-append front (x ∷ []) in
    takes_one x (waiting front s) none busy ∙ long_goes_on (front ++ x ∷ []) (waiting front s) (omega (arith, one, long))
field_read front (y ∷ b) x s none busy long =
    let one : length (front ++ x ∷ []) ≡ length front + 1 = length-append front (x ∷ []) in
    ap (λ (t : FactsReader). read (y ∷ b) t) (takes_one x (waiting front s) none busy ∙ short_waits (front ++ x ∷ []) (waiting front s) (omega (arith, one, long)))
    ∙ field_read (front ++ x ∷ []) b y s none busy (omega (arith, one, long))
    ∙ ap (λ (r : List ℕ). gone_on r s) (append_assoc front (x ∷ []) (y ∷ b))

field_before : (front b : List ℕ) (x : ℕ) (s : FactsReader) → s.passing ≡ 0 → is_idle s.due ≡ false → length front + suc (length b) ≡ width s.due → before (x ∷ b) (waiting front s) ≡ cond (is_before s) (suc (length b)) 0
field_before front [] x s none busy long = last (is_before s)
  where
    last : (c : Bool) → cond c 1 0 + 0 ≡ cond c 1 0
    last true = refl
    last false = refl
field_before front (y ∷ b) x s none busy long =
    let one : length (front ++ x ∷ []) ≡ length front + 1 = length-append front (x ∷ []) in
    ap (λ (t : FactsReader). cond (is_before s) 1 0 + before (y ∷ b) t) (takes_one x (waiting front s) none busy ∙ short_waits (front ++ x ∷ []) (waiting front s) (omega (arith, one, long)))
    ∙ ap (λ (n : ℕ). cond (is_before s) 1 0 + n) (field_before (front ++ x ∷ []) b y s none busy (omega (arith, one, long)))
    ∙ more (is_before s)
  where
    more : (c : Bool) → cond c 1 0 + cond c (suc (length b)) 0 ≡ cond c (suc (suc (length b))) 0
    more true = omega arith
    more false = refl

pub nothing_in : (xs : List ℕ) → length xs ≡ 0 → xs ≡ []
nothing_in [] none = refl
nothing_in (x ∷ xs) none = absurd (omega (arith, none))

is_waiting : (s : FactsReader) → s.front ≡ [] → s ≡ waiting [] s
is_waiting s none = ap (λ (b : List ℕ). waiting b s) none

read_all : (b : List ℕ) (s : FactsReader) → s.passing ≡ 0 → is_idle s.due ≡ false → s.front ≡ [] → length b ≡ width s.due → read b s ≡ gone_on b s
read_all [] s none busy nothing long = absurd (omega (arith, wide s.due, long))
read_all (x ∷ b) s none busy nothing long =
    ap (λ (t : FactsReader). read (x ∷ b) t) (is_waiting s nothing) ∙ field_read [] b x s none busy (omega (arith, long))

before_all : (b : List ℕ) (s : FactsReader) → s.passing ≡ 0 → is_idle s.due ≡ false → s.front ≡ [] → length b ≡ width s.due → before b s ≡ cond (is_before s) (length b) 0
before_all [] s none busy nothing long = absurd (omega (arith, wide s.due, long))
before_all (x ∷ b) s none busy nothing long =
    ap (λ (t : FactsReader). before (x ∷ b) t) (is_waiting s nothing) ∙ field_before [] b x s none busy (omega (arith, long))

-- ---- the first bytes of a piece

pub read_field : (b : List ℕ) (s : FactsReader) → s.passing ≡ 0 → is_idle s.due ≡ false → length s.front ≡ 0 → width s.due ≤ length b → read (take (width s.due) b) s ≡ gone_on (take (width s.due) b) s
read_field b s none busy nothing within =
    read_all (take (width s.due) b) s none busy (nothing_in s.front nothing) (length-take-le (width s.due) b within)

pub before_field : (b : List ℕ) (s : FactsReader) → s.passing ≡ 0 → is_idle s.due ≡ false → length s.front ≡ 0 → width s.due ≤ length b → before (take (width s.due) b) s ≡ cond (is_before s) (width s.due) 0
before_field b s none busy nothing within =
    let long : length (take (width s.due) b) ≡ width s.due = length-take-le (width s.due) b within in
    before_all (take (width s.due) b) s none busy (nothing_in s.front nothing) long ∙ ap (λ (n : ℕ). cond (is_before s) n 0) long
