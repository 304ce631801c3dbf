-- Once the message proper has begun, no byte lies before it.
use Rattle.std.proofs.Common.{◌≡◌, ℕ, ◌+◌, ◌-◌, Bool, true, false, cond, List, [], ◌∷◌, ◌++◌, length, refl, ap, ◌∙◌, Option, Some, None}
use Rattle.std.specs.Prelude.{nat_lt, ◌==◌, ◌&&◌, ◌||◌, ◌^◌}
use Rattle.cqlp_note.specs.declared.opcode.Opcode.{Opcode}
use Rattle.cqlp_note.specs.Field.{is_negative}
use Rattle.cqlp_note.specs.Heading.{has}
use Rattle.cqlp_observer_facts.specs.declared.batch.BatchField.{BatchField}
use Rattle.cqlp_observer_facts.specs.declared.batch.BatchField.TheVariants as batch
use Rattle.cqlp_observer_facts.specs.declared.due.Due.{Due}
use Rattle.cqlp_observer_facts.specs.declared.due.Due.TheVariants as due
use Rattle.cqlp_observer_facts.specs.declared.due.Next.{Next}
use Rattle.cqlp_observer_facts.specs.declared.facts.Fact.TheVariants as fact
use Rattle.cqlp_observer_facts.specs.declared.query.QueryField.{QueryField}
use Rattle.cqlp_observer_facts.specs.declared.query.QueryField.TheVariants as query
use Rattle.cqlp_observer_facts.specs.declared.query.ValueForm.{ValueForm}
use Rattle.cqlp_observer_facts.specs.declared.rows.RowsField.{RowsField}
use Rattle.cqlp_observer_facts.specs.declared.rows.RowsField.TheVariants as rows
use Rattle.cqlp_observer_facts.specs.declared.reader.FactsReader.{FactsReader}
use Rattle.cqlp_observer_facts.specs.declared.types.Types.{Types}
use Rattle.cqlp_observer_facts.specs.declared.types.TypesNext.{TypesNext}
use Rattle.cqlp_observer_facts.specs.declared.types.TypesNext.TheVariants as next
use Rattle.cqlp_observer_facts.specs.Batches.{batch_following, entries_due, entry_values_due, kind_following}
use Rattle.cqlp_observer_facts.specs.Bodies.{following, width}
use Rattle.cqlp_observer_facts.specs.Contents.{past_bytes, past_text, past_value}
use Rattle.cqlp_observer_facts.specs.Due.{at, is_idle, is_opening, past, says}
use Rattle.cqlp_observer_facts.specs.Numbers.{byte, int, short, signed_int}
use Rattle.cqlp_observer_facts.specs.Queries.{flags_following, page_size_due, query_following, values_due}
use Rattle.cqlp_observer_facts.specs.Reading.{after_byte, before, filled, gone_on, is_announced, is_before, passed, taken, waiting}
use Rattle.cqlp_observer_facts.specs.Types.{columns_of, types_next, with_fields, with_types}
use Rattle.cqlp_observer_facts.specs.Rows.{after_option, columns_due, due_of, fields_within, has_more_pages, is_plain, names_due, paged_columns_due, rows_following, types_due, udt_due}
use Rattle.cqlp_observer_facts.proofs.Pieces.{lies}

-- ---- fields of the message proper behind its first

abbrev IsWithin : Due → Type 0
IsWithin d = lies d ≡ false

abbrev Within : Next → Type 0
Within n = IsWithin n.due

either : (c : Bool) (d e : Due) → IsWithin d → IsWithin e → IsWithin (cond c d e)
either true d e a b = a
either false d e a b = b

either_next : (c : Bool) (m n : Next) → Within m → Within n → Within (cond c m n)
either_next true m n a b = a
either_next false m n a b = b

text_within : (n : ℕ) (d : Due) → IsWithin d → Within (past_text n d)
text_within n d a = either_next (is_negative n) (at due.Over) (past n d) refl a

bytes_within : (n : ℕ) (d : Due) → IsWithin d → Within (past_bytes n d)
bytes_within n d a = either_next (is_negative n) (at d) (past n d) a a

value_within : (n : ℕ) (d : Due) → IsWithin d → Within (past_value n d)
value_within n d a =
    either_next ((n == (2 ^ 32 - 1)) || (n == (2 ^ 32 - 2))) (at d) (cond (is_negative n) (at due.Over) (past n d)) a (either_next (is_negative n) (at due.Over) (past n d) refl a)

page_size_within : (paged : Bool) → IsWithin (page_size_due paged)
page_size_within true = refl
page_size_within false = refl

values_within : (n : ℕ) (form : ValueForm) → IsWithin (values_due n form)
values_within n form =
    either (n == 0) (page_size_due form.paged) (cond form.named (due.Query (query.ValueName (n - 1) form)) (due.Query (query.Value (n - 1) form))) (page_size_within form.paged)
    (either form.named (due.Query (query.ValueName (n - 1) form)) (due.Query (query.Value (n - 1) form)) refl refl)

flags_within : (flags : ℕ) → IsWithin (flags_following flags)
flags_within flags =
    either (has flags 0x01) (due.Query (query.ValueCount (record { named = has flags 0x40; paged = has flags 0x04 }))) (page_size_due (has flags 0x04)) refl
    (page_size_within (has flags 0x04))

query_within : (f : QueryField) (b : List ℕ) → Within (query_following f b)
query_within query.Consistency b = refl
query_within query.Flags b = flags_within (byte b)
query_within (query.ValueCount form) b = values_within (short b) form
query_within (query.ValueName more form) b = refl
query_within (query.Value more form) b = value_within (int b) (values_due more form) (values_within more form)
query_within query.PageSize b = refl

entries_within : (n : ℕ) → IsWithin (entries_due n)
entries_within n = either (n == 0) (due.Batch batch.Consistency) (due.Batch (batch.Kind (n - 1))) refl refl

entry_values_within : (n more : ℕ) → IsWithin (entry_values_due n more)
entry_values_within n more = either (n == 0) (entries_due more) (due.Batch (batch.Value (n - 1) more)) (entries_within more) refl

kind_within : (kind more : ℕ) → IsWithin (kind_following kind more)
kind_within kind more =
    either (kind == 0) (due.Batch (batch.Text more)) (cond (kind == 1) (due.Batch (batch.Id more)) due.Over) refl
    (either (kind == 1) (due.Batch (batch.Id more)) due.Over refl refl)

batch_within : (f : BatchField) (b : List ℕ) → Within (batch_following f b)
batch_within batch.Type b = refl
batch_within batch.Count b = entries_within (short b)
batch_within (batch.Kind more) b = kind_within (byte b) more
batch_within (batch.Text more) b = text_within (int b) (due.Batch (batch.ValueCount more)) refl
batch_within (batch.Id more) b = refl
batch_within (batch.ValueCount more) b = entry_values_within (short b) more
batch_within (batch.Value values more) b = value_within (int b) (entry_values_due values more) (entry_values_within values more)
batch_within batch.Consistency b = refl

due_within : (n : TypesNext) → IsWithin (due_of n)
due_within (next.Type t) = refl
due_within (next.Names more t) = refl
due_within next.Over = refl

types_within : (t : Types) → IsWithin (types_due t)
types_within t = due_within (types_next t)

names_within : (n : ℕ) (t : Types) → IsWithin (names_due n t)
names_within n t = either (n == 0) (types_due t) (due.Rows (rows.Name (n - 1) t)) (types_within t) refl

columns_within : (flags n : ℕ) → IsWithin (columns_due flags n)
columns_within flags n =
    let named : Due = due.Rows (rows.Name 1 (columns_of n false)) in
    let own : Due = types_due (columns_of n true) in
    either (has flags 0x04) (due.Rows rows.RowCount) (cond (has flags 0x01) named own) refl
    (either (has flags 0x01) named own refl (types_within (columns_of n true)))

paged_within : (flags n : ℕ) → IsWithin (paged_columns_due flags n)
paged_within flags n =
    either (has_more_pages flags) (due.Rows (rows.PagingState flags n)) (columns_due flags n) refl (columns_within flags n)

option_within : (id : ℕ) (t : Types) → IsWithin (after_option id t)
option_within id t =
    let one : Due = types_due (with_types 1 t) in
    let two : Due = types_due (with_types 2 t) in
    let udt : Due = due.Rows (rows.UdtName false t) in
    let tuple : Due = due.Rows (rows.ItemCount t) in
    let plain : Due = cond (is_plain id) (types_due t) due.Over in
    let not_tuple : Due = cond (id == 0x31) tuple plain in
    let not_udt : Due = cond (id == 0x30) udt not_tuple in
    let not_set : Due = cond (id == 0x22) one not_udt in
    let not_map : Due = cond (id == 0x21) two not_set in
    let not_list : Due = cond (id == 0x20) one not_map in
    either (id == 0x00) (names_due 1 t) not_list (names_within 1 t) (
    either (id == 0x20) one not_map (types_within (with_types 1 t)) (
    either (id == 0x21) two not_set (types_within (with_types 2 t)) (
    either (id == 0x22) one not_udt (types_within (with_types 1 t)) (
    either (id == 0x30) udt not_tuple refl (
    either (id == 0x31) tuple plain refl (
    either (is_plain id) (types_due t) due.Over (types_within t) refl
    ))))))

udt_within : (is_own : Bool) (t : Types) → IsWithin (udt_due is_own t)
udt_within true t = refl
udt_within false t = refl

fields_are_within : (o : Option Types) → IsWithin (fields_within o)
fields_are_within (Some t) = types_within t
fields_are_within None = refl

rows_within : (f : RowsField) (b : List ℕ) → Within (rows_following f b)
rows_within rows.Flags b = refl
rows_within (rows.ColumnCount flags) b =
    either_next (is_negative (int b)) (at due.Over) (says (fact.Columns (signed_int b)) (paged_columns_due flags (int b))) refl (paged_within flags (int b))
rows_within (rows.PagingState flags columns) b = bytes_within (int b) (columns_due flags columns) (columns_within flags columns)
rows_within (rows.Name more t) b = names_within more t
rows_within (rows.Type t) b = option_within (short b) t
rows_within (rows.UdtName is_own t) b = udt_within is_own t
rows_within (rows.FieldCount t) b = fields_are_within (with_fields (short b) t)
rows_within (rows.ItemCount t) b = types_within (with_types (short b) t)
rows_within rows.RowCount b = either_next (is_negative (int b)) (at due.Over) (says (fact.Rows (signed_int b)) due.Over) refl refl

following_within : (flags : ℕ) (o : Opcode) (d : Due) (b : List ℕ) → is_announced d ≡ false → Within (following flags o d b)
following_within flags o (due.Announced f) b isnt = absurd (cc isnt)
following_within flags o due.QueryText b isnt = text_within (int b) (due.Query query.Consistency) refl
following_within flags o due.StatementId b isnt = refl
following_within flags o (due.Query f) b isnt = query_within f b
following_within flags o (due.Batch f) b isnt = batch_within f b
following_within flags o due.ErrorCode b isnt = refl
following_within flags o due.ResultKind b isnt = either (int b == 2) (due.Rows rows.Flags) due.Over refl refl
following_within flags o (due.Rows f) b isnt = rows_within f b
following_within flags o due.Unread b isnt = refl
following_within flags o due.Over b isnt = refl

-- ---- a byte

-- what is known where the next byte lies not before it
not_announced : (s : FactsReader) → is_before s ≡ false → is_announced s.due ≡ false
not_announced s isnt = of_both (is_announced s.due) (nat_lt 0 s.passing && is_opening s.due) isnt
  where
    of_both : (c d : Bool) → cond c true d ≡ false → c ≡ false
    of_both true d e = absurd (cc e)
    of_both false d e = refl

none_passing : (s : FactsReader) → IsWithin s.due → is_before s ≡ false
none_passing s isnt = of_lies (is_announced s.due) (nat_lt 0 s.passing) (is_opening s.due) isnt
  where
    of_lies : (c d e : Bool) → cond c true e ≡ false → cond c true (d && e) ≡ false
    of_lies true d e isnt = absurd (cc isnt)
    of_lies false true e isnt = isnt
    of_lies false false e isnt = refl

chosen : (c : Bool) (s t : FactsReader) → (c ≡ true → is_before s ≡ false) → (c ≡ false → is_before t ≡ false) → is_before (cond c s t) ≡ false
chosen true s t a b = a refl
chosen false s t a b = b refl

fills : (b : List ℕ) (s : FactsReader) → is_before s ≡ false → is_before (filled b s) ≡ false
fills b s isnt =
    chosen (nat_lt (length b) (width s.due)) (waiting b s) (gone_on b s) (λ e. isnt)
    (λ e. none_passing (gone_on b s) (following_within s.flags s.opcode s.due b (not_announced s isnt)))

passes : (s : FactsReader) → is_before s ≡ false → nat_lt 0 s.passing ≡ true → is_before (passed 1 s) ≡ false
passes s isnt some = none_passing (passed 1 s) (of_passing (is_announced s.due) (nat_lt 0 s.passing) (is_opening s.due) isnt some)
  where
    of_passing : (c d e : Bool) → cond c true (d && e) ≡ false → d ≡ true → cond c true e ≡ false
    of_passing true d e isnt some = absurd (cc isnt)
    of_passing false true e isnt some = isnt
    of_passing false false e isnt some = absurd (cc some)

byte_within : (x : ℕ) (s : FactsReader) → is_before s ≡ false → is_before (after_byte x s) ≡ false
unfolding after_byte
byte_within x s isnt =
    chosen (nat_lt 0 s.passing) (passed 1 s) (cond (is_idle s.due) s (taken x s)) (λ e. passes s isnt e)
    (λ e. chosen (is_idle s.due) s (taken x s) (λ i. isnt) (λ i. fills (s.front ++ x ∷ []) s isnt))

pub none_before : (xs : List ℕ) (s : FactsReader) → is_before s ≡ false → before xs s ≡ 0
none_before [] s isnt = refl
none_before (x ∷ xs) s isnt =
    ap (λ (c : Bool). cond c 1 0 + before xs (after_byte x s)) isnt
    ∙ ap (λ (n : ℕ). 0 + n) (none_before xs (after_byte x s) (byte_within x s isnt))
