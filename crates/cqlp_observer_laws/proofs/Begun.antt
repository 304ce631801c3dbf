-- The message proper begins once, and what is kept of it does not depend on pieces.
use Rattle.std.proofs.Common.{◌≡◌, ℕ, zero, suc, ◌+◌, ◌-◌, ◌<◌, ◌≤◌, ◌^◌, Bool, true, false, ◌&&◌, ◌||◌, eqb, ltb, cond, List, [], ◌∷◌, ◌++◌, length, take, drop, Option, Some, None, refl, sym, ap, ◌∙◌, inl, inr, arith}
use Rattle.std.proofs.lemmas.Bool.{cases_lt}
use Rattle.std.proofs.lemmas.List.{append-nil, drop-append-le, drop_all, take-append-le, take_all}
use Rattle.cqlp_note.specs.declared.header.Header.{Header}
use Rattle.cqlp_note.specs.declared.opcode.Opcode.{Opcode}
use Rattle.cqlp_note.specs.Field.{is_negative}
use Rattle.cqlp_note.specs.Heading.{has}
use Rattle.cqlp_observer_facts.specs.declared.batch.BatchField.{BatchField}
use Rattle.cqlp_observer_facts.specs.declared.batch.BatchField.TheVariants as batch
use Rattle.cqlp_observer_facts.specs.declared.due.Due.{Due}
use Rattle.cqlp_observer_facts.specs.declared.due.Due.TheVariants as due
use Rattle.cqlp_observer_facts.specs.declared.query.QueryField.{QueryField}
use Rattle.cqlp_observer_facts.specs.declared.query.QueryField.TheVariants as query
use Rattle.cqlp_observer_facts.specs.declared.query.ValueForm.{ValueForm}
use Rattle.cqlp_observer_facts.specs.declared.reader.FactsReader.{FactsReader}
use Rattle.cqlp_observer_facts.specs.declared.rows.RowsField.{RowsField}
use Rattle.cqlp_observer_facts.specs.declared.rows.RowsField.TheVariants as rows
use Rattle.cqlp_observer_facts.specs.declared.types.Types.{Types}
use Rattle.cqlp_observer_facts.specs.Batches.{batch_following, entries_due, entry_values_due}
use Rattle.cqlp_observer_facts.specs.Bodies.{following, width}
use Rattle.cqlp_observer_facts.specs.Contents.{past_bytes, past_text, past_value}
use Rattle.cqlp_observer_facts.specs.Due.{at, is_idle, is_opening, past}
use Rattle.cqlp_observer_facts.specs.Numbers.{byte, int, short}
use Rattle.cqlp_observer_facts.specs.Queries.{page_size_due, query_following, values_due}
use Rattle.cqlp_observer_facts.specs.Reading.{after_byte, before, begun, filled, gone_on, is_announced, is_before, passed, read, taken, waiting}
use Rattle.cqlp_observer_facts.specs.Rows.{after_option, columns_due, due_of, fields_within, is_plain, names_due, paged_columns_due, rows_following, types_due}
use Rattle.cqlp_observer_facts.specs.Types.{columns_of, innermost, with_fields, with_types}
use Rattle.cqlp_observer_facts.proofs.Pieces.{before_pieces, read_pieces}
use Rattle.cqlp_observer.specs.Announcements.{announced_on}
use Rattle.cqlp_observer.specs.Keeping.{announces_warnings}
use Rattle.cqlp_observer.specs.Passing.{passing, read_on}
use Rattle.cqlp_observer_laws.specs.Fronts.{FrontComesLast, FrontsAreKept, announced_of, front_of, kept_of}

-- ---- fields of the message proper, but its first one

abbrev IsPast : Due → Type 0
IsPast d = (is_announced d ≡ false) × (is_opening d ≡ false)

either : (t : Bool) (a b : Due) → IsPast a → IsPast b → IsPast (cond t a b)
either true a b p q = p
either false a b p q = q

either_of : {X : Type 0} (t : Bool) (a b : X) (P : X → Type 0) → P a → P b → P (cond t a b)
either_of true a b P p q = p
either_of false a b P p q = q

text_past : (n : ℕ) (d : Due) → IsPast d → IsPast (past_text n d).due
text_past n d p = either_of (is_negative n) (at due.Over) (past n d) (λ x. IsPast x.due) (refl, refl) p

bytes_past : (n : ℕ) (d : Due) → IsPast d → IsPast (past_bytes n d).due
bytes_past n d p = either_of (is_negative n) (at d) (past n d) (λ x. IsPast x.due) p p

value_past : (n : ℕ) (d : Due) → IsPast d → IsPast (past_value n d).due
value_past n d p =
    either_of ((eqb n (2 ^ 32 - 1)) || (eqb n (2 ^ 32 - 2))) (at d) (cond (is_negative n) (at due.Over) (past n d)) (λ x. IsPast x.due) p
    (either_of (is_negative n) (at due.Over) (past n d) (λ x. IsPast x.due) (refl, refl) p)

page_size_past : (t : Bool) → IsPast (page_size_due t)
page_size_past t = either t _ _ (refl, refl) (refl, refl)

values_past : (n : ℕ) (form : ValueForm) → IsPast (values_due n form)
values_past n form = either (eqb n 0) _ _ (page_size_past form.paged) (either form.named _ _ (refl, refl) (refl, refl))

query_past : (f : QueryField) (b : List ℕ) → IsPast (query_following f b).due
query_past query.Consistency b = (refl, refl)
query_past query.Flags b = either (has (byte b) 0x01) _ _ (refl, refl) (page_size_past (has (byte b) 0x04))
query_past (query.ValueCount form) b = values_past (short b) form
query_past (query.ValueName more form) b = (refl, refl)
query_past (query.Value more form) b = value_past (int b) (values_due more form) (values_past more form)
query_past query.PageSize b = (refl, refl)

entries_past : (n : ℕ) → IsPast (entries_due n)
entries_past n = either (eqb n 0) _ _ (refl, refl) (refl, refl)

entry_values_past : (n more : ℕ) → IsPast (entry_values_due n more)
entry_values_past n more = either (eqb n 0) _ _ (entries_past more) (refl, refl)

batch_past : (f : BatchField) (b : List ℕ) → IsPast (batch_following f b).due
batch_past batch.Type b = (refl, refl)
batch_past batch.Count b = entries_past (short b)
batch_past (batch.Kind more) b = either (eqb (byte b) 0) _ _ (refl, refl) (either (eqb (byte b) 1) _ _ (refl, refl) (refl, refl))
batch_past (batch.Text more) b = text_past (int b) _ (refl, refl)
batch_past (batch.Id more) b = (refl, refl)
batch_past (batch.ValueCount more) b = entry_values_past (short b) more
batch_past (batch.Value values more) b = value_past (int b) (entry_values_due values more) (entry_values_past values more)
batch_past batch.Consistency b = (refl, refl)

types_past : (t : Types) → IsPast (types_due t)
types_past t =
    let u = innermost t in
    either_of (ltb 0 u.first.types) _ _ (λ n. IsPast (due_of n)) (refl, refl)
    (either_of (ltb 0 u.first.fields) _ _ (λ n. IsPast (due_of n)) (refl, refl) (refl, refl))

names_past : (n : ℕ) (t : Types) → IsPast (names_due n t)
names_past n t = either (eqb n 0) _ _ (types_past t) (refl, refl)

columns_past : (flags n : ℕ) → IsPast (columns_due flags n)
columns_past flags n = either (has flags 0x04) _ _ (refl, refl) (either (has flags 0x01) _ _ (refl, refl) (types_past (columns_of n true)))

paged_past : (flags n : ℕ) → IsPast (paged_columns_due flags n)
paged_past flags n = either (has flags 0x02) _ _ (refl, refl) (columns_past flags n)

option_past : (id : ℕ) (t : Types) → IsPast (after_option id t)
option_past id t =
    either (eqb id 0x00) _ _ (names_past 1 t) (
    either (eqb id 0x20) _ _ (types_past (with_types 1 t)) (
    either (eqb id 0x21) _ _ (types_past (with_types 2 t)) (
    either (eqb id 0x22) _ _ (types_past (with_types 1 t)) (
    either (eqb id 0x30) _ _ (refl, refl) (
    either (eqb id 0x31) _ _ (refl, refl) (
    either (is_plain id) _ _ (types_past t) (refl, refl)))))))

fields_past : (t : Option Types) → IsPast (fields_within t)
fields_past (Some t) = types_past t
fields_past None = (refl, refl)

rows_past : (f : RowsField) (b : List ℕ) → IsPast (rows_following f b).due
rows_past rows.Flags b = (refl, refl)
rows_past (rows.ColumnCount flags) b = either_of (is_negative (int b)) (at due.Over) _ (λ x. IsPast x.due) (refl, refl) (paged_past flags (int b))
rows_past (rows.PagingState flags columns) b = bytes_past (int b) (columns_due flags columns) (columns_past flags columns)
rows_past (rows.Name more t) b = names_past more t
rows_past (rows.Type t) b = option_past (short b) t
rows_past (rows.UdtName is_own t) b = either is_own _ _ (refl, refl) (refl, refl)
rows_past (rows.FieldCount t) b = fields_past (with_fields (short b) t)
rows_past (rows.ItemCount t) b = types_past (with_types (short b) t)
rows_past rows.RowCount b = either_of (is_negative (int b)) (at due.Over) _ (λ x. IsPast x.due) (refl, refl) (refl, refl)

following_past : (flags : ℕ) (o : Opcode) (d : Due) (b : List ℕ) → is_announced d ≡ false → IsPast (following flags o d b).due
following_past flags o (due.Announced f) b is = absurd cc
following_past flags o due.QueryText b is = text_past (int b) _ (refl, refl)
following_past flags o due.StatementId b is = (refl, refl)
following_past flags o (due.Query f) b is = query_past f b
following_past flags o (due.Batch f) b is = batch_past f b
following_past flags o due.ErrorCode b is = (refl, refl)
following_past flags o due.ResultKind b is = either (eqb (int b) 2) _ _ (refl, refl) (refl, refl)
following_past flags o (due.Rows f) b is = rows_past f b
following_past flags o due.Unread b is = (refl, refl)
following_past flags o due.Over b is = (refl, refl)

-- ---- the next byte does not lie before the message proper

abbrev IsIn : FactsReader → Type 0
IsIn s = is_before s ≡ false

by_cond : (P : FactsReader → Type 0) (t : Bool) (a b : FactsReader) → (t ≡ true → P a) → (t ≡ false → P b) → P (cond t a b)
by_cond P true a b f g = f refl
by_cond P false a b f g = g refl

is_in : (a r : Bool) → a ≡ false → r ≡ false → cond a true r ≡ false
is_in true r x y = absurd cc
is_in false r x y = y

parts_of : (a r : Bool) → cond a true r ≡ false → (a ≡ false) × (r ≡ false)
parts_of true r x = absurd cc
parts_of false r x = (refl, x)

and_none : (t u : Bool) → u ≡ false → (t && u) ≡ false
and_none true u x = x
and_none false u x = refl

and_second : (t u : Bool) → (t && u) ≡ false → t ≡ true → u ≡ false
and_second true u x y = x
and_second false u x y = absurd cc

gone_in : (b : List ℕ) (s : FactsReader) → IsIn s → IsIn (gone_on b s)
gone_in b s h =
    let proper = (parts_of (is_announced s.due) (ltb 0 s.passing && is_opening s.due) h).0 in
    let n = following s.flags s.opcode s.due b in
    let p = following_past s.flags s.opcode s.due b proper in
    is_in (is_announced n.due) (ltb 0 n.passing && is_opening n.due) p.0 (and_none (ltb 0 n.passing) (is_opening n.due) p.1)

filled_in : (b : List ℕ) (s : FactsReader) → IsIn s → IsIn (filled b s)
filled_in b s h = by_cond IsIn (ltb (length b) (width s.due)) (waiting b s) (gone_on b s) (λ _. h) (λ _. gone_in b s h)

passed_in : (s : FactsReader) → IsIn s → ltb 0 s.passing ≡ true → IsIn (passed 1 s)
passed_in s h some =
    let parts = parts_of (is_announced s.due) (ltb 0 s.passing && is_opening s.due) h in
    is_in (is_announced s.due) (ltb 0 (s.passing - 1) && is_opening s.due) parts.0 (and_none (ltb 0 (s.passing - 1)) (is_opening s.due) (and_second (ltb 0 s.passing) (is_opening s.due) parts.1 some))

stays_in : (x : ℕ) (s : FactsReader) → IsIn s → IsIn (after_byte x s)
unfolding after_byte
stays_in x s h =
    by_cond IsIn (ltb 0 s.passing) (passed 1 s) (cond (is_idle s.due) s (taken x s)) (λ some. passed_in s h some)
    (λ _. by_cond IsIn (is_idle s.due) s (taken x s) (λ _. h) (λ _. filled_in (s.front ++ x ∷ []) s h))

none_before : (ys : List ℕ) (s : FactsReader) → IsIn s → before ys s ≡ 0
none_before [] s h = refl
none_before (y ∷ ys) s h =
    let e : ◌≡◌ {A = ℕ} (cond (is_before s) 1 0) 0 = ap (λ (t : Bool). cond {A = ℕ} t 1 0) h in
    omega (arith, e, none_before ys (after_byte y s) (stays_in y s h))

still_in : (xs : List ℕ) (s : FactsReader) → IsIn s → IsIn (read xs s)
still_in [] s h = h
still_in (x ∷ xs) s h = still_in xs (after_byte x s) (stays_in x s h)

few_before : (xs : List ℕ) (s : FactsReader) → before xs s ≤ length xs
few_before [] s = omega arith
few_before (x ∷ xs) s =
    let one : (t : Bool) → cond t 1 0 ≤ 1 = λ t. elim t as (λ u. cond u 1 0 ≤ 1) [ true ↦ omega arith | false ↦ omega arith ] in
    omega (arith, one (is_before s), few_before xs (after_byte x s))

by_first : (x : ℕ) (xs ys : List ℕ) (s : FactsReader) (t : Bool) → is_before s ≡ t → before (x ∷ xs) s < length (x ∷ xs)
    → (before xs (after_byte x s) < length xs → before ys (read xs (after_byte x s)) ≡ 0) → before ys (read (x ∷ xs) s) ≡ 0
by_first x xs ys s true is lt later =
    let e : ◌≡◌ {A = ℕ} (cond (is_before s) 1 0) 1 = ap (λ (t : Bool). cond {A = ℕ} t 1 0) is in
    later (omega (arith, lt, e))
by_first x xs ys s false is lt later = none_before ys (read (x ∷ xs) s) (still_in (x ∷ xs) s is)

pub comes_last : FrontComesLast
comes_last [] ys s lt = absurd (omega (arith, lt))
comes_last (x ∷ xs) ys s lt = by_first x xs ys s (is_before s) refl lt (λ less. comes_last xs ys (after_byte x s) less)

-- ---- what is kept

take_over : (k : ℕ) (xs c : List ℕ) → take k xs ++ take (k - length (take k xs)) c ≡ take k (xs ++ c)
take_over zero xs c = refl
take_over (suc k) [] c = let e : suc k - length {A = ℕ} [] ≡ suc k = omega arith in rw e refl
take_over (suc k) (x ∷ xs) c = let e : suc k - suc (length (take k xs)) ≡ k - length (take k xs) = omega arith in rw e (ap (λ (z : List ℕ). x ∷ z) (take_over k xs c))

drop_over : (xs c : List ℕ) (m : ℕ) → drop (length xs + m) (xs ++ c) ≡ drop m c
drop_over [] c m = let e : 0 + m ≡ m = omega arith in rw e refl
drop_over (x ∷ xs) c m = let e : suc (length xs) + m ≡ suc (length xs + m) = omega arith in rw e (drop_over xs c m)

joined : (n m : ℕ) (b c : List ℕ) → n ≤ length b → (n < length b → m ≡ 0) → take 256 (drop n b) ++ take (256 - length (take 256 (drop n b))) (drop m c) ≡ take 256 (drop (n + m) (b ++ c))
joined n m b c few none = elim (cases_lt n (length b)) [
  | inl lt ↦
      let zero_more : m ≡ 0 = none lt in
      let sum : n + m ≡ n = omega (arith, zero_more) in
      ap (λ (k : ℕ). take 256 (drop n b) ++ take (256 - length (take 256 (drop n b))) (drop k c)) zero_more
      ∙ take_over 256 (drop n b) c
      ∙ ap (λ (z : List ℕ). take 256 z) (sym (drop-append-le n b c few))
      ∙ ap (λ (k : ℕ). take 256 (drop k (b ++ c))) (sym sum)
  | inr le ↦
      let all : n ≡ length b = omega (arith, few, le) in
      ap (λ (z : List ℕ). take 256 z ++ take (256 - length (take 256 z)) (drop m c)) (drop_all n b le)
      ∙ ap (λ (z : List ℕ). take 256 z) (sym (drop_over b c m))
      ∙ ap (λ (k : ℕ). take 256 (drop (k + m) (b ++ c))) (sym all)
]

take_both : (b c : List ℕ) (m : ℕ) → take (length b + m) (b ++ c) ≡ b ++ take m c
take_both [] c m = let e : 0 + m ≡ m = omega arith in rw e refl
take_both (x ∷ b) c m = let e : suc (length b) + m ≡ suc (length b + m) = omega arith in rw e (ap (λ (z : List ℕ). x ∷ z) (take_both b c m))

-- The first bytes of one piece, and of the next only if they are all of it, are those of both.
fronts_joined : (n m : ℕ) (b c : List ℕ) → n ≤ length b → (n < length b → m ≡ 0) → take n b ++ take m c ≡ take (n + m) (b ++ c)
fronts_joined n m b c few none = elim (cases_lt n (length b)) [
  | inl lt ↦
      let zero_more : m ≡ 0 = none lt in
      let sum : n + m ≡ n = omega (arith, zero_more) in
      ap (λ (k : ℕ). take n b ++ take k c) zero_more ∙ append-nil (take n b) ∙ sym (take-append-le n b c few)
      ∙ ap (λ (k : ℕ). take k (b ++ c)) (sym sum)
  | inr le ↦
      let all : n ≡ length b = omega (arith, few, le) in
      ap (λ (z : List ℕ). z ++ take m c) (take_all n b le) ∙ sym (take_both b c m) ∙ ap (λ (k : ℕ). take (k + m) (b ++ c)) (sym all)
]

announced_more : (t : Bool) (n m : ℕ) (b c : List ℕ) → n ≤ length b → (n < length b → m ≡ 0) → announced_on (take m c) (cond t (Some (take 256 (take n b))) None) ≡ cond t (Some (take 256 (take (n + m) (b ++ c)))) None
announced_more true n m b c few none =
    ap Some (take_over 256 (take n b) (take m c) ∙ ap (λ (z : List ℕ). take 256 z) (fronts_joined n m b c few none))
announced_more false n m b c few none = refl

announced_next : (h : Header) (b c : List ℕ) → announced_on (take (before c (read b (begun h))) c) (announced_of h b) ≡ announced_of h (b ++ c)
announced_next h b c =
    announced_more (announces_warnings h) (before b (begun h)) (before c (read b (begun h))) b c (few_before b (begun h)) (comes_last b c (begun h))
    ∙ ap (λ (n : ℕ). cond (announces_warnings h) (Some (take 256 (take n (b ++ c)))) None) (sym (before_pieces b c (begun h)))

kept_on : (h : Header) (b c : List ℕ) → read_on c (kept_of h b) ≡ kept_of h (b ++ c)
kept_on h b c =
    let front : front_of h b ++ take (256 - length (front_of h b)) (drop (before c (read b (begun h))) c) ≡ front_of h (b ++ c) =
    joined (before b (begun h)) (before c (read b (begun h))) b c (few_before b (begun h)) (comes_last b c (begun h))
    ∙ ap (λ (n : ℕ). take 256 (drop n (b ++ c))) (sym (before_pieces b c (begun h))) in
    let says : read c (read b (begun h)) ≡ read (b ++ c) (begun h) = sym (read_pieces b c (begun h)) in
    let announced = announced_next h b c in
    λ i. passing (front i) (announced i) (says i) true

pub are_kept : FrontsAreKept
are_kept h = (refl, λ b. kept_on h [] b, λ b c. kept_on h b c)
