-- What is due in a frame between its parts: fields, type options and cells that are not begun, and the frame's end.
use Rattle.std.proofs.Common.{◌≡◌, ℕ, zero, suc, ◌+◌, Bool, true, false, cond, eqb, bytes_eq, List, [], ◌∷◌, ◌++◌, Some, refl}
use Rattle.cqlp_note.specs.declared.field.Field.TheVariants as field
use Rattle.cqlp_note.specs.declared.field.Notation.TheVariants as notation
use Rattle.cqlp_note.specs.declared.opcode.Opcode.{Opcode}
use Rattle.cqlp_note.specs.declared.opcode.Opcode.TheVariants as opcode
use Rattle.cqlp_note.specs.declared.header.Header.{Header}
use Rattle.cqlp_note.specs.Field.{FieldValue}
use Rattle.cqlp_note.specs.Heading.{has, beside_number}
use Rattle.cqlp_kind.specs.Types.{Types, NoMore, Type_and}
use Rattle.cqlp_kind.specs.TypeStep.{Option_at}
use Rattle.cqlp_grammar.specs.declared.grammar.Group.{Group}
use Rattle.cqlp_grammar.specs.declared.grammar.Group.TheVariants as group_of
use Rattle.cqlp_grammar.specs.declared.grammar.Role.{Role}
use Rattle.cqlp_grammar.specs.declared.grammar.Role.TheVariants as role
use Rattle.cqlp_grammar.specs.Productions.{Symbol, Stream, In, In_type, Cell_due, In_cell, Extra, plain, counted, copies, where_set, group, body, announced, message, query_parts, errors, results, by_text, targets, events, table_name, specs, row_from, rows_from, or_nothing, number_in, text_in, following}

-- no type option and no cell is begun, and the frame does not end
abbrev pub AreNew : List Symbol → Type 0
AreNew [] = Unit {0}
AreNew (Stream ∷ rest) = ⊥
AreNew (In f n r ∷ rest) = AreNew rest
AreNew (In_type ts ∷ rest) = (ts ≡ Option_at 1 ∷ []) × AreNew rest
AreNew (Cell_due row column k inner ∷ rest) = AreNew rest
AreNew (In_cell row column cs ∷ rest) = ⊥
AreNew (Extra ∷ rest) = ⊥

-- and after them the frame ends
abbrev pub AreDue : List Symbol → Type 0
AreDue [] = ⊥
AreDue (Stream ∷ rest) = ⊥
AreDue (In f n r ∷ rest) = AreDue rest
AreDue (In_type ts ∷ rest) = (ts ≡ Option_at 1 ∷ []) × AreDue rest
AreDue (Cell_due row column k inner ∷ rest) = AreDue rest
AreDue (In_cell row column cs ∷ rest) = ⊥
AreDue (Extra ∷ rest) = rest ≡ []

pub new_due : (xs ys : List Symbol) → AreNew xs → AreDue ys → AreDue (xs ++ ys)
new_due [] ys a b = b
new_due (Stream ∷ xs) ys a b = absurd a
new_due (In f n r ∷ xs) ys a b = new_due xs ys a b
new_due (In_type ts ∷ xs) ys a b = (a.0, new_due xs ys a.1 b)
new_due (Cell_due row column k inner ∷ xs) ys a b = new_due xs ys a b
new_due (In_cell row column cs ∷ xs) ys a b = absurd a
new_due (Extra ∷ xs) ys a b = absurd a

new_append : (xs ys : List Symbol) → AreNew xs → AreNew ys → AreNew (xs ++ ys)
new_append [] ys a b = b
new_append (Stream ∷ xs) ys a b = absurd a
new_append (In f n r ∷ xs) ys a b = new_append xs ys a b
new_append (In_type ts ∷ xs) ys a b = (a.0, new_append xs ys a.1 b)
new_append (Cell_due row column k inner ∷ xs) ys a b = new_append xs ys a b
new_append (In_cell row column cs ∷ xs) ys a b = absurd a
new_append (Extra ∷ xs) ys a b = absurd a

-- ---- productions

record New (ss : List Symbol) : Type 0 where
  are : AreNew ss

known : {ss : List Symbol} → AreNew ss → New ss
known h = record { are = h }

both_new : (xs ys : List Symbol) → New xs → New ys → New (xs ++ ys)
both_new xs ys a b = record { are = new_append xs ys a.are b.are }

either_new : (t : Bool) (xs ys : List Symbol) → New xs → New ys → New (cond t xs ys)
either_new true xs ys a b = a
either_new false xs ys a b = b

where_new : (flags bit : ℕ) (ss : List Symbol) → New ss → New (where_set flags bit ss)
where_new flags bit ss a = either_new (has flags bit) ss [] a (known tt)

copies_new : (n : ℕ) (ss : List Symbol) → New ss → New (copies n ss)
copies_new zero ss a = known tt
copies_new (suc n) ss a = both_new ss (copies n ss) a (copies_new n ss a)

abbrev AllNew : {A : Type 0} → List (A × List Symbol) → Type 0
AllNew [] = Unit {0}
AllNew (entry ∷ table) = New entry.1 × AllNew table

entry_new : (n : ℕ) (entry : ℕ × List Symbol) (table : List (ℕ × List Symbol)) (t : Bool) → AllNew (entry ∷ table) → New (or_nothing (beside_number n table)) → New (or_nothing (cond t (Some entry.1) (beside_number n table)))
entry_new n entry table true all later = all.0
entry_new n entry table false all later = later

table_new : (n : ℕ) (table : List (ℕ × List Symbol)) → AllNew table → New (or_nothing (beside_number n table))
table_new n [] all = known tt
table_new n (entry ∷ table) all = entry_new n entry table (eqb n entry.0) all (table_new n table all.1)

texts_new : (text : List ℕ) (table : List (List ℕ × List Symbol)) → AllNew table → New (by_text text table)
texts_new text [] all = known tt
texts_new text (entry ∷ table) all = either_new (bytes_eq text entry.0) entry.1 (by_text text table) all.0 (texts_new text table all.1)

group_new : (g : Group) → New (group g)
group_new group_of.Warnings = known tt
group_new group_of.PayloadItems = known tt
group_new group_of.StringPairs = known tt
group_new group_of.OptionLists = known tt
group_new group_of.OptionValues = known tt
group_new group_of.EventTypes = known tt
group_new (group_of.QueryValues true) = known tt
group_new (group_of.QueryValues false) = known tt
group_new group_of.BatchValues = known tt
group_new group_of.BatchEntries = known tt
group_new group_of.Arguments = known tt
group_new group_of.KeyIndexes = known tt
group_new (group_of.Columns true) = known (refl, tt)
group_new (group_of.Columns false) = known (refl, tt)

body_new : (o : Opcode) → New (body o)
body_new opcode.Error = known tt
body_new opcode.Startup = known tt
body_new opcode.Ready = known tt
body_new opcode.Authenticate = known tt
body_new opcode.Options = known tt
body_new opcode.Supported = known tt
body_new opcode.Query = known tt
body_new opcode.Result = known tt
body_new opcode.Prepare = known tt
body_new opcode.Execute = known tt
body_new opcode.Register = known tt
body_new opcode.Event = known tt
body_new opcode.Batch = known tt
body_new opcode.AuthChallenge = known tt
body_new opcode.AuthResponse = known tt
body_new opcode.AuthSuccess = known tt

announced_new : (h : Header) → New (announced h)
announced_new h =
    both_new _ _
    (either_new h.response _ [] (both_new _ _ (where_new h.flags 0x02 (plain field.TraceId notation.Uuid ∷ []) (known tt)) (where_new h.flags 0x08 (counted field.Warnings group_of.Warnings ∷ []) (known tt))) (known tt))
    (where_new h.flags 0x04 (counted field.PayloadItems group_of.PayloadItems ∷ []) (known tt))

-- what a header announces, before the frame ends
pub message_due : (h : Header) → AreDue (message h)
message_due h = new_due (announced h ++ body h.opcode) (Extra ∷ []) (both_new (announced h) (body h.opcode) (announced_new h) (body_new h.opcode)).are refl

specs_new : (flags columns : ℕ) → New (specs flags columns)
specs_new flags columns = both_new _ _ (where_new flags 0x01 table_name (known tt)) (copies_new columns _ (group_new (group_of.Columns (has flags 0x01))))

row_new : (row column : ℕ) (ts : Types) → New (row_from row column ts)
row_new row column NoMore = known tt
row_new row column (Type_and k inner others) = known (row_new row (column + 1) others).are

rows_new : (row : ℕ) (ts : Types) (n : ℕ) → New (rows_from row ts n)
rows_new row ts zero = known tt
rows_new row ts (suc n) = both_new _ _ (row_new row 0 ts) (rows_new (row + 1) ts n)

query_new : (flags : ℕ) → New (query_parts flags)
query_new flags =
    both_new _ _ (both_new _ _ (both_new _ _ (both_new _ _
    (where_new flags 0x01 (counted field.Values (group_of.QueryValues (has flags 0x40)) ∷ []) (known tt))
    (where_new flags 0x04 (plain field.PageSize notation.Int ∷ []) (known tt)))
    (where_new flags 0x08 (plain field.PagingState notation.Bytes32 ∷ []) (known tt)))
    (where_new flags 0x10 (plain field.SerialConsistency notation.Short ∷ []) (known tt)))
    (where_new flags 0x20 (plain field.Timestamp notation.Long ∷ []) (known tt))

follow_new : (ts : Types) (r : Role) (v : FieldValue) → New (following ts r v)
follow_new ts role.Alone v = known tt
follow_new ts (role.Counts g) v = copies_new (number_in v) (group g) (group_new g)
follow_new ts role.QueryFlags v = query_new (number_in v)
follow_new ts role.EntryKind v = both_new _ _ (either_new (eqb (number_in v) 0) (plain field.Query notation.Text32 ∷ []) (plain field.StatementId notation.Bytes16 ∷ []) (known tt) (known tt)) (known tt)
follow_new ts role.BatchFlags v = both_new _ _ (where_new (number_in v) 0x10 (plain field.SerialConsistency notation.Short ∷ []) (known tt)) (where_new (number_in v) 0x20 (plain field.Timestamp notation.Long ∷ []) (known tt))
follow_new ts role.ErrorCode v = known (table_new (number_in v) errors (known tt, (known tt, (known tt, (known tt, (known tt, (known tt, (known tt, (known tt, tt))))))))).are
follow_new ts role.ResultKind v = table_new (number_in v) results (known tt, (known tt, (known tt, (known tt, tt))))
follow_new ts role.ChangeTarget v = texts_new (text_in v) targets (known tt, (known tt, (known tt, (known tt, (known tt, tt)))))
follow_new ts role.EventType v = texts_new (text_in v) events (known tt, (known tt, (known tt, tt)))
follow_new ts (role.MetaFlags rows) v = known tt
follow_new ts (role.MetaColumns rows flags) v =
    both_new _ _ (both_new _ _ (where_new flags 0x02 (plain field.PagingState notation.Bytes32 ∷ []) (known tt)) (either_new (has flags 0x04) [] (specs flags (number_in v)) (known tt) (specs_new flags (number_in v))))
    (either_new rows (In field.Rows notation.Count32 (role.PageRows flags (number_in v)) ∷ []) [] (known tt) (known tt))
follow_new ts role.PreparedFlags v = known tt
follow_new ts (role.PreparedColumns flags) v = known tt
follow_new ts (role.PreparedKeys flags columns) v =
    both_new _ _ (both_new _ _ (copies_new (number_in v) (group group_of.KeyIndexes) (known tt)) (specs_new flags columns)) (known tt)
follow_new ts (role.PageRows flags columns) v = rows_new 0 ts (number_in v)

-- what follows a field is not begun
pub following_new : (ts : Types) (r : Role) (v : FieldValue) → AreNew (following ts r v)
following_new ts r v = (follow_new ts r v).are
