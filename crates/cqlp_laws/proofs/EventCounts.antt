-- There are no more events than bytes. An event that takes no byte is the end of a frame or of a value, and is paid by
-- the header or the length where that begins.
use Rattle.std.proofs.Common.{◌≡◌, ℕ, zero, suc, ◌+◌, ◌-◌, ◌<◌, ◌≤◌, ◌^◌, Bool, true, false, ◌&&◌, eqb, ltb, leb, cond, min, bytes_eq, List, [], ◌∷◌, ◌++◌, length, take, drop, Option, Some, None, Ok, Err, refl, ap, ◌∙◌, subst, arith}
use Rattle.std.specs.Int.{Width, w8, w16, w32, w64, from_be_bytes}
use Rattle.std.proofs.lemmas.Bool.{leb-false, lt-leb}
use Rattle.std.proofs.lemmas.List.{length-append, length-drop, take_at}
use Rattle.cqlp_note.specs.declared.field.Field.TheVariants as field
use Rattle.cqlp_note.specs.declared.field.Notation.{Notation}
use Rattle.cqlp_note.specs.declared.field.Notation.TheVariants as notation
use Rattle.cqlp_note.specs.declared.opcode.Opcode.{Opcode}
use Rattle.cqlp_note.specs.declared.opcode.Opcode.TheVariants as opcode
use Rattle.cqlp_note.specs.declared.header.Header.{Header}
use Rattle.cqlp_note.specs.declared.refusal.Reason.{Reason}
use Rattle.cqlp_note.specs.declared.refusal.Refusal.{Refusal}
use Rattle.cqlp_note.specs.declared.refusal.Reason.TheVariants.{Overrun}
use Rattle.cqlp_note.specs.Reader.{Said, More, Bad, Reader, Gives, Refuses, Takes, Idles, Got, says, number_of}
use Rattle.cqlp_note.specs.Field.{FieldValue, FieldReader, field_of, is_negative}
use Rattle.cqlp_note.specs.Step.{Emitted, map_step}
use Rattle.cqlp_note.specs.Limits.{Rules, limit_of}
use Rattle.cqlp_note.specs.Heading.{Heading, heading, has, beside_number}
use Rattle.cqlp_note.proofs.Readers.{Always, says_always}
use Rattle.cqlp_note.proofs.Fields.{either_always}
use Rattle.cqlp_note.proofs.Yields.{says_yields}
use Rattle.cqlp_kind.specs.declared.kind.Kind.{Kind}
use Rattle.cqlp_kind.specs.declared.kind.Kind.TheVariants as kind
use Rattle.cqlp_kind.specs.Types.{Types, NoMore, Type_and, kinds}
use Rattle.cqlp_kind.specs.TypeStep.{TypeSymbol, TypePlace, Option_at, Text_of, Fields_of, Whole, kind_or_lenient, option_step, type_step_at, type_step}
use Rattle.cqlp_kind.specs.Scalars.{ScalarValue, size_or_lenient, scalar_or_lenient}
use Rattle.cqlp_cell.proofs.Further.{reads_when}
use Rattle.cqlp_kind.specs.CellStep.{CellSymbol, Value_of, Items_of, Close_of, Content_from, CellEvent, CellPlace, cell_copies, values_of, is_opaque, leaf_step, fielded_step, close_step, counted_step, part_step, scalar_step, content_step, sized_step, value_step, items_step, cell_step_at, cell_step, lenient_excess}
use Rattle.cqlp_grammar.specs.declared.grammar.Group.{Group}
use Rattle.cqlp_grammar.specs.declared.grammar.Group.TheVariants as group_of
use Rattle.cqlp_grammar.specs.declared.grammar.Role.{Role}
use Rattle.cqlp_grammar.specs.declared.grammar.Role.TheVariants as role
use Rattle.cqlp_grammar.specs.Productions.{Symbol, Stream, In, In_type, Cell_due, In_cell, Extra, plain, counted, copies, where_set, group, body, announced, message, query_parts, errors, results, by_text, targets, events, specs, table_name, row_from, rows_from, or_nothing, number_in, text_in, following, fault_in}
use Rattle.cqlp_decode.specs.Reading.{Event, Place, Gifts, settled, start_with, Reads, Says, Verdict, Waits, Refused, type_event, cell_event, types_for, nodes_after, types_left, cells_left, place_of_types, place_of_cells, header_step, step_at, step}
use Rattle.cqlp_decode.specs.Reading as reading
use Rattle.cqlp_decode.specs.Progress.{StreamState}
use Rattle.cqlp_decode.specs.Streams.{AfterGifts, AfterBy}
use Rattle.cqlp_decode.proofs.Always.{after_always, map_always}

-- ---- readers

pub always_then : {A F : Type 0} (P Q : A → List ℕ → Type 0) (r : Reader A F) (before : List ℕ) → ((v : A) (b : List ℕ) → P v b → Q v b) → Always P r before → Always Q r before
always_then P Q (Gives v) before f h = f v before h
always_then P Q (Refuses why) before f h = tt
always_then P Q Idles before f h = tt
always_then P Q (Takes n next) before f h = λ c long. always_then P Q (next c) (before ++ c) f (h c long)

-- this many, and the bytes taken, are at least one
abbrev Some_taken : {A : Type 0} → (k : ℕ) → A → List ℕ → Type 0
Some_taken k v b = 1 ≤ k + length b

some_always : {A F : Type 0} (k : ℕ) (r : Reader A F) (before : List ℕ) → 1 ≤ k + length before → Always (Some_taken k) r before
some_always k (Gives v) before some = some
some_always k (Refuses why) before some = tt
some_always k Idles before some = tt
some_always k (Takes n next) before some = λ c long. some_always k (next c) (before ++ c) (omega (arith, some, length-append before c))

takes_some : {A F : Type 0} (fault : F) (n room : ℕ) (next : List ℕ → Reader A F) → 1 ≤ n → Always (Some_taken 0) (cond (ltb room n) (Refuses fault) (Takes n next)) []
takes_some fault n room next some = either_always (Some_taken 0) [] (ltb room n) _ _ (λ _. tt) (λ _ c long. some_always 0 (next c) c (omega (arith, some, long)))

number_some : {A F : Type 0} (fault : F) (n : ℕ) (w : Width) (room : ℕ) (f : ℕ → Reader A F) → 1 ≤ n → Always (Some_taken 0) (number_of fault n w room f) []
unfolding number_of
number_some fault n w room f some = takes_some fault n room (λ b. f (from_be_bytes w b)) some

-- ---- events that take no byte

-- how many events of what is still to be read take no byte
abbrev cell_dues : List CellSymbol → ℕ
cell_dues [] = 0
cell_dues (Value_of k inner level stop ∷ rest) = cell_dues rest
cell_dues (Items_of ts level stop taken ∷ rest) = suc (cell_dues rest)
cell_dues (Close_of level stop taken ∷ rest) = suc (cell_dues rest)
cell_dues (Content_from level offset total ∷ rest) = cond (leb total offset) 1 0 + cell_dues rest

-- a content has a length that no field of a stream is without
abbrev content_due : Notation → ℕ
content_due (notation.Content n) = 1
content_due n = 0

abbrev symbol_due : Symbol → ℕ
symbol_due Stream = 0
symbol_due (In f n r) = content_due n
symbol_due (In_type ts) = 0
symbol_due (Cell_due row column k inner) = 0
symbol_due (In_cell row column cs) = cell_dues cs
symbol_due Extra = 1

abbrev dues : List Symbol → ℕ
dues [] = 0
dues (s ∷ rest) = symbol_due s + dues rest

dues-append : (xs ys : List Symbol) → dues (xs ++ ys) ≡ dues xs + dues ys
dues-append [] ys = omega arith
dues-append (x ∷ xs) ys = omega (arith, dues-append xs ys)

cell_dues-append : (xs ys : List CellSymbol) → cell_dues (xs ++ ys) ≡ cell_dues xs + cell_dues ys
cell_dues-append [] ys = omega arith
cell_dues-append (Value_of k inner level stop ∷ xs) ys = cell_dues-append xs ys
cell_dues-append (Items_of ts level stop taken ∷ xs) ys = omega (arith, cell_dues-append xs ys)
cell_dues-append (Close_of level stop taken ∷ xs) ys = omega (arith, cell_dues-append xs ys)
cell_dues-append (Content_from level offset total ∷ xs) ys = omega (arith, cell_dues-append xs ys)

-- ---- productions

abbrev IsFree : List Symbol → Type 0
IsFree ss = dues ss ≡ 0

both_free : (xs ys : List Symbol) → IsFree xs → IsFree ys → IsFree (xs ++ ys)
both_free xs ys a b = omega (arith, dues-append xs ys, a, b)

either_free : (t : Bool) (xs ys : List Symbol) → IsFree xs → IsFree ys → IsFree (cond t xs ys)
either_free true xs ys a b = a
either_free false xs ys a b = b

where_free : (flags bit : ℕ) (ss : List Symbol) → IsFree ss → IsFree (where_set flags bit ss)
where_free flags bit ss free = either_free (has flags bit) ss [] free refl

copies_free : (n : ℕ) (ss : List Symbol) → IsFree ss → IsFree (copies n ss)
copies_free zero ss free = refl
copies_free (suc n) ss free = both_free ss (copies n ss) free (copies_free n ss free)

abbrev AllFree : List (ℕ × List Symbol) → Type 0
AllFree [] = Unit {0}
AllFree (entry ∷ table) = IsFree entry.1 × AllFree table

entry_free : (n : ℕ) (entry : ℕ × List Symbol) (table : List (ℕ × List Symbol)) (t : Bool) → AllFree (entry ∷ table) → IsFree (or_nothing (beside_number n table)) → IsFree (or_nothing (cond t (Some entry.1) (beside_number n table)))
entry_free n entry table true free later = free.0
entry_free n entry table false free later = later

table_free : (n : ℕ) (table : List (ℕ × List Symbol)) → AllFree table → IsFree (or_nothing (beside_number n table))
table_free n [] free = refl
table_free n (entry ∷ table) free = entry_free n entry table (eqb n entry.0) free (table_free n table free.1)

abbrev AllTextsFree : List (List ℕ × List Symbol) → Type 0
AllTextsFree [] = Unit {0}
AllTextsFree (entry ∷ table) = IsFree entry.1 × AllTextsFree table

texts_free : (text : List ℕ) (table : List (List ℕ × List Symbol)) → AllTextsFree table → IsFree (by_text text table)
texts_free text [] free = refl
texts_free text (entry ∷ table) free = either_free (bytes_eq text entry.0) entry.1 (by_text text table) free.0 (texts_free text table free.1)

group_free : (g : Group) → IsFree (group g)
group_free group_of.Warnings = refl
group_free group_of.PayloadItems = refl
group_free group_of.StringPairs = refl
group_free group_of.OptionLists = refl
group_free group_of.OptionValues = refl
group_free group_of.EventTypes = refl
group_free (group_of.QueryValues true) = refl
group_free (group_of.QueryValues false) = refl
group_free group_of.BatchValues = refl
group_free group_of.BatchEntries = refl
group_free group_of.Arguments = refl
group_free group_of.KeyIndexes = refl
group_free (group_of.Columns true) = refl
group_free (group_of.Columns false) = refl

body_free : (o : Opcode) → IsFree (body o)
body_free opcode.Error = refl
body_free opcode.Startup = refl
body_free opcode.Ready = refl
body_free opcode.Authenticate = refl
body_free opcode.Options = refl
body_free opcode.Supported = refl
body_free opcode.Query = refl
body_free opcode.Result = refl
body_free opcode.Prepare = refl
body_free opcode.Execute = refl
body_free opcode.Register = refl
body_free opcode.Event = refl
body_free opcode.Batch = refl
body_free opcode.AuthChallenge = refl
body_free opcode.AuthResponse = refl
body_free opcode.AuthSuccess = refl

announced_free : (h : Header) → IsFree (announced h)
announced_free h =
    both_free _ _
    (either_free h.response _ [] (both_free _ _ (where_free h.flags 0x02 _ refl) (where_free h.flags 0x08 _ refl)) refl)
    (where_free h.flags 0x04 _ refl)

-- of what a frame holds, its end alone takes no byte
pub message_due : (h : Header) → dues (message h) ≡ 1
message_due h =
    let all : dues ((announced h ++ body h.opcode) ++ Extra ∷ []) ≡ 1 = omega (arith, dues-append (announced h ++ body h.opcode) (Extra ∷ []), both_free (announced h) (body h.opcode) (announced_free h) (body_free h.opcode)) in
    all

specs_free : (flags columns : ℕ) → IsFree (specs flags columns)
specs_free flags columns = both_free _ _ (where_free flags 0x01 table_name refl) (copies_free columns _ (group_free (group_of.Columns (has flags 0x01))))

row_free : (row column : ℕ) (ts : Types) → IsFree (row_from row column ts)
row_free row column NoMore = refl
row_free row column (Type_and k inner others) = omega (arith, row_free row (column + 1) others)

rows_free : (row : ℕ) (ts : Types) (n : ℕ) → IsFree (rows_from row ts n)
rows_free row ts zero = refl
rows_free row ts (suc n) = both_free _ _ (row_free row 0 ts) (rows_free (row + 1) ts n)

query_free : (flags : ℕ) → IsFree (query_parts flags)
query_free flags =
    both_free _ _ (both_free _ _ (both_free _ _ (both_free _ _
    (where_free flags 0x01 (counted field.Values (group_of.QueryValues (has flags 0x40)) ∷ []) refl)
    (where_free flags 0x04 (plain field.PageSize notation.Int ∷ []) refl))
    (where_free flags 0x08 (plain field.PagingState notation.Bytes32 ∷ []) refl))
    (where_free flags 0x10 (plain field.SerialConsistency notation.Short ∷ []) refl))
    (where_free flags 0x20 (plain field.Timestamp notation.Long ∷ []) refl)

-- what follows a field takes bytes
pub following_free : (ts : Types) (r : Role) (v : FieldValue) → IsFree (following ts r v)
following_free ts role.Alone v = refl
following_free ts (role.Counts g) v = copies_free (number_in v) (group g) (group_free g)
following_free ts role.QueryFlags v = query_free (number_in v)
following_free ts role.EntryKind v = both_free _ _ (either_free (eqb (number_in v) 0) _ _ refl refl) refl
following_free ts role.BatchFlags v = both_free _ _ (where_free (number_in v) 0x10 _ refl) (where_free (number_in v) 0x20 _ refl)
following_free ts role.ErrorCode v = omega (arith, table_free (number_in v) errors (refl, (refl, (refl, (refl, (refl, (refl, (refl, (refl, tt)))))))))
following_free ts role.ResultKind v = table_free (number_in v) results (refl, (refl, (refl, (refl, tt))))
following_free ts role.ChangeTarget v = texts_free (text_in v) targets (refl, (refl, (refl, (refl, (refl, tt)))))
following_free ts role.EventType v = texts_free (text_in v) events (refl, (refl, (refl, tt)))
following_free ts (role.MetaFlags rows) v = refl
following_free ts (role.MetaColumns rows flags) v =
    both_free _ _ (both_free _ _ (where_free flags 0x02 _ refl) (either_free (has flags 0x04) [] _ refl (specs_free flags (number_in v))))
    (either_free rows _ [] refl refl)
following_free ts role.PreparedFlags v = refl
following_free ts (role.PreparedColumns flags) v = refl
following_free ts (role.PreparedKeys flags columns) v =
    both_free _ _ (both_free _ _ (copies_free (number_in v) _ refl) (specs_free flags columns)) refl
following_free ts (role.PageRows flags columns) v = rows_free 0 ts (number_in v)

-- ---- fields

fixed_some : (n : ℕ) (w : Width) (room : ℕ) (f : ℕ → FieldReader) → 1 ≤ n → Always (Some_taken 0) (number_of Overrun n w room f) []
fixed_some n w room f some = number_some Overrun n w room f some

-- a field takes a byte, or is due
field_some : (n : Notation) (limit room : ℕ) → Always (Some_taken (content_due n)) (field_of n limit room) []
unfolding field_of
field_some notation.Byte limit room = fixed_some 1 w8 room _ (omega arith)
field_some notation.Short limit room = fixed_some 2 w16 room _ (omega arith)
field_some notation.Int limit room = fixed_some 4 w32 room _ (omega arith)
field_some notation.Long limit room = fixed_some 8 w64 room _ (omega arith)
field_some notation.Uuid limit room = takes_some Overrun 16 room _ (omega arith)
field_some notation.Count16 limit room = fixed_some 2 w16 room _ (omega arith)
field_some notation.Count32 limit room = fixed_some 4 w32 room _ (omega arith)
field_some notation.Text16 limit room = fixed_some 2 w16 room _ (omega arith)
field_some notation.Text32 limit room = fixed_some 4 w32 room _ (omega arith)
field_some notation.Bytes16 limit room = fixed_some 2 w16 room _ (omega arith)
field_some notation.Bytes32 limit room = fixed_some 4 w32 room _ (omega arith)
field_some notation.Bound limit room = fixed_some 4 w32 room _ (omega arith)
field_some notation.Inet limit room = fixed_some 1 w8 room _ (omega arith)
field_some (notation.Content n) limit room = some_always 1 (field_of (notation.Content n) limit room) [] (omega arith)

-- ---- type options

type_some : (l : Rules) (p : TypePlace) (ss : List TypeSymbol) → Always (Some_taken 0) (type_step_at l p ss) []
type_some l p [] = tt
type_some l p (Option_at depth ∷ rest) = number_some (p.offset, Overrun) 2 w16 (p.stop - p.offset) (λ n. option_step l depth rest p (kind_or_lenient (beside_number n kinds) l.lenient)) (omega arith)
type_some l p (Text_of f ∷ rest) = after_always (Some_taken 0) (Some_taken 0) p.offset (field_of notation.Text16 l.text (p.stop - p.offset)) _ [] (field_some notation.Text16 l.text (p.stop - p.offset)) (λ v b some. some)
type_some l p (Fields_of named depth ∷ rest) = after_always (Some_taken 0) (Some_taken 0) p.offset (field_of notation.Count16 0 (p.stop - p.offset)) _ [] (field_some notation.Count16 0 (p.stop - p.offset)) (λ v b some. some)
type_some l p (Whole i ∷ rest) = tt

-- ---- cells

-- a step and what is then due are paid by what was due and by the bytes taken
abbrev CellPays : (due : ℕ) → Emitted CellEvent CellPlace → List ℕ → Type 0
CellPays due x b = suc (cell_dues (x.after (length b)).symbols) ≤ due + length b

values_free : (ts : Types) (level stop : ℕ) → cell_dues (values_of ts level stop) ≡ 0
values_free NoMore level stop = refl
values_free (Type_and k inner others) level stop = values_free others level stop

cells_copied : (n : ℕ) (ss : List CellSymbol) → cell_dues ss ≡ 0 → cell_dues (cell_copies n ss) ≡ 0
cells_copied zero ss free = refl
cells_copied (suc n) ss free = omega (arith, cell_dues-append ss (cell_copies n ss), free, cells_copied n ss free)

module _ (l : Rules) (some : 1 ≤ l.part) (p : CellPlace) where
  module _ (rest : List CellSymbol) where
    part_after : (last : Bool) (level offset total : ℕ) → leb (total - offset) l.part ≡ last → cell_dues (cond last [] (Content_from level (offset + min l.part (total - offset)) total ∷ []) ++ rest) ≡ cell_dues rest
    part_after true level offset total is = refl
    part_after false level offset total is =
        let more : leb total (offset + min l.part (total - offset)) ≡ false = lt-leb _ _ (omega (arith, leb-false _ _ is)) in
        rw more (omega arith)

    part_pays : (level k offset total due : ℕ) (b : List ℕ) → suc (cell_dues rest) ≤ due + length b + min l.part (total - offset) → Always (CellPays due) (part_step l p rest level k offset total) b
    part_pays level k offset total due b paid = λ c size. omega (arith, part_after (leb (total - offset) l.part) level offset total refl, paid, size, length-append b c)

    close_pays : (level stop taken due : ℕ) → suc (cell_dues rest) ≤ due → Always (CellPays due) (close_step p rest level stop taken) []
    close_pays level stop taken due paid = either_always (CellPays due) [] (ltb p.offset stop) _ _ (λ _. tt) (λ _. omega (arith, paid))

    -- after the length of a value
    module _ (b : List ℕ) (long : 4 ≤ length b) where
      abbrev Pays : Emitted CellEvent CellPlace → List ℕ → Type 0
      Pays = CellPays (cell_dues rest)

      leaf_pays : (level : ℕ) (k : Kind) (o : Option ScalarValue) (c : List ℕ) → 4 ≤ length c → Always Pays (leaf_step p rest level k o) c
      leaf_pays level k None c size = tt
      leaf_pays level k (Some v) c size = omega (arith, size)

      scalar_pays : (level : ℕ) (k : Kind) (n : ℕ) → Always Pays (scalar_step l p rest level k n) b
      scalar_pays level k n = either_always Pays b (size_or_lenient l.lenient k n) _ _ (λ _.
          either_always Pays b (l.parts && is_opaque k && ltb l.part n) _ _ (λ _. part_pays level 4 0 n (cell_dues rest) b (omega (arith, long))) (λ _.
          either_always Pays b (ltb l.cell n) _ _ (λ _. tt) (λ _ c size. leaf_pays level k (scalar_or_lenient l.lenient k c) (b ++ c) (omega (arith, long, length-append b c))))) (λ _. tt)

      fielded_pays : (level : ℕ) (k : Kind) (inner : Types) (n : ℕ) → Always Pays (fielded_step p rest level k inner n) b
      fielded_pays level k inner n = omega (arith, long)

      counted_pays : (level : ℕ) (k : Kind) (inner : Types) (n : ℕ) → Always Pays (counted_step p rest level k inner n) b
      unfolding number_of
      counted_pays level k inner n = either_always Pays b (ltb n 4) _ _ (λ _. tt) (λ _ d size.
          either_always Pays (b ++ d) (is_negative (from_be_bytes w32 d)) _ _ (λ _. tt) (λ _.
          let copied = cell_copies (from_be_bytes w32 d) (values_of inner (level + 1) (p.offset + 4 + n)) in
          let free = cells_copied (from_be_bytes w32 d) (values_of inner (level + 1) (p.offset + 4 + n)) (values_free inner (level + 1) (p.offset + 4 + n)) in
          let end = Close_of level (p.offset + 4 + n) (from_be_bytes w32 d) ∷ [] in
          omega (arith, long, free, cell_dues-append copied end, cell_dues-append (copied ++ end) rest, length-append b d)))

      content_pays : (level : ℕ) (k : Kind) (inner : Types) (n : ℕ) → Always Pays (content_step l p rest level k inner n) b
      content_pays level kind.List inner n = counted_pays level kind.List inner n
      content_pays level kind.Set inner n = counted_pays level kind.Set inner n
      content_pays level kind.Map inner n = counted_pays level kind.Map inner n
      content_pays level kind.Udt inner n = fielded_pays level kind.Udt inner n
      content_pays level kind.Tuple inner n = fielded_pays level kind.Tuple inner n
      content_pays level k inner n = scalar_pays level k n

      sized_pays : (k : Kind) (inner : Types) (level room n : ℕ) → Always Pays (sized_step l p rest k inner level room n) b
      sized_pays k inner level room n = either_always Pays b (is_negative n) _ _ (λ _. omega (arith, long)) (λ _.
          either_always Pays b (eqb n 0) _ _ (λ _. omega (arith, long)) (λ _.
          either_always Pays b (ltb room (4 + n)) _ _ (λ _. tt) (λ _. content_pays level k inner n)))

    value_pays : (k : Kind) (inner : Types) (level room : ℕ) → Always (CellPays (cell_dues rest)) (value_step l p rest k inner level room) []
    unfolding number_of
    value_pays k inner level room = either_always (CellPays (cell_dues rest)) [] (ltb room 4) _ _ (λ _. tt) (λ _ c size. sized_pays c (omega (arith, size)) k inner level room (from_be_bytes w32 c))

  items_pay : (ts : Types) (level stop taken : ℕ) (rest : List CellSymbol) → Always (CellPays (suc (cell_dues rest))) (items_step l p ts level stop taken rest) []
  items_pay NoMore level stop taken rest =
      either_always (CellPays (suc (cell_dues rest))) [] (lenient_excess l (stop - p.offset)) _ _
      (λ further.
      let more = (reads_when l (stop - p.offset) further).2 in
      part_pays (Items_of NoMore level stop taken ∷ rest) (level + 1) 0 0 (stop - p.offset) (suc (cell_dues rest)) [] (omega (arith, some, more)))
      (λ _. close_pays rest level stop taken (suc (cell_dues rest)) (omega arith))
  items_pay (Type_and k inner others) level stop taken rest =
      either_always (CellPays (suc (cell_dues rest))) [] (leb stop p.offset) _ _ (λ _. close_pays rest level stop taken (suc (cell_dues rest)) (omega arith)) (λ _.
      value_pays (Items_of others level stop (taken + 1) ∷ rest) k inner (level + 1) (stop - p.offset))

  -- the next part of a content, of which there is more, or which is due
  next_part_pays : (t : Bool) (level offset total : ℕ) (rest : List CellSymbol) → leb total offset ≡ t → Always (CellPays (cond t 1 0 + cell_dues rest)) (part_step l p rest level 0 offset total) []
  next_part_pays true level offset total rest is = part_pays rest level 0 offset total (1 + cell_dues rest) [] (omega arith)
  next_part_pays false level offset total rest is = part_pays rest level 0 offset total (0 + cell_dues rest) [] (omega (arith, leb-false _ _ is, some))

  cell_pays : (ss : List CellSymbol) → Always (CellPays (cell_dues ss)) (cell_step_at l p ss) []
  cell_pays [] = tt
  cell_pays (Value_of k inner level stop ∷ rest) = value_pays rest k inner level (stop - p.offset)
  cell_pays (Items_of ts level stop taken ∷ rest) = items_pay ts level stop taken rest
  cell_pays (Close_of level stop taken ∷ rest) = close_pays rest level stop taken (suc (cell_dues rest)) (omega arith)
  cell_pays (Content_from level offset total ∷ rest) = next_part_pays (leb total offset) level offset total rest refl

-- ---- steps of a stream

abbrev StepPays : (due : ℕ) → Emitted Event Place → List ℕ → Type 0
StepPays due x b = suc (dues (x.after (length b)).symbols) ≤ due + length b

header_pays : (p : Place) (due : ℕ) (b : List ℕ) → length b ≡ 9 → (h : Heading) → Always (StepPays due) (header_step p h) b
header_pays p due b long (Err e) = tt
header_pays p due b long (Ok h) = omega (arith, long, message_due h)

field_pays : (types : Bool) (p : Place) (f : _) (n : Notation) (r : Role) (rest : List Symbol) (v : FieldValue) (o : Option Reason) (b : List ℕ) → Some_taken (content_due n) v b
    → Always (StepPays (content_due n + dues rest)) (reading.value_step types p f r rest v o) b
field_pays types p f n r rest v (Some why) b some = tt
field_pays types p f n r rest v None b some =
    let next = following (types_for types r p.nodes p.given) r v in
    omega (arith, some, dues-append next rest, following_free (types_for types r p.nodes p.given) r v)

types_left_free : (ts : List TypeSymbol) (rest : List Symbol) → dues (types_left ts ++ rest) ≡ dues rest
types_left_free [] rest = refl
types_left_free (t ∷ ts) rest = omega arith

cells_left_due : (row column : ℕ) (cs : List CellSymbol) (rest : List Symbol) → dues (cells_left row column cs ++ rest) ≡ cell_dues cs + dues rest
cells_left_due row column [] rest = omega arith
cells_left_due row column (c ∷ cs) rest = refl

module _ (l : Rules) (some : 1 ≤ l.part) (p : Place) where
  cells_pay : (row column : ℕ) (cs : List CellSymbol) (rest : List Symbol)
      → Always (StepPays (cell_dues cs + dues rest)) (map_step (cell_event row column) (place_of_cells row column p rest) (cell_step l (record { offset = p.offset; symbols = cs }))) []
  cells_pay row column cs rest =
      let c : CellPlace = record { offset = p.offset; symbols = cs } in
      map_always (cell_event row column) (place_of_cells row column p rest) (StepPays (cell_dues cs + dues rest)) (cell_step l c) []
      (always_then (CellPays (cell_dues cs)) _ (cell_step l c) [] (λ x b paid. omega (arith, paid, cells_left_due row column (x.after (length b)).symbols rest)) (cell_pays l some c cs))

  types_pay : (ts : List TypeSymbol) (rest : List Symbol)
      → Always (StepPays (dues rest)) (map_step type_event (place_of_types p rest) (type_step l (record { offset = p.offset; stop = p.stop; symbols = ts; nodes = p.nodes }))) []
  types_pay ts rest =
      let q : TypePlace = record { offset = p.offset; stop = p.stop; symbols = ts; nodes = p.nodes } in
      map_always type_event (place_of_types p rest) (StepPays (dues rest)) (type_step l q) []
      (always_then (Some_taken 0) _ (type_step l q) [] (λ x b taken. omega (arith, taken, types_left_free (x.after (length b)).symbols rest)) (type_some l q ts))

  step_pays : (ss : List Symbol) → Always (StepPays (dues ss)) (step_at l p ss) []
  step_pays [] = tt
  step_pays (Stream ∷ rest) = either_always (StepPays (0 + dues rest)) [] (ltb (2 ^ 63) p.offset) _ _ (λ _. tt) (λ _ c long. header_pays p (0 + dues rest) c long (heading c))
  step_pays (In f n r ∷ rest) =
      after_always (Some_taken (content_due n)) (StepPays (content_due n + dues rest)) p.offset (field_of n (limit_of l n) (p.stop - p.offset)) _ [] (field_some n (limit_of l n) (p.stop - p.offset))
      (λ v b taken. field_pays l.types p f n r rest v (fault_in r v) b taken)
  step_pays (In_type ts ∷ rest) = let free : 0 + dues rest ≡ dues rest = omega arith in rw free (types_pay ts rest)
  step_pays (Cell_due row column k inner ∷ rest) = cells_pay row column (Value_of k inner 0 p.stop ∷ []) rest
  step_pays (In_cell row column cs ∷ rest) = cells_pay row column cs rest
  step_pays (Extra ∷ rest) = λ c long. omega arith

-- ---- runs

-- what a step takes lies in the bytes
step_paid : (l : Rules) (some : 1 ≤ l.part) (p : Place) (bytes : List ℕ) (x : Emitted Event Place) (used : ℕ) → says (step l p) 0 bytes ≡ Got x used
    → (suc (dues (x.after used).symbols) ≤ dues p.symbols + used) × (length (drop used bytes) + used ≡ length bytes)
step_paid l some p bytes x used s =
    let y = says_yields (step l p) 0 x used bytes s in
    let long : length y.0 ≡ used = omega (arith, y.3) in
    let taken : take used bytes ≡ y.0 = ap (λ (t : List ℕ). take used t) y.2 ∙ take_at y.0 y.1 used long in
    let none : used - length {A = ℕ} [] ≡ used = omega arith in
    let all : length (take (used - length {A = ℕ} []) bytes) ≡ used = rw none (ap length taken ∙ long) in
    let paid = (says_always (StepPays (dues p.symbols)) (step l p) [] bytes x used (step_pays l some (settled p) p.symbols) s).1 in
    (subst (λ (n : ℕ). suc (dues (x.after n).symbols) ≤ dues p.symbols + n) all paid, omega (arith, length-drop used bytes, ap length y.2, length-append y.0 y.1, long))

pub events_paid : (l : Rules) (some : 1 ≤ l.part) (es : List (ℕ × Event)) (p q : Place) (bytes rest : List ℕ) → Reads l p bytes es q rest → length es + dues q.symbols + length rest ≤ dues p.symbols + length bytes
events_paid l some [] p q bytes rest r = rw (r.0, r.1) (omega arith)
events_paid l some (e ∷ es) p q bytes rest r =
    let paid = step_paid l some p bytes _ r.0 r.2 in
    omega (arith, paid.0, paid.1, events_paid l some es (r.1 r.0) q (drop r.0 bytes) rest r.3)

pub no_more_events : (l : Rules) (gifts : Gifts) (bytes : List ℕ) (es : List (ℕ × Event)) (v : Verdict) → 1 ≤ l.part → Says l (start_with gifts) bytes es v → length es ≤ length bytes
no_more_events l gifts bytes es v some says = omega (arith, events_paid l some es (start_with gifts) says.0 bytes says.1 says.2)

handed_out_by : (o : Option Refusal) (gifts : Gifts) (d : StreamState) (s : List ℕ) (es : List (ℕ × Event)) → 1 ≤ d.rules.part → AfterBy o gifts d s es → length es ≤ length s
handed_out_by None gifts d s es some conforms = omega (arith, events_paid d.rules some es (start_with gifts) conforms.place s conforms.bytes conforms.read)
handed_out_by (Some r) gifts d s es some after = omega (arith, events_paid d.rules some es (start_with gifts) after.place s after.bytes after.read)

pub no_more_handed_out : (gifts : Gifts) (d : StreamState) (s : List ℕ) (es : List (ℕ × Event)) → 1 ≤ d.rules.part → AfterGifts gifts d s es → length es ≤ length s
no_more_handed_out gifts d s es some after = handed_out_by d.refusal gifts d s es some after

-- ---- what is always said

module _ (l : Rules) (some : 1 ≤ l.part) where
  abbrev SaysSome : Place → List ℕ → Type 0
  SaysSome p bytes = (es : List (ℕ × Event)) × (v : Verdict) × Says l p bytes es v

  said_by : (p : Place) (bytes : List ℕ) → ((q : Place) (rest : List ℕ) → dues q.symbols + length rest < dues p.symbols + length bytes → SaysSome q rest) → (d : Said (Emitted Event Place) (ℕ × Reason)) → says (step l p) 0 bytes ≡ d → SaysSome p bytes
  said_by p bytes later More is = ([], Waits, (p, bytes, (refl, refl), rw is tt))
  said_by p bytes later (Bad fault) is = ([], Refused fault.0 fault.1, (p, bytes, (refl, refl), rw is refl))
  said_by p bytes later (Got x used) is =
      let paid = step_paid l some p bytes x used is in
      let s = later (x.after used) (drop used bytes) (omega (arith, paid.0, paid.1)) in
      ((x.at, x.event) ∷ s.0, s.1, (s.2.0, s.2.1, (used, x.after, is, s.2.2), s.2.3))

  -- Each step is paid, so there is a last one.
  said_within : (n : ℕ) (p : Place) (bytes : List ℕ) → dues p.symbols + length bytes < n → SaysSome p bytes
  said_within zero p bytes lt = absurd (omega (arith, lt))
  said_within (suc n) p bytes lt = said_by p bytes (λ q rest less. said_within n q rest (omega (arith, lt, less))) (says (step l p) 0 bytes) refl

pub always_said : (l : Rules) (p : Place) (bytes : List ℕ) → 1 ≤ l.part → (es : List (ℕ × Event)) × (v : Verdict) × Says l p bytes es v
always_said l p bytes some = said_within l some (suc (dues p.symbols + length bytes)) p bytes (omega arith)
