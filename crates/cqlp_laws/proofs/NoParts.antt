-- Where no content comes in parts, how many bytes a part would have changes nothing that is read.
use Rattle.std.proofs.Common.{◌≡◌, ℕ, zero, suc, ◌+◌, ◌-◌, ◌^◌, Bool, true, false, eqb, ltb, leb, cond, bytes_eq, List, [], ◌∷◌, ◌++◌, length, take, drop, Option, Some, None, Ok, Err, refl, sym, ap, ◌∙◌, subst, arith}
use Rattle.std.specs.Int.{w16, w32, from_be_bytes}
use Rattle.std.proofs.lemmas.List.{take_at}
use Rattle.cqlp_note.specs.declared.field.Field.TheVariants as field
use Rattle.cqlp_note.specs.declared.field.Notation.{Notation}
use Rattle.cqlp_note.specs.declared.field.Notation.TheVariants as notation
use Rattle.cqlp_note.specs.declared.opcode.Opcode.{Opcode}
use Rattle.cqlp_note.specs.declared.opcode.Opcode.TheVariants as opcode
use Rattle.cqlp_note.specs.declared.header.Header.{Header}
use Rattle.cqlp_note.specs.declared.refusal.Reason.{Reason}
use Rattle.cqlp_note.specs.declared.refusal.Reason.TheVariants.{Overrun}
use Rattle.cqlp_note.specs.Reader.{Reader, Gives, Refuses, Takes, Idles, Got, says, number_of}
use Rattle.cqlp_note.specs.Field.{FieldValue, field_of, is_negative}
use Rattle.cqlp_note.specs.Step.{Emitted, Step, Emit, after_field, map_step}
use Rattle.cqlp_note.specs.Limits.{Rules, limit_of}
use Rattle.cqlp_note.specs.Heading.{Heading, heading, has, beside_number}
use Rattle.cqlp_note.proofs.Readers.{Always, says_always}
use Rattle.cqlp_note.proofs.Fields.{either_always}
use Rattle.cqlp_note.proofs.Yields.{says_yields}
use Rattle.cqlp_laws.proofs.EventCounts.{always_then}
use Rattle.cqlp_kind.specs.declared.kind.Kind.{Kind}
use Rattle.cqlp_kind.specs.declared.kind.Kind.TheVariants as kind
use Rattle.cqlp_kind.specs.Types.{Types, NoMore, Type_and, kinds}
use Rattle.cqlp_kind.specs.TypeStep.{TypeSymbol, TypeEvent, TypePlace, Option_at, Text_of, Fields_of, Whole, kind_or_lenient, option_step, type_step_at, type_step}
use Rattle.cqlp_kind.specs.Scalars.{ScalarValue, size_or_lenient, scalar_or_lenient}
use Rattle.cqlp_kind.specs.CellStep.{CellSymbol, Value_of, Items_of, Close_of, Content_from, CellEvent, Null, Empty, CellPlace, cell_copies, values_of, is_opaque, leaf_step, fielded_step, close_step, counted_step, part_step, scalar_step, content_step, sized_step, value_step, items_step, cell_step_at, cell_step, lenient_excess}
use Rattle.cqlp_kind.specs.CellStep as cells
use Rattle.cqlp_grammar.specs.declared.grammar.Group.{Group}
use Rattle.cqlp_grammar.specs.declared.grammar.Group.TheVariants as group_of
use Rattle.cqlp_grammar.specs.declared.grammar.Role.{Role}
use Rattle.cqlp_grammar.specs.declared.grammar.Role.TheVariants as role
use Rattle.cqlp_grammar.specs.Productions.{Symbol, Stream, In, In_type, Cell_due, In_cell, Extra, plain, counted, copies, where_set, group, body, announced, message, query_parts, errors, results, by_text, targets, events, specs, table_name, row_from, rows_from, or_nothing, number_in, text_in, following, fault_in}
use Rattle.cqlp_decode.specs.Reading.{Event, Place, Gifts, settled, start_with, Reads, Says, Verdict, Ends, type_event, cell_event, types_for, nodes_after, types_left, cells_left, place_of_types, place_of_cells, header_step, step_at, step}
use Rattle.cqlp_decode.specs.Reading as reading
use Rattle.cqlp_decode.proofs.Always.{after_always, map_always}

-- ---- what is still to be read of contents that come in parts

abbrev cell_parts : List CellSymbol → ℕ
cell_parts [] = 0
cell_parts (Value_of k inner level stop ∷ rest) = cell_parts rest
cell_parts (Items_of ts level stop taken ∷ rest) = cell_parts rest
cell_parts (Close_of level stop taken ∷ rest) = cell_parts rest
cell_parts (Content_from level offset total ∷ rest) = suc (cell_parts rest)

abbrev CellsFree : List CellSymbol → Type 0
CellsFree cs = cell_parts cs ≡ 0

abbrev symbol_parts : Symbol → ℕ
symbol_parts Stream = 0
symbol_parts (In f n r) = 0
symbol_parts (In_type ts) = 0
symbol_parts (Cell_due row column k inner) = 0
symbol_parts (In_cell row column cs) = cell_parts cs
symbol_parts Extra = 0

abbrev dues : List Symbol → ℕ
dues [] = 0
dues (s ∷ rest) = symbol_parts s + dues rest

dues-append : (xs ys : List Symbol) → dues (xs ++ ys) ≡ dues xs + dues ys
dues-append [] ys = omega arith
dues-append (x ∷ xs) ys = omega (arith, dues-append xs ys)

-- ---- productions

abbrev IsFree : List Symbol → Type 0
IsFree ss = dues ss ≡ 0

both_free : (xs ys : List Symbol) → IsFree xs → IsFree ys → IsFree (xs ++ ys)
both_free xs ys a b = omega (arith, dues-append xs ys, a, b)

either_free : (t : Bool) (xs ys : List Symbol) → IsFree xs → IsFree ys → IsFree (cond t xs ys)
either_free true xs ys a b = a
either_free false xs ys a b = b

where_free : (flags bit : ℕ) (ss : List Symbol) → IsFree ss → IsFree (where_set flags bit ss)
where_free flags bit ss free = either_free (has flags bit) ss [] free refl

copies_free : (n : ℕ) (ss : List Symbol) → IsFree ss → IsFree (copies n ss)
copies_free zero ss free = refl
copies_free (suc n) ss free = both_free ss (copies n ss) free (copies_free n ss free)

abbrev AllFree : List (ℕ × List Symbol) → Type 0
AllFree [] = Unit {0}
AllFree (entry ∷ table) = IsFree entry.1 × AllFree table

entry_free : (n : ℕ) (entry : ℕ × List Symbol) (table : List (ℕ × List Symbol)) (t : Bool) → AllFree (entry ∷ table) → IsFree (or_nothing (beside_number n table)) → IsFree (or_nothing (cond t (Some entry.1) (beside_number n table)))
entry_free n entry table true free later = free.0
entry_free n entry table false free later = later

table_free : (n : ℕ) (table : List (ℕ × List Symbol)) → AllFree table → IsFree (or_nothing (beside_number n table))
table_free n [] free = refl
table_free n (entry ∷ table) free = entry_free n entry table (eqb n entry.0) free (table_free n table free.1)

abbrev AllTextsFree : List (List ℕ × List Symbol) → Type 0
AllTextsFree [] = Unit {0}
AllTextsFree (entry ∷ table) = IsFree entry.1 × AllTextsFree table

texts_free : (text : List ℕ) (table : List (List ℕ × List Symbol)) → AllTextsFree table → IsFree (by_text text table)
texts_free text [] free = refl
texts_free text (entry ∷ table) free = either_free (bytes_eq text entry.0) entry.1 (by_text text table) free.0 (texts_free text table free.1)

group_free : (g : Group) → IsFree (group g)
group_free group_of.Warnings = refl
group_free group_of.PayloadItems = refl
group_free group_of.StringPairs = refl
group_free group_of.OptionLists = refl
group_free group_of.OptionValues = refl
group_free group_of.EventTypes = refl
group_free (group_of.QueryValues true) = refl
group_free (group_of.QueryValues false) = refl
group_free group_of.BatchValues = refl
group_free group_of.BatchEntries = refl
group_free group_of.Arguments = refl
group_free group_of.KeyIndexes = refl
group_free (group_of.Columns true) = refl
group_free (group_of.Columns false) = refl

body_free : (o : Opcode) → IsFree (body o)
body_free opcode.Error = refl
body_free opcode.Startup = refl
body_free opcode.Ready = refl
body_free opcode.Authenticate = refl
body_free opcode.Options = refl
body_free opcode.Supported = refl
body_free opcode.Query = refl
body_free opcode.Result = refl
body_free opcode.Prepare = refl
body_free opcode.Execute = refl
body_free opcode.Register = refl
body_free opcode.Event = refl
body_free opcode.Batch = refl
body_free opcode.AuthChallenge = refl
body_free opcode.AuthResponse = refl
body_free opcode.AuthSuccess = refl

announced_free : (h : Header) → IsFree (announced h)
announced_free h =
    both_free _ _
    (either_free h.response _ [] (both_free _ _ (where_free h.flags 0x02 _ refl) (where_free h.flags 0x08 _ refl)) refl)
    (where_free h.flags 0x04 _ refl)

message_free : (h : Header) → IsFree (message h)
message_free h =
    let all : IsFree ((announced h ++ body h.opcode) ++ Extra ∷ []) = both_free (announced h ++ body h.opcode) (Extra ∷ []) (both_free (announced h) (body h.opcode) (announced_free h) (body_free h.opcode)) refl in
    all

specs_free : (flags columns : ℕ) → IsFree (specs flags columns)
specs_free flags columns = both_free _ _ (where_free flags 0x01 table_name refl) (copies_free columns _ (group_free (group_of.Columns (has flags 0x01))))

row_free : (row column : ℕ) (ts : Types) → IsFree (row_from row column ts)
row_free row column NoMore = refl
row_free row column (Type_and k inner others) = omega (arith, row_free row (column + 1) others)

rows_free : (row : ℕ) (ts : Types) (n : ℕ) → IsFree (rows_from row ts n)
rows_free row ts zero = refl
rows_free row ts (suc n) = both_free _ _ (row_free row 0 ts) (rows_free (row + 1) ts n)

query_free : (flags : ℕ) → IsFree (query_parts flags)
query_free flags =
    both_free _ _ (both_free _ _ (both_free _ _ (both_free _ _
    (where_free flags 0x01 (counted field.Values (group_of.QueryValues (has flags 0x40)) ∷ []) refl)
    (where_free flags 0x04 (plain field.PageSize notation.Int ∷ []) refl))
    (where_free flags 0x08 (plain field.PagingState notation.Bytes32 ∷ []) refl))
    (where_free flags 0x10 (plain field.SerialConsistency notation.Short ∷ []) refl))
    (where_free flags 0x20 (plain field.Timestamp notation.Long ∷ []) refl)

-- what follows a field
following_free : (ts : Types) (r : Role) (v : FieldValue) → IsFree (following ts r v)
following_free ts role.Alone v = refl
following_free ts (role.Counts g) v = copies_free (number_in v) (group g) (group_free g)
following_free ts role.QueryFlags v = query_free (number_in v)
following_free ts role.EntryKind v = both_free _ _ (either_free (eqb (number_in v) 0) _ _ refl refl) refl
following_free ts role.BatchFlags v = both_free _ _ (where_free (number_in v) 0x10 _ refl) (where_free (number_in v) 0x20 _ refl)
following_free ts role.ErrorCode v = omega (arith, table_free (number_in v) errors (refl, (refl, (refl, (refl, (refl, (refl, (refl, (refl, tt)))))))))
following_free ts role.ResultKind v = table_free (number_in v) results (refl, (refl, (refl, (refl, tt))))
following_free ts role.ChangeTarget v = texts_free (text_in v) targets (refl, (refl, (refl, (refl, (refl, tt)))))
following_free ts role.EventType v = texts_free (text_in v) events (refl, (refl, (refl, tt)))
following_free ts (role.MetaFlags rows) v = refl
following_free ts (role.MetaColumns rows flags) v =
    both_free _ _ (both_free _ _ (where_free flags 0x02 _ refl) (either_free (has flags 0x04) [] _ refl (specs_free flags (number_in v))))
    (either_free rows _ [] refl refl)
following_free ts role.PreparedFlags v = refl
following_free ts (role.PreparedColumns flags) v = refl
following_free ts (role.PreparedKeys flags columns) v =
    both_free _ _ (both_free _ _ (copies_free (number_in v) _ refl) (specs_free flags columns)) refl
following_free ts (role.PageRows flags columns) v = rows_free 0 ts (number_in v)

-- ---- readers

any_always : {A F : Type 0} (r : Reader A F) (before : List ℕ) → Always {A = A} {F = F} (λ _ _. Unit {0}) r before
any_always (Gives v) before = tt
any_always (Refuses why) before = tt
any_always Idles before = tt
any_always (Takes n next) before = λ c long. any_always (next c) (before ++ c)

-- ---- cells

cells_both : (xs ys : List CellSymbol) → CellsFree xs → CellsFree ys → CellsFree (xs ++ ys)
cells_both [] ys a b = b
cells_both (Value_of k inner level stop ∷ xs) ys a b = cells_both xs ys a b
cells_both (Items_of ts level stop taken ∷ xs) ys a b = cells_both xs ys a b
cells_both (Close_of level stop taken ∷ xs) ys a b = cells_both xs ys a b
cells_both (Content_from level offset total ∷ xs) ys a b = absurd (omega (arith, a))

values_free : (ts : Types) (level stop : ℕ) → CellsFree (values_of ts level stop)
values_free NoMore level stop = refl
values_free (Type_and k inner others) level stop = values_free others level stop

cells_copied : (n : ℕ) (ss : List CellSymbol) → CellsFree ss → CellsFree (cell_copies n ss)
cells_copied zero ss free = refl
cells_copied (suc n) ss free = cells_both ss (cell_copies n ss) free (cells_copied n ss free)

-- after a step nothing comes in parts
abbrev KeepsCell : Emitted CellEvent CellPlace → List ℕ → Type 0
KeepsCell x b = CellsFree (x.after (length b)).symbols

abbrev Keeps : Emitted Event Place → List ℕ → Type 0
Keeps x b = IsFree (x.after (length b)).symbols

header_keeps : (p : Place) (b : List ℕ) (h : Heading) → Always Keeps (header_step p h) b
header_keeps p b (Err e) = tt
header_keeps p b (Ok h) = message_free h

field_keeps : (types : Bool) (p : Place) (f : _) (r : Role) (rest : List Symbol) (v : FieldValue) (o : Option Reason) (b : List ℕ) → IsFree rest → Always Keeps (reading.value_step types p f r rest v o) b
field_keeps types p f r rest v (Some why) b free = tt
field_keeps types p f r rest v None b free =
    both_free (following (types_for types r p.nodes p.given) r v) rest (following_free (types_for types r p.nodes p.given) r v) free

types_left_free : (ts : List TypeSymbol) (rest : List Symbol) → IsFree rest → IsFree (types_left ts ++ rest)
types_left_free [] rest free = free
types_left_free (t ∷ ts) rest free = omega (arith, free)

cells_left_free : (row column : ℕ) (cs : List CellSymbol) (rest : List Symbol) → CellsFree cs → IsFree rest → IsFree (cells_left row column cs ++ rest)
cells_left_free row column [] rest f free = free
cells_left_free row column (c ∷ cs) rest f free = omega (arith, f, free)

-- ---- limits, of a caller who does not ask for parts, nor for a lenient reading

module _ (text cell entries depth : ℕ) (types : Bool) where
  -- with parts of so many bytes
  abbrev pub strict : ℕ → Rules
  strict part = record { text = text; cell = cell; entries = entries; depth = depth; part = part; types = types; parts = false; lenient = false }

  module _ (k : ℕ) (p : CellPlace) where
    module _ (rest : List CellSymbol) (free : CellsFree rest) where
      close_keeps : (level stop taken : ℕ) (b : List ℕ) → Always KeepsCell (close_step p rest level stop taken) b
      close_keeps level stop taken b = either_always KeepsCell b (ltb p.offset stop) _ _ (λ _. tt) (λ _. free)

      leaf_keeps : (level : ℕ) (n : Kind) (o : Option ScalarValue) (b : List ℕ) → Always KeepsCell (leaf_step p rest level n o) b
      leaf_keeps level n None b = tt
      leaf_keeps level n (Some v) b = free

      scalar_keeps : (level : ℕ) (n : Kind) (size : ℕ) (b : List ℕ) → Always KeepsCell (scalar_step (strict k) p rest level n size) b
      scalar_keeps level n size b = either_always KeepsCell b (size_or_lenient false n size) _ _ (λ _.
          either_always KeepsCell b (ltb cell size) _ _ (λ _. tt) (λ _ c long. leaf_keeps level n (scalar_or_lenient false n c) (b ++ c))) (λ _. tt)

      counted_keeps : (level : ℕ) (n : Kind) (inner : Types) (size : ℕ) (b : List ℕ) → Always KeepsCell (counted_step p rest level n inner size) b
      unfolding number_of
      counted_keeps level n inner size b = either_always KeepsCell b (ltb size 4) _ _ (λ _. tt) (λ _ d long.
          either_always KeepsCell (b ++ d) (is_negative (from_be_bytes w32 d)) _ _ (λ _. tt) (λ _.
          let stop = p.offset + 4 + size in
          let copied = cell_copies (from_be_bytes w32 d) (values_of inner (level + 1) stop) in
          let end : List CellSymbol = Close_of level stop (from_be_bytes w32 d) ∷ [] in
          cells_both (copied ++ end) rest (cells_both copied end (cells_copied (from_be_bytes w32 d) (values_of inner (level + 1) stop) (values_free inner (level + 1) stop)) refl) free))

      content_keeps : (level : ℕ) (n : Kind) (inner : Types) (size : ℕ) (b : List ℕ) → Always KeepsCell (content_step (strict k) p rest level n inner size) b
      content_keeps level kind.List inner size b = counted_keeps level kind.List inner size b
      content_keeps level kind.Set inner size b = counted_keeps level kind.Set inner size b
      content_keeps level kind.Map inner size b = counted_keeps level kind.Map inner size b
      content_keeps level kind.Udt inner size b = free
      content_keeps level kind.Tuple inner size b = free
      content_keeps level n inner size b = scalar_keeps level n size b

      sized_keeps : (n : Kind) (inner : Types) (level room size : ℕ) (b : List ℕ) → Always KeepsCell (sized_step (strict k) p rest n inner level room size) b
      sized_keeps n inner level room size b = either_always KeepsCell b (is_negative size) _ _ (λ _. free) (λ _.
          either_always KeepsCell b (eqb size 0) _ _ (λ _. free) (λ _.
          either_always KeepsCell b (ltb room (4 + size)) _ _ (λ _. tt) (λ _. content_keeps level n inner size b)))

      value_keeps : (n : Kind) (inner : Types) (level room : ℕ) → Always KeepsCell (value_step (strict k) p rest n inner level room) []
      unfolding number_of
      value_keeps n inner level room = either_always KeepsCell [] (ltb room 4) _ _ (λ _. tt) (λ _ c long. sized_keeps n inner level room (from_be_bytes w32 c) c)

    items_keep : (ts : Types) (level stop taken : ℕ) (rest : List CellSymbol) → CellsFree rest → Always KeepsCell (items_step (strict k) p ts level stop taken rest) []
    items_keep NoMore level stop taken rest free = close_keeps rest free level stop taken []
    items_keep (Type_and n inner others) level stop taken rest free =
        either_always KeepsCell [] (leb stop p.offset) _ _ (λ _. close_keeps rest free level stop taken []) (λ _.
        value_keeps (Items_of others level stop (taken + 1) ∷ rest) free n inner (level + 1) (stop - p.offset))

    cell_keeps : (cs : List CellSymbol) → CellsFree cs → Always KeepsCell (cell_step_at (strict k) p cs) []
    cell_keeps [] free = tt
    cell_keeps (Value_of n inner level stop ∷ rest) free = value_keeps rest free n inner level (stop - p.offset)
    cell_keeps (Items_of ts level stop taken ∷ rest) free = items_keep ts level stop taken rest free
    cell_keeps (Close_of level stop taken ∷ rest) free = close_keeps rest free level stop taken []
    cell_keeps (Content_from level offset total ∷ rest) free = absurd (omega (arith, free))

  module _ (k : ℕ) (p : Place) where
    cells_keep : (row column : ℕ) (cs : List CellSymbol) (rest : List Symbol) → CellsFree cs → IsFree rest
        → Always Keeps (map_step (cell_event row column) (place_of_cells row column p rest) (cell_step (strict k) (record { offset = p.offset; symbols = cs }))) []
    cells_keep row column cs rest f free =
        let c : CellPlace = record { offset = p.offset; symbols = cs } in
        map_always (cell_event row column) (place_of_cells row column p rest) Keeps (cell_step (strict k) c) []
        (always_then KeepsCell _ (cell_step (strict k) c) [] (λ x b kept. cells_left_free row column (x.after (length b)).symbols rest kept free) (cell_keeps k c cs f))

    types_keep : (ts : List TypeSymbol) (rest : List Symbol) → IsFree rest
        → Always Keeps (map_step type_event (place_of_types p rest) (type_step (strict k) (record { offset = p.offset; stop = p.stop; symbols = ts; nodes = p.nodes }))) []
    types_keep ts rest free =
        let q : TypePlace = record { offset = p.offset; stop = p.stop; symbols = ts; nodes = p.nodes } in
        map_always type_event (place_of_types p rest) Keeps (type_step (strict k) q) []
        (always_then (λ _ _. Unit {0}) _ (type_step (strict k) q) [] (λ x b _. types_left_free (x.after (length b)).symbols rest free) (any_always (type_step (strict k) q) []))

    step_keeps : (ss : List Symbol) → IsFree ss → Always Keeps (step_at (strict k) p ss) []
    step_keeps [] free = tt
    step_keeps (Stream ∷ rest) free = either_always Keeps [] (ltb (2 ^ 63) p.offset) _ _ (λ _. tt) (λ _ c long. header_keeps p c (heading c))
    step_keeps (In f n r ∷ rest) free =
        after_always (λ _ _. Unit {0}) Keeps p.offset (field_of n (limit_of (strict k) n) (p.stop - p.offset)) _ [] (any_always (field_of n (limit_of (strict k) n) (p.stop - p.offset)) [])
        (λ v b _. field_keeps types p f r rest v (fault_in r v) b (omega (arith, free)))
    step_keeps (In_type ts ∷ rest) free = types_keep ts rest (omega (arith, free))
    step_keeps (Cell_due row column n inner ∷ rest) free = cells_keep row column (Value_of n inner 0 p.stop ∷ []) rest refl (omega (arith, free))
    step_keeps (In_cell row column cs ∷ rest) free = cells_keep row column cs rest (omega (arith, free)) (omega (arith, free))
    step_keeps (Extra ∷ rest) free = λ c long. refl

  -- ---- the same step, however long a part would be

  module _ (j k : ℕ) where
    same_limit : (n : Notation) → limit_of (strict j) n ≡ limit_of (strict k) n
    same_limit notation.Byte = refl
    same_limit notation.Short = refl
    same_limit notation.Int = refl
    same_limit notation.Long = refl
    same_limit notation.Uuid = refl
    same_limit notation.Count16 = refl
    same_limit notation.Count32 = refl
    same_limit notation.Text16 = refl
    same_limit notation.Text32 = refl
    same_limit notation.Bytes16 = refl
    same_limit notation.Bytes32 = refl
    same_limit notation.Bound = refl
    same_limit notation.Inet = refl
    same_limit (notation.Content n) = refl

    same_option : (d : ℕ) (rest : List TypeSymbol) (p : TypePlace) (o : Option Kind) → option_step (strict j) d rest p o ≡ option_step (strict k) d rest p o
    same_option d rest p None = refl
    same_option d rest p (Some n) = refl

    same_type : (p : TypePlace) (ts : List TypeSymbol) → type_step_at (strict j) p ts ≡ type_step_at (strict k) p ts
    same_type p [] = refl
    same_type p (Option_at d ∷ rest) = λ i. number_of (p.offset, Overrun) 2 w16 (p.stop - p.offset) (λ n. same_option d rest p (kind_or_lenient (beside_number n kinds) false) i)
    same_type p (Text_of f ∷ rest) = refl
    same_type p (Fields_of named d ∷ rest) = refl
    same_type p (Whole i ∷ rest) = refl

    module _ (p : CellPlace) where
      module _ (rest : List CellSymbol) where
        same_content : (level : ℕ) (n : Kind) (inner : Types) (size : ℕ) → content_step (strict j) p rest level n inner size ≡ content_step (strict k) p rest level n inner size
        same_content level kind.List inner size = refl
        same_content level kind.Set inner size = refl
        same_content level kind.Map inner size = refl
        same_content level kind.Udt inner size = refl
        same_content level kind.Tuple inner size = refl
        same_content level n inner size = refl

        -- a value of so many bytes, with this step of its content
        abbrev sized : (level room size : ℕ) → Step CellEvent CellPlace → Step CellEvent CellPlace
        sized level room size content =
            cond (is_negative size) (Emit p.offset (Null level) (cells.place_after p rest []))
            (cond (eqb size 0) (Emit p.offset (Empty level) (cells.place_after p rest []))
            (cond (ltb room (4 + size)) (Refuses (p.offset, Overrun)) content))

        same_sized : (n : Kind) (inner : Types) (level room size : ℕ) → sized_step (strict j) p rest n inner level room size ≡ sized_step (strict k) p rest n inner level room size
        same_sized n inner level room size = ap (λ (s : Step CellEvent CellPlace). sized level room size s) (same_content level n inner size)

        same_value : (n : Kind) (inner : Types) (level room : ℕ) → value_step (strict j) p rest n inner level room ≡ value_step (strict k) p rest n inner level room
        same_value n inner level room = λ i. number_of (p.offset, Overrun) 4 w32 room (λ size. same_sized n inner level room size i)

      same_items : (ts : Types) (level stop taken : ℕ) (rest : List CellSymbol) → items_step (strict j) p ts level stop taken rest ≡ items_step (strict k) p ts level stop taken rest
      same_items NoMore level stop taken rest = refl
      same_items (Type_and n inner others) level stop taken rest =
          ap (λ (s : Step CellEvent CellPlace). cond (leb stop p.offset) (close_step p rest level stop taken) s) (same_value (Items_of others level stop (taken + 1) ∷ rest) n inner (level + 1) (stop - p.offset))

      same_cell : (cs : List CellSymbol) → CellsFree cs → cell_step_at (strict j) p cs ≡ cell_step_at (strict k) p cs
      same_cell [] free = refl
      same_cell (Value_of n inner level stop ∷ rest) free = same_value rest n inner level (stop - p.offset)
      same_cell (Items_of ts level stop taken ∷ rest) free = same_items ts level stop taken rest
      same_cell (Close_of level stop taken ∷ rest) free = refl
      same_cell (Content_from level offset total ∷ rest) free = absurd (omega (arith, free))

    module _ (p : Place) where
      same_page : (row column : ℕ) (cs : List CellSymbol) (rest : List Symbol) → CellsFree cs → reading.page_step (strict j) p row column cs rest ≡ reading.page_step (strict k) p row column cs rest
      same_page row column cs rest free =
          ap (λ (s : Step CellEvent CellPlace). map_step (cell_event row column) (place_of_cells row column p rest) s) (same_cell (record { offset = p.offset; symbols = cs }) cs free)

      same_at : (ss : List Symbol) → IsFree ss → step_at (strict j) p ss ≡ step_at (strict k) p ss
      same_at [] free = refl
      same_at (Stream ∷ rest) free = refl
      same_at (In f n r ∷ rest) free =
          ap (λ (m : ℕ). after_field p.offset (field_of n m (p.stop - p.offset)) (λ v. reading.value_step types p f r rest v (fault_in r v))) (same_limit n)
      same_at (In_type ts ∷ rest) free =
          ap (λ (s : Step TypeEvent TypePlace). map_step type_event (place_of_types p rest) s) (same_type (record { offset = p.offset; stop = p.stop; symbols = ts; nodes = p.nodes }) ts)
      same_at (Cell_due row column n inner ∷ rest) free = same_page row column (Value_of n inner 0 p.stop ∷ []) rest refl
      same_at (In_cell row column cs ∷ rest) free = same_page row column cs rest (omega (arith, free))
      same_at (Extra ∷ rest) free = refl

    -- ---- runs

    same_step : (p : Place) → IsFree p.symbols → step (strict j) p ≡ step (strict k) p
    same_step p free = same_at (settled p) p.symbols free

    step_kept : (p : Place) (bytes : List ℕ) (x : Emitted Event Place) (used : ℕ) → IsFree p.symbols → says (step (strict j) p) 0 bytes ≡ Got x used → IsFree (x.after used).symbols
    step_kept p bytes x used free s =
        let y = says_yields (step (strict j) p) 0 x used bytes s in
        let long : length y.0 ≡ used = omega (arith, y.3) in
        let taken : take used bytes ≡ y.0 = ap (λ (t : List ℕ). take used t) y.2 ∙ take_at y.0 y.1 used long in
        let none : used - length {A = ℕ} [] ≡ used = omega arith in
        let all : length (take (used - length {A = ℕ} []) bytes) ≡ used = rw none (ap length taken ∙ long) in
        let kept = (says_always Keeps (step (strict j) p) [] bytes x used (step_keeps j (settled p) p.symbols free) s).1 in
        subst (λ (n : ℕ). IsFree (x.after n).symbols) all kept

    reads_alike : (es : List (ℕ × Event)) (p q : Place) (bytes rest : List ℕ) → IsFree p.symbols → Reads (strict j) p bytes es q rest → Reads (strict k) p bytes es q rest × IsFree q.symbols
    reads_alike [] p q bytes rest free r = (r, subst (λ (z : Place). IsFree z.symbols) (sym r.0) free)
    reads_alike (e ∷ es) p q bytes rest free r =
        let kept = step_kept p bytes (record { at = e.0; event = e.1; after = r.1 }) r.0 free r.2 in
        let onward = reads_alike es (r.1 r.0) q (drop r.0 bytes) rest kept r.3 in
        let got = sym (ap (λ (s : Step Event Place). says s 0 bytes) (same_step p free)) ∙ r.2 in
        ((r.0, r.1, got, onward.0), onward.1)

    pub says_alike : (gifts : Gifts) (bytes : List ℕ) (es : List (ℕ × Event)) (v : Verdict) → Says (strict j) (start_with gifts) bytes es v → Says (strict k) (start_with gifts) bytes es v
    says_alike gifts bytes es v a =
        let r = reads_alike es (start_with gifts) a.0 bytes a.1 refl a.2 in
        (a.0, a.1, r.0, subst (λ (s : Step Event Place). Ends (says s 0 a.1) v) (same_step a.0 r.1) a.3)
