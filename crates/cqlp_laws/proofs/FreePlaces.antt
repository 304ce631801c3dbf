-- Read freely, no place is reached where a limit is exceeded: a frame has at most 2 ^ 28 bytes after its header, and each
-- type option takes some.
use Rattle.std.proofs.Common.{◌≡◌, ℕ, zero, suc, ◌+◌, ◌-◌, ◌<◌, ◌≤◌, ◌^◌, Bool, true, false, ◌&&◌, eqb, ltb, leb, cond, max, bytes_eq, List, [], ◌∷◌, ◌++◌, length, take, drop, Option, Some, None, Ok, Err, refl, ap, ◌∙◌, subst, arith}
use Rattle.std.specs.Prelude.{Result}
use Rattle.std.specs.Int.{w16, w32, from_be_bytes}
use Rattle.std.proofs.lemmas.Bool.{ltb-false}
use Rattle.std.proofs.lemmas.List.{length-append, take_at}
use Rattle.cqlp_note.specs.declared.field.Field.TheVariants as field
use Rattle.cqlp_note.specs.declared.field.Notation.{Notation}
use Rattle.cqlp_note.specs.declared.field.Notation.TheVariants as notation
use Rattle.cqlp_note.specs.declared.opcode.Opcode.{Opcode}
use Rattle.cqlp_note.specs.declared.opcode.Opcode.TheVariants as opcode
use Rattle.cqlp_note.specs.declared.header.Header.{Header}
use Rattle.cqlp_note.specs.declared.refusal.Reason.{Reason}
use Rattle.cqlp_note.specs.declared.refusal.Reason.TheVariants.{TooDeep, TooMany}
use Rattle.cqlp_note.specs.Reader.{Reader, Gives, Refuses, Takes, Idles, Got, says, number_of}
use Rattle.cqlp_note.specs.Field.{FieldValue, field_of, is_negative}
use Rattle.cqlp_note.specs.Step.{Emitted, map_step}
use Rattle.cqlp_note.specs.Limits.{Rules, limit_of}
use Rattle.cqlp_note.specs.Heading.{Heading, heading, heading_of, has, beside_number}
use Rattle.cqlp_note.proofs.Readers.{Always, says_always}
use Rattle.cqlp_note.proofs.Fields.{either_always}
use Rattle.cqlp_note.proofs.Yields.{says_yields}
use Rattle.cqlp_kind.specs.declared.kind.Kind.{Kind}
use Rattle.cqlp_kind.specs.declared.kind.Kind.TheVariants as kind
use Rattle.cqlp_kind.specs.declared.node.Node.{Node}
use Rattle.cqlp_kind.specs.Types.{Types, NoMore, Type_and, kinds}
use Rattle.cqlp_kind.specs.TypeStep.{TypeSymbol, TypeEvent, TypePlace, Option_at, Text_of, Fields_of, Whole, symbol_copies, parameters_of, inner_symbols, arity_of, with_arity, with_span, settled, count_in, kind_or_lenient, option_step, type_step_at, type_step}
use Rattle.cqlp_kind.specs.Scalars.{ScalarValue, size_or_lenient, scalar_or_lenient}
use Rattle.cqlp_kind.specs.CellStep.{CellSymbol, Value_of, Items_of, Close_of, Content_from, CellEvent, CellPlace, is_opaque, leaf_step, close_step, counted_step, part_step, scalar_step, content_step, value_step, cell_step_at, cell_step, lenient_excess}
use Rattle.cqlp_grammar.specs.declared.grammar.Group.{Group}
use Rattle.cqlp_grammar.specs.declared.grammar.Group.TheVariants as group_of
use Rattle.cqlp_grammar.specs.declared.grammar.Role.{Role}
use Rattle.cqlp_grammar.specs.declared.grammar.Role.TheVariants as role
use Rattle.cqlp_grammar.specs.Productions.{Symbol, Stream, In, In_type, Cell_due, In_cell, Extra, plain, counted, copies, where_set, group, body, announced, message, query_parts, errors, results, by_text, targets, events, specs, table_name, row_from, rows_from, or_nothing, number_in, text_in, following, fault_in}
use Rattle.cqlp_laws.specs.Excess.{free, IsLongField, IsLongValue, IsLongInCell, IsOver, ExceedsInType, ExceedsAt, Exceeds}
use Rattle.cqlp_decode.specs.Reading.{Event, Place, settled as settled_place, Gifts, start_with, Reads, type_event, cell_event, types_for, nodes_after, types_left, cells_left, place_of_types, place_of_cells, header_step, step_at, step}
use Rattle.cqlp_decode.specs.Reading as reading
use Rattle.cqlp_decode.proofs.Always.{after_always, map_always}
use Rattle.cqlp_laws.proofs.EventCounts.{always_then}

always_trivial : {A F : Type 0} (r : Reader A F) (before : List ℕ) → Always (λ v b. Unit {0}) r before
always_trivial (Gives v) before = tt
always_trivial (Refuses why) before = tt
always_trivial Idles before = tt
always_trivial (Takes n next) before = λ c long. always_trivial (next c) (before ++ c)

-- ---- how deep the type options are that are still to be read

-- the greatest depth of an option
abbrev pub depth_of : List TypeSymbol → ℕ
depth_of [] = 0
depth_of (Option_at d ∷ ss) = max d (depth_of ss)
depth_of (Text_of f ∷ ss) = depth_of ss
depth_of (Fields_of named d ∷ ss) = max d (depth_of ss)
depth_of (Whole i ∷ ss) = depth_of ss

-- after a field of this role type options may come, or cells of the types that were read
abbrev pub group_depth : Group → ℕ
group_depth (group_of.Columns named) = 1
group_depth g = 0

abbrev pub role_depth : Role → ℕ
role_depth (role.Counts g) = group_depth g
role_depth (role.MetaColumns rows flags) = 1
role_depth (role.PageRows flags columns) = 1
role_depth (role.PreparedColumns flags) = 1
role_depth (role.PreparedKeys flags columns) = 1
role_depth r = 0

abbrev pub symbol_depth : Symbol → ℕ
symbol_depth (In f n r) = role_depth r
symbol_depth (In_type ts) = max 1 (depth_of ts)
symbol_depth s = 0

-- the greatest depth among these symbols: 0 where no type option comes, nor the count of a page's rows
abbrev pub deepest : List Symbol → ℕ
deepest [] = 0
deepest (s ∷ ss) = max (symbol_depth s) (deepest ss)

pub deepest-append : (xs ys : List Symbol) → deepest (xs ++ ys) ≡ max (deepest xs) (deepest ys)
deepest-append [] ys = omega arith
deepest-append (x ∷ xs) ys = omega (arith, deepest-append xs ys)

depth-append : (xs ys : List TypeSymbol) → depth_of (xs ++ ys) ≡ max (depth_of xs) (depth_of ys)
depth-append [] ys = omega arith
depth-append (Option_at d ∷ xs) ys = omega (arith, depth-append xs ys)
depth-append (Text_of f ∷ xs) ys = depth-append xs ys
depth-append (Fields_of named d ∷ xs) ys = omega (arith, depth-append xs ys)
depth-append (Whole i ∷ xs) ys = depth-append xs ys

-- ---- productions

-- no deeper than this
abbrev pub IsAtMost : ℕ → List Symbol → Type 0
IsAtMost m ss = deepest ss ≤ m

module _ (m : ℕ) where
  both_most : (xs ys : List Symbol) → IsAtMost m xs → IsAtMost m ys → IsAtMost m (xs ++ ys)
  both_most xs ys a b = omega (arith, deepest-append xs ys, a, b)

  either_most : (t : Bool) (xs ys : List Symbol) → IsAtMost m xs → IsAtMost m ys → IsAtMost m (cond t xs ys)
  either_most true xs ys a b = a
  either_most false xs ys a b = b

  where_most : (flags bit : ℕ) (ss : List Symbol) → IsAtMost m ss → IsAtMost m (where_set flags bit ss)
  where_most flags bit ss most = either_most (has flags bit) ss [] most (omega arith)

  copies_most : (n : ℕ) (ss : List Symbol) → IsAtMost m ss → IsAtMost m (copies n ss)
  copies_most zero ss most = omega arith
  copies_most (suc n) ss most = both_most ss (copies n ss) most (copies_most n ss most)

  abbrev AllAtMost : List (ℕ × List Symbol) → Type 0
  AllAtMost [] = Unit {0}
  AllAtMost (entry ∷ table) = IsAtMost m entry.1 × AllAtMost table

  entry_most : (n : ℕ) (entry : ℕ × List Symbol) (table : List (ℕ × List Symbol)) (t : Bool) → AllAtMost (entry ∷ table) → IsAtMost m (or_nothing (beside_number n table)) → IsAtMost m (or_nothing (cond t (Some entry.1) (beside_number n table)))
  entry_most n entry table true most later = most.0
  entry_most n entry table false most later = later

  table_most : (n : ℕ) (table : List (ℕ × List Symbol)) → AllAtMost table → IsAtMost m (or_nothing (beside_number n table))
  table_most n [] most = omega arith
  table_most n (entry ∷ table) most = entry_most n entry table (eqb n entry.0) most (table_most n table most.1)

  abbrev AllTextsAtMost : List (List ℕ × List Symbol) → Type 0
  AllTextsAtMost [] = Unit {0}
  AllTextsAtMost (entry ∷ table) = IsAtMost m entry.1 × AllTextsAtMost table

  texts_most : (text : List ℕ) (table : List (List ℕ × List Symbol)) → AllTextsAtMost table → IsAtMost m (by_text text table)
  texts_most text [] most = omega arith
  texts_most text (entry ∷ table) most = either_most (bytes_eq text entry.0) entry.1 (by_text text table) most.0 (texts_most text table most.1)

  row_most : (row column : ℕ) (ts : Types) → IsAtMost m (row_from row column ts)
  row_most row column NoMore = omega arith
  row_most row column (Type_and k inner others) = omega (arith, row_most row (column + 1) others)

  rows_most : (row : ℕ) (ts : Types) (n : ℕ) → IsAtMost m (rows_from row ts n)
  rows_most row ts zero = omega arith
  rows_most row ts (suc n) = both_most _ _ (row_most row 0 ts) (rows_most (row + 1) ts n)

group_most : (g : Group) → IsAtMost (group_depth g) (group g)
group_most group_of.Warnings = omega arith
group_most group_of.PayloadItems = omega arith
group_most group_of.StringPairs = omega arith
group_most group_of.OptionLists = omega arith
group_most group_of.OptionValues = omega arith
group_most group_of.EventTypes = omega arith
group_most (group_of.QueryValues true) = omega arith
group_most (group_of.QueryValues false) = omega arith
group_most group_of.BatchValues = omega arith
group_most group_of.BatchEntries = omega arith
group_most group_of.Arguments = omega arith
group_most group_of.KeyIndexes = omega arith
group_most (group_of.Columns true) = omega arith
group_most (group_of.Columns false) = omega arith

body_most : (o : Opcode) → IsAtMost 0 (body o)
body_most opcode.Error = omega arith
body_most opcode.Startup = omega arith
body_most opcode.Ready = omega arith
body_most opcode.Authenticate = omega arith
body_most opcode.Options = omega arith
body_most opcode.Supported = omega arith
body_most opcode.Query = omega arith
body_most opcode.Result = omega arith
body_most opcode.Prepare = omega arith
body_most opcode.Execute = omega arith
body_most opcode.Register = omega arith
body_most opcode.Event = omega arith
body_most opcode.Batch = omega arith
body_most opcode.AuthChallenge = omega arith
body_most opcode.AuthResponse = omega arith
body_most opcode.AuthSuccess = omega arith

announced_most : (h : Header) → IsAtMost 0 (announced h)
announced_most h =
    both_most 0 _ _
    (either_most 0 h.response _ [] (both_most 0 _ _ (where_most 0 h.flags 0x02 (plain field.TraceId notation.Uuid ∷ []) (omega arith)) (where_most 0 h.flags 0x08 (counted field.Warnings group_of.Warnings ∷ []) (omega arith))) (omega arith))
    (where_most 0 h.flags 0x04 (counted field.PayloadItems group_of.PayloadItems ∷ []) (omega arith))

-- a message begins with no type options
pub message_most : (h : Header) → IsAtMost 0 (message h)
message_most h = both_most 0 (announced h ++ body h.opcode) (Extra ∷ []) (both_most 0 (announced h) (body h.opcode) (announced_most h) (body_most h.opcode)) (omega arith)

specs_most : (flags columns : ℕ) → IsAtMost 1 (specs flags columns)
specs_most flags columns = both_most 1 _ _ (where_most 1 flags 0x01 table_name (omega arith)) (copies_most 1 columns (group (group_of.Columns (has flags 0x01))) (group_most (group_of.Columns (has flags 0x01))))

query_most : (flags : ℕ) → IsAtMost 0 (query_parts flags)
query_most flags =
    both_most 0 _ _ (both_most 0 _ _ (both_most 0 _ _ (both_most 0 _ _
    (where_most 0 flags 0x01 (counted field.Values (group_of.QueryValues (has flags 0x40)) ∷ []) (omega arith))
    (where_most 0 flags 0x04 (plain field.PageSize notation.Int ∷ []) (omega arith)))
    (where_most 0 flags 0x08 (plain field.PagingState notation.Bytes32 ∷ []) (omega arith)))
    (where_most 0 flags 0x10 (plain field.SerialConsistency notation.Short ∷ []) (omega arith)))
    (where_most 0 flags 0x20 (plain field.Timestamp notation.Long ∷ []) (omega arith))

-- metadata begins where a field of this role is read
abbrev pub depth_after : Role → ℕ
depth_after (role.MetaFlags rows) = 1
depth_after role.PreparedFlags = 1
depth_after r = role_depth r

-- type options come of metadata alone
pub following_most : (ts : Types) (r : Role) (v : FieldValue) → IsAtMost (depth_after r) (following ts r v)
following_most ts role.Alone v = omega arith
following_most ts (role.Counts g) v = copies_most (group_depth g) (number_in v) (group g) (group_most g)
following_most ts role.QueryFlags v = query_most (number_in v)
following_most ts role.EntryKind v = both_most 0 _ _ (either_most 0 (eqb (number_in v) 0) (plain field.Query notation.Text32 ∷ []) (plain field.StatementId notation.Bytes16 ∷ []) (omega arith) (omega arith)) (omega arith)
following_most ts role.BatchFlags v = both_most 0 _ _ (where_most 0 (number_in v) 0x10 (plain field.SerialConsistency notation.Short ∷ []) (omega arith)) (where_most 0 (number_in v) 0x20 (plain field.Timestamp notation.Long ∷ []) (omega arith))
following_most ts role.ErrorCode v = omega (arith, table_most 0 (number_in v) errors (omega arith, (omega arith, (omega arith, (omega arith, (omega arith, (omega arith, (omega arith, (omega arith, tt)))))))))
following_most ts role.ResultKind v = table_most 0 (number_in v) results (omega arith, (omega arith, (omega arith, (omega arith, tt))))
following_most ts role.ChangeTarget v = texts_most 0 (text_in v) targets (omega arith, (omega arith, (omega arith, (omega arith, (omega arith, tt)))))
following_most ts role.EventType v = texts_most 0 (text_in v) events (omega arith, (omega arith, (omega arith, tt)))
following_most ts (role.MetaFlags rows) v = omega arith
following_most ts (role.MetaColumns rows flags) v =
    both_most 1 _ _ (both_most 1 _ _ (where_most 1 flags 0x02 (plain field.PagingState notation.Bytes32 ∷ []) (omega arith)) (either_most 1 (has flags 0x04) [] (specs flags (number_in v)) (omega arith) (specs_most flags (number_in v))))
    (either_most 1 rows (In field.Rows notation.Count32 (role.PageRows flags (number_in v)) ∷ []) [] (omega arith) (omega arith))
following_most ts role.PreparedFlags v = omega arith
following_most ts (role.PreparedColumns flags) v = omega arith
following_most ts (role.PreparedKeys flags columns) v =
    both_most 1 _ _ (both_most 1 _ _ (copies_most 1 (number_in v) (group group_of.KeyIndexes) (omega arith)) (specs_most flags columns)) (omega arith)
following_most ts (role.PageRows flags columns) v = rows_most 1 0 ts (number_in v)

-- ---- type options

spanned : (i : ℕ) (ns : List Node) → length (with_span i ns) ≡ length ns
spanned i [] = refl
spanned zero (x ∷ xs) = refl
spanned (suc i) (x ∷ xs) = ap suc (spanned i xs)

numbered : (n : ℕ) (ns : List Node) → length (with_arity n ns) ≡ length ns
numbered n [] = refl
numbered n (x ∷ []) = refl
numbered n (x ∷ y ∷ xs) = ap suc (numbered n (y ∷ xs))

settled_depth : (ss : List TypeSymbol) (ns : List Node) → depth_of (settled ss ns).0 ≤ depth_of ss
settled_depth [] ns = omega arith
settled_depth (Option_at d ∷ ss) ns = omega arith
settled_depth (Text_of f ∷ ss) ns = omega arith
settled_depth (Fields_of named d ∷ ss) ns = omega arith
settled_depth (Whole i ∷ ss) ns = settled_depth ss (with_span i ns)

settled_nodes : (ss : List TypeSymbol) (ns : List Node) → length (settled ss ns).1 ≡ length ns
settled_nodes [] ns = refl
settled_nodes (Option_at d ∷ ss) ns = refl
settled_nodes (Text_of f ∷ ss) ns = refl
settled_nodes (Fields_of named d ∷ ss) ns = refl
settled_nodes (Whole i ∷ ss) ns = settled_nodes ss (with_span i ns) ∙ spanned i ns

copies_depth : (n : ℕ) (ss : List TypeSymbol) → depth_of (symbol_copies n ss) ≤ depth_of ss
copies_depth zero ss = omega arith
copies_depth (suc n) ss = omega (arith, depth-append ss (symbol_copies n ss), copies_depth n ss)

inner_depth : (named : Bool) (d : ℕ) → depth_of (inner_symbols named d) ≤ d
inner_depth true d = omega arith
inner_depth false d = omega arith

parameters_depth : (k : Kind) (d : ℕ) → depth_of (parameters_of k d) ≤ d + 1
parameters_depth kind.Custom d = omega arith
parameters_depth kind.List d = omega arith
parameters_depth kind.Set d = omega arith
parameters_depth kind.Map d = omega arith
parameters_depth kind.Udt d = omega arith
parameters_depth kind.Tuple d = omega arith
parameters_depth k d = omega arith

-- The place after a step is in the same frame, no option is deeper than there are bytes, and there are no more nodes.
record TypeBounded (base : ℕ) (p q : TypePlace) : Type 0 where
  same_stop : q.stop ≡ p.stop
  onward : p.offset ≤ q.offset
  deep : depth_of q.symbols + base ≤ suc q.offset
  counted : length q.nodes + base ≤ q.offset

module _ (l : Rules) (p : TypePlace) (base : ℕ) (counted : length p.nodes + base ≤ p.offset) where
  abbrev TypeStays : Emitted TypeEvent TypePlace → List ℕ → Type 0
  TypeStays x b = TypeBounded base p (x.after (length b))

  settled_stays : (ss : List TypeSymbol) (ns : List Node) (used : ℕ) → depth_of ss + base ≤ suc (p.offset + used) → length ns + base ≤ p.offset + used
      → TypeBounded base p (record { offset = p.offset + used; stop = p.stop; symbols = (settled ss ns).0; nodes = (settled ss ns).1 })
  settled_stays ss ns used deep few = record { same_stop = refl; onward = omega arith; deep = omega (arith, deep, settled_depth ss ns); counted = omega (arith, few, settled_nodes ss ns) }

  option_stays : (d : ℕ) (rest : List TypeSymbol) (b : List ℕ) (o : Option Kind) → length b ≡ 2 → max d (depth_of rest) + base ≤ suc p.offset → Always TypeStays (option_step l d rest p o) b
  option_stays d rest b None two deep = tt
  option_stays d rest b (Some k) two deep =
      let node : Node = record { kind = k; arity = arity_of k; span = 0 } in
      let ss = parameters_of k d ++ Whole (length p.nodes) ∷ rest in
      either_always TypeStays b (ltb l.depth d) _ _ (λ _. tt) (λ _.
      either_always TypeStays b (leb l.entries (length p.nodes)) _ _ (λ _. tt) (λ _.
      settled_stays ss (p.nodes ++ node ∷ []) (length b)
      (omega (arith, deep, two, parameters_depth k d, depth-append (parameters_of k d) (Whole (length p.nodes) ∷ rest)))
      (omega (arith, counted, two, length-append p.nodes (node ∷ [])))))

  type_stays : (ss : List TypeSymbol) → depth_of ss + base ≤ suc p.offset → Always TypeStays (type_step_at l p ss) []
  unfolding number_of
  type_stays [] deep = tt
  type_stays (Option_at d ∷ rest) deep = either_always TypeStays [] (ltb (p.stop - p.offset) 2) _ _ (λ _. tt) (λ _ c long. option_stays d rest c (kind_or_lenient (beside_number (from_be_bytes w16 c) kinds) l.lenient) long deep)
  type_stays (Text_of f ∷ rest) deep =
      after_always (λ v b. Unit {0}) TypeStays p.offset (field_of notation.Text16 l.text (p.stop - p.offset)) _ [] (always_trivial (field_of notation.Text16 l.text (p.stop - p.offset)) []) (λ v b _.
      settled_stays rest p.nodes (length b) (omega (arith, deep)) (omega (arith, counted)))
  type_stays (Fields_of named d ∷ rest) deep =
      after_always (λ v b. Unit {0}) TypeStays p.offset (field_of notation.Count16 0 (p.stop - p.offset)) _ [] (always_trivial (field_of notation.Count16 0 (p.stop - p.offset)) []) (λ v b _.
      let inner = symbol_copies (count_in v) (inner_symbols named d) in
      settled_stays (inner ++ rest) (with_arity (count_in v) p.nodes) (length b)
      (omega (arith, deep, depth-append inner rest, copies_depth (count_in v) (inner_symbols named d), inner_depth named d))
      (omega (arith, counted, numbered (count_in v) p.nodes)))
  type_stays (Whole i ∷ rest) deep = tt

-- ---- cells

module _ (l : Rules) (p : CellPlace) where
  abbrev CellGoes : Emitted CellEvent CellPlace → List ℕ → Type 0
  CellGoes x b = p.offset ≤ (x.after (length b)).offset

  module _ (rest : List CellSymbol) where
    leaf_goes : (level : ℕ) (k : Kind) (o : Option ScalarValue) (b : List ℕ) → Always CellGoes (leaf_step p rest level k o) b
    leaf_goes level k None b = tt
    leaf_goes level k (Some v) b = omega arith

    part_goes : (level k offset total : ℕ) (b : List ℕ) → Always CellGoes (part_step l p rest level k offset total) b
    part_goes level k offset total b = λ c long. omega arith

    close_goes : (level stop taken : ℕ) (b : List ℕ) → Always CellGoes (close_step p rest level stop taken) b
    close_goes level stop taken b = either_always CellGoes b (ltb p.offset stop) _ _ (λ _. tt) (λ _. omega arith)

    scalar_goes : (level : ℕ) (k : Kind) (n : ℕ) (b : List ℕ) → Always CellGoes (scalar_step l p rest level k n) b
    scalar_goes level k n b = either_always CellGoes b (size_or_lenient l.lenient k n) _ _ (λ _.
        either_always CellGoes b (l.parts && is_opaque k && ltb l.part n) _ _ (λ _. part_goes level 4 0 n b) (λ _.
        either_always CellGoes b (ltb l.cell n) _ _ (λ _. tt) (λ _ c long. leaf_goes level k (scalar_or_lenient l.lenient k c) (b ++ c)))) (λ _. tt)

    counted_goes : (level : ℕ) (k : Kind) (inner : Types) (n : ℕ) (b : List ℕ) → Always CellGoes (counted_step p rest level k inner n) b
    unfolding number_of
    counted_goes level k inner n b = either_always CellGoes b (ltb n 4) _ _ (λ _. tt) (λ _ d size.
        either_always CellGoes (b ++ d) (is_negative (from_be_bytes w32 d)) _ _ (λ _. tt) (λ _. omega arith))

    content_goes : (level : ℕ) (k : Kind) (inner : Types) (n : ℕ) (b : List ℕ) → Always CellGoes (content_step l p rest level k inner n) b
    content_goes level kind.List inner n b = counted_goes level kind.List inner n b
    content_goes level kind.Set inner n b = counted_goes level kind.Set inner n b
    content_goes level kind.Map inner n b = counted_goes level kind.Map inner n b
    content_goes level kind.Udt inner n b = omega arith
    content_goes level kind.Tuple inner n b = omega arith
    content_goes level k inner n b = scalar_goes level k n b

    value_goes : (k : Kind) (inner : Types) (level room : ℕ) → Always CellGoes (value_step l p rest k inner level room) []
    unfolding number_of
    value_goes k inner level room = either_always CellGoes [] (ltb room 4) _ _ (λ _. tt) (λ _ c size.
        either_always CellGoes c (is_negative (from_be_bytes w32 c)) _ _ (λ _. omega arith) (λ _.
        either_always CellGoes c (eqb (from_be_bytes w32 c) 0) _ _ (λ _. omega arith) (λ _.
        either_always CellGoes c (ltb room (4 + from_be_bytes w32 c)) _ _ (λ _. tt) (λ _. content_goes level k inner (from_be_bytes w32 c) c))))

  cell_goes : (ss : List CellSymbol) → Always CellGoes (cell_step_at l p ss) []
  cell_goes [] = tt
  cell_goes (Value_of k inner level stop ∷ rest) = value_goes rest k inner level (stop - p.offset)
  cell_goes (Items_of NoMore level stop taken ∷ rest) =
      either_always CellGoes [] (lenient_excess l (stop - p.offset)) _ _ (λ _. part_goes (Items_of NoMore level stop taken ∷ rest) (level + 1) 0 0 (stop - p.offset) []) (λ _. close_goes rest level stop taken [])
  cell_goes (Items_of (Type_and k inner others) level stop taken ∷ rest) =
      either_always CellGoes [] (leb stop p.offset) _ _ (λ _. close_goes rest level stop taken []) (λ _. value_goes (Items_of others level stop (taken + 1) ∷ rest) k inner (level + 1) (stop - p.offset))
  cell_goes (Close_of level stop taken ∷ rest) = close_goes rest level stop taken []
  cell_goes (Content_from level offset total ∷ rest) = part_goes rest level 0 offset total []

-- ---- headers

if_ok : {A E : Type 0} (t : Bool) (x : Result A E) (e : E) (v : A) → cond t x (Err e) ≡ Ok v → x ≡ Ok v
if_ok true x e v s = s
if_ok false x e v s = absurd cc

unless_ok : {A E : Type 0} (t : Bool) (x : Result A E) (e : E) (v : A) → cond t (Err e) x ≡ Ok v → (t ≡ false) × (x ≡ Ok v)
unless_ok true x e v s = absurd cc
unless_ok false x e v s = (refl, s)

same_ok : {A E : Type 0} (x y : A) → ◌≡◌ {A = Result A E} (Ok x) (Ok y) → x ≡ y
same_ok x y s = cc

bounded_ok : (n : ℕ) (x h : Header) (k : ℕ) (why : Reason) → n ≡ x.length → ◌≡◌ {A = Heading} (cond (ltb 268435456 n) (Err (k, why)) (Ok x)) (Ok h) → h.length ≤ 268435456
bounded_ok n x h k why is s =
    let bounded : (ltb 268435456 n ≡ false) × (◌≡◌ {A = Heading} (Ok x) (Ok h)) = unless_ok (ltb 268435456 n) (Ok x) (k, why) h s in
    omega (arith, is, ltb-false _ _ bounded.0, ap (λ (y : Header). y.length) (same_ok {E = ℕ × Reason} x h bounded.1))

short_by : (response : Bool) (b : List ℕ) (h : Header) (o : Option Opcode) → heading_of response b o ≡ Ok h → h.length ≤ 268435456
short_by response b h None s = absurd cc
short_by response b h (Some o) s = bounded_ok (from_be_bytes w32 (take 4 (drop 5 b))) _ h _ _ refl (if_ok _ _ _ h s)

header_short : (b : List ℕ) (h : Header) → heading b ≡ Ok h → h.length ≤ 268435456
unfolding heading
header_short b h s = short_by _ b h _ (unless_ok _ _ _ h (if_ok _ _ _ h s)).1

-- ---- a stream

-- A place in a frame whose body begins at an offset: the body has at most 2 ^ 28 bytes, and neither the depth of the type
-- options that are due nor the number of those that were read is above that of the bytes read since.
record Bounded (base : ℕ) (p : Place) : Type 0 where
  behind : base ≤ p.offset
  short : p.stop ≤ base + 268435456
  deep : deepest p.symbols + base ≤ suc p.offset
  counted : 1 ≤ deepest p.symbols → length p.nodes + base ≤ p.offset

abbrev IsBounded : Place → Type 0
IsBounded p = (base : ℕ) × Bounded base p

role_small : (r : Role) → depth_after r ≤ 1
role_small (role.MetaFlags rows) = omega arith
role_small role.PreparedFlags = omega arith
role_small (role.Counts (group_of.Columns named)) = omega arith
role_small (role.Counts g) = omega arith
role_small r = omega arith

-- nodes are counted from where metadata begins
role_counted : (r : Role) (ns : List Node) (base offset others : ℕ) → base ≤ offset → (1 ≤ max (role_depth r) others → length ns + base ≤ offset) → 1 ≤ max (depth_after r) others → length (nodes_after r ns) + base ≤ offset
role_counted (role.MetaFlags rows) ns base offset others le counted some = omega (arith, le)
role_counted role.PreparedFlags ns base offset others le counted some = omega (arith, le)
role_counted r ns base offset others le counted some = counted some

left_depth : (ts : List TypeSymbol) (rest : List Symbol) → deepest (types_left ts ++ rest) ≤ max (max 1 (depth_of ts)) (deepest rest)
left_depth [] rest = omega arith
left_depth (t ∷ ts) rest = omega arith

pub cells_depth : (row column : ℕ) (cs : List CellSymbol) (rest : List Symbol) → deepest (cells_left row column cs ++ rest) ≡ deepest rest
cells_depth row column [] rest = refl
cells_depth row column (c ∷ cs) rest = omega arith

abbrev Stays : Emitted Event Place → List ℕ → Type 0
Stays x b = IsBounded (x.after (length b))

module _ (l : Rules) (p : Place) (base : ℕ) (behind : base ≤ p.offset) (short : p.stop ≤ base + 268435456) where
  header_stays : (b : List ℕ) (h : Heading) → heading b ≡ h → Always Stays (header_step p h) b
  header_stays b (Err e) is = tt
  header_stays b (Ok h) is =
      let here = p.offset + length b in
      (here, record { behind = omega arith; short = omega (arith, header_short b h is); deep = omega (arith, message_most h); counted = λ some. absurd (omega (arith, some, message_most h)) })

  field_stays : (f : _) (r : Role) (rest : List Symbol) (v : FieldValue) (o : Option Reason) (b : List ℕ) → max (role_depth r) (deepest rest) + base ≤ suc p.offset → (1 ≤ max (role_depth r) (deepest rest) → length p.nodes + base ≤ p.offset)
      → Always Stays (reading.value_step l.types p f r rest v o) b
  field_stays f r rest v (Some why) b deep counted = tt
  field_stays f r rest v None b deep counted =
      let next = following (types_for l.types r p.nodes p.given) r v in
      let most = following_most (types_for l.types r p.nodes p.given) r v in
      let size = deepest-append next rest in (
        base,
        record {
          behind = omega (arith, behind);
          short = short;
          deep = omega (arith, deep, most, size, role_small r, behind);
          counted = λ some. omega (arith, role_counted r p.nodes base p.offset (deepest rest) behind counted (omega (arith, some, most, size)));
        },
      )

  types_stay : (ts : List TypeSymbol) (rest : List Symbol) → max (max 1 (depth_of ts)) (deepest rest) + base ≤ suc p.offset → length p.nodes + base ≤ p.offset
      → Always Stays (map_step type_event (place_of_types p rest) (type_step l (record { offset = p.offset; stop = p.stop; symbols = ts; nodes = p.nodes }))) []
  types_stay ts rest deep counted =
      let q : TypePlace = record { offset = p.offset; stop = p.stop; symbols = ts; nodes = p.nodes } in
      map_always type_event (place_of_types p rest) Stays (type_step l q) []
      (always_then (λ (x : Emitted TypeEvent TypePlace) b. TypeBounded base q (x.after (length b))) _ (type_step l q) [] (λ x b stays. (
        base,
        record {
          behind = omega (arith, behind, stays.onward);
          short = omega (arith, short, stays.same_stop);
          deep = omega (arith, deep, stays.deep, stays.onward, left_depth (x.after (length b)).symbols rest, behind);
          counted = λ some. stays.counted;
        },
      )) (type_stays l q base counted ts (omega (arith, deep))))

  cells_stay : (row column : ℕ) (cs : List CellSymbol) (rest : List Symbol) → deepest rest + base ≤ suc p.offset → (1 ≤ deepest rest → length p.nodes + base ≤ p.offset)
      → Always Stays (map_step (cell_event row column) (place_of_cells row column p rest) (cell_step l (record { offset = p.offset; symbols = cs }))) []
  cells_stay row column cs rest deep counted =
      let q : CellPlace = record { offset = p.offset; symbols = cs } in
      map_always (cell_event row column) (place_of_cells row column p rest) Stays (cell_step l q) []
      (always_then (λ (x : Emitted CellEvent CellPlace) b. q.offset ≤ (x.after (length b)).offset) _ (cell_step l q) [] (λ x b goes. (
        base,
        record {
          behind = omega (arith, behind, goes);
          short = short;
          deep = omega (arith, deep, goes, cells_depth row column (x.after (length b)).symbols rest);
          counted = λ some. omega (arith, goes, counted (omega (arith, some, cells_depth row column (x.after (length b)).symbols rest)));
        },
      )) (cell_goes l q cs))

  step_stays : (ss : List Symbol) → deepest ss + base ≤ suc p.offset → (1 ≤ deepest ss → length p.nodes + base ≤ p.offset) → Always Stays (step_at l p ss) []
  step_stays [] deep counted = tt
  step_stays (Stream ∷ rest) deep counted = either_always Stays [] (ltb (2 ^ 63) p.offset) _ _ (λ _. tt) (λ _ c long. header_stays c (heading c) refl)
  step_stays (In f n r ∷ rest) deep counted =
      after_always (λ v b. Unit {0}) Stays p.offset (field_of n (limit_of l n) (p.stop - p.offset)) _ [] (always_trivial (field_of n (limit_of l n) (p.stop - p.offset)) []) (λ v b _. field_stays f r rest v (fault_in r v) b deep counted)
  step_stays (In_type ts ∷ rest) deep counted = types_stay ts rest deep (counted (omega arith))
  step_stays (Cell_due row column k inner ∷ rest) deep counted = cells_stay row column (Value_of k inner 0 p.stop ∷ []) rest (omega (arith, deep)) (λ some. counted (omega (arith, some)))
  step_stays (In_cell row column cs ∷ rest) deep counted = cells_stay row column cs rest (omega (arith, deep)) (λ some. counted (omega (arith, some)))
  step_stays (Extra ∷ rest) deep counted = λ c long. (p.stop, record { behind = omega arith; short = omega arith; deep = omega arith; counted = λ some. absurd (omega (arith, some)) })

-- ---- runs

step_bounded : (l : Rules) (p : Place) (bytes : List ℕ) (x : Emitted Event Place) (used : ℕ) → IsBounded p → says (step l p) 0 bytes ≡ Got x used → IsBounded (x.after used)
step_bounded l p bytes x used b s =
    let y = says_yields (step l p) 0 x used bytes s in
    let long : length y.0 ≡ used = omega (arith, y.3) in
    let taken : take used bytes ≡ y.0 = ap (λ (t : List ℕ). take used t) y.2 ∙ take_at y.0 y.1 used long in
    let none : used - length {A = ℕ} [] ≡ used = omega arith in
    let all : length (take (used - length {A = ℕ} []) bytes) ≡ used = rw none (ap length taken ∙ long) in
    let stays = (says_always Stays (step l p) [] bytes x used (step_stays l (settled_place p) b.0 b.1.behind b.1.short p.symbols b.1.deep b.1.counted) s).1 in
    subst (λ (n : ℕ). IsBounded (x.after n)) all stays

reads_bounded : (l : Rules) (es : List (ℕ × Event)) (p q : Place) (bytes rest : List ℕ) → IsBounded p → Reads l p bytes es q rest → IsBounded q
reads_bounded l [] p q bytes rest b r = rw r.0 b
reads_bounded l (e ∷ es) p q bytes rest b r = reads_bounded l es (r.1 r.0) q (drop r.0 bytes) rest (step_bounded l p bytes _ r.0 b r.2) r.3

start_bounded : (gifts : Gifts) → IsBounded (start_with gifts)
start_bounded gifts = (0, record { behind = omega arith; short = omega arith; deep = omega arith; counted = λ some. absurd (omega (arith, some)) })

-- ---- what exceeds no limit

field_short : (l : Rules) (n : Notation) (room : ℕ) (bytes : List ℕ) → room ≤ 268435456 → IsLongField (free l) n room bytes → ⊥
field_short l notation.Text16 room bytes le long = omega (arith, le, long.fits, long.long)
field_short l notation.Text32 room bytes le long = omega (arith, long.0, long.1.long)
field_short l notation.Bytes16 room bytes le long = omega (arith, le, long.fits, long.long)
field_short l notation.Bytes32 room bytes le long = omega (arith, long.0, long.1.long)
field_short l notation.Bound room bytes le long = omega (arith, long.0, long.1.long)
field_short l (notation.Content n) room bytes le long = omega (arith, le, long.0, long.1)
field_short l n room bytes le long = long

option_under : (l : Rules) (d n : ℕ) (why : Reason) → d ≤ 2 ^ 31 → n < 2 ^ 31 → IsOver (free l) d n why → ⊥
option_under l d n TooDeep deep few over = omega (arith, deep, over)
option_under l d n TooMany deep few over = omega (arith, few, over.1)
option_under l d n why deep few over = over

value_short : (l : Rules) (k : Kind) (room : ℕ) (bytes : List ℕ) → IsLongValue (free l) k room bytes → ⊥
value_short l k room bytes long = omega (arith, long.content.0, long.content.1.long)

cell_short : (l : Rules) (offset : ℕ) (cs : List CellSymbol) (bytes : List ℕ) → IsLongInCell (free l) offset cs bytes → ⊥
cell_short l offset [] bytes long = long
cell_short l offset (Value_of k inner level stop ∷ rest) bytes long = value_short l k (stop - offset) bytes long
cell_short l offset (Items_of NoMore level stop taken ∷ rest) bytes long = long
cell_short l offset (Items_of (Type_and k inner others) level stop taken ∷ rest) bytes long = value_short l k (stop - offset) bytes long
cell_short l offset (Close_of level stop taken ∷ rest) bytes long = long
cell_short l offset (Content_from level at total ∷ rest) bytes long = long

module _ (l : Rules) (p : Place) (base : ℕ) (behind : base ≤ p.offset) (short : p.stop ≤ base + 268435456) (bytes : List ℕ) (why : Reason) where
  type_under : (ss : List TypeSymbol) → depth_of ss + base ≤ suc p.offset → length p.nodes + base ≤ p.offset → ExceedsInType (free l) (p.stop - p.offset) (length p.nodes) ss bytes why → ⊥
  type_under [] deep counted over = over
  type_under (Option_at d ∷ rest) deep counted over = option_under l d (length p.nodes) why (omega (arith, deep, over.0.fits)) (omega (arith, counted, over.0.fits)) over.1
  type_under (Text_of f ∷ rest) deep counted over = field_short l notation.Text16 (p.stop - p.offset) bytes (omega arith) over.1
  type_under (Fields_of named d ∷ rest) deep counted over = over
  type_under (Whole i ∷ rest) deep counted over = over

  bounded_under : (ss : List Symbol) → deepest ss + base ≤ suc p.offset → (1 ≤ deepest ss → length p.nodes + base ≤ p.offset) → ExceedsAt (free l) p ss bytes why → ⊥
  bounded_under [] deep counted over = over
  bounded_under (Stream ∷ rest) deep counted over = over
  bounded_under (In f n r ∷ rest) deep counted over = field_short l n (p.stop - p.offset) bytes (omega arith) over.1
  bounded_under (In_type ts ∷ rest) deep counted over = type_under ts (omega (arith, deep)) (counted (omega arith)) over
  bounded_under (Cell_due row column k inner ∷ rest) deep counted over = value_short l k (p.stop - p.offset) bytes over.1
  bounded_under (In_cell row column cs ∷ rest) deep counted over = cell_short l p.offset cs bytes over.1
  bounded_under (Extra ∷ rest) deep counted over = over

-- Read freely, no place is reached where a limit is exceeded.
pub never_exceeds : (l : Rules) (gifts : Gifts) (bytes : List ℕ) (es : List (ℕ × Event)) (p : Place) (rest : List ℕ) (why : Reason) → Reads (free l) (start_with gifts) bytes es p rest → Exceeds (free l) p rest why → ⊥
never_exceeds l gifts bytes es p rest why read over =
    let b = reads_bounded (free l) es (start_with gifts) p bytes rest (start_bounded gifts) read in
    bounded_under l p b.0 b.1.behind b.1.short rest why p.symbols b.1.deep b.1.counted over
