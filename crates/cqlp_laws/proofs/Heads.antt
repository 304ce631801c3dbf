-- The content of an event is the last bytes of its step, and begins after its length. How many bytes a length has is
-- known of each field that a stream can reach.
use Rattle.std.proofs.Common.{◌≡◌, ℕ, zero, suc, ◌+◌, ◌-◌, ◌^◌, ◌≤◌, Bool, true, false, ◌||◌, ◌&&◌, ltb, leb, eqb, cond, bytes_eq, List, [], ◌∷◌, ◌++◌, length, take, drop, Option, Some, None, Ok, Err, refl, sym, ap, ◌∙◌, subst, append_assoc, arith}
use Rattle.std.specs.Int.{Width, w8, w16, w32, w64, from_be_bytes}
use Rattle.std.specs.Str.{is_utf8}
use Rattle.std.proofs.lemmas.Bool.{leb-true}
use Rattle.std.proofs.lemmas.List.{length-append, length-take-le, take-append-drop, append-nil}
use Rattle.cqlp_note.specs.declared.field.Field.{Field}
use Rattle.cqlp_note.specs.declared.field.Field.TheVariants as field
use Rattle.cqlp_note.specs.declared.field.Notation.{Notation}
use Rattle.cqlp_note.specs.declared.field.Notation.TheVariants as notation
use Rattle.cqlp_note.specs.declared.header.Header.{Header}
use Rattle.cqlp_note.specs.declared.opcode.Opcode.{Opcode}
use Rattle.cqlp_note.specs.declared.opcode.Opcode.TheVariants as opcode
use Rattle.cqlp_note.specs.declared.refusal.Reason.{Reason}
use Rattle.cqlp_note.specs.declared.refusal.Reason.TheVariants.{Overrun}
use Rattle.cqlp_note.specs.Reader.{number_of}
use Rattle.cqlp_note.specs.Field.{FieldValue, FieldReader, text_of, field_of, content_of, is_negative}
use Rattle.cqlp_note.specs.Heading.{Heading, heading, has, beside_number}
use Rattle.cqlp_note.specs.Limits.{Rules, limit_of}
use Rattle.cqlp_note.specs.Step.{Emitted}
use Rattle.cqlp_note.proofs.Readers.{Always}
use Rattle.cqlp_note.proofs.Fields.{either_always}
use Rattle.cqlp_kind.specs.declared.kind.Kind.{Kind}
use Rattle.cqlp_kind.specs.declared.kind.Kind.TheVariants as kind
use Rattle.cqlp_kind.specs.declared.node.Node.{Node}
use Rattle.cqlp_kind.specs.Types.{Types, NoMore, Type_and, kinds}
use Rattle.cqlp_kind.specs.TypeStep.{TypeSymbol, Option_at, Text_of, Fields_of, Whole, TypeEvent, TypePlace, begun_node, parameters_of, inner_symbols, symbol_copies, with_span, with_arity, count_in, fields_settled, kind_or_lenient, option_step, type_step_at, type_step}
use Rattle.cqlp_kind.specs.TypeStep as types
use Rattle.cqlp_cell.proofs.Contents.{kind_taken}
use Rattle.cqlp_kind.specs.Scalars.{ScalarValue, only_if, allows_size, scalar_of, size_or_lenient, scalar_or_lenient}
use Rattle.cqlp_kind.specs.CellStep.{CellSymbol, Value_of, Items_of, Close_of, Content_from, CellEvent, CellPlace, is_opaque, leaf_step, close_step, counted_step, part_step, scalar_step, content_step, value_step, cell_step_at, cell_step, lenient_excess}
use Rattle.cqlp_grammar.specs.declared.grammar.Group.{Group}
use Rattle.cqlp_grammar.specs.declared.grammar.Group.TheVariants as group_of
use Rattle.cqlp_grammar.specs.declared.grammar.Role.{Role}
use Rattle.cqlp_grammar.specs.declared.grammar.Role.TheVariants as role
use Rattle.cqlp_grammar.specs.Productions.{Symbol, Stream, In, In_type, Cell_due, In_cell, Extra, plain, counted, copies, where_set, group, body, announced, message, query_parts, errors, results, by_text, targets, events, specs, table_name, row_from, rows_from, or_nothing, number_in, text_in, following, fault_in}
use Rattle.cqlp_decode.specs.Reading.{Event, Holds, Place, Gifts, start_with, settled, types_for, type_event, cell_event, types_left, cells_left, place_of_types, place_of_cells, header_step, page_step, step_at, step, Reads}
use Rattle.cqlp_decode.specs.Reading as stream
use Rattle.cqlp_decode.proofs.Always.{after_always, map_always, yields_always}
use Rattle.cqlp_laws.specs.Contents.{EndsWhatIsRead, before_bytes, before_content, before_scalar, before_text, content_in, scalar_content}
use Rattle.cqlp_laws.proofs.EventCounts.{always_then}
use Rattle.cqlp_laws.proofs.RunsBack.{runs_split, taken}
use Rattle.cqlp_laws.proofs.Offsets.{offset_is}

-- ---- how fields are written

abbrev gap : ℕ → ℕ → ℕ
gap m n = (m - n) + (n - m)

-- A field is written with as many bytes of length as are known of it: 0 where it is so.
abbrev field_odd : Field → Notation → ℕ
field_odd f notation.Text16 = gap (before_text f) 2
field_odd f notation.Text32 = gap (before_text f) 4
field_odd f notation.Bytes16 = gap (before_bytes f) 2
field_odd f notation.Bytes32 = gap (before_bytes f) 4
field_odd f (notation.Content n) = 1
field_odd f n = 0

abbrev type_odd : List TypeSymbol → ℕ
type_odd [] = 0
type_odd (Text_of f ∷ rest) = gap (before_text f) 2 + type_odd rest
type_odd (s ∷ rest) = type_odd rest

abbrev symbol_odd : Symbol → ℕ
symbol_odd (In f n r) = field_odd f n
symbol_odd (In_type ts) = type_odd ts
symbol_odd s = 0

abbrev odd : List Symbol → ℕ
odd [] = 0
odd (s ∷ rest) = symbol_odd s + odd rest

odd-append : (xs ys : List Symbol) → odd (xs ++ ys) ≡ odd xs + odd ys
odd-append [] ys = omega arith
odd-append (x ∷ xs) ys = omega (arith, odd-append xs ys)

-- ---- productions

abbrev IsFair : List Symbol → Type 0
IsFair ss = odd ss ≡ 0

both_fair : (xs ys : List Symbol) → IsFair xs → IsFair ys → IsFair (xs ++ ys)
both_fair xs ys a b = omega (arith, odd-append xs ys, a, b)

either_fair : (t : Bool) (xs ys : List Symbol) → IsFair xs → IsFair ys → IsFair (cond t xs ys)
either_fair true xs ys a b = a
either_fair false xs ys a b = b

where_fair : (flags bit : ℕ) (ss : List Symbol) → IsFair ss → IsFair (where_set flags bit ss)
where_fair flags bit ss fair = either_fair (has flags bit) ss [] fair refl

copies_fair : (n : ℕ) (ss : List Symbol) → IsFair ss → IsFair (copies n ss)
copies_fair zero ss fair = refl
copies_fair (suc n) ss fair = both_fair ss (copies n ss) fair (copies_fair n ss fair)

abbrev AllFair : List (ℕ × List Symbol) → Type 0
AllFair [] = Unit {0}
AllFair (entry ∷ table) = IsFair entry.1 × AllFair table

entry_fair : (n : ℕ) (entry : ℕ × List Symbol) (table : List (ℕ × List Symbol)) (t : Bool) → AllFair (entry ∷ table) → IsFair (or_nothing (beside_number n table)) → IsFair (or_nothing (cond t (Some entry.1) (beside_number n table)))
entry_fair n entry table true fair later = fair.0
entry_fair n entry table false fair later = later

table_fair : (n : ℕ) (table : List (ℕ × List Symbol)) → AllFair table → IsFair (or_nothing (beside_number n table))
table_fair n [] fair = refl
table_fair n (entry ∷ table) fair = entry_fair n entry table (eqb n entry.0) fair (table_fair n table fair.1)

abbrev AllTextsFair : List (List ℕ × List Symbol) → Type 0
AllTextsFair [] = Unit {0}
AllTextsFair (entry ∷ table) = IsFair entry.1 × AllTextsFair table

texts_fair : (text : List ℕ) (table : List (List ℕ × List Symbol)) → AllTextsFair table → IsFair (by_text text table)
texts_fair text [] fair = refl
texts_fair text (entry ∷ table) fair = either_fair (bytes_eq text entry.0) entry.1 (by_text text table) fair.0 (texts_fair text table fair.1)

group_fair : (g : Group) → IsFair (group g)
group_fair group_of.Warnings = refl
group_fair group_of.PayloadItems = refl
group_fair group_of.StringPairs = refl
group_fair group_of.OptionLists = refl
group_fair group_of.OptionValues = refl
group_fair group_of.EventTypes = refl
group_fair (group_of.QueryValues true) = refl
group_fair (group_of.QueryValues false) = refl
group_fair group_of.BatchValues = refl
group_fair group_of.BatchEntries = refl
group_fair group_of.Arguments = refl
group_fair group_of.KeyIndexes = refl
group_fair (group_of.Columns true) = refl
group_fair (group_of.Columns false) = refl

body_fair : (o : Opcode) → IsFair (body o)
body_fair opcode.Error = refl
body_fair opcode.Startup = refl
body_fair opcode.Ready = refl
body_fair opcode.Authenticate = refl
body_fair opcode.Options = refl
body_fair opcode.Supported = refl
body_fair opcode.Query = refl
body_fair opcode.Result = refl
body_fair opcode.Prepare = refl
body_fair opcode.Execute = refl
body_fair opcode.Register = refl
body_fair opcode.Event = refl
body_fair opcode.Batch = refl
body_fair opcode.AuthChallenge = refl
body_fair opcode.AuthResponse = refl
body_fair opcode.AuthSuccess = refl

announced_fair : (h : Header) → IsFair (announced h)
announced_fair h =
    both_fair _ _
    (either_fair h.response _ [] (both_fair _ _ (where_fair h.flags 0x02 _ refl) (where_fair h.flags 0x08 _ refl)) refl)
    (where_fair h.flags 0x04 _ refl)

message_fair : (h : Header) → IsFair (message h)
message_fair h = both_fair (announced h ++ body h.opcode) (Extra ∷ []) (both_fair (announced h) (body h.opcode) (announced_fair h) (body_fair h.opcode)) refl

specs_fair : (flags columns : ℕ) → IsFair (specs flags columns)
specs_fair flags columns = both_fair _ _ (where_fair flags 0x01 table_name refl) (copies_fair columns _ (group_fair (group_of.Columns (has flags 0x01))))

row_fair : (row column : ℕ) (ts : Types) → IsFair (row_from row column ts)
row_fair row column NoMore = refl
row_fair row column (Type_and k inner others) = omega (arith, row_fair row (column + 1) others)

rows_fair : (row : ℕ) (ts : Types) (n : ℕ) → IsFair (rows_from row ts n)
rows_fair row ts zero = refl
rows_fair row ts (suc n) = both_fair _ _ (row_fair row 0 ts) (rows_fair (row + 1) ts n)

query_fair : (flags : ℕ) → IsFair (query_parts flags)
query_fair flags =
    both_fair _ _ (both_fair _ _ (both_fair _ _ (both_fair _ _
    (where_fair flags 0x01 (counted field.Values (group_of.QueryValues (has flags 0x40)) ∷ []) refl)
    (where_fair flags 0x04 (plain field.PageSize notation.Int ∷ []) refl))
    (where_fair flags 0x08 (plain field.PagingState notation.Bytes32 ∷ []) refl))
    (where_fair flags 0x10 (plain field.SerialConsistency notation.Short ∷ []) refl))
    (where_fair flags 0x20 (plain field.Timestamp notation.Long ∷ []) refl)

following_fair : (ts : Types) (r : Role) (v : FieldValue) → IsFair (following ts r v)
following_fair ts role.Alone v = refl
following_fair ts (role.Counts g) v = copies_fair (number_in v) (group g) (group_fair g)
following_fair ts role.QueryFlags v = query_fair (number_in v)
following_fair ts role.EntryKind v = both_fair _ _ (either_fair (eqb (number_in v) 0) _ _ refl refl) refl
following_fair ts role.BatchFlags v = both_fair _ _ (where_fair (number_in v) 0x10 _ refl) (where_fair (number_in v) 0x20 _ refl)
following_fair ts role.ErrorCode v = omega (arith, table_fair (number_in v) errors (refl, (refl, (refl, (refl, (refl, (refl, (refl, (refl, tt)))))))))
following_fair ts role.ResultKind v = table_fair (number_in v) results (refl, (refl, (refl, (refl, tt))))
following_fair ts role.ChangeTarget v = texts_fair (text_in v) targets (refl, (refl, (refl, (refl, (refl, tt)))))
following_fair ts role.EventType v = texts_fair (text_in v) events (refl, (refl, (refl, tt)))
following_fair ts (role.MetaFlags rows) v = refl
following_fair ts (role.MetaColumns rows flags) v =
    both_fair _ _ (both_fair _ _ (where_fair flags 0x02 _ refl) (either_fair (has flags 0x04) [] _ refl (specs_fair flags (number_in v))))
    (either_fair rows (In field.Rows notation.Count32 (role.PageRows flags (number_in v)) ∷ []) [] refl refl)
following_fair ts role.PreparedFlags v = refl
following_fair ts (role.PreparedColumns flags) v = refl
following_fair ts (role.PreparedKeys flags columns) v =
    both_fair _ _ (both_fair _ _ (copies_fair (number_in v) _ refl) (specs_fair flags columns)) refl
following_fair ts (role.PageRows flags columns) v = rows_fair 0 ts (number_in v)

-- ---- where a content lies in its step

-- The last of these bytes are the content, if there is one. Those before it get as far as `from` says.
abbrev Lies : Option (List ℕ) → (from offset : ℕ) → List ℕ → Type 0
Lies None from offset b = Unit {0}
Lies (Some content) from offset b = (before : List ℕ) × (b ≡ before ++ content) × (from ≡ offset + length before)

lies_on : (o : Option (List ℕ)) (at head : ℕ) (b : List ℕ) → Lies o head 0 b → Lies o (at + head) at b
lies_on None at head b h = tt
lies_on (Some content) at head b h = (h.0, h.1, omega (arith, h.2))

-- ---- fields

module _ (limit room : ℕ) (f : Field) where
  abbrev Behind : FieldValue → List ℕ → Type 0
  Behind v b = Lies (content_in (Holds f v)) (before_content (Holds f v)) 0 b

  content_behind : (k n : ℕ) (front : List ℕ) (r : List ℕ → FieldReader) → ((c : List ℕ) → Always Behind (r c) (front ++ c)) → Always Behind (content_of k n limit room r) front
  unfolding content_of
  content_behind k n front r p = either_always Behind front (ltb room (k + n)) _ _ (λ _. tt) (λ _. either_always Behind front (ltb limit n) _ _ (λ _. tt) (λ _ c long. p c))

  number_behind : (n : ℕ) (w : Width) (r : ℕ → FieldReader) → ((m : ℕ) (c : List ℕ) → length c ≡ n → Always Behind (r m) c) → Always Behind (number_of Overrun n w room r) []
  unfolding number_of
  number_behind n w r p = either_always Behind [] (ltb room n) _ _ (λ _. tt) (λ _ c long. p (from_be_bytes w c) c long)

  text_behind : (front c : List ℕ) → before_text f ≡ length front → Always Behind (text_of c) (front ++ c)
  text_behind front c is = either_always Behind (front ++ c) (is_utf8 c) _ _ (λ _. (front, refl, omega (arith, is))) (λ _. tt)

  field_behind : (n : Notation) → field_odd f n ≡ 0 → Always Behind (field_of n limit room) []
  unfolding field_of
  field_behind notation.Byte fair = number_behind 1 w8 _ (λ m c _. tt)
  field_behind notation.Short fair = number_behind 2 w16 _ (λ m c _. tt)
  field_behind notation.Int fair = number_behind 4 w32 _ (λ m c _. tt)
  field_behind notation.Long fair = number_behind 8 w64 _ (λ m c _. tt)
  field_behind notation.Uuid fair = either_always Behind [] (ltb room 16) _ _ (λ _. tt) (λ _ c long. tt)
  field_behind notation.Count16 fair = number_behind 2 w16 _ (λ m c _. tt)
  field_behind notation.Count32 fair = number_behind 4 w32 _ (λ m c _. either_always Behind c (is_negative m) _ _ (λ _. tt) (λ _. tt))
  field_behind notation.Text16 fair = number_behind 2 w16 _ (λ m front two. content_behind 2 m front _ (λ c. text_behind front c (omega (arith, fair, two))))
  field_behind notation.Text32 fair = number_behind 4 w32 _ (λ m front four. either_always Behind front (is_negative m) _ _ (λ _. tt) (λ _. content_behind 4 m front _ (λ c. text_behind front c (omega (arith, fair, four)))))
  field_behind notation.Bytes16 fair = number_behind 2 w16 _ (λ m front two. content_behind 2 m front _ (λ c. (front, refl, omega (arith, fair, two))))
  field_behind notation.Bytes32 fair = number_behind 4 w32 _ (λ m front four. either_always Behind front (is_negative m) _ _ (λ _. tt) (λ _. content_behind 4 m front _ (λ c. (front, refl, omega (arith, fair, four)))))
  field_behind notation.Bound fair = number_behind 4 w32 _ (λ m front four.
      either_always Behind front (eqb m 0xFFFFFFFF) _ _ (λ _. tt) (λ _.
      either_always Behind front (eqb m 0xFFFFFFFE) _ _ (λ _. tt) (λ _.
      either_always Behind front (is_negative m) _ _ (λ _. tt) (λ _. content_behind 4 m front _ (λ c. (front, refl, omega (arith, four)))))))
  field_behind notation.Inet fair = number_behind 1 w8 _ (λ m c _.
      either_always Behind c (eqb m 4 || eqb m 16) _ _ (λ _.
      either_always Behind c (ltb room (m + 5)) _ _ (λ _. tt) (λ _ a la b lb. tt)) (λ _. tt))
  field_behind (notation.Content n) fair = absurd (omega (arith, fair))

-- ---- type options

type_odd-append : (xs ys : List TypeSymbol) → type_odd (xs ++ ys) ≡ type_odd xs + type_odd ys
type_odd-append [] ys = omega arith
type_odd-append (Option_at d ∷ xs) ys = type_odd-append xs ys
type_odd-append (Text_of f ∷ xs) ys = omega (arith, type_odd-append xs ys)
type_odd-append (Fields_of named d ∷ xs) ys = type_odd-append xs ys
type_odd-append (Whole i ∷ xs) ys = type_odd-append xs ys

settled_odd : (ss : List TypeSymbol) (ns : List Node) → type_odd (types.settled ss ns).0 ≡ type_odd ss
settled_odd [] ns = refl
settled_odd (Option_at d ∷ ss) ns = refl
settled_odd (Text_of f ∷ ss) ns = refl
settled_odd (Fields_of named d ∷ ss) ns = refl
settled_odd (Whole i ∷ ss) ns = settled_odd ss (with_span i ns)

parameters_odd : (k : Kind) (d : ℕ) → type_odd (parameters_of k d) ≡ 0
parameters_odd kind.Custom d = refl
parameters_odd kind.List d = refl
parameters_odd kind.Set d = refl
parameters_odd kind.Map d = refl
parameters_odd kind.Udt d = refl
parameters_odd kind.Tuple d = refl
parameters_odd k d = refl

inner_odd : (named : Bool) (d : ℕ) → type_odd (inner_symbols named d) ≡ 0
inner_odd true d = refl
inner_odd false d = refl

symbols_odd : (n : ℕ) (ss : List TypeSymbol) → type_odd ss ≡ 0 → type_odd (symbol_copies n ss) ≡ 0
symbols_odd zero ss fair = refl
symbols_odd (suc n) ss fair = omega (arith, type_odd-append ss (symbol_copies n ss), fair, symbols_odd n ss fair)

module _ (l : Rules) (p : TypePlace) where
  abbrev Typed : Emitted TypeEvent TypePlace → List ℕ → Type 0
  Typed x b = (type_odd (x.after (length b)).symbols ≡ 0) × Lies (content_in (type_event x.event)) (x.at + before_content (type_event x.event)) p.offset b

  option_typed : (d : ℕ) (rest : List TypeSymbol) (o : Option Kind) (b : List ℕ) → type_odd rest ≡ 0 → Always Typed (option_step l d rest p o) b
  option_typed d rest None b fair = tt
  option_typed d rest (Some k) b fair = either_always Typed b (ltb l.depth d) _ _ (λ _. tt) (λ _. either_always Typed b (leb l.entries (length p.nodes)) _ _ (λ _. tt) (λ _. (
    settled_odd (parameters_of k d ++ Whole (length p.nodes) ∷ rest) (p.nodes ++ begun_node k ∷ []) ∙ omega (arith, type_odd-append (parameters_of k d) (Whole (length p.nodes) ∷ rest), parameters_odd k d, fair),
    tt,
  )))

  type_typed : (ss : List TypeSymbol) → type_odd ss ≡ 0 → Always Typed (type_step_at l p ss) []
  unfolding number_of
  type_typed [] fair = tt
  type_typed (Option_at d ∷ rest) fair = either_always Typed [] (ltb (p.stop - p.offset) 2) _ _ (λ _. tt) (λ _ c long. option_typed d rest (kind_or_lenient (beside_number (from_be_bytes w16 c) kinds) l.lenient) c fair)
  type_typed (Text_of f ∷ rest) fair =
      after_always (Behind l.text (p.stop - p.offset) f) Typed p.offset (field_of notation.Text16 l.text (p.stop - p.offset)) _ [] (field_behind l.text (p.stop - p.offset) f notation.Text16 (omega (arith, fair)))
      (λ v b h. (settled_odd rest p.nodes ∙ omega (arith, fair), lies_on (content_in (Holds f v)) p.offset (before_content (Holds f v)) b h))
  type_typed (Fields_of named d ∷ rest) fair =
      after_always (Behind 0 (p.stop - p.offset) field.Fields) Typed p.offset (field_of notation.Count16 0 (p.stop - p.offset)) _ [] (field_behind 0 (p.stop - p.offset) field.Fields notation.Count16 refl)
      (λ v b h. (
        settled_odd (symbol_copies (count_in v) (inner_symbols named d) ++ rest) (with_arity (count_in v) p.nodes)
            ∙ omega (arith, type_odd-append (symbol_copies (count_in v) (inner_symbols named d)) rest, symbols_odd (count_in v) (inner_symbols named d) (inner_odd named d), fair),
        lies_on (content_in (Holds field.Fields v)) p.offset (before_content (Holds field.Fields v)) b h,
      ))
  type_typed (Whole i ∷ rest) fair = tt

-- ---- cells

-- where the content of a scalar lies in the bytes of its value
abbrev ScalarLies : ScalarValue → List ℕ → Type 0
ScalarLies v d = Lies (scalar_content v) (before_scalar v) 4 d

known : (d : List ℕ) (w v : ScalarValue) → ScalarLies w d → Some w ≡ Some v → ScalarLies v d
known d w v h e = let same : w ≡ v = cc in subst (λ (z : ScalarValue). ScalarLies z d) same h

allowed : (b : Bool) (d : List ℕ) (w v : ScalarValue) → ScalarLies w d → only_if b w ≡ Some v → ScalarLies v d
allowed true d w v h e = known d w v h e
allowed false d w v h e = absurd cc

whole : (d : List ℕ) → Lies (Some d) 4 4 d
whole d = ([], refl, omega arith)

scalar_lies : (k : Kind) (d : List ℕ) (v : ScalarValue) → allows_size k (length d) ≡ true → scalar_of k d ≡ Some v → ScalarLies v d
unfolding scalar_of
scalar_lies kind.Custom d v a e = known d _ v (whole d) e
scalar_lies kind.Ascii d v a e = allowed _ d _ v (whole d) e
scalar_lies kind.Bigint d v a e = known d _ v tt e
scalar_lies kind.Blob d v a e = known d _ v (whole d) e
scalar_lies kind.Boolean d v a e = known d _ v tt e
scalar_lies kind.Counter d v a e = known d _ v tt e
scalar_lies kind.Decimal d v a e =
    let some : 5 ≤ length d = leb-true 5 (length d) a in
    known d _ v (take 4 d, sym (take-append-drop 4 d), omega (arith, length-take-le 4 d (omega (arith, some)))) e
scalar_lies kind.Double d v a e = known d _ v tt e
scalar_lies kind.Float d v a e = known d _ v tt e
scalar_lies kind.Int d v a e = known d _ v tt e
scalar_lies kind.Timestamp d v a e = known d _ v tt e
scalar_lies kind.Uuid d v a e = known d _ v tt e
scalar_lies kind.Varchar d v a e = allowed _ d _ v (whole d) e
scalar_lies kind.Varint d v a e = known d _ v (whole d) e
scalar_lies kind.Timeuuid d v a e = allowed _ d _ v tt e
scalar_lies kind.Inet d v a e = known d _ v tt e
scalar_lies kind.Date d v a e = known d _ v tt e
scalar_lies kind.Time d v a e = allowed _ d _ v tt e
scalar_lies kind.Smallint d v a e = known d _ v tt e
scalar_lies kind.Tinyint d v a e = known d _ v tt e
scalar_lies kind.Raw d v a e = known d _ v (whole d) e
scalar_lies kind.List d v a e = absurd cc
scalar_lies kind.Map d v a e = absurd cc
scalar_lies kind.Set d v a e = absurd cc
scalar_lies kind.Udt d v a e = absurd cc
scalar_lies kind.Tuple d v a e = absurd cc

-- with the bytes of the length in front
lies_behind : (o : Option (List ℕ)) (at from : ℕ) (front d : List ℕ) → length front ≡ 4 → Lies o from 4 d → Lies o (at + from) at (front ++ d)
lies_behind None at from front d four h = tt
lies_behind (Some content) at from front d four h = (front ++ h.0, ap (λ (z : List ℕ). front ++ z) h.1 ∙ sym (append_assoc front h.0 content), omega (arith, h.2, four, length-append front h.0))

module _ (l : Rules) (row column : ℕ) (p : CellPlace) where
  abbrev Ends : Emitted CellEvent CellPlace → List ℕ → Type 0
  Ends x b = Lies (content_in (cell_event row column x.event)) (x.at + before_content (cell_event row column x.event)) p.offset b

  module _ (rest : List CellSymbol) where
    leaf_ends : (level : ℕ) (k : Kind) (front d : List ℕ) (o : Option ScalarValue) → size_or_lenient l.lenient k (length d) ≡ true → scalar_or_lenient l.lenient k d ≡ o → length front ≡ 4 → Always Ends (leaf_step p rest level k o) (front ++ d)
    leaf_ends level k front d None a e four = tt
    leaf_ends level k front d (Some v) a e four = let h = kind_taken l.lenient k d v a e in lies_behind (scalar_content v) p.offset (before_scalar v) front d four (scalar_lies h.0 d v h.1 h.2)

    part_ends : (level k offset total : ℕ) (b : List ℕ) → length b ≡ k → Always Ends (part_step l p rest level k offset total) b
    part_ends level k offset total b is = λ c long. (b, refl, omega (arith, is))

    close_ends : (level stop taken : ℕ) (b : List ℕ) → Always Ends (close_step p rest level stop taken) b
    close_ends level stop taken b = either_always Ends b (ltb p.offset stop) _ _ (λ _. tt) (λ _. tt)

    scalar_ends : (level : ℕ) (k : Kind) (n : ℕ) (b : List ℕ) → length b ≡ 4 → Always Ends (scalar_step l p rest level k n) b
    scalar_ends level k n b four = either_always Ends b (size_or_lenient l.lenient k n) _ _ (λ fits.
        either_always Ends b (l.parts && is_opaque k && ltb l.part n) _ _ (λ _. part_ends level 4 0 n b four) (λ _.
        either_always Ends b (ltb l.cell n) _ _ (λ _. tt) (λ t d long. leaf_ends level k b d (scalar_or_lenient l.lenient k d) (rw long fits) refl four))) (λ _. tt)

    counted_ends : (level : ℕ) (k : Kind) (inner : Types) (n : ℕ) (b : List ℕ) → Always Ends (counted_step p rest level k inner n) b
    unfolding number_of
    counted_ends level k inner n b = either_always Ends b (ltb n 4) _ _ (λ _. tt) (λ _ d size.
        either_always Ends (b ++ d) (is_negative (from_be_bytes w32 d)) _ _ (λ _. tt) (λ _. tt))

    content_ends : (level : ℕ) (k : Kind) (inner : Types) (n : ℕ) (b : List ℕ) → length b ≡ 4 → Always Ends (content_step l p rest level k inner n) b
    content_ends level kind.List inner n b four = counted_ends level kind.List inner n b
    content_ends level kind.Set inner n b four = counted_ends level kind.Set inner n b
    content_ends level kind.Map inner n b four = counted_ends level kind.Map inner n b
    content_ends level kind.Udt inner n b four = tt
    content_ends level kind.Tuple inner n b four = tt
    content_ends level k inner n b four = scalar_ends level k n b four

    value_ends : (k : Kind) (inner : Types) (level room : ℕ) → Always Ends (value_step l p rest k inner level room) []
    unfolding number_of
    value_ends k inner level room = either_always Ends [] (ltb room 4) _ _ (λ _. tt) (λ _ c size.
        either_always Ends c (is_negative (from_be_bytes w32 c)) _ _ (λ _. tt) (λ _.
        either_always Ends c (eqb (from_be_bytes w32 c) 0) _ _ (λ _. tt) (λ _.
        either_always Ends c (ltb room (4 + from_be_bytes w32 c)) _ _ (λ _. tt) (λ _. content_ends level k inner (from_be_bytes w32 c) c size))))

  cell_ends : (ss : List CellSymbol) → Always Ends (cell_step_at l p ss) []
  cell_ends [] = tt
  cell_ends (Value_of k inner level stop ∷ rest) = value_ends rest k inner level (stop - p.offset)
  cell_ends (Items_of NoMore level stop taken ∷ rest) =
      either_always Ends [] (lenient_excess l (stop - p.offset)) _ _ (λ _. part_ends (Items_of NoMore level stop taken ∷ rest) (level + 1) 0 0 (stop - p.offset) [] refl) (λ _. close_ends rest level stop taken [])
  cell_ends (Items_of (Type_and k inner others) level stop taken ∷ rest) =
      either_always Ends [] (leb stop p.offset) _ _ (λ _. close_ends rest level stop taken []) (λ _. value_ends (Items_of others level stop (taken + 1) ∷ rest) k inner (level + 1) (stop - p.offset))
  cell_ends (Close_of level stop taken ∷ rest) = close_ends rest level stop taken []
  cell_ends (Content_from level offset total ∷ rest) = part_ends rest level 0 offset total [] refl

-- ---- steps

types_fair : (ts : List TypeSymbol) (rest : List Symbol) → type_odd ts ≡ 0 → IsFair rest → IsFair (types_left ts ++ rest)
types_fair [] rest own fair = fair
types_fair (t ∷ ts) rest own fair = omega (arith, own, fair)

cells_fair : (row column : ℕ) (cs : List CellSymbol) (rest : List Symbol) → IsFair rest → IsFair (cells_left row column cs ++ rest)
cells_fair row column [] rest fair = fair
cells_fair row column (c ∷ cs) rest fair = omega (arith, fair)

module _ (l : Rules) (p : Place) where
  abbrev Steps : Emitted Event Place → List ℕ → Type 0
  Steps x b = IsFair (x.after (length b)).symbols × Lies (content_in x.event) (x.at + before_content x.event) p.offset b

  header_steps : (h : Heading) (b : List ℕ) → Always Steps (header_step p h) b
  header_steps (Err e) b = tt
  header_steps (Ok h) b = (message_fair h, tt)

  value_steps : (f : Field) (r : Role) (rest : List Symbol) (v : FieldValue) (o : Option Reason) (b : List ℕ) → IsFair rest → Lies (content_in (Holds f v)) (before_content (Holds f v)) 0 b → Always Steps (stream.value_step l.types p f r rest v o) b
  value_steps f r rest v (Some why) b fair h = tt
  value_steps f r rest v None b fair h = (
    both_fair (following (types_for l.types r p.nodes p.given) r v) rest (following_fair (types_for l.types r p.nodes p.given) r v) fair,
    lies_on (content_in (Holds f v)) p.offset (before_content (Holds f v)) b h,
  )

  page_steps : (row column : ℕ) (cs : List CellSymbol) (rest : List Symbol) → IsFair rest → Always Steps (page_step l p row column cs rest) []
  page_steps row column cs rest fair =
      let q : CellPlace = record { offset = p.offset; symbols = cs } in
      let r = cell_step l q in
      map_always (cell_event row column) (place_of_cells row column p rest) Steps r []
      (always_then (Ends l row column q) _ r [] (λ x b h. (cells_fair row column (x.after (length b)).symbols rest fair, h)) (cell_ends l row column q cs))

  step_steps : (ss : List Symbol) → IsFair ss → Always Steps (step_at l p ss) []
  step_steps [] fair = tt
  step_steps (Stream ∷ rest) fair = either_always Steps [] (ltb (2 ^ 63) p.offset) _ _ (λ _. tt) (λ _ c long. header_steps (heading c) c)
  step_steps (In f n r ∷ rest) fair =
      let room = p.stop - p.offset in
      after_always (Behind (limit_of l n) room f) Steps p.offset (field_of n (limit_of l n) room) _ [] (field_behind (limit_of l n) room f n (omega (arith, fair))) (λ v b h. value_steps f r rest v (fault_in r v) b (omega (arith, fair)) h)
  step_steps (In_type ts ∷ rest) fair =
      let q : TypePlace = record { offset = p.offset; stop = p.stop; symbols = ts; nodes = p.nodes } in
      let r = type_step l q in
      map_always type_event (place_of_types p rest) Steps r []
      (always_then (Typed l q) _ r [] (λ x b h. (types_fair (x.after (length b)).symbols rest h.0 (omega (arith, fair)), h.1)) (type_typed l q ts (omega (arith, fair))))
  step_steps (Cell_due row column k inner ∷ rest) fair = page_steps row column (Value_of k inner 0 p.stop ∷ []) rest (omega (arith, fair))
  step_steps (In_cell row column cs ∷ rest) fair = page_steps row column cs rest (omega (arith, fair))
  step_steps (Extra ∷ rest) fair = λ c long. (refl, tt)

-- ---- runs

reads_fair : (l : Rules) (es : List (ℕ × Event)) (p q : Place) (b left : List ℕ) → IsFair p.symbols → Reads l p b es q left → IsFair q.symbols
reads_fair l [] p q b left fair r = subst (λ (z : Place). IsFair z.symbols) (sym r.0) fair
reads_fair l (e ∷ es) p q b left fair r =
    let x : Emitted Event Place = record { at = e.0; event = e.1; after = r.1 } in
    let t = taken (step l p) x r.0 b r.2 in
    let next : IsFair (r.1 r.0).symbols = rw t.long at (yields_always (Steps l (settled p)) (step l p) x [] t.front (step_steps l (settled p) p.symbols fair) t.yields).0 in
    reads_fair l es (r.1 r.0) q (drop r.0 b) left next r.3

-- what is left ends the bytes
reads_left : (l : Rules) (es : List (ℕ × Event)) (p q : Place) (b left : List ℕ) → Reads l p b es q left → (front : List ℕ) × (b ≡ front ++ left)
reads_left l [] p q b left r = ([], sym r.1)
reads_left l (e ∷ es) p q b left r =
    let x : Emitted Event Place = record { at = e.0; event = e.1; after = r.1 } in
    let t = taken (step l p) x r.0 b r.2 in
    let later = reads_left l es (r.1 r.0) q (drop r.0 b) left r.3 in
    (t.front ++ later.0, t.whole ∙ ap (λ (z : List ℕ). t.front ++ z) (sym t.left ∙ later.1) ∙ sym (append_assoc t.front later.0 left))

pub ends_what_is_read : EndsWhatIsRead
ends_what_is_read l gifts s es at e p content read is =
    let c = runs_split (step l) (start_with gifts) p s [] es ((at, e) ∷ []) read in
    let x : Emitted Event Place = record { at = at; event = e; after = c.3.1 } in
    let t = taken (step l c.0) x c.3.0 c.1 c.3.2 in
    let none : t.back ≡ [] = sym t.left ∙ sym c.3.3.1 in
    let all : c.1 ≡ t.front = t.whole ∙ ap (λ (z : List ℕ). t.front ++ z) none ∙ append-nil t.front in
    let fair : IsFair c.0.symbols = reads_fair l es (start_with gifts) c.0 s c.1 refl c.2 in
    let h = (yields_always (Steps l (settled c.0)) (step l c.0) x [] t.front (step_steps l (settled c.0) c.0.symbols fair) t.yields).1 in
    let there : Lies (Some content) (at + before_content e) c.0.offset t.front = subst (λ (o : Option (List ℕ)). Lies o (at + before_content e) c.0.offset t.front) is h in
    let pre = reads_left l es (start_with gifts) c.0 s c.1 c.2 in
    let at_mid = offset_is l gifts es c.0 s c.1 c.2 in (
      pre.0 ++ there.0,
      pre.1 ∙ ap (λ (z : List ℕ). pre.0 ++ z) (all ∙ there.1) ∙ sym (append_assoc pre.0 there.0 content),
      omega (arith, length-append pre.0 there.0, there.2, at_mid, ap length pre.1, length-append pre.0 c.1),
    )
