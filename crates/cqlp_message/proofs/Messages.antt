-- The parts of every message whose flags agree with them come of the symbols of its opcode, and those of a frame of the
-- symbols of its header.
use Rattle.std.proofs.Common.{◌≡◌, ℕ, ◌+◌, ◌*◌, ◌≤◌, zero, suc, ℤ, Bool, true, false, ◌&&◌, cond, List, [], ◌∷◌, ◌++◌, length, drop, length-drop, Option, Some, None, refl, sym, ap, ◌∙◌, subst, append_assoc, arith, inl, inr}
use Rattle.std.proofs.lemmas.Bool.{ne_eqb, eqb-true}
use Rattle.std.proofs.Math.Nat.{suc-mul}
use Rattle.std.proofs.lemmas.List.{append-nil, length-append}
use Rattle.std.specs.Prelude.{All, ⊤, not}
use Rattle.std.proofs.lemmas.List.Elements.{All-head, All-tail}
use Rattle.std.specs.List.{flat_map}
use Rattle.cqlp_note.specs.declared.field.Field.TheVariants as field
use Rattle.cqlp_note.specs.declared.field.Notation.TheVariants as notation
use Rattle.cqlp_note.specs.Field.{FieldValue, BoundValue}
use Rattle.cqlp_note.specs.Field as note
use Rattle.cqlp_note.specs.Heading.{has, beside_number}
use Rattle.cqlp_note.specs.Limits.{Rules}
use Rattle.cqlp_kind.specs.Types.{Types, NoMore, Type_and, how_many, preorder, followed_by}
use Rattle.cqlp_type.specs.Trees.{Trees, options_in, types_in}
use Rattle.cqlp_type.proofs.Forests.{followed_by_none, many_nodes, many_types}
use Rattle.cqlp_value.specs.Values.{Values}
use Rattle.cqlp_type.proofs.Inside.{preorder-followed}
use Rattle.cqlp_grammar.specs.declared.grammar.Group.TheVariants as group_of
use Rattle.cqlp_grammar.specs.declared.grammar.Role.TheVariants as role
use Rattle.cqlp_message.specs.FrameValues.{Octets, TableName, Spec, Metadata, Page, PreparedStatement, QueryParams, BatchEntry, Text, Id, ErrorExtra, Plain, Unavailable, WriteTimeout, ReadTimeout, ReadFailure, FunctionFailure, WriteFailure, AlreadyExists, Unprepared, SchemaOptions, Keyspace, Named, Callable, UnknownTarget, SchemaChange, ServerEvent, Node, Schema, UnknownEvent, Message, Startup, Options, Query, Prepare, Execute, Batch, Register, AuthResponse, Error, Ready, Authenticate, Supported, Void, SetKeyspace, Rows, Prepared, Change, UnknownResult, Event, AuthChallenge, AuthSuccess, FrameValue}
use Rattle.cqlp_grammar.specs.Productions.{Symbol, In, In_type, Cell_due, Extra, plain, counted, copies, group, where_set, table_name, parameters, body, message, payload, schema_change, results, or_nothing, raw_types, row_from, rows_from}
use Rattle.cqlp_grammar.specs.Productions as productions
use Rattle.cqlp_message.specs.Parts.{Part, Field_is, Type_is}
use Rattle.cqlp_message.specs.Bodies.{where_some, texts, text, bytes, bound, value_parts, serial_parts, timestamp_parts, paging_parts, params_parts, entry_parts, extra_parts, options_parts, change_parts, event_parts, table_parts, spec_parts, specs_parts, metadata_parts, column_types, types_described, cell_types, row_parts, rows_parts, message_parts}
use Rattle.cqlp_message.specs.Bodies as bodies
use Rattle.cqlp_message.specs.Agreement.{bits, opcode_of, is_response, frame_agrees, has_its_cells}
use Rattle.cqlp_message.specs.Frames.{frame_parts, header_of, options_among, options_described, TypesWithin}
use Rattle.cqlp_message.proofs.Agreements.{ParamsAgree, BatchAgrees, ExtraAgrees, OptionsAgree, ChangeAgrees, EventAgrees, IsNoResult, SpecAgrees, SpecsAgree, ColumnsAgree, MetadataAgrees, PreparedAgrees, MessageAgrees, FrameAgrees, of_test}
use Rattle.cqlp_message.proofs.Derives.{IsThereIf, nodes_in, Derives, D, same, trivial, some_of, alone_derives, each_derives, where_derives, option_derives, texts_derive}

five : {X : Type 0} (a b c d e t : List X) → ((((a ++ b) ++ c) ++ d) ++ e) ++ t ≡ a ++ (b ++ (c ++ (d ++ (e ++ t))))
five a b c d e t = simp append_assoc

four : {X : Type 0} (a b c d t : List X) → (((a ++ b) ++ c) ++ d) ++ t ≡ a ++ (b ++ (c ++ (d ++ t)))
four a b c d t = simp append_assoc

three : {X : Type 0} (a b c t : List X) → ((a ++ b) ++ c) ++ t ≡ a ++ (b ++ (c ++ t))
three a b c t = simp append_assoc

abbrev tracing_parts : Option Octets → List Part
tracing_parts o = where_some (λ id. Field_is field.TraceId notation.Uuid (note.Uuid id) ∷ []) o

abbrev warnings_parts : Option (List Octets) → List Part
warnings_parts o = where_some (texts field.Warnings field.Warning) o

abbrev payload_parts : Option (List (Octets × Option Octets)) → List Part
payload_parts o = where_some (bodies.counted field.PayloadItems (λ i. text field.PayloadKey i.0 ∷ bytes field.PayloadValue i.1 ∷ [])) o

no_result : (n : ℕ) → IsNoResult n → or_nothing (beside_number n results) ≡ []
no_result n (inl e) = rw e refl
no_result n (inr h) = rw (ne_eqb n 2 (λ e. omega arith), ne_eqb n 3 (λ e. omega arith), ne_eqb n 4 (λ e. omega arith), ne_eqb n 5 (λ e. omega arith)) refl

-- ---- types

followed_thrice : (ts us vs : Types) → followed_by (followed_by ts us) vs ≡ followed_by ts (followed_by us vs)
followed_thrice NoMore us vs = refl
followed_thrice (Type_and k inner others) us vs = ap (Type_and k inner) (followed_thrice others us vs)

-- a type after others
more_nodes : (ts : Types) (t : Trees) → nodes_in (followed_by ts (types_in t)) ≡ nodes_in ts + options_in t
more_nodes ts t = ap length (preorder-followed ts (types_in t)) ∙ length-append (preorder ts) (preorder (types_in t)) ∙ rw (many_nodes t) refl

pub many_after : (ts us : Types) → how_many (followed_by ts us) ≡ how_many ts + how_many us
many_after NoMore us = omega arith
many_after (Type_and k inner others) us = omega (arith, many_after others us)

many_raw : (n : ℕ) → how_many (raw_types n) ≡ n
many_raw zero = refl
many_raw (suc n) = ap suc (many_raw n)

many_columns : (own : Bool) (cs : List Spec) → All (SpecAgrees own) cs → how_many (column_types cs) ≡ length cs
many_columns own [] all = refl
many_columns own (c ∷ cs) all =
    let one : how_many (types_in c.tree) ≡ 1 = many_types c.tree ∙ (All-head (SpecAgrees own) c cs all).1.0 in
    omega (arith, one, many_after (types_in c.tree) (column_types cs), many_columns own cs (All-tail (SpecAgrees own) c cs all))

-- a page has a type of each column
pub many_described : (flags n : ℕ) (o : Option TableName) (cs : Option (List Spec)) → ColumnsAgree flags n o cs → how_many (types_described n cs) ≡ n
many_described flags n o None a = many_raw n
many_described flags n o (Some cs) a = many_columns (not (has flags 0x01)) cs a.1.each ∙ a.1.number

-- the types that metadata describes
abbrev described_in : Option (List Spec) → Types
described_in None = NoMore
described_in (Some cs) = column_types cs

-- those of a page's cells
of_page : (flags n : ℕ) (o : Option TableName) (cs : Option (List Spec)) → ColumnsAgree flags n o cs → cond (has flags 0x04) (raw_types n) (described_in cs) ≡ types_described n cs
of_page flags n o None a = rw a.0 refl
of_page flags n o (Some cs) a = rw a.0 refl

module _ (l : Rules) where
  -- ---- requests

  value_derives : (named : Bool) (o : Option Octets) (v : BoundValue) (ps : List Part) (rest : List Symbol) → IsThereIf named o → D l ps rest → D l (value_parts (o, v) ++ ps) (group (group_of.QueryValues named) ++ rest)
  value_derives true (Some name) v ps rest is d = alone_derives l field.ValueName notation.Text16 (note.Text name) (bound v ∷ ps) (plain field.Value notation.Bound ∷ rest) (alone_derives l field.Value notation.Bound (note.Bound v) ps rest d)
  value_derives false None v ps rest is d = alone_derives l field.Value notation.Bound (note.Bound v) ps rest d
  value_derives true None v ps rest is d = absurd cc
  value_derives false (Some name) v ps rest is d = absurd cc

  params_derive : (q : QueryParams) (ps : List Part) (rest : List Symbol) → ParamsAgree q → D l ps rest → D l (params_parts q ++ ps) (parameters ++ rest)
  params_derive q ps rest a d described =
      let values : List Symbol = where_set q.flags 0x01 (counted field.Values (group_of.QueryValues (has q.flags 0x40)) ∷ []) in
      let size : List Symbol = where_set q.flags 0x04 (plain field.PageSize notation.Int ∷ []) in
      let state : List Symbol = where_set q.flags 0x08 (plain field.PagingState notation.Bytes32 ∷ []) in
      let serial : List Symbol = where_set q.flags 0x10 (plain field.SerialConsistency notation.Short ∷ []) in
      let timestamp : List Symbol = where_set q.flags 0x20 (plain field.Timestamp notation.Long ∷ []) in
      let named : Option Octets × BoundValue → Type 0 = λ v. IsThereIf (has q.flags 0x40) v.0 in
      let behind : D l (serial_parts q.serial ++ (timestamp_parts q.timestamp ++ ps)) (serial ++ (timestamp ++ rest)) =
      option_derives l field.SerialConsistency notation.Short note.Short q.flags 0x10 q.serial _ _ a.serial
      (option_derives l field.Timestamp notation.Long note.Long q.flags 0x20 q.timestamp _ _ a.timestamp d) in
      let pages : D l (where_some (λ z. bodies.int field.PageSize z ∷ []) q.page_size ++ (paging_parts q.paging ++ (serial_parts q.serial ++ (timestamp_parts q.timestamp ++ ps)))) (size ++ (state ++ (serial ++ (timestamp ++ rest)))) =
      option_derives l field.PageSize notation.Int note.Int q.flags 0x04 q.page_size _ _ a.page_size
      (option_derives l field.PagingState notation.Bytes32 note.Bytes q.flags 0x08 q.paging _ _ a.paging behind) in
      let all = where_derives l (All named) (bodies.counted field.Values value_parts) q.flags 0x01 (counted field.Values (group_of.QueryValues (has q.flags 0x40)) ∷ []) q.values _ _ a.values a.names
      (λ vs names d described. (same, refl, each_derives l named value_parts (group (group_of.QueryValues (has q.flags 0x40))) vs _ _ names (λ v ps rest n d. value_derives (has q.flags 0x40) v.0 v.1 ps rest n d) d described)) pages in (
        same,
        refl,
        (
          same,
          refl,
          rw (five (where_some (bodies.counted field.Values value_parts) q.values) (where_some (λ z. bodies.int field.PageSize z ∷ []) q.page_size) (paging_parts q.paging) (serial_parts q.serial) (timestamp_parts q.timestamp) ps, five values size state serial timestamp rest)
              (all described),
        ),
      )

  bounds_derive : (vs : List BoundValue) (ps : List Part) (rest : List Symbol) → D l ps rest → D l (bodies.counted field.Values (λ v. bound v ∷ []) vs ++ ps) (counted field.Values group_of.BatchValues ∷ rest)
  bounds_derive vs ps rest d described =
      (same, refl, each_derives l (λ v. ⊤) (λ v. bound v ∷ []) (group group_of.BatchValues) vs ps rest (trivial vs) (λ v ps rest p d. alone_derives l field.Value notation.Bound (note.Bound v) ps rest d) d described)

  entry_derives : (e : BatchEntry) (ps : List Part) (rest : List Symbol) → D l ps rest → D l (entry_parts e ++ ps) (group group_of.BatchEntries ++ rest)
  entry_derives (Text t vs) ps rest d described = (same, refl, (same, refl, bounds_derive vs ps rest d described))
  entry_derives (Id i vs) ps rest d described = (same, refl, (same, refl, bounds_derive vs ps rest d described))

  batch_derives : (kind : ℕ) (es : List BatchEntry) (c flags : ℕ) (serial : Option ℕ) (timestamp : Option ℤ) (ps : List Part) (rest : List Symbol) → BatchAgrees flags serial timestamp → D l ps rest
      → D l (message_parts (Batch kind es c flags serial timestamp) ++ ps) (body (opcode_of (Batch kind es c flags serial timestamp)) ++ rest)
  batch_derives kind es c flags serial timestamp ps rest a d described =
      let ends : List Part = serial_parts serial ++ (timestamp_parts timestamp ++ ps) in
      let due : List Symbol = where_set flags 0x10 (plain field.SerialConsistency notation.Short ∷ []) ++ (where_set flags 0x20 (plain field.Timestamp notation.Long ∷ []) ++ rest) in
      let options : D l ends due =
      option_derives l field.SerialConsistency notation.Short note.Short flags 0x10 serial _ _ a.serial_there
      (option_derives l field.Timestamp notation.Long note.Long flags 0x20 timestamp _ _ a.timestamp_there d) in
      let left : List Symbol = plain field.Consistency notation.Short ∷ In field.BatchFlags notation.Byte role.BatchFlags ∷ rest in
      let behind : D l (bodies.short field.Consistency c ∷ bodies.byte field.BatchFlags flags ∷ ends) left = λ described.
      (same, refl, (same, rw a.known refl, rw (append_assoc (where_set flags 0x10 (plain field.SerialConsistency notation.Short ∷ [])) (where_set flags 0x20 (plain field.Timestamp notation.Long ∷ [])) rest) (options described))) in
      let entries : D l (flat_map entry_parts es ++ (bodies.short field.Consistency c ∷ bodies.byte field.BatchFlags flags ∷ ends)) (copies (length es) (group group_of.BatchEntries) ++ left) =
      each_derives l (λ e. ⊤) entry_parts (group group_of.BatchEntries) es _ _ (trivial es) (λ e ps rest p d. entry_derives e ps rest d) behind in (
        same,
        refl,
        (
          same,
          refl,
          rw (four (flat_map entry_parts es) (bodies.short field.Consistency c ∷ bodies.byte field.BatchFlags flags ∷ []) (serial_parts serial) (timestamp_parts timestamp) ps)
              (entries described),
        ),
      )

  startup_derives : (os : List (Octets × Octets)) (ps : List Part) (rest : List Symbol) → D l ps rest → D l (message_parts (Startup os) ++ ps) (body (opcode_of (Startup os)) ++ rest)
  startup_derives os ps rest d described = (
    same,
    refl,
    each_derives l (λ o. ⊤) (λ o. text field.OptionKey o.0 ∷ text field.OptionValue o.1 ∷ []) (group group_of.StringPairs) os ps rest (trivial os)
        (λ o ps rest p d described. (same, refl, (same, refl, d described))) d described,
  )

  -- ---- responses

  supported_derives : (os : List (Octets × List Octets)) (ps : List Part) (rest : List Symbol) → D l ps rest → D l (message_parts (Supported os) ++ ps) (body (opcode_of (Supported os)) ++ rest)
  supported_derives os ps rest d described = (
    same,
    refl,
    each_derives l (λ o. ⊤) (λ o. text field.OptionKey o.0 ∷ texts field.OptionValues field.OptionValue o.1) (group group_of.OptionLists) os ps rest (trivial os)
        (λ o ps rest p d described. (same, refl, texts_derive l field.OptionValues field.OptionValue group_of.OptionValues o.1 ps rest refl d described)) d described,
  )

  arguments_derive : (ts : List Octets) (ps : List Part) (rest : List Symbol) → D l ps rest → D l (texts field.Arguments field.Argument ts ++ ps) (counted field.Arguments group_of.Arguments ∷ rest)
  arguments_derive ts ps rest d = texts_derive l field.Arguments field.Argument group_of.Arguments ts ps rest refl d

  error_derives : (code : ℤ) (m : Octets) (x : ErrorExtra) (ps : List Part) (rest : List Symbol) → ExtraAgrees (bits code) x → D l ps rest → D l (message_parts (Error code m x) ++ ps) (body (opcode_of (Error code m x)) ++ rest)
  error_derives code m Plain ps rest a d described = (same, refl, rw a (same, refl, d described))
  error_derives code m (Unavailable c r v) ps rest a d described = rw a (same, refl, (same, refl, (same, refl, (same, refl, (same, refl, d described)))))
  error_derives code m (WriteTimeout c r b w) ps rest a d described = rw a (same, refl, (same, refl, (same, refl, (same, refl, (same, refl, (same, refl, d described))))))
  error_derives code m (ReadTimeout c r b p) ps rest a d described = rw a (same, refl, (same, refl, (same, refl, (same, refl, (same, refl, (same, refl, d described))))))
  error_derives code m (ReadFailure c r b f p) ps rest a d described = rw a (same, refl, (same, refl, (same, refl, (same, refl, (same, refl, (same, refl, (same, refl, d described)))))))
  error_derives code m (FunctionFailure k n ts) ps rest a d described = rw a (same, refl, (same, refl, (same, refl, (same, refl, arguments_derive ts ps rest d described))))
  error_derives code m (WriteFailure c r b f w) ps rest a d described = rw a (same, refl, (same, refl, (same, refl, (same, refl, (same, refl, (same, refl, (same, refl, d described)))))))
  error_derives code m (AlreadyExists k t) ps rest a d described = rw a (same, refl, (same, refl, (same, refl, (same, refl, d described))))
  error_derives code m (Unprepared i) ps rest a d described = rw a (same, refl, (same, refl, (same, refl, d described)))

  options_derive : (t : Octets) (o : SchemaOptions) (ps : List Part) (rest : List Symbol) → OptionsAgree t o → D l ps rest → D l (text field.Target t ∷ options_parts o ++ ps) (In field.Target notation.Text16 role.ChangeTarget ∷ rest)
  options_derive t (Keyspace k) ps rest a d described = rw a (same, refl, (same, refl, d described))
  options_derive t (Named k n) ps rest (inl a) d described = rw a (same, refl, (same, refl, (same, refl, d described)))
  options_derive t (Named k n) ps rest (inr a) d described = rw a (same, refl, (same, refl, (same, refl, d described)))
  options_derive t (Callable k n ts) ps rest (inl a) d described = rw a (same, refl, (same, refl, (same, refl, arguments_derive ts ps rest d described)))
  options_derive t (Callable k n ts) ps rest (inr a) d described = rw a (same, refl, (same, refl, (same, refl, arguments_derive ts ps rest d described)))
  options_derive t UnknownTarget ps rest a d described = (same, refl, rw a (d described))

  change_derives : (c : SchemaChange) (ps : List Part) (rest : List Symbol) → ChangeAgrees c → D l ps rest → D l (change_parts c ++ ps) (schema_change ++ rest)
  change_derives c ps rest a d described = (same, refl, options_derive c.target c.options ps rest a d described)

  event_derives : (e : Octets) (t : ServerEvent) (ps : List Part) (rest : List Symbol) → EventAgrees e t → D l ps rest → D l (message_parts (Event e t) ++ ps) (body (opcode_of (Event e t)) ++ rest)
  event_derives e (Node c a port) ps rest (inl is) d described = rw is (same, refl, (same, refl, (same, refl, d described)))
  event_derives e (Node c a port) ps rest (inr is) d described = rw is (same, refl, (same, refl, (same, refl, d described)))
  event_derives e (Schema c) ps rest a d described = rw a.0 (same, refl, change_derives c ps rest a.1 d described)
  event_derives e UnknownEvent ps rest a d described = (same, refl, rw a (d described))

  -- ---- metadata

  table_name_derives : (t : TableName) (ps : List Part) (rest : List Symbol) (described : Types) → Derives l ps rest described → Derives l (text field.Keyspace t.0 ∷ text field.Table t.1 ∷ ps) (table_name ++ rest) described
  table_name_derives t ps rest described d = (same, refl, (same, refl, d))

  table_derives : (flags : ℕ) (o : Option TableName) (ps : List Part) (rest : List Symbol) (described : Types) → IsThereIf (has flags 0x01) o → Derives l ps rest described → Derives l (table_parts o ++ ps) (where_set flags 0x01 table_name ++ rest) described
  table_derives flags None ps rest described is d = rw (sym is) d
  table_derives flags (Some t) ps rest described is d = rw (sym is) (table_name_derives t ps rest described d)

  spec_derives : (global : Bool) (o : Option TableName) (name : Octets) (t : Trees) (ps : List Part) (rest : List Symbol) (described : Types) → IsThereIf (not global) o → nodes_in described + options_in t ≤ l.entries → Derives l ps rest (followed_by described (types_in t))
      → Derives l ((table_parts o ++ text field.ColumnName name ∷ Type_is t ∷ []) ++ ps) (group (group_of.Columns global) ++ rest) described
  spec_derives true None name t ps rest described is room d = (same, refl, (refl, room, d))
  spec_derives false (Some table) name t ps rest described is room d = (same, refl, (same, refl, (same, refl, (refl, room, d))))
  spec_derives true (Some table) name t ps rest described is room d = absurd cc
  spec_derives false None name t ps rest described is room d = absurd cc

  columns_derive : (global : Bool) (cs : List Spec) (ps : List Part) (rest : List Symbol) (described : Types) → All (SpecAgrees (not global)) cs → nodes_in described + options_among cs ≤ l.entries → Derives l ps rest (followed_by described (column_types cs))
      → Derives l (flat_map spec_parts cs ++ ps) (copies (length cs) (group (group_of.Columns global)) ++ rest) described
  columns_derive global [] ps rest described all room d = rw (followed_by_none described) at d
  columns_derive global (x ∷ cs) ps rest described all room d =
      let P : Spec → Type 0 = SpecAgrees (not global) in
      let next : Types = followed_by described (types_in x.tree) in
      let later = columns_derive global cs ps rest next (All-tail P x cs all) (omega (arith, more_nodes described x.tree)) (rw (followed_thrice described (types_in x.tree) (column_types cs)) d) in
      rw (append_assoc (spec_parts x) (flat_map spec_parts cs) ps, append_assoc (group (group_of.Columns global)) (copies (length cs) (group (group_of.Columns global))) rest)
      (spec_derives global x.table x.name x.tree (flat_map spec_parts cs ++ ps) (copies (length cs) (group (group_of.Columns global)) ++ rest) described (All-head P x cs all).0 (omega arith) later)

  -- the table of all columns, and the columns
  specs_derive : (flags columns : ℕ) (o : Option TableName) (cs : List Spec) (ps : List Part) (rest : List Symbol) → SpecsAgree flags columns o cs → options_among cs ≤ l.entries → Derives l ps rest (column_types cs)
      → Derives l (table_parts o ++ (flat_map spec_parts cs ++ ps)) (productions.specs flags columns ++ rest) NoMore
  specs_derive flags columns o cs ps rest a room d =
      let each : Derives l (flat_map spec_parts cs ++ ps) (copies columns (group (group_of.Columns (has flags 0x01))) ++ rest) NoMore = rw a.number at (columns_derive (has flags 0x01) cs ps rest NoMore a.each (omega arith) d) in
      rw (append_assoc (where_set flags 0x01 table_name) (copies columns (group (group_of.Columns (has flags 0x01)))) rest) (table_derives flags o _ _ NoMore a.global each)

  described_derive : (flags columns : ℕ) (o : Option TableName) (cs : Option (List Spec)) (ps : List Part) (rest : List Symbol) → ColumnsAgree flags columns o cs → options_described cs ≤ l.entries → Derives l ps rest (described_in cs)
      → Derives l (table_parts o ++ (where_some (flat_map spec_parts) cs ++ ps)) (cond (has flags 0x04) [] (productions.specs flags columns) ++ rest) NoMore
  described_derive flags columns o None ps rest a room d = rw (a.0, a.1) d
  described_derive flags columns o (Some cs) ps rest a room d = rw a.0 (specs_derive flags columns o cs ps rest a.1 room d)

  paging_derives : (flags : ℕ) (o : Option (Option Octets)) (ps : List Part) (rest : List Symbol) (described : Types) → IsThereIf (has flags 0x02) o → Derives l ps rest described
      → Derives l (paging_parts o ++ ps) (where_set flags 0x02 (plain field.PagingState notation.Bytes32 ∷ []) ++ rest) described
  paging_derives flags None ps rest described is d = rw (sym is) d
  paging_derives flags (Some b) ps rest described is d = rw (sym is) (same, refl, d)

  -- what follows the metadata of a page
  abbrev rows_due : (rows : Bool) → Metadata → List Symbol
  rows_due rows m = cond rows (In field.Rows notation.Count32 (role.PageRows (bits m.flags) m.columns) ∷ []) []

  metadata_derives : (rows : Bool) (m : Metadata) (ps : List Part) (rest : List Symbol) (described : Types) → MetadataAgrees m → options_described m.specs ≤ l.entries → Derives l ps (rows_due rows m ++ rest) (described_in m.specs)
      → Derives l (metadata_parts m ++ ps) (In field.MetaFlags notation.Int (role.MetaFlags rows) ∷ rest) described
  metadata_derives rows m ps rest described a room d =
      let flags : ℕ = bits m.flags in
      let state : List Symbol = where_set flags 0x02 (plain field.PagingState notation.Bytes32 ∷ []) in
      let due : List Symbol = cond (has flags 0x04) [] (productions.specs flags m.columns) in
      let all = paging_derives flags m.paging _ _ NoMore a.paging (described_derive flags m.columns m.table m.specs ps (rows_due rows m ++ rest) a.columns room d) in
      (same, refl, (same, refl, rw (three (paging_parts m.paging) (table_parts m.table) (where_some (flat_map spec_parts) m.specs) ps, three state due (rows_due rows m) rest) all))

  -- ---- pages

  row_derives : (row column : ℕ) (types : Types) (cells : List Values) (ps : List Part) (rest : List Symbol) (described : Types) → how_many types ≤ length cells → Derives l ps rest described
      → Derives l (row_parts row column types cells ++ ps) (row_from row column types ++ rest) described
  row_derives row column NoMore cells ps rest described enough d = d
  row_derives row column (Type_and k inner others) [] ps rest described enough d = absurd (omega (arith, enough))
  row_derives row column (Type_and k inner others) (v ∷ cells) ps rest described enough d =
      (record { row_is = refl; column_is = refl; kind_is = refl; inner_is = refl }, row_derives row (column + 1) others cells ps rest described (omega (arith, enough)) d)

  rows_derive : (row : ℕ) (types : Types) (n : ℕ) (cells : List Values) (ps : List Part) (rest : List Symbol) (described : Types) → length cells ≡ n * how_many types → Derives l ps rest described
      → Derives l (rows_parts row types n cells ++ ps) (rows_from row types n ++ rest) described
  rows_derive row types zero cells ps rest described is d = d
  rows_derive row types (suc n) cells ps rest described is d =
      let k : ℕ = how_many types in
      let left : length cells ≡ n * k + k = is ∙ suc-mul n k in
      rw (append_assoc (row_parts row 0 types cells) (rows_parts (row + 1) types n (drop k cells)) ps, append_assoc (row_from row 0 types) (rows_from (row + 1) types n) rest)
      (row_derives row 0 types cells _ _ described (omega (arith, left)) (rows_derive (row + 1) types n (drop k cells) ps rest described (length-drop k cells ∙ omega (arith, left)) d))

  page_derives : (p : Page) (ps : List Part) (rest : List Symbol) (described : Types) → MetadataAgrees p.meta → length p.cells ≡ p.rows * p.meta.columns → options_described p.meta.specs ≤ l.entries → Derives l ps rest (described_in p.meta.specs)
      → Derives l (bodies.page_parts p ++ ps) (In field.MetaFlags notation.Int (role.MetaFlags true) ∷ rest) described
  page_derives p ps rest described a is room d =
      let m : Metadata = p.meta in
      let flags : ℕ = bits m.flags in
      let types : Types = cell_types m in
      let number : how_many types ≡ m.columns = many_described flags m.columns m.table m.specs a.columns in
      let cells : Derives l (rows_parts 0 types p.rows p.cells ++ ps) (rows_from 0 types p.rows ++ rest) (described_in m.specs) = rows_derive 0 types p.rows p.cells ps rest (described_in m.specs) (rw number is) d in
      let counted : Derives l (bodies.count field.Rows p.rows ∷ (rows_parts 0 types p.rows p.cells ++ ps)) (rows_due true m ++ rest) (described_in m.specs) =
      (same, refl, rw (of_page flags m.columns m.table m.specs a.columns) cells) in
      subst (λ (x : List Part). Derives l x (In field.MetaFlags notation.Int (role.MetaFlags true) ∷ rest) described) (sym (append_assoc (metadata_parts m) (bodies.count field.Rows p.rows ∷ rows_parts 0 types p.rows p.cells) ps))
      (metadata_derives true m _ rest described a room counted)

  keys_derive : (ks : List ℕ) (ps : List Part) (rest : List Symbol) (described : Types) → Derives l ps rest described → Derives l (flat_map (λ k. bodies.short field.KeyIndex k ∷ []) ks ++ ps) (copies (length ks) (group group_of.KeyIndexes) ++ rest) described
  keys_derive [] ps rest described d = d
  keys_derive (k ∷ ks) ps rest described d = (same, refl, keys_derive ks ps rest described d)

  prepared_derives : (p : PreparedStatement) (ps : List Part) (rest : List Symbol) → PreparedAgrees p → (options_among p.specs ≤ l.entries) × (options_described p.result.specs ≤ l.entries) → D l ps rest
      → D l (message_parts (Prepared p) ++ ps) (body (opcode_of (Prepared p)) ++ rest)
  prepared_derives p ps rest a room d described =
      let f : ℕ = bits p.flags in
      let last : List Symbol = In field.MetaFlags notation.Int (role.MetaFlags false) ∷ [] in
      let behind = metadata_derives false p.result ps rest (column_types p.specs) a.1 room.1 (d (described_in p.result.specs)) in
      let columns : Derives l (specs_parts p.table p.specs ++ (metadata_parts p.result ++ ps)) (productions.specs f p.columns ++ (last ++ rest)) NoMore =
      rw (append_assoc (table_parts p.table) (flat_map spec_parts p.specs) (metadata_parts p.result ++ ps)) (specs_derive f p.columns p.table p.specs _ _ a.0 room.0 behind) in
      let all = keys_derive p.keys _ _ NoMore columns in
      (same, refl, (same, refl, (same, refl, (same, refl, (same, refl, rw (three (flat_map (λ k. bodies.short field.KeyIndex k ∷ []) p.keys) (specs_parts p.table p.specs) (metadata_parts p.result) ps, three (copies (length p.keys) (group group_of.KeyIndexes)) (productions.specs f p.columns) last rest) all)))))

  -- ---- messages

  pub message_derives : (m : Message) (ps : List Part) (rest : List Symbol) → MessageAgrees m → has_its_cells m ≡ true → TypesWithin l m → D l ps rest → D l (message_parts m ++ ps) (body (opcode_of m) ++ rest)
  message_derives (Startup os) ps rest a h u d = startup_derives os ps rest d
  message_derives Options ps rest a h u d = d
  message_derives (Query t q) ps rest a h u d = λ described. (same, refl, params_derive q ps rest a d described)
  message_derives (Prepare t) ps rest a h u d = λ described. (same, refl, d described)
  message_derives (Execute i q) ps rest a h u d = λ described. (same, refl, params_derive q ps rest a d described)
  message_derives (Batch kind es c flags serial timestamp) ps rest a h u d = batch_derives kind es c flags serial timestamp ps rest a d
  message_derives (Register ts) ps rest a h u d = texts_derive l field.EventTypes field.EventType group_of.EventTypes ts ps rest refl d
  message_derives (AuthResponse t) ps rest a h u d = λ described. (same, refl, d described)
  message_derives (Error code t x) ps rest a h u d = error_derives code t x ps rest a d
  message_derives Ready ps rest a h u d = d
  message_derives (Authenticate c) ps rest a h u d = λ described. (same, refl, d described)
  message_derives (Supported os) ps rest a h u d = supported_derives os ps rest d
  message_derives Void ps rest a h u d = λ described. (same, refl, d described)
  message_derives (SetKeyspace k) ps rest a h u d = λ described. (same, refl, (same, refl, d described))
  message_derives (Rows p) ps rest a h u d = λ described. (same, refl, page_derives p ps rest described a (eqb-true _ _ h) u (d (described_in p.meta.specs)))
  message_derives (Prepared p) ps rest a h u d = prepared_derives p ps rest a u d
  message_derives (Change c) ps rest a h u d = λ described. (same, refl, change_derives c ps rest a d described)
  message_derives (UnknownResult kind) ps rest a h u d = λ described. (same, refl, rw (no_result (bits kind) a) (d described))
  message_derives (Event e t) ps rest a h u d = event_derives e t ps rest a d
  message_derives (AuthChallenge t) ps rest a h u d = λ described. (same, refl, d described)
  message_derives (AuthSuccess t) ps rest a h u d = λ described. (same, refl, d described)

  -- ---- frames

  payload_derives : (flags : ℕ) (o : Option (List (Octets × Option Octets))) (ps : List Part) (rest : List Symbol) → IsThereIf (has flags 0x04) o → D l ps rest → D l (payload_parts o ++ ps) (where_set flags 0x04 payload ++ rest)
  payload_derives flags o ps rest is d = where_derives l (λ is. ⊤) _ flags 0x04 payload o ps rest is (some_of l o)
      (λ is p d described. (
        same,
        refl,
        each_derives l (λ i. ⊤) (λ i. text field.PayloadKey i.0 ∷ bytes field.PayloadValue i.1 ∷ []) (group group_of.PayloadItems) is ps rest (trivial is)
            (λ i ps rest p d described. (same, refl, (same, refl, d described))) d described,
      )) d

  no_parts : {A : Type 0} (h : A → List Part) (o : Option A) → IsThereIf false o → where_some h o ≡ []
  no_parts h None is = refl
  no_parts h (Some a) is = absurd cc

  -- what comes before the message of a request, or of a response, but for the payload
  before_derives : (response : Bool) (flags : ℕ) (t : Option Octets) (ws : Option (List Octets)) (ps : List Part) (rest : List Symbol) → IsThereIf (response && has flags 0x02) t → IsThereIf (response && has flags 0x08) ws → D l ps rest
      → D l (tracing_parts t ++ (warnings_parts ws ++ ps)) (cond response (where_set flags 0x02 (plain field.TraceId notation.Uuid ∷ []) ++ where_set flags 0x08 (counted field.Warnings group_of.Warnings ∷ [])) [] ++ rest)
  before_derives false flags t ws ps rest tracing warnings d = rw (no_parts _ t tracing, no_parts _ ws warnings) d
  before_derives true flags t ws ps rest tracing warnings d =
      let all : D l (tracing_parts t ++ (warnings_parts ws ++ ps)) (where_set flags 0x02 (plain field.TraceId notation.Uuid ∷ []) ++ (where_set flags 0x08 (counted field.Warnings group_of.Warnings ∷ []) ++ rest)) =
      option_derives l field.TraceId notation.Uuid note.Uuid flags 0x02 t _ _ tracing
      (where_derives l (λ ws. ⊤) (texts field.Warnings field.Warning) flags 0x08 (counted field.Warnings group_of.Warnings ∷ []) ws ps rest warnings (some_of l ws)
      (λ ws p d. texts_derive l field.Warnings field.Warning group_of.Warnings ws ps rest refl d) d) in
      rw (append_assoc (where_set flags 0x02 (plain field.TraceId notation.Uuid ∷ [])) (where_set flags 0x08 (counted field.Warnings group_of.Warnings ∷ [])) rest) all

  -- The parts of a frame come of the symbols of its header, whatever types were described before.
  pub frame_derives : (f : FrameValue) (n : ℕ) → frame_agrees f ≡ true → has_its_cells f.message ≡ true → TypesWithin l f.message → D l (frame_parts f) (message (header_of f n))
  frame_derives f n agrees cells u =
      let a : FrameAgrees f = of_test f agrees in
      let end : List Symbol = Extra ∷ [] in
      let ends : D l [] end = λ described. refl in
      let inner : D l (message_parts f.message) (body (opcode_of f.message) ++ end) = rw (append-nil (message_parts f.message)) at (message_derives f.message [] end a.message cells u ends) in
      let front : List Symbol = cond (is_response f.message) (where_set f.flags 0x02 (plain field.TraceId notation.Uuid ∷ []) ++ where_set f.flags 0x08 (counted field.Warnings group_of.Warnings ∷ [])) [] in
      let pay : List Symbol = where_set f.flags 0x04 payload in
      let all : D l (tracing_parts f.tracing ++ (warnings_parts f.warnings ++ (payload_parts f.payload ++ message_parts f.message))) (front ++ (pay ++ (body (opcode_of f.message) ++ end))) =
      before_derives (is_response f.message) f.flags f.tracing f.warnings _ _ a.tracing a.warnings (payload_derives f.flags f.payload _ _ a.payload inner) in
      let parts : frame_parts f ≡ tracing_parts f.tracing ++ (warnings_parts f.warnings ++ (payload_parts f.payload ++ message_parts f.message)) = simp append_assoc in
      let symbols : message (header_of f n) ≡ front ++ (pay ++ (body (opcode_of f.message) ++ end)) = simp append_assoc in
      rw (parts, symbols) all
