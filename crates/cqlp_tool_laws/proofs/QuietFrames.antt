-- Frames that are no pages, of which nothing is written.
use Rattle.std.proofs.Common.{◌≡◌, ℕ, ◌+◌, ◌==◌, Bool, true, false, if◌then◌else◌, List, [], ◌∷◌, ◌++◌, map, Option, ℤ, pos, negsuc, refl, ap, ◌∙◌, subst, arith}
use Rattle.std.specs.List.{flat_map}
use Rattle.std.proofs.lemmas.Bool.Decides.{nat_tests}
use Rattle.cqlp_note.specs.declared.field.Field.{Field}
use Rattle.cqlp_note.specs.declared.field.Field.TheVariants as field
use Rattle.cqlp_note.specs.Field.{FieldValue, BoundValue}
use Rattle.cqlp_note.specs.Field as value
use Rattle.cqlp_note.specs.Limits.{Rules}
use Rattle.cqlp_kind.specs.Types.{NoMore, Type_and}
use Rattle.cqlp_kind.specs.TypeStep.{TypeEvent, IsNode, IsField}
use Rattle.cqlp_kind.specs.CellStep.{CellEvent, Leave}
use Rattle.cqlp_type.specs.Trees.{Trees, NoTree, Tree_and, Head, Plain as PlainHead, Custom, ListOf, SetOf, MapOf, TupleOf, UdtOf, trees_in, kind_in, has_names, head_items, name_items, trees_items, placed, item_size}
use Rattle.cqlp_value.specs.Values.{values_items}
use Rattle.cqlp_grammar.specs.Events.{Event, Frame, Holds, Node_of, Cell_at, End, type_event, cell_event}
use Rattle.cqlp_grammar.specs.Events as reading
use Rattle.cqlp_message.specs.FrameValues.{Octets, TableName, Spec, Metadata, Page, PreparedStatement, QueryParams, BatchEntry, Text, Id, ErrorExtra, Plain, Unavailable, WriteTimeout, ReadTimeout, ReadFailure, FunctionFailure, WriteFailure, AlreadyExists, Unprepared, SchemaOptions, Keyspace, Named, Callable, UnknownTarget, ServerEvent, Node, Schema, UnknownEvent, Message, Startup, Options, Query, Prepare, Execute, Batch, Register, AuthResponse, Error, Ready, Authenticate, Supported, Void, SetKeyspace, Rows, Prepared, Change, UnknownResult, AuthChallenge, AuthSuccess, FrameValue}
use Rattle.cqlp_message.specs.FrameValues as message_of
use Rattle.cqlp_message.specs.Parts.{Part, Field_is, Type_is, Cell_is, part_events, parts_events, part_size}
use Rattle.cqlp_message.specs.Bodies.{byte, short, text, bytes, bound, texts, value_parts, params_parts, entry_parts, extra_parts, table_parts, spec_parts, metadata_parts, prepared_parts, options_parts, event_parts, message_parts}
use Rattle.cqlp_message.specs.Agreement.{bits, is_no_result, message_agrees}
use Rattle.cqlp_message.specs.Frames.{announced_parts}
use Rattle.cqlp_text.specs.PageText.{PagePlace, no_page, is_rows, field_part, event_part, page_part, place_after_field, place_after, page_text}
use Rattle.cqlp_tool_laws.proofs.Shapes.{Each, each_join, each_some, each_all}

-- ---- the items of types

-- a page begins with the kind of its result
abbrev pub opens_page : Event → Bool
opens_page (Holds field.ResultKind (value.Int z)) = is_rows z
opens_page e = false

-- an item that a page's text does not depend on
abbrev pub IsSilent : TypeEvent → Type 0
IsSilent (IsNode k) = Unit {0}
IsSilent (IsField f v) = (opens_page (Holds f v) ≡ false) × ((p : PagePlace) → (field_part p f v ≡ []) × (place_after_field p f v ≡ p))

abbrev pub AreSilent : List TypeEvent → Type 0
AreSilent [] = Unit {0}
AreSilent (e ∷ es) = IsSilent e × AreSilent es

silent_join : (es fs : List TypeEvent) → AreSilent es → AreSilent fs → AreSilent (es ++ fs)
silent_join [] fs a b = b
silent_join (e ∷ es) fs a b = (a.0, silent_join es fs a.1 b)

silent_name : (named : Bool) (name : List ℕ) → AreSilent (name_items named name)
silent_name true name = ((refl, λ p. (refl, refl)), tt)
silent_name false name = tt

silent_head : (h : Head) (n : ℕ) → AreSilent (head_items h n)
silent_head (PlainHead k) n = tt
silent_head (Custom class) n = ((refl, λ p. (refl, refl)), tt)
silent_head ListOf n = tt
silent_head SetOf n = tt
silent_head MapOf n = tt
silent_head TupleOf n = ((refl, λ p. (refl, refl)), tt)
silent_head (UdtOf keyspace name) n = ((refl, λ p. (refl, refl)), ((refl, λ p. (refl, refl)), ((refl, λ p. (refl, refl)), tt)))

pub silent_trees : (named : Bool) (t : Trees) → AreSilent (trees_items named t)
silent_trees named NoTree = tt
silent_trees named (Tree_and name h inner others) =
    silent_join (name_items named name) (IsNode (kind_in h) ∷ (head_items h (trees_in inner) ++ (trees_items (has_names h) inner ++ trees_items named others))) (silent_name named name) (
      tt,
      silent_join (head_items h (trees_in inner)) (trees_items (has_names h) inner ++ trees_items named others) (silent_head h (trees_in inner))
          (silent_join (trees_items (has_names h) inner) (trees_items named others) (silent_trees (has_names h) inner) (silent_trees named others)),
    )

-- ---- frames that are no pages

-- events none of which begins a page
abbrev pub AreQuiet : List (ℕ × Event) → Type 0
AreQuiet [] = Unit {0}
AreQuiet (e ∷ es) = (opens_page e.1 ≡ false) × AreQuiet es

quiet_join : (es fs : List (ℕ × Event)) → AreQuiet es → AreQuiet fs → AreQuiet (es ++ fs)
quiet_join [] fs a b = b
quiet_join (e ∷ es) fs a b = (a.0, quiet_join es fs a.1 b)

abbrev pub IsQuiet : Part → Type 0
IsQuiet (Field_is f n v) = opens_page (Holds f v) ≡ false
IsQuiet p = Unit {0}

quiet_items : (at : ℕ) (es : List TypeEvent) → AreSilent es → AreQuiet (map (λ e. (e.0, type_event e.1)) (placed at es))
quiet_items at [] a = tt
quiet_items at (IsNode k ∷ es) a = (refl, quiet_items (at + 2) es a.1)
quiet_items at (IsField f v ∷ es) a = (a.0.0, quiet_items (at + item_size (IsField f v)) es a.1)

quiet_item : (row column : ℕ) (e : CellEvent) → opens_page (cell_event row column e) ≡ false
quiet_item row column (Leave level items) = refl
quiet_item row column e = refl

quiet_cell : (row column : ℕ) (es : List (ℕ × CellEvent)) → AreQuiet (map (λ e. (e.0, cell_event row column e.1)) es)
quiet_cell row column [] = tt
quiet_cell row column (e ∷ es) = (quiet_item row column e.1, quiet_cell row column es)

module _ (l : Rules) where
  quiet_part : (at : ℕ) (p : Part) → IsQuiet p → AreQuiet (part_events l at p)
  quiet_part at (Field_is f n v) a = (a, tt)
  quiet_part at (Type_is t) a = quiet_items at (trees_items false t) (silent_trees false t)
  quiet_part at (Cell_is row column k inner v) a = quiet_cell row column (values_items l 0 at (Type_and k inner NoMore) v)

  pub quiet_parts : (at : ℕ) (ps : List Part) → Each IsQuiet ps → AreQuiet (parts_events l at ps)
  quiet_parts at [] a = tt
  quiet_parts at (p ∷ ps) a = quiet_join (part_events l at p) (parts_events l (at + part_size p) ps) (quiet_part at p a.0) (quiet_parts (at + part_size p) ps a.1)

off_field : (p : PagePlace) (f : Field) (v : FieldValue) → p.is_page ≡ false → opens_page (Holds f v) ≡ false → (place_after_field p f v).is_page ≡ false
off_field p field.ResultKind (value.Int z) off quiet =
    let begun : PagePlace = record no_page { is_page = true } in
    ap (λ (b : Bool). (if b then begun else p).is_page) quiet ∙ off
off_field p field.Columns (value.Count n) off quiet = off
off_field p f v off quiet = off

off_after : (p : PagePlace) (e : Event) → p.is_page ≡ false → opens_page e ≡ false → (place_after p e).is_page ≡ false
off_after p (Holds f v) off quiet = off_field p f v off quiet
off_after p (Cell_at row column e) off quiet = off
off_after p (reading.Leave level items) off quiet = off
off_after p (End x) off quiet = refl
off_after p (Frame h) off quiet = off
off_after p (Node_of k) off quiet = off

pub off_part : (p : PagePlace) (e : Event) → p.is_page ≡ false → page_part p e ≡ []
off_part p e off = ap (λ (b : Bool). if b then event_part p e else []) off

-- the place after events, where no page began
pub record Passes (p : PagePlace) (es : List (ℕ × Event)) : Type 0 where
  pub to : PagePlace
  pub off : to.is_page ≡ false
  pub text : (more : List (ℕ × Event)) → page_text p (es ++ more) ≡ page_text to more

pub passes : (p : PagePlace) (es : List (ℕ × Event)) → p.is_page ≡ false → AreQuiet es → Passes p es
passes p [] off quiet = record { to = p; off = off; text = λ more. refl }
passes p (e ∷ es) off quiet =
    let rest = passes (place_after p e.1) es (off_after p e.1 off quiet.0) quiet.1 in record {
      to = rest.to;
      off = rest.off;
      text = λ more. ap (λ t. t ++ page_text (place_after p e.1) (es ++ more)) (off_part p e.1 off) ∙ rest.text more;
    }

-- ---- parts that begin no page

quiet_name : (f : Field) (t : Octets) → opens_page (Holds f (value.Text t)) ≡ false
quiet_name field.ResultKind t = refl
quiet_name f t = refl

quiet_texts : (f : Field) (ts : List Octets) → Each IsQuiet (flat_map (λ t. text f t ∷ []) ts)
quiet_texts f [] = tt
quiet_texts f (t ∷ ts) = (quiet_name f t, quiet_texts f ts)

quiet_bounds : (vs : List BoundValue) → Each IsQuiet (flat_map (λ v. bound v ∷ []) vs)
quiet_bounds [] = tt
quiet_bounds (v ∷ vs) = (refl, quiet_bounds vs)

quiet_keys : (ks : List ℕ) → Each IsQuiet (flat_map (λ k. short field.KeyIndex k ∷ []) ks)
quiet_keys [] = tt
quiet_keys (k ∷ ks) = (refl, quiet_keys ks)

quiet_options : (os : List (Octets × Octets)) → Each IsQuiet (flat_map (λ o. text field.OptionKey o.0 ∷ text field.OptionValue o.1 ∷ []) os)
quiet_options [] = tt
quiet_options (o ∷ os) = (refl, (refl, quiet_options os))

quiet_lists : (os : List (Octets × List Octets)) → Each IsQuiet (flat_map (λ o. text field.OptionKey o.0 ∷ texts field.OptionValues field.OptionValue o.1) os)
quiet_lists [] = tt
quiet_lists (o ∷ os) = (refl, (refl, each_join IsQuiet (flat_map (λ t. text field.OptionValue t ∷ []) o.1) _ (quiet_texts field.OptionValue o.1) (quiet_lists os)))

quiet_payload : (is : List (Octets × Option Octets)) → Each IsQuiet (flat_map (λ i. text field.PayloadKey i.0 ∷ bytes field.PayloadValue i.1 ∷ []) is)
quiet_payload [] = tt
quiet_payload (i ∷ is) = (refl, (refl, quiet_payload is))

pub quiet_announced : (f : FrameValue) → Each IsQuiet (announced_parts f)
quiet_announced f =
    each_join IsQuiet _ _ (each_join IsQuiet _ _ (each_some IsQuiet _ f.tracing (λ id. (refl, tt))) (each_some IsQuiet _ f.warnings (λ ws. (refl, quiet_texts field.Warning ws))))
    (each_some IsQuiet _ f.payload (λ is. (refl, quiet_payload is)))

quiet_value : (v : Option Octets × BoundValue) → Each IsQuiet (value_parts v)
quiet_value v = each_join IsQuiet _ (bound v.1 ∷ []) (each_some IsQuiet _ v.0 (λ name. (refl, tt))) (refl, tt)

quiet_params : (q : QueryParams) → Each IsQuiet (params_parts q)
quiet_params q = (
  refl,
  (
    refl,
    each_join IsQuiet _ _ (each_join IsQuiet _ _ (each_join IsQuiet _ _ (each_join IsQuiet _ _ (each_some IsQuiet _ q.values (λ vs. (refl, each_all IsQuiet _ vs quiet_value))) (each_some IsQuiet _ q.page_size (λ z. (refl, tt))))
        (each_some IsQuiet _ q.paging (λ s. (refl, tt)))) (each_some IsQuiet _ q.serial (λ n. (refl, tt)))) (each_some IsQuiet _ q.timestamp (λ z. (refl, tt))),
  ),
)

quiet_entry : (e : BatchEntry) → Each IsQuiet (entry_parts e)
quiet_entry (Text text vs) = (refl, (refl, (refl, quiet_bounds vs)))
quiet_entry (Id id vs) = (refl, (refl, (refl, quiet_bounds vs)))

quiet_extra : (e : ErrorExtra) → Each IsQuiet (extra_parts e)
quiet_extra Plain = tt
quiet_extra (Unavailable c r a) = (refl, (refl, (refl, tt)))
quiet_extra (WriteTimeout c r b w) = (refl, (refl, (refl, (refl, tt))))
quiet_extra (ReadTimeout c r b d) = (refl, (refl, (refl, (refl, tt))))
quiet_extra (ReadFailure c r b f d) = (refl, (refl, (refl, (refl, (refl, tt)))))
quiet_extra (FunctionFailure k n ts) = (refl, (refl, (refl, quiet_texts field.Argument ts)))
quiet_extra (WriteFailure c r b f w) = (refl, (refl, (refl, (refl, (refl, tt)))))
quiet_extra (AlreadyExists k t) = (refl, (refl, tt))
quiet_extra (Unprepared i) = (refl, tt)

quiet_table : (o : Option TableName) → Each IsQuiet (table_parts o)
quiet_table o = each_some IsQuiet _ o (λ t. (refl, (refl, tt)))

quiet_spec : (c : Spec) → Each IsQuiet (spec_parts c)
quiet_spec c = each_join IsQuiet (table_parts c.table) _ (quiet_table c.table) (refl, (tt, tt))

quiet_metadata : (m : Metadata) → Each IsQuiet (metadata_parts m)
quiet_metadata m =
    (refl, (refl, each_join IsQuiet _ _ (each_join IsQuiet _ _ (each_some IsQuiet _ m.paging (λ s. (refl, tt))) (quiet_table m.table)) (each_some IsQuiet _ m.specs (λ cs. each_all IsQuiet _ cs quiet_spec))))

quiet_prepared : (p : PreparedStatement) → Each IsQuiet (prepared_parts p)
quiet_prepared p =
    (refl, (refl, (refl, (refl, each_join IsQuiet _ _ (each_join IsQuiet _ _ (quiet_keys p.keys) (each_join IsQuiet (table_parts p.table) _ (quiet_table p.table) (each_all IsQuiet _ p.specs quiet_spec))) (quiet_metadata p.result)))))

quiet_changed : (o : SchemaOptions) → Each IsQuiet (options_parts o)
quiet_changed (Keyspace k) = (refl, tt)
quiet_changed (Named k n) = (refl, (refl, tt))
quiet_changed (Callable k n ts) = (refl, (refl, (refl, quiet_texts field.Argument ts)))
quiet_changed UnknownTarget = tt

quiet_event : (e : ServerEvent) → Each IsQuiet (event_parts e)
quiet_event (Node c a port) = (refl, (refl, tt))
quiet_event (Schema c) = (refl, (refl, quiet_changed c.options))
quiet_event UnknownEvent = tt

-- a page
abbrev pub is_page : Message → Bool
is_page (Rows p) = true
is_page m = false

quiet_number : (n : ℕ) (b : Bool) → (n == 2) ≡ b → is_no_result (bits (pos n)) ≡ true → b ≡ false
quiet_number n false e h = refl
quiet_number n true e h =
    let is : n ≡ 2 = grind (arith, nat_tests) in
    let no : false ≡ true = subst (λ k. is_no_result (bits (pos k)) ≡ true) is h in
    absurd cc

-- 2 is the number of a kind of result that is known
quiet_kind : (kind : ℤ) → is_no_result (bits kind) ≡ true → is_rows kind ≡ false
quiet_kind (pos n) e = quiet_number n (n == 2) refl e
quiet_kind (negsuc n) e = refl

pub quiet_message : (m : Message) → is_page m ≡ false → message_agrees m ≡ true → Each IsQuiet (message_parts m)
quiet_message (Startup os) other e = (refl, quiet_options os)
quiet_message Options other e = tt
quiet_message (Query text q) other e = (refl, quiet_params q)
quiet_message (Prepare text) other e = (refl, tt)
quiet_message (Execute id q) other e = (refl, quiet_params q)
quiet_message (Batch kind entries consistency flags serial timestamp) other e = (
  refl,
  (
    refl,
    each_join IsQuiet _ _ (each_join IsQuiet _ _ (each_join IsQuiet _ (short field.Consistency consistency ∷ byte field.BatchFlags flags ∷ []) (each_all IsQuiet _ entries quiet_entry) (refl, (refl, tt))) (each_some IsQuiet _ serial (λ n. (refl, tt))))
        (each_some IsQuiet _ timestamp (λ z. (refl, tt))),
  ),
)
quiet_message (Register types) other e = (refl, quiet_texts field.EventType types)
quiet_message (AuthResponse token) other e = (refl, tt)
quiet_message (Error code m x) other e = (refl, (refl, quiet_extra x))
quiet_message Ready other e = tt
quiet_message (Authenticate class) other e = (refl, tt)
quiet_message (Supported os) other e = (refl, quiet_lists os)
quiet_message Void other e = (refl, tt)
quiet_message (SetKeyspace k) other e = (refl, (refl, tt))
quiet_message (Rows p) other e = absurd cc
quiet_message (Prepared p) other e = (refl, quiet_prepared p)
quiet_message (Change c) other e = (refl, (refl, (refl, quiet_changed c.options)))
quiet_message (UnknownResult kind) other e = (quiet_kind kind e, tt)
quiet_message (message_of.Event type t) other e = (refl, quiet_event t)
quiet_message (AuthChallenge token) other e = (refl, tt)
quiet_message (AuthSuccess token) other e = (refl, tt)
