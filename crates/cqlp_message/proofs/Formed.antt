-- Each type in a frame that agrees is one type.
use Rattle.std.proofs.Common.{◌≡◌, ℕ, zero, suc, ◌+◌, ◌&&◌, Bool, true, List, [], ◌∷◌, ◌++◌, length, drop, Option, Some, None}
use Rattle.std.specs.Prelude.{◌==◌, not}
use Rattle.std.specs.List.{flat_map, list_all}
use Rattle.cqlp_note.specs.Field.{BoundValue}
use Rattle.cqlp_note.specs.Heading.{has}
use Rattle.cqlp_note.specs.declared.field.Field.{Field}
use Rattle.cqlp_note.specs.declared.field.Field.TheVariants as field
use Rattle.cqlp_kind.specs.Types.{Types, NoMore, Type_and, how_many}
use Rattle.cqlp_type.specs.Trees.{is_tree}
use Rattle.cqlp_value.specs.Values.{Values}
use Rattle.cqlp_message.specs.FrameValues.{Octets, TableName, Spec, Metadata, Page, PreparedStatement, QueryParams, BatchEntry, Text, Id, ErrorExtra, Plain, Unavailable, WriteTimeout, ReadTimeout, ReadFailure, FunctionFailure, WriteFailure, AlreadyExists, Unprepared, SchemaOptions, Keyspace, Named, Callable, UnknownTarget, ServerEvent, Node, Schema, UnknownEvent, Message, Startup, Options, Query, Prepare, Execute, Batch, Register, AuthResponse, Error, Ready, Authenticate, Supported, Void, SetKeyspace, Rows, Prepared, Change, UnknownResult, Event, AuthChallenge, AuthSuccess, FrameValue}
use Rattle.cqlp_message.specs.Parts.{Part}
use Rattle.cqlp_message.specs.Bodies.{byte, short, text, bytes, bound, where_some, texts, value_parts, params_parts, entry_parts, extra_parts, table_parts, spec_parts, metadata_parts, cell_types, row_parts, rows_parts, page_parts, prepared_parts, options_parts, event_parts, message_parts}
use Rattle.cqlp_message.specs.Frames.{frame_parts, announced_parts}
use Rattle.cqlp_message.specs.Agreement.{there_if, bits, spec_agrees, specs_agree, columns_agree, metadata_agrees, message_agrees, is_response, frame_agrees}
use Rattle.cqlp_type.proofs.WrittenTrees.{both}
use Rattle.cqlp_message.proofs.PartsWritten.{AreFormed}

append : (ps qs : List Part) → AreFormed ps → AreFormed qs → AreFormed (ps ++ qs)
append [] qs a b = b
append (p ∷ ps) qs a b = (a.0, append ps qs a.1 b)

some : {A : Type 0} (h : A → List Part) (o : Option A) → ((a : A) → AreFormed (h a)) → AreFormed (where_some h o)
some h None each = tt
some h (Some a) each = each a

all : {A : Type 0} (h : A → List Part) (xs : List A) → ((a : A) → AreFormed (h a)) → AreFormed (flat_map h xs)
all h [] each = tt
all h (x ∷ xs) each = append (h x) (flat_map h xs) (each x) (all h xs each)

strings : (f : Field) (ts : List Octets) → AreFormed (flat_map (λ t. text f t ∷ []) ts)
strings f [] = tt
strings f (t ∷ ts) = (tt, strings f ts)

bounds : (vs : List BoundValue) → AreFormed (flat_map (λ v. bound v ∷ []) vs)
bounds [] = tt
bounds (v ∷ vs) = (tt, bounds vs)

keys_of : (ks : List ℕ) → AreFormed (flat_map (λ k. short field.KeyIndex k ∷ []) ks)
keys_of [] = tt
keys_of (k ∷ ks) = (tt, keys_of ks)

pairs : (os : List (Octets × Octets)) → AreFormed (flat_map (λ o. text field.OptionKey o.0 ∷ text field.OptionValue o.1 ∷ []) os)
pairs [] = tt
pairs (o ∷ os) = (tt, (tt, pairs os))

lists : (os : List (Octets × List Octets)) → AreFormed (flat_map (λ o. text field.OptionKey o.0 ∷ texts field.OptionValues field.OptionValue o.1) os)
lists [] = tt
lists (o ∷ os) = (tt, (tt, append (flat_map (λ t. text field.OptionValue t ∷ []) o.1) _ (strings field.OptionValue o.1) (lists os)))

payload : (is : List (Octets × Option Octets)) → AreFormed (flat_map (λ i. text field.PayloadKey i.0 ∷ bytes field.PayloadValue i.1 ∷ []) is)
payload [] = tt
payload (i ∷ is) = (tt, (tt, payload is))

-- ---- requests

value : (v : Option Octets × BoundValue) → AreFormed (value_parts v)
value v = append _ (bound v.1 ∷ []) (some _ v.0 (λ name. (tt, tt))) (tt, tt)

params : (q : QueryParams) → AreFormed (params_parts q)
params q = (
  tt,
  (
    tt,
    append _ _ (append _ _ (append _ _ (append _ _ (some _ q.values (λ vs. (tt, all _ vs value))) (some _ q.page_size (λ z. (tt, tt))))
        (some _ q.paging (λ s. (tt, tt)))) (some _ q.serial (λ n. (tt, tt)))) (some _ q.timestamp (λ z. (tt, tt))),
  ),
)

entry : (e : BatchEntry) → AreFormed (entry_parts e)
entry (Text text vs) = (tt, (tt, (tt, bounds vs)))
entry (Id id vs) = (tt, (tt, (tt, bounds vs)))

-- ---- responses

extra : (e : ErrorExtra) → AreFormed (extra_parts e)
extra Plain = tt
extra (Unavailable c r a) = (tt, (tt, (tt, tt)))
extra (WriteTimeout c r b w) = (tt, (tt, (tt, (tt, tt))))
extra (ReadTimeout c r b d) = (tt, (tt, (tt, (tt, tt))))
extra (ReadFailure c r b f d) = (tt, (tt, (tt, (tt, (tt, tt)))))
extra (FunctionFailure k n ts) = (tt, (tt, (tt, strings field.Argument ts)))
extra (WriteFailure c r b f w) = (tt, (tt, (tt, (tt, (tt, tt)))))
extra (AlreadyExists k t) = (tt, (tt, tt))
extra (Unprepared i) = (tt, tt)

table : (o : Option TableName) → AreFormed (table_parts o)
table o = some _ o (λ t. (tt, (tt, tt)))

columns : (own : Bool) (specs : List Spec) → list_all (spec_agrees own) specs ≡ true → AreFormed (flat_map spec_parts specs)
columns own [] e = tt
columns own (c ∷ specs) e =
    let b = both (spec_agrees own c) (list_all (spec_agrees own) specs) e in
    let d = both (there_if own c.table) (is_tree c.tree) b.0 in
    append (spec_parts c) (flat_map spec_parts specs) (append (table_parts c.table) _ (table c.table) (tt, (d.1, tt))) (columns own specs b.1)

specs_of : (flags n : ℕ) (t : Option TableName) (specs : List Spec) → specs_agree flags n t specs ≡ true → AreFormed (flat_map spec_parts specs)
specs_of flags n t specs e =
    columns (not (has flags 0x01)) specs (both ((length specs == n) && there_if (has flags 0x01) t) (list_all (spec_agrees (not (has flags 0x01))) specs) e).1

described : (flags n : ℕ) (t : Option TableName) (specs : Option (List Spec)) → columns_agree flags n t specs ≡ true → AreFormed (where_some (flat_map spec_parts) specs)
described flags n t None e = tt
described flags n t (Some specs) e = specs_of flags n t specs (both (not (has flags 0x04)) (specs_agree flags n t specs) e).1

metadata : (m : Metadata) → metadata_agrees m ≡ true → AreFormed (metadata_parts m)
metadata m e =
    let c = (both (there_if (has (bits m.flags) 0x02) m.paging) (columns_agree (bits m.flags) m.columns m.table m.specs) e).1 in
    (tt, (tt, append _ _ (append _ _ (some _ m.paging (λ s. (tt, tt))) (table m.table)) (described (bits m.flags) m.columns m.table m.specs c)))

row : (r c : ℕ) (ts : Types) (cells : List Values) → AreFormed (row_parts r c ts cells)
row r c NoMore cells = tt
row r c (Type_and k inner others) [] = tt
row r c (Type_and k inner others) (v ∷ cells) = (tt, row r (c + 1) others cells)

rows : (r : ℕ) (ts : Types) (n : ℕ) (cells : List Values) → AreFormed (rows_parts r ts n cells)
rows r ts zero cells = tt
rows r ts (suc n) cells = append (row_parts r 0 ts cells) _ (row r 0 ts cells) (rows (r + 1) ts n (drop (how_many ts) cells))

page : (p : Page) → metadata_agrees p.meta ≡ true → AreFormed (page_parts p)
page p e = append (metadata_parts p.meta) _ (metadata p.meta e) (tt, rows 0 (cell_types p.meta) p.rows p.cells)

prepared : (p : PreparedStatement) → (specs_agree (bits p.flags) p.columns p.table p.specs && metadata_agrees p.result) ≡ true → AreFormed (prepared_parts p)
prepared p e =
    let b = both (specs_agree (bits p.flags) p.columns p.table p.specs) (metadata_agrees p.result) e in (
      tt,
      (
        tt,
        (
          tt,
          (
            tt,
            append _ _ (append _ _ (keys_of p.keys) (append (table_parts p.table) _ (table p.table) (specs_of (bits p.flags) p.columns p.table p.specs b.0)))
                (metadata p.result b.1),
          ),
        ),
      ),
    )

options : (o : SchemaOptions) → AreFormed (options_parts o)
options (Keyspace k) = (tt, tt)
options (Named k n) = (tt, (tt, tt))
options (Callable k n ts) = (tt, (tt, (tt, strings field.Argument ts)))
options UnknownTarget = tt

event : (e : ServerEvent) → AreFormed (event_parts e)
event (Node c a port) = (tt, (tt, tt))
event (Schema c) = (tt, (tt, options c.options))
event UnknownEvent = tt

-- ---- messages and frames

message : (m : Message) → message_agrees m ≡ true → AreFormed (message_parts m)
message (Startup os) e = (tt, pairs os)
message Options e = tt
message (Query text q) e = (tt, params q)
message (Prepare text) e = (tt, tt)
message (Execute id q) e = (tt, params q)
message (Batch kind entries consistency flags serial timestamp) e = (
  tt,
  (
    tt,
    append _ _ (append _ _ (append _ (short field.Consistency consistency ∷ byte field.BatchFlags flags ∷ []) (all _ entries entry) (tt, (tt, tt))) (some _ serial (λ n. (tt, tt))))
        (some _ timestamp (λ z. (tt, tt))),
  ),
)
message (Register types) e = (tt, strings field.EventType types)
message (AuthResponse token) e = (tt, tt)
message (Error code m x) e = (tt, (tt, extra x))
message Ready e = tt
message (Authenticate class) e = (tt, tt)
message (Supported os) e = (tt, lists os)
message Void e = (tt, tt)
message (SetKeyspace k) e = (tt, (tt, tt))
message (Rows p) e = (tt, page p e)
message (Prepared p) e = (tt, prepared p e)
message (Change c) e = (tt, (tt, (tt, options c.options)))
message (UnknownResult kind) e = (tt, tt)
message (Event type t) e = (tt, event t)
message (AuthChallenge token) e = (tt, tt)
message (AuthSuccess token) e = (tt, tt)

announced : (f : FrameValue) → AreFormed (announced_parts f)
announced f =
    append _ _ (append _ _ (some _ f.tracing (λ id. (tt, tt))) (some _ f.warnings (λ ws. (tt, strings field.Warning ws))))
    (some _ f.payload (λ is. (tt, payload is)))

-- the message of a frame that agrees agrees
pub message_of : (f : FrameValue) → frame_agrees f ≡ true → message_agrees f.message ≡ true
message_of f e =
    (both (not (has f.flags 0x01) && there_if (is_response f.message && has f.flags 0x02) f.tracing && there_if (is_response f.message && has f.flags 0x08) f.warnings && there_if (has f.flags 0x04) f.payload) (message_agrees f.message) e).1

pub frame_formed : (f : FrameValue) → frame_agrees f ≡ true → AreFormed (frame_parts f)
frame_formed f e = append (announced_parts f) (message_parts f.message) (announced f) (message f.message (message_of f e))
