-- What the tests of agreement say: each part that flags, codes and names announce is there, and the other way round.
use Rattle.std.proofs.Common.{◌≡◌, ℕ, ◌<◌, ℤ, Bool, true, false, ◌&&◌, eqb, List, [], ◌∷◌, length, Option, Some, None, refl, ap, ◌⊎◌, arith}
use Rattle.std.specs.Prelude.{All, IfSome, ⊤, not, is_some, codes}
use Rattle.std.specs.Bool.{Decides}
use Rattle.std.specs.List.{list_all}
use Rattle.std.proofs.lemmas.Bool.{not-true, not_from_false}
use Rattle.std.proofs.lemmas.Bool.Decides.{Decides-eqb, Decides-ltb, Decides-like, Decides-and, Decides-or, Decides-by_and}
use Rattle.std.proofs.lemmas.Slice.Eq.{bytes_eq-Decides}
use Rattle.cqlp_note.specs.Heading.{has, beside_number}
use Rattle.cqlp_type.specs.Trees.{Head, Plain, Custom, ListOf, SetOf, MapOf, TupleOf, UdtOf, Trees, NoTree, Tree_and, trees_in, IsHead, AreTrees, is_head, are_trees, is_tree}
use Rattle.cqlp_message.specs.FrameValues.{Octets, TableName, Spec, Metadata, PreparedStatement, QueryParams, ErrorExtra, Plain as Bare, Unavailable, WriteTimeout, ReadTimeout, ReadFailure, FunctionFailure, WriteFailure, AlreadyExists, Unprepared, SchemaOptions, Keyspace, Named, Callable, UnknownTarget, SchemaChange, ServerEvent, Node, Schema, UnknownEvent, Message, Startup, Options, Query, Prepare, Execute, Batch, Register, AuthResponse, Error, Ready, Authenticate, Supported, Void, SetKeyspace, Rows, Prepared, Change, UnknownResult, Event, AuthChallenge, AuthSuccess, FrameValue}
use Rattle.cqlp_note.specs.Field.{BoundValue}
use Rattle.cqlp_grammar.specs.Productions.{errors, targets, events, by_text}
use Rattle.cqlp_message.specs.Agreement.{there_if, are_named, params_agree, batch_agrees, extra_agrees, options_agree, event_agrees, is_no_result, spec_agrees, specs_agree, columns_agree, bits, metadata_agrees, message_agrees, is_response, frame_agrees}
use Rattle.cqlp_message.proofs.Derives.{IsThereIf}

-- ---- what is said

pub record ParamsAgree (q : QueryParams) : Type 0 where
  pub values : IsThereIf (has q.flags 0x01) q.values
  pub names : IfSome q.values (All (λ v. IsThereIf (has q.flags 0x40) v.0))
  pub page_size : IsThereIf (has q.flags 0x04) q.page_size
  pub paging : IsThereIf (has q.flags 0x08) q.paging
  pub serial : IsThereIf (has q.flags 0x10) q.serial
  pub timestamp : IsThereIf (has q.flags 0x20) q.timestamp

pub record BatchAgrees (flags : ℕ) (serial : Option ℕ) (timestamp : Option ℤ) : Type 0 where
  pub known : has flags 0x4F ≡ false
  pub serial_there : IsThereIf (has flags 0x10) serial
  pub timestamp_there : IsThereIf (has flags 0x20) timestamp

abbrev pub ExtraAgrees : (code : ℕ) → ErrorExtra → Type 0
ExtraAgrees code Bare = beside_number code errors ≡ None
ExtraAgrees code (Unavailable c r a) = code ≡ 0x1000
ExtraAgrees code (WriteTimeout c r b w) = code ≡ 0x1100
ExtraAgrees code (ReadTimeout c r b d) = code ≡ 0x1200
ExtraAgrees code (ReadFailure c r b f d) = code ≡ 0x1300
ExtraAgrees code (FunctionFailure k n ts) = code ≡ 0x1400
ExtraAgrees code (WriteFailure c r b f w) = code ≡ 0x1500
ExtraAgrees code (AlreadyExists k t) = code ≡ 0x2400
ExtraAgrees code (Unprepared i) = code ≡ 0x2500

abbrev pub OptionsAgree : (target : Octets) → SchemaOptions → Type 0
OptionsAgree target (Keyspace k) = target ≡ codes "KEYSPACE"
OptionsAgree target (Named k n) = (target ≡ codes "TABLE") ⊎ (target ≡ codes "TYPE")
OptionsAgree target (Callable k n ts) = (target ≡ codes "FUNCTION") ⊎ (target ≡ codes "AGGREGATE")
OptionsAgree target UnknownTarget = by_text target targets ≡ []

abbrev pub ChangeAgrees : SchemaChange → Type 0
ChangeAgrees c = OptionsAgree c.target c.options

abbrev pub EventAgrees : (event : Octets) → ServerEvent → Type 0
EventAgrees event (Node c a port) = (event ≡ codes "TOPOLOGY_CHANGE") ⊎ (event ≡ codes "STATUS_CHANGE")
EventAgrees event (Schema c) = (event ≡ codes "SCHEMA_CHANGE") × ChangeAgrees c
EventAgrees event UnknownEvent = by_text event events ≡ []

abbrev pub IsNoResult : (kind : ℕ) → Type 0
IsNoResult kind = (kind ≡ 0) ⊎ (5 < kind)

-- one type, and all in it
abbrev pub IsTree : Trees → Type 0
IsTree t = (trees_in t ≡ 1) × AreTrees t

abbrev pub SpecAgrees : (own : Bool) → Spec → Type 0
SpecAgrees own c = IsThereIf own c.table × IsTree c.tree

pub record SpecsAgree (flags columns : ℕ) (table : Option TableName) (specs : List Spec) : Type 0 where
  pub number : length specs ≡ columns
  pub global : IsThereIf (has flags 0x01) table
  pub each : All (SpecAgrees (not (has flags 0x01))) specs

abbrev pub ColumnsAgree : (flags columns : ℕ) → Option TableName → Option (List Spec) → Type 0
ColumnsAgree flags columns table None = (has flags 0x04 ≡ true) × (table ≡ None)
ColumnsAgree flags columns table (Some specs) = (has flags 0x04 ≡ false) × SpecsAgree flags columns table specs

pub record MetadataAgrees (m : Metadata) : Type 0 where
  pub paging : IsThereIf (has (bits m.flags) 0x02) m.paging
  pub columns : ColumnsAgree (bits m.flags) m.columns m.table m.specs

abbrev pub PreparedAgrees : PreparedStatement → Type 0
PreparedAgrees p = SpecsAgree (bits p.flags) p.columns p.table p.specs × MetadataAgrees p.result

abbrev pub MessageAgrees : Message → Type 0
MessageAgrees (Query text q) = ParamsAgree q
MessageAgrees (Execute id q) = ParamsAgree q
MessageAgrees (Batch kind entries consistency flags serial timestamp) = BatchAgrees flags serial timestamp
MessageAgrees (Error code message extra) = ExtraAgrees (bits code) extra
MessageAgrees (Rows p) = MetadataAgrees p.meta
MessageAgrees (Prepared p) = PreparedAgrees p
MessageAgrees (Change c) = ChangeAgrees c
MessageAgrees (UnknownResult kind) = IsNoResult (bits kind)
MessageAgrees (Event event described) = EventAgrees event described
MessageAgrees m = ⊤

pub record FrameAgrees (f : FrameValue) : Type 0 where
  pub plain : has f.flags 0x01 ≡ false
  pub tracing : IsThereIf (is_response f.message && has f.flags 0x02) f.tracing
  pub warnings : IsThereIf (is_response f.message && has f.flags 0x08) f.warnings
  pub payload : IsThereIf (has f.flags 0x04) f.payload
  pub message : MessageAgrees f.message

-- ---- tests

no : (b : Bool) → Decides (not b) (b ≡ false)
no b = (not-true b, not_from_false b)

yes : Decides true ⊤
yes = (λ e. tt, λ u. refl)

there : {A : Type 0} (announced : Bool) (o : Option A) → Decides (there_if announced o) (IsThereIf announced o)
there true o = (λ e. e, λ e. e)
there false o = no (is_some o)

none : {A : Type 0} (o : Option A) → Decides (not (is_some o)) (o ≡ None)
none None = (λ e. refl, λ e. refl)
none (Some a) = (λ e. absurd cc, λ e. absurd cc)

nil : {A : Type 0} (xs : List A) → length xs ≡ 0 → xs ≡ []
nil [] e = refl
nil (x ∷ xs) e = absurd (omega (arith, e))

empty : {A : Type 0} (xs : List A) → Decides (eqb (length xs) 0) (xs ≡ [])
empty xs = Decides-like (eqb (length xs) 0) (nil xs) (λ e. ap length e) (Decides-eqb (length xs) 0)

each : {A : Type 0} (p : A → Bool) (P : A → Type 0) (xs : List A) → ((a : A) → Decides (p a) (P a)) → Decides (list_all p xs) (All P xs)
each p P xs d = Decides-by_and p P (list_all p) d refl (λ _ _. refl) xs

named : (is : Bool) (o : Option (List (Option Octets × BoundValue))) → Decides (are_named is o) (IfSome o (All (λ v. IsThereIf is v.0)))
named is None = yes
named is (Some vs) = each (λ v. there_if is v.0) (λ v. IsThereIf is v.0) vs (λ v. there is v.0)

params : (q : QueryParams) → Decides (params_agree q) (ParamsAgree q)
params q =
    Decides-like (params_agree q) (λ a. record { values = a.0.0.0.0.0; names = a.0.0.0.0.1; page_size = a.0.0.0.1; paging = a.0.0.1; serial = a.0.1; timestamp = a.1 })
    (λ a. (((((a.values, a.names), a.page_size), a.paging), a.serial), a.timestamp))
    (Decides-and _ _ (Decides-and _ _ (Decides-and _ _ (Decides-and _ _ (Decides-and _ _ (there (has q.flags 0x01) q.values) (named (has q.flags 0x40) q.values)) (there (has q.flags 0x04) q.page_size)) (there (has q.flags 0x08) q.paging)) (there (has q.flags 0x10) q.serial)) (there (has q.flags 0x20) q.timestamp))

batch : (flags : ℕ) (serial : Option ℕ) (timestamp : Option ℤ) → Decides (batch_agrees flags serial timestamp) (BatchAgrees flags serial timestamp)
batch flags serial timestamp =
    Decides-like (batch_agrees flags serial timestamp) (λ a. record { known = a.0.0; serial_there = a.0.1; timestamp_there = a.1 }) (λ a. ((a.known, a.serial_there), a.timestamp_there))
    (Decides-and _ _ (Decides-and _ _ (no (has flags 0x4F)) (there (has flags 0x10) serial)) (there (has flags 0x20) timestamp))

extra : (code : ℕ) (x : ErrorExtra) → Decides (extra_agrees code x) (ExtraAgrees code x)
extra code Bare = none (beside_number code errors)
extra code (Unavailable c r a) = Decides-eqb code 0x1000
extra code (WriteTimeout c r b w) = Decides-eqb code 0x1100
extra code (ReadTimeout c r b d) = Decides-eqb code 0x1200
extra code (ReadFailure c r b f d) = Decides-eqb code 0x1300
extra code (FunctionFailure k n ts) = Decides-eqb code 0x1400
extra code (WriteFailure c r b f w) = Decides-eqb code 0x1500
extra code (AlreadyExists k t) = Decides-eqb code 0x2400
extra code (Unprepared i) = Decides-eqb code 0x2500

options : (target : Octets) (o : SchemaOptions) → Decides (options_agree target o) (OptionsAgree target o)
options target (Keyspace k) = bytes_eq-Decides target (codes "KEYSPACE")
options target (Named k n) = Decides-or _ _ (bytes_eq-Decides target (codes "TABLE")) (bytes_eq-Decides target (codes "TYPE"))
options target (Callable k n ts) = Decides-or _ _ (bytes_eq-Decides target (codes "FUNCTION")) (bytes_eq-Decides target (codes "AGGREGATE"))
options target UnknownTarget = empty (by_text target targets)

event : (e : Octets) (t : ServerEvent) → Decides (event_agrees e t) (EventAgrees e t)
event e (Node c a port) = Decides-or _ _ (bytes_eq-Decides e (codes "TOPOLOGY_CHANGE")) (bytes_eq-Decides e (codes "STATUS_CHANGE"))
event e (Schema c) = Decides-and _ _ (bytes_eq-Decides e (codes "SCHEMA_CHANGE")) (options c.target c.options)
event e UnknownEvent = empty (by_text e events)

head : (h : Head) (n : ℕ) → Decides (is_head h n) (IsHead h n)
head (Plain k) n = Decides-and _ _ ((λ e. e, λ e. e)) (Decides-eqb n 0)
head (Custom class) n = Decides-eqb n 0
head ListOf n = Decides-eqb n 1
head SetOf n = Decides-eqb n 1
head MapOf n = Decides-eqb n 2
head TupleOf n = yes
head (UdtOf keyspace name) n = yes

trees : (t : Trees) → Decides (are_trees t) (AreTrees t)
trees NoTree = yes
trees (Tree_and name h inner others) =
    Decides-like (are_trees (Tree_and name h inner others)) (λ a. (a.0.0, a.0.1, a.1)) (λ a. ((a.0, a.1), a.2)) (Decides-and _ _ (Decides-and _ _ (head h (trees_in inner)) (trees inner)) (trees others))

-- one type, and all in it
pub tree : (t : Trees) → Decides (is_tree t) (IsTree t)
tree t = Decides-and _ _ (Decides-eqb (trees_in t) 1) (trees t)

specs : (flags columns : ℕ) (table : Option TableName) (cs : List Spec) → Decides (specs_agree flags columns table cs) (SpecsAgree flags columns table cs)
specs flags columns table cs =
    let own : Bool = not (has flags 0x01) in
    Decides-like (specs_agree flags columns table cs) (λ a. record { number = a.0.0; global = a.0.1; each = a.1 }) (λ a. ((a.number, a.global), a.each))
    (Decides-and _ _ (Decides-and _ _ (Decides-eqb (length cs) columns) (there (has flags 0x01) table)) (each (spec_agrees own) (SpecAgrees own) cs (λ c. Decides-and _ _ (there own c.table) (tree c.tree))))

columns : (flags n : ℕ) (table : Option TableName) (cs : Option (List Spec)) → Decides (columns_agree flags n table cs) (ColumnsAgree flags n table cs)
columns flags n table None = Decides-and _ _ ((λ e. e, λ e. e)) (none table)
columns flags n table (Some cs) = Decides-and _ _ (no (has flags 0x04)) (specs flags n table cs)

metadata : (m : Metadata) → Decides (metadata_agrees m) (MetadataAgrees m)
metadata m =
    Decides-like (metadata_agrees m) (λ a. record { paging = a.0; columns = a.1 }) (λ a. (a.paging, a.columns))
    (Decides-and _ _ (there (has (bits m.flags) 0x02) m.paging) (columns (bits m.flags) m.columns m.table m.specs))

result : (n : ℕ) → Decides (is_no_result n) (IsNoResult n)
result n = Decides-or _ _ (Decides-eqb n 0) (Decides-ltb 5 n)

message : (m : Message) → Decides (message_agrees m) (MessageAgrees m)
message (Startup os) = yes
message Options = yes
message (Query text q) = params q
message (Prepare text) = yes
message (Execute id q) = params q
message (Batch kind es c flags serial timestamp) = batch flags serial timestamp
message (Register types) = yes
message (AuthResponse token) = yes
message (Error code text x) = extra (bits code) x
message Ready = yes
message (Authenticate class) = yes
message (Supported os) = yes
message Void = yes
message (SetKeyspace keyspace) = yes
message (Rows p) = metadata p.meta
message (Prepared p) = Decides-and _ _ (specs (bits p.flags) p.columns p.table p.specs) (metadata p.result)
message (Change c) = options c.target c.options
message (UnknownResult kind) = result (bits kind)
message (Event e t) = event e t
message (AuthChallenge token) = yes
message (AuthSuccess token) = yes

frame : (f : FrameValue) → Decides (frame_agrees f) (FrameAgrees f)
frame f =
    Decides-like (frame_agrees f) (λ a. record { plain = a.0.0.0.0; tracing = a.0.0.0.1; warnings = a.0.0.1; payload = a.0.1; message = a.1 }) (λ a. ((((a.plain, a.tracing), a.warnings), a.payload), a.message))
    (Decides-and _ _ (Decides-and _ _ (Decides-and _ _ (Decides-and _ _ (no (has f.flags 0x01)) (there (is_response f.message && has f.flags 0x02) f.tracing)) (there (is_response f.message && has f.flags 0x08) f.warnings)) (there (has f.flags 0x04) f.payload)) (message f.message))

-- a frame that agrees by its test agrees in each part, and one that agrees in each part does by its test
pub of_test : (f : FrameValue) → frame_agrees f ≡ true → FrameAgrees f
of_test f = (frame f).0

pub to_test : (f : FrameValue) → FrameAgrees f → frame_agrees f ≡ true
to_test f = (frame f).1
