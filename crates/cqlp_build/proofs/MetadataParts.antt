-- Metadata and prepared statements, as the values that are made of their parts.
use Rattle.std.proofs.Common.{◌≡◌, ℕ, ℤ, ◌++◌, ◌&&◌, List, [], ◌∷◌, length, Bool, true, false, Option, Some, None, refl, sym, ap, ◌∙◌, append_assoc, append-nil}
use Rattle.std.specs.Prelude.{not, is_some, ◌==◌}
use Rattle.std.specs.List.{flat_map, list_all}
use Rattle.std.proofs.lemmas.Bool.{eqb-true, eq-eqb}
use Rattle.cqlp_note.specs.declared.field.Field.TheVariants as field
use Rattle.cqlp_note.specs.Field as note
use Rattle.cqlp_note.specs.Heading.{has}
use Rattle.cqlp_type.specs.Trees.{Trees, is_tree}
use Rattle.cqlp_grammar.specs.Events.{Holds}
use Rattle.cqlp_message.specs.Agreement.{bits, columns_agree, metadata_agrees, prepared_agrees, spec_agrees, specs_agree, there_if}
use Rattle.cqlp_message.specs.Bodies as body
use Rattle.cqlp_message.specs.FrameValues.{Octets, TableName, Spec, Metadata, PreparedStatement}
use Rattle.cqlp_message.specs.Parts.{Type_is}
use Rattle.cqlp_build.specs.declared.held.FrameEvents.{FrameEvents}
use Rattle.cqlp_build.specs.FrameEvents.{Builds, Many, any}
use Rattle.cqlp_build.specs.Productions.{AreColumns, AreColumnsIf, columns_parts, columns_parts_if}
use Rattle.cqlp_build.specs.Emitted.{emitted}
use Rattle.cqlp_build.specs.Types.{are_built_columns, are_built_if, is_built_metadata, is_built_statement, is_built_type, names_count, type_events}
use Rattle.cqlp_build.proofs.Counted.{emitted_many}
use Rattle.cqlp_build.proofs.Optional.{nothing_builds}
use Rattle.cqlp_build.proofs.Several.{both, join}
use Rattle.cqlp_build.proofs.Steps.{as_builds, pair_builds, emitted_append, ◌then◌}

all_both : {A : Type 0} (p q : A → Bool) (xs : List A) → list_all (λ x. p x && q x) xs ≡ true → (list_all p xs ≡ true) × (list_all q xs ≡ true)
all_both p q [] e = (refl, refl)
all_both p q (x ∷ xs) e =
    let h = both (p x && q x) (list_all (λ x. p x && q x) xs) e in
    let k = both (p x) (q x) h.0 in
    let r = all_both p q xs h.1 in
    (join (p x) (list_all p xs) k.0 r.0, join (q x) (list_all q xs) k.1 r.1)

all_join : {A : Type 0} (p q : A → Bool) (xs : List A) → list_all p xs ≡ true → list_all q xs ≡ true → list_all (λ x. p x && q x) xs ≡ true
all_join p q [] a b = refl
all_join p q (x ∷ xs) a b =
    let h = both (p x) (list_all p xs) a in
    let k = both (q x) (list_all q xs) b in
    join (p x && q x) (list_all (λ x. p x && q x) xs) (join (p x) (q x) h.0 k.0) (all_join p q xs h.1 k.1)

-- ---- columns

abbrev spec_from : (Option TableName × Octets) × Trees → Spec
spec_from p = record { table = p.0.0; name = p.0.1; tree = p.1 }

spec_said : (p : (Option TableName × Octets) × Trees) → emitted (body.spec_parts (spec_from p)) ≡ (emitted (body.table_parts p.0.0) ++ Holds field.ColumnName (note.Text p.0.1) ∷ []) ++ type_events p.1
spec_said p =
    let name = Holds field.ColumnName (note.Text p.0.1) in
    emitted_append (body.table_parts p.0.0) (body.text field.ColumnName p.0.1 ∷ Type_is p.1 ∷ [])
    ∙ ap (λ es. emitted (body.table_parts p.0.0) ++ name ∷ es) (append-nil (type_events p.1))
    ∙ sym (append_assoc (emitted (body.table_parts p.0.0)) (name ∷ []) (type_events p.1))

abbrev IsSpec : (own : Bool) → (Option TableName × Octets) × Trees → Type 0
IsSpec own p = ((there_if own p.0.0 ≡ true) × (true ≡ true)) × (is_built_type p.1 ≡ true)

spec_on : (own : Bool) (p : (Option TableName × Octets) × Trees) → IsSpec own p → (spec_agrees own (spec_from p) && names_count false p.1) ≡ true
spec_on own p q =
    let t = both (is_tree p.1) (names_count false p.1) q.1 in
    join (there_if own p.0.0 && is_tree p.1) (names_count false p.1) (join (there_if own p.0.0) (is_tree p.1) q.0.0 t.0) t.1

spec_view : (own : Bool) (c : Spec) → (spec_agrees own c && names_count false c.tree) ≡ true → (p : (Option TableName × Octets) × Trees) × (IsSpec own p) × (c ≡ spec_from p)
spec_view own c e =
    let p = both (there_if own c.table && is_tree c.tree) (names_count false c.tree) e in
    let q = both (there_if own c.table) (is_tree c.tree) p.0 in
    (((c.table, c.name), c.tree), ((q.0, refl), join (is_tree c.tree) (names_count false c.tree) q.1 p.1), refl)

pub spec_builds : (own : Bool) {table : Option TableName} {name : Octets} {tree : Trees} {a b c d : FrameEvents}
    → Builds (λ o. emitted (body.table_parts o)) (λ o. there_if own o ≡ true) table a b → Builds (λ t. Holds field.ColumnName (note.Text t) ∷ []) any name b c
    → Builds type_events (λ t. is_built_type t ≡ true) tree c d
    → Builds (λ c. emitted (body.spec_parts c)) (λ c. (spec_agrees own c && names_count false c.tree) ≡ true) (record { table = table; name = name; tree = tree }) a d
spec_builds own one two three =
    as_builds (λ c. emitted (body.spec_parts c)) (λ c. (spec_agrees own c && names_count false c.tree) ≡ true) spec_from (λ p q. spec_said p) (λ p q. spec_on own p q) (spec_view own) (one then two then three)

abbrev Columns : Type 0
Columns = Option TableName × List Spec

columns_on : (flags n : ℕ) (c : Columns) → there_if (has flags 0x01) c.0 ≡ true → Many (λ c. spec_agrees (not (has flags 0x01)) c && names_count false c.tree) n c.1 → AreColumns flags n c
columns_on flags n c there many =
    let own = not (has flags 0x01) in
    let all = all_both (spec_agrees own) (λ c. names_count false c.tree) c.1 many.1 in
    join (specs_agree flags n c.0 c.1) (are_built_columns c.1)
    (join ((length c.1 == n) && there_if (has flags 0x01) c.0) (list_all (spec_agrees own) c.1) (join (length c.1 == n) (there_if (has flags 0x01) c.0) (eq-eqb (length c.1) n many.0) there) all.0) all.1

columns_view : (flags n : ℕ) (c : Columns) → AreColumns flags n c
    → (p : Columns) × ((there_if (has flags 0x01) p.0 ≡ true) × Many (λ c. spec_agrees (not (has flags 0x01)) c && names_count false c.tree) n p.1) × (c ≡ p)
columns_view flags n c e =
    let own = not (has flags 0x01) in
    let p = both (specs_agree flags n c.0 c.1) (are_built_columns c.1) e in
    let q = both ((length c.1 == n) && there_if (has flags 0x01) c.0) (list_all (spec_agrees own) c.1) p.0 in
    let r = both (length c.1 == n) (there_if (has flags 0x01) c.0) q.0 in
    (c, (r.1, (eqb-true (length c.1) n r.0, all_join (spec_agrees own) (λ c. names_count false c.tree) c.1 q.1 p.1)), refl)

columns_said : (c : Columns) → emitted (columns_parts c) ≡ emitted (body.table_parts c.0) ++ flat_map (λ c. emitted (body.spec_parts c)) c.1
columns_said c = emitted_append (body.table_parts c.0) (flat_map body.spec_parts c.1) ∙ ap (λ es. emitted (body.table_parts c.0) ++ es) (emitted_many body.spec_parts c.1)

pub columns_builds : (flags n : ℕ) {table : Option TableName} {specs : List Spec} {a b c : FrameEvents}
    → Builds (λ o. emitted (body.table_parts o)) (λ o. there_if (has flags 0x01) o ≡ true) table a b
    → Builds (flat_map (λ c. emitted (body.spec_parts c))) (Many (λ c. spec_agrees (not (has flags 0x01)) c && names_count false c.tree) n) specs b c
    → Builds (λ c. emitted (columns_parts c)) (AreColumns flags n) (table, specs) a c
columns_builds flags n one two =
    as_builds (λ c. emitted (columns_parts c)) (AreColumns flags n) (λ c. c) (λ p q. columns_said p) (λ p q. columns_on flags n p q.0 q.1) (columns_view flags n) (one then two)

-- ---- columns that may be described

abbrev ColumnsIf : Type 0
ColumnsIf = Option TableName × Option (List Spec)

nothing_described : (flags n : ℕ) → has flags 0x04 ≡ true → (c : ColumnsIf) → AreColumnsIf flags n c → c ≡ (None, None)
nothing_described flags n on (None, None) e = refl
nothing_described flags n on (Some t, None) e =
    let p = both (has flags 0x04 && false) true e in
    let q = both (has flags 0x04) false p.0 in
    let d : false ≡ true = q.1 in
    absurd cc
nothing_described flags n on (o, Some specs) e =
    let p = both (not (has flags 0x04) && specs_agree flags n o specs) (are_built_columns specs) e in
    let q = both (not (has flags 0x04)) (specs_agree flags n o specs) p.0 in
    let d : false ≡ true = sym (ap not on) ∙ q.0 in
    absurd cc

pub undescribed_builds : (flags n : ℕ) → has flags 0x04 ≡ true → (old : FrameEvents) → Builds (λ c. emitted (columns_parts_if c)) (AreColumnsIf flags n) (None, None) old old
undescribed_builds flags n on old =
    nothing_builds (λ c. emitted (columns_parts_if c)) (AreColumnsIf flags n) (None, None) old refl (join (has flags 0x04 && true) true (join (has flags 0x04) true on refl) refl) (nothing_described flags n on)

described_view : (flags n : ℕ) → has flags 0x04 ≡ false → (c : ColumnsIf) → AreColumnsIf flags n c → (p : Columns) × (AreColumns flags n p) × (c ≡ (p.0, Some p.1))
described_view flags n off (o, None) e =
    let p = both (has flags 0x04 && not (is_some o)) true e in
    let q = both (has flags 0x04) (not (is_some o)) p.0 in
    let d : false ≡ true = sym off ∙ q.0 in
    absurd cc
described_view flags n off (o, Some specs) e =
    let p = both (not (has flags 0x04) && specs_agree flags n o specs) (are_built_columns specs) e in
    let q = both (not (has flags 0x04)) (specs_agree flags n o specs) p.0 in
    ((o, specs), join (specs_agree flags n o specs) (are_built_columns specs) q.1 p.1, refl)

described_on : (flags n : ℕ) → has flags 0x04 ≡ false → (c : Columns) → AreColumns flags n c → AreColumnsIf flags n (c.0, Some c.1)
described_on flags n off c e =
    let p = both (specs_agree flags n c.0 c.1) (are_built_columns c.1) e in
    join (not (has flags 0x04) && specs_agree flags n c.0 c.1) (are_built_columns c.1) (join (not (has flags 0x04)) (specs_agree flags n c.0 c.1) (ap not off) p.0) p.1

pub described_builds : (flags n : ℕ) → has flags 0x04 ≡ false → {c : Columns} {old new : FrameEvents} → Builds (λ c. emitted (columns_parts c)) (AreColumns flags n) c old new
    → Builds (λ c. emitted (columns_parts_if c)) (AreColumnsIf flags n) (c.0, Some c.1) old new
described_builds flags n off one = as_builds (λ c. emitted (columns_parts_if c)) (AreColumnsIf flags n) (λ (c : Columns). (c.0, Some c.1)) (λ c p. refl) (described_on flags n off) (described_view flags n off) one

-- ---- metadata

abbrev pub IsMetadata : Metadata → Type 0
IsMetadata m = (metadata_agrees m && is_built_metadata m) ≡ true

abbrev MetadataParts : Type 0
MetadataParts = ℤ × (ℕ × (Option (Option Octets) × ColumnsIf))

abbrev metadata_from : MetadataParts → Metadata
metadata_from p = record { flags = p.0; columns = p.1.0; paging = p.1.1.0; table = p.1.1.1.0; specs = p.1.1.1.1 }

abbrev AreAfterFlags : ℤ → ℕ × (Option (Option Octets) × ColumnsIf) → Type 0
AreAfterFlags z r = (true ≡ true) × ((there_if (has (bits z) 0x02) r.1.0 ≡ true) × AreColumnsIf (bits z) r.0 r.1.1)

metadata_said : (p : MetadataParts) → emitted (body.metadata_parts (metadata_from p))
    ≡ Holds field.MetaFlags (note.Int p.0) ∷ Holds field.Columns (note.Count p.1.0) ∷ (emitted (body.paging_parts p.1.1.0) ++ emitted (columns_parts_if p.1.1.1))
metadata_said p =
    let paging = body.paging_parts p.1.1.0 in
    let table = body.table_parts p.1.1.1.0 in
    let specs = body.where_some (flat_map body.spec_parts) p.1.1.1.1 in
    ap (λ es. Holds field.MetaFlags (note.Int p.0) ∷ Holds field.Columns (note.Count p.1.0) ∷ es) (ap emitted (append_assoc paging table specs) ∙ emitted_append paging (table ++ specs))

metadata_on : (p : MetadataParts) → AreAfterFlags p.0 p.1 → IsMetadata (metadata_from p)
metadata_on p q =
    let f = bits p.0 in
    let c = p.1.1.1 in
    let r = both (columns_agree f p.1.0 c.0 c.1) (are_built_if c.1) q.1.1 in
    join (there_if (has f 0x02) p.1.1.0 && columns_agree f p.1.0 c.0 c.1) (are_built_if c.1) (join (there_if (has f 0x02) p.1.1.0) (columns_agree f p.1.0 c.0 c.1) q.1.0 r.0) r.1

metadata_view : (m : Metadata) → IsMetadata m → (p : MetadataParts) × ((true ≡ true) × AreAfterFlags p.0 p.1) × (m ≡ metadata_from p)
metadata_view m e =
    let f = bits m.flags in
    let p = both (metadata_agrees m) (is_built_metadata m) e in
    let q = both (there_if (has f 0x02) m.paging) (columns_agree f m.columns m.table m.specs) p.0 in
    ((m.flags, (m.columns, (m.paging, (m.table, m.specs)))), (refl, (refl, (q.0, join (columns_agree f m.columns m.table m.specs) (are_built_if m.specs) q.1 p.1))), refl)

pub metadata_builds : {flags : ℤ} {columns : ℕ} {paging : Option (Option Octets)} {c : ColumnsIf} {h i j k l : FrameEvents}
    → Builds (λ z. Holds field.MetaFlags (note.Int z) ∷ []) any flags h i → Builds (λ n. Holds field.Columns (note.Count n) ∷ []) any columns i j
    → Builds (λ o. emitted (body.paging_parts o)) (λ o. there_if (has (bits flags) 0x02) o ≡ true) paging j k
    → Builds (λ c. emitted (columns_parts_if c)) (AreColumnsIf (bits flags) columns) c k l
    → Builds (λ m. emitted (body.metadata_parts m)) IsMetadata (metadata_from (flags, (columns, (paging, c)))) h l
metadata_builds {flags} one two three four =
    as_builds (λ m. emitted (body.metadata_parts m)) IsMetadata metadata_from (λ p q. metadata_said p) (λ p q. metadata_on p q.1) metadata_view
    (pair_builds AreAfterFlags one (pair_builds (λ n r. (there_if (has (bits flags) 0x02) r.0 ≡ true) × AreColumnsIf (bits flags) n r.1) two (three then four)))

-- ---- prepared statements

abbrev pub IsStatement : PreparedStatement → Type 0
IsStatement p = (prepared_agrees p && is_built_statement p) ≡ true

abbrev AfterCount : Type 0
AfterCount = List ℕ × (Columns × Metadata)

abbrev StatementParts : Type 0
StatementParts = Octets × (ℤ × (ℕ × AfterCount))

abbrev statement_from : StatementParts → PreparedStatement
statement_from p = record { id = p.0; flags = p.1.0; columns = p.1.1.0; keys = p.1.1.1.0; table = p.1.1.1.1.0.0; specs = p.1.1.1.1.0.1; result = p.1.1.1.1.1 }

abbrev AreAfterCount : ℤ → ℕ → AfterCount → Type 0
AreAfterCount z n r = (true ≡ true) × (AreColumns (bits z) n r.1.0 × IsMetadata r.1.1)

abbrev AreAfterId : ℤ → ℕ × AfterCount → Type 0
AreAfterId z r = (true ≡ true) × AreAfterCount z r.0 r.1

statement_said : (p : StatementParts) → emitted (body.prepared_parts (statement_from p))
    ≡ Holds field.StatementId (note.Bytes (Some p.0)) ∷ Holds field.MetaFlags (note.Int p.1.0) ∷ Holds field.Columns (note.Count p.1.1.0)
    ∷ (emitted (body.counted_keys p.1.1.1.0) ++ (emitted (columns_parts p.1.1.1.1.0) ++ emitted (body.metadata_parts p.1.1.1.1.1)))
statement_said p =
    let keys = body.counted_keys p.1.1.1.0 in
    let columns = columns_parts p.1.1.1.1.0 in
    let result = body.metadata_parts p.1.1.1.1.1 in
    ap (λ es. Holds field.StatementId (note.Bytes (Some p.0)) ∷ Holds field.MetaFlags (note.Int p.1.0) ∷ Holds field.Columns (note.Count p.1.1.0) ∷ es)
    (ap emitted (append_assoc keys columns result) ∙ emitted_append keys (columns ++ result) ∙ ap (λ es. emitted keys ++ es) (emitted_append columns result))

statement_on : (p : StatementParts) → AreAfterId p.1.0 p.1.1 → IsStatement (statement_from p)
statement_on p q =
    let f = bits p.1.0 in
    let c = p.1.1.1.1.0 in
    let m = p.1.1.1.1.1 in
    let a = both (specs_agree f p.1.1.0 c.0 c.1) (are_built_columns c.1) q.1.1.0 in
    let b = both (metadata_agrees m) (is_built_metadata m) q.1.1.1 in
    join (specs_agree f p.1.1.0 c.0 c.1 && metadata_agrees m) (are_built_columns c.1 && is_built_metadata m)
    (join (specs_agree f p.1.1.0 c.0 c.1) (metadata_agrees m) a.0 b.0) (join (are_built_columns c.1) (is_built_metadata m) a.1 b.1)

statement_view : (s : PreparedStatement) → IsStatement s → (p : StatementParts) × ((true ≡ true) × ((true ≡ true) × AreAfterId p.1.0 p.1.1)) × (s ≡ statement_from p)
statement_view s e =
    let f = bits s.flags in
    let m = s.result in
    let p = both (prepared_agrees s) (is_built_statement s) e in
    let a = both (specs_agree f s.columns s.table s.specs) (metadata_agrees m) p.0 in
    let b = both (are_built_columns s.specs) (is_built_metadata m) p.1 in (
      (s.id, (s.flags, (s.columns, (s.keys, ((s.table, s.specs), m))))),
      (refl, (refl, (refl, (refl, (join (specs_agree f s.columns s.table s.specs) (are_built_columns s.specs) a.0 b.0, join (metadata_agrees m) (is_built_metadata m) a.1 b.1))))),
      refl,
    )

pub statement_builds : {id : Octets} {flags : ℤ} {columns : ℕ} {keys : List ℕ} {c : Columns} {m : Metadata} {h i j k l n o : FrameEvents}
    → Builds (λ id. Holds field.StatementId (note.Bytes (Some id)) ∷ []) any id h i → Builds (λ z. Holds field.MetaFlags (note.Int z) ∷ []) any flags i j
    → Builds (λ n. Holds field.Columns (note.Count n) ∷ []) any columns j k → Builds (λ ks. emitted (body.counted_keys ks)) any keys k l
    → Builds (λ c. emitted (columns_parts c)) (AreColumns (bits flags) columns) c l n → Builds (λ m. emitted (body.metadata_parts m)) IsMetadata m n o
    → Builds (λ p. emitted (body.prepared_parts p)) IsStatement (statement_from (id, (flags, (columns, (keys, (c, m)))))) h o
statement_builds {flags = flags} one two three four five six =
    as_builds (λ p. emitted (body.prepared_parts p)) IsStatement statement_from (λ p q. statement_said p) (λ p q. statement_on p q.1.1) statement_view
    (one then pair_builds AreAfterId two (pair_builds (AreAfterCount flags) three (four then (five then six))))
