-- Parts that come of the symbols of metadata, pages and prepared statements are theirs.
use Rattle.std.proofs.Common.{◌≡◌, ℕ, ◌+◌, ◌*◌, ◌≤◌, zero, suc, Bool, true, false, ◌&&◌, not, cond, List, [], ◌∷◌, ◌++◌, length, Option, Some, None, refl, sym, ap, ◌∙◌, append_assoc, arith}
use Rattle.std.specs.Prelude.{◌==◌, if◌then◌else◌}
use Rattle.std.specs.List.{flat_map, list_all}
use Rattle.std.proofs.lemmas.Bool.{eqb-true, eq-eqb}
use Rattle.std.proofs.lemmas.List.{length-append, drop_at}
use Rattle.cqlp_note.specs.declared.field.Field.TheVariants as field
use Rattle.cqlp_note.specs.declared.field.Notation.TheVariants as notation
use Rattle.cqlp_note.specs.Field as note
use Rattle.cqlp_note.specs.Heading.{has}
use Rattle.cqlp_note.specs.Limits.{Rules}
use Rattle.cqlp_kind.specs.declared.kind.Kind.{Kind}
use Rattle.cqlp_kind.specs.Types.{Types, NoMore, Type_and, how_many, preorder, followed_by}
use Rattle.cqlp_kind.specs.TypeStep.{Option_at}
use Rattle.cqlp_type.specs.Trees.{Trees, NoTree, Tree_and, trees_in, options_in, types_in, are_trees, is_tree}
use Rattle.cqlp_type.proofs.Forests.{many_nodes, followed_by_none}
use Rattle.cqlp_value.specs.Values.{Values}
use Rattle.cqlp_grammar.specs.declared.grammar.Group.TheVariants as group_of
use Rattle.cqlp_grammar.specs.declared.grammar.Role.TheVariants as role
use Rattle.cqlp_message.specs.FrameValues.{TableName, Spec, Metadata, Page, PreparedStatement}
use Rattle.cqlp_grammar.specs.Productions.{Symbol, In, In_type, Cell_due, plain, copies, group, where_set, row_from, rows_from, raw_types}
use Rattle.cqlp_grammar.specs.Productions as productions
use Rattle.cqlp_message.specs.Parts.{Part, Field_is, Type_is, Cell_is}
use Rattle.cqlp_message.specs.Bodies.{where_some, text, int, count, statement, table_parts, spec_parts, specs_parts, paging_parts, metadata_parts, counted_keys, column_types, types_described, cell_types, row_parts, rows_parts, page_parts, prepared_parts}
use Rattle.cqlp_message.specs.Bodies as bodies
use Rattle.cqlp_message.specs.Agreement.{bits, spec_agrees, specs_agree, columns_agree, metadata_agrees, prepared_agrees}
use Rattle.cqlp_message.specs.Frames.{options_among, options_described}
use Rattle.cqlp_message.proofs.Derives.{Derives, nodes_in}
use Rattle.cqlp_message.proofs.Messages.{many_after}
use Rattle.cqlp_message.proofs.Gives.{AreSound, Gives, take, sure, any, field_back, int_view, count32_view, short_back, text_back, statement_back, bytes_back, pair_back, copies_back, where_back, both}

-- ---- types

many_in : (t : Trees) → how_many (types_in t) ≡ trees_in t
many_in NoTree = refl
many_in (Tree_and name h inner others) = omega (arith, many_in others)

nodes_followed : (ts us : Types) → nodes_in (followed_by ts us) ≡ nodes_in ts + nodes_in us
nodes_followed NoMore us = omega arith
nodes_followed (Type_and k inner others) us = omega (arith, nodes_followed others us, length-append (preorder inner) (preorder (followed_by others us)), length-append (preorder inner) (preorder others))

followed_assoc : (ts us vs : Types) → followed_by (followed_by ts us) vs ≡ followed_by ts (followed_by us vs)
followed_assoc NoMore us vs = refl
followed_assoc (Type_and k inner others) us vs = ap (Type_and k inner) (followed_assoc others us vs)

many_raw : (n : ℕ) → how_many (raw_types n) ≡ n
many_raw zero = refl
many_raw (suc n) = omega (arith, many_raw n)

one_type : (a b : Bool) → (a && b) ≡ true → a ≡ true
one_type true b e = refl
one_type false b e = absurd cc

one_in : (t : Trees) → is_tree t ≡ true → how_many (types_in t) ≡ 1
one_in t is = many_in t ∙ eqb-true (trees_in t) 1 (one_type (trees_in t == 1) (are_trees t) is)

-- ---- columns

type_back : (l : Rules) (ps : List Part) (rest : List Symbol) (described : Types) → AreSound ps → Derives l ps (In_type (Option_at 1 ∷ []) ∷ rest) described
    → Gives l Trees (λ t. Type_is t ∷ []) (λ t. (is_tree t ≡ true) × (nodes_in described + options_in t ≤ l.entries)) (λ t. followed_by described (types_in t)) (λ t. rest) ps
type_back l (Type_is t ∷ left) rest described s d = record { item = t; left = left; whole = refl; holds = (s.0, d.1); sound = s.1; derives = d.2 }
type_back l [] rest described s d = absurd cc
type_back l (Field_is g m v ∷ left) rest described s d = absurd d
type_back l (Cell_is row column k inner v ∷ left) rest described s d = absurd d

-- a column, and room for its types
abbrev IsColumn : (l : Rules) (global : Bool) (described : Types) → Spec → Type 0
IsColumn l global described c = (spec_agrees (not global) c ≡ true) × (how_many (types_in c.tree) ≡ 1) × (nodes_in described + options_in c.tree ≤ l.entries)

abbrev GivesColumn : (l : Rules) (global : Bool) (rest : List Symbol) (described : Types) → List Part → Type 0
GivesColumn l global rest described ps = Gives l Spec spec_parts (IsColumn l global described) (λ c. followed_by described (types_in c.tree)) (λ c. rest) ps

column_back : (l : Rules) (global : Bool) (ps : List Part) (rest : List Symbol) (described : Types) → AreSound ps → Derives l ps (group (group_of.Columns global) ++ rest) described → GivesColumn l global rest described ps
column_back l true ps rest described s d =
    let R : List Part → Type 0 = GivesColumn l true rest described in
    take R ps ((text_back {l = l} field.ColumnName).run ps (In_type (Option_at 1 ∷ []) ∷ rest) described s d) λ name qs p s d.
    take (λ z. R (text field.ColumnName name ∷ z)) qs (type_back l qs rest described s d) λ t rs q s d.
    record { item = record { table = None; name = name; tree = t }; left = rs; whole = refl; holds = (q.0, one_in t q.0, q.1); sound = s; derives = d }
column_back l false ps rest described s d =
    let R : List Part → Type 0 = GivesColumn l false rest described in
    take R ps ((pair_back {l = l} (text_back field.Keyspace) (pair_back (text_back field.Table) (text_back field.ColumnName))).run ps (In_type (Option_at 1 ∷ []) ∷ rest) described s d) λ n qs p s d.
    take (λ z. R (text field.Keyspace n.0 ∷ text field.Table n.1.0 ∷ text field.ColumnName n.1.1 ∷ z)) qs (type_back l qs rest described s d) λ t rs q s d.
    record { item = record { table = Some (n.0, n.1.0); name = n.1.1; tree = t }; left = rs; whole = refl; holds = (q.0, one_in t q.0, q.1); sound = s; derives = d }

-- columns, and room for their types
abbrev AreColumns : (l : Rules) (global : Bool) (n : ℕ) (described : Types) → List Spec → Type 0
AreColumns l global n described cs = (length cs ≡ n) × (list_all (spec_agrees (not global)) cs ≡ true) × (how_many (column_types cs) ≡ n) × (nodes_in described + options_among cs ≤ l.entries)

abbrev GivesColumns : (l : Rules) (global : Bool) (n : ℕ) (rest : List Symbol) (described : Types) → List Part → Type 0
GivesColumns l global n rest described ps = Gives l (List Spec) (flat_map spec_parts) (AreColumns l global n described) (λ cs. followed_by described (column_types cs)) (λ cs. rest) ps

columns_back : (l : Rules) (global : Bool) (n : ℕ) (ps : List Part) (rest : List Symbol) (described : Types) → AreSound ps → nodes_in described ≤ l.entries → Derives l ps (copies n (group (group_of.Columns global)) ++ rest) described → GivesColumns l global n rest described ps
columns_back l global zero ps rest described s room d = record { item = []; left = ps; whole = refl; holds = (refl, refl, refl, omega arith); sound = s; derives = rw (followed_by_none described) d }
columns_back l global (suc n) ps rest described s room d =
    let R : List Part → Type 0 = GivesColumns l global (suc n) rest described in
    take R ps (column_back l global ps (copies n (group (group_of.Columns global)) ++ rest) described s (rw (append_assoc (group (group_of.Columns global)) (copies n (group (group_of.Columns global))) rest) at d)) λ c qs p s d.
    let nodes : nodes_in (followed_by described (types_in c.tree)) ≡ nodes_in described + options_in c.tree = nodes_followed described (types_in c.tree) ∙ ap (λ k. nodes_in described + k) (many_nodes c.tree) in
    take (λ z. R (spec_parts c ++ z)) qs (columns_back l global n qs rest (followed_by described (types_in c.tree)) s (omega (arith, nodes, p.2)) d) λ cs rs q s d.
    record {
      item = c ∷ cs;
      left = rs;
      whole = sym (append_assoc (spec_parts c) (flat_map spec_parts cs) rs);
      holds = (omega (arith, q.0), rw (p.0, q.1) refl, omega (arith, many_after (types_in c.tree) (column_types cs), p.1, q.2), omega (arith, nodes, q.3));
      sound = s;
      derives = rw (followed_assoc described (types_in c.tree) (column_types cs)) at d;
    }

all_three : (a b c : Bool) → a ≡ true → b ≡ true → c ≡ true → (a && b && c) ≡ true
all_three a b c p q r = rw (p, q, r) refl

-- the table of all columns, and the columns
abbrev AreSpecs : (l : Rules) (flags columns : ℕ) → Option TableName × List Spec → Type 0
AreSpecs l flags columns p = (specs_agree flags columns p.0 p.1 ≡ true) × (how_many (column_types p.1) ≡ columns) × (options_among p.1 ≤ l.entries)

abbrev GivesSpecs : (l : Rules) (flags columns : ℕ) (rest : List Symbol) → List Part → Type 0
GivesSpecs l flags columns rest ps = Gives l (Option TableName × List Spec) (λ p. specs_parts p.0 p.1) (AreSpecs l flags columns) (λ p. column_types p.1) (λ p. rest) ps

specs_back : (l : Rules) (flags columns : ℕ) (ps : List Part) (rest : List Symbol) → AreSound ps → Derives l ps (productions.specs flags columns ++ rest) NoMore → GivesSpecs l flags columns rest ps
specs_back l flags columns ps rest s d =
    let R : List Part → Type 0 = GivesSpecs l flags columns rest in
    let due : List Symbol = copies columns (group (group_of.Columns (has flags 0x01))) in
    take R ps ((where_back {l = l} (pair_back (text_back field.Keyspace) (text_back field.Table)) flags 0x01).run ps (due ++ rest) NoMore s (rw (append_assoc (where_set flags 0x01 productions.table_name) due rest) at d)) λ o qs p s d.
    take (λ z. R (table_parts o ++ z)) qs (columns_back l (has flags 0x01) columns qs rest NoMore s (omega arith) d) λ cs rs q s d.
    record {
      item = (o, cs);
      left = rs;
      whole = sym (append_assoc (table_parts o) (flat_map spec_parts cs) rs);
      holds = (all_three _ _ _ (eq-eqb (length cs) columns q.0) p.0 q.1, q.2, omega (arith, q.3));
      sound = s;
      derives = d;
    }

-- ---- metadata

-- the types of these columns, where they are described
abbrev pub described_types : Option (List Spec) → Types
described_types None = NoMore
described_types (Some cs) = column_types cs

abbrev AreDescribed : (l : Rules) (flags columns : ℕ) → Option TableName × Option (List Spec) → Type 0
AreDescribed l flags columns p =
    (columns_agree flags columns p.0 p.1 ≡ true) × (options_described p.1 ≤ l.entries) × (how_many (types_described columns p.1) ≡ columns) × (cond (has flags 0x04) (raw_types columns) (described_types p.1) ≡ types_described columns p.1)

abbrev GivesDescribed : (l : Rules) (flags columns : ℕ) (rest : List Symbol) → List Part → Type 0
GivesDescribed l flags columns rest ps = Gives l (Option TableName × Option (List Spec)) (λ p. table_parts p.0 ++ where_some (flat_map spec_parts) p.1) (AreDescribed l flags columns) (λ p. described_types p.1) (λ p. rest) ps

described_back : (l : Rules) (flags columns : ℕ) (b : Bool) → has flags 0x04 ≡ b → (ps : List Part) (rest : List Symbol) → AreSound ps → Derives l ps ((if b then [] else productions.specs flags columns) ++ rest) NoMore → GivesDescribed l flags columns rest ps
described_back l flags columns true is ps rest s d = record { item = (None, None); left = ps; whole = refl; holds = (rw is refl, omega arith, many_raw columns, rw is refl); sound = s; derives = d }
described_back l flags columns false is ps rest s d =
    let x = specs_back l flags columns ps rest s d in
    record { item = (x.item.0, Some x.item.1); left = x.left; whole = x.whole; holds = (rw is x.holds.0, x.holds.2, x.holds.1, rw is refl); sound = x.sound; derives = x.derives }

in_line : (p t c left : List Part) → p ++ ((t ++ c) ++ left) ≡ ((p ++ t) ++ c) ++ left
in_line p t c left = simp append_assoc

due_in_line : (a b c rest : List Symbol) → ((a ++ b) ++ c) ++ rest ≡ a ++ (b ++ (c ++ rest))
due_in_line a b c rest = simp append_assoc

abbrev IsMetadata : (l : Rules) → Metadata → Type 0
IsMetadata l m =
    (metadata_agrees m ≡ true) × (options_described m.specs ≤ l.entries) × (how_many (cell_types m) ≡ m.columns) × (cond (has (bits m.flags) 0x04) (raw_types m.columns) (described_types m.specs) ≡ cell_types m)

-- the number of rows, after the metadata of a page
abbrev rows_due : Bool → Metadata → List Symbol
rows_due rows m = if rows then In field.Rows notation.Count32 (role.PageRows (bits m.flags) m.columns) ∷ [] else []

abbrev GivesMetadata : (l : Rules) (rows : Bool) (rest : List Symbol) → List Part → Type 0
GivesMetadata l rows rest ps = Gives l Metadata metadata_parts (IsMetadata l) (λ m. described_types m.specs) (λ m. rows_due rows m ++ rest) ps

metadata_back : (l : Rules) (rows : Bool) (ps : List Part) (rest : List Symbol) (described : Types) → AreSound ps → Derives l ps (In field.MetaFlags notation.Int (role.MetaFlags rows) ∷ rest) described → GivesMetadata l rows rest ps
metadata_back l rows ps rest described s d =
    let R : List Part → Type 0 = GivesMetadata l rows rest in
    take R ps (field_back l notation.Int note.Int int_view field.MetaFlags (role.MetaFlags rows) ps rest described s d) λ z qs p s d.
    let flags : ℕ = bits z in
    take (λ t. R (int field.MetaFlags z ∷ t)) qs (field_back l notation.Count32 note.Count count32_view field.Columns (role.MetaColumns rows flags) qs rest NoMore s d) λ n qs p s d.
    let state : List Symbol = where_set flags 0x02 (plain field.PagingState notation.Bytes32 ∷ []) in
    let due : List Symbol = if has flags 0x04 then [] else productions.specs flags n in
    let last : List Symbol = if rows then In field.Rows notation.Count32 (role.PageRows flags n) ∷ [] else [] in
    take (λ t. R (int field.MetaFlags z ∷ count field.Columns n ∷ t)) qs ((where_back {l = l} (bytes_back field.PagingState) flags 0x02).run qs (due ++ (last ++ rest)) NoMore s (rw (due_in_line state due last rest) at d)) λ o qs p s d.
    take (λ t. R (int field.MetaFlags z ∷ count field.Columns n ∷ (paging_parts o ++ t))) qs (described_back l flags n (has flags 0x04) refl qs (last ++ rest) s d) λ x rs q s d.
    record {
      item = record { flags = z; columns = n; paging = o; table = x.0; specs = x.1 };
      left = rs;
      whole = ap (λ t. int field.MetaFlags z ∷ count field.Columns n ∷ t) (in_line (paging_parts o) (table_parts x.0) (where_some (flat_map spec_parts) x.1) rs);
      holds = (both _ _ p.0 q.0, q.1, q.2, q.3);
      sound = s;
      derives = d;
    }

-- ---- pages

cell_back : (l : Rules) (row column : ℕ) (k : Kind) (inner : Types) (ps : List Part) (rest : List Symbol) (described : Types) → AreSound ps → Derives l ps (Cell_due row column k inner ∷ rest) described
    → Gives l Values (λ v. Cell_is row column k inner v ∷ []) sure (λ v. described) (λ v. rest) ps
cell_back l row column k inner (Cell_is row' column' k' inner' v ∷ left) rest described s d = record { item = v; left = left; whole = rw (d.0.row_is, d.0.column_is, d.0.kind_is, d.0.inner_is) refl; holds = refl; sound = s.1; derives = d.1 }
cell_back l row column k inner [] rest described s d = absurd cc
cell_back l row column k inner (Field_is g m v ∷ left) rest described s d = absurd d
cell_back l row column k inner (Type_is t ∷ left) rest described s d = absurd d

row_back : (l : Rules) (row column : ℕ) (types : Types) (ps : List Part) (rest : List Symbol) (described : Types) → AreSound ps → Derives l ps (row_from row column types ++ rest) described
    → Gives l (List Values) (row_parts row column types) (λ vs. length vs ≡ how_many types) (λ vs. described) (λ vs. rest) ps
row_back l row column NoMore ps rest described s d = record { item = []; left = ps; whole = refl; holds = refl; sound = s; derives = d }
row_back l row column (Type_and k inner others) ps rest described s d =
    let R : List Part → Type 0 = Gives l (List Values) (row_parts row column (Type_and k inner others)) (λ vs. length vs ≡ how_many (Type_and k inner others)) (λ vs. described) (λ vs. rest) in
    take R ps (cell_back l row column k inner ps (row_from row (column + 1) others ++ rest) described s d) λ v qs p s d.
    take (λ t. R (Cell_is row column k inner v ∷ t)) qs (row_back l row (column + 1) others qs rest described s d) λ vs rs q s d.
    record { item = v ∷ vs; left = rs; whole = refl; holds = omega (arith, q); sound = s; derives = d }

-- more cells change no row
row_more : (row column : ℕ) (types : Types) (vs ws : List Values) → length vs ≡ how_many types → row_parts row column types (vs ++ ws) ≡ row_parts row column types vs
row_more row column NoMore vs ws is = refl
row_more row column (Type_and k inner others) [] ws is = absurd (omega arith)
row_more row column (Type_and k inner others) (v ∷ vs) ws is = ap (λ t. Cell_is row column k inner v ∷ t) (row_more row (column + 1) others vs ws (omega arith))

rows_more : (row : ℕ) (types : Types) (n : ℕ) (vs ws : List Values) → length vs ≡ how_many types → rows_parts row types (suc n) (vs ++ ws) ≡ row_parts row 0 types vs ++ rows_parts (row + 1) types n ws
rows_more row types n vs ws is = rw (row_more row 0 types vs ws is, drop_at vs ws (how_many types) is) refl

rows_back : (l : Rules) (row : ℕ) (types : Types) (n : ℕ) (ps : List Part) (rest : List Symbol) (described : Types) → AreSound ps → Derives l ps (rows_from row types n ++ rest) described
    → Gives l (List Values) (rows_parts row types n) (λ vs. length vs ≡ n * how_many types) (λ vs. described) (λ vs. rest) ps
rows_back l row types zero ps rest described s d = record { item = []; left = ps; whole = refl; holds = omega arith; sound = s; derives = d }
rows_back l row types (suc n) ps rest described s d =
    let R : List Part → Type 0 = Gives l (List Values) (rows_parts row types (suc n)) (λ vs. length vs ≡ suc n * how_many types) (λ vs. described) (λ vs. rest) in
    take R ps (row_back l row 0 types ps (rows_from (row + 1) types n ++ rest) described s (rw (append_assoc (row_from row 0 types) (rows_from (row + 1) types n) rest) at d)) λ vs qs p s d.
    take (λ t. R (row_parts row 0 types vs ++ t)) qs (rows_back l (row + 1) types n qs rest described s d) λ ws rs q s d.
    record {
      item = vs ++ ws;
      left = rs;
      whole = sym (append_assoc (row_parts row 0 types vs) (rows_parts (row + 1) types n ws) rs) ∙ ap (λ t. t ++ rs) (sym (rows_more row types n vs ws p));
      holds = omega (arith, p, q, length-append vs ws);
      sound = s;
      derives = d;
    }

-- a page that agrees, has its cells, and room for its types
abbrev IsPage : (l : Rules) → Page → Type 0
IsPage l p = (metadata_agrees p.meta ≡ true) × (options_described p.meta.specs ≤ l.entries) × ((length p.cells == p.rows * p.meta.columns) ≡ true)

pub page_back : (l : Rules) (ps : List Part) (rest : List Symbol) (described : Types) → AreSound ps → Derives l ps (In field.MetaFlags notation.Int (role.MetaFlags true) ∷ rest) described → Gives l Page page_parts (IsPage l) (λ p. described_types p.meta.specs) (λ p. rest) ps
page_back l ps rest described s d =
    let R : List Part → Type 0 = Gives l Page page_parts (IsPage l) (λ p. described_types p.meta.specs) (λ p. rest) in
    take R ps (metadata_back l true ps rest described s d) λ m qs p s d.
    take (λ t. R (metadata_parts m ++ t)) qs (field_back l notation.Count32 note.Count count32_view field.Rows (role.PageRows (bits m.flags) m.columns) qs rest (described_types m.specs) s d) λ n rs q s d.
    take (λ t. R (metadata_parts m ++ (count field.Rows n ∷ t))) rs (rows_back l 0 (cell_types m) n rs rest (described_types m.specs) s (rw p.3 at d)) λ vs rs q s d.
    record {
      item = record { meta = m; rows = n; cells = vs };
      left = rs;
      whole = sym (append_assoc (metadata_parts m) (count field.Rows n ∷ rows_parts 0 (cell_types m) n vs) rs);
      holds = (p.0, p.1, eq-eqb (length vs) (n * m.columns) (q ∙ ap (λ k. n * k) p.2));
      sound = s;
      derives = d;
    }

-- ---- prepared statements

-- a prepared statement that agrees, and room for its types
abbrev IsPrepared : (l : Rules) → PreparedStatement → Type 0
IsPrepared l p = (prepared_agrees p ≡ true) × (options_among p.specs ≤ l.entries) × (options_described p.result.specs ≤ l.entries)

keys_in_line : (i : Part) (z n k : Part) (ks cs ms left : List Part) → i ∷ z ∷ n ∷ k ∷ (ks ++ (cs ++ (ms ++ left))) ≡ (i ∷ z ∷ n ∷ ((k ∷ ks ++ cs) ++ ms)) ++ left
keys_in_line i z n k ks cs ms left = simp append_assoc

pub prepared_back : (l : Rules) (ps : List Part) (rest : List Symbol) (described : Types) → AreSound ps → Derives l ps (plain field.StatementId notation.Bytes16 ∷ In field.MetaFlags notation.Int role.PreparedFlags ∷ rest) described
    → Gives l PreparedStatement prepared_parts (IsPrepared l) (λ p. described_types p.result.specs) (λ p. rest) ps
prepared_back l ps rest described s d =
    let R : List Part → Type 0 = Gives l PreparedStatement prepared_parts (IsPrepared l) (λ p. described_types p.result.specs) (λ p. rest) in
    take R ps ((statement_back {l = l}).run ps (In field.MetaFlags notation.Int role.PreparedFlags ∷ rest) described s d) λ i qs p s d.
    take (λ t. R (statement i ∷ t)) qs (field_back l notation.Int note.Int int_view field.MetaFlags role.PreparedFlags qs rest described s d) λ z qs p s d.
    let flags : ℕ = bits z in
    take (λ t. R (statement i ∷ int field.MetaFlags z ∷ t)) qs (field_back l notation.Count32 note.Count count32_view field.Columns (role.PreparedColumns flags) qs rest NoMore s d) λ n qs p s d.
    take (λ t. R (statement i ∷ int field.MetaFlags z ∷ count field.Columns n ∷ t)) qs (field_back l notation.Count32 note.Count count32_view field.Keys (role.PreparedKeys flags n) qs rest NoMore s d) λ k qs p s d.
    let keys : List Symbol = copies k (group group_of.KeyIndexes) in
    let specs : List Symbol = productions.specs flags n in
    let last : List Symbol = In field.MetaFlags notation.Int (role.MetaFlags false) ∷ [] in
    take (λ t. R (statement i ∷ int field.MetaFlags z ∷ count field.Columns n ∷ count field.Keys k ∷ t)) qs ((copies_back {l = l} any (short_back field.KeyIndex) k).run qs (specs ++ (last ++ rest)) NoMore s (rw (due_in_line keys specs last rest) at d)) λ ks qs p s d.
    take (λ t. R (statement i ∷ int field.MetaFlags z ∷ count field.Columns n ∷ count field.Keys k ∷ (flat_map (λ k. bodies.short field.KeyIndex k ∷ []) ks ++ t))) qs (specs_back l flags n qs (last ++ rest) s d) λ x qs q s d.
    take (λ t. R (statement i ∷ int field.MetaFlags z ∷ count field.Columns n ∷ count field.Keys k ∷ (flat_map (λ k. bodies.short field.KeyIndex k ∷ []) ks ++ (specs_parts x.0 x.1 ++ t)))) qs (metadata_back l false qs rest (column_types x.1) s d) λ m rs r s d.
    record {
      item = record { id = i; flags = z; columns = n; keys = ks; table = x.0; specs = x.1; result = m };
      left = rs;
      whole = rw (sym p.0) (keys_in_line (statement i) (int field.MetaFlags z) (count field.Columns n) (count field.Keys (length ks)) (flat_map (λ k. bodies.short field.KeyIndex k ∷ []) ks) (specs_parts x.0 x.1) (metadata_parts m) rs);
      holds = (both _ _ q.0 r.0, q.2, r.1);
      sound = s;
      derives = d;
    }
