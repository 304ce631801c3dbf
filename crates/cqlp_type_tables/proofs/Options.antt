-- The bytes of inner options, one after the other.
use Rattle.std.proofs.Common.{◌≡◌, ℕ, true, false, List, [], ◌∷◌, ◌++◌, length, refl, ap, ◌∙◌, sym, append_assoc, append-nil}
use Rattle.std.proofs.lemmas.Grind.{flat_map-append}
use Rattle.std.specs.Prelude.{string_bytes}
use Rattle.std.specs.List.{flat_map}
use Rattle.std.specs.Int.{w16, to_be_bytes}
use Rattle.std.specs.declared.string.String.{String}
use Rattle.std.specs.declared.alloc.Global.{Global}
use Rattle.std.specs.declared.vec.Vec.{Vec}
use Rattle.cqlp_note.specs.declared.field.Notation.TheVariants as notation
use Rattle.cqlp_note.specs.Field as note
use Rattle.cqlp_note.specs.Spelling.{field_bytes}
use Rattle.cqlp_kind.specs.declared.kind.Kind.TheVariants as kind
use Rattle.cqlp_type.specs.declared.tree.TypeTree.{TypeTree, Udt, Tuple}
use Rattle.cqlp_kind.specs.TypeStep.{TypeEvent, IsNode}
use Rattle.cqlp_type.specs.Trees.{trees_in, kind_in, has_names, head_items, trees_items, item_bytes, tree_bytes}
use Rattle.cqlp_type.specs.TypeTrees.{head_of, inner_of, tree_of}
use Rattle.cqlp_type.specs.TypeLists.{listed_types, listed_fields}
use Rattle.cqlp_type.proofs.TreeLengths.{inner_tuple, inner_udt, many_types, many_fields}

abbrev pub own_bytes : TypeTree → List ℕ
own_bytes t = tree_bytes (tree_of t)

abbrev pub field_option : String Global × TypeTree → List ℕ
field_option x = field_bytes notation.Text16 (note.Text (string_bytes x.0)) ++ own_bytes x.1

-- an option before others
split : (e : TypeEvent) (head inner others : List TypeEvent) → flat_map item_bytes (e ∷ (head ++ (inner ++ others))) ≡ flat_map item_bytes (e ∷ (head ++ (inner ++ []))) ++ flat_map item_bytes others
split e head inner others =
    let behind : head ++ (inner ++ others) ≡ (head ++ (inner ++ [])) ++ others = rw append-nil (sym (append_assoc head inner others)) in
    ap (λ (x : List TypeEvent). flat_map item_bytes (e ∷ x)) behind ∙ flat_map-append item_bytes (e ∷ (head ++ (inner ++ []))) others

before : (t : TypeTree) (others : List TypeEvent)
    → flat_map item_bytes (IsNode (kind_in (head_of t)) ∷ (head_items (head_of t) (trees_in (inner_of t)) ++ (trees_items (has_names (head_of t)) (inner_of t) ++ others))) ≡ own_bytes t ++ flat_map item_bytes others
before t others = split (IsNode (kind_in (head_of t))) (head_items (head_of t) (trees_in (inner_of t))) (trees_items (has_names (head_of t)) (inner_of t)) others

pub types_bytes : (ts : List TypeTree) → flat_map item_bytes (trees_items false (listed_types ts)) ≡ flat_map own_bytes ts
types_bytes [] = refl
types_bytes (t ∷ ts) = before t (trees_items false (listed_types ts)) ∙ ap (λ (x : List ℕ). own_bytes t ++ x) (types_bytes ts)

pub fields_bytes : (xs : List (String Global × TypeTree)) → flat_map item_bytes (trees_items true (listed_fields xs)) ≡ flat_map field_option xs
fields_bytes [] = refl
fields_bytes (x ∷ xs) =
    let name : List ℕ = field_bytes notation.Text16 (note.Text (string_bytes x.0)) in
    ap (λ (y : List ℕ). name ++ y) (before x.1 (trees_items true (listed_fields xs)) ∙ ap (λ (y : List ℕ). own_bytes x.1 ++ y) (fields_bytes xs)) ∙ sym (append_assoc name (own_bytes x.1) (flat_map field_option xs))

pub tuple_bytes : (v : Vec TypeTree Global) → own_bytes (Tuple v) ≡ item_bytes (IsNode kind.Tuple) ++ (to_be_bytes w16 (length v.items) ++ flat_map own_bytes v.items)
tuple_bytes v = rw (← types_bytes v.items, ← many_types v.items, ← inner_tuple v) (simp (flat_map-append, append_assoc, append-nil))

pub udt_bytes : (keyspace name : String Global) (v : Vec (String Global × TypeTree) Global)
    → own_bytes (Udt keyspace name v)
    ≡ item_bytes (IsNode kind.Udt) ++ (field_bytes notation.Text16 (note.Text (string_bytes keyspace)) ++ (field_bytes notation.Text16 (note.Text (string_bytes name)) ++ (to_be_bytes w16 (length v.items) ++ flat_map field_option v.items)))
udt_bytes keyspace name v = rw (← fields_bytes v.items, ← many_fields v.items, ← inner_udt keyspace name v) (simp (flat_map-append, append_assoc, append-nil))
