-- A table as types are added to it, one after the other.
use Rattle.std.proofs.Common.{◌≡◌, ℕ, ◌+◌, ◌<◌, ◌≤◌, get_or, false, List, [], ◌++◌, length, take, min, sym, ap, subst, ◌∙◌, arith}
use Rattle.std.proofs.lemmas.List.{take_all}
use Rattle.cqlp_note.specs.declared.limits.Limits.{Limits}
use Rattle.cqlp_note.specs.Limits.{rules_of}
use Rattle.cqlp_note.specs.Partial.{FieldState, IsNew}
use Rattle.cqlp_kind.specs.declared.node.Node.{Node}
use Rattle.cqlp_kind.specs.Types.{IsPreorder, preorder}
use Rattle.cqlp_type.specs.declared.tree.TypeTree.{TypeTree}
use Rattle.cqlp_type.specs.Progress.{TypeState, new_reader}
use Rattle.cqlp_type.specs.Table.{Table}
use Rattle.cqlp_type.specs.Trees.{options_in, types_in}
use Rattle.cqlp_type.specs.TypeLists.{listed_types}
use Rattle.cqlp_type.specs.TypeTrees.{tree_of, trees_size}
use Rattle.cqlp_type.proofs.OpenTypes.{nothing_whole}
use Rattle.cqlp_type_tables.specs.Making.{AreWritable, table_of}
use Rattle.cqlp_type_tables.specs.Reading.{IsIdle, IsReadAs}
use Rattle.cqlp_type_tables.proofs.Fitting.{fits, one_of, read_as, nodes_next, nodes_long}

-- The first i types are in the table, and the limits are those of them all.
pub record Filled (types : List TypeTree) (size i : ℕ) (r : TypeState) (p : FieldState) (t : Table) : Type 0 where
  pub nodes : t.nodes ≡ preorder (types_in (listed_types (take i types)))
  pub room : t.room ≡ options_in (listed_types types)
  pub whole : IsPreorder t.nodes
  pub idle : IsIdle r p
  pub text : r.rules.text ≡ min size 65535
  pub entries : r.rules.entries ≡ options_in (listed_types types)
  pub depth : r.rules.depth ≡ options_in (listed_types types)

pub starts : (types : List TypeTree) (size n : ℕ) (limits : Limits) (r : TypeState) (p : FieldState) (t : Table) → n ≡ options_in (listed_types types) → limits.text ≡ min size 65535 → limits.entries ≡ n → limits.depth ≡ n → r ≡ new_reader (rules_of limits) → IsNew limits.text p → t ≡ record { nodes = []; room = n } → Filled types size 0 r p t
starts types size n limits r p t many text entries depth reader partial table =
    let nodes : t.nodes ≡ [] = ap (λ (x : Table). x.nodes) table in
    let limit : r.rules.text ≡ limits.text = ap (λ (x : TypeState). x.rules.text) reader in
    record {
      nodes = nodes;
      room = ap (λ (x : Table). x.room) table ∙ many;
      whole = subst (λ (x : List Node). IsPreorder x) (sym nodes) nothing_whole;
      idle = record { option = ap (λ (x : TypeState). x.under_way) reader; field = partial.idle; room = omega (arith, limit, partial.room) };
      text = limit ∙ text;
      entries = ap (λ (x : TypeState). x.rules.entries) reader ∙ entries ∙ many;
      depth = ap (λ (x : TypeState). x.rules.depth) reader ∙ depth ∙ many;
    }

module _ (types : List TypeTree) (size i : ℕ) (r : TypeState) (p : FieldState) (t : Table) (filled : Filled types size i r p t) where
  -- how many nodes there are
  so_far : length t.nodes ≡ options_in (listed_types (take i types))
  so_far = ap (length {A = Node}) filled.nodes ∙ nodes_long (take i types)

  pub read_next : (tree : TypeTree) → tree ≡ get_or types i tree → i < length types → AreWritable (listed_types types) → trees_size false (listed_types types) ≡ size → IsReadAs r.rules t.nodes (tree_of tree)
  read_next tree here lt writable all =
      let one = one_of types i tree here lt (fits (listed_types types) writable) in
      read_as r.rules t.nodes size tree one.fits (omega (arith, one.size, all)) filled.text (omega (arith, one.nodes, filled.depth)) (omega (arith, one.nodes, filled.entries, so_far))

  pub filled_next : (tree : TypeTree) (r' : TypeState) (p' : FieldState) (t' : Table) → tree ≡ get_or types i tree → i < length types → t' ≡ record t { nodes = t.nodes ++ preorder (types_in (tree_of tree)) } → IsPreorder t'.nodes → IsIdle r' p' → r'.rules ≡ r.rules → Filled types size (i + 1) r' p' t'
  filled_next tree r' p' t' here lt table whole idle rules = record {
    nodes = ap (λ (x : Table). x.nodes) table ∙ ap (λ (ns : List Node). ns ++ preorder (types_in (tree_of tree))) filled.nodes ∙ sym (nodes_next types i tree here lt);
    room = ap (λ (x : Table). x.room) table ∙ filled.room;
    whole = whole;
    idle = idle;
    text = ap (λ x. x.text) rules ∙ filled.text;
    entries = ap (λ x. x.entries) rules ∙ filled.entries;
    depth = ap (λ x. x.depth) rules ∙ filled.depth;
  }

  pub filled_all : length types ≤ i → t ≡ table_of (listed_types types)
  filled_all le =
      let nodes : t.nodes ≡ preorder (types_in (listed_types types)) = filled.nodes ∙ ap (λ (ts : List TypeTree). preorder (types_in (listed_types ts))) (take_all i types le) in
      λ k. record { nodes = nodes k; room = filled.room k }
