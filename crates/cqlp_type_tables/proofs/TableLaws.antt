-- The laws of tables that are made of types.
use Rattle.std.proofs.Common.{◌≡◌, ℕ, ◌+◌, true, List, [], ◌∷◌, length, map, Result, Ok, Err, refl, sym, ap, ◌∙◌, subst, arith}
use Rattle.cqlp_kind.specs.declared.kind.Kind.{Kind}
use Rattle.cqlp_kind.specs.declared.kind.Kind.TheVariants as kind
use Rattle.cqlp_kind.specs.declared.node.Node.{Node}
use Rattle.cqlp_kind.specs.Types.{Types, Type_and, HasInner, AreFormed, IsPreorder, is_plain, preorder, types_of}
use Rattle.cqlp_type.specs.Laws.{AreTypesOf}
use Rattle.cqlp_type.specs.Table.{Table}
use Rattle.cqlp_type.specs.Trees.{Head, Plain, Custom, ListOf, SetOf, MapOf, TupleOf, UdtOf, Trees, NoTree, Tree_and, kind_in, trees_in, types_in, IsHead, AreTrees}
use Rattle.cqlp_type.specs.TypeLists.{listed_types}
use Rattle.cqlp_type.specs.TypeTrees.{head_of, inner_of, tree_of}
use Rattle.cqlp_type.proofs.Forests.{many_types as as_many, many_nodes, types_of_own_preorder}
use Rattle.cqlp_type.proofs.SpelledRead.{tree_read}
use Rattle.cqlp_type.proofs.TreeLengths.{many_types}
use Rattle.cqlp_type.proofs.WholeTables.{are_types}
use Rattle.cqlp_type.proofs.WrittenTrees.{trees_are}
use Rattle.cqlp_message.specs.declared.response.Spec.{Spec}
use Rattle.cqlp_message.specs.Bodies.{column_types}
use Rattle.cqlp_message.specs.Owned.{spec_of}
use Rattle.cqlp_type_tables.specs.declared.making.TableError.{TableError}
use Rattle.cqlp_type_tables.specs.declared.making.TableError.TheVariants as error
use Rattle.cqlp_type_tables.specs.Laws.{IsAsRead, IsOfTypes, IsOfColumns, OneAnswer, AreSame, ReadsTo}
use Rattle.cqlp_type_tables.specs.Making.{types_of_specs, Makes}
use Rattle.cqlp_type_tables.proofs.Fitting.{fits, nodes_more}

pub is_as_read : IsAsRead
is_as_read = record {
  none = refl;
  more = λ ts t l at b are spelled within.
      let nodes = preorder (types_in (listed_types ts)) in
      let read = tree_read l (tree_of t) 1 at (at + length b) nodes b refl are within.shallow within.short within.room spelled (omega arith) in
      subst (λ (after : List Node). ReadsTo l at nodes (tree_of t) b after) (sym (nodes_more ts t)) read;
}

-- ---- formed

plain_inner : (k : Kind) → is_plain k ≡ true → HasInner k 0
plain_inner kind.List e = absurd cc
plain_inner kind.Set e = absurd cc
plain_inner kind.Map e = absurd cc
plain_inner k e = tt

head_inner : (h : Head) (n : ℕ) → IsHead h n → HasInner (kind_in h) n
head_inner (Plain k) n is = rw is.1 (plain_inner k is.0)
head_inner (Custom class) n is = tt
head_inner ListOf n is = is
head_inner SetOf n is = is
head_inner MapOf n is = is
head_inner TupleOf n is = tt
head_inner (UdtOf keyspace name) n is = tt

pub are_formed : (t : Trees) → AreTrees t → AreFormed (types_in t)
are_formed NoTree are = tt
are_formed (Tree_and name h inner others) are = (rw (as_many inner) (head_inner h (trees_in inner) are.0), are_formed inner are.1, are_formed others are.2)

pub are_preorder : (ts : Trees) → AreTrees ts → IsPreorder (preorder (types_in ts))
are_preorder ts are = record { types = types_in ts; formed = are_formed ts are; are = refl }

pub is_of_types : IsOfTypes
is_of_types = λ ts writable.
    let trees = listed_types ts in
    let types = types_in trees in
    let nodes = preorder types in
    let are = are_types nodes (are_preorder trees (trees_are trees (fits trees writable).formed)) in
    let same : types_of nodes ≡ types = types_of_own_preorder types in
    let is = subst (λ (x : Types). AreTypesOf nodes x) same are in
    (is, is.many ∙ as_many trees ∙ many_types ts, sym (many_nodes trees))

-- ---- columns

columns_typed : (specs : List Spec) → types_in (listed_types (types_of_specs specs)) ≡ column_types (map spec_of specs)
columns_typed [] = refl
columns_typed (s ∷ specs) = ap (Type_and (kind_in (head_of s.tree)) (types_in (inner_of s.tree))) (columns_typed specs)

pub is_of_columns : IsOfColumns
is_of_columns specs = ap preorder (columns_typed specs)

-- ---- one answer

one : (ts : Trees) (r r' : Result Table TableError) → Makes ts r → Makes ts r' → AreSame r r'
one ts (Ok t) (Ok u) a b = b.2 ∙ sym a.2
one ts (Ok t) (Err error.NotWritable) a b = absurd (b a.0)
one ts (Ok t) (Err error.TooLong) a b = absurd (omega (arith, a.1, b.1))
one ts (Ok t) (Err error.NoMemory) a b = tt
one ts (Err error.NotWritable) (Ok u) a b = absurd (a b.0)
one ts (Err error.NotWritable) (Err error.NotWritable) a b = tt
one ts (Err error.NotWritable) (Err error.TooLong) a b = absurd (a b.0)
one ts (Err error.NotWritable) (Err error.NoMemory) a b = absurd (a b.0)
one ts (Err error.TooLong) (Ok u) a b = absurd (omega (arith, a.1, b.1))
one ts (Err error.TooLong) (Err error.NotWritable) a b = absurd (b a.0)
one ts (Err error.TooLong) (Err error.TooLong) a b = tt
one ts (Err error.TooLong) (Err error.NoMemory) a b = absurd (omega (arith, a.1, b.1))
one ts (Err error.NoMemory) (Ok u) a b = tt
one ts (Err error.NoMemory) (Err error.NotWritable) a b = absurd (b a.0)
one ts (Err error.NoMemory) (Err error.TooLong) a b = absurd (omega (arith, a.1, b.1))
one ts (Err error.NoMemory) (Err error.NoMemory) a b = tt

pub one_answer : OneAnswer
one_answer = one
