-- The types of a page's columns.
use Rattle.std.proofs.Common.{◌≡◌, ℕ, zero, suc, ◌<◌, List, [], ◌∷◌, map, length, Bool, true, Option, None, Some, refl, sym, ap, ◌∙◌, subst, arith, inl}
use Rattle.std.specs.Prelude.{◌&&◌, ◌==◌, get_or, not, option_map}
use Rattle.std.proofs.lemmas.Bool.{eqb-true}
use Rattle.std.proofs.lemmas.List.{length-map}
use Rattle.cqlp_note.specs.Heading.{has}
use Rattle.std.specs.List.{list_all}
use Rattle.cqlp_type.specs.Trees.{are_trees, is_tree, trees_in, types_in}
use Rattle.cqlp_type.specs.TypeTrees.{tree_of}
use Rattle.cqlp_message.specs.Agreement.{bits, columns_agree, metadata_agrees, spec_agrees, specs_agree, there_if}
use Rattle.cqlp_message.specs.Owned.{metadata_of, spec_of}
use Rattle.cqlp_message.proofs.PageWalks.{how_many-columns, how_many-raw}
use Rattle.cqlp_message.specs.declared.response.Metadata.{Metadata as OwnedMetadata}
use Rattle.cqlp_message.specs.declared.response.Spec.{Spec as OwnedSpec}
use Rattle.cqlp_build_cells.specs.Said.{IsReadable}
use Rattle.cqlp_build.proofs.Several.{both, join}
use Rattle.cqlp_kind.specs.declared.kind.Kind.TheVariants as kind
use Rattle.cqlp_kind.specs.Types.{NoMore, Type_and, how_many}
use Rattle.cqlp_grammar.specs.Productions.{raw_types}
use Rattle.cqlp_message.specs.Bodies.{cell_types, column_types, types_described}
use Rattle.cqlp_message.specs.FrameValues.{Metadata, Spec}
use Rattle.cqlp_build.specs.Productions.{AreReadable, column_type}

pub raw_column : (n i : ℕ) → i < n → column_type i (raw_types n) ≡ Type_and kind.Raw NoMore NoMore
raw_column zero i h = absurd (omega (arith, h))
raw_column (suc n) zero h = refl
raw_column (suc n) (suc i) h = raw_column n i (omega (arith, h))

-- where no columns are described
pub undescribed_column : (m : Metadata) (i : ℕ) → m.specs ≡ None → i < m.columns → column_type i (cell_types m) ≡ Type_and kind.Raw NoMore NoMore
undescribed_column m i e h = ap (λ o. column_type i (types_described m.columns o)) e ∙ raw_column m.columns i h

-- where they are
pub described_column : (specs : List OwnedSpec) (i : ℕ) (s : OwnedSpec) → s ≡ get_or specs i s → i < length specs → column_type i (column_types (map spec_of specs)) ≡ types_in (tree_of s.tree)
described_column [] i s h lt = absurd (omega (arith, lt))
described_column (c ∷ specs) zero s h lt = ap (λ (x : OwnedSpec). types_in (tree_of x.tree)) (sym h)
described_column (c ∷ specs) (suc i) s h lt = described_column specs i s h (omega (arith, lt))

pub column_readable : (specs : List OwnedSpec) (i : ℕ) (s : OwnedSpec) → s ≡ get_or specs i s → i < length specs → list_all (λ c. is_tree c.tree) (map spec_of specs) ≡ true → IsReadable s.tree
column_readable [] i s h lt r = absurd (omega (arith, lt))
column_readable (c ∷ specs) zero s h lt r =
    let first = both (is_tree (tree_of c.tree)) (list_all (λ d. is_tree d.tree) (map spec_of specs)) r in
    inl (ap (λ (x : OwnedSpec). are_trees (tree_of x.tree)) h ∙ (both (trees_in (tree_of c.tree) == 1) (are_trees (tree_of c.tree)) first.0).1)
column_readable (c ∷ specs) (suc i) s h lt r =
    column_readable specs i s h (omega (arith, lt)) (both (is_tree (tree_of c.tree)) (list_all (λ d. is_tree d.tree) (map spec_of specs)) r).1

-- ---- metadata that agrees

trees_described : (own : Bool) (specs : List Spec) → list_all (spec_agrees own) specs ≡ true → list_all (λ c. is_tree c.tree) specs ≡ true
trees_described own [] e = refl
trees_described own (c ∷ specs) e =
    let p = both (spec_agrees own c) (list_all (spec_agrees own) specs) e in
    let q = both (there_if own c.table) (is_tree c.tree) p.0 in
    join (is_tree c.tree) (list_all (λ d. is_tree d.tree) specs) q.1 (trees_described own specs p.1)

pub readable : (m : Metadata) → metadata_agrees m ≡ true → AreReadable m
readable m e specs emitted =
    let f = bits m.flags in
    let own = not (has f 0x01) in
    let c = (both (there_if (has f 0x02) m.paging) (columns_agree f m.columns m.table m.specs) e).1 in
    let d : columns_agree f m.columns m.table (Some specs) ≡ true = subst (λ (o : Option (List Spec)). columns_agree f m.columns m.table o ≡ true) emitted c in
    let s = (both (not (has f 0x04)) (specs_agree f m.columns m.table specs) d).1 in
    let p = both ((length specs == m.columns) && there_if (has f 0x01) m.table) (list_all (spec_agrees own) specs) s in
    let q = both (length specs == m.columns) (there_if (has f 0x01) m.table) p.0 in
    (eqb-true (length specs) m.columns q.0, trees_described own specs p.1)

-- there are as many types as columns
pub column_count : (m : OwnedMetadata) → AreReadable (metadata_of m) → how_many (cell_types (metadata_of m)) ≡ m.columns
column_count m r = by_specs m.specs refl
  where
    by_specs : (o : _) → o ≡ m.specs → how_many (types_described m.columns (option_map (λ cs. map spec_of cs.items) o)) ≡ m.columns
    by_specs None e = how_many-raw m.columns
    by_specs (Some cs) e =
        let is : (metadata_of m).specs ≡ Some (map spec_of cs.items) = ap (λ o. option_map (λ cs. map spec_of cs.items) o) (sym e) in
        how_many-columns cs.items ∙ (sym (length-map cs.items spec_of) ∙ (r (map spec_of cs.items) is).0)
