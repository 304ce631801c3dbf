use Rattle.std.proofs.Common.{◌≡◌, ◌<◌, List, None, Some, length, get_or, map, sym, ap, ◌∙◌, subst}
use Rattle.std.specs.Prelude.{option_map}
use Rattle.cqlp_kind.specs.Types.{Types}
use Rattle.cqlp_type.specs.Trees.{types_in}
use Rattle.cqlp_type.specs.TypeTrees.{tree_of}
use Rattle.cqlp_value.specs.Owned.{value_of}
use Rattle.cqlp_message.specs.Bodies.{cell_types, types_described}
use Rattle.cqlp_message.specs.Owned.{metadata_of, spec_of}
use Rattle.cqlp_message.specs.declared.response.Spec.{Spec}
use Rattle.cqlp_build.specs.Productions.{BuildsCell, column_type}
use Rattle.cqlp_build.proofs.Columns.{column_readable, described_column, undescribed_column}
use Rattle.cqlp_build.proofs.held.FrameEvents.cell_of.Goals as goal

pub returns-in_default : goal.returns-in_default
returns-in_default c =
    let m = metadata_of c.args.meta.now in
    let none : m.specs ≡ None = ap (λ o. option_map (λ cs. map spec_of cs.items) o) c.in_default.is in
    subst (λ (t : Types). BuildsCell c.args.row c.args.column t (value_of c.cell.result) c.args.self.now c.cell.new.self)
    (sym (undescribed_column m c.args.column none c.requires.within)) c.cell.ensures

pub cell-requires-in-Some-get : goal.cell-requires-in-Some-get
cell-requires-in-Some-get c = λ s.
    let specs = c.in-Some.specs.items in
    let spec = c.in-Some-get.spec.now in
    let item = subst (λ (xs : List Spec). spec ≡ get_or xs c.args.column spec) c.deref.ensures.value c.in-Some-get.ensures.lookup.1 in
    let within = subst (λ (xs : List Spec). c.args.column < length xs) c.deref.ensures.value c.in-Some-get.ensures.lookup.3.0 in
    let emitted : (metadata_of c.args.meta.now).specs ≡ Some (map spec_of specs) = ap (λ o. option_map (λ cs. map spec_of cs.items) o) c.in-Some.is in
    column_readable specs c.args.column spec item within (c.requires.readable (map spec_of specs) emitted).1

pub returns-in-Some-get : goal.returns-in-Some-get
returns-in-Some-get c =
    let m = c.args.meta.now in
    let specs = c.in-Some.specs.items in
    let spec = c.in-Some-get.spec.now in
    let item = subst (λ (xs : List Spec). spec ≡ get_or xs c.args.column spec) c.deref.ensures.value c.in-Some-get.ensures.lookup.1 in
    let within = subst (λ (xs : List Spec). c.args.column < length xs) c.deref.ensures.value c.in-Some-get.ensures.lookup.3.0 in
    let same : column_type c.args.column (cell_types (metadata_of m)) ≡ types_in (tree_of spec.tree) =
    ap (λ o. column_type c.args.column (types_described m.columns (option_map (λ cs. map spec_of cs.items) o))) c.in-Some.is ∙ described_column specs c.args.column spec item within in
    subst (λ (t : Types). BuildsCell c.args.row c.args.column t (value_of c.cell-in-Some-get.result) c.args.self.now c.cell-in-Some-get.new.self) (sym same)
    c.cell-in-Some-get.ensures
