use Rattle.std.proofs.Common.{◌≡◌, ℕ, ◌+◌, ◌-◌, List, Some, inl, inr, ap, refl, sym, ◌∙◌}
use Rattle.std.specs.Prelude.{slice_get}
use Rattle.cqlp_kind.specs.declared.node.Node.{Node}
use Rattle.cqlp_kind.specs.Types.{NoMore}
use Rattle.cqlp_grammar.specs.Productions.{raw_types}
use Rattle.cqlp_decode.specs.declared.page.Columns.{Columns}
use Rattle.cqlp_decode.specs.declared.page.Columns.TheVariants as columns
use Rattle.cqlp_decode.specs.Pages.{IsSpan}
use Rattle.cqlp_decode.proofs.Columns.{column_there, raw_left}
use Rattle.cqlp_decode.proofs.page.CellCursor.head.Goals as goal

pub returns-in-Typed-clause-kind : goal.returns-in-Typed-clause-kind
returns-in-Typed-clause-kind g c = λ depth page. elim c.in-Typed.is [
  | inl e ↦
      let h = rw e at page.0 in
      let there = column_there c.args.table.now.nodes depth c.args.self.now.index c.args.self.now.column h in
      let same : Some c.unwrap-node.result ≡ Some there.x = sym c.unwrap-node.ensures ∙ c.node.ensures.is ∙ there.get in
      let x : c.unwrap-node.result ≡ there.x = cc in
      (there.inner, there.others, rw (e, x) there.is)
  | inr e ↦
      let h = rw e at page.0 in
      let there = column_there c.args.table.now.nodes depth c.args.self.now.index c.args.self.now.column h in
      let same : Some c.unwrap-node.result ≡ Some there.x = sym c.unwrap-node.ensures ∙ c.node.ensures.is ∙ there.get in
      let x : c.unwrap-node.result ≡ there.x = cc in
      (there.inner, there.others, rw (e, x) there.is)
]

known_span : (nodes : List Node) (c : Columns) (index span : ℕ) → ((x : Node) → slice_get nodes index ≡ Some x → span ≡ x.span) → IsSpan nodes c index span
known_span nodes columns.Typed index span h = h
known_span nodes columns.Given index span h = h
known_span nodes (columns.Raw n) index span h = tt

pub returns-in-Typed-clause-span : goal.returns-in-Typed-clause-span
returns-in-Typed-clause-span g c =
    known_span c.args.table.now.nodes c.args.self.now.columns c.args.self.now.index c.unwrap-node.result.span (λ x get.
    let same : Some c.unwrap-node.result ≡ Some x = sym c.unwrap-node.ensures ∙ c.node.ensures.is ∙ get in
    let is : c.unwrap-node.result ≡ x = cc in
    ap (λ (n : Node). n.span) is)

pub returns-in-Raw-clause-kind : goal.returns-in-Raw-clause-kind
returns-in-Raw-clause-kind g c = λ depth page.
    let lt = rw c.in-Raw.is at page.0 in
    (NoMore, raw_types (c.in-Raw.field-0 - (c.args.self.now.column + 1)), rw c.in-Raw.is (raw_left c.in-Raw.field-0 c.args.self.now.column lt))

pub returns-in-Raw-clause-span : goal.returns-in-Raw-clause-span
returns-in-Raw-clause-span g c = rw c.in-Raw.is tt

pub unwrap-node-requires : goal.unwrap-node-requires
unwrap-node-requires g c = elim c.in-Typed.is [
  | inl e ↦ let there = column_there c.args.table.now.nodes c.requires.0 c.args.self.now.index c.args.self.now.column (rw e at c.requires.1.0) in rw (c.node.ensures.is ∙ there.get) refl
  | inr e ↦ let there = column_there c.args.table.now.nodes c.requires.0 c.args.self.now.index c.args.self.now.column (rw e at c.requires.1.0) in rw (c.node.ensures.is ∙ there.get) refl
]
