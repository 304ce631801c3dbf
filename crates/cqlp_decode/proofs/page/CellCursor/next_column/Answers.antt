use Rattle.std.proofs.Common.{◌≡◌, ℕ, ◌+◌, ◌⊎◌, List, length, Option, None, Some, refl, inl, inr, arith}
use Rattle.std.specs.Prelude.{slice_get}
use Rattle.cqlp_kind.specs.declared.node.Node.{Node}
use Rattle.cqlp_decode.specs.declared.page.Columns.TheVariants as columns
use Rattle.cqlp_decode.specs.declared.page.CellCursor.{CellCursor}
use Rattle.cqlp_decode.specs.Pages.{IsColumn, IsPage, IsSpan, NextColumn}
use Rattle.std.proofs.lemmas.Bool.{cases_lt, lt-ltb, le-ltb}
use Rattle.cqlp_decode.proofs.Columns.{column_there, next_typed, last_typed, others_raw, last_raw}
use Rattle.cqlp_decode.proofs.page.CellCursor.next_column.Goals as goal

-- where the column's type is
typed_here : (nodes : List Node) (depth : ℕ) (p : CellCursor) → (p.columns ≡ columns.Typed) ⊎ (p.columns ≡ columns.Given) → IsPage nodes depth p → IsColumn nodes depth columns.Typed p.column p.index
typed_here nodes depth p (inl e) page = rw e at page.0
typed_here nodes depth p (inr e) page = rw e at page.0

-- how many nodes it takes
span_there : (nodes : List Node) (p : CellCursor) → (p.columns ≡ columns.Typed) ⊎ (p.columns ≡ columns.Given) → (span : ℕ) → IsSpan nodes p.columns p.index span → (x : Node) → slice_get nodes p.index ≡ Some x → span ≡ x.span
span_there nodes p (inl e) span h = rw e at h
span_there nodes p (inr e) span h = rw e at h

pub overflow_add-index : goal.overflow_add-index
overflow_add-index g c =
    let h = typed_here c.args.table.now.nodes c.requires.page.0 c.args.self.now c.in-Typed.is c.requires.page.1 in
    let there = column_there c.args.table.now.nodes c.requires.page.0 c.args.self.now.index c.args.self.now.column h in
    let x = span_there c.args.table.now.nodes c.args.self.now c.in-Typed.is c.args.span c.requires.span there.x there.get in
    rw x (omega (arith, there.within, c.len-end.ensures.is, c.len-end.type_inv))

-- the next column, where the type is known
next_there : (nodes : List Node) (depth : ℕ) (p : CellCursor) → (p.columns ≡ columns.Typed) ⊎ (p.columns ≡ columns.Given) → (o : Option ℕ) → NextColumn nodes depth (record p { columns = columns.Typed }) o → NextColumn nodes depth p o
next_there nodes depth p (inl e) None n = rw e n
next_there nodes depth p (inl e) (Some i) n = rw e n
next_there nodes depth p (inr e) None n = rw e n
next_there nodes depth p (inr e) (Some i) n = rw e n

pub returns-in-Typed : goal.returns-in-Typed
returns-in-Typed g c = λ depth page.
    let nodes = c.args.table.now.nodes in
    let index = c.args.self.now.index in
    let column = c.args.self.now.column in
    let h = typed_here nodes depth c.args.self.now c.in-Typed.is page in
    let there = column_there nodes depth index column h in
    let x = span_there nodes c.args.self.now c.in-Typed.is c.args.span c.requires.span there.x there.get in
    next_there nodes depth c.args.self.now c.in-Typed.is c.then_some.result
    (rw (c.then_some.ensures, c.len-end.ensures.is, x) (elim (cases_lt (index + there.x.span) (length nodes)) [
      | inl few ↦ rw (lt-ltb _ _ few) (next_typed nodes depth index column h (index + there.x.span) refl few)
      | inr le ↦ rw (le-ltb _ _ le) (last_typed nodes depth index column h le)
    ]))

pub returns-in-Raw : goal.returns-in-Raw
returns-in-Raw g c = λ depth page.
    let lt = rw c.in-Raw.is at page.0 in
    let column = c.args.self.now.column in
    let n = c.in-Raw.columns in
    rw (c.in-Raw.is, c.then_some-in-Raw.ensures) (elim (cases_lt (column + 1) n) [
      | inl few ↦ rw (lt-ltb _ _ few) (others_raw n column lt, few)
      | inr le ↦ rw (le-ltb _ _ le) (last_raw n column lt le)
    ])
