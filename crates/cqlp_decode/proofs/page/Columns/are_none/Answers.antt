use Rattle.std.proofs.Common.{inl, inr}
use Rattle.cqlp_decode.proofs.Columns.{types_none, none_types}
use Rattle.cqlp_decode.proofs.page.Columns.are_none.Goals as goal

pub returns-in-Typed : goal.returns-in-Typed
returns-in-Typed g c = elim c.in-Typed.is [
  | inl e ↦ rw e ((λ yes. none_types c.args.table.now.nodes (c.is_empty.ensures.0 yes)), (λ none. c.is_empty.ensures.1 (types_none c.args.table.now.nodes none)))
  | inr e ↦ rw e ((λ yes. none_types c.args.table.now.nodes (c.is_empty.ensures.0 yes)), (λ none. c.is_empty.ensures.1 (types_none c.args.table.now.nodes none)))
]
