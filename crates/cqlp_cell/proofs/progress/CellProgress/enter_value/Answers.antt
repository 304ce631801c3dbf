use Rattle.std.proofs.Common.{◌∙◌, ap, sym, subst, List, ℕ, arith}
use Rattle.std.specs.Int.{w32, from_be_bytes}
use Rattle.cqlp_cell.specs.declared.size.Sized.TheVariants as size
use Rattle.cqlp_cell.specs.Reading.{Decided}
use Rattle.cqlp_cell.specs.Progress.{state_of}
use Rattle.cqlp_cell.proofs.Coming.{value_due}
use Rattle.cqlp_cell.proofs.Settling.{value_decided}
use Rattle.cqlp_cell.proofs.progress.CellProgress.enter_value.Goals as goal

pub overflow_sub-room : goal.overflow_sub-room
overflow_sub-room g c = rw c.value-value.ensures (value_due c.args.table.now.nodes (state_of c.args.self.now) c.requires.conforms (sym c.due.ensures ∙ c.in-Value.is)).inside

pub enter_sized-requires-clause-decided : goal.enter_sized-requires-clause-decided
enter_sized-requires-clause-decided g c =
    let nodes = c.args.table.now.nodes in
    let d = state_of c.args.self.now in
    let h = c.in-Counted.ensures in
    let s = size.Counted c.in-Counted.len in
    subst (λ (n : ℕ). Decided nodes d n s) (sym h.can.0) (value_decided nodes d c.value-value.result c.from_be_bytes-len.result s c.value-value.ensures h)

pub enter_sized-requires-clause-room : goal.enter_sized-requires-clause-room
enter_sized-requires-clause-room g c = rw (← c.value-value.ensures) (omega arith)

pub enter_sized-requires-clause-length : goal.enter_sized-requires-clause-length
enter_sized-requires-clause-length g c = c.in-Counted.ensures.can.0 ∙ c.from_be_bytes-len.ensures ∙ ap (λ (b : List ℕ). from_be_bytes w32 b) c.read_array.ensures
