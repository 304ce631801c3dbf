use Rattle.std.proofs.Common.{◌∙◌, Some, ap, sym, subst, List, ℕ, arith}
use Rattle.std.specs.Int.{w32, from_be_bytes}
use Rattle.cqlp_cell.specs.declared.size.Sized.TheVariants as size
use Rattle.cqlp_cell.specs.declared.progress.DueValue.{DueValue}
use Rattle.cqlp_cell.specs.Progress.{state_of}
use Rattle.cqlp_cell.specs.Reading.{Decided}
use Rattle.cqlp_cell.specs.Whole.{next_begun}
use Rattle.cqlp_cell.proofs.Opened.{cell_there}
use Rattle.cqlp_cell.proofs.Settling.{value_decided}
use Rattle.cqlp_cell.proofs.progress.CellProgress.enter_next.Goals as goal

pub value_at-value-requires : goal.value_at-value-requires
value_at-value-requires g c =
    let d = state_of c.args.self.now in
    cell_there c.args.table.now.nodes d.rules (Some c.args.node) c.requires.conforms.next_conforms.1

pub overflow_sub-room : goal.overflow_sub-room
overflow_sub-room g c = rw c.value_at-value.ensures (omega (arith, c.requires.conforms.within))

pub enter_beside-requires-clause-decided : goal.enter_beside-requires-clause-decided
enter_beside-requires-clause-decided g c =
    let nodes = c.args.table.now.nodes in
    let b = next_begun (state_of c.args.self.now) c.args.level c.args.node in
    let h = c.in-Counted.ensures in
    let s = size.Counted c.in-Counted.len in
    subst (λ (n : ℕ). Decided nodes b n s) (sym h.can.0) (value_decided nodes b c.value_at-value.result c.from_be_bytes-len.result s c.value_at-value.ensures h)

pub enter_beside-requires-clause-room : goal.enter_beside-requires-clause-room
enter_beside-requires-clause-room g c =
    let e = ap (λ (v : DueValue). v.stop) c.value_at-value.ensures in
    omega (arith, e)

pub enter_beside-requires-clause-length : goal.enter_beside-requires-clause-length
enter_beside-requires-clause-length g c = c.in-Counted.ensures.can.0 ∙ c.from_be_bytes-len.ensures ∙ ap (λ (b : List ℕ). from_be_bytes w32 b) c.read_array.ensures
