use Rattle.std.proofs.Common.{◌∙◌, ◌<◌, ◌≤◌, ◌^◌, ap, sym, subst, List, ℕ, arith}
use Rattle.std.specs.Int.{w32, from_be_bytes}
use Rattle.cqlp_cell.specs.declared.size.Sized.TheVariants as size
use Rattle.cqlp_cell.specs.Coming.{room_of}
use Rattle.cqlp_cell.specs.Reading.{Decided}
use Rattle.cqlp_cell.specs.Progress.{due_value, state_of}
use Rattle.cqlp_cell.proofs.Coming.{value_due}
use Rattle.cqlp_cell.proofs.Settling.{value_decided}
use Rattle.cqlp_cell.proofs.WholeItems.{null_whole, empty_whole, fields_whole}
use Rattle.cqlp_cell.proofs.progress.CellProgress.take_front.Goals as goal

pub overflow_sub-value : goal.overflow_sub-value
overflow_sub-value g c = rw c.value-value.ensures (value_due c.args.table.now.nodes (state_of c.args.self.now) c.requires.conforms c.requires.due).inside

pub take_counted-requires-clause-decided : goal.take_counted-requires-clause-decided
take_counted-requires-clause-decided g c =
    let nodes = c.args.table.now.nodes in
    let d = state_of c.args.self.now in
    let h = c.in-Counted.ensures in
    let s = size.Counted c.in-Counted.len in
    subst (λ (n : ℕ). Decided nodes d n s) (sym h.can.0) (value_decided nodes d c.value-value.result c.from_be_bytes-len.result s c.value-value.ensures h)

pub enter_fields-requires-clause-decided : goal.enter_fields-requires-clause-decided
enter_fields-requires-clause-decided g c =
    let nodes = c.args.table.now.nodes in
    let d = state_of c.args.self.now in
    let h = c.in-Fields.ensures in
    let s = size.Fields c.in-Fields.len in
    subst (λ (n : ℕ). Decided nodes d n s) (sym h.can.0) (value_decided nodes d c.value-value.result c.from_be_bytes-len.result s c.value-value.ensures h)

pub returns-in-Null-clause-takes : goal.returns-in-Null-clause-takes
returns-in-Null-clause-takes g c =
    let r = c.requires in
    let nodes = c.args.table.now.nodes in
    let d = state_of c.args.self.now in
    let h = value_decided nodes d c.value-value.result c.from_be_bytes-len.result _ c.value-value.ensures c.in-Null.ensures in
    let number = c.from_be_bytes-len.ensures ∙ ap (λ (b : List ℕ). from_be_bytes w32 b) c.read_array.ensures in
    let room : 4 ≤ room_of nodes d = rw (← c.value-value.ensures) (omega (arith, c.if-value-at-lt4.false)) in
    null_whole nodes d (state_of c.pass.new.self) c.from_be_bytes-len.result c.args.input.now r.conforms r.fresh r.due room (omega (arith, c.if-input-lt4.false)) number c.len-level.result h c.len-level.ensures.is c.pass.ensures.state

pub returns-in-Empty-clause-takes : goal.returns-in-Empty-clause-takes
returns-in-Empty-clause-takes g c =
    let r = c.requires in
    let nodes = c.args.table.now.nodes in
    let d = state_of c.args.self.now in
    let h = value_decided nodes d c.value-value.result c.from_be_bytes-len.result _ c.value-value.ensures c.in-Empty.ensures in
    let number = c.from_be_bytes-len.ensures ∙ ap (λ (b : List ℕ). from_be_bytes w32 b) c.read_array.ensures in
    let room : 4 ≤ room_of nodes d = rw (← c.value-value.ensures) (omega (arith, c.if-value-at-lt4.false)) in
    empty_whole nodes d (state_of c.pass-in-Empty.new.self) c.from_be_bytes-len.result c.args.input.now r.conforms r.fresh r.due room (omega (arith, c.if-input-lt4.false)) number c.len-level.result h c.len-level.ensures.is c.pass-in-Empty.ensures.state

pub returns-in-Fields-clause-takes : goal.returns-in-Fields-clause-takes
returns-in-Fields-clause-takes g c =
    let r = c.requires in
    let nodes = c.args.table.now.nodes in
    let d = state_of c.args.self.now in
    let sized = c.in-Fields.ensures in
    let h = value_decided nodes d c.value-value.result c.from_be_bytes-len.result _ c.value-value.ensures sized in
    let number = c.from_be_bytes-len.ensures ∙ ap (λ (b : List ℕ). from_be_bytes w32 b) c.read_array.ensures in
    let room : 4 ≤ room_of nodes d = rw (← c.value-value.ensures) (omega (arith, c.if-value-at-lt4.false)) in
    let low : (due_value nodes d).arity < 2 ^ 16 = rw (← c.value-value.ensures) (omega arith) in
    let whole = fields_whole nodes d (state_of c.enter_fields.new.self) c.from_be_bytes-len.result c.args.input.now r.conforms r.fresh r.due room (omega (arith, c.if-input-lt4.false)) number (rw sized.can.0 at h) low (rw sized.can.0 at c.enter_fields.ensures.enters) in
    rw (c.len-level.ensures.is, c.from.ensures, c.value-value.ensures) whole
