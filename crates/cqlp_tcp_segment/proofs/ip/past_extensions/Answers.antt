use Rattle.std.proofs.Common.{ℕ, ◌+◌, ◌-◌, ◌*◌, List, get_or, sym, ap, ◌∙◌, arith}
use Rattle.std.proofs.lemmas.List.{take_rest}
use Rattle.cqlp_tcp_segment.specs.Ip.{past_extensions, unit}
use Rattle.cqlp_tcp_segment.proofs.Extensions.{extensions_cut, extensions_ends, extensions_long, extensions_part, extensions_step, extensions_step_cut}
use Rattle.cqlp_tcp_segment.proofs.ip.past_extensions.Goals as goal

pub returns-then-bytes-lt2 : goal.returns-then-bytes-lt2
returns-then-bytes-lt2 c =
    sym c.loop-bytes.invariant ∙ extensions_cut c.loop-bytes.kind c.loop-bytes.size c.loop-bytes.bytes.now (sym c.is_extension.ensures ∙ c.loop-bytes-test.true) (omega arith)

pub returns-then-size-header : goal.returns-then-size-header
returns-then-size-header c =
    let long = rw c.unit.ensures.value at c.if-size-header.true in
    sym c.loop-bytes.invariant ∙ extensions_long c.loop-bytes.kind c.loop-bytes.size c.loop-bytes.bytes.now (sym c.is_extension.ensures ∙ c.loop-bytes-test.true) (omega arith) long

pub returns-then-bytes-header : goal.returns-then-bytes-header
returns-then-bytes-header c =
    let fits = rw c.unit.ensures.value at c.if-size-header.false in
    let cut = rw c.unit.ensures.value at c.if-bytes-header.true in
    sym c.loop-bytes.invariant ∙ extensions_step_cut c.loop-bytes.kind c.loop-bytes.size c.loop-bytes.bytes.now (sym c.is_extension.ensures ∙ c.loop-bytes-test.true) (omega arith) fits cut

pub returns-then-is_part : goal.returns-then-is_part
returns-then-is_part c =
    let fits = rw c.unit.ensures.value at c.if-size-header.false in
    let all = rw c.unit.ensures.value at c.if-bytes-header.false in
    let part = rw c.number_16.ensures at (sym c.is_part.ensures ∙ c.if-is_part.true) in
    sym c.loop-bytes.invariant ∙ extensions_part c.loop-bytes.kind c.loop-bytes.size c.loop-bytes.bytes.now (sym c.is_extension.ensures ∙ c.loop-bytes-test.true) (omega arith) fits all part

pub loop-bytes-preserved : goal.loop-bytes-preserved
loop-bytes-preserved c =
    let b = c.loop-bytes.bytes.now in
    let fits = rw c.unit.ensures.value at c.if-size-header.false in
    let all = rw c.unit.ensures.value at c.if-bytes-header.false in
    let whole = rw c.number_16.ensures at (sym c.is_part.ensures ∙ c.if-is_part.false) in
    rw c.unit.ensures.value (
    let n = 8 + unit c.loop-bytes.kind * get_or b 1 0 in
    ap (λ (z : List ℕ). past_extensions 0 (get_or b 0 0) (c.loop-bytes.size - n) z) (take_rest b n)
    ∙ extensions_step c.loop-bytes.kind c.loop-bytes.size b (sym c.is_extension.ensures ∙ c.loop-bytes-test.true) (omega arith) fits all whole
    ∙ c.loop-bytes.invariant)

pub returns : goal.returns
returns c =
    sym c.loop-bytes.invariant ∙ extensions_ends c.loop-bytes.kind c.loop-bytes.size c.loop-bytes.bytes.now (sym c.is_extension.ensures ∙ c.loop-bytes-test.false)
