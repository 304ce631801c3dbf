use Rattle.std.proofs.Common.{◌≡◌, ◌-◌, ◌≤◌, ℕ, ap, arith, drop, length, subst, sym}
use Rattle.cqlp_c.specs.WholePages.{quarters_size}
use Rattle.cqlp_c.proofs.CellWriting.{rest_long}
use Rattle.cqlp_c.proofs.whole_page.put_page.Goals as goal

pub write_cells-requires-clause-room : goal.write_cells-requires-clause-room
write_cells-requires-clause-room c =
    let at = c.put-at.result in
    let same : drop at c.put-at.new.room ≡ drop at c.args.bytes.now = c.put-at.ensures.others at (omega arith) in
    let enough : quarters_size c.args.page.now.cells ≤ length c.args.bytes.now - at = omega (arith, c.requires.size, c.put-at.ensures.behind, ap length c.deref.ensures.value, c.len-len.ensures, c.if-bytes-len-2.false) in
    subst (λ (n : ℕ). quarters_size c.args.page.now.cells ≤ n) (sym (rest_long c.args.bytes.now c.put-at.new.room at same)) enough
