use Rattle.std.proofs.Common.{◌≡◌, ◌∙◌, ap, take, drop, length, ◌-◌, List, ℕ, arith}
use Rattle.std.specs.Int.{w32, from_be_bytes}
use Rattle.cqlp_cell.specs.Progress.{state_of}
use Rattle.cqlp_cell.proofs.WholeItems.{counted_whole, rest_all}
use Rattle.cqlp_cell.proofs.progress.CellProgress.take_counted.Goals as goal

pub returns-clause-takes : goal.returns-clause-takes
returns-clause-takes g c =
    let r = c.requires in
    let nodes = c.args.table.now.nodes in
    let d = state_of c.args.self.now in
    let input = c.args.input.now in
    let count = c.from_be_bytes-count.result in
    let some : count ≡ from_be_bytes w32 (take 4 (take (length input - 4) (drop 4 input))) = c.from_be_bytes-count.ensures ∙ ap (λ (b : List ℕ). from_be_bytes w32 b) c.read_array.ensures in
    let is : count ≡ from_be_bytes w32 (take 4 (drop 4 input)) = some ∙ ap (λ (b : List ℕ). from_be_bytes w32 (take 4 b)) (rest_all 4 input) in
    rw (c.len-level.ensures.is, r.value) (counted_whole nodes d (state_of c.enter_counted.new.self) c.args.len input r.conforms r.fresh r.due r.room r.within r.length count r.decided (omega (arith, c.if-len-lt4.false)) (omega (arith, c.if-input-lt8.false)) is (omega (arith, c.if-count.false)) c.enter_counted.ensures.enters)
