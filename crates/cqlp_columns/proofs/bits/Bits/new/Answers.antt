use Rattle.std.proofs.Common.{◌≡◌, ◌^◌, ◌<◌, List, ℕ, ap, arith, length, ◌∙◌, sym}
use Rattle.std.proofs.lemmas.List.{length-replicate}
use Rattle.cqlp_columns.specs.Bits.{number_of_bytes, rounded}
use Rattle.cqlp_columns.proofs.Numbers.{ceil, no_bytes}
use Rattle.cqlp_columns.proofs.bits.Bits.new.Goals as goal

pub invariant_of-result : goal.invariant_of-result
invariant_of-result g c =
    let items = c.in_ok-zeros.field-0.items in
    let count = c.div_ceil-count.result in
    let are = c.in_ok-zeros.ensures.items in
    let long : length items ≡ count = ap (λ (x : List ℕ). length x) are ∙ length-replicate count 0 in
    let none : number_of_bytes items ≡ 0 = ap (λ (x : List ℕ). number_of_bytes x) are ∙ no_bytes count in
    let below : number_of_bytes items < 1 = omega (arith, none) in
    let is : count ≡ rounded c.args.room = c.div_ceil-count.ensures ∙ ceil c.args.room in
    let few : length items < 2 ^ 32 = omega (arith, long, is, c.ranges.room) in
    (below, omega arith, few, c.in_ok-zeros.ensures.capacity ∙ sym long)
