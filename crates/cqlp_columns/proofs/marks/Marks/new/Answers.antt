use Rattle.std.proofs.Common.{◌≡◌, ◌^◌, ◌<◌, List, ℕ, ap, arith, length, ◌∙◌, sym}
use Rattle.std.proofs.lemmas.List.{length-replicate}
use Rattle.cqlp_columns.specs.Bits.{number_of_bytes, rounded}
use Rattle.cqlp_columns.proofs.Numbers.{ceil, no_bytes}
use Rattle.cqlp_columns.proofs.marks.Marks.new.Goals as goal

pub invariant_of-result : goal.invariant_of-result
invariant_of-result g c =
    let empty = c.in_ok-zeros.field-0.items in
    let valid = c.in_ok-zeros-2.field-0.items in
    let count = c.div_ceil-count.result in
    let empty_are = c.in_ok-zeros.ensures.items in
    let valid_are = c.in_ok-zeros-2.ensures.items in
    let empty_long : length empty ≡ count = ap (λ (x : List ℕ). length x) empty_are ∙ length-replicate count 0 in
    let valid_long : length valid ≡ count = ap (λ (x : List ℕ). length x) valid_are ∙ length-replicate count 0 in
    let empty_none : number_of_bytes empty ≡ 0 = ap (λ (x : List ℕ). number_of_bytes x) empty_are ∙ no_bytes count in
    let valid_none : number_of_bytes valid ≡ 0 = ap (λ (x : List ℕ). number_of_bytes x) valid_are ∙ no_bytes count in
    let empty_below : number_of_bytes empty < 1 = omega (arith, empty_none) in
    let valid_below : number_of_bytes valid < 1 = omega (arith, valid_none) in
    let is : count ≡ rounded c.args.room = c.div_ceil-count.ensures ∙ ceil c.args.room in
    let few : length valid < 2 ^ 32 = omega (arith, valid_long, is, c.ranges.room) in (
      valid_below,
      empty_below,
      omega arith,
      empty_long ∙ sym valid_long,
      few,
      c.in_ok-zeros-2.ensures.capacity ∙ sym valid_long,
      c.in_ok-zeros.ensures.capacity ∙ sym empty_long,
    )
