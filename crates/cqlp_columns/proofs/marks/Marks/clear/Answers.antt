use Rattle.std.proofs.Common.{◌≡◌, ◌^◌, ◌<◌, List, ℕ, length, arith, ◌∙◌, ap, sym}
use Rattle.cqlp_columns.specs.Bits.{number_of_bytes}
use Rattle.cqlp_columns.proofs.Numbers.{no_bytes, written}
use Rattle.cqlp_columns.proofs.marks.Marks.clear.Goals as goal

pub invariant_of-self : goal.invariant_of-self
invariant_of-self g c =
    let i = c.self.invariant in
    let valid = c.fill_zeros.new.bytes in
    let empty = c.fill_zeros-2.new.bytes in
    let valid_were = c.self.inside.valid.items in
    let empty_were = c.self.inside.empty.items in
    let valid_long : length valid ≡ length valid_were =
    omega (arith, c.fill_zeros.auto.bytes, ap (λ (x : List ℕ). length x) c.as_mut_slice.ensures.value)
    in
    let empty_long : length empty ≡ length empty_were =
    omega (arith, c.fill_zeros-2.auto.bytes, ap (λ (x : List ℕ). length x) c.as_mut_slice-2.ensures.value)
    in
    let valid_none : number_of_bytes valid ≡ 0 = ap (λ (x : List ℕ). number_of_bytes x) c.fill_zeros.ensures ∙ no_bytes _ in
    let empty_none : number_of_bytes empty ≡ 0 = ap (λ (x : List ℕ). number_of_bytes x) c.fill_zeros-2.ensures ∙ no_bytes _ in
    let valid_below : number_of_bytes valid < 1 = omega (arith, valid_none) in
    let empty_below : number_of_bytes empty < 1 = omega (arith, empty_none) in
    let few : length valid < 2 ^ 32 = omega (arith, valid_long, i.4) in
    let valid_back = written valid valid_were c.self.inside.valid.len (omega (arith, c.as_mut_slice.ensures.len, c.fill_zeros.auto.bytes)) in
    let empty_back = written empty empty_were c.self.inside.empty.len (omega (arith, c.as_mut_slice-2.ensures.len, c.fill_zeros-2.auto.bytes)) in
    rw (valid_back, empty_back) (valid_below, empty_below, omega arith, empty_long ∙ i.3 ∙ sym valid_long, few, i.5 ∙ sym valid_long, i.6 ∙ sym empty_long)
