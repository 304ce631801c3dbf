use Rattle.std.proofs.Common.{◌≡◌, ◌^◌, ◌<◌, List, ℕ, length, arith, ◌∙◌, ap, sym}
use Rattle.cqlp_columns.specs.Bits.{number_of_bytes}
use Rattle.cqlp_columns.proofs.Numbers.{no_bytes, written}
use Rattle.cqlp_columns.proofs.bits.Bits.clear.Goals as goal

pub invariant_of-self : goal.invariant_of-self
invariant_of-self g c =
    let new = c.fill_zeros.new.bytes in
    let items = c.self.inside.bytes.items in
    let long : length new ≡ length items = omega (arith, c.fill_zeros.auto.bytes, ap (λ (x : List ℕ). length x) c.as_mut_slice.ensures.value) in
    let none : number_of_bytes new ≡ 0 = ap (λ (x : List ℕ). number_of_bytes x) c.fill_zeros.ensures ∙ no_bytes _ in
    let below : number_of_bytes new < 1 = omega (arith, none) in
    let few : length new < 2 ^ 32 = omega (arith, long, c.self.invariant.2) in
    rw (written new items c.self.inside.bytes.len (omega (arith, c.as_mut_slice.ensures.len, c.fill_zeros.auto.bytes))) (below, omega arith, few, c.self.invariant.3 ∙ sym long)
