use Rattle.std.proofs.Common.{◌≡◌, ◌+◌, ◌*◌, ◌^◌, ◌≤◌, ◌<◌, List, ℕ, Bool, length, arith, ◌∙◌, ap, sym}
use Rattle.std.specs.Vec.{vec_ptr}
use Rattle.cqlp_columns.specs.Bits.{bits, number_of_bytes, worth}
use Rattle.cqlp_columns.proofs.Numbers.{digits_pushed, length-digits, sum_below, written}
use Rattle.cqlp_columns.proofs.bits.Bits.push.Goals as goal

pub add_bit-requires-clause-room : goal.add_bit-requires-clause-room
add_bit-requires-clause-room g c =
    let e = length-digits c.self.inside.len (number_of_bytes c.self.inside.bytes.items) in
    let r = rw (← c.self.view_is) at c.requires in
    rw c.as_mut_slice.ensures.value (omega (arith, e, r))

pub overflow_add-self : goal.overflow_add-self
overflow_add-self g c = omega (arith, c.self.invariant.1, c.self.invariant.2)

pub invariant_of-self : goal.invariant_of-self
invariant_of-self g c =
    let new = c.add_bit.new.bytes in
    let items = c.self.inside.bytes.items in
    let k = c.self.inside.len in
    let e = length-digits k (number_of_bytes items) in
    let r = rw (← c.self.view_is) at c.requires in
    let long : length new ≡ length items = omega (arith, c.add_bit.auto.bytes, ap (λ (x : List ℕ). length x) c.as_mut_slice.ensures.value) in
    let sum : number_of_bytes new ≡ number_of_bytes items + worth c.args.bit k =
    c.add_bit.ensures ∙ ap (λ (x : List ℕ). number_of_bytes x + worth c.args.bit k) c.as_mut_slice.ensures.value
    in
    let below : number_of_bytes new < 2 ^ (k + 1) = rw sum (sum_below (number_of_bytes items) k c.args.bit c.self.invariant.0) in
    let within : k + 1 ≤ 8 * length new = omega (arith, e, r, long) in
    let few : length new < 2 ^ 32 = omega (arith, long, c.self.invariant.2) in
    rw (written new items c.self.inside.bytes.len (omega (arith, c.as_mut_slice.ensures.len, c.add_bit.auto.bytes))) (below, within, few, c.self.invariant.3 ∙ sym long)

pub returns : goal.returns
returns g c =
    let new = c.add_bit.new.bytes in
    let items = c.self.inside.bytes.items in
    let k = c.self.inside.len in
    let long : length new ≡ length items = omega (arith, c.add_bit.auto.bytes, ap (λ (x : List ℕ). length x) c.as_mut_slice.ensures.value) in
    let sum : number_of_bytes new ≡ number_of_bytes items + worth c.args.bit k =
    c.add_bit.ensures ∙ ap (λ (x : List ℕ). number_of_bytes x + worth c.args.bit k) c.as_mut_slice.ensures.value
    in
    rw (← c.self.view_is) (rw (written new items c.self.inside.bytes.len (omega (arith, c.as_mut_slice.ensures.len, c.add_bit.auto.bytes)), sum, long) (ap (λ (x : List Bool). bits x (8 * length items) (vec_ptr c.self.inside.bytes)) (digits_pushed k (number_of_bytes items) c.args.bit c.self.invariant.0)))
