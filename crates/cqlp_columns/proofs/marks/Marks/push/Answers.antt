use Rattle.std.proofs.Common.{◌≡◌, ◌+◌, ◌*◌, ◌^◌, ◌≤◌, ◌<◌, ◌++◌, ◌∷◌, [], List, ℕ, Bool, length, arith, ◌∙◌, ap, sym}
use Rattle.std.specs.Vec.{vec_ptr}
use Rattle.cqlp_columns.specs.Bits.{digits, marks, number_of_bytes, worth}
use Rattle.cqlp_columns.proofs.Numbers.{digits_pushed, length-digits, sum_below, written}
use Rattle.cqlp_columns.proofs.marks.Marks.push.Goals as goal

pub add_bit-requires-clause-room : goal.add_bit-requires-clause-room
add_bit-requires-clause-room g c =
    let e = length-digits c.self.inside.len (number_of_bytes c.self.inside.valid.items) in
    let r = rw (← c.self.view_is) at c.requires in
    rw c.as_mut_slice.ensures.value (omega (arith, e, r))

pub add_bit-requires-2-clause-room : goal.add_bit-requires-2-clause-room
add_bit-requires-2-clause-room g c =
    let e = length-digits c.self.inside.len (number_of_bytes c.self.inside.valid.items) in
    let r = rw (← c.self.view_is) at c.requires in
    rw c.as_mut_slice-2.ensures.value (omega (arith, e, r, c.self.invariant.3))

pub invariant_of-self : goal.invariant_of-self
invariant_of-self g c =
    let i = c.self.invariant in
    let k = c.self.inside.len in
    let valid = c.add_bit.new.bytes in
    let empty = c.add_bit-2.new.bytes in
    let valid_were = c.self.inside.valid.items in
    let empty_were = c.self.inside.empty.items in
    let e = length-digits k (number_of_bytes valid_were) in
    let r = rw (← c.self.view_is) at c.requires in
    let valid_long : length valid ≡ length valid_were = omega (arith, c.add_bit.auto.bytes, ap (λ (x : List ℕ). length x) c.as_mut_slice.ensures.value) in
    let empty_long : length empty ≡ length empty_were =
    omega (arith, c.add_bit-2.auto.bytes, ap (λ (x : List ℕ). length x) c.as_mut_slice-2.ensures.value)
    in
    let valid_sum : number_of_bytes valid ≡ number_of_bytes valid_were + worth c.args.valid k =
    c.add_bit.ensures ∙ ap (λ (x : List ℕ). number_of_bytes x + worth c.args.valid k) c.as_mut_slice.ensures.value
    in
    let empty_sum : number_of_bytes empty ≡ number_of_bytes empty_were + worth c.args.empty k =
    c.add_bit-2.ensures ∙ ap (λ (x : List ℕ). number_of_bytes x + worth c.args.empty k) c.as_mut_slice-2.ensures.value
    in
    let valid_below : number_of_bytes valid < 2 ^ (k + 1) = rw valid_sum (sum_below (number_of_bytes valid_were) k c.args.valid i.0) in
    let empty_below : number_of_bytes empty < 2 ^ (k + 1) = rw empty_sum (sum_below (number_of_bytes empty_were) k c.args.empty i.1) in
    let within : k + 1 ≤ 8 * length valid = omega (arith, e, r, valid_long) in
    let few : length valid < 2 ^ 32 = omega (arith, valid_long, i.4) in
    let valid_back = written valid valid_were c.self.inside.valid.len (omega (arith, c.as_mut_slice.ensures.len, c.add_bit.auto.bytes)) in
    let empty_back = written empty empty_were c.self.inside.empty.len (omega (arith, c.as_mut_slice-2.ensures.len, c.add_bit-2.auto.bytes)) in
    rw (valid_back, empty_back) (valid_below, empty_below, within, empty_long ∙ i.3 ∙ sym valid_long, few, i.5 ∙ sym valid_long, i.6 ∙ sym empty_long)

pub returns : goal.returns
returns g c =
    let i = c.self.invariant in
    let k = c.self.inside.len in
    let valid = c.add_bit.new.bytes in
    let empty = c.add_bit-2.new.bytes in
    let valid_were = c.self.inside.valid.items in
    let empty_were = c.self.inside.empty.items in
    let valid_long : length valid ≡ length valid_were = omega (arith, c.add_bit.auto.bytes, ap (λ (x : List ℕ). length x) c.as_mut_slice.ensures.value) in
    let valid_sum : number_of_bytes valid ≡ number_of_bytes valid_were + worth c.args.valid k =
    c.add_bit.ensures ∙ ap (λ (x : List ℕ). number_of_bytes x + worth c.args.valid k) c.as_mut_slice.ensures.value
    in
    let empty_sum : number_of_bytes empty ≡ number_of_bytes empty_were + worth c.args.empty k =
    c.add_bit-2.ensures ∙ ap (λ (x : List ℕ). number_of_bytes x + worth c.args.empty k) c.as_mut_slice-2.ensures.value
    in
    let valid_back = written valid valid_were c.self.inside.valid.len (omega (arith, c.as_mut_slice.ensures.len, c.add_bit.auto.bytes)) in
    let empty_back = written empty empty_were c.self.inside.empty.len (omega (arith, c.as_mut_slice-2.ensures.len, c.add_bit-2.auto.bytes)) in
    let at = vec_ptr c.self.inside.valid in
    let empty_at = vec_ptr c.self.inside.empty in
    let more = digits k (number_of_bytes valid_were) ++ c.args.valid ∷ [] in
    let rest = digits (k + 1) (number_of_bytes empty_were + worth c.args.empty k) in
    rw (← c.self.view_is) (rw (valid_back, empty_back, valid_sum, empty_sum, valid_long)
    (ap (λ (x : List Bool). marks x rest (8 * length valid_were) at empty_at) (digits_pushed k (number_of_bytes valid_were) c.args.valid i.0)
    ∙ ap (λ (x : List Bool). marks more x (8 * length valid_were) at empty_at) (digits_pushed k (number_of_bytes empty_were) c.args.empty i.1)))
