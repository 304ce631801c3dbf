use Rattle.std.proofs.Common.{◌≡◌, ◌≤◌, length, arith, ◌∙◌, ap, sym}
use Rattle.std.proofs.lemmas.List.{length-take-le}
use Rattle.cqlp_columns.specs.Bits.{number_of_bytes, rounded}
use Rattle.cqlp_columns.proofs.Numbers.{ceil, front_spells, length-digits}
use Rattle.cqlp_columns.proofs.marks.Marks.valid.Goals as goal

pub returns : goal.returns
returns g c =
    let items = c.self.inside.valid.items in
    let k = c.self.inside.len in
    let m : c.div_ceil.result ≡ rounded k = c.div_ceil.ensures ∙ ceil k in
    let within : rounded k ≤ length items = omega (arith, c.self.invariant.2, c.self.invariant.3) in
    rw (← c.self.view_is, m, c.deref.ensures.value) record {
      length = length-take-le (rounded k) items within ∙ ap (λ x. rounded x) (sym (length-digits k (number_of_bytes items)));
      number = front_spells items k c.self.invariant.0;
    }
