use Rattle.std.proofs.Common.{◌≡◌, refl, ap, ◌∙◌}
use Rattle.std.specs.Prelude.{option_map}
use Rattle.cqlp_value.specs.Owned.{value_of}
use Rattle.cqlp_encode.specs.Binding.{raw_written}
use Rattle.cqlp_encode.proofs.Made.{is_raw, is_raw_known}
use Rattle.cqlp_encode.proofs.binding.raw_value.Goals as goal
use Rattle.cqlp_encode.proofs.binding.raw_value.Goals.{in-Null, in-Empty, in_default}

pub returns : goal.returns
returns c =
    let v = c.args.value.now in
    let made = c.in_ok-content.ensures in
    let is : value_of c.match-value.result ≡ raw_written (value_of v) =
    elim c.match-value.branch [
      | in-Null w ↦ rw (w.result-is, w.in-Null.is) refl
      | in-Empty w ↦ rw (w.result-is, w.in-Empty.is) refl
      | in_default w ↦ ap value_of w.result-is ∙ is_raw_known v _ made.1 w.in_default.not-Null w.in_default.not-Empty
    ] in
    (made.0, is_raw v (option_map (λ t. t.now) c.args.of) c.match-value.result made.0 made.1.range is)
