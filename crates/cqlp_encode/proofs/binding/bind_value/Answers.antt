use Rattle.std.proofs.Common.{◌≡◌, refl, ap, ◌∙◌}
use Rattle.std.specs.Prelude.{option_map}
use Rattle.cqlp_value.specs.Owned.{value_of}
use Rattle.cqlp_message.specs.Owned.{bound_of}
use Rattle.cqlp_encode.specs.Binding.{bound_written}
use Rattle.cqlp_encode.proofs.Made.{is_bound, is_known}
use Rattle.cqlp_encode.proofs.binding.bind_value.Goals as goal
use Rattle.cqlp_encode.proofs.binding.bind_value.Goals.{in-Null, in_default}

pub returns : goal.returns
returns c =
    let v = c.args.value.now in
    let made = c.in_ok-content.ensures in
    let is : bound_of c.match-value.result ≡ bound_written (value_of v) =
    elim c.match-value.branch [
      | in-Null w ↦ rw (w.result-is, w.in-Null.is) refl
      | in_default w ↦ ap bound_of w.result-is ∙ is_known v _ made.1 w.in_default.not-Null
    ] in
    (made.0, is_bound v (option_map (λ t. t.now) c.args.of) c.match-value.result made.0 made.1.range is)
