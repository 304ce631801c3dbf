use Rattle.std.proofs.Common.{◌≡◌, true, refl, ap, ◌∙◌, rules, w32}
use Rattle.std.proofs.lemmas.Int.{to_z-of_z}
use Rattle.cqlp_message.specs.Agreement.{bits, extra_agrees}
use Rattle.cqlp_message.specs.FrameValues.{Error}
use Rattle.cqlp_build.proofs.Steps.{made_of, pair_builds, ◌then◌}
use Rattle.cqlp_build.proofs.MessageParts.{error_view}
use Rattle.cqlp_build.proofs.held.FrameEvents.error.Goals as goal

pub returns : goal.returns
returns c =
    let code : c.cast_unsigned.result ≡ bits c.int-code.result = c.cast_unsigned.ensures ∙ ap (λ y. bits y) (to_z-of_z w32 c.int-code.result (search rules)) in
    rw (to_z-of_z w32 c.int-code.result (search rules))
    (made_of (pair_builds (λ z r. (true ≡ true) × (extra_agrees (bits z) r.1 ≡ true)) c.int-code.ensures (c.text-message.ensures.is then (rw code at c.extra-extra.ensures))) _ _
    (λ a. Error a.0 a.1.0 a.1.1) (λ a p. refl) (λ a p. record { opcode = refl; agrees = p.1.1; built = refl; cells = refl }) error_view)
