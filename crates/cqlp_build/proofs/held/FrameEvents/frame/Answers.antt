use Rattle.std.proofs.Common.{◌≡◌, true, rules, w16}
use Rattle.std.proofs.lemmas.Int.{to_z-of_z}
use Rattle.std.specs.Prelude.{not}
use Rattle.cqlp_message.specs.Agreement.{there_if}
use Rattle.cqlp_build.proofs.FrameParts.{frame_builds}
use Rattle.cqlp_build.proofs.Steps.{with_flag}
use Rattle.cqlp_build.proofs.held.FrameEvents.frame.Goals as goal

pub returns : goal.returns
returns c = record {
  is = rw (to_z-of_z w16 c.args.header.now.stream (search rules))
      (frame_builds c.args.header.now
      (with_flag (λ t u. not t ≡ true) c.has_flag.ensures c.check.ensures.is)
      (with_flag (λ t o. there_if t o ≡ true) c.announces.ensures c.tracing_if-tracing.ensures)
      (with_flag (λ t o. there_if t o ≡ true) c.announces-2.ensures c.warnings_if-warnings.ensures)
      (with_flag (λ t o. there_if t o ≡ true) c.has_flag-2.ensures c.payload_if-payload.ensures)
      c.message-message.ensures.is);
  sized = c.message-message.ensures.sized;
}
