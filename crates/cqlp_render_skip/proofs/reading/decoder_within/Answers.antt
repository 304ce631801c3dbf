use Rattle.std.proofs.Common.{ap, ◌≡◌, Err}
use Rattle.cqlp_note.specs.Limits.{first_bad}
use Rattle.cqlp_render_skip.proofs.reading.decoder_within.Goals as goal

pub unreachable-requires : goal.unreachable-requires
unreachable-requires g c =
    let bad : first_bad c.args.limits ≡ Err c.in-Err-BadLimits.field-0-0 = (c.in-Err-BadLimits.ensures.bad c.in-Err-BadLimits.field-0-0).0 (ap (λ x. Err x) c.in-Err-BadLimits.field-0-is) in
    cc
