use Rattle.std.proofs.Common.{rules, ◌≡◌, ◌≤◌, length, take, ap, ◌∙◌}
use Rattle.cqlp_capture.specs.Numbers.{number_32}
use Rattle.cqlp_capture.specs.Progress.{CaptureState}
use Rattle.cqlp_capture.proofs.Lying.{end_passes}
use Rattle.cqlp_capture.proofs.Moving.{nothing}
use Rattle.cqlp_capture.proofs.reader.CaptureReader.take_block_end.Goals as goal

pub returns : goal.returns
returns g c =
    let s = c.self-2.inside in
    let input = c.args.input.now in
    let b = c.args.block in
    let here = ap (λ (d : CaptureState). d.spot.place.stage) c.self-2.view_is ∙ c.requires.here in
    let unrefused = ap (λ (d : CaptureState). d.refusal) c.self-2.view_is ∙ c.requires.unrefused in
    let zero : length s.gathered.pending ≡ 0 = search rules in
    let within : 4 ≤ length input = search rules in
    let same : number_32 b.order 0 (take 4 input) ≡ b.length = search rules in
    rw (← c.self-2.view_is, c.clear.ensures) (end_passes s.limits s.place s.interfaces s.gathered input c.self-2.invariant (nothing s.gathered.pending zero) b here within c.in-None.is same s.refusal unrefused)
