use Rattle.std.proofs.Common.{◌≡◌, ◌<◌, ◌≤◌, ◌-◌, length, sym, ap, ◌∙◌, arith}
use Rattle.std.proofs.lemmas.Bool.{eqb-false}
use Rattle.cqlp_capture.specs.Progress.{CaptureState}
use Rattle.cqlp_capture.proofs.Advancing.{passing_is, pass_passes}
use Rattle.cqlp_capture.proofs.reader.CaptureReader.pass.Goals as goal

pub returns : goal.returns
returns g c =
    let s = c.self.inside in
    let input = c.args.input.now in
    let here = ap (λ (d : CaptureState). d.spot.place.stage) c.self.view_is ∙ c.requires.passing in
    let unrefused = ap (λ (d : CaptureState). d.refusal) c.self.view_is ∙ c.requires.unrefused in
    let passing = passing_is s.limits c.args.block c.args.until s.place s.interfaces s.gathered input c.self.invariant here in
    let more = passing.some in
    let n = c.min-used.result in
    let within : n ≤ length input = omega (arith, c.min-used.ensures) in
    let fits : n ≤ c.args.until - s.place.offset = omega (arith, c.min-used.ensures) in
    let filled : length input ≡ 0 → ⊥ = eqb-false (length input) 0 (sym c.is_empty.ensures ∙ c.if-is_empty.false) in
    let some : 0 < n = omega (arith, c.min-used.ensures, filled, more) in
    rw (← c.self.view_is, c.clear.ensures, c.passing.ensures) (pass_passes s.limits c.args.block c.args.until s.place s.interfaces s.gathered input c.self.invariant here n within some fits s.refusal unrefused s.gathered.room)
