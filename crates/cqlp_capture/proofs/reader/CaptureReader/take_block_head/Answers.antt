use Rattle.std.proofs.Common.{rules, ◌≡◌, ◌^◌, ◌≤◌, true, length, take, ap, ◌∙◌}
use Rattle.cqlp_capture.specs.Numbers.{is_block_length, number_32}
use Rattle.cqlp_capture.specs.Progress.{CaptureState}
use Rattle.cqlp_capture.proofs.Lying.{head_passes}
use Rattle.cqlp_capture.proofs.Moving.{nothing}
use Rattle.cqlp_capture.proofs.reader.CaptureReader.take_block_head.Goals as goal

pub returns : goal.returns
returns g c =
    let s = c.self.inside in
    let input = c.args.input.now in
    let o = c.args.order in
    let here = ap (λ (d : CaptureState). d.spot.place.stage) c.self.view_is ∙ c.requires.here in
    let unrefused = ap (λ (d : CaptureState). d.refusal) c.self.view_is ∙ c.requires.unrefused in
    let zero : length s.gathered.pending ≡ 0 = search rules in
    let within : 8 ≤ length input = search rules in
    let near : s.place.offset ≤ 2 ^ 63 = search rules in
    let typed : number_32 o 0 (take 8 input) ≡ 6 = search rules in
    let long : is_block_length 32 (number_32 o 4 (take 8 input)) ≡ true = search rules in
    rw (← c.self.view_is, c.clear.ensures, c.read_u32-length.ensures) (head_passes s.limits s.place s.interfaces s.gathered input c.self.invariant (nothing s.gathered.pending zero) o here within near typed long s.refusal unrefused)
