use Rattle.std.proofs.Common.{sym, ap, ◌∙◌}
use Rattle.cqlp_capture.specs.Progress.{CaptureState}
use Rattle.cqlp_capture.proofs.Advancing.{change_fits, read_lawful, read_passes, read_hands, read_fails}
use Rattle.cqlp_capture.proofs.reader.CaptureReader.take_bytes.Goals as goal
use Rattle.cqlp_capture.proofs.reader.CaptureReader.take_bytes.Goals.{in-None, in-Some-what}

pub apply-requires : goal.apply-requires
apply-requires g c =
    let s = c.self.inside in
    let found = rw c.wanted.ensures at c.in-Some.ensures in
    change_fits s.limits s.place s.interfaces s.gathered c.gather.new.self c.args.input.now c.lend-bytes.result.now c.in-Some.found c.self.invariant found c.lend-bytes.ensures c.in-Ok.emission (sym (rw c.known.ensures at c.in-Ok.ensures))

pub invariant_of-self-in-Ok : goal.invariant_of-self-in-Ok
invariant_of-self-in-Ok g c =
    let s = c.self.inside in
    let found = rw c.wanted.ensures at c.in-Some.ensures in
    rw c.apply.ensures (read_lawful s.limits s.place s.interfaces s.gathered c.gather.new.self c.args.input.now c.lend-bytes.result.now c.in-Some.found c.self.invariant found c.lend-bytes.ensures c.in-Ok.emission (sym (rw c.known.ensures at c.in-Ok.ensures)))

pub returns-after-emission : goal.returns-after-emission
returns-after-emission g c =
    let s = c.self.inside in
    let found = rw c.wanted.ensures at c.in-Some.ensures in
    let unrefused = ap (λ (d : CaptureState). d.refusal) c.self.view_is ∙ c.requires in
    let is = sym (rw c.known.ensures at c.in-Ok.ensures) in
    elim c.match-emission.branch [
      | in-None w ↦ rw (← c.self.view_is, c.apply.ensures, w.result-is) (read_passes s.limits s.place s.interfaces s.gathered c.gather.new.self c.args.input.now c.lend-bytes.result.now c.in-Some.found c.self.invariant found c.lend-bytes.ensures c.in-Ok.emission is s.refusal unrefused w.in-None.is)
      | in-Some-what w ↦ rw (← c.self.view_is, c.apply.ensures, w.result-is) (read_hands s.limits s.place s.interfaces s.gathered c.gather.new.self c.args.input.now c.lend-bytes.result.now c.in-Some.found c.self.invariant found c.lend-bytes.ensures c.in-Ok.emission is s.refusal w.in-Some-what.what unrefused w.in-Some-what.is)
    ]

pub returns-in-Err : goal.returns-in-Err
returns-in-Err g c =
    let s = c.self.inside in
    let found = rw c.wanted.ensures at c.in-Some.ensures in
    rw (← c.self.view_is, c.clear.ensures) (read_fails s.limits s.place s.interfaces s.gathered c.gather.new.self c.args.input.now c.lend-bytes.result.now c.in-Some.found c.self.invariant found c.lend-bytes.ensures c.in-Err.refusal c.gather.new.self.room (sym (rw c.known.ensures at c.in-Err.ensures)) s.refusal)
