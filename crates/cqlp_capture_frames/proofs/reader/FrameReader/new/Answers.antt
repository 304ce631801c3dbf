use Rattle.std.proofs.Common.{◌∙◌, List, ℕ, Ok, refl, subst, sym}
use Rattle.cqlp_decode.specs.Streams.{state}
use Rattle.cqlp_capture_frames.specs.Reading.{IsReady}
use Rattle.cqlp_capture_frames.proofs.Limits.{not_both, some_part}
use Rattle.cqlp_capture_frames.proofs.reader.FrameReader.new.Goals as goal

pub invariant_of-result : goal.invariant_of-result
invariant_of-result g c =
    let first = state c.in-Ok.decoder in
    let d = state c.begin_frame.new.decoder in
    let new = c.begin_frame.ensures.new in
    let some = some_part c.args.limits d.rules (c.begin_frame.ensures.rules ∙ c.in-Ok.ensures.rules) (λ b e. not_both (Ok c.in-Ok.decoder) c.in-Ok.decoder _ refl ((c.in-Ok.ensures.bad b).1 e)) in
    subst (λ (bs : List ℕ). IsReady _ d bs) (sym c.new-2.ensures) (record {
      some = some;
      reads = λ e. record { free = new.free; after = new.after; waits = refl };
    })
