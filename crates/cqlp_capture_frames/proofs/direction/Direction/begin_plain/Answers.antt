use Rattle.std.proofs.Common.{◌≡◌, ◌∙◌, [], ◌++◌, Bool, Some, refl, subst, sym}
use Rattle.cqlp_note.specs.Heading.{header_bytes}
use Rattle.cqlp_capture_frames.specs.Faults.{Stops}
use Rattle.cqlp_capture_frames.specs.Happenings.{Begins}
use Rattle.cqlp_capture_frames.specs.Frames.{nodes_of, opened, taken}
use Rattle.cqlp_capture_frames.specs.Directions.{IsReported, Reporting, body, goes_on, with_frame}
use Rattle.cqlp_capture_frames.proofs.Directions.{first_stops, then_reported}
use Rattle.cqlp_capture_frames.proofs.direction.Direction.begin_plain.Goals as goal

pub returns-in_err-types-clause-reported : goal.returns-in_err-types-clause-reported
returns-in_err-types-clause-reported g c =
    let t = g.T.Transcript in
    let a = c.args in
    let known = t.state a.transcript.now in
    first_stops t.refuses a.writer.now a.writer.now c.begin.new.writer (t.manner.text known (Begins a.at a.header.now))
    (goes_on t.manner (header_bytes a.header.now) (opened a.at (taken a.self.now.rules (t.manner.types known a.at a.header.now)) []) (t.manner.after known (Begins a.at a.header.now)) a.self.now)
    _ _ c.from_residual.result _ c.from_residual.ensures c.in_err-types.ensures.text

pub returns-in-Err-clause-reported : goal.returns-in-Err-clause-reported
returns-in-Err-clause-reported g c =
    let t = g.T.Transcript in
    let a = c.args in
    let known = t.state a.transcript.now in
    let first = t.manner.text known (Begins a.at a.header.now) in
    let rest = (goes_on t.manner (header_bytes a.header.now) (opened a.at (taken a.self.now.rules (t.manner.types known a.at a.header.now)) []) (t.manner.after known (Begins a.at a.header.now)) a.self.now).text in
    subst (λ (b : Bool). Stops b a.writer.now (first ++ rest) c.begin.new.writer) (sym c.no_memory.ensures) (first, rest, refl, c.in_ok-types.ensures.text)

-- the header's nine bytes are the first of a frame
pub returns-in-Ok-clause-reported : goal.returns-in-Ok-clause-reported
returns-in-Ok-clause-reported g c =
    let t = g.T.Transcript in
    let a = c.args in
    let old = a.self.now in
    let new = c.begin_reader.new.self in
    let known = t.state a.transcript.now in
    let begun : new ≡ with_frame (Some (opened a.at (taken old.rules (nodes_of c.in_ok-types.types)) [])) old = c.in-Ok.ensures.begun in
    let is : body t.manner c.write.result new.frame (t.state c.begin.new.self) new
    ≡ goes_on t.manner (header_bytes a.header.now) (opened a.at (taken old.rules (t.manner.types known a.at a.header.now)) []) (t.manner.after known (Begins a.at a.header.now)) old =
    (λ i. body t.manner (c.write.ensures.bytes i) (begun i).frame (c.in_ok-types.ensures.after i) (begun i))
    ∙ (λ i. goes_on t.manner (header_bytes a.header.now) (opened a.at (taken old.rules (c.in_ok-types.ensures.types i)) []) (t.manner.after known (Begins a.at a.header.now)) old) in
    then_reported t.refuses a.writer.now c.begin.new.writer c.take_body.new.writer (t.manner.text known (Begins a.at a.header.now))
    (goes_on t.manner (header_bytes a.header.now) (opened a.at (taken old.rules (t.manner.types known a.at a.header.now)) []) (t.manner.after known (Begins a.at a.header.now)) old)
    c.take_body.new.self (t.state c.take_body.new.transcript) c.take_body.result c.in_ok-types.ensures.text
    (subst (λ (z : Reporting t.State). IsReported t.refuses z c.take_body.result c.begin.new.writer c.take_body.new.writer c.take_body.new.self (t.state c.take_body.new.transcript)) is c.take_body.ensures.reported)
