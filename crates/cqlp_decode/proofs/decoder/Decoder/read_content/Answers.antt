use Rattle.cqlp_decode.specs.Progress.{parts_state}
use Rattle.cqlp_decode.proofs.Gathering.{lawful_still, answers_still}
use Rattle.cqlp_decode.proofs.decoder.Decoder.read_content.Goals as goal

pub invariant_of-self : goal.invariant_of-self
invariant_of-self g c =
    let inside = c.self.inside in
    let r = rw (← c.self.view_is) at c.requires in
    let e = c.read_from.ensures.bytes in
    lawful_still inside.progress (parts_state inside.parts) c.self.invariant r.more c.read_from.new.self r.stage e.buffer e.long c.read_from.result e.became

pub returns-clause-bytes : goal.returns-clause-bytes
returns-clause-bytes g c =
    let inside = c.self.inside in
    let r = rw (← c.self.view_is) at c.requires in
    let e = c.read_from.ensures.bytes in
    rw (← c.self.view_is) (record {
      buffer = e.buffer;
      long = e.long;
      bytes = e.bytes;
      became = answers_still inside.progress (parts_state inside.parts) c.self.invariant r.more c.read_from.new.self r.stage e.buffer e.long r.unrefused c.read_from.result e.became;
    })
