use Rattle.std.proofs.Common.{Some, sym, ap, ◌∙◌}
use Rattle.std.specs.Ptr.{as_ptr}
use Rattle.cqlp_decode.specs.Streams.{Decoding}
use Rattle.cqlp_c.proofs.Nexted.{nexts}
use Rattle.cqlp_c.proofs.handle.cqlp_next.Goals as goal

pub returns-in-Some : goal.returns-in-Some
returns-in-Some c =
    nexts c.args.decoder.now.held.place.value c.holding-decoder.result.place.value c.deref_mut.result.now c.read_on.new.decoder c.args.decoder.now.course c.read_on.new.course
    ((rw c.replace.ensures.value at c.in-Some.ensures.some) ∙ ap (λ (d : Decoding). Some d) (sym c.deref_mut.ensures.value)) c.holding-decoder.ensures c.args.input c.or_none.result.now c.or_none.ensures.bytes c.args.events.now c.read_on.new.events c.args.batch.now c.batch_of.result c.read_on.result c.batch_of.ensures
    (as_ptr c.or_none.result) c.or_none.ensures.there c.read_on.ensures
