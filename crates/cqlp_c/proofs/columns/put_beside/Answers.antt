use Rattle.std.proofs.Common.{ℕ, List, length, sym, ◌∙◌, arith}
use Rattle.std.specs.Prelude.{Option, Some, None}
use Rattle.std.specs.Ptr.{Ptr, as_ptr}
use Rattle.std.proofs.lemmas.Bool.{ltb-true}
use Rattle.cqlp_laws.specs.Contents.{content_in}
use Rattle.cqlp_c.specs.Batches.{IsGathered, LiesByStep, Put, put_of}
use Rattle.cqlp_c.specs.Events.{IsStart}
use Rattle.cqlp_c.proofs.Handed.{span_size}
use Rattle.cqlp_c.proofs.Spans.{span_written}
use Rattle.cqlp_c.proofs.columns.put_beside.Goals as goal

-- a content that was gathered lies in no input
gathered_lies : (input : Ptr) (p : Put) (o : Option (List ℕ)) (place : Ptr) → IsStart o place → IsGathered p → LiesByStep input p o place
gathered_lies input p None place is gathered = is
gathered_lies input p (Some content) place is gathered = λ lies. absurd (omega (arith, lies, gathered))

pub returns-then-is_gathered : goal.returns-then-is_gathered
returns-then-is_gathered c = λ at e writes held.
    let n = length c.args.bytes.now in
    let p : Put = put_of at e n n in
    let long = ltb-true _ _ (sym c.is_gathered.ensures ∙ c.if-is_gathered.true) in
    let span = span_written c.args.beside.written at e writes.0 in
    let gathered : IsGathered p = omega (arith, long, span) in
    c.put_gathered.ensures (as_ptr c.args.bytes) p (omega arith) gathered (held (omega (arith, long, span, span_size e)))
    (writes.0.0, gathered_lies (as_ptr c.args.bytes) p (content_in e) writes.0.0 writes.0.1 gathered, writes.0.2)
