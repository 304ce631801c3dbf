use Rattle.std.proofs.Common.{◌+◌, ◌++◌, List, length, take, drop, ap, ◌∙◌, subst, arith}
use Rattle.std.specs.Ptr.{Ptr, as_ptr, block_ptr}
use denote.RawPtr.{◌+ₚ◌}
use Rattle.std.specs.Borrow.{Bor}
use Rattle.std.specs.Prelude.{ℕ, ◌≡◌}
use Rattle.cqlp_decode.specs.Streams.{state}
use Rattle.cqlp_decode.proofs.Gets.{rest_is}
use Rattle.cqlp_c.specs.declared.batch.Batch.{Batch}
use Rattle.cqlp_c.specs.declared.course.CqlpCourse.{CqlpCourse}
use Rattle.cqlp_c.specs.declared.event.CqlpEvent.{CqlpEvent}
use Rattle.cqlp_c.specs.Batches.{FillsOn, buffer_in}
use Rattle.cqlp_c.specs.Course.{batch_from}
use Rattle.cqlp_c.proofs.Placing.{placed_further, reached, used_from}
use Rattle.cqlp_c.proofs.handle.read_behind.Goals as goal

pub batch-requires-clause-further : goal.batch-requires-clause-further
batch-requires-clause-further c = omega (arith, c.requires, ap (λ (z : CqlpCourse). z.base) c.add_used.ensures)

pub returns : goal.returns
returns c =
    let from = c.args.course.now in
    let input = c.args.input.now in
    let p = c.passed-passed.result in
    let b = c.fill-batch.result in
    let f = c.fill-batch.ensures in
    let begins = as_ptr c.args.input +ₚ p in
    let rest : Bor (List ℕ) = record { ref_ptr = (c.args.input.ref_ptr.0, p + c.args.input.ref_ptr.1); now = drop p input } in
    let there : as_ptr rest ≡ begins = ap (block_ptr c.args.input.ref_ptr.0) (omega arith) in
    let fills : FillsOn (state c.args.decoder.now) (state c.fill-batch.new.decoder) (drop p input) (as_ptr rest) (buffer_in c.fill-batch.new.decoder) (length c.args.events.now) b c.fill-batch.new.events = rw rest_is at f.fills in
    let within = rw rest_is at f.within in
    let same : c.batch.result ≡ batch_from from.base p b = c.batch.ensures ∙ ap (λ (n : ℕ). batch_from n p b) (ap (λ (z : CqlpCourse). z.base) c.add_used.ensures) in
    let used : c.batch.result.used ≡ p + b.used = ap (λ (z : Batch). z.used) same ∙ used_from from.base p b (λ none. omega (arith, none, c.passed-passed.ensures.is)) in
    record {
      passed = p;
      is_passed = c.passed-passed.ensures.is;
      own = b;
      events = c.fill-batch.new.events;
      puts = record {
        fills = subst (λ (q : Ptr). FillsOn (state c.args.decoder.now) (state c.fill-batch.new.decoder) (drop p input) q (buffer_in c.fill-batch.new.decoder) (length c.args.events.now) b c.fill-batch.new.events) there fills;
        refused = f.refused;
        goes_on = f.goes_on;
        within = within;
        others = f.others;
        room = f.room;
        rules = f.rules;
      };
      placed = ap (λ (z : List CqlpEvent). z ++ drop b.events c.fill-batch.new.events) (c.place.ensures ∙ placed_further from.base (take b.events c.fill-batch.new.events) c.requires);
      batch = same;
      course = reached from c.add_used.new.self (p + b.used) c.batch.result.used c.fill-batch.new.frame _ c.add_used.ensures f.frame used;
    }
