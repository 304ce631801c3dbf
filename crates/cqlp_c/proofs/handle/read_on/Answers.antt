use Rattle.std.proofs.Common.{◌≡◌, length, refl, ap, subst, arith}
use Rattle.std.specs.Ptr.{Ptr, as_ptr, block_ptr}
use denote.RawPtr.{◌+ₚ◌}
use Rattle.cqlp_decode.specs.Streams.{state}
use Rattle.cqlp_c.specs.Batches.{FillsOn, buffer_in}
use Rattle.cqlp_c.proofs.Placing.{batch_none, placed_none, reached}
use Rattle.cqlp_c.proofs.handle.read_on.Goals as goal

pub returns : goal.returns
returns c =
    let from = c.args.course.now in
    let b = c.fill-batch.result in
    let f = c.fill-batch.ensures in
    let none : from.base ≡ 0 = omega (arith, c.if-course-gt0.false) in
    let there : as_ptr c.args.input ≡ as_ptr c.args.input +ₚ 0 = ap (block_ptr c.args.input.ref_ptr.0) (omega arith) in
    record {
      passed = 0;
      is_passed = omega (arith, none);
      own = b;
      events = c.fill-batch.new.events;
      puts = record {
        fills = subst (λ (q : Ptr). FillsOn (state c.args.decoder.now) (state c.fill-batch.new.decoder) c.args.input.now q (buffer_in c.fill-batch.new.decoder) (length c.args.events.now) b c.fill-batch.new.events) there f.fills;
        refused = f.refused;
        goes_on = f.goes_on;
        within = f.within;
        others = f.others;
        room = f.room;
        rules = f.rules;
      };
      placed = placed_none from.base b.events c.fill-batch.new.events none;
      batch = batch_none from.base b none;
      course = reached from c.add_used.new.self b.used b.used c.fill-batch.new.frame _ c.add_used.ensures f.frame refl;
    }
