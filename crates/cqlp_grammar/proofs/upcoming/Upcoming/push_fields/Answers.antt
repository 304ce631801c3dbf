use Rattle.std.proofs.Common.{◌-◌, arith}
use Rattle.std.proofs.lemmas.List.{length-append}
use Rattle.cqlp_grammar.proofs.Stack.{fields_pushed}
use Rattle.cqlp_grammar.proofs.upcoming.Upcoming.push_fields.Goals as goal

pub loop-left-preserved : goal.loop-left-preserved
loop-left-preserved c =
    let inv = c.loop-left.invariant in
    let some = c.loop-left-test.true in
    record {
      within = omega arith;
      symbols = rw c.push_slot.ensures (fields_pushed c.args.fields.now (c.loop-left.left - 1) c.loop-left.left _ c.loop-left.self c.args.self.now (omega arith) (omega arith) inv.symbols);
      height = rw (c.push_slot.ensures, length-append) (omega arith);
    }
