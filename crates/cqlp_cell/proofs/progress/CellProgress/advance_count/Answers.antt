use Rattle.std.proofs.Common.{◌≡◌, ◌+◌, ◌-◌, ◌++◌, drop, arith}
use Rattle.cqlp_cell.specs.Gathering.{seen_before}
use Rattle.cqlp_cell.specs.Progress.{state_of}
use Rattle.cqlp_cell.proofs.Counting.{counted_overrun, count_waits, count_fails, count_hands}
use Rattle.cqlp_cell.proofs.progress.CellProgress.advance_count.Goals as goal

pub returns-in-More-clause-settles : goal.returns-in-More-clause-settles
returns-in-More-clause-settles g c =
    let r = c.requires in
    let seen = seen_before c.args.begun c.args.partial.now in
    let room : c.args.self.now.offset + 4 + c.from.result - (c.args.self.now.offset + 4) ≡ c.args.len = omega arith in
    count_waits c.args.table.now.nodes (state_of c.args.self.now) c.args.len c.args.partial.now c.take_number.new.partial c.args.input.now (seen ++ drop c.args.start c.args.input.now) r.due r.decided r.longest (rw room at c.in-More.ensures)

pub returns-in-Overrun-clause-settles : goal.returns-in-Overrun-clause-settles
returns-in-Overrun-clause-settles g c =
    let r = c.requires in
    let seen = seen_before c.args.begun c.args.partial.now in
    let h = c.in-Overrun.ensures in
    let room : c.args.self.now.offset + 4 + c.from.result - (c.args.self.now.offset + 4) ≡ c.args.len = omega arith in
    rw c.refuse.ensures.answer (record {
      is = counted_overrun c.args.table.now.nodes (state_of c.args.self.now) c.args.len r.decided (seen ++ drop c.args.start c.args.input.now) (rw room at h.0);
      ends = c.refuse.ensures.state;
      idle = h.1;
      longest = h.2;
    })

pub returns-then-number-clause-settles : goal.returns-then-number-clause-settles
returns-then-number-clause-settles g c =
    let r = c.requires in
    let seen = seen_before c.args.begun c.args.partial.now in
    let refuse = c.refuse-then-number.ensures in
    let room : c.args.self.now.offset + 4 + c.from.result - (c.args.self.now.offset + 4) ≡ c.args.len = omega arith in
    rw refuse.answer (count_fails c.args.table.now.nodes (state_of c.args.self.now) (state_of c.refuse-then-number.new.self) c.args.len c.args.start c.in-Got.used c.in-Got.number c.args.partial.now c.take_number.new.partial seen c.args.input.now r.decided r.front r.some (rw room at c.in-Got.ensures) (omega arith) refuse.state)

pub returns-else-number-clause-settles : goal.returns-else-number-clause-settles
returns-else-number-clause-settles g c =
    let r = c.requires in
    let seen = seen_before c.args.begun c.args.partial.now in
    let enter = c.enter_counted-item.ensures in
    let room : c.args.self.now.offset + 4 + c.from.result - (c.args.self.now.offset + 4) ≡ c.args.len = omega arith in
    rw (enter.item, r.value) (count_hands c.args.table.now.nodes (state_of c.args.self.now) (state_of c.enter_counted-item.new.self) c.args.len c.args.start c.in-Got.used c.in-Got.number c.args.partial.now c.take_number.new.partial seen c.args.input.now r.decided r.front r.some (rw room at c.in-Got.ensures) r.conforms r.due (omega arith) enter.enters)
