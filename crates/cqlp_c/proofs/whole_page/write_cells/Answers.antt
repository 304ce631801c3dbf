use Rattle.std.proofs.Common.{◌+◌, arith, drop}
use Rattle.cqlp_c.proofs.CellWriting.{all_written, four_written, last_room, more_run_written, no_last_written, no_run_written, one_written, run_written}
use Rattle.cqlp_c.proofs.whole_page.write_cells.Goals as goal

pub loop-at-init : goal.loop-at-init
loop-at-init c =
    let q = c.args.cells.now in
    let ready = c.requires.ready in
    record {
      first = no_run_written q.first c.split_at_mut-room0.result.0.now ready.first (omega (arith, c.split_at_mut-room0.ensures.front_len));
      second = no_run_written q.second c.split_at_mut-room1.result.0.now ready.second (omega (arith, c.split_at_mut-room1.ensures.front_len));
      third = no_run_written q.third c.split_at_mut-room2.result.0.now ready.third (omega (arith, c.split_at_mut-room2.ensures.front_len));
      last = no_last_written q ready c.args.room.now c.requires.room c.split_at_mut-room2.result.1.now
          (last_room q.first.size q.second.size q.third.size c.args.room.now c.split_at_mut-room0.result.1.now c.split_at_mut-room1.result.1.now c.split_at_mut-room2.result.1.now
          c.split_at_mut-room0.ensures.back c.split_at_mut-room1.ensures.back c.split_at_mut-room2.ensures.back);
    }

pub loop-at-preserved : goal.loop-at-preserved
loop-at-preserved c =
    let q = c.args.cells.now in
    let l = c.loop-at in
    record {
      first = more_run_written q.first l.room0 l.at l.put0 l.rest0.now l.invariant.first c.write_nth.result.0 c.write_nth.result.1.now c.write_nth.new.room c.write_nth.ensures;
      second = more_run_written q.second l.room1 l.at l.put1 l.rest1.now l.invariant.second c.write_nth-in-loop-at.result.0 c.write_nth-in-loop-at.result.1.now c.write_nth-in-loop-at.new.room
          c.write_nth-in-loop-at.ensures;
      third = more_run_written q.third l.room2 l.at l.put2 l.rest2.now l.invariant.third c.write_nth-in-loop-at-2.result.0 c.write_nth-in-loop-at-2.result.1.now c.write_nth-in-loop-at-2.new.room
          c.write_nth-in-loop-at-2.ensures;
      last = one_written q.last.events.now q.last.contents.now (drop (q.first.size + q.second.size + q.third.size) c.args.room.now) l.room3 l.at l.put3 l.rest3.now l.invariant.last
          c.write_nth-in-loop-at-3.result.0 c.write_nth-in-loop-at-3.result.1.now c.write_nth-in-loop-at-3.new.room c.write_nth-in-loop-at-3.ensures;
    }

pub returns : goal.returns
returns c =
    let q = c.args.cells.now in
    let ready = c.requires.ready in
    let l = c.loop-at in
    four_written q ready c.args.room.now c.requires.room l.room0 l.room1 l.room2 l.room3
    (run_written q.first l.room0 l.at l.put0 l.rest0.now ready.first l.invariant.first (omega (arith, ready.few_first, c.loop-at-test.false)))
    (run_written q.second l.room1 l.at l.put1 l.rest1.now ready.second l.invariant.second (omega (arith, ready.few_second, c.loop-at-test.false)))
    (run_written q.third l.room2 l.at l.put2 l.rest2.now ready.third l.invariant.third (omega (arith, ready.few_third, c.loop-at-test.false)))
    (all_written q.last.events.now q.last.contents.now (drop (q.first.size + q.second.size + q.third.size) c.args.room.now) l.room3 l.at l.put3 l.rest3.now l.invariant.last (omega (arith, c.loop-at-test.false)))
