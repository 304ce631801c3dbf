use Rattle.std.proofs.Common.{◌≤◌, length}
use Rattle.cqlp_c.proofs.CellWriting.{no_nth, nth_written, writable}
use Rattle.cqlp_c.proofs.whole_page.write_nth.Goals as goal

pub write_cell-len-requires : goal.write_cell-len-requires
write_cell-len-requires c =
    writable c.args.events.now c.args.at c.args.contents.now c.args.put c.args.room.now c.requires.room c.requires.writable c.in-Some.c_event.now c.in-Some.ensures.lookup.1 c.in-Some.ensures.lookup.3.0

pub returns-in-Some : goal.returns-in-Some
returns-in-Some c =
    nth_written c.args.events.now c.args.at c.args.contents.now c.args.put c.args.room.now c.requires.room c.requires.writable c.in-Some.c_event.now c.in-Some.ensures.lookup.1 c.in-Some.ensures.lookup.3.0
    c.write_cell-len.result.0 c.write_cell-len.result.1.now c.write_cell-len.new.room c.write_cell-len.ensures.len c.write_cell-len.ensures.put c.write_cell-len.ensures.rest

pub returns-in-None : goal.returns-in-None
returns-in-None c =
    let past : length c.args.events.now ≤ c.args.at = c.in-None.ensures.lookup.3 in
    no_nth c.args.events.now c.args.at c.args.contents.now c.args.put c.args.room.now c.requires.room c.requires.writable past
