use Rattle.std.proofs.Common.{drop}
use Rattle.cqlp_note.proofs.head.read_after_fixed.Goals as goal

pub returns-in-Text16 : goal.returns-in-Text16
returns-in-Text16 c = rw (c.in-Text16.is, ← c.read_short-in-Text16.ensures) (rw c.in-Text16.is at (c.admit_content.ensures (drop 2 c.args.bytes.now)))

pub returns-in-Bytes16 : goal.returns-in-Bytes16
returns-in-Bytes16 c = rw (c.in-Bytes16.is, ← c.read_short-in-Bytes16.ensures) (rw c.in-Bytes16.is at (c.admit_content-in-Bytes16.ensures (drop 2 c.args.bytes.now)))

pub returns-in-Content : goal.returns-in-Content
returns-in-Content c = rw c.in-Content.is (rw c.in-Content.is at (c.admit_content-in-Content.ensures c.args.bytes.now))

pub returns-in-Count32 : goal.returns-in-Count32
returns-in-Count32 c = rw c.in-Count32.is (rw c.in-Count32.is at (c.read_count.ensures c.args.wanted))
