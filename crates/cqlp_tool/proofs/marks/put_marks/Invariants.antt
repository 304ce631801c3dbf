use Rattle.std.proofs.Common.{false}
use Rattle.cqlp_note.specs.Outputs.{Output, written}
use Rattle.cqlp_tool.specs.Marks.{ShowsMarks}
use Rattle.cqlp_tool.proofs.marks.put_marks.Given as goal

-- the lines of the marks so far
abbrev pub invariant-loop-mark : goal.invariant-loop-mark
invariant-loop-mark g l =
    (before : Output) → ShowsMarks before l.length l.shown false (written g.T.Target l.fn.notes)
    → ShowsMarks before l.length l.mark false (written g.T.Target l.notes)
