use Rattle.std.proofs.Common.{◌+◌, true, List, ℕ, subst, arith}
use Rattle.cqlp_note.specs.Outputs.{written}
use Rattle.cqlp_tool.specs.Marks.{ShowsText}
use Rattle.cqlp_tool.proofs.Shown.{one_more, stops_later}
use Rattle.cqlp_tool.proofs.marks.put_marks.Goals as goal

pub returns-then-put_mark : goal.returns-then-put_mark
returns-then-put_mark g c = λ before h. (
  c.loop-mark.mark + 1,
  omega arith,
  subst (λ (text : List ℕ). ShowsText before text true (written g.T.Target c.put_mark.new.notes)) (one_more c.args.length c.loop-mark.mark)
      (stops_later before (written g.T.Target c.loop-mark.notes) (written g.T.Target c.put_mark.new.notes) _ _ (c.loop-mark.invariant before h) c.if-put_mark.ensures),
)
