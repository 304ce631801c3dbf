use Rattle.std.proofs.Common.{arith}
use Rattle.cqlp_c.proofs.ColumnsFilled.{batch_first}
use Rattle.cqlp_c.proofs.columns.batch_behind.Goals as goal

pub returns-then-course-eq0 : goal.returns-then-course-eq0
returns-then-course-eq0 c =
    batch_first c.args.course.now.base c.args.passed c.args.batch (omega (arith, c.if-course-eq0.true))
