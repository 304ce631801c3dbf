use Rattle.cqlp_c.proofs.Placing.{batch_further}
use Rattle.cqlp_c.proofs.course.CqlpCourse.batch.Goals as goal

pub returns : goal.returns
returns c = batch_further c.args.self.now.base c.args.passed c.args.batch c.stop_from-stop.result c.requires.further c.stop_from-stop.ensures
