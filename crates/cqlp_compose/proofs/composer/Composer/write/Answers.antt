use Rattle.cqlp_compose.specs.Composing.{composed}
use Rattle.cqlp_compose.proofs.Writing.{is_written}
use Rattle.cqlp_compose.proofs.composer.Composer.write.Goals as goal

pub returns-in-Ok : goal.returns-in-Ok
returns-in-Ok c =
    is_written (composed c.args.self).frame.events c.in-Ok.frame c.written.result c.in-Ok.ensures c.written.ensures.bytes c.written.ensures.range c.written.ensures.refused
