use Rattle.cqlp_grammar.specs.Events.{event_of}
use Rattle.cqlp_build.specs.Building.{state}
use Rattle.cqlp_compose.proofs.Taking.{takes_err, takes_ok}
use Rattle.cqlp_compose.proofs.composer.Composer.pass.Goals as goal

pub returns-in-Ok : goal.returns-in-Ok
returns-in-Ok c =
    takes_ok (state c.args.self.now.builder) c.args.self.now.ended c.requires.open (state c.take.new.self) (event_of c.args.event.now) c.in-Ok.built c.requires.inner c.in-Ok.ensures

pub returns-in-Err : goal.returns-in-Err
returns-in-Err c =
    takes_err (state c.args.self.now.builder) c.args.self.now.ended c.requires.open (state c.take.new.self) (event_of c.args.event.now) c.in-Err.why c.requires.inner c.in-Err.ensures
