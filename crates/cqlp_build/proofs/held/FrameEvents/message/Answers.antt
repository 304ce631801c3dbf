use Rattle.std.proofs.Common.{refl}
use Rattle.cqlp_build.proofs.Sized.{other_message}
use Rattle.cqlp_build.proofs.held.FrameEvents.message.Goals as goal

pub returns-in-Query-clause-sized : goal.returns-in-Query-clause-sized
returns-in-Query-clause-sized c = other_message c.query.new.self.cells_size refl c.query.ensures

pub returns-in-Startup-clause-sized : goal.returns-in-Startup-clause-sized
returns-in-Startup-clause-sized c = other_message c.startup.new.self.cells_size refl c.startup.ensures

pub returns-in-Prepare-clause-sized : goal.returns-in-Prepare-clause-sized
returns-in-Prepare-clause-sized c = other_message c.prepare.new.self.cells_size refl c.prepare.ensures

pub returns-in-Execute-clause-sized : goal.returns-in-Execute-clause-sized
returns-in-Execute-clause-sized c = other_message c.execute.new.self.cells_size refl c.execute.ensures

pub returns-in-Batch-clause-sized : goal.returns-in-Batch-clause-sized
returns-in-Batch-clause-sized c = other_message c.batch.new.self.cells_size refl c.batch.ensures

pub returns-in-Register-clause-sized : goal.returns-in-Register-clause-sized
returns-in-Register-clause-sized c = other_message c.register.new.self.cells_size refl c.register.ensures

pub returns-in-AuthResponse-clause-sized : goal.returns-in-AuthResponse-clause-sized
returns-in-AuthResponse-clause-sized c = other_message c.auth_response.new.self.cells_size refl c.auth_response.ensures

pub returns-in-Error-clause-sized : goal.returns-in-Error-clause-sized
returns-in-Error-clause-sized c = other_message c.error.new.self.cells_size refl c.error.ensures

pub returns-in-Authenticate-clause-sized : goal.returns-in-Authenticate-clause-sized
returns-in-Authenticate-clause-sized c = other_message c.authenticate.new.self.cells_size refl c.authenticate.ensures

pub returns-in-Supported-clause-sized : goal.returns-in-Supported-clause-sized
returns-in-Supported-clause-sized c = other_message c.supported.new.self.cells_size refl c.supported.ensures

pub returns-in-Event-clause-sized : goal.returns-in-Event-clause-sized
returns-in-Event-clause-sized c = other_message c.event.new.self.cells_size refl c.event.ensures

pub returns-in-AuthChallenge-clause-sized : goal.returns-in-AuthChallenge-clause-sized
returns-in-AuthChallenge-clause-sized c = other_message c.auth_challenge.new.self.cells_size refl c.auth_challenge.ensures

pub returns-in-AuthSuccess-clause-sized : goal.returns-in-AuthSuccess-clause-sized
returns-in-AuthSuccess-clause-sized c = other_message c.auth_success.new.self.cells_size refl c.auth_success.ensures
