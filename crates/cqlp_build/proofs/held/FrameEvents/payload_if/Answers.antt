use Rattle.cqlp_build.proofs.Optional.{none_there, some_there, all_true}
use Rattle.cqlp_message.specs.Bodies as body
use Rattle.cqlp_note.specs.declared.field.Field.TheVariants as field
use Rattle.cqlp_build.specs.Emitted.{payload_parts}
use Rattle.cqlp_build.proofs.held.FrameEvents.payload_if.Goals as goal

pub returns-then-there : goal.returns-then-there
returns-then-there c = some_there (body.counted field.PayloadItems payload_parts) all_true c.args.there c.if-there.true c.counted.ensures

pub returns-else-there : goal.returns-else-there
returns-else-there c = none_there (body.counted field.PayloadItems payload_parts) c.args.there c.if-there.false c.args.self.now
