use Rattle.std.proofs.Common.{refl, [], ◌∷◌}
use Rattle.cqlp_build.proofs.Optional.{none_there, some_there}
use Rattle.cqlp_note.specs.declared.field.Field.TheVariants as field
use Rattle.cqlp_note.specs.declared.field.Notation.TheVariants as notation
use Rattle.cqlp_note.specs.Field as note
use Rattle.cqlp_message.specs.Parts.{Field_is}
use Rattle.cqlp_build.proofs.held.FrameEvents.tracing_if.Goals as goal

pub returns-then-there : goal.returns-then-there
returns-then-there c = some_there (λ id. Field_is field.TraceId notation.Uuid (note.Uuid id) ∷ []) (λ x. refl) c.args.there c.if-there.true c.uuid.ensures

pub returns-else-there : goal.returns-else-there
returns-else-there c = none_there (λ id. Field_is field.TraceId notation.Uuid (note.Uuid id) ∷ []) c.args.there c.if-there.false c.args.self.now
