use Rattle.std.proofs.Common.{refl, [], ◌∷◌}
use Rattle.cqlp_build.proofs.Optional.{none_there, some_there}
use Rattle.cqlp_message.specs.Bodies as body
use Rattle.cqlp_note.specs.declared.field.Field.TheVariants as field
use Rattle.cqlp_build.proofs.held.FrameEvents.paging_if.Goals as goal

pub returns-then-there : goal.returns-then-there
returns-then-there c = some_there (λ s. body.bytes field.PagingState s ∷ []) (λ x. refl) c.args.there c.if-there.true c.bytes.ensures

pub returns-else-there : goal.returns-else-there
returns-else-there c = none_there (λ s. body.bytes field.PagingState s ∷ []) c.args.there c.if-there.false c.args.self.now
