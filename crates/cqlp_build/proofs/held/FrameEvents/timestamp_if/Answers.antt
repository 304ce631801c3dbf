use Rattle.std.proofs.Common.{refl, rules, w64, [], ◌∷◌}
use Rattle.std.proofs.lemmas.Int.{to_z-of_z}
use Rattle.cqlp_build.proofs.Optional.{none_there, some_there}
use Rattle.cqlp_message.specs.Bodies as body
use Rattle.cqlp_note.specs.declared.field.Field.TheVariants as field
use Rattle.cqlp_build.proofs.held.FrameEvents.timestamp_if.Goals as goal

pub returns-then-there : goal.returns-then-there
returns-then-there c = rw (to_z-of_z w64 c.long.result (search rules)) (some_there (λ z. body.long field.Timestamp z ∷ []) (λ x. refl) c.args.there c.if-there.true c.long.ensures)

pub returns-else-there : goal.returns-else-there
returns-else-there c = none_there (λ z. body.long field.Timestamp z ∷ []) c.args.there c.if-there.false c.args.self.now
