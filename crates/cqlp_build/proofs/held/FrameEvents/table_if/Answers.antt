use Rattle.std.proofs.Common.{refl, [], ◌∷◌}
use Rattle.cqlp_build.proofs.Optional.{none_there, some_there}
use Rattle.cqlp_build.proofs.Steps.{made_of, ◌then◌}
use Rattle.cqlp_message.specs.Bodies as body
use Rattle.cqlp_note.specs.declared.field.Field.TheVariants as field
use Rattle.cqlp_build.proofs.held.FrameEvents.table_if.Goals as goal

pub returns-then-there : goal.returns-then-there
returns-then-there c =
    some_there (λ t. body.text field.Keyspace t.0 ∷ body.text field.Table t.1 ∷ []) (λ x. (refl, refl)) c.args.there c.if-there.true
    (made_of (c.text-keyspace.ensures.is then c.text-table.ensures.is) _ _ (λ a. a) (λ a p. refl) (λ a p. p) (λ b q. (b, q, refl)))

pub returns-else-there : goal.returns-else-there
returns-else-there c = none_there (λ t. body.text field.Keyspace t.0 ∷ body.text field.Table t.1 ∷ []) c.args.there c.if-there.false c.args.self.now
