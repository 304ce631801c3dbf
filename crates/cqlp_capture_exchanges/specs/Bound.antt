-- The values that a request binds, where they are to be written.
use Rattle.std.specs.Prelude.{ℕ, List, []}
use Rattle.cqlp_bound_values.specs.Bindings.{Bound, bound}
use Rattle.cqlp_bound_values.specs.Texts.{members_text, values_text}
use Rattle.cqlp_observer.specs.Keeping.{Kept}
use Rattle.cqlp_observer.specs.declared.message.Message.{Message}
use Rattle.cqlp_capture_exchanges.specs.declared.form.ValuesShown.{ValuesShown}
use Rattle.cqlp_capture_exchanges.specs.declared.form.ValuesShown.TheVariants.{No, Yes}
use Rattle.cqlp_capture_exchanges.specs.Prepared.{Known, prepared_front}
use Rattle.cqlp_capture_exchanges.specs.Statements.{statement}

-- with the types of its statement, where that is known
abbrev pub bound_by : (known : Known) → Message Kept → Bound
bound_by known m = bound m.frame.header m.kept.front (prepared_front known.prepared (statement m.frame.header m.kept.front))

abbrev pub values_if : ValuesShown → (known : Known) → Message Kept → List ℕ
values_if No known m = []
values_if Yes known m = values_text (bound_by known m)

abbrev pub values_members_if : ValuesShown → (known : Known) → Message Kept → List ℕ
values_members_if No known m = []
values_members_if Yes known m = members_text (bound_by known m)
