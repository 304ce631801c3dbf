use Rattle.std.proofs.Common.{◌≡◌, ◌∷◌, Option, Some, None, false, map, refl, sym, ap, ◌∙◌, rules}
use Rattle.std.specs.Prelude.{is_some}
use denote.Enum.Bare.{same_true}
use Rattle.cqlp_note.specs.contracts.field.Field.{the_type}
use Rattle.cqlp_grammar.specs.Events.{Holds}
use Rattle.cqlp_build.specs.FrameEvents.{held_in, item_event}
use Rattle.cqlp_build.proofs.held.FrameEvents.next.Goals as goal

none_of : {F : Type 0} (o : Option F) → is_some o ≡ false → o ≡ None
none_of None e = refl
none_of (Some f) e = absurd cc

pub returns-then-eq-clause-is : goal.returns-then-eq-clause-is
returns-then-eq-clause-is c =
    let same : c.in-Holds.found ≡ c.args.field = same_true the_type (search rules) _ _ (sym c.eq.ensures ∙ c.if-eq.true) in
    let sound : c.args.self.now.fault ≡ None = none_of c.args.self.now.fault (sym c.is_some.ensures ∙ c.if-is_some.false) in
    (sound, ap (map item_event) c.in-Some.ensures.items ∙ ap (λ x. item_event x ∷ map item_event c.pop_front.new.self.items) c.in-Holds.is ∙ ap (λ f. Holds f (held_in c.in-Holds.content) ∷ map item_event c.pop_front.new.self.items) same, sound)
