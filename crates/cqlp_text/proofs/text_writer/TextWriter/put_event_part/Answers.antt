use Rattle.std.proofs.Common.{◌≡◌, List, ℕ, [], sym, subst, arith}
use Rattle.cqlp_grammar.specs.Events.{event_of}
use Rattle.cqlp_text.specs.PageText.{event_part}
use Rattle.cqlp_text.specs.Written.{Receives}
use Rattle.cqlp_text.proofs.Writing.{takes_nothing}
use Rattle.cqlp_text.proofs.text_writer.TextWriter.put_event_part.Goals as goal

pub returns-in_default : goal.returns-in_default
returns-in_default g c =
    let none : event_part c.args.place.now (event_of c.args.event.now) ≡ [] = grind arith in
    subst (λ (t : List ℕ). Receives c.args.self.now t c.args.self.now) (sym none) (takes_nothing c.args.self.now)
