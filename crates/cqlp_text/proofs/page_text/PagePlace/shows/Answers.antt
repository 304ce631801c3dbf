use Rattle.std.proofs.Common.{◌≡◌, [], arith}
use Rattle.cqlp_grammar.specs.Events.{event_of}
use Rattle.cqlp_text.specs.PageText.{event_part}
use Rattle.cqlp_text.proofs.Pages.{nothing_shown}
use Rattle.cqlp_text.proofs.page_text.PagePlace.shows.Goals as goal

pub returns-in_default : goal.returns-in_default
returns-in_default c = λ shut.
    let none : event_part c.args.self.now (event_of c.args.event.now) ≡ [] = grind arith in
    nothing_shown c.args.self.now.is_page (event_part c.args.self.now (event_of c.args.event.now)) none
