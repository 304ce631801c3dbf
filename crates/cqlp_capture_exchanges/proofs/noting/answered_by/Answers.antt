use Rattle.std.proofs.Common.{◌∙◌, ◌+◌, true, Some, ap}
use Rattle.cqlp_capture_exchanges.specs.Notings.{nanoseconds_in, rows_in}
use Rattle.cqlp_capture_exchanges.specs.Replies.{reply}
use Rattle.cqlp_observer_facts.specs.declared.facts.Facts.{Facts}
use Rattle.cqlp_capture_exchanges.specs.declared.outcome.Outcome.{Outcome}
use Rattle.cqlp_capture_exchanges.proofs.noting.answered_by.Goals as goal

pub returns : goal.returns
returns g c =
    let took = c.nanoseconds_in.ensures ∙ ap nanoseconds_in c.took.ensures in
    λ i. let o : Outcome = record {
      is_answered = true;
      reply = (ap (λ r. Some r) (c.reply_of.ensures ∙ ap (reply c.args.response.now.frame.header) c.front.ensures)) i;
      is_error = c.is_failure.ensures i;
      rows = (c.rows_in.ensures ∙ ap (λ (f : Facts). rows_in f.rows) c.facts.ensures) i;
      bytes = (9 + c.args.request.now.frame.header.length) + (9 + c.args.response.now.frame.header.length);
      took = took i;
      at = c.args.request.now.frame.begun;
    } in o
