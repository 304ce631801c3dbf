use Rattle.std.proofs.Common.{◌≤◌, ◌∙◌, [], ap, arith, append-nil, length, drop, refl, sym}
use Rattle.std.proofs.lemmas.List.{length-drop}
use Rattle.cqlp_grammar.specs.Events.{event_of}
use Rattle.cqlp_decode.specs.Streams.{state}
use Rattle.cqlp_decode.proofs.Gets.{rest_is, refuses_new}
use Rattle.cqlp_text.proofs.Writing.{takes_nothing}
use Rattle.cqlp_capture_frames.specs.Frames.{gifts_of, nodes_of}
use Rattle.cqlp_capture_frames.proofs.Reading.{drains_err, drained_stops, drained_one, drained_refused, drained_waits}
use Rattle.cqlp_capture_frames.proofs.drain.drain.Goals as goal

pub events-init : goal.events-init
events-init g c = record {
  within = omega arith;
  rules = refl;
  held = refl;
  drained = λ bytes r. record {
    more = [];
    after = rw (append-nil bytes, append-nil _) r.after;
    state = refl;
    takes = takes_nothing _;
    rules = refl;
    held = refl;
    free = r.free;
  };
}

pub returns-in-More-clause-drains : goal.returns-in-More-clause-drains
returns-in-More-clause-drains g c = λ bytes r.
    let l = c.events in
    let d = l.invariant.drained bytes r in
    let first = state c.args.decoder.now in
    let new = state c.next.follows.lender-at-none in
    let goes = rw c.in-More.is at c.next.follows.holds-at-none.0 in
    let leads = rw (c.in-More.is, rest_is) at (c.next.follows.holds-at-none.1 (gifts_of (nodes_of first.given)) _ _ d.after) in
    drained_waits g.T.Transcript.refuses g.T.Transcript.manner first c.requires.some c.args.at bytes c.args.input.now (g.T.Transcript.state c.args.transcript.now) (state l.decoder) (g.T.Transcript.state l.transcript) l.used c.args.writer.now l.writer d new (goes.0 ∙ d.rules) (ap nodes_of goes.2 ∙ d.held) goes.1 leads.2 leads.3

pub returns-in-Refused-clause-drains : goal.returns-in-Refused-clause-drains
returns-in-Refused-clause-drains g c = λ bytes r.
    let l = c.events in
    let d = l.invariant.drained bytes r in
    let first = state c.args.decoder.now in
    let new = state c.next.follows.lender-at-none in
    let leads = rw (c.in-Refused.is, rest_is) at (c.next.follows.holds-at-none.1 (gifts_of (nodes_of first.given)) _ _ d.after) in
    drained_refused g.T.Transcript.refuses g.T.Transcript.manner first c.requires.some c.args.at bytes c.args.input.now (g.T.Transcript.state c.args.transcript.now) (state l.decoder) (g.T.Transcript.state l.transcript) l.used c.args.writer.now l.writer d new c.in-Refused.refusal (rw d.rules at (refuses_new (state l.decoder).refusal (gifts_of (nodes_of first.given)) (state l.decoder) _ _ (drop l.used c.args.input.now) c.in-Refused.refusal d.free leads.2))

pub returns-in_err-event-in-Event-clause-drains : goal.returns-in_err-event-in-Event-clause-drains
returns-in_err-event-in-Event-clause-drains g c = λ bytes r.
    let l = c.events in
    let t = g.T.Transcript in
    let d = l.invariant.drained bytes r in
    let first = state c.args.decoder.now in
    let new = state c.next.follows.lender-at-none in
    let goes = rw c.in-Event.is at c.next.follows.holds-at-none.0 in
    let leads = rw (c.in-Event.is, rest_is) at (c.next.follows.holds-at-none.1 (gifts_of (nodes_of first.given)) _ _ d.after) in
    drains_err t.refuses t.manner first c.requires.some c.args.at bytes c.args.input.now (t.state c.args.transcript.now) c.from_residual.result _ _ _ c.args.writer.now _ c.from_residual.ensures
    (drained_stops t.refuses t.manner first c.requires.some c.args.at bytes c.args.input.now (t.state c.args.transcript.now) (state l.decoder) (t.state l.transcript) l.used c.args.writer.now l.writer d new _ (event_of c.in-Event.event) c.in-Event.taken (goes.2 ∙ d.rules) leads.3 _ _ (rw (sym c.behind.ensures) c.in_err-event-in-Event.ensures.text))

pub events-smaller : goal.events-smaller
events-smaller g c =
    let l = c.events in
    let input = c.args.input.now in
    let goes = rw c.in-Event.is at c.next.follows.holds-at-none.0 in
    let taken : c.in-Event.taken ≤ length (drop l.used input) = rw rest_is at c.in-Event.ensures.uses in
    omega (arith, goes.0, taken, length-drop l.used input, l.invariant.within)

pub events-preserved : goal.events-preserved
events-preserved g c =
    let l = c.events in
    let t = g.T.Transcript in
    let input = c.args.input.now in
    let first = state c.args.decoder.now in
    let new = state c.next.follows.lender-at-none in
    let goes = rw c.in-Event.is at c.next.follows.holds-at-none.0 in
    let taken : c.in-Event.taken ≤ length (drop l.used input) = rw rest_is at c.in-Event.ensures.uses in
    record {
      within = omega (arith, taken, length-drop l.used input, l.invariant.within);
      rules = goes.2 ∙ l.invariant.rules;
      held = goes.4 ∙ l.invariant.held;
      drained = λ bytes r.
          let d = l.invariant.drained bytes r in
          let leads = rw (c.in-Event.is, rest_is) at (c.next.follows.holds-at-none.1 (gifts_of (nodes_of first.given)) _ _ d.after) in
          drained_one t.refuses t.manner first c.requires.some c.args.at bytes input (t.state c.args.transcript.now) (state l.decoder) (t.state l.transcript) l.used c.args.writer.now l.writer d new _ (event_of c.in-Event.event) c.in-Event.taken (goes.2 ∙ d.rules) leads.3 _ _ goes.3 (ap nodes_of goes.4 ∙ d.held)
          (rw (sym c.behind.ensures) c.in_ok-event-in-Event.ensures.text) (rw (sym c.behind.ensures) c.in_ok-event-in-Event.ensures.after);
    }
