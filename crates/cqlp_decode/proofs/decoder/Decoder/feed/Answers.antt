use Rattle.std.proofs.Common.{[], refl, inl, ◌≡◌, ◌+◌, ◌≤◌, length, drop, sym, ap, ◌∙◌, inr, arith}
use Rattle.std.proofs.lemmas.List.{append-nil, length-drop}
use Rattle.cqlp_decode.specs.Progress.{StreamState}
use Rattle.cqlp_decode.specs.Streams.{state}
use Rattle.cqlp_decode.proofs.Leads.{repeated}
use Rattle.cqlp_decode.proofs.Gets.{rest_is, drains_event, drains_all, fails_event, fails_rest}
use Rattle.cqlp_decode.proofs.Taken.{failed, still_reports, passes_handed, passes_failed, passes_none, passes_one}
use Rattle.cqlp_decode.proofs.Pieces.{begun_at_fault, ends_refused, ends_there, hands_on}
use Rattle.cqlp_decode.proofs.Pieces.{is_none, refused_first}
use Rattle.cqlp_decode.proofs.decoder.Decoder.feed.Goals as goal

-- what lies whole in the input

pub returns-in-Err-clause-refused : goal.returns-in-Err-clause-refused
returns-in-Err-clause-refused g c = λ r is.
    let cells = c.in-Err.ensures.refused r (ap (λ (z : StreamState). z.refusal) (c.events.invariant.refused r is).0 ∙ is) in
    absurd (let e = cells.2 in cc)

pub returns-in-Err-clause-drains : goal.returns-in-Err-clause-drains
returns-in-Err-clause-drains g c = λ reports.
    let cells = failed g.S.Sink _ _ _ _ _ _ (rw rest_is at c.in-Err.ensures.drains) (c.events.invariant.reports reports) in
    λ gifts s es a.
    let d = (c.events.invariant.drained reports gifts s es a).0 in
    let new = state c.hand_whole.new.self in
    let r = fails_rest g.S.Sink.after g.S.Sink.faulted gifts (state c.events.self) new s c.args.input.now c.events.used c.in-Err.fault.used es _ _ _ d (cells gifts _ _ d.conforms) in
    let none = c.in-Err.ensures.stays.1 ∙ is_none (state c.events.self).refusal (λ r is. let cells = c.in-Err.ensures.refused r is in let e = cells.2 in cc) in
    (r, ends_there gifts new _ _ none (begun_at_fault _ _ _ _ _ _ _ _ c.in-Err.ensures.drains) r.conforms)

pub returns-in-Err-clause-refusal : goal.returns-in-Err-clause-refusal
returns-in-Err-clause-refusal g c = c.in-Err.ensures.stays.1 ∙ is_none (state c.events.self).refusal (λ r is. let cells = c.in-Err.ensures.refused r is in let e = cells.2 in cc)

pub returns-in-Err-clause-also : goal.returns-in-Err-clause-also
returns-in-Err-clause-also g c = passes_failed g.S.Sink _ _ _ _ _ _ _ c.events.invariant.also c.in-Err.ensures.drains

-- all else

pub returns-in-More-clause-also : goal.returns-in-More-clause-also
returns-in-More-clause-also g c = passes_handed g.S.Sink _ _ _ _ _ _ _ c.events.invariant.also c.in-Ok.ensures.drains

pub returns-in-Refused-clause-also : goal.returns-in-Refused-clause-also
returns-in-Refused-clause-also g c = passes_handed g.S.Sink _ _ _ _ _ _ _ c.events.invariant.also c.in-Ok.ensures.drains

pub returns-in-Err-take-clause-also : goal.returns-in-Err-take-clause-also
returns-in-Err-take-clause-also g c = passes_one g.S.Sink.also _ _ _ _ _ (passes_handed g.S.Sink _ _ _ _ _ _ _ c.events.invariant.also c.in-Ok.ensures.drains) c.in-Err-take.ensures.also

pub returns-in-More-clause-refusal : goal.returns-in-More-clause-refusal
returns-in-More-clause-refusal g c = (rw c.in-More.is at c.next.follows.holds-at-none.0).1

pub returns-in-More-clause-refused : goal.returns-in-More-clause-refused
returns-in-More-clause-refused g c = λ r is.
    let before = c.events.invariant.refused r is in
    let cells = c.in-Ok.ensures.refused r (ap (λ (z : StreamState). z.refusal) before.0 ∙ is) in
    let same = cells.0 ∙ before.0 in
    let again = repeated (state c.hand_whole.new.self) (state c.next.follows.lender-at-none) _ (state c.hand_whole.new.self).refusal r (ap (λ (z : StreamState). z.refusal) same ∙ is) c.next.follows.holds-at-none.2 in
    absurd (let e = sym c.in-More.is ∙ again.0 in cc)

pub returns-in-More-clause-reports : goal.returns-in-More-clause-reports
returns-in-More-clause-reports g c = λ reports more. still_reports g.S.Sink _ _ _ _ _ _ c.in-Ok.ensures.drains (c.events.invariant.reports reports)

pub returns-in-More-clause-drains : goal.returns-in-More-clause-drains
returns-in-More-clause-drains g c = λ reports gifts s es a.
    let old = state c.events.self in
    let mid = state c.hand_whole.new.self in
    let used = c.events.used + c.in-Ok.taken in
    let input = c.args.input.now in
    let e = hands_on g.S.Sink gifts s input es _ old mid c.events.used c.in-Ok.taken _ _ (rw rest_is at c.in-Ok.ensures.drains) (c.events.invariant.reports reports) (c.events.invariant.drained reports gifts s es a) in
    let d = e.0 in
    let leads = c.next.follows.holds-at-none.1 gifts _ _ d.conforms in
    let goes = rw c.in-More.is at c.next.follows.holds-at-none.0 in
    drains_all g.S.Sink.after gifts mid (state c.next.follows.lender-at-none) s input used es _ _ d (state c.args.self.now) (λ none. c.in-Ok.ensures.stays.1 ∙ c.events.invariant.clear none) c.in-More.used goes (rw (c.in-More.is, rest_is) at leads)

pub returns-in-Refused-clause-refusal : goal.returns-in-Refused-clause-refusal
returns-in-Refused-clause-refusal g c = (rw c.in-Refused.is at c.next.follows.holds-at-none.0).1

pub returns-in-Err-take-clause-refusal : goal.returns-in-Err-take-clause-refusal
returns-in-Err-take-clause-refusal g c = (rw c.in-Event.is at c.next.follows.holds-at-none.0).3

pub returns-in-Refused-clause-refused : goal.returns-in-Refused-clause-refused
returns-in-Refused-clause-refused g c = λ r is.
    let before = c.events.invariant.refused r is in
    let cells = c.in-Ok.ensures.refused r (ap (λ (z : StreamState). z.refusal) before.0 ∙ is) in
    let same = cells.0 ∙ before.0 in
    let again = repeated (state c.hand_whole.new.self) (state c.next.follows.lender-at-none) _ (state c.hand_whole.new.self).refusal r (ap (λ (z : StreamState). z.refusal) same ∙ is) c.next.follows.holds-at-none.2 in
    let none : c.in-Ok.taken ≡ 0 = let e = cells.2 in cc in
    let own : c.in-Refused.refusal ≡ r = let e = sym c.in-Refused.is ∙ again.0 in cc in
    (refused_first (c.events.used + c.in-Ok.taken) c.in-Refused.refusal r (omega (arith, before.2, none)) own, again.1 ∙ same, cells.1 ∙ before.1)

pub returns-in-Refused-clause-drains : goal.returns-in-Refused-clause-drains
returns-in-Refused-clause-drains g c = λ reports.
    let old = state c.events.self in
    let mid = state c.hand_whole.new.self in
    let used = c.events.used + c.in-Ok.taken in
    let input = c.args.input.now in
    λ gifts s es a.
    let e = hands_on g.S.Sink gifts s input es _ old mid c.events.used c.in-Ok.taken _ _ (rw rest_is at c.in-Ok.ensures.drains) (c.events.invariant.reports reports) (c.events.invariant.drained reports gifts s es a) in
    let d = e.0 in
    let leads = c.next.follows.holds-at-none.1 gifts _ _ d.conforms in
    let goes = rw c.in-Refused.is at c.next.follows.holds-at-none.0 in
    ends_refused g.S.Sink.after gifts (state c.args.self.now) mid (state c.next.follows.lender-at-none) s input used es _ _ d (λ none. c.in-Ok.ensures.stays.1 ∙ c.events.invariant.clear none) _ goes (rw (c.in-Refused.is, rest_is) at leads) e.1

pub returns-in-Err-take-clause-refused : goal.returns-in-Err-take-clause-refused
returns-in-Err-take-clause-refused g c = λ r is.
    let before = c.events.invariant.refused r is in
    let cells = c.in-Ok.ensures.refused r (ap (λ (z : StreamState). z.refusal) before.0 ∙ is) in
    let same = cells.0 ∙ before.0 in
    let again = repeated (state c.hand_whole.new.self) (state c.next.follows.lender-at-none) _ (state c.hand_whole.new.self).refusal r (ap (λ (z : StreamState). z.refusal) same ∙ is) c.next.follows.holds-at-none.2 in
    absurd (let e = sym c.in-Event.is ∙ again.0 in cc)

pub returns-in-Err-take-clause-drains : goal.returns-in-Err-take-clause-drains
returns-in-Err-take-clause-drains g c = λ reports.
    let old = state c.events.self in
    let mid = state c.hand_whole.new.self in
    let used = c.events.used + c.in-Ok.taken in
    let input = c.args.input.now in
    λ gifts s es a.
    let e = hands_on g.S.Sink gifts s input es _ old mid c.events.used c.in-Ok.taken _ _ (rw rest_is at c.in-Ok.ensures.drains) (c.events.invariant.reports reports) (c.events.invariant.drained reports gifts s es a) in
    let d = e.0 in
    let leads = c.next.follows.holds-at-none.1 gifts _ _ d.conforms in
    let new = state c.next.follows.lender-at-none in
    let led = rw (c.in-Event.is, rest_is) at leads in
    let r = fails_event g.S.Sink.after gifts mid new s input used es _ _ d g.S.Sink.faulted c.in-Event.at c.in-Event.taken c.in-Event.event _ led (c.in-Err-take.ensures.err (still_reports g.S.Sink _ _ _ _ _ _ c.in-Ok.ensures.drains (c.events.invariant.reports reports))) in
    (r, ends_there gifts new _ _ led.1 led.2 r.conforms)

pub events-smaller : goal.events-smaller
events-smaller g c =
    let used = c.events.used + c.in-Ok.taken in
    let input = c.args.input.now in
    let goes = rw c.in-Event.is at c.next.follows.holds-at-none.0 in
    let taken : c.in-Event.taken ≤ length (drop used input) = rw rest_is at c.in-Event.ensures.uses in
    let first : c.in-Ok.taken ≤ length (drop c.events.used input) = rw rest_is at c.in-Ok.ensures.stays.0.0 in
    omega (arith, goes.0, c.in-Ok.ensures.stays.0.1, taken, first, length-drop used input, length-drop c.events.used input, c.events.invariant.within)

pub events-preserved : goal.events-preserved
events-preserved g c =
    let old = state c.events.self in
    let mid = state c.hand_whole.new.self in
    let used = c.events.used + c.in-Ok.taken in
    let input = c.args.input.now in
    let goes = rw c.in-Event.is at c.next.follows.holds-at-none.0 in record {
      within =
          let taken : c.in-Event.taken ≤ length (drop used input) = rw rest_is at c.in-Event.ensures.uses in
          let left = length-drop used input in
          let more = length-drop c.events.used input in
          let first : c.in-Ok.taken ≤ length (drop c.events.used input) = rw rest_is at c.in-Ok.ensures.stays.0.0 in
          let within = c.events.invariant.within in omega arith;
      rules = goes.2 ∙ c.in-Ok.ensures.stays.2 ∙ c.events.invariant.rules;
      given = goes.4 ∙ c.in-Ok.ensures.stays.3 ∙ c.events.invariant.given;
      refused = λ r is.
          let before = c.events.invariant.refused r is in
          let cells = c.in-Ok.ensures.refused r (ap (λ (z : StreamState). z.refusal) before.0 ∙ is) in
          let same = cells.0 ∙ before.0 in
          let again = repeated (state c.hand_whole.new.self) (state c.next.follows.lender-at-none) _ (state c.hand_whole.new.self).refusal r (ap (λ (z : StreamState). z.refusal) same ∙ is) c.next.follows.holds-at-none.2 in
          absurd (let e = sym c.in-Event.is ∙ again.0 in cc);
      clear = λ none. goes.3;
      also = passes_one g.S.Sink.also _ _ _ _ _ (passes_handed g.S.Sink _ _ _ _ _ _ _ c.events.invariant.also c.in-Ok.ensures.drains) c.in-Ok-take.ensures.also;
      reports = λ reports. (c.in-Ok-take.ensures.ok (still_reports g.S.Sink _ _ _ _ _ _ c.in-Ok.ensures.drains (c.events.invariant.reports reports))).0;
      drained = λ reports gifts s es a.
          let e = hands_on g.S.Sink gifts s input es _ old mid c.events.used c.in-Ok.taken _ _ (rw rest_is at c.in-Ok.ensures.drains) (c.events.invariant.reports reports) (c.events.invariant.drained reports gifts s es a) in
          let d = e.0 in
          let leads = c.next.follows.holds-at-none.1 gifts _ _ d.conforms in
          let new = state c.next.follows.lender-at-none in
          let led = rw (c.in-Event.is, rest_is) at leads in
          let r = drains_event g.S.Sink.after gifts mid new s input used es _ _ d c.in-Event.at c.in-Event.taken c.in-Event.event _ led (c.in-Ok-take.ensures.ok (still_reports g.S.Sink _ _ _ _ _ _ c.in-Ok.ensures.drains (c.events.invariant.reports reports))).1 in
          (r, inr (ends_there gifts new _ _ led.1 led.2 r.conforms));
    }

pub events-init : goal.events-init
events-init g c = record {
  within = omega arith;
  rules = refl;
  given = refl;
  refused = λ r is. (refl, refl, refl);
  clear = λ none. none;
  reports = λ reports. reports;
  also = passes_none g.S.Sink.also c.args.sink.now;
  drained = λ reports gifts s es a. (record { more = []; conforms = rw (append-nil s, append-nil es) a; got = refl }, inl (refl, refl));
}
