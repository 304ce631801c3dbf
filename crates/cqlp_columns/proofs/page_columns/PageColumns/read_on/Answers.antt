use Rattle.std.proofs.Common.{◌≡◌, ◌+◌, ◌≤◌, ◌++◌, length, drop, take, refl, sym, subst, ◌∙◌, arith}
use Rattle.std.proofs.lemmas.List.{length-drop, length-take-le, take_all}
use Rattle.std.specs.Prelude.{Some}
use Rattle.cqlp_note.specs.Limits.{Rules}
use Rattle.cqlp_grammar.specs.Events.{event_of}
use Rattle.cqlp_decode.specs.Streams.{state}
use Rattle.cqlp_decode.proofs.Leads.{repeated}
use Rattle.cqlp_decode.proofs.Gets.{rest_is}
use Rattle.cqlp_columns.specs.Filling.{EndsAtEvent}
use Rattle.cqlp_columns.specs.Sorting.{SortsTo}
use Rattle.cqlp_columns.specs.declared.page_columns.Went.{Went}
use Rattle.cqlp_columns.proofs.SoFar.{ends, failed_after, handed_on, held_longer, onward, read_none, read_one, refuses_on, same_refusal, waits_on, went_on}
use Rattle.cqlp_columns.proofs.page_columns.PageColumns.read_on.Goals as goal

pub events-init : goal.events-init
events-init g c = record {
  within = omega arith;
  rules = refl;
  same = refl;
  given = refl;
  went = refl;
  again = λ r is. (refl, refl, refl, refl);
  free = c.requires;
  other = refl;
  read = λ gifts s es a. read_none gifts _ s _ es _ a;
}

pub events-smaller : goal.events-smaller
events-smaller g c =
    let used = c.events.used + c.in-Ok.taken in
    let input = c.args.input.now in
    let goes = rw c.in-Event.is at c.next.follows.holds-at-none.0 in
    let taken : c.in-Event.taken ≤ length (drop used input) = rw rest_is at c.in-Event.ensures.uses in
    let first : c.in-Ok.taken ≤ length (drop c.events.used input) = rw rest_is at c.in-Ok.ensures.stays.0.0 in
    omega (arith, goes.0, c.in-Ok.ensures.stays.0.1, taken, first, length-drop used input, length-drop c.events.used input, c.events.invariant.within)

pub returns-in-Err-clause-fills : goal.returns-in-Err-clause-fills
returns-in-Err-clause-fills g c = λ gifts s es a.
    let i = c.events.invariant in
    rw c.stopped.ensures
    (failed_after g.S.Sink _ _ (λ p. p.columns) (λ p. p.other) (λ p. p.went)
    (λ p q at e h. subst (λ (w : Went). SortsTo g.S.Sink w p.columns p.other at e q.columns q.other) (h.0 tt).1 h.1)
    (λ p q at e h. (h.0 tt, h.1))
    gifts (state c.args.decoder.now) (state c.events.decoder) (state c.hand_whole.new.self) s c.args.input.now es c.args.self.now.columns c.args.self.now.other c.events.used c.in-Err.fault.used c.events.self c.hand_whole.new.sink i.within i.free i.other
    (rw rest_is at c.in-Err.ensures.drains) (i.read gifts s es a))

pub returns-in-More-clause-fills : goal.returns-in-More-clause-fills
returns-in-More-clause-fills g c = λ gifts s es a.
    let i = c.events.invariant in
    let input = c.args.input.now in
    let used = c.events.used + c.in-Ok.taken in
    let mid = state c.hand_whole.new.self in
    let h = handed_on _ (λ p. p.columns) (λ p. p.other)
    (λ p q at e h. subst (λ (w : Went). SortsTo g.S.Sink w p.columns p.other at e q.columns q.other) (h.0 tt).1 h.1)
    (state c.events.decoder) mid input c.events.used c.in-Ok.taken c.events.self c.hand_whole.new.sink i.free (rw rest_is at c.in-Ok.ensures.drains) in
    let r = h.2 gifts s es c.args.self.now.columns (i.read gifts s es a) in
    let leads = rw (c.in-More.is, rest_is) at (c.next.follows.holds-at-none.1 gifts _ _ r.after) in
    let w = waits_on gifts mid (state c.next.follows.lender-at-none) s input (es ++ r.cells) used c.in-More.taken leads in
    record { cells = r.cells; taken = r.taken; stops = (take_all _ input (omega (arith, w.0, length-drop used input)), h.0, h.1 ∙ i.other, w.1, w.2, w.3) }

pub returns-in-Refused-clause-fills : goal.returns-in-Refused-clause-fills
returns-in-Refused-clause-fills g c = λ gifts s es a.
    let i = c.events.invariant in
    let input = c.args.input.now in
    let used = c.events.used + c.in-Ok.taken in
    let mid = state c.hand_whole.new.self in
    let h = handed_on _ (λ p. p.columns) (λ p. p.other)
    (λ p q at e h. subst (λ (w : Went). SortsTo g.S.Sink w p.columns p.other at e q.columns q.other) (h.0 tt).1 h.1)
    (state c.events.decoder) mid input c.events.used c.in-Ok.taken c.events.self c.hand_whole.new.sink i.free (rw rest_is at c.in-Ok.ensures.drains) in
    let r = h.2 gifts s es c.args.self.now.columns (i.read gifts s es a) in
    let leads = rw (c.in-Refused.is, rest_is) at (c.next.follows.holds-at-none.1 gifts _ _ r.after) in
    let goes = rw c.in-Refused.is at c.next.follows.holds-at-none.0 in
    let stays = c.in-Ok.ensures.stays in
    record { cells = r.cells; taken = r.taken; stops = (h.0, h.1 ∙ i.other, leads.0, leads.1, refuses_on gifts (state c.args.decoder.now) mid s input (es ++ r.cells) used c.in-Refused.refusal (stays.2 ∙ i.rules) (stays.1 ∙ i.same) leads.2, subst (λ (l : Rules). EndsAtEvent gifts l s (take used input) (es ++ r.cells)) (sym goes.0) r.ends) }

pub returns-in-Err-take-clause-fills : goal.returns-in-Err-take-clause-fills
returns-in-Err-take-clause-fills g c = λ gifts s es a.
    let i = c.events.invariant in
    let input = c.args.input.now in
    let used = c.events.used + c.in-Ok.taken in
    let mid = state c.hand_whole.new.self in
    let new = state c.next.follows.lender-at-none in
    let page = c.hand_whole.new.sink in
    let after = c.take.new.self in
    let h = handed_on _ (λ p. p.columns) (λ p. p.other)
    (λ p q at e h. subst (λ (w : Went). SortsTo g.S.Sink w p.columns p.other at e q.columns q.other) (h.0 tt).1 h.1)
    (state c.events.decoder) mid input c.events.used c.in-Ok.taken c.events.self page i.free (rw rest_is at c.in-Ok.ensures.drains) in
    let r = h.2 gifts s es c.args.self.now.columns (i.read gifts s es a) in
    let goes = rw c.in-Event.is at c.next.follows.holds-at-none.0 in
    let leads = rw (c.in-Event.is, rest_is) at (c.next.follows.holds-at-none.1 gifts _ _ r.after) in
    let first : c.in-Ok.taken ≤ length (drop c.events.used input) = rw rest_is at c.in-Ok.ensures.stays.0.0 in
    let long = length-take-le (used + c.in-Event.taken) input (omega (arith, leads.0, first, i.within, length-drop used input, length-drop c.events.used input)) in
    rw c.stopped-in-Err-take.ensures
    (ends g.S.Sink gifts (state c.args.decoder.now) new s input es r.cells c.args.self.now.columns page.columns after.columns c.args.self.now.other page.other after.other r.taken h.0 (h.1 ∙ i.other) (used + c.in-Event.taken) c.in-Event.at (event_of c.in-Event.event) after.went
    (c.in-Err-take.ensures.err tt) c.in-Err-take.ensures.also leads.1 leads.2 (onward gifts new s input used c.in-Event.taken _ leads.3) (held_longer _ _ c.in-Event.taken _ (omega (arith, long)) goes.5))

pub returns-in-More-clause-went : goal.returns-in-More-clause-went
returns-in-More-clause-went g c =
    let h = c.in-Ok.ensures.drains in
    went_on _ (λ p. p.went) (λ p q at e h. (h.0 tt).1) c.events.self c.hand_whole.new.sink h.items h.got c.events.invariant.went

pub returns-in-Refused-clause-went : goal.returns-in-Refused-clause-went
returns-in-Refused-clause-went g c =
    let h = c.in-Ok.ensures.drains in
    went_on _ (λ p. p.went) (λ p q at e h. (h.0 tt).1) c.events.self c.hand_whole.new.sink h.items h.got c.events.invariant.went

pub events-preserved : goal.events-preserved
events-preserved g c =
    let i = c.events.invariant in
    let input = c.args.input.now in
    let used = c.events.used + c.in-Ok.taken in
    let mid = state c.hand_whole.new.self in
    let new = state c.next.follows.lender-at-none in
    let page = c.hand_whole.new.sink in
    let after = c.take.new.self in
    let stays = c.in-Ok.ensures.stays in
    let goes = rw c.in-Event.is at c.next.follows.holds-at-none.0 in
    let taken : c.in-Event.taken ≤ length (drop used input) = rw rest_is at c.in-Event.ensures.uses in
    let first : c.in-Ok.taken ≤ length (drop c.events.used input) = rw rest_is at stays.0.0 in
    let h = handed_on _ (λ p. p.columns) (λ p. p.other)
    (λ p q at e h. subst (λ (w : Went). SortsTo g.S.Sink w p.columns p.other at e q.columns q.other) (h.0 tt).1 h.1)
    (state c.events.decoder) mid input c.events.used c.in-Ok.taken c.events.self page i.free (rw rest_is at c.in-Ok.ensures.drains) in
    let one = subst (λ (w : Went). SortsTo g.S.Sink w page.columns page.other c.in-Event.at (event_of c.in-Event.event) after.columns after.other) (c.in-Ok-take.ensures.ok tt).1 c.in-Ok-take.ensures.also in record {
      within = omega (arith, taken, first, i.within, length-drop used input, length-drop c.events.used input);
      rules = goes.2 ∙ stays.2 ∙ i.rules;
      given = goes.4 ∙ stays.3 ∙ i.given;
      went = (c.in-Ok-take.ensures.ok tt).1;
      again = λ r is.
          let before : mid.refusal ≡ Some r = stays.1 ∙ i.same ∙ is in
          let e = sym c.in-Event.is ∙ (repeated mid new _ mid.refusal r before c.next.follows.holds-at-none.2).0 in absurd cc;
      same = same_refusal mid.refusal (state c.args.decoder.now).refusal (stays.1 ∙ i.same) new.refusal goes.3 (λ r is.
          let again = (repeated mid new _ mid.refusal r is c.next.follows.holds-at-none.2).0 in
          let e = sym c.in-Event.is ∙ again in cc);
      free = one.1;
      other = one.2 ∙ h.1 ∙ i.other;
      read = λ gifts s es a.
          let r = h.2 gifts s es c.args.self.now.columns (i.read gifts s es a) in
          let leads = rw (c.in-Event.is, rest_is) at (c.next.follows.holds-at-none.1 gifts _ _ r.after) in
          read_one gifts mid new s input es c.args.self.now.columns page.columns after.columns used c.in-Event.taken c.in-Event.at (event_of c.in-Event.event) r one.0 leads.1 leads.2 leads.3;
    }
