use Rattle.std.proofs.Common.{rules, Err, ◌-◌, ◌^◌, ◌≡◌, ◌∙◌, ◌≤◌, ◌++◌, length, take, drop, refl, sym, subst, append-nil, length-drop, arith}
use Rattle.cqlp_capture.proofs.Moving.{rest_of}
use Rattle.cqlp_capture_streams.specs.Captures.{Has}
use Rattle.cqlp_capture_streams.proofs.Events.{same_limits}
use Rattle.cqlp_capture_streams.proofs.Draining.{drain_fails, drained_more, drained_refused, never_drained, still_free, takes_event}
use Rattle.cqlp_capture_streams.proofs.running.drain.Goals as goal

pub loop-turn-init : goal.loop-turn-init
loop-turn-init g c = record {
  within = omega arith;
  limits = refl;
  free = λ none. none;
  reports = λ k. k;
  has = λ t before s k h. subst (λ z. (first : Has g.L.Listener.after t before z c.args.reader.now c.args.splitter.now (g.L.Listener.view c.args.listener.now)) × (0 ≤ length first.events)) (sym (append-nil s)) (h, omega arith);
}

pub returns-in-More-clause-drains : goal.returns-in-More-clause-drains
returns-in-More-clause-drains g c = λ t before s k h0 none.
    let i = c.loop-turn.invariant in
    let has = i.has t before s k h0 in
    let h = has.0 in
    drained_more g.L.Listener.after g.L.Listener.faulted _ t before s c.args.piece.now c.loop-turn.used c.loop-turn.reader c.next.follows.lender-at-none _ _ c.in-More.used h i.limits (i.free none) (rw (c.in-More.is, rest_of) at c.next.follows.holds-at-none.0) (rw (c.in-More.is, rest_of) at c.next.follows.holds-at-none.1 (s ++ take c.loop-turn.used c.args.piece.now) h.events h.conforms)

pub returns-in-Refused-clause-drains : goal.returns-in-Refused-clause-drains
returns-in-Refused-clause-drains g c = λ t before s k h0 none.
    let i = c.loop-turn.invariant in
    let has = i.has t before s k h0 in
    let h = has.0 in
    drained_refused g.L.Listener.after g.L.Listener.faulted _ t before s c.args.piece.now c.loop-turn.used c.loop-turn.reader c.next.follows.lender-at-none _ _ c.in-Refused.field-0 h i.limits (i.free none) (rw (c.in-Refused.is, rest_of) at c.next.follows.holds-at-none.0) (rw (c.in-Refused.is, rest_of) at c.next.follows.holds-at-none.1 (s ++ take c.loop-turn.used c.args.piece.now) h.events h.conforms)

pub returns-in_err-take-in-Event-clause-drains : goal.returns-in_err-take-in-Event-clause-drains
returns-in_err-take-in-Event-clause-drains g c =
    let is : c.from_residual.result ≡ Err c.in_err-take-in-Event.field-0.0 = search rules in
    rw is (λ t before s k h0 none.
    let i = c.loop-turn.invariant in
    let has = i.has t before s k h0 in
    let h = has.0 in
    let a = c.in_err-take-in-Event.ensures (i.reports k) in
    drain_fails g.L.Listener.after g.L.Listener.faulted _ t before s c.args.piece.now c.loop-turn.used c.loop-turn.reader c.next.follows.lender-at-none c.loop-turn.splitter c.take.new.self (g.L.Listener.view c.loop-turn.listener) (g.L.Listener.view c.take.new.listener) c.in-Event.at c.in-Event.taken c.in-Event.event a.0 c.in_err-take-in-Event.field-0.0 h i.limits (rw (c.in-Event.is, rest_of) at c.next.follows.holds-at-none.0) (rw (c.in-Event.is, rest_of) at c.next.follows.holds-at-none.1 (s ++ take c.loop-turn.used c.args.piece.now) h.events h.conforms) a.1 a.2)

pub loop-turn-preserved : goal.loop-turn-preserved
loop-turn-preserved g c =
    let i = c.loop-turn.invariant in
    let piece = c.args.piece.now in
    let used = c.loop-turn.used in
    let taken : c.in-Event.taken ≤ length (drop used piece) = rw rest_of at c.in-Event.ensures.uses in record {
      within = omega (arith, taken, length-drop used piece, i.within);
      limits = same_limits _ _ _ _ _ c.next.follows.holds-at-none.0 ∙ i.limits;
      free = λ none. still_free _ c.loop-turn.reader c.next.follows.lender-at-none _ _ _ _ (i.free none) (rw (c.in-Event.is, rest_of) at c.next.follows.holds-at-none.0);
      reports = λ k. (c.in_ok-take-in-Event.ensures (i.reports k)).2.0;
      has = λ t before s k h0.
          let has = i.has t before s k h0 in
          let h = has.0 in
          let leads = rw (c.in-Event.is, rest_of) at c.next.follows.holds-at-none.1 (s ++ take used piece) h.events h.conforms in
          let a = c.in_ok-take-in-Event.ensures (i.reports k) in
          takes_event g.L.Listener.after t before s piece used c.loop-turn.reader c.next.follows.lender-at-none c.loop-turn.splitter c.take.new.self (g.L.Listener.view c.loop-turn.listener) (g.L.Listener.view c.take.new.listener) c.in-Event.at c.in-Event.taken c.in-Event.event a.0 h leads a.1 a.2.1 c.loop-turn.turn has.1;
    }

pub returns-clause-drains : goal.returns-clause-drains
returns-clause-drains g c = λ t before s k h0 none.
    let i = c.loop-turn.invariant in
    let has = i.has t before s k h0 in
    let h = has.0 in
    let all : c.loop-turn.turn ≡ 2 ^ 64 - 1 = omega arith in
    never_drained g.L.Listener.after g.L.Listener.faulted _ t before s c.args.piece.now c.loop-turn.used c.loop-turn.reader _ _ h (omega (arith, has.1)) (i.free none) i.limits
