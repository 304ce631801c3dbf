use Rattle.std.proofs.Common.{◌≡◌, ℕ, ◌+◌, ◌<◌, List, [], ◌≤◌, length, take, drop, refl, sym, ap, ◌∙◌, inl, inr, Some, arith}
use Rattle.std.proofs.lemmas.List.{append-nil, take-append-drop, length-append, length-take-le}
use Rattle.cqlp_grammar.specs.declared.event.Finish.{Finish}
use Rattle.cqlp_decode.specs.declared.running.Outcome.TheVariants as outcome
use Rattle.cqlp_decode.specs.Progress.{StreamState}
use Rattle.cqlp_decode.specs.Streams.{state}
use Rattle.cqlp_decode.proofs.Asking.{asks_none, asks_one, asks_still}
use Rattle.cqlp_decode.proofs.Gets.{feeds_none, feeds_then, feeds_into, has_all, has_all_still, read_some, keeps_some, at_end, gives_none, gives_kept, gives_end, gives_more, idle_refused, idle_at_end, drains_waits}
use Rattle.cqlp_decode.proofs.Pieces.{refused_piece, failed_piece, refused_now}
use Rattle.cqlp_decode.proofs.InTime.{last_read}
use Rattle.cqlp_decode.proofs.Taken.{passes_then}
use Rattle.cqlp_decode.proofs.running.run.Goals as goal

-- before the first read

pub returns-in-Refused-clause-runs : goal.returns-in-Refused-clause-runs
returns-in-Refused-clause-runs g c = λ xs is reports.
    let e = refused_piece g.S.Sink.after g.S.Sink.faulted _ _ _ _ _ _ c.in-Refused.refusal (c.in-Refused.ensures.drains reports) in
    let d = state c.args.decoder.now in
    let v = g.S.Sink.view c.args.sink.now in
    let refused = refused_now (state c.feed.new.self) c.in-Refused.refusal c.in-Refused.ensures.refusal in
    let split = sym (take-append-drop e.0 []) in (
      feeds_then g.S.Sink.after d d (state c.feed.new.self) xs [] xs v v _ (feeds_none g.S.Sink.after d xs v) refl (take e.0 []) (drop e.0 []) split (λ gifts s es a. (e.1 gifts s es a).drains),
      inr refused,
      c.finish.ensures.ends,
      has_all g.S.Sink.after d d (state c.feed.new.self) xs [] xs v v _ (feeds_none g.S.Sink.after d xs v) refl (take e.0 []) (drop e.0 []) split (omega arith) _ is (λ none. absurd (let some = refused.1 in cc)) (λ none. none) e.1,
    )

pub returns-in-Fault-clause-runs : goal.returns-in-Fault-clause-runs
returns-in-Fault-clause-runs g c = λ xs is reports.
    let e = failed_piece g.S.Sink.after g.S.Sink.faulted _ _ _ _ _ _ (c.in-Fault.ensures.drains reports) in
    let d = state c.args.decoder.now in
    let v = g.S.Sink.view c.args.sink.now in
    feeds_into g.S.Sink.after d d (state c.feed.new.self) xs [] xs v v _ (feeds_none g.S.Sink.after d xs v) refl (take e.0 []) (drop e.0 []) (sym (take-append-drop e.0 [])) (omega arith) _ is g.S.Sink.faulted e.1

pub loop-turn-init : goal.loop-turn-init
loop-turn-init g c = record {
  long = refl;
  rules = c.in-More.ensures.rules;
  given = c.in-More.ensures.given;
  failures = refl;
  counted = λ fits. omega arith;
  asked = asks_none 0 _ refl;
  gives = λ xs is. gives_none xs _ is;
  reports = λ reports. c.in-More.ensures.reports reports refl;
  also = c.in-More.ensures.also;
  in_time = λ xs is reports. inl (refl, is);
  waits = c.in-More.ensures.refusal;
  unrefused = λ r is. let again = c.in-More.ensures.refused r is in let e = again.0 in cc;
  fed = λ xs is reports.
      let e = c.in-More.ensures.drains reports in
      let d = state c.args.decoder.now in
      let v = g.S.Sink.view c.args.sink.now in (
        feeds_then g.S.Sink.after d d (state c.feed.new.self) xs [] xs v v _ (feeds_none g.S.Sink.after d xs v) refl [] [] refl (λ gifts s es a. (e gifts s es a).drains),
        is,
        omega arith,
        has_all g.S.Sink.after d d (state c.feed.new.self) xs [] xs v v _ (feeds_none g.S.Sink.after d xs v) refl [] [] refl (omega arith) _ is (λ _. refl) (λ none. none) e,
      );
}

-- after a read

pub returns-in-Err-clause-runs : goal.returns-in-Err-clause-runs
returns-in-Err-clause-runs g c = λ xs is reports.
    let d = c.loop-turn.invariant.fed xs is reports in
    let left = keeps_some _ _ d.0.rest d.1 c.in-Err.ensures.bytes in
    (d.0, left, has_all_still g.S.Sink.after (state c.args.decoder.now) (state c.loop-turn.decoder) xs _ _ _ _ d.0 (d.1 ∙ sym left) d.3)

pub returns-then-count-eq0-clause-runs : goal.returns-then-count-eq0-clause-runs
returns-then-count-eq0-clause-runs g c = λ xs is reports.
    let d = c.loop-turn.invariant.fed xs is reports in
    let r = read_some _ _ d.0.rest c.read.new.buffer c.in-Ok-read.count d.1 c.in-Ok-read.ensures.bytes.0 c.in-Ok-read.ensures.bytes.1 in
    let long : 0 < length c.read.new.buffer = let a = c.read.auto.buffer in let b = c.loop-turn.invariant.long in omega arith in
    let none = at_end d.0.rest r.0 c.read.new.buffer c.in-Ok-read.count r.2 c.if-count-eq0.true (r.3 c.if-count-eq0.true long) in
    let same = d.1 ∙ ap (λ (z : List ℕ). Some z) (none ∙ sym (r.3 c.if-count-eq0.true long)) ∙ sym r.1 in
    (d.0, inl none, c.finish-then-count-eq0.ensures.ends, has_all_still g.S.Sink.after (state c.args.decoder.now) (state c.loop-turn.decoder) xs _ _ _ _ d.0 same d.3)

pub returns-in-Refused-feed-clause-runs : goal.returns-in-Refused-feed-clause-runs
returns-in-Refused-feed-clause-runs g c = λ xs is reports.
    let d = c.loop-turn.invariant.fed xs is reports in
    let r = read_some _ _ d.0.rest c.read.new.buffer c.in-Ok-read.count d.1 c.in-Ok-read.ensures.bytes.0 c.in-Ok-read.ensures.bytes.1 in
    let e = refused_piece g.S.Sink.after g.S.Sink.faulted _ _ _ _ _ _ c.in-Refused-feed.refusal (c.in-Refused-feed.ensures.drains (c.loop-turn.invariant.reports reports)) in
    let refused = refused_now (state c.feed-in-loop-turn.new.self) c.in-Refused-feed.refusal c.in-Refused-feed.ensures.refusal in
    let piece = take c.in-Ok-read.count c.read.new.buffer in
    let small : length piece ≤ 4096 = let a = c.read.auto.buffer in let b = c.loop-turn.invariant.long in omega (arith, length-take-le c.in-Ok-read.count c.read.new.buffer c.in-Ok-read.ensures.bound, c.in-Ok-read.ensures.bound) in
    let split = sym (take-append-drop e.0 piece) in (
      feeds_then g.S.Sink.after (state c.args.decoder.now) (state c.loop-turn.decoder) (state c.feed-in-loop-turn.new.self) xs piece r.0 _ _ _ d.0 r.2 (take e.0 piece) (drop e.0 piece) split (λ gifts s es a. (e.1 gifts s es a).drains),
      inr refused,
      c.finish-in-Refused-feed.ensures.ends,
      has_all g.S.Sink.after (state c.args.decoder.now) (state c.loop-turn.decoder) (state c.feed-in-loop-turn.new.self) xs piece r.0 _ _ _ d.0 r.2 (take e.0 piece) (drop e.0 piece) split small _ r.1 (λ none. absurd (let some = refused.1 in cc)) (λ none. c.loop-turn.invariant.waits) e.1,
    )

pub returns-in-Fault-feed-clause-runs : goal.returns-in-Fault-feed-clause-runs
returns-in-Fault-feed-clause-runs g c = λ xs is reports.
    let d = c.loop-turn.invariant.fed xs is reports in
    let r = read_some _ _ d.0.rest c.read.new.buffer c.in-Ok-read.count d.1 c.in-Ok-read.ensures.bytes.0 c.in-Ok-read.ensures.bytes.1 in
    let e = failed_piece g.S.Sink.after g.S.Sink.faulted _ _ _ _ _ _ (c.in-Fault-feed.ensures.drains (c.loop-turn.invariant.reports reports)) in
    let piece = take c.in-Ok-read.count c.read.new.buffer in
    let small : length piece ≤ 4096 = let a = c.read.auto.buffer in let b = c.loop-turn.invariant.long in omega (arith, length-take-le c.in-Ok-read.count c.read.new.buffer c.in-Ok-read.ensures.bound, c.in-Ok-read.ensures.bound) in
    feeds_into g.S.Sink.after (state c.args.decoder.now) (state c.loop-turn.decoder) (state c.feed-in-loop-turn.new.self) xs piece r.0 _ _ _ d.0 r.2 (take e.0 piece) (drop e.0 piece) (sym (take-append-drop e.0 piece)) small _ r.1 g.S.Sink.faulted e.1

pub loop-turn-preserved : goal.loop-turn-preserved
loop-turn-preserved g c =
    let long : length c.read.new.buffer ≡ 4096 = let a = c.read.auto.buffer in let b = c.loop-turn.invariant.long in omega arith in
    record {
      long = long;
      rules = c.in-More-feed.ensures.rules ∙ c.loop-turn.invariant.rules;
      given = c.in-More-feed.ensures.given ∙ c.loop-turn.invariant.given;
      counted = λ fits. let before = c.loop-turn.invariant.counted (omega arith) in let one = c.in-Ok-read.ensures.reads in omega arith;
      asked = asks_one c.loop-turn.turn 1 (g.R.Source.asked c.args.reader.now) (g.R.Source.asked c.loop-turn.reader) (g.R.Source.asked c.read.new.self) (length c.read.new.buffer) refl long c.loop-turn.invariant.asked c.in-Ok-read.ensures.asked;
      gives = λ xs is. let some = c.if-count-eq0.false in gives_more _ xs _ _ c.read.new.buffer c.in-Ok-read.count (omega arith) c.in-Ok-read.ensures.bound long (c.loop-turn.invariant.gives xs is) c.in-Ok-read.ensures.bytes;
      failures = let a = c.in-Ok-read.ensures.failures in let b = c.loop-turn.invariant.failures in cc;
      reports = λ reports. c.in-More-feed.ensures.reports (c.loop-turn.invariant.reports reports) refl;
      also = passes_then g.S.Sink.also _ _ _ c.loop-turn.invariant.also c.in-More-feed.ensures.also;
      in_time = λ xs is reports.
          let d = c.loop-turn.invariant.fed xs is reports in
          let some = c.if-count-eq0.false in
          let r = read_some _ _ d.0.rest c.read.new.buffer c.in-Ok-read.count d.1 c.in-Ok-read.ensures.bytes.0 c.in-Ok-read.ensures.bytes.1 in
          let e = c.in-More-feed.ensures.drains (c.loop-turn.invariant.reports reports) in
          let piece = take c.in-Ok-read.count c.read.new.buffer in
          let mid = state c.loop-turn.decoder in
          last_read g.S.Sink.after g.S.Sink.faulted c.args.turns c.loop-turn.turn _ _ (state c.args.decoder.now) mid (state c.feed-in-loop-turn.new.self) xs _ _ _ _ _ d (c.loop-turn.invariant.gives xs is) c.loop-turn.invariant.waits c.loop-turn.invariant.rules outcome.Turns (λ fits. let before = c.loop-turn.invariant.counted (omega arith) in let one = c.in-Ok-read.ensures.reads in omega arith)
          (let a = c.loop-turn-test.true in omega arith)
          (feeds_then g.S.Sink.after mid mid (state c.feed-in-loop-turn.new.self) d.0.rest piece r.0 _ _ _ (feeds_none g.S.Sink.after mid d.0.rest _) r.2 piece [] (sym (append-nil piece)) (λ gifts s es a. (e gifts s es a).drains))
          (gives_more 0 d.0.rest _ _ c.read.new.buffer c.in-Ok-read.count (omega arith) c.in-Ok-read.ensures.bound long (gives_none d.0.rest _ d.1) c.in-Ok-read.ensures.bytes);
      waits = c.in-More-feed.ensures.refusal;
      unrefused = c.loop-turn.invariant.unrefused;
      fed = λ xs is reports.
          let d = c.loop-turn.invariant.fed xs is reports in
          let r = read_some _ _ d.0.rest c.read.new.buffer c.in-Ok-read.count d.1 c.in-Ok-read.ensures.bytes.0 c.in-Ok-read.ensures.bytes.1 in
          let e = c.in-More-feed.ensures.drains (c.loop-turn.invariant.reports reports) in
          let piece = take c.in-Ok-read.count c.read.new.buffer in
          let size : length piece ≡ c.in-Ok-read.count = length-take-le c.in-Ok-read.count c.read.new.buffer c.in-Ok-read.ensures.bound in
          let some = c.if-count-eq0.false in (
            feeds_then g.S.Sink.after (state c.args.decoder.now) (state c.loop-turn.decoder) (state c.feed-in-loop-turn.new.self) xs piece r.0 _ _ _ d.0 r.2 piece [] (sym (append-nil piece)) (λ gifts s es a. (e gifts s es a).drains),
            r.1,
            omega (arith, d.2, length-append d.0.bytes piece),
            has_all g.S.Sink.after (state c.args.decoder.now) (state c.loop-turn.decoder) (state c.feed-in-loop-turn.new.self) xs piece r.0 _ _ _ d.0 r.2 piece [] (sym (append-nil piece)) (omega (arith, size, long, c.in-Ok-read.ensures.bound)) _ r.1 (λ _. refl) (λ none. c.loop-turn.invariant.waits) e,
          );
    }

pub returns-clause-runs : goal.returns-clause-runs
returns-clause-runs g c = λ xs is reports.
    let d = c.loop-turn.invariant.fed xs is reports in
    (d.0, d.1, omega (arith, d.2), d.3)

-- after a refusal

pub returns-in-Refused-clause-refused : goal.returns-in-Refused-clause-refused
returns-in-Refused-clause-refused g c = λ r is.
    let again = c.in-Refused.ensures.refused r is in
    let still : (state c.feed.new.self).refusal ≡ Some r = ap (λ (z : StreamState). z.refusal) again.1 ∙ is in
    (ap (λ (f : Finish). outcome.Finished f) (c.finish.ensures.refused r still), again.1, refl, again.2)

pub returns-in-Fault-clause-refused : goal.returns-in-Fault-clause-refused
returns-in-Fault-clause-refused g c = λ r is. absurd (let again = c.in-Fault.ensures.refused r is in let e = again.0 in cc)

pub returns-then-count-eq0-clause-refused : goal.returns-then-count-eq0-clause-refused
returns-then-count-eq0-clause-refused g c = λ r is. absurd (c.loop-turn.invariant.unrefused r is)

pub returns-in-Err-clause-refused : goal.returns-in-Err-clause-refused
returns-in-Err-clause-refused g c = λ r is. absurd (c.loop-turn.invariant.unrefused r is)

pub returns-clause-refused : goal.returns-clause-refused
returns-clause-refused g c = λ r is. absurd (c.loop-turn.invariant.unrefused r is)

pub returns-in-Refused-feed-clause-refused : goal.returns-in-Refused-feed-clause-refused
returns-in-Refused-feed-clause-refused g c = λ r is. absurd (c.loop-turn.invariant.unrefused r is)

pub returns-in-Fault-feed-clause-refused : goal.returns-in-Fault-feed-clause-refused
returns-in-Fault-feed-clause-refused g c = λ r is. absurd (c.loop-turn.invariant.unrefused r is)

-- how many reads are made

pub returns-in-Refused-clause-reads : goal.returns-in-Refused-clause-reads
returns-in-Refused-clause-reads g c =
    let refused = refused_now (state c.feed.new.self) c.in-Refused.refusal c.in-Refused.ensures.refusal in
    let idle = idle_refused c.finish.result refused.0 (c.finish.ensures.refused refused.0 refused.1) in
    record { giving = 0; counted = λ fits. omega (arith, idle); asked = asks_none _ _ idle; within = omega (arith, idle); all = λ is. absurd (let e = is in cc); gives = λ xs is. gives_none xs _ is }

pub returns-in-Fault-clause-reads : goal.returns-in-Fault-clause-reads
returns-in-Fault-clause-reads g c = record { giving = 0; counted = λ fits. omega arith; asked = asks_none 0 _ refl; within = omega arith; all = λ is. absurd (let e = is in cc); gives = λ xs is. gives_none xs _ is }

pub returns-in-Err-clause-reads : goal.returns-in-Err-clause-reads
returns-in-Err-clause-reads g c = record {
  giving = c.loop-turn.turn;
  counted = λ fits. let before = c.loop-turn.invariant.counted (omega arith) in let one = c.in-Err.ensures.reads in omega arith;
  asked = asks_one c.loop-turn.turn 1 (g.R.Source.asked c.args.reader.now) (g.R.Source.asked c.loop-turn.reader) (g.R.Source.asked c.read.new.self) (length c.read.new.buffer) refl (let a = c.read.auto.buffer in let b = c.loop-turn.invariant.long in omega arith) c.loop-turn.invariant.asked c.in-Err.ensures.asked;
  within = let a = c.loop-turn-test.true in omega arith;
  all = λ is. absurd (let e = is in cc);
  gives = λ xs is. gives_kept _ xs _ _ (c.loop-turn.invariant.gives xs is) c.in-Err.ensures.bytes;
}

pub returns-then-count-eq0-clause-reads : goal.returns-then-count-eq0-clause-reads
returns-then-count-eq0-clause-reads g c =
    let idle = idle_at_end c.finish-then-count-eq0.result (c.finish-then-count-eq0.ensures.unrefused c.loop-turn.invariant.waits) in
    let long : 0 < length c.read.new.buffer = let a = c.read.auto.buffer in let b = c.loop-turn.invariant.long in omega arith in
    record {
      giving = c.loop-turn.turn;
      counted = λ fits. let before = c.loop-turn.invariant.counted (omega arith) in let one = c.in-Ok-read.ensures.reads in omega (arith, idle);
      asked = asks_one c.loop-turn.turn _ (g.R.Source.asked c.args.reader.now) (g.R.Source.asked c.loop-turn.reader) (g.R.Source.asked c.read.new.self) (length c.read.new.buffer) idle (let a = c.read.auto.buffer in let b = c.loop-turn.invariant.long in omega arith) c.loop-turn.invariant.asked c.in-Ok-read.ensures.asked;
      within = let a = c.loop-turn-test.true in omega (arith, idle);
      all = λ is. absurd (let e = is in cc);
      gives = λ xs is. gives_end _ xs _ _ c.read.new.buffer c.in-Ok-read.count c.if-count-eq0.true long (c.loop-turn.invariant.gives xs is) c.in-Ok-read.ensures.bytes;
    }

pub returns-in-Refused-feed-clause-reads : goal.returns-in-Refused-feed-clause-reads
returns-in-Refused-feed-clause-reads g c =
    let refused = refused_now (state c.feed-in-loop-turn.new.self) c.in-Refused-feed.refusal c.in-Refused-feed.ensures.refusal in
    let idle = idle_refused c.finish-in-Refused-feed.result refused.0 (c.finish-in-Refused-feed.ensures.refused refused.0 refused.1) in
    let long : length c.read.new.buffer ≡ 4096 = let a = c.read.auto.buffer in let b = c.loop-turn.invariant.long in omega arith in
    record {
      giving = c.loop-turn.turn + 1;
      counted = λ fits. let before = c.loop-turn.invariant.counted (omega arith) in let one = c.in-Ok-read.ensures.reads in omega (arith, idle);
      asked = asks_still (c.loop-turn.turn + 1) _ (g.R.Source.asked c.args.reader.now) (g.R.Source.asked c.read.new.self) idle (asks_one c.loop-turn.turn 1 (g.R.Source.asked c.args.reader.now) (g.R.Source.asked c.loop-turn.reader) (g.R.Source.asked c.read.new.self) (length c.read.new.buffer) refl long c.loop-turn.invariant.asked c.in-Ok-read.ensures.asked);
      within = let a = c.loop-turn-test.true in omega (arith, idle);
      all = λ is. absurd (let e = is in cc);
      gives = λ xs is. let some = c.if-count-eq0.false in gives_more _ xs _ _ c.read.new.buffer c.in-Ok-read.count (omega arith) c.in-Ok-read.ensures.bound long (c.loop-turn.invariant.gives xs is) c.in-Ok-read.ensures.bytes;
    }

pub returns-in-Fault-feed-clause-reads : goal.returns-in-Fault-feed-clause-reads
returns-in-Fault-feed-clause-reads g c =
    let long : length c.read.new.buffer ≡ 4096 = let a = c.read.auto.buffer in let b = c.loop-turn.invariant.long in omega arith in
    record {
      giving = c.loop-turn.turn + 1;
      counted = λ fits. let before = c.loop-turn.invariant.counted (omega arith) in let one = c.in-Ok-read.ensures.reads in omega arith;
      asked = asks_still (c.loop-turn.turn + 1) 0 (g.R.Source.asked c.args.reader.now) (g.R.Source.asked c.read.new.self) refl (asks_one c.loop-turn.turn 1 (g.R.Source.asked c.args.reader.now) (g.R.Source.asked c.loop-turn.reader) (g.R.Source.asked c.read.new.self) (length c.read.new.buffer) refl long c.loop-turn.invariant.asked c.in-Ok-read.ensures.asked);
      within = let a = c.loop-turn-test.true in omega arith;
      all = λ is. absurd (let e = is in cc);
      gives = λ xs is. let some = c.if-count-eq0.false in gives_more _ xs _ _ c.read.new.buffer c.in-Ok-read.count (omega arith) c.in-Ok-read.ensures.bound long (c.loop-turn.invariant.gives xs is) c.in-Ok-read.ensures.bytes;
    }

pub returns-clause-reads : goal.returns-clause-reads
returns-clause-reads g c =
    let all : c.loop-turn.turn ≡ c.args.turns = omega arith in
    record { giving = c.loop-turn.turn; counted = λ fits. let up = c.loop-turn.invariant.counted (omega arith) in omega arith; asked = asks_still c.loop-turn.turn 0 (g.R.Source.asked c.args.reader.now) (g.R.Source.asked c.loop-turn.reader) refl c.loop-turn.invariant.asked; within = omega arith; all = λ is. all; gives = c.loop-turn.invariant.gives }

-- when the last read is made

pub returns-in-Refused-clause-in_time : goal.returns-in-Refused-clause-in_time
returns-in-Refused-clause-in_time g c = λ xs is reports. inl (refl, is)

pub returns-in-Fault-clause-in_time : goal.returns-in-Fault-clause-in_time
returns-in-Fault-clause-in_time g c = λ xs is reports. inl (refl, is)

pub returns-in-Err-clause-in_time : goal.returns-in-Err-clause-in_time
returns-in-Err-clause-in_time g c = λ xs is reports.
    let d = c.loop-turn.invariant.fed xs is reports in
    let mid = state c.loop-turn.decoder in
    last_read g.S.Sink.after g.S.Sink.faulted c.args.turns c.loop-turn.turn _ _ (state c.args.decoder.now) mid mid xs _ _ _ _ _ d (c.loop-turn.invariant.gives xs is) c.loop-turn.invariant.waits c.loop-turn.invariant.rules outcome.ReadFault (λ fits. let before = c.loop-turn.invariant.counted (omega arith) in let one = c.in-Err.ensures.reads in omega arith)
    (let a = c.loop-turn-test.true in omega arith)
    (feeds_none g.S.Sink.after mid d.0.rest _)
    (gives_kept 0 d.0.rest _ _ (gives_none d.0.rest _ d.1) c.in-Err.ensures.bytes)

pub returns-then-count-eq0-clause-in_time : goal.returns-then-count-eq0-clause-in_time
returns-then-count-eq0-clause-in_time g c = λ xs is reports.
    let d = c.loop-turn.invariant.fed xs is reports in
    let mid = state c.loop-turn.decoder in
    let f = c.finish-then-count-eq0.result in
    let idle = idle_at_end f (c.finish-then-count-eq0.ensures.unrefused c.loop-turn.invariant.waits) in
    let long : 0 < length c.read.new.buffer = let a = c.read.auto.buffer in let b = c.loop-turn.invariant.long in omega arith in
    last_read g.S.Sink.after g.S.Sink.faulted c.args.turns c.loop-turn.turn _ _ (state c.args.decoder.now) mid mid xs _ _ _ _ _ d (c.loop-turn.invariant.gives xs is) c.loop-turn.invariant.waits c.loop-turn.invariant.rules (outcome.Finished f) (λ fits. let before = c.loop-turn.invariant.counted (omega arith) in let one = c.in-Ok-read.ensures.reads in omega arith)
    (let a = c.loop-turn-test.true in omega arith)
    (feeds_none g.S.Sink.after mid d.0.rest _)
    (rw idle (gives_end 0 d.0.rest _ _ c.read.new.buffer c.in-Ok-read.count c.if-count-eq0.true long (gives_none d.0.rest _ d.1) c.in-Ok-read.ensures.bytes))

pub returns-in-Refused-feed-clause-in_time : goal.returns-in-Refused-feed-clause-in_time
returns-in-Refused-feed-clause-in_time g c = λ xs is reports.
    let d = c.loop-turn.invariant.fed xs is reports in
    let some = c.if-count-eq0.false in
    let mid = state c.loop-turn.decoder in
    let new = state c.feed-in-loop-turn.new.self in
    let f = c.finish-in-Refused-feed.result in
    let refused = refused_now (state c.feed-in-loop-turn.new.self) c.in-Refused-feed.refusal c.in-Refused-feed.ensures.refusal in
    let idle = idle_refused f refused.0 (c.finish-in-Refused-feed.ensures.refused refused.0 refused.1) in
    let long : length c.read.new.buffer ≡ 4096 = let a = c.read.auto.buffer in let b = c.loop-turn.invariant.long in omega arith in
    let r = read_some _ _ d.0.rest c.read.new.buffer c.in-Ok-read.count d.1 c.in-Ok-read.ensures.bytes.0 c.in-Ok-read.ensures.bytes.1 in
    let e = refused_piece g.S.Sink.after g.S.Sink.faulted _ _ _ _ _ _ c.in-Refused-feed.refusal (c.in-Refused-feed.ensures.drains (c.loop-turn.invariant.reports reports)) in
    let piece = take c.in-Ok-read.count c.read.new.buffer in
    last_read g.S.Sink.after g.S.Sink.faulted c.args.turns c.loop-turn.turn _ _ (state c.args.decoder.now) mid new xs _ _ _ _ _ d (c.loop-turn.invariant.gives xs is) c.loop-turn.invariant.waits c.loop-turn.invariant.rules (outcome.Finished f) (λ fits. let before = c.loop-turn.invariant.counted (omega arith) in let one = c.in-Ok-read.ensures.reads in omega arith)
    (let a = c.loop-turn-test.true in omega arith)
    (feeds_then g.S.Sink.after mid mid new d.0.rest piece r.0 _ _ _ (feeds_none g.S.Sink.after mid d.0.rest _) r.2 (take e.0 piece) (drop e.0 piece) (sym (take-append-drop e.0 piece)) (λ gifts s es a. (e.1 gifts s es a).drains))
    (rw idle (gives_more 0 d.0.rest _ _ c.read.new.buffer c.in-Ok-read.count (omega arith) c.in-Ok-read.ensures.bound long (gives_none d.0.rest _ d.1) c.in-Ok-read.ensures.bytes))

pub returns-in-Fault-feed-clause-in_time : goal.returns-in-Fault-feed-clause-in_time
returns-in-Fault-feed-clause-in_time g c = λ xs is reports.
    let d = c.loop-turn.invariant.fed xs is reports in
    let some = c.if-count-eq0.false in
    let mid = state c.loop-turn.decoder in
    let new = state c.feed-in-loop-turn.new.self in
    let long : length c.read.new.buffer ≡ 4096 = let a = c.read.auto.buffer in let b = c.loop-turn.invariant.long in omega arith in
    let r = read_some _ _ d.0.rest c.read.new.buffer c.in-Ok-read.count d.1 c.in-Ok-read.ensures.bytes.0 c.in-Ok-read.ensures.bytes.1 in
    let e = failed_piece g.S.Sink.after g.S.Sink.faulted _ _ _ _ _ _ (c.in-Fault-feed.ensures.drains (c.loop-turn.invariant.reports reports)) in
    let piece = take c.in-Ok-read.count c.read.new.buffer in
    let small : length piece ≤ 4096 = omega (arith, length-take-le c.in-Ok-read.count c.read.new.buffer c.in-Ok-read.ensures.bound, c.in-Ok-read.ensures.bound) in
    last_read g.S.Sink.after g.S.Sink.faulted c.args.turns c.loop-turn.turn _ _ (state c.args.decoder.now) mid new xs _ _ _ _ _ d (c.loop-turn.invariant.gives xs is) c.loop-turn.invariant.waits c.loop-turn.invariant.rules outcome.SinkFault (λ fits. let before = c.loop-turn.invariant.counted (omega arith) in let one = c.in-Ok-read.ensures.reads in omega arith)
    (let a = c.loop-turn-test.true in omega arith)
    (feeds_into g.S.Sink.after mid mid new d.0.rest piece r.0 _ _ _ (feeds_none g.S.Sink.after mid d.0.rest _) r.2 (take e.0 piece) (drop e.0 piece) (sym (take-append-drop e.0 piece)) small _ r.1 g.S.Sink.faulted e.1)
    (gives_more 0 d.0.rest _ _ c.read.new.buffer c.in-Ok-read.count (omega arith) c.in-Ok-read.ensures.bound long (gives_none d.0.rest _ d.1) c.in-Ok-read.ensures.bytes)

-- what a sink passed through

pub returns-in-Refused-feed-clause-also : goal.returns-in-Refused-feed-clause-also
returns-in-Refused-feed-clause-also g c = passes_then g.S.Sink.also _ _ _ c.loop-turn.invariant.also c.in-Refused-feed.ensures.also

pub returns-in-Fault-feed-clause-also : goal.returns-in-Fault-feed-clause-also
returns-in-Fault-feed-clause-also g c = passes_then g.S.Sink.also _ _ _ c.loop-turn.invariant.also c.in-Fault-feed.ensures.also

-- a content that is gathered: a read straight into the decoder

pub returns-in_default-clause-runs : goal.returns-in_default-clause-runs
returns-in_default-clause-runs g c = λ xs is reports.
    let e = c.in_default.ensures.bytes in
    let d = c.loop-turn.invariant.fed xs is reports in
    let left = keeps_some _ _ d.0.rest d.1 e.bytes in
    rw e.became (d.0, left, has_all_still g.S.Sink.after (state c.args.decoder.now) (state c.loop-turn.decoder) xs _ _ _ _ d.0 (d.1 ∙ sym left) d.3)

pub returns-in_default-clause-refused : goal.returns-in_default-clause-refused
returns-in_default-clause-refused g c = λ r is. absurd (c.loop-turn.invariant.unrefused r is)

pub returns-in_default-clause-reads : goal.returns-in_default-clause-reads
returns-in_default-clause-reads g c = record {
  giving = c.loop-turn.turn;
  counted = λ fits. let before = c.loop-turn.invariant.counted (omega arith) in let one = c.in_default.ensures.reads in omega arith;
  asked = asks_one c.loop-turn.turn 1 (g.R.Source.asked c.args.reader.now) (g.R.Source.asked c.loop-turn.reader) (g.R.Source.asked c.read_content.new.reader) 4096 refl refl c.loop-turn.invariant.asked c.in_default.ensures.asked;
  within = let a = c.loop-turn-test.true in omega arith;
  all = λ is. absurd (let e = is in cc);
  gives = λ xs is. gives_kept _ xs _ _ (c.loop-turn.invariant.gives xs is) c.in_default.ensures.bytes.bytes;
}

pub returns-in_default-clause-in_time : goal.returns-in_default-clause-in_time
returns-in_default-clause-in_time g c = λ xs is reports.
    let e = c.in_default.ensures.bytes in
    let d = c.loop-turn.invariant.fed xs is reports in
    let mid = state c.loop-turn.decoder in
    rw e.became (last_read g.S.Sink.after g.S.Sink.faulted c.args.turns c.loop-turn.turn _ _ (state c.args.decoder.now) mid mid xs _ _ _ _ _ d (c.loop-turn.invariant.gives xs is) c.loop-turn.invariant.waits c.loop-turn.invariant.rules outcome.ReadFault (λ fits. let before = c.loop-turn.invariant.counted (omega arith) in let one = c.in_default.ensures.reads in omega arith)
    (let a = c.loop-turn-test.true in omega arith)
    (feeds_none g.S.Sink.after mid d.0.rest _)
    (gives_kept 0 d.0.rest _ _ (gives_none d.0.rest _ d.1) e.bytes))

pub returns-then-gathered-eq0-clause-runs : goal.returns-then-gathered-eq0-clause-runs
returns-then-gathered-eq0-clause-runs g c = λ xs is reports.
    let d = c.loop-turn.invariant.fed xs is reports in
    let e = c.in-Ok.ensures.bytes in
    let r = read_some _ _ d.0.rest e.buffer c.in-Ok.gathered d.1 e.bytes.0 e.bytes.1 in
    let long : 0 < length e.buffer = omega (arith, e.long) in
    let none = r.3 c.if-gathered-eq0.true long in
    let piece = take c.in-Ok.gathered e.buffer in
    let small : length piece ≤ 4096 = omega (arith, length-take-le c.in-Ok.gathered e.buffer e.became.0, e.became.0, e.long) in
    let old = state c.args.decoder.now in
    let mid = state c.loop-turn.decoder in
    let new = state c.read_content.new.self in (
      feeds_then g.S.Sink.after old mid new xs piece r.0 _ _ _ d.0 r.2 piece [] (sym (append-nil piece)) (λ gifts s es a. (drains_waits g.S.Sink.after gifts mid new s piece es _ _ (e.became.1.1 gifts s es a)).drains),
      inl none,
      c.finish-then-gathered-eq0.ensures.ends,
      has_all g.S.Sink.after old mid new xs piece r.0 _ _ _ d.0 r.2 piece [] (sym (append-nil piece)) small _ r.1 (λ _. refl) (λ none. c.loop-turn.invariant.waits) (λ gifts s es a. drains_waits g.S.Sink.after gifts mid new s piece es _ _ (e.became.1.1 gifts s es a)),
    )

pub returns-then-gathered-eq0-clause-refused : goal.returns-then-gathered-eq0-clause-refused
returns-then-gathered-eq0-clause-refused g c = λ r is. absurd (c.loop-turn.invariant.unrefused r is)

pub returns-then-gathered-eq0-clause-reads : goal.returns-then-gathered-eq0-clause-reads
returns-then-gathered-eq0-clause-reads g c =
    let e = c.in-Ok.ensures.bytes in
    let idle = idle_at_end c.finish-then-gathered-eq0.result (c.finish-then-gathered-eq0.ensures.unrefused e.became.1.0.1) in
    record {
      giving = c.loop-turn.turn;
      counted = λ fits. let before = c.loop-turn.invariant.counted (omega arith) in let one = c.in-Ok.ensures.reads in omega (arith, idle);
      asked = asks_one c.loop-turn.turn _ (g.R.Source.asked c.args.reader.now) (g.R.Source.asked c.loop-turn.reader) (g.R.Source.asked c.read_content.new.reader) 4096 idle refl c.loop-turn.invariant.asked c.in-Ok.ensures.asked;
      within = let a = c.loop-turn-test.true in omega (arith, idle);
      all = λ is. absurd (let e = is in cc);
      gives = λ xs is. gives_end _ xs _ _ e.buffer c.in-Ok.gathered c.if-gathered-eq0.true (omega (arith, e.long)) (c.loop-turn.invariant.gives xs is) e.bytes;
    }

pub returns-then-gathered-eq0-clause-in_time : goal.returns-then-gathered-eq0-clause-in_time
returns-then-gathered-eq0-clause-in_time g c = λ xs is reports.
    let d = c.loop-turn.invariant.fed xs is reports in
    let e = c.in-Ok.ensures.bytes in
    let mid = state c.loop-turn.decoder in
    let new = state c.read_content.new.self in
    let f = c.finish-then-gathered-eq0.result in
    let idle = idle_at_end f (c.finish-then-gathered-eq0.ensures.unrefused e.became.1.0.1) in
    let long : 0 < length e.buffer = omega (arith, e.long) in
    let r = read_some _ _ d.0.rest e.buffer c.in-Ok.gathered d.1 e.bytes.0 e.bytes.1 in
    let piece = take c.in-Ok.gathered e.buffer in
    last_read g.S.Sink.after g.S.Sink.faulted c.args.turns c.loop-turn.turn _ _ (state c.args.decoder.now) mid new xs _ _ _ _ _ d (c.loop-turn.invariant.gives xs is) c.loop-turn.invariant.waits c.loop-turn.invariant.rules (outcome.Finished f) (λ fits. let before = c.loop-turn.invariant.counted (omega arith) in let one = c.in-Ok.ensures.reads in omega arith)
    (let a = c.loop-turn-test.true in omega arith)
    (feeds_then g.S.Sink.after mid mid new d.0.rest piece r.0 _ _ _ (feeds_none g.S.Sink.after mid d.0.rest _) r.2 piece [] (sym (append-nil piece)) (λ gifts s es a. (drains_waits g.S.Sink.after gifts mid new s piece es _ _ (e.became.1.1 gifts s es a)).drains))
    (rw idle (gives_end 0 d.0.rest _ _ e.buffer c.in-Ok.gathered c.if-gathered-eq0.true long (gives_none d.0.rest _ d.1) e.bytes))

pub loop-turn-preserved-then-gathers : goal.loop-turn-preserved-then-gathers
loop-turn-preserved-then-gathers g c =
    let e = c.in-Ok.ensures.bytes in
    let goes = e.became.1.0 in
    let old = state c.args.decoder.now in
    let mid = state c.loop-turn.decoder in
    let new = state c.read_content.new.self in
    let piece = take c.in-Ok.gathered e.buffer in
    let size : length piece ≡ c.in-Ok.gathered = length-take-le c.in-Ok.gathered e.buffer e.became.0 in
    let small : length piece ≤ 4096 = omega (arith, size, e.became.0, e.long) in
    record {
      long = c.loop-turn.invariant.long;
      rules = goes.0 ∙ c.loop-turn.invariant.rules;
      given = goes.2 ∙ c.loop-turn.invariant.given;
      counted = λ fits. let before = c.loop-turn.invariant.counted (omega arith) in let one = c.in-Ok.ensures.reads in omega arith;
      asked = asks_one c.loop-turn.turn 1 (g.R.Source.asked c.args.reader.now) (g.R.Source.asked c.loop-turn.reader) (g.R.Source.asked c.read_content.new.reader) 4096 refl refl c.loop-turn.invariant.asked c.in-Ok.ensures.asked;
      gives = λ xs is. let some = c.if-gathered-eq0.false in gives_more _ xs _ _ e.buffer c.in-Ok.gathered (omega arith) e.became.0 e.long (c.loop-turn.invariant.gives xs is) e.bytes;
      failures = let a = c.in-Ok.ensures.failures in let b = c.loop-turn.invariant.failures in cc;
      reports = c.loop-turn.invariant.reports;
      also = c.loop-turn.invariant.also;
      in_time = λ xs is reports.
          let d = c.loop-turn.invariant.fed xs is reports in
          let some = c.if-gathered-eq0.false in
          let r = read_some _ _ d.0.rest e.buffer c.in-Ok.gathered d.1 e.bytes.0 e.bytes.1 in
          last_read g.S.Sink.after g.S.Sink.faulted c.args.turns c.loop-turn.turn _ _ old mid new xs _ _ _ _ _ d (c.loop-turn.invariant.gives xs is) c.loop-turn.invariant.waits c.loop-turn.invariant.rules outcome.Turns (λ fits. let before = c.loop-turn.invariant.counted (omega arith) in let one = c.in-Ok.ensures.reads in omega arith)
          (let a = c.loop-turn-test.true in omega arith)
          (feeds_then g.S.Sink.after mid mid new d.0.rest piece r.0 _ _ _ (feeds_none g.S.Sink.after mid d.0.rest _) r.2 piece [] (sym (append-nil piece)) (λ gifts s es a. (drains_waits g.S.Sink.after gifts mid new s piece es _ _ (e.became.1.1 gifts s es a)).drains))
          (gives_more 0 d.0.rest _ _ e.buffer c.in-Ok.gathered (omega arith) e.became.0 e.long (gives_none d.0.rest _ d.1) e.bytes);
      waits = goes.1;
      unrefused = c.loop-turn.invariant.unrefused;
      fed = λ xs is reports.
          let d = c.loop-turn.invariant.fed xs is reports in
          let some = c.if-gathered-eq0.false in
          let r = read_some _ _ d.0.rest e.buffer c.in-Ok.gathered d.1 e.bytes.0 e.bytes.1 in (
            feeds_then g.S.Sink.after old mid new xs piece r.0 _ _ _ d.0 r.2 piece [] (sym (append-nil piece)) (λ gifts s es a. (drains_waits g.S.Sink.after gifts mid new s piece es _ _ (e.became.1.1 gifts s es a)).drains),
            r.1,
            omega (arith, d.2, size, length-append d.0.bytes piece),
            has_all g.S.Sink.after old mid new xs piece r.0 _ _ _ d.0 r.2 piece [] (sym (append-nil piece)) small _ r.1 (λ _. refl) (λ none. c.loop-turn.invariant.waits) (λ gifts s es a. drains_waits g.S.Sink.after gifts mid new s piece es _ _ (e.became.1.1 gifts s es a)),
          );
    }
