use Rattle.std.proofs.Common.{rules, Err, Ok, Some, ◌+◌, ◌≡◌, ◌∙◌, ◌<◌, ◌≤◌, ◌++◌, true, length, take, ap, refl, length-take-le, arith}
use Rattle.cqlp_note.specs.Streams.{counted}
use Rattle.cqlp_capture_streams.specs.declared.running.Drained.TheVariants as drained
use Rattle.cqlp_capture_streams.specs.Captures.{most_read}
use Rattle.cqlp_capture_streams.proofs.Splitting.{all_read, as_drained, badly_made, counts_kept, drain_fails, file_ends, is_known, more_read, none_read, read_fails, read_some, refused_all, room_again, turns_end, well_made}
use Rattle.cqlp_capture_streams.proofs.running.split.Goals as goal

pub loop-turn-init : goal.loop-turn-init
loop-turn-init g c = record {
  long = refl;
  reports = λ k. k;
  failures = refl;
  counted = λ fits. omega arith;
  asked = λ fits. omega arith;
  so_far = λ xs is k. none_read g.L.Listener.after xs _ _ _ _ c.requires.reader is;
}

pub returns-in-Err-clause-splits : goal.returns-in-Err-clause-splits
returns-in-Err-clause-splits g c = λ xs is k. (
  badly_made (c.loop-turn.turn + 1),
  (λ fits. let before = c.loop-turn.invariant.counted (omega arith) in let one = c.in-Err.ensures.reads in omega arith, c.in-Err.ensures.failures ∙ ap (counted true) c.loop-turn.invariant.failures, room_again _ _ _ _ c.loop-turn.turn c.loop-turn.invariant.asked c.in-Err.ensures.asked (let x = c.read.auto.buffer in let y = c.loop-turn.invariant.long in let z = c.requires.room in omega arith)),
  read_fails g.L.Listener.after g.L.Listener.faulted c.args.reader.now.limits c.args.splitter.now (g.L.Listener.view c.args.listener.now) xs (g.R.Source.left c.loop-turn.input) (g.R.Source.left c.read.new.self) c.loop-turn.reader c.loop-turn.splitter (g.L.Listener.view c.loop-turn.listener) (c.loop-turn.invariant.so_far xs is k) c.args.turns (c.loop-turn.turn + 1) (let a = c.loop-turn-test.true in omega arith) c.in-Err.ensures.bytes,
)

pub returns-clause-splits : goal.returns-clause-splits
returns-clause-splits g c = λ xs is k.
    let all : c.loop-turn.turn ≡ c.args.turns = omega arith in (
      well_made c.loop-turn.turn,
      (λ fits. let before = c.loop-turn.invariant.counted (omega arith) in omega arith, c.loop-turn.invariant.failures, c.loop-turn.invariant.asked),
      turns_end g.L.Listener.after g.L.Listener.faulted c.args.reader.now.limits c.args.splitter.now (g.L.Listener.view c.args.listener.now) xs (g.R.Source.left c.loop-turn.input) (g.R.Source.left c.loop-turn.input) c.loop-turn.reader c.loop-turn.splitter (g.L.Listener.view c.loop-turn.listener) (c.loop-turn.invariant.so_far xs is k) c.args.turns c.loop-turn.turn (omega arith) all,
    )

pub returns-in_err-drained-clause-splits : goal.returns-in_err-drained-clause-splits
returns-in_err-drained-clause-splits g c =
    let fails : c.from_residual.result ≡ Err c.in_err-drained.field-0.0 = search rules in
    rw fails (λ xs is k.
    let f = c.loop-turn.invariant.so_far xs is k in
    let r = read_some (g.R.Source.left c.loop-turn.input) (g.R.Source.left c.read.new.self) f.rest c.read.new.buffer c.in-Ok.count f.others c.in-Ok.ensures.bytes.0 c.in-Ok.ensures.bytes.1 in
    let short : length (take c.in-Ok.count c.read.new.buffer) ≤ most_read = let x = c.read.auto.buffer in let y = c.loop-turn.invariant.long in let z = c.requires.room in omega (arith, length-take-le c.in-Ok.count c.read.new.buffer c.in-Ok.ensures.bound, c.in-Ok.ensures.bound) in
    (well_made (c.loop-turn.turn + 1), (λ fits. let before = c.loop-turn.invariant.counted (omega arith) in let one = c.in-Ok.ensures.reads in omega arith, c.in-Ok.ensures.failures ∙ c.loop-turn.invariant.failures, room_again _ _ _ _ c.loop-turn.turn c.loop-turn.invariant.asked c.in-Ok.ensures.asked (let x = c.read.auto.buffer in let y = c.loop-turn.invariant.long in let z = c.requires.room in omega arith)), drain_fails g.L.Listener.after g.L.Listener.faulted c.args.reader.now.limits c.args.splitter.now (g.L.Listener.view c.args.listener.now) xs (g.R.Source.left c.loop-turn.input) (g.R.Source.left c.read.new.self) c.loop-turn.reader c.loop-turn.splitter (g.L.Listener.view c.loop-turn.listener) f c.args.turns (c.loop-turn.turn + 1) (let a = c.loop-turn-test.true in omega arith) (take c.in-Ok.count c.read.new.buffer) r.0 r.1 r.2 short c.drain.new.reader c.drain.new.splitter (g.L.Listener.view c.drain.new.listener) c.in_err-drained.field-0.0 (c.in_err-drained.ensures.drains c.args.splitter.now (g.L.Listener.view c.args.listener.now) f.read (c.loop-turn.invariant.reports k) f.has f.free)))

pub returns-in-Refused-clause-splits : goal.returns-in-Refused-clause-splits
returns-in-Refused-clause-splits g c = λ xs is k.
    let f = c.loop-turn.invariant.so_far xs is k in
    let r = read_some (g.R.Source.left c.loop-turn.input) (g.R.Source.left c.read.new.self) f.rest c.read.new.buffer c.in-Ok.count f.others c.in-Ok.ensures.bytes.0 c.in-Ok.ensures.bytes.1 in
    let short : length (take c.in-Ok.count c.read.new.buffer) ≤ most_read = let x = c.read.auto.buffer in let y = c.loop-turn.invariant.long in let z = c.requires.room in omega (arith, length-take-le c.in-Ok.count c.read.new.buffer c.in-Ok.ensures.bound, c.in-Ok.ensures.bound) in
    let piece = take c.in-Ok.count c.read.new.buffer in
    let a = rw c.in-Refused.is at c.in_ok-drained.ensures.drains c.args.splitter.now (g.L.Listener.view c.args.listener.now) f.read (c.loop-turn.invariant.reports k) f.has f.free in
    (well_made (c.loop-turn.turn + 1), (λ fits. let before = c.loop-turn.invariant.counted (omega arith) in let one = c.in-Ok.ensures.reads in omega arith, c.in-Ok.ensures.failures ∙ c.loop-turn.invariant.failures, room_again _ _ _ _ c.loop-turn.turn c.loop-turn.invariant.asked c.in-Ok.ensures.asked (let x = c.read.auto.buffer in let y = c.loop-turn.invariant.long in let z = c.requires.room in omega arith)), file_ends g.L.Listener.after g.L.Listener.faulted c.args.reader.now.limits c.args.splitter.now (g.L.Listener.view c.args.listener.now) xs (g.R.Source.left c.loop-turn.input) (g.R.Source.left c.read.new.self) c.loop-turn.reader c.loop-turn.splitter (g.L.Listener.view c.loop-turn.listener) f c.args.turns (c.loop-turn.turn + 1) (let a = c.loop-turn-test.true in omega arith) piece r.0 r.1 r.2 short c.drain.new.reader c.drain.new.splitter (g.L.Listener.view c.drain.new.listener) drained.Refused c.end_all.result c.end_all.new.splitter (g.L.Listener.view c.end_all.new.listener) a (refused_all c.drain.new.reader c.end_all.result r.0 a.1 c.end_all.ensures.end) (c.end_all.ensures.ends c.args.splitter.now c.args.turns (well_made (c.loop-turn.turn + 1)) (g.L.Listener.view c.args.listener.now) a.2 (f.read ++ piece) (c.in_ok-drained.ensures.reports (c.loop-turn.invariant.reports k)) a.3 a.4))

pub returns-in_err-begin_next-in-More-clause-splits : goal.returns-in_err-begin_next-in-More-clause-splits
returns-in_err-begin_next-in-More-clause-splits g c = λ xs is k.
    let f = c.loop-turn.invariant.so_far xs is k in
    let r = read_some (g.R.Source.left c.loop-turn.input) (g.R.Source.left c.read.new.self) f.rest c.read.new.buffer c.in-Ok.count f.others c.in-Ok.ensures.bytes.0 c.in-Ok.ensures.bytes.1 in
    absurd (let no = (c.in_err-begin_next-in-More.ensures.one (is_known r.1)).0 in cc)

pub returns-then-count-eq0-clause-splits : goal.returns-then-count-eq0-clause-splits
returns-then-count-eq0-clause-splits g c = λ xs is k.
    let f = c.loop-turn.invariant.so_far xs is k in
    let r = read_some (g.R.Source.left c.loop-turn.input) (g.R.Source.left c.read.new.self) f.rest c.read.new.buffer c.in-Ok.count f.others c.in-Ok.ensures.bytes.0 c.in-Ok.ensures.bytes.1 in
    let short : length (take c.in-Ok.count c.read.new.buffer) ≤ most_read = let x = c.read.auto.buffer in let y = c.loop-turn.invariant.long in let z = c.requires.room in omega (arith, length-take-le c.in-Ok.count c.read.new.buffer c.in-Ok.ensures.bound, c.in-Ok.ensures.bound) in
    let piece = take c.in-Ok.count c.read.new.buffer in
    let one = c.in_ok-begin_next-in-More.ensures.one (is_known r.1) in
    let known : g.R.Source.left c.begin_next.new.input ≡ Some r.0 = ap g.R.Source.left one.1 ∙ r.1 in
    let a = as_drained g.L.Listener.after g.L.Listener.faulted c.loop-turn.reader.limits c.args.splitter.now (g.L.Listener.view c.args.listener.now) f.read piece (Ok drained.More) c.drain.new.reader c.begin_next.new.reader c.drain.new.splitter c.begin_next.new.splitter (g.L.Listener.view c.drain.new.listener) one.2 one.3 (rw c.in-More.is at c.in_ok-drained.ensures.drains c.args.splitter.now (g.L.Listener.view c.args.listener.now) f.read (c.loop-turn.invariant.reports k) f.has f.free) in
    let long : 0 < length c.read.new.buffer = let x = c.read.auto.buffer in let y = c.loop-turn.invariant.long in let z = c.requires.room in omega arith in
    (well_made (c.loop-turn.turn + 1), (λ fits. let before = c.loop-turn.invariant.counted (omega arith) in let read = c.in-Ok.ensures.reads in let kept = c.in_ok-begin_next-in-More.ensures.reads in omega arith, c.in_ok-begin_next-in-More.ensures.failures ∙ c.in-Ok.ensures.failures ∙ c.loop-turn.invariant.failures, counts_kept _ _ _ _ c.in_ok-begin_next-in-More.ensures.asked (room_again _ _ _ _ c.loop-turn.turn c.loop-turn.invariant.asked c.in-Ok.ensures.asked (let x = c.read.auto.buffer in let y = c.loop-turn.invariant.long in let z = c.requires.room in omega arith))), file_ends g.L.Listener.after g.L.Listener.faulted c.args.reader.now.limits c.args.splitter.now (g.L.Listener.view c.args.listener.now) xs (g.R.Source.left c.loop-turn.input) (g.R.Source.left c.begin_next.new.input) c.loop-turn.reader c.loop-turn.splitter (g.L.Listener.view c.loop-turn.listener) f c.args.turns (c.loop-turn.turn + 1) (let a = c.loop-turn-test.true in omega arith) piece r.0 known r.2 short c.begin_next.new.reader c.begin_next.new.splitter (g.L.Listener.view c.drain.new.listener) drained.More c.end_all-then-count-eq0.result c.end_all-then-count-eq0.new.splitter (g.L.Listener.view c.end_all-then-count-eq0.new.listener) a (all_read c.end_all-then-count-eq0.result r.0 (r.3 c.if-count-eq0.true long)) (c.end_all-then-count-eq0.ensures.ends c.args.splitter.now c.args.turns (well_made (c.loop-turn.turn + 1)) (g.L.Listener.view c.args.listener.now) a.2 (f.read ++ piece) (c.in_ok-drained.ensures.reports (c.loop-turn.invariant.reports k)) a.3 a.4))

pub loop-turn-preserved-then-branch : goal.loop-turn-preserved-then-branch
loop-turn-preserved-then-branch g c = record {
  long = let x = c.read.auto.buffer in let y = c.loop-turn.invariant.long in omega arith;
  reports = λ k. c.in_ok-drained.ensures.reports (c.loop-turn.invariant.reports k);
  failures = c.in_ok-begin_next-in-More.ensures.failures ∙ c.in-Ok.ensures.failures ∙ c.loop-turn.invariant.failures;
  counted = λ fits. let before = c.loop-turn.invariant.counted (omega arith) in let read = c.in-Ok.ensures.reads in let kept = c.in_ok-begin_next-in-More.ensures.reads in omega arith;
  asked = counts_kept _ _ _ _ c.in_ok-begin_next-in-More.ensures.asked (room_again _ _ _ _ c.loop-turn.turn c.loop-turn.invariant.asked c.in-Ok.ensures.asked (let x = c.read.auto.buffer in let y = c.loop-turn.invariant.long in let z = c.requires.room in omega arith));
  so_far = λ xs is k.
      let f = c.loop-turn.invariant.so_far xs is k in
      let r = read_some (g.R.Source.left c.loop-turn.input) (g.R.Source.left c.read.new.self) f.rest c.read.new.buffer c.in-Ok.count f.others c.in-Ok.ensures.bytes.0 c.in-Ok.ensures.bytes.1 in
      absurd (let no = (c.in_ok-begin_next-in-More.ensures.one (is_known r.1)).0 in let begun = c.if-branch.true in cc);
}

pub loop-turn-preserved : goal.loop-turn-preserved
loop-turn-preserved g c = record {
  long = let x = c.read.auto.buffer in let y = c.loop-turn.invariant.long in omega arith;
  reports = λ k. c.in_ok-drained.ensures.reports (c.loop-turn.invariant.reports k);
  failures = c.in-Ok.ensures.failures ∙ c.loop-turn.invariant.failures;
  counted = λ fits. let before = c.loop-turn.invariant.counted (omega arith) in let one = c.in-Ok.ensures.reads in omega arith;
  asked = room_again _ _ _ _ c.loop-turn.turn c.loop-turn.invariant.asked c.in-Ok.ensures.asked (let x = c.read.auto.buffer in let y = c.loop-turn.invariant.long in let z = c.requires.room in omega arith);
  so_far = λ xs is k.
      let f = c.loop-turn.invariant.so_far xs is k in
      let r = read_some (g.R.Source.left c.loop-turn.input) (g.R.Source.left c.read.new.self) f.rest c.read.new.buffer c.in-Ok.count f.others c.in-Ok.ensures.bytes.0 c.in-Ok.ensures.bytes.1 in
      let short : length (take c.in-Ok.count c.read.new.buffer) ≤ most_read = let x = c.read.auto.buffer in let y = c.loop-turn.invariant.long in let z = c.requires.room in omega (arith, length-take-le c.in-Ok.count c.read.new.buffer c.in-Ok.ensures.bound, c.in-Ok.ensures.bound) in
      let a = rw c.in-More.is at c.in_ok-drained.ensures.drains c.args.splitter.now (g.L.Listener.view c.args.listener.now) f.read (c.loop-turn.invariant.reports k) f.has f.free in
      more_read g.L.Listener.after g.L.Listener.faulted c.args.reader.now.limits c.args.splitter.now (g.L.Listener.view c.args.listener.now) xs (g.R.Source.left c.loop-turn.input) (g.R.Source.left c.read.new.self) c.loop-turn.reader c.loop-turn.splitter (g.L.Listener.view c.loop-turn.listener) f c.args.turns (c.loop-turn.turn + 1) (let a = c.loop-turn-test.true in omega arith) (take c.in-Ok.count c.read.new.buffer) r.0 r.1 r.2 short c.drain.new.reader c.drain.new.splitter (g.L.Listener.view c.drain.new.listener) a;
}
