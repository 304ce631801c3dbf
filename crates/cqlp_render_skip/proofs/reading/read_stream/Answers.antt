use Rattle.std.proofs.Common.{◌≡◌, ℕ, ◌+◌, ◌≤◌, ◌<◌, length, take, refl, ap, ◌∙◌, subst, arith}
use Rattle.cqlp_note.specs.Streams.{counted_up}
use Rattle.cqlp_render.specs.declared.showing.TheConstants.{TURNS}
use Rattle.cqlp_render.specs.Streams.{unread}
use Rattle.cqlp_render_skip.specs.declared.feeding.Handed.{Handed}
use Rattle.cqlp_render_skip.specs.Reporting.{HandsTo}
use Rattle.cqlp_render_skip.proofs.Stretching.{both_go}
use Rattle.cqlp_render_skip.proofs.Turning.{Turned, begins, flush_fault, flush_goes, input_ends, is_more, led_to, one_more, read_fault, refused_for_good, turns_out, write_fault}
use Rattle.cqlp_render_skip.proofs.reading.read_stream.Goals as goal

pub loop-turn-init : goal.loop-turn-init
loop-turn-init g c = record {
  long = refl;
  emitted = λ form k xs first b. begins form k xs first TURNS (unread g.R.Source c.args.input.now) c.args.decoder.now c.args.report b;
}

pub returns-in-Err : goal.returns-in-Err
returns-in-Err g c = λ form k xs first b.
    let t = c.loop-turn.invariant.emitted form k xs first b in
    let was = unread g.R.Source c.args.input.now in
    let now = unread g.R.Source c.loop-turn.input in
    let now' = unread g.R.Source c.read.new.self in
    let more : c.loop-turn.turn + 1 ≤ TURNS = let a = c.loop-turn-test.true in omega arith in
    let long : length c.read.new.buffer ≡ 4096 = let a = c.read.auto.buffer in let b = c.loop-turn.invariant.long in omega arith in
    read_fault form k xs first TURNS was c.loop-turn.turn now now' c.loop-turn.decoder c.loop-turn.reporter t more c.in-Err.ensures.reads (c.in-Err.ensures.asked ∙ ap (λ (k : ℕ). counted_up k now.asked) long) c.in-Err.ensures.failures c.in-Err.ensures.bytes

pub returns-then-count-eq0 : goal.returns-then-count-eq0
returns-then-count-eq0 g c = λ form k xs first b.
    let t = c.loop-turn.invariant.emitted form k xs first b in
    let was = unread g.R.Source c.args.input.now in
    let now = unread g.R.Source c.loop-turn.input in
    let now' = unread g.R.Source c.read.new.self in
    let more : c.loop-turn.turn + 1 ≤ TURNS = let a = c.loop-turn-test.true in omega arith in
    let long : length c.read.new.buffer ≡ 4096 = let a = c.read.auto.buffer in let b = c.loop-turn.invariant.long in omega arith in
    let within : c.in-Ok.count ≤ length c.read.new.buffer = c.in-Ok.ensures.bound in
    input_ends form k xs first TURNS was c.loop-turn.turn now now' c.loop-turn.decoder c.loop-turn.reporter t more c.in-Ok.ensures.reads (c.in-Ok.ensures.asked ∙ ap (λ (k : ℕ). counted_up k now.asked) long) c.read.new.buffer c.in-Ok.count long c.in-Ok.ensures.failures c.in-Ok.ensures.bytes c.finish.result c.if-count-eq0.true c.finish.ensures

pub returns-in-Fault : goal.returns-in-Fault
returns-in-Fault g c = λ form k xs first b.
    let t = c.loop-turn.invariant.emitted form k xs first b in
    let was = unread g.R.Source c.args.input.now in
    let now = unread g.R.Source c.loop-turn.input in
    let now' = unread g.R.Source c.read.new.self in
    let more : c.loop-turn.turn + 1 ≤ TURNS = let a = c.loop-turn-test.true in omega arith in
    let long : length c.read.new.buffer ≡ 4096 = let a = c.read.auto.buffer in let b = c.loop-turn.invariant.long in omega arith in
    let within : c.in-Ok.count ≤ length c.read.new.buffer = c.in-Ok.ensures.bound in
    let some : 0 < c.in-Ok.count = let a = c.if-count-eq0.false in omega arith in
    let d = c.loop-turn.decoder in
    let d' = c.hand_piece-handed.new.decoder in
    let emitted = c.loop-turn.reporter in
    let emitted' = c.hand_piece-handed.result.1 in
    let x = c.hand_piece-handed.result.0 in
    let goes = c.hand_piece-handed.ensures.goes_on in
    let h = led_to form k xs first TURNS was c.loop-turn.turn now now' d emitted t more c.in-Ok.ensures.reads (c.in-Ok.ensures.asked ∙ ap (λ (k : ℕ). counted_up k now.asked) long) c.read.new.buffer c.in-Ok.count long c.in-Ok.ensures.failures c.in-Ok.ensures.bytes some within d' emitted' emitted' goes x (λ later is. c.hand_piece-handed.ensures.hands form k xs t.bytes later first t.fresh t.known is t.reports) in
    write_fault form k xs first TURNS was c.loop-turn.turn now now' d emitted t more c.in-Ok.ensures.reads (c.in-Ok.ensures.asked ∙ ap (λ (k : ℕ). counted_up k now.asked) long) c.read.new.buffer c.in-Ok.count long c.in-Ok.ensures.failures c.in-Ok.ensures.bytes some within d' emitted' emitted' goes (rw c.in-Fault.is at h)

pub returns-in-Err-flush : goal.returns-in-Err-flush
returns-in-Err-flush g c = λ form k xs first b.
    let t = c.loop-turn.invariant.emitted form k xs first b in
    let was = unread g.R.Source c.args.input.now in
    let now = unread g.R.Source c.loop-turn.input in
    let now' = unread g.R.Source c.read.new.self in
    let more : c.loop-turn.turn + 1 ≤ TURNS = let a = c.loop-turn-test.true in omega arith in
    let long : length c.read.new.buffer ≡ 4096 = let a = c.read.auto.buffer in let b = c.loop-turn.invariant.long in omega arith in
    let within : c.in-Ok.count ≤ length c.read.new.buffer = c.in-Ok.ensures.bound in
    let some : 0 < c.in-Ok.count = let a = c.if-count-eq0.false in omega arith in
    let d = c.loop-turn.decoder in
    let d' = c.hand_piece-handed.new.decoder in
    let emitted = c.loop-turn.reporter in
    let emitted' = c.hand_piece-handed.result.1 in
    let x = c.hand_piece-handed.result.0 in
    let emitted'' = c.flush.new.self in
    let goes = both_go emitted emitted' emitted'' c.hand_piece-handed.ensures.goes_on (flush_goes emitted' emitted'' _ c.flush.result c.flush.ensures.writes c.flush.ensures.err) in
    let h = led_to form k xs first TURNS was c.loop-turn.turn now now' d emitted t more c.in-Ok.ensures.reads (c.in-Ok.ensures.asked ∙ ap (λ (k : ℕ). counted_up k now.asked) long) c.read.new.buffer c.in-Ok.count long c.in-Ok.ensures.failures c.in-Ok.ensures.bytes some within d' emitted' emitted'' goes x (λ later is. c.hand_piece-handed.ensures.hands form k xs t.bytes later first t.fresh t.known is t.reports) in
    flush_fault form k xs first TURNS was c.loop-turn.turn now now' d emitted t more c.in-Ok.ensures.reads (c.in-Ok.ensures.asked ∙ ap (λ (k : ℕ). counted_up k now.asked) long) c.read.new.buffer c.in-Ok.count long c.in-Ok.ensures.failures c.in-Ok.ensures.bytes some within d' emitted' emitted'' goes x c.in_default.not-Fault h c.in-Err-flush.ensures.writes c.flush.ensures.err c.flush.ensures.passed

pub returns-in-Refused : goal.returns-in-Refused
returns-in-Refused g c = λ form k xs first b.
    let t = c.loop-turn.invariant.emitted form k xs first b in
    let was = unread g.R.Source c.args.input.now in
    let now = unread g.R.Source c.loop-turn.input in
    let now' = unread g.R.Source c.read.new.self in
    let more : c.loop-turn.turn + 1 ≤ TURNS = let a = c.loop-turn-test.true in omega arith in
    let long : length c.read.new.buffer ≡ 4096 = let a = c.read.auto.buffer in let b = c.loop-turn.invariant.long in omega arith in
    let within : c.in-Ok.count ≤ length c.read.new.buffer = c.in-Ok.ensures.bound in
    let some : 0 < c.in-Ok.count = let a = c.if-count-eq0.false in omega arith in
    let d = c.loop-turn.decoder in
    let d' = c.hand_piece-handed.new.decoder in
    let emitted = c.loop-turn.reporter in
    let emitted' = c.hand_piece-handed.result.1 in
    let x = c.hand_piece-handed.result.0 in
    let emitted'' = c.flush.new.self in
    let goes = both_go emitted emitted' emitted'' c.hand_piece-handed.ensures.goes_on (flush_goes emitted' emitted'' _ c.flush.result c.flush.ensures.writes c.flush.ensures.err) in
    let h = led_to form k xs first TURNS was c.loop-turn.turn now now' d emitted t more c.in-Ok.ensures.reads (c.in-Ok.ensures.asked ∙ ap (λ (k : ℕ). counted_up k now.asked) long) c.read.new.buffer c.in-Ok.count long c.in-Ok.ensures.failures c.in-Ok.ensures.bytes some within d' emitted' emitted'' goes x (λ later is. c.hand_piece-handed.ensures.hands form k xs t.bytes later first t.fresh t.known is t.reports) in
    refused_for_good form k xs first TURNS was c.loop-turn.turn now now' d emitted t more c.in-Ok.ensures.reads (c.in-Ok.ensures.asked ∙ ap (λ (k : ℕ). counted_up k now.asked) long) c.read.new.buffer c.in-Ok.count long c.in-Ok.ensures.failures c.in-Ok.ensures.bytes some within d' emitted' emitted'' goes c.in_default-flush.ensures.writes c.flush.ensures.empty c.flush.ensures.form c.flush.ensures.err c.flush.ensures.passed c.in-Refused.refusal (rw c.in-Refused.is at h)

pub loop-turn-preserved : goal.loop-turn-preserved
loop-turn-preserved g c = record {
  long = let a = c.read.auto.buffer in let b = c.loop-turn.invariant.long in omega arith;
  emitted = λ form k xs first b.
      let t = c.loop-turn.invariant.emitted form k xs first b in
      let was = unread g.R.Source c.args.input.now in
      let now = unread g.R.Source c.loop-turn.input in
      let now' = unread g.R.Source c.read.new.self in
      let more : c.loop-turn.turn + 1 ≤ TURNS = let a = c.loop-turn-test.true in omega arith in
      let long : length c.read.new.buffer ≡ 4096 = let a = c.read.auto.buffer in let b = c.loop-turn.invariant.long in omega arith in
      let within : c.in-Ok.count ≤ length c.read.new.buffer = c.in-Ok.ensures.bound in
      let some : 0 < c.in-Ok.count = let a = c.if-count-eq0.false in omega arith in
      let d = c.loop-turn.decoder in
      let d' = c.hand_piece-handed.new.decoder in
      let emitted = c.loop-turn.reporter in
      let emitted' = c.hand_piece-handed.result.1 in
      let x = c.hand_piece-handed.result.0 in
      let emitted'' = c.flush.new.self in
      let goes = both_go emitted emitted' emitted'' c.hand_piece-handed.ensures.goes_on (flush_goes emitted' emitted'' _ c.flush.result c.flush.ensures.writes c.flush.ensures.err) in
      let h = led_to form k xs first TURNS was c.loop-turn.turn now now' d emitted t more c.in-Ok.ensures.reads (c.in-Ok.ensures.asked ∙ ap (λ (k : ℕ). counted_up k now.asked) long) c.read.new.buffer c.in-Ok.count long c.in-Ok.ensures.failures c.in-Ok.ensures.bytes some within d' emitted' emitted'' goes x (λ later is. c.hand_piece-handed.ensures.hands form k xs t.bytes later first t.fresh t.known is t.reports) in
      one_more form k xs first TURNS was c.loop-turn.turn now now' d emitted t more c.in-Ok.ensures.reads (c.in-Ok.ensures.asked ∙ ap (λ (k : ℕ). counted_up k now.asked) long) c.read.new.buffer c.in-Ok.count long c.in-Ok.ensures.failures c.in-Ok.ensures.bytes some within d' emitted' emitted'' goes c.in_default-flush.ensures.writes c.flush.ensures.empty c.flush.ensures.form c.flush.ensures.err c.flush.ensures.passed
      (subst (λ (y : Handed). HandsTo form k xs first t.bytes (take c.in-Ok.count c.read.new.buffer) y d' emitted') (is_more x c.in_default.not-Fault c.in_default-handed.not-Refused) h);
}

pub returns : goal.returns
returns g c = λ form k xs first b.
    let all : c.loop-turn.turn ≡ TURNS = let a = c.loop-turn-test.false in let e = c.loop-turn.auto.turn-end in omega arith in
    turns_out form k xs first TURNS (unread g.R.Source c.args.input.now) (unread g.R.Source c.loop-turn.input) c.loop-turn.decoder c.loop-turn.reporter
    (subst (λ (n : ℕ). Turned form k xs first TURNS (unread g.R.Source c.args.input.now) n (unread g.R.Source c.loop-turn.input) c.loop-turn.decoder c.loop-turn.reporter) all (c.loop-turn.invariant.emitted form k xs first b))
