use Rattle.std.proofs.Common.{◌≡◌, ℕ, [], ◌∙◌, IsSome, Ok, Err, refl, sym, ap, inl, inr, subst, arith}
use Rattle.cqlp_decode.specs.declared.running.Outcome.TheVariants as outcome
use Rattle.cqlp_decode.specs.Draining.{Counts, MakesReads, RunsTo, WaitsAt, calls}
use Rattle.cqlp_decode.specs.Streams.{state}
use Rattle.cqlp_render.specs.Rendering.{rendered, with_event, FallsShortAtEvent}
use Rattle.cqlp_render.proofs.Buffering.{flushes, goes_same, known_taken, still_rendered, breaks_short_taken, goes_then, passes_go, writes_goes}
use Rattle.cqlp_render.proofs.Shows.{front_between, renders_or_fails, ends_early, goes_on, reports_on}
use Rattle.cqlp_render.proofs.Timely.{more_in_time, still_in_time}
use Rattle.cqlp_render.proofs.Turns.{reads_on, reads_early, reads_flushed}
use Rattle.cqlp_render.proofs.render.run_flushing.Goals as goal

pub loop-turn-init : goal.loop-turn-init
loop-turn-init g c = record {
  waits = c.run-outcome.ensures.waits;
  rules = c.run-outcome.ensures.rules;
  reads = c.run-outcome.ensures.reads;
  failures = c.run-outcome.ensures.failures;
  ran = λ xs left known fresh. c.run-outcome.ensures.runs xs left (known_taken _ _ known);
  in_time = λ xs left known fresh.
      elim (c.run-outcome.ensures.in_time xs left (known_taken _ _ known)) [
        | inl none ↦ inl none
        | inr last ↦ absurd (let within = last.within in omega arith)
      ];
}

pub loop-turn-preserved : goal.loop-turn-preserved
loop-turn-preserved g c =
    let waits : WaitsAt outcome.Turns (state c.loop-turn.decoder) = rw c.in-Turns.is at c.loop-turn.invariant.waits in
    record {
      waits = c.run-outcome-in-loop-turn.ensures.waits;
      rules = c.run-outcome-in-loop-turn.ensures.rules ∙ c.loop-turn.invariant.rules;
      reads = reads_on c.loop-turn.turn _ _ _ _ _ _ _ (rw c.in-Turns.is at c.loop-turn.invariant.reads) c.run-outcome-in-loop-turn.ensures.reads;
      failures =
          let same = rw c.in-Turns.is at c.loop-turn.invariant.failures in
          subst (λ (n : ℕ). Counts c.run-outcome-in-loop-turn.result n (g.R.Source.failures c.run-outcome-in-loop-turn.new.reader)) same c.run-outcome-in-loop-turn.ensures.failures;
      ran = λ xs left known fresh.
          let ran = rw c.in-Turns.is at (c.loop-turn.invariant.ran xs left known fresh) in
          let reports = known_taken _ _ (reports_on _ _ xs _ _ _ fresh c.loop-turn.turn ran known) in
          let same = still_rendered c.loop-turn.sink c.flush.new.self c.in-Ok.ensures.writes c.in-Ok.ensures.form reports in
          let emitted = known_taken _ _ (subst (λ r. IsSome r.output.given) (sym same) (reports_on _ _ xs _ _ _ fresh c.loop-turn.turn ran known)) in
          goes_on (state c.args.decoder.now) (state c.loop-turn.decoder) (state c.run-outcome-in-loop-turn.new.decoder) xs (g.R.Source.left c.loop-turn.reader) (g.R.Source.left c.run-outcome-in-loop-turn.new.reader) (rendered c.args.sink.now) (rendered c.loop-turn.sink) (rendered c.flush.new.self) (rendered c.run-outcome-in-loop-turn.new.sink) c.loop-turn.turn c.run-outcome-in-loop-turn.result waits ran same
          (c.run-outcome-in-loop-turn.ensures.runs ran.0.rest ran.1 emitted);
      in_time = λ xs left known fresh.
          let ran = rw c.in-Turns.is at (c.loop-turn.invariant.ran xs left known fresh) in
          let shown = reports_on _ _ xs _ _ _ fresh c.loop-turn.turn ran known in
          let reports = known_taken _ _ shown in
          let same = still_rendered c.loop-turn.sink c.flush.new.self c.in-Ok.ensures.writes c.in-Ok.ensures.form reports in
          let emitted = known_taken _ _ (subst (λ r. IsSome r.output.given) (sym same) shown) in
          let onward = passes_go c.flush.new.self c.run-outcome-in-loop-turn.new.sink c.run-outcome-in-loop-turn.ensures.also in
          let given = flushes c.loop-turn.sink.written c.flush.new.self.written c.in-Ok.ensures.writes c.in-Ok.ensures.empty reports in
          elim (c.run-outcome-in-loop-turn.ensures.in_time ran.0.rest ran.1 emitted) [
            | inl none ↦
                still_in_time c.args.sink.now.form c.args.turns _ xs _ _ _ _ _ _ _ _ (c.loop-turn.invariant.in_time xs left known fresh) none.0 (none.1 ∙ sym ran.1)
                (goes_then _ _ _ (writes_goes c.loop-turn.sink.written c.flush.new.self.written [] (Ok _) c.in-Ok.ensures.writes) onward)
            | inr last ↦
                more_in_time c.args.turns c.loop-turn.turn _ _ (state c.run-outcome-in-loop-turn.new.decoder) xs (calls g.R.Source c.args.reader.now) (calls g.R.Source c.loop-turn.reader) _ (rendered c.args.sink.now) (rendered c.loop-turn.sink) _ _ _ _ _ _ c.run-outcome-in-loop-turn.result ran left (rw c.in-Turns.is at c.loop-turn.invariant.reads) waits c.loop-turn.invariant.rules (let a = c.loop-turn-test.true in omega arith) last
                (goes_then _ _ _ (goes_same _ _ (ap (λ o. o.given) given)) onward)
          ];
    }

pub returns-in_default-clause-renders : goal.returns-in_default-clause-renders
returns-in_default-clause-renders g c = λ xs left known fresh.
    ends_early (state c.args.decoder.now) (state c.loop-turn.decoder) xs (g.R.Source.left c.loop-turn.reader) (rendered c.args.sink.now) (rendered c.loop-turn.sink) fresh c.loop-turn.turn c.args.turns c.loop-turn.outcome c.in_default.not-Turns (c.loop-turn.invariant.ran xs left known fresh)

pub returns-in_default-clause-reads : goal.returns-in_default-clause-reads
returns-in_default-clause-reads g c = reads_early c.loop-turn.turn _ _ _ _ c.args.turns _ (let a = c.loop-turn-test.true in omega arith) c.in_default.not-Turns c.loop-turn.invariant.reads

pub returns-in_default-clause-failures : goal.returns-in_default-clause-failures
returns-in_default-clause-failures g c = c.loop-turn.invariant.failures

pub returns-in_default-flush-clause-renders : goal.returns-in_default-flush-clause-renders
returns-in_default-flush-clause-renders g c = λ xs left known fresh.
    let ran = rw c.in-Turns.is at (c.loop-turn.invariant.ran xs left known fresh) in
    let reports = known_taken _ _ (reports_on _ _ xs _ _ _ fresh c.loop-turn.turn ran known) in
    front_between (state c.args.decoder.now) (state c.loop-turn.decoder) xs (g.R.Source.left c.loop-turn.reader) (rendered c.args.sink.now) (rendered c.loop-turn.sink) fresh c.loop-turn.turn ran (rendered c.flush.new.self).output
    (breaks_short_taken c.loop-turn.sink.written c.flush.new.self.written [] c.in_default-flush.ensures.writes reports)

pub returns-in_default-flush-clause-in_time : goal.returns-in_default-flush-clause-in_time
returns-in_default-flush-clause-in_time g c = λ xs left known fresh.
    still_in_time c.args.sink.now.form c.args.turns _ xs _ _ _ _ _ _ _ _ (c.loop-turn.invariant.in_time xs left known fresh) refl refl (writes_goes c.loop-turn.sink.written c.flush.new.self.written [] (Err _) c.in_default-flush.ensures.writes)

pub returns-clause-renders : goal.returns-clause-renders
returns-clause-renders g c = λ xs left known fresh.
    let all : c.loop-turn.turn ≡ c.args.turns = omega arith in
    renders_or_fails (state c.args.decoder.now) (state c.loop-turn.decoder) xs (g.R.Source.left c.loop-turn.reader) (rendered c.args.sink.now) (rendered c.loop-turn.sink) fresh c.args.turns c.loop-turn.outcome
    (subst (λ (n : ℕ). RunsTo with_event FallsShortAtEvent n c.loop-turn.outcome (state c.args.decoder.now) (state c.loop-turn.decoder) xs (g.R.Source.left c.loop-turn.reader) (rendered c.args.sink.now) (rendered c.loop-turn.sink)) all (c.loop-turn.invariant.ran xs left known fresh))

pub returns-in_default-flush-clause-reads : goal.returns-in_default-flush-clause-reads
returns-in_default-flush-clause-reads g c = reads_flushed c.loop-turn.turn _ _ _ _ c.args.turns (let a = c.loop-turn-test.true in omega arith) (rw c.in-Turns.is at c.loop-turn.invariant.reads)

pub returns-clause-reads : goal.returns-clause-reads
returns-clause-reads g c =
    let all : c.loop-turn.turn ≡ c.args.turns = omega arith in
    subst (λ (n : ℕ). MakesReads n c.loop-turn.outcome (calls g.R.Source c.args.reader.now) (calls g.R.Source c.loop-turn.reader) (g.R.Source.left c.args.reader.now) (g.R.Source.left c.loop-turn.reader)) all c.loop-turn.invariant.reads
