use Rattle.std.proofs.Common.{◌≡◌, List, [], ℕ, Some, IsSome}
use Rattle.cqlp_decode.specs.Draining.{Counts, MakesReads, RunsTo, WaitsAt, calls}
use Rattle.cqlp_decode.specs.Streams.{After, state}
use Rattle.cqlp_render.specs.Rendering.{rendered, with_event, FallsShortAtEvent, ReadsOnlyAfterText}
use Rattle.cqlp_render.proofs.render.run_flushing.Given as goal

-- the runs so far were one
abbrev pub invariant-loop-turn : goal.invariant-loop-turn
invariant-loop-turn g l = record {
  waits : WaitsAt l.outcome (state l.decoder);
  rules : (state l.decoder).rules ≡ (state l.fn.decoder).rules;
  reads : MakesReads l.turn l.outcome (calls g.R.Source l.fn.reader) (calls g.R.Source l.reader) (g.R.Source.left l.fn.reader) (g.R.Source.left l.reader);
  failures : Counts l.outcome (g.R.Source.failures l.fn.reader) (g.R.Source.failures l.reader);
  ran : (xs : List ℕ) → g.R.Source.left l.fn.reader ≡ Some xs → IsSome (rendered l.fn.sink).output.given → After (state l.fn.decoder) [] []
      → RunsTo with_event FallsShortAtEvent l.turn l.outcome (state l.fn.decoder) (state l.decoder) xs (g.R.Source.left l.reader) (rendered l.fn.sink) (rendered l.sink);
  in_time : (xs : List ℕ) → g.R.Source.left l.fn.reader ≡ Some xs → IsSome (rendered l.fn.sink).output.given → After (state l.fn.decoder) [] []
      → ReadsOnlyAfterText l.fn.sink.form l.fn.turns (state l.fn.decoder) xs (g.R.Source.reads l.fn.reader) (g.R.Source.reads l.reader) (g.R.Source.left l.reader) (rendered l.fn.sink).output l.sink.written.given;
}
