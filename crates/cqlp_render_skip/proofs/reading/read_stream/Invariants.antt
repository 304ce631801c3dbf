use Rattle.std.proofs.Common.{◌≡◌, List, ℕ, length}
use Rattle.cqlp_note.specs.Limits.{Rules}
use Rattle.cqlp_render.specs.declared.showing.TheConstants.{TURNS}
use Rattle.cqlp_render.specs.declared.text_form.TextForm.{TextForm}
use Rattle.cqlp_render.specs.Streams.{unread}
use Rattle.cqlp_render_skip.specs.Reporting.{Outputs}
use Rattle.cqlp_render_skip.specs.Showing.{Begins}
use Rattle.cqlp_render_skip.proofs.Turning.{Turned}
use Rattle.cqlp_render_skip.proofs.reading.read_stream.Given as goal

-- all bytes that were read were used, and all text passed on
abbrev pub invariant-loop-turn : goal.invariant-loop-turn
invariant-loop-turn g l = record {
  long : length l.buffer ≡ 4096;
  emitted : (form : TextForm) (k : Rules) (xs : List ℕ) (first : Outputs) → Begins form k xs first (g.R.Source.left l.fn.input) l.fn.decoder l.fn.report
      → Turned form k xs first TURNS (unread g.R.Source l.fn.input) l.turn (unread g.R.Source l.input) l.decoder l.reporter;
}
