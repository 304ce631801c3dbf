use Rattle.std.proofs.Common.{◌≡◌, ◌-◌, ◌^◌, List, ℕ, ◌++◌}
use Rattle.cqlp_note.specs.Limits.{Rules}
use Rattle.cqlp_render.specs.declared.text_form.TextForm.{TextForm}
use Rattle.cqlp_render_skip.specs.Reporting.{AreKnown, GoOn, Outputs, Reports}
use Rattle.cqlp_render_skip.specs.Texts.{afresh}
use Rattle.cqlp_render_skip.proofs.feeding.hand_piece.Given as goal

-- the first bytes were used, and all that is to be written of them was
abbrev pub invariant-stretches : goal.invariant-stretches
invariant-stretches g l = record {
  goes : GoOn l.fn.report l.reporter;
  emitted : (front : List ℕ) × (l.fn.piece ≡ front ++ l.rest) × ((form : TextForm) (k : Rules) (xs s later : List ℕ) (first : Outputs) → afresh form ≡ form → AreKnown first → xs ≡ (s ++ l.fn.piece) ++ later → Reports form k xs first l.fn.decoder s l.fn.report → Reports form k xs first l.decoder (s ++ front) l.reporter);
}

-- the next stretch begins later
abbrev pub decreases-stretches : goal.decreases-stretches
decreases-stretches g l = 2 ^ 64 - l.decoder.base
