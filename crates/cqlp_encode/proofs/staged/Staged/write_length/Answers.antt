use Rattle.std.proofs.Common.{◌≤◌, ◌+◌, ℕ, List, length, take, drop, sym, ap, subst, ◌∙◌, arith}
use Rattle.std.proofs.lemmas.List.{length-take-le}
use Rattle.cqlp_note.specs.Outputs.{written}
use Rattle.cqlp_encode.specs.Progress.{Progress}
use Rattle.cqlp_encode.proofs.Kept.{with_length_view}
use Rattle.cqlp_encode.proofs.staged.Staged.write_length.Goals as goal

pub returns : goal.returns
returns g c =
    let s = c.self.inside in
    let waits : c.args.start + 4 ≤ length (take s.len s.buffer) = subst (λ (p : Progress). c.args.start + 4 ≤ length p.waiting) (sym c.self.view_is) c.requires in
    let room : s.len ≤ length s.buffer = omega (arith, c.self.told, c.self.invariant.0) in
    let bytes = c.copy_from_slice.ensures.after ∙ ap (λ (t : List ℕ). take 4 (drop 4 t)) c.to_be_bytes-len.ensures in
    let within : c.args.start + 4 ≤ s.len = omega (arith, waits, length-take-le s.len s.buffer room) in
    rw (← c.self.view_is) (ap (λ (w : List ℕ). record { output = written g.W.Target s.target.now; calls = g.W.Target.writes s.target.now; waiting = w; taken = s.taken; skip = s.skip; failed = s.failed; lender = s.target.ghost_name })
    (with_length_view c.args.start s.len s.buffer _ within room bytes))
