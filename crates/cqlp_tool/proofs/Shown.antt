-- What was written of how much of a file was read.
use Rattle.std.proofs.Common.{◌≡◌, ◌∙◌, ◌+◌, ◌<◌, ℕ, suc, List, ◌++◌, length, true, false, subst, sym, ap, arith}
use Rattle.std.proofs.Math.Seq.{take-append-add}
use Rattle.std.proofs.lemmas.Grind.{common_steps}
use Rattle.std.specs.Io.KnownBytes.{Appends}
use Rattle.cqlp_note.specs.Outputs.{Output}
use Rattle.cqlp_note.specs.Streams.{counted}
use Rattle.cqlp_note.proofs.Appended.{appends_then}
use Rattle.cqlp_tool.specs.Marks.{ShowsText, mark_line, mark_lines}

-- a text, and then some of another
pub stops_later : (before mid now : Output) (x y : List ℕ) → ShowsText before x false mid → ShowsText mid y true now → ShowsText before (x ++ y) true now
stops_later before mid now x y first second =
    let within : length x + second.sent < length (x ++ y) = grind (arith, common_steps, second.within) in
    record {
      sent = length x + second.sent;
      within = within;
      given = subst (λ (t : List ℕ). Appends before.given now.given t) (sym (take-append-add x y second.sent)) (appends_then _ _ _ _ _ first.0 second.given);
      failures = second.failures ∙ ap (counted true) first.1;
    }

-- the lines of one mark more
pub one_more : (length n : ℕ) → mark_lines length n ++ mark_line length (n + 1) ≡ mark_lines length (n + 1)
one_more length n = let e : suc n ≡ n + 1 = omega arith in ap (mark_lines length) e
