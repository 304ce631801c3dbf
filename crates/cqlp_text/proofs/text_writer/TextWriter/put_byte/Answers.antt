use Rattle.std.proofs.Common.{rules, ◌≡◌, ◌++◌, codes, ◌∷◌, []}
use Rattle.hex.specs.Hex.{encode_lower}
use Rattle.cqlp_text.specs.Text.{escaped}
use Rattle.cqlp_text.proofs.Writing.{progress_starts, progress_stops}
use Rattle.cqlp_text.proofs.text_writer.TextWriter.put_byte.Goals as goal

pub returns-in_err-put-in_default : goal.returns-in_err-put-in_default
returns-in_err-put-in_default g c =
    let text : escaped c.args.byte ≡ codes "\\x" ++ encode_lower (c.args.byte ∷ []) = search rules in
    progress_stops _ c.from_residual.result c.from_residual.ensures.0 (progress_starts _ _) text c.in_err-put-in_default.ensures
