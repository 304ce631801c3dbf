use Rattle.std.proofs.Common.{◌∙◌, ◌++◌, List, ℕ, ap, drop, length, replicate, take}
use Rattle.cqlp_capture_exchanges.specs.Parts.{held}
use Rattle.cqlp_capture_exchanges.proofs.part.StatementPart.of.Goals as goal

pub returns : goal.returns
returns c =
    let front : List ℕ = c.front_of-front.result.now in
    ap (λ (z : List ℕ). record { bytes = z ++ drop (length front) (replicate 256 0); length = length front }) c.copy_from_slice.ensures.after
    ∙ ap held c.front_of-front.ensures.front ∙ ap (λ (z : List ℕ). held (take 256 z)) c.as_bytes.ensures.value
