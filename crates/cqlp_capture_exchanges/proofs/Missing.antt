-- What was missed is said.
use Rattle.std.proofs.Common.{◌≡◌, ◌==◌, ℕ, Bool, true, false, not, if◌then◌else◌, List, [], ◌∷◌, length, Result, refl, sym, ap, subst}
use Rattle.std.proofs.Math.Dec.{eqb-suc-zero}
use Rattle.cqlp_text.specs.Outputs.{Output}
use Rattle.cqlp_observer.specs.declared.missed.Missed.{Missed}
use Rattle.cqlp_capture_streams.specs.declared.limits.StreamsLimits.{StreamsLimits}
use Rattle.cqlp_capture_exchanges.specs.declared.pool.ExchangeLimits.{ExchangeLimits}
use Rattle.cqlp_capture_streams.specs.declared.capturing.CaptureRead.{CaptureRead}
use Rattle.cqlp_capture_streams.specs.declared.fault.StreamsFault.{StreamsFault}
use Rattle.cqlp_capture_streams.specs.Endings.{ConcludesNoted}
use Rattle.cqlp_capture_exchanges.specs.declared.losses.Losses.{Losses}
use Rattle.cqlp_capture_exchanges.specs.declared.sums.ExchangeSums.{ExchangeSums}
use Rattle.cqlp_capture_exchanges.specs.Capturing.{ConcludesSums, words_of}
use Rattle.cqlp_capture_exchanges.specs.Losses.{has_losses, losses_of, note_text}

-- there is a note where something was missed
noted_if : (b : Bool) (x : ℕ) (xs : List ℕ) → b ≡ not (length (if b then x ∷ xs else []) == 0)
noted_if true x xs = sym (ap not (eqb-suc-zero (length xs)))
noted_if false x xs = refl

pub some_noted : (l : Losses) → has_losses l ≡ not (length (note_text l) == 0)
some_noted l = noted_if (has_losses l) _ _

-- by what was missed
pub noted : (c : StreamsLimits) (most : ExchangeLimits) (ports : List ℕ) (l : Losses) (sums : ExchangeSums) (missed : Missed) (r : Result CaptureRead StreamsFault) (before : Output) (status : ℕ) (after : Output) → l ≡ losses_of c most r sums missed → ConcludesNoted ports (note_text l) (words_of sums l) r before status after → ConcludesSums c most ports sums missed r before status after
noted c most ports l sums missed r before status after is ends = subst (λ (z : Losses). ConcludesNoted ports (note_text z) (words_of sums z) r before status after) is ends
