-- What a reader is when the loan of its bytes ends.
use Rattle.std.specs.Prelude.{ℕ, List}
use Rattle.std.specs.Borrow.{Fml, RattleType, MutBor}
use Rattle.std.specs.Io.BufRead.{Rests}
use Rattle.std.specs.declared.alloc.Allocator.{Ghosts}
use Rattle.cqlp_capture.specs.contracts.reader.CaptureReader.{the_row}
use Rattle.cqlp_capture.specs.declared.event.CaptureStep.{CaptureStep}
use Rattle.cqlp_capture.specs.Progress.{CaptureState, Answers}

-- the reader is as the answer to this input leaves it
abbrev pub LeavesAnswer : (Z : RattleType) (g : Ghosts Z.Denot) → MutBor CaptureState → CaptureState → List ℕ → CaptureStep → Fml
LeavesAnswer Z g r old input x = Rests (the_row Z g) r (λ after. Answers old input x after)
