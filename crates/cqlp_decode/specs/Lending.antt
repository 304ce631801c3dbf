-- What a `Decoder` is when the loan of its content ends.
use Rattle.std.specs.Prelude.{ℕ, List}
use Rattle.std.specs.Borrow.{Fml, RattleType, MutBor}
use Rattle.std.specs.Io.BufRead.{Rests}
use Rattle.std.specs.declared.alloc.Allocator.{Ghosts}
use Rattle.cqlp_decode.specs.contracts.decoder.Decoder.{the_row}
use Rattle.cqlp_decode.specs.declared.step.Step.{Step}
use Rattle.cqlp_decode.specs.Streams.{Decoding, Answers, state}

-- the decoder is as the answer to this input leaves it
abbrev pub LeavesAnswer : (Z : RattleType) (g : Ghosts Z.Denot) → MutBor Decoding → Decoding → List ℕ → Step → Fml
LeavesAnswer Z g d old input x = Rests (the_row Z g) d (λ after. Answers (state old) input x (state after))
