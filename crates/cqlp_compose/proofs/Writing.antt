-- What is written of a frame that ends.
use Rattle.std.proofs.Common.{◌≡◌, ℕ, List, [], ◌∷◌, Vec, Global, IfOk, IfErr, MatchResult, sym, subst, Ok, Err}
use Rattle.std.specs.Prelude.{Result}
use Rattle.cqlp_grammar.specs.Events.{Event, Frame, Holds, Node_of, Cell_at, Leave, End}
use Rattle.cqlp_message.specs.Frames.{FrameIsInRange, frame_bytes}
use Rattle.cqlp_message.specs.Owned.{frame_of}
use Rattle.cqlp_message.specs.declared.frame.Frame.{Frame as OwnedFrame}
use Rattle.cqlp_build.specs.declared.error.BuildError.{BuildError}
use Rattle.cqlp_build.specs.declared.error.BuildError.TheVariants as error
use Rattle.cqlp_build.specs.Closing.{Ends}
use Rattle.cqlp_compose.specs.Composing.{IsOfNone, IsWrittenOf}

-- where a frame ends, memory may be refused for its bytes
without_memory : (es : List Event) (f : OwnedFrame) → Ends es (Ok f) → Ends es (Err error.NoMemory)
without_memory [] f e = absurd cc
without_memory (Frame h ∷ es) f e = tt
without_memory (Holds k v ∷ es) f e = absurd e
without_memory (Node_of o ∷ es) f e = absurd e
without_memory (Cell_at row column c ∷ es) f e = absurd e
without_memory (Leave level items ∷ es) f e = absurd e
without_memory (End x ∷ es) f e = absurd e

pub is_written : (es : List Event) (f : OwnedFrame) (r : Result (Vec ℕ Global) BuildError) → Ends es (Ok f)
    → IfOk r (λ v. v.items ≡ frame_bytes (frame_of f)) → IfOk r (λ v. FrameIsInRange (frame_of f)) → IfErr r (λ why. why ≡ error.NoMemory)
    → MatchResult r (λ v. IsWrittenOf es v.items) (λ why. IsOfNone es why)
is_written es f (Ok v) e b g m = record { frame = f; ends = e; range = g; are = b }
is_written es f (Err why) e b g m = subst (λ (w : BuildError). Ends es (Err w)) (sym m) (without_memory es f e)
