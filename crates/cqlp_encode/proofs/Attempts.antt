-- A frame that is gone on with where an attempt at it stopped.
use Rattle.std.proofs.Common.{◌≡◌, ℕ, ◌≤◌, ◌-◌, List, [], ◌∷◌, length, take, drop, min, Option, Some, None, IsSome, Result, Ok, Err, sym, ap, ◌∙◌, arith}
use Rattle.std.specs.Prelude.{IfOk}
use Rattle.std.specs.Io.KnownBytes.{Appends}
use Rattle.cqlp_note.specs.Outputs.{Output}
use Rattle.cqlp_message.specs.FrameValues.{FrameValue}
use Rattle.cqlp_message.specs.Frames.{frame_bytes, unfit_of}
use Rattle.cqlp_encode.specs.declared.writing.EncodeError.{EncodeError}
use Rattle.cqlp_encode.specs.declared.writing.EncodeError.TheVariants as error
use Rattle.cqlp_encode.specs.Encoding.{Continued}
use Rattle.cqlp_encode.specs.Laws.{taken, Attempts, AttemptsAreOne, OneAnswerOfEncodeFrom}
use Rattle.cqlp_encode.proofs.Continuing.{came, came_then}
use Rattle.cqlp_encode.proofs.FramesTaken.{nothing_more}
use Rattle.cqlp_encode.proofs.OneAnswer.{left_once}

-- ---- one answer

-- the target is left in one state by how many bytes it took or had before
pub continued_once : (before : ℕ) (old new new' : Output) (bytes : List ℕ) (n m : ℕ) → IsSome old.given → m ≡ n → Continued before old bytes n new → Continued before old bytes m new' → new' ≡ new
continued_once before old new new' bytes n m known e a b = left_once old new new' (drop before bytes) (n - before) (m - before) known (ap (λ (k : ℕ). k - before) e) a.offered b.offered

pub one_answer_from : OneAnswerOfEncodeFrom
one_answer_from f k old new new' (Ok n) (Ok m) known a b e = (ap (λ (i : ℕ). Ok i) e, continued_once k old new new' (frame_bytes f) n m known e a.2 b.2)
one_answer_from f k old new new' (Ok n) (Err (error.Unfit why)) known a b e = let both = sym a.0.0 ∙ b.0 in absurd cc
one_answer_from f k old new new' (Ok n) (Err (error.Write m)) known a b e = absurd (omega (arith, a.1, b.1, e))
one_answer_from f k old new new' (Err (error.Unfit why)) (Ok m) known a b e = let both = sym a.0 ∙ b.0.0 in absurd cc
one_answer_from f k old new new' (Err (error.Unfit why)) (Err (error.Unfit why')) known a b e =
    let both : ◌≡◌ {A = Option _} (Some why) (Some why') = sym a.0 ∙ b.0 in
    let same : why' ≡ why = cc in
    (ap (λ w. Err (error.Unfit w)) same, b.1 ∙ sym a.1)
one_answer_from f k old new new' (Err (error.Unfit why)) (Err (error.Write m)) known a b e = let both = sym a.0 ∙ b.0.0 in absurd cc
one_answer_from f k old new new' (Err (error.Write n)) (Ok m) known a b e = absurd (omega (arith, a.1, b.1, e))
one_answer_from f k old new new' (Err (error.Write n)) (Err (error.Unfit why)) known a b e = let both = sym a.0.0 ∙ b.0 in absurd cc
one_answer_from f k old new new' (Err (error.Write n)) (Err (error.Write m)) known a b e = (ap (λ (i : ℕ). Err (error.Write i)) e, continued_once k old new new' (frame_bytes f) n m known e a.2 b.2)

-- ---- all attempts

-- The target got the bytes behind those that it had before, up to where the last attempt stopped.
record Came (f : FrameValue) (before m : ℕ) (old new : Output) : Type 0 where
  bytes : Appends old.given new.given (drop before (take m (frame_bytes f)))
  from : min before (length (frame_bytes f)) ≤ m

at_once : (f : FrameValue) (before m : ℕ) (old new : Output) → Continued before old (frame_bytes f) m new → Came f before m old new
at_once f before m old new c = record { bytes = came before m old new (frame_bytes f) c; from = c.from }

came_in : (f : FrameValue) (stops : List (ℕ × Output)) (before : ℕ) (old new : Output) (r : Result ℕ EncodeError) → unfit_of f ≡ None → Attempts f before old stops r new → Came f before (taken r) old new
came_in f [] before old new (Ok n) fits a = at_once f before n old new a.2
came_in f [] before old new (Err (error.Unfit why)) fits a = let both = sym fits ∙ a.0 in absurd cc
came_in f [] before old new (Err (error.Write n)) fits a = at_once f before n old new a.2
came_in f (stop ∷ stops) before old new r fits a =
    let rest = came_in f stops stop.0 stop.1 new r fits a.1 in
    record {
      bytes = came_then before stop.0 (taken r) old stop.1 new (frame_bytes f) a.0.2 rest.from rest.bytes;
      from = omega (arith, a.0.2.from, a.0.2.bound, rest.from);
    }

whole_at_last : (f : FrameValue) (stops : List (ℕ × Output)) (before : ℕ) (old new : Output) (r : Result ℕ EncodeError) → Attempts f before old stops r new → IfOk r (λ n. n ≡ length (frame_bytes f))
whole_at_last f [] before old new (Ok n) a = a.1 ∙ sym a.0.1
whole_at_last f [] before old new (Err e) a = tt
whole_at_last f (stop ∷ stops) before old new r a = whole_at_last f stops stop.0 stop.1 new r a.1

came_at_all : (f : FrameValue) (stops : List (ℕ × Output)) (old new : Output) (r : Result ℕ EncodeError) → Attempts f 0 old stops r new → Appends old.given new.given (take (taken r) (frame_bytes f))
came_at_all f [] old new (Ok n) a = (came_in f [] 0 old new (Ok n) a.0.0 a).bytes
came_at_all f [] old new (Err (error.Unfit why)) a = rw a.1 (nothing_more old.given)
came_at_all f [] old new (Err (error.Write n)) a = (came_in f [] 0 old new (Err (error.Write n)) a.0.0 a).bytes
came_at_all f (stop ∷ stops) old new r a = (came_in f (stop ∷ stops) 0 old new r a.0.0.0 a).bytes

pub attempts_are_one : AttemptsAreOne
attempts_are_one f old new stops r a = (came_at_all f stops old new r a, whole_at_last f stops 0 old new r a)
