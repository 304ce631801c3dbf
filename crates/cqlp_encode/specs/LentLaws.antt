-- The laws of pages whose cells are lent twice.
use Rattle.std.specs.Prelude.{◌≡◌, ◌++◌, ℕ, Bool, true, List, [], IsSome, Result, Err}
use Rattle.cqlp_note.specs.Outputs.{Output}
use Rattle.cqlp_value.specs.Values.{Values}
use Rattle.cqlp_message.specs.FrameValues.{FrameValue}
use Rattle.cqlp_encode.specs.declared.lent_page.LentError.{LentError}
use Rattle.cqlp_encode.specs.declared.lent_page.LentError.TheVariants as error
use Rattle.cqlp_encode.specs.LentCells.{EncodesLent}

-- Of all these cells the first were lent, and all where they have ended.
abbrev pub Lends : (all lent : List Values) → (ended : Bool) → Type 0
Lends all lent ended = (rest : List Values) × (all ≡ lent ++ rest) × (ended ≡ true → rest ≡ [])

-- Cells that are the same both times are never said to have changed.
abbrev pub SameAreNotChanged : Type 0
SameAreNotChanged =
    (f : FrameValue) (first again : List Values) (ended : Bool) (old new : Output)
    → Lends first again ended → EncodesLent f first again ended old (Err error.Changed) new → ⊥

-- Of one frame, the cells of two times and one target, whose bytes are known, there is one answer, and the target is left
-- in one state, but for the bytes that it took.
abbrev pub OneAnswerOfEncodePage : Type 0
OneAnswerOfEncodePage =
    (f : FrameValue) (first all again again' : List Values) (ended ended' : Bool) (old new new' : Output)
    (r r' : Result ℕ LentError) → IsSome old.given → Lends all again ended → Lends all again' ended'
    → EncodesLent f first again ended old r new → EncodesLent f first again' ended' old r' new' → new'.given ≡ new.given
    → (r' ≡ r) × (new' ≡ new)
