-- The laws of the encoder.
use Rattle.std.specs.Prelude.{◌≡◌, ◌⊎◌, ◌+◌, ◌≤◌, ℕ, None, List, [], ◌∷◌, length, take, IsSome, IfOk, Option, Result, Ok, Err, ⊤}
use Rattle.std.specs.Io.KnownBytes.{Appends}
use Rattle.cqlp_note.specs.declared.field.Notation.TheVariants as notation
use Rattle.cqlp_note.specs.Field as note
use Rattle.cqlp_note.specs.Outputs.{Output}
use Rattle.cqlp_note.specs.Spelling.{field_bytes}
use Rattle.cqlp_type.specs.declared.tree.TypeTree.{TypeTree}
use Rattle.cqlp_value.specs.declared.value.Value.{Value}
use Rattle.cqlp_value.specs.Owned.{value_of}
use Rattle.cqlp_value.specs.Values.{Values, values_bytes, values_size}
use Rattle.cqlp_message.specs.declared.request.OwnedBound.{OwnedBound}
use Rattle.cqlp_message.specs.declared.frame.Frame.{Frame}
use Rattle.cqlp_message.specs.FrameValues.{FrameValue}
use Rattle.cqlp_message.specs.Owned.{bound_of, frame_of}
use Rattle.cqlp_message.specs.Frames.{frame_bytes, frame_size}
use Rattle.cqlp_message.specs.Pages.{with_cells}
use Rattle.cqlp_encode.specs.declared.writing.EncodeError.{EncodeError}
use Rattle.cqlp_encode.specs.declared.writing.EncodeError.TheVariants as error
use Rattle.cqlp_encode.specs.declared.page_writer.PageError.{PageError}
use Rattle.cqlp_encode.specs.declared.page_writer.PageError.TheVariants as page_error
use Rattle.cqlp_encode.specs.declared.value_writing.ValueError.{ValueError}
use Rattle.cqlp_encode.specs.declared.value_writing.ValueError.TheVariants as value_error
use Rattle.cqlp_encode.specs.declared.appending.AppendError.{AppendError}
use Rattle.cqlp_encode.specs.declared.appending.AppendError.TheVariants as append_error
use Rattle.cqlp_encode.specs.Appending.{AppendsFrame}
use Rattle.cqlp_encode.specs.Encoding.{Encodes, EncodesFrom}
use Rattle.cqlp_encode.specs.ValueWriting.{WritesValue}
use Rattle.cqlp_encode.specs.declared.binding.BindError.{BindError}
use Rattle.cqlp_encode.specs.declared.binding.BindError.TheVariants as bind_error
use Rattle.cqlp_encode.specs.Binding.{IsBound, IsRaw, Makes, bound_written, raw_written}
use Rattle.cqlp_encode.specs.PageWriting.{PageState, Begins, BeginsFrom, Adds, AddsAll, AddsRest, GoesOn, Finishes}
use Rattle.cqlp_encode.specs.PageWriting.{After, cell_error, one_more}

-- how many bytes the target took
abbrev pub taken : Result ℕ EncodeError → ℕ
taken (Ok n) = n
taken (Err (error.Unfit why)) = 0
taken (Err (error.Write n)) = n

-- Of one frame and one target, whose bytes are known, there is one answer, and the target is left in one state, but for
-- how many bytes it took before it failed, if it did.
abbrev pub OneAnswerOfEncode : Type 0
OneAnswerOfEncode =
    (f : FrameValue) (old new new' : Output) (r r' : Result ℕ EncodeError) → IsSome old.given
    → Encodes f old r new → Encodes f old r' new' → taken r' ≡ taken r → (r' ≡ r) × (new' ≡ new)

-- memory was not refused
abbrev pub IsGranted : Result ℕ AppendError → Type 0
IsGranted (Err append_error.NoMemory) = ⊥
IsGranted r = Unit {0}

-- Of one frame behind the same bytes there is one answer, and there are the same bytes then, where there is room for the
-- frame, or memory is not refused.
abbrev pub OneAnswerOfAppend : Type 0
OneAnswerOfAppend =
    (f : FrameValue) (room : ℕ) (old new new' : List ℕ) (r r' : Result ℕ AppendError)
    → (length old + frame_size f 0 ≤ room) ⊎ (IsGranted r × IsGranted r')
    → AppendsFrame f room old r new → AppendsFrame f room old r' new' → (r' ≡ r) × (new' ≡ new)

-- The same of a frame that is gone on with.
abbrev pub OneAnswerOfEncodeFrom : Type 0
OneAnswerOfEncodeFrom =
    (f : FrameValue) (before : ℕ) (old new new' : Output) (r r' : Result ℕ EncodeError) → IsSome old.given
    → EncodesFrom f before old r new → EncodesFrom f before old r' new' → taken r' ≡ taken r → (r' ≡ r) × (new' ≡ new)

-- Attempts at one frame, each of which goes on where the one before stopped: where each stopped and how it left the
-- target, and then what the last answers.
abbrev pub Attempts :
    FrameValue → (before : ℕ) → (old : Output) → List (ℕ × Output) → Result ℕ EncodeError → (new : Output) → Type 0
Attempts f before old [] r new = EncodesFrom f before old r new
Attempts f before old (stop ∷ stops) r new =
    EncodesFrom f before old (Err (error.Write stop.0)) stop.1 × Attempts f stop.0 stop.1 stops r new

-- Over all attempts together the target got the first bytes of the frame, as many as the last answer says, each once and
-- in order; and all of them where it is Ok.
abbrev pub AttemptsAreOne : Type 0
AttemptsAreOne =
    (f : FrameValue) (old new : Output) (stops : List (ℕ × Output)) (r : Result ℕ EncodeError) → Attempts f 0 old stops r new
    → Appends old.given new.given (take (taken r) (frame_bytes f)) × IfOk r (λ n. n ≡ length (frame_bytes f))

-- The same of a value that is written.
abbrev pub value_taken : Result ℕ ValueError → ℕ
value_taken (Ok n) = n
value_taken (Err (value_error.Write n)) = n
value_taken (Err e) = 0

abbrev pub OneAnswerOfWriteValue : Type 0
OneAnswerOfWriteValue =
    (v : Value) (t : Option TypeTree) (old new new' : Output) (r r' : Result ℕ ValueError) → IsSome old.given
    → WritesValue v t old r new → WritesValue v t old r' new' → value_taken r' ≡ value_taken r → (r' ≡ r) × (new' ≡ new)

-- ---- values that are bound, and raw cells

-- the same is made, or the same is why not; or memory was refused to one of two that else make something
abbrev pub AreSame : {X : Type 0} → (Same : X → X → Type 0) → Result X BindError → Result X BindError → Type 0
AreSame Same (Ok x) (Ok y) = Same x y
AreSame Same (Ok x) (Err bind_error.NoMemory) = Unit {0}
AreSame Same (Err bind_error.NoMemory) (Ok y) = Unit {0}
AreSame Same (Err bind_error.NoMemory) (Err bind_error.NoMemory) = Unit {0}
AreSame Same (Err bind_error.Unfit) (Err bind_error.Unfit) = Unit {0}
AreSame Same (Err bind_error.TooLong) (Err bind_error.TooLong) = Unit {0}
AreSame Same r r' = ⊥

-- Of one value and type there is one answer, but where memory is refused.
abbrev pub OneAnswerOfBindValue : Type 0
OneAnswerOfBindValue =
    (v : Value) (t : Option TypeTree) (r r' : Result OwnedBound BindError)
    → Makes (IsBound v t) v t r → Makes (IsBound v t) v t r' → AreSame (λ b c. bound_of b ≡ bound_of c) r r'

abbrev pub OneAnswerOfRawValue : Type 0
OneAnswerOfRawValue =
    (v : Value) (t : Option TypeTree) (r r' : Result Value BindError)
    → Makes (IsRaw v t) v t r → Makes (IsRaw v t) v t r' → AreSame (λ x y. value_of x ≡ value_of y) r r'

-- A bound value has the bytes in a request that the value has where it is written, and so has a raw cell in a page.
abbrev pub BoundIsAsWritten : Type 0
BoundIsAsWritten =
    (v : Value)
    → (field_bytes notation.Bound (note.Bound (bound_written (value_of v))) ≡ values_bytes (value_of v))
    × (values_bytes (raw_written (value_of v)) ≡ values_bytes (value_of v))

-- ---- pages

-- how many bytes the target took before the first cell
abbrev pub head_taken : Result PageState PageError → ℕ
head_taken (Ok p) = p.written
head_taken (Err (page_error.Write n)) = n
head_taken (Err e) = 0

-- The same of a page that is begun: its writer, too, is left in one state.
abbrev pub OneAnswerOfBegin : Type 0
OneAnswerOfBegin =
    (f : Frame) (n : ℕ) (old new new' : Output) (r r' : Result PageState PageError) → IsSome old.given
    → Begins f n old r new → Begins f n old r' new' → head_taken r' ≡ head_taken r → (r' ≡ r) × (new' ≡ new)

-- The same of the next cell of a page.
abbrev pub OneAnswerOfCell : Type 0
OneAnswerOfCell =
    (p q q' : PageState) (cells : List Values) (v : Values) (old new new' : Output) (r r' : Result ⊤ PageError)
    → IsSome old.given → Adds p cells v old r new q → Adds p cells v old r' new' q' → q'.written ≡ q.written
    → (r' ≡ r) × (new' ≡ new) × (q' ≡ q)

-- The same of a page whose beginning is gone on with, and of a cell that is.
abbrev pub OneAnswerOfBeginFrom : Type 0
OneAnswerOfBeginFrom =
    (f : Frame) (n before : ℕ) (old new new' : Output) (r r' : Result PageState PageError) → IsSome old.given
    → BeginsFrom f n before old r new → BeginsFrom f n before old r' new' → head_taken r' ≡ head_taken r
    → (r' ≡ r) × (new' ≡ new)

abbrev pub OneAnswerOfResume : Type 0
OneAnswerOfResume =
    (p q q' : PageState) (cells : List Values) (v : Values) (old new new' : Output) (r r' : Result ⊤ PageError)
    → IsSome old.given → AddsRest p cells v old r new q → AddsRest p cells v old r' new' q' → q'.written ≡ q.written
    → (r' ≡ r) × (new' ≡ new) × (q' ≡ q)

-- A cell within which `cell` stopped, and then `resume` however often, until it was Ok: the target got the cell's bytes,
-- each once and in order, and the writer is where `cell` leaves it that does not stop.
abbrev pub CellIsWhole : Type 0
CellIsWhole =
    (p q q' : PageState) (n k : ℕ) (cells : List Values) (v : Values) (old mid new : Output)
    (stops : List (ℕ × Output × PageState)) → After p n cells → cell_error p cells v ≡ None
    → Adds p cells v old (Err (page_error.Write k)) mid q → GoesOn q cells v mid stops (Ok tt) new q'
    → Appends old.given new.given (values_bytes v) × (q' ≡ one_more p (values_size v))

-- There is one answer to whether a page is done.
abbrev pub OneAnswerOfFinish : Type 0
OneAnswerOfFinish =
    (p : PageState) (n : ℕ) (cells : List Values) (r r' : Result ℕ PageError)
    → Finishes p n cells r → Finishes p n cells r' → r' ≡ r

-- A page that is begun, whose cells are written one after the other, and that is done, is the frame with those cells as
-- `encode` writes it.
abbrev pub PageIsAsEncoded : Type 0
PageIsAsEncoded =
    (f : Frame) (n : ℕ) (cells : List Values) (p q : PageState) (old mid new : Output) (size : ℕ)
    → Begins f n old (Ok p) mid → AddsAll p [] cells mid new q → Finishes q n cells (Ok size)
    → Encodes (with_cells (frame_of f) cells) old (Ok size) new
