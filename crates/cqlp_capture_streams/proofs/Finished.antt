-- What a last block that was passed on leaves.
use Rattle.std.proofs.Common.{◌≡◌, ◌∙◌, ℕ, true, false, Result, Ok, Err, refl, sym, ap, subst, inl, inr}
use Rattle.cqlp_note.specs.declared.streams.IoFault.{IoFault}
use Rattle.cqlp_note.specs.Streams.{counted}
use Rattle.cqlp_text.specs.Outputs.{Output}
use Rattle.cqlp_capture_streams.specs.declared.buffering.Buffering.{Buffering}
use Rattle.cqlp_capture_streams.specs.declared.buffering.Buffering.TheVariants as buffering
use Rattle.cqlp_capture_streams.specs.declared.capturing.CaptureRead.{CaptureRead}
use Rattle.cqlp_capture_streams.specs.declared.fault.StreamsFault.{StreamsFault}
use Rattle.cqlp_capture_streams.specs.declared.fault.StreamsFault.TheVariants as fault
use Rattle.cqlp_capture_streams.specs.Captures.{ReadsMade}
use Rattle.cqlp_capture_streams.specs.Blocks.{HandsOn, LacksEnd}
use Rattle.cqlp_capture_streams.specs.Buffers.{Buffers, FinishesBlocks, ended_with, has_failed}
use Rattle.cqlp_capture_streams.proofs.Causes.{EndedIfFault}

-- where no write had failed
pub finished : (read r : Result CaptureRead StreamsFault) (whole new : Output) (answer : Result (Unit {0}) IoFault) → has_failed read ≡ false → HandsOn whole answer new → r ≡ ended_with read answer → FinishesBlocks read whole r new
finished (Ok x) r whole new answer other a is = (answer, a, is)
finished (Err fault.Read) r whole new answer other a is = (answer, a, is)
finished (Err fault.Write) r whole new answer other a is = absurd (cc other)
finished (Err (fault.File f)) r whole new answer other a is = (answer, a, is)
finished (Err fault.NoMemory) r whole new answer other a is = (answer, a, is)
finished (Err fault.TooManyTurns) r whole new answer other a is = (answer, a, is)

-- where one had
pub failed_before : (read : Result CaptureRead StreamsFault) (whole new : Output) → has_failed read ≡ true → LacksEnd whole new → FinishesBlocks read whole (Err fault.Write) new
failed_before (Ok x) whole new is a = absurd (cc is)
failed_before (Err fault.Read) whole new is a = absurd (cc is)
failed_before (Err fault.Write) whole new is a = (refl, a)
failed_before (Err (fault.File f)) whole new is a = absurd (cc is)
failed_before (Err fault.NoMemory) whole new is a = absurd (cc is)
failed_before (Err fault.TooManyTurns) whole new is a = absurd (cc is)

-- ---- without a fault all was read and passed on

answered : (x y : CaptureRead) (answer : Result (Unit {0}) IoFault) (whole new : Output) → HandsOn whole answer new → ◌≡◌ {A = Result CaptureRead StreamsFault} (Ok y) (ended_with (Ok x) answer) → (◌≡◌ {A = Result CaptureRead StreamsFault} (Ok y) (Ok x)) × (new ≡ whole)
answered x y (Ok u) whole new a is = (is, a)
answered x y (Err e) whole new a is = absurd (let no = is in cc)

finished_well : (read : Result CaptureRead StreamsFault) (y : CaptureRead) (whole new : Output) → FinishesBlocks read whole (Ok y) new → (◌≡◌ {A = Result CaptureRead StreamsFault} (Ok y) read) × (new ≡ whole)
finished_well (Ok x) y whole new (answer, a, is) = answered x y answer whole new a is
finished_well (Err fault.Read) y whole new (answer, a, is) = absurd (let no = is in cc)
finished_well (Err fault.Write) y whole new (is, a) = absurd (let no = is in cc)
finished_well (Err (fault.File f)) y whole new (answer, a, is) = absurd (let no = is in cc)
finished_well (Err fault.NoMemory) y whole new (answer, a, is) = absurd (let no = is in cc)
finished_well (Err fault.TooManyTurns) y whole new (answer, a, is) = absurd (let no = is in cc)

buffered_ok : (b : Buffering) (read : Result CaptureRead StreamsFault) (y : CaptureRead) (whole new : Output) → Buffers b read whole (Ok y) new → (◌≡◌ {A = Result CaptureRead StreamsFault} (Ok y) read) × (new ≡ whole)
buffered_ok buffering.Line read y whole new a = a
buffered_ok buffering.Block read y whole new (inl a) = a
buffered_ok buffering.Block read y whole new (inr a) = finished_well read y whole new a

pub buffered_well : (b : Buffering) (read r : Result CaptureRead StreamsFault) (y : CaptureRead) (whole new : Output) → r ≡ Ok y → Buffers b read whole r new → (r ≡ read) × (new ≡ whole)
buffered_well b read r y whole new is a =
    let x = buffered_ok b read y whole new (subst (λ (z : Result CaptureRead StreamsFault). Buffers b read whole z new) is a) in
    (is ∙ x.0, x.1)

-- ---- a fault has a cause

ended_ok : (m : ReadsMade) (x : CaptureRead) (r : Result CaptureRead StreamsFault) (answer : Result (Unit {0}) IoFault) (n : ℕ) (whole new : Output) → whole.failures ≡ n → HandsOn whole answer new → r ≡ ended_with (Ok x) answer → EndedIfFault m r n new.failures
ended_ok m x r (Ok u) n whole new before a is = subst (λ (z : Result CaptureRead StreamsFault). EndedIfFault m z n new.failures) (sym is) tt
ended_ok m x r (Err e) n whole new before a is =
    let one : new.failures ≡ counted true n = a.failures ∙ ap (λ k. counted true k) before in
    subst (λ (z : Result CaptureRead StreamsFault). EndedIfFault m z n new.failures) (sym is) one

-- the reading's own, which says nothing of the output but where that failed
kept_fault : (m : ReadsMade) (r : Result CaptureRead StreamsFault) (f : StreamsFault) (n n' : ℕ) → EndedIfFault m (Err f) n n' → r ≡ Err f → EndedIfFault m r n n'
kept_fault m r f n n' a is = subst (λ (z : Result CaptureRead StreamsFault). EndedIfFault m z n n') (sym is) a

finished_cause : (m : ReadsMade) (read r : Result CaptureRead StreamsFault) (n : ℕ) (whole new : Output) → ((x : CaptureRead) → read ≡ Ok x → whole.failures ≡ n) → EndedIfFault m read n whole.failures → FinishesBlocks read whole r new → EndedIfFault m r n new.failures
finished_cause m (Ok x) r n whole new well c (answer, a, is) = ended_ok m x r answer n whole new (well x refl) a is
finished_cause m (Err fault.Read) r n whole new well c (answer, a, is) = kept_fault m r fault.Read n new.failures c is
finished_cause m (Err fault.Write) r n whole new well c (is, a) = kept_fault m r fault.Write n new.failures (a.failures ∙ c) is
finished_cause m (Err (fault.File f)) r n whole new well c (answer, a, is) = absurd c
finished_cause m (Err fault.NoMemory) r n whole new well c (answer, a, is) = kept_fault m r fault.NoMemory n new.failures tt is
finished_cause m (Err fault.TooManyTurns) r n whole new well c (answer, a, is) = kept_fault m r fault.TooManyTurns n new.failures tt is

same_cause : (m : ReadsMade) (read r : Result CaptureRead StreamsFault) (n : ℕ) (whole new : Output) → EndedIfFault m read n whole.failures → r ≡ read → new ≡ whole → EndedIfFault m r n new.failures
same_cause m read r n whole new c is same =
    subst (λ (z : Result CaptureRead StreamsFault). EndedIfFault m z n new.failures) (sym is) (subst (λ (o : Output). EndedIfFault m read n o.failures) (sym same) c)

pub buffered_cause : (b : Buffering) (m : ReadsMade) (read r : Result CaptureRead StreamsFault) (n : ℕ) (whole new : Output) → ((x : CaptureRead) → read ≡ Ok x → whole.failures ≡ n) → EndedIfFault m read n whole.failures → Buffers b read whole r new → EndedIfFault m r n new.failures
buffered_cause buffering.Line m read r n whole new well c (is, same) = same_cause m read r n whole new c is same
buffered_cause buffering.Block m read r n whole new well c (inl (is, same)) = same_cause m read r n whole new c is same
buffered_cause buffering.Block m read r n whole new well c (inr a) = finished_cause m read r n whole new well c a
