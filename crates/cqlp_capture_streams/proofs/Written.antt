-- Lines that are made, and put.
use Rattle.std.proofs.Common.{◌≡◌, ◌∙◌, ℕ, List, Option, Some, None, IsSome, IfOk, IfErr, OnOk, Result, Ok, Err, refl, sym, ap, subst}
use Rattle.std.specs.Io.KnownBytes.{append_known}
use Rattle.cqlp_text.specs.Outputs.{Output, with_text, StopsWithin}
use Rattle.cqlp_tcp_connections.specs.declared.totals.ConnectionTotals.{ConnectionTotals}
use Rattle.cqlp_capture_streams.specs.declared.capturing.CaptureRead.{CaptureRead}
use Rattle.cqlp_capture_streams.specs.declared.fault.StreamsFault.{StreamsFault}
use Rattle.cqlp_capture_streams.specs.declared.fault.StreamsFault.TheVariants as fault
use Rattle.cqlp_capture_streams.specs.declared.limits.StreamsLimits.{StreamsLimits}
use Rattle.cqlp_capture_streams.specs.declared.recorder.Sums.{Sums}
use Rattle.cqlp_capture_streams.specs.Files.{Call, Kept, with_call}
use Rattle.cqlp_capture_streams.specs.Lines.{connection_line}
use Rattle.cqlp_capture_streams.specs.ConnectionEvents.{ConnectionEvent, Left}
use Rattle.cqlp_capture_streams.specs.Recordings.{Recording, Puts, Records, StopsAt, lined, line_of, no_sums, recording, summed, sums_with, with_connection_event}
use Rattle.cqlp_capture_streams.specs.Endings.{Concludes, sums_words}
use Rattle.cqlp_capture_streams.specs.Captures.{ReadsMade}
use Rattle.cqlp_capture_streams.specs.Streams.{ReadsCapture, WritesStreamsBy}

-- a text, if it was made, is another way of writing it
pub said : {T E : Type 0} (r : Result T E) (text : T → List ℕ) (a b : List ℕ) → IfOk r (λ s. text s ≡ a) → a ≡ b → IfOk r (λ s. text s ≡ b)
said (Ok s) text a b h e = h ∙ e
said (Err x) text a b h e = tt

-- the files of a connection were kept, and its line was put, or not
keeps : (r : Recording) (c : ConnectionTotals) (res : Result (Unit {0}) StreamsFault) (line : List ℕ) (new : Output) → line ≡ connection_line c → Puts line r.output res new → Records r (Left c) res (recording (with_call r.calls (Kept c.number)) new (sums_with (Left c) r.sums))
keeps r c (Ok u) line new e p = ap (λ o. recording (with_call r.calls (Kept c.number)) o (sums_with (Left c) r.sums)) (p ∙ ap (λ z. with_text r.output z) e)
keeps r c (Err fault.NoMemory) line new e p = absurd p
keeps r c (Err fault.Write) line new e p = (refl, subst (λ z. StopsWithin r.output z new) e p)
keeps r c (Err fault.Read) line new e p = absurd p
keeps r c (Err (fault.File f)) line new e p = absurd p
keeps r c (Err fault.TooManyTurns) line new e p = absurd p

pub kept : (self : Recording) (calls : Option (List Call)) (out : Output) (sums : Sums) → recording calls out sums ≡ self → (c : ConnectionTotals) (res : Result (Unit {0}) StreamsFault) (line : List ℕ) (calls' : Option (List Call)) (new : Output) (sums' sums'' : Sums) → calls' ≡ with_call calls (Kept c.number) → sums' ≡ summed c.requests sums → sums'' ≡ summed c.responses sums' → line ≡ connection_line c → (IsSome out.given → Puts line out res new) → IsSome self.output.given → Records self (Left c) res (recording calls' new sums'')
kept self calls out sums v c res line calls' new sums' sums'' a b d e p known =
    let same : recording calls' new sums'' ≡ recording (with_call calls (Kept c.number)) new (summed c.responses (summed c.requests sums)) = cc in
    let holds : IsSome out.given → Records (recording calls out sums) (Left c) res (recording calls' new sums'') = λ k.
    subst (λ (z : Recording). Records (recording calls out sums) (Left c) res z) (sym same) (keeps (recording calls out sums) c res line new e (p k)) in
    subst (λ (r : Recording). IsSome r.output.given → Records r (Left c) res (recording calls' new sums'')) v holds known

-- ---- a recorder as a listener

known_more : (given : Option (List ℕ)) (line : List ℕ) → IsSome given → IsSome (append_known given line)
known_more None line k = k
known_more (Some bytes) line k = refl

known_line : (l : Option (List ℕ)) (o : Output) → IsSome o.given → IsSome (lined l o).given
known_line None o k = k
known_line (Some line) o k = known_more o.given line k

pub heard_ok : (old new : Recording) (s : ConnectionEvent) (r : Result (Unit {0}) StreamsFault) → (IsSome old.output.given → Records old s r new) → OnOk r (IsSome old.output.given → IsSome new.output.given × (new ≡ with_connection_event old s))
heard_ok old new s (Ok u) a = λ known.
    let is = a known in
    (subst (λ (z : Recording). IsSome z.output.given) (sym is) (known_line (line_of s) old.output known), is)
heard_ok old new s (Err e) a = tt

pub heard_err : (old new : Recording) (s : ConnectionEvent) (r : Result (Unit {0}) StreamsFault) → (IsSome old.output.given → Records old s r new) → IfErr r (λ e. IsSome old.output.given → StopsAt old s e new)
heard_err old new s (Ok u) a = tt
heard_err old new s (Err e) a = a

-- ---- a capture whose streams are written

pub writes_by : (m : ReadsMade) (limits : StreamsLimits) (ports xs : List ℕ) (r : Result CaptureRead StreamsFault) (left : Option (List ℕ)) (calls calls' : Option (List Call)) (out out' err err' : Output) (sums : Sums) (status : ℕ) (old new : Recording) → old ≡ recording calls out no_sums → recording calls' out' sums ≡ new → ReadsCapture with_connection_event StopsAt limits ports xs m r left old new → Concludes ports (sums_words sums) r err status err' → WritesStreamsBy m limits ports xs left calls out err status calls' out' err'
writes_by m limits ports xs r left calls calls' out out' err err' sums status old new first last reads ends =
    let from = subst (λ (z : Recording). ReadsCapture with_connection_event StopsAt limits ports xs m r left z new) first reads in
    (r, sums, subst (λ (z : Recording). ReadsCapture with_connection_event StopsAt limits ports xs m r left (recording calls out no_sums) z) (sym last) from, ends)
