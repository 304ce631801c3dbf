-- What files get.
use Rattle.std.proofs.Common.{◌≡◌, ◌∙◌, List, [], ◌∷◌, ◌++◌, Option, Some, None, refl, sym, ap, append_assoc, append-nil, ℕ, Bool, true, false, cond}
use Rattle.cqlp_tcp_reassembly.specs.declared.step.StreamStep.TheVariants as step
use Rattle.cqlp_tcp_reassembly.specs.declared.step.StreamStep.{StreamStep}
use Rattle.cqlp_capture_streams.specs.declared.files.StreamFile.{StreamFile}
use Rattle.cqlp_capture_streams.specs.Files.{Call, with_call}
use Rattle.cqlp_capture_streams.specs.ConnectionEvents.{ConnectionEvent, Packet, New, Of, Left}
use Rattle.cqlp_capture_streams.specs.Recordings.{call_of, call_of_step, called, file_of, with_connection_event}
use Rattle.cqlp_capture_streams.specs.Laws.{GetTheirBytes, appended_by, bytes_in, handed_on, is_same_file, delivered_by}

-- the one call of an event, or none
abbrev calls_of : Option Call → List Call
calls_of None = []
calls_of (Some c) = c ∷ []

called_known : (o : Option Call) (before : Option (List Call)) (calls : List Call) → before ≡ Some calls → called o before ≡ Some (calls ++ calls_of o)
called_known None before calls is = is ∙ ap (λ z. Some z) (sym (append-nil calls))
called_known (Some c) before calls is = ap (λ z. with_call z c) is

nothing : (b : Bool) → cond {A = List ℕ} b [] [] ≡ []
nothing true = refl
nothing false = refl

step_bytes : (f : StreamFile) (s : StreamStep) (g : StreamFile) (bytes : List ℕ) → bytes_in f (calls_of (call_of_step s g bytes)) ≡ cond (is_same_file f g) (handed_on s bytes) []
step_bytes f (step.Payload from count) g bytes = append-nil _
step_bytes f (step.Held time begins) g bytes = append-nil _
step_bytes f (step.Began syn) g bytes = sym (nothing (is_same_file f g))
step_bytes f (step.Gap n cause time) g bytes = sym (nothing (is_same_file f g))
step_bytes f step.Kept g bytes = sym (nothing (is_same_file f g))
step_bytes f step.Ended g bytes = sym (nothing (is_same_file f g))
step_bytes f step.Reset g bytes = sym (nothing (is_same_file f g))
step_bytes f step.Done g bytes = sym (nothing (is_same_file f g))

connection_event_bytes : (f : StreamFile) (s : ConnectionEvent) → bytes_in f (calls_of (call_of s)) ≡ delivered_by f s
connection_event_bytes f (Packet time) = refl
connection_event_bytes f (New n) = refl
connection_event_bytes f (Of delivered bytes) = step_bytes f delivered.step (file_of delivered) bytes
connection_event_bytes f (Left totals) = refl

bytes_then : (f : StreamFile) (xs ys : List Call) → bytes_in f (xs ++ ys) ≡ bytes_in f xs ++ bytes_in f ys
bytes_then f [] ys = refl
bytes_then f (x ∷ xs) ys = ap (λ z. appended_by f x ++ z) (bytes_then f xs ys) ∙ sym (append_assoc (appended_by f x) (bytes_in f xs) (bytes_in f ys))

pub get_their_bytes : GetTheirBytes
get_their_bytes f before [] calls is = ([], is ∙ ap (λ z. Some z) (sym (append-nil calls)), refl)
get_their_bytes f before (s ∷ ss) calls is =
    let one = calls_of (call_of s) in
    let rest = get_their_bytes f (with_connection_event before s) ss (calls ++ one) (called_known (call_of s) before.calls calls is) in (
      one ++ rest.0,
      rest.1 ∙ ap (λ z. Some z) (append_assoc calls one rest.0),
      bytes_then f one rest.0 ∙ (λ i. connection_event_bytes f s i ++ rest.2 i),
    )
