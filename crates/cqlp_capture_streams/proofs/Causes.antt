-- What ends the reading of a capture early.
use Rattle.std.proofs.Common.{◌≡◌, ◌≢◌, ◌∙◌, ◌==◌, ℕ, Bool, true, false, if◌then◌else◌, length, List, [], ◌∷◌, Option, Result, Ok, Err, refl, sym, ap, subst, inl, inr}
use Rattle.cqlp_note.specs.Streams.{counted}
use Rattle.cqlp_text.specs.Outputs.{Output, with_text}
use Rattle.cqlp_capture.specs.declared.event.CaptureEnd.{CaptureEnd}
use Rattle.cqlp_capture.specs.declared.event.CaptureEnd.TheVariants as end
use Rattle.cqlp_capture_streams.specs.declared.capturing.CaptureRead.{CaptureRead}
use Rattle.cqlp_capture_streams.specs.declared.fault.StreamsFault.{StreamsFault}
use Rattle.cqlp_capture_streams.specs.declared.limits.StreamsLimits.{StreamsLimits}
use Rattle.cqlp_capture_streams.specs.declared.fault.StreamsFault.TheVariants as fault
use Rattle.cqlp_capture_streams.specs.ConnectionEvents.{ConnectionEvent}
use Rattle.cqlp_capture_streams.specs.Listening.{FailsAtLast, after_all}
use Rattle.cqlp_capture_streams.specs.Packets.{SplitState}
use Rattle.cqlp_capture_streams.specs.Captures.{IsOfReads, ReadsMade, SplitsTo}
use Rattle.cqlp_capture_streams.specs.Endings.{Concludes, ConcludesNoted, end_status, fault_line, has_losses}
use Rattle.cqlp_capture_streams.specs.Streams.{ReadsCapture, default_limits, no_connections, turns}
use Rattle.cqlp_capture_streams.specs.Causes.{HasCause}

-- what a fault of a listener to which an output belongs leaves: one more failure of that, where that is the fault
abbrev pub FailsSo : StreamsFault → (failures failures' : ℕ) → Type 0
FailsSo fault.Write n n' = n' ≡ counted true n
FailsSo fault.NoMemory n n' = Unit {0}
FailsSo e n n' = ⊥

-- why a reading ended early
abbrev pub EndedBy : ReadsMade → StreamsFault → (failures failures' : ℕ) → Type 0
EndedBy m fault.Read n n' = m.failed ≡ true
EndedBy m fault.Write n n' = n' ≡ counted true n
EndedBy m (fault.File f) n n' = ⊥
EndedBy m e n n' = Unit {0}

fails_so : (m : ReadsMade) (e : StreamsFault) (n n' : ℕ) → FailsSo e n n' → EndedBy m e n n'
fails_so m fault.Write n n' a = a
fails_so m fault.NoMemory n n' a = tt
fails_so m fault.Read n n' a = absurd a
fails_so m fault.TooManyTurns n n' a = absurd a
fails_so m (fault.File f) n n' a = absurd a

of_reads : (k : ℕ) (m : ReadsMade) (e : StreamsFault) (n n' : ℕ) → IsOfReads k m e → EndedBy m e n n'
of_reads k m fault.Read n n' a = a
of_reads k m fault.TooManyTurns n n' a = tt
of_reads k m fault.Write n n' a = absurd a
of_reads k m fault.NoMemory n n' a = absurd a
of_reads k m (fault.File f) n n' a = absurd a

module _ {V : Type 0} (after : V → ConnectionEvent → V) (faulted : V → ConnectionEvent → StreamsFault → V → Type 0) (failures : V → ℕ)
    (keeps : (v : V) (s : ConnectionEvent) → failures (after v s) ≡ failures v)
    (stops : (v w : V) (s : ConnectionEvent) (e : StreamsFault) → faulted v s e w → FailsSo e (failures v) (failures w)) where
  pub all_keep : (v : V) (ss : List ConnectionEvent) → failures (after_all after v ss) ≡ failures v
  all_keep v [] = refl
  all_keep v (s ∷ ss) = all_keep (after v s) ss ∙ keeps v s

  at_last : (m : ReadsMade) (endless : Type 0) (v w : V) (ss : List ConnectionEvent) (e : StreamsFault) → FailsAtLast after faulted endless v ss e w → EndedBy m e (failures v) (failures w)
  at_last m endless v w ss e (inl (is, many, same)) = subst (λ (z : StreamsFault). EndedBy m z (failures v) (failures w)) (sym is) tt
  at_last m endless v w ss e (inr (inl (is, same))) = subst (λ (z : StreamsFault). EndedBy m z (failures v) (failures w)) (sym is) tt
  at_last m endless v w ss e (inr (inr (front, s, parts, a))) =
      fails_so m e (failures v) (failures w) (subst (λ n. FailsSo e n (failures w)) (all_keep v front) (stops (after_all after v front) w s e a))

  split_cause : (limits : StreamsLimits) (ports xs : List ℕ) (m : ReadsMade) (e : StreamsFault) (left : Option (List ℕ)) (u : SplitState) (v w : V) → SplitsTo after faulted default_limits (no_connections limits ports) turns m v xs (Err e) left u w → EndedBy m e (failures v) (failures w)
  split_cause limits ports xs m e left u v w a = elim a.ends.1 [
    | inl x ↦ of_reads turns m e (failures v) (failures w) x.0
    | inr (inl x) ↦ at_last m _ v w a.ends.0 e x.1
    | inr (inr x) ↦ at_last m _ v w a.ends.0 e x.1
  ]

  same_fault : (f e : StreamsFault) → ◌≡◌ {A = Result CaptureRead StreamsFault} (Err e) (Err f) → f ≡ e
  same_fault f e is = cc

  -- A fault has a cause.
  pub fault_cause : (limits : StreamsLimits) (ports xs : List ℕ) (m : ReadsMade) (e : StreamsFault) (left : Option (List ℕ)) (v w : V) → ReadsCapture after faulted limits ports xs m (Err e) left v w → EndedBy m e (failures v) (failures w)
  fault_cause limits ports xs m e left v w (inl (Ok x, u, a, is)) = absurd (let no = is in cc)
  fault_cause limits ports xs m e left v w (inl (Err f, u, a, is)) =
      subst (λ (z : StreamsFault). EndedBy m z (failures v) (failures w)) (same_fault f e is) (split_cause limits ports xs m f left u v w a)
  fault_cause limits ports xs m e left v w (inr (is, none, rest, same)) =
      let no : fault.NoMemory ≡ e = same_fault fault.NoMemory e is in
      subst (λ (z : StreamsFault). EndedBy m z (failures v) (failures w)) no tt

  -- Where there is none, the output failed no more often.
  pub none_failed : (limits : StreamsLimits) (ports xs : List ℕ) (m : ReadsMade) (x : CaptureRead) (left : Option (List ℕ)) (v w : V) → ReadsCapture after faulted limits ports xs m (Ok x) left v w → failures w ≡ failures v
  none_failed limits ports xs m x left v w (inl (Ok e, u, a, is)) = ap failures a.ends.2 ∙ all_keep v a.ends.0
  none_failed limits ports xs m x left v w (inl (Err f, u, a, is)) = absurd (let no = is in cc)
  none_failed limits ports xs m x left v w (inr (is, none, rest, same)) = absurd (let no = is in cc)

-- ---- the last line

never_fault : (e : CaptureEnd) → end_status e ≢ 3
never_fault (end.Whole n) is = cc
never_fault (end.Cut at n) is = cc
never_fault (end.Refused r) is = cc

-- what the fault line that was written says
delivered_cause : (m : ReadsMade) (e : StreamsFault) (out err out' err' : Output) → EndedBy m e out.failures out'.failures → err' ≡ with_text err (fault_line e) → HasCause m out err out' err'
delivered_cause m fault.Read out err out' err' a line = inl a
delivered_cause m fault.Write out err out' err' a line = inr (inl a)
delivered_cause m fault.NoMemory out err out' err' a line = inr (inr (inr (inl line)))
delivered_cause m fault.TooManyTurns out err out' err' a line = inr (inr (inr (inr line)))
delivered_cause m (fault.File f) out err out' err' a line = absurd a

abbrev pub EndedIfFault : ReadsMade → Result CaptureRead StreamsFault → (failures failures' : ℕ) → Type 0
EndedIfFault m (Ok x) n n' = Unit {0}
EndedIfFault m (Err e) n n' = EndedBy m e n n'

-- with a note or without
ok_never : (b lost : Bool) (x : CaptureRead) → (if b then if lost then 1 else end_status x.end else 1) ≢ 3
ok_never true true x is = cc
ok_never true false x is = never_fault x.end is
ok_never false lost x is = cc

-- The status of a fault has its cause.
pub ended_noted : (ports note words : List ℕ) (m : ReadsMade) (r : Result CaptureRead StreamsFault) (out err out' err' : Output) → EndedIfFault m r out.failures out'.failures → ConcludesNoted ports note words r err 3 err' → HasCause m out err out' err'
ended_noted ports note words m (Ok x) out err out' err' a (inl (is, line)) = absurd (ok_never (length note == 0) (has_losses x) x (sym is))
ended_noted ports note words m (Err e) out err out' err' a (inl (is, line)) = delivered_cause m e out err out' err' a line
ended_noted ports note words m r out err out' err' a (inr (is, stops)) = inr (inr (inl stops.failures))

pub ended_by : (ports words : List ℕ) (m : ReadsMade) (r : Result CaptureRead StreamsFault) (out err out' err' : Output) → EndedIfFault m r out.failures out'.failures → Concludes ports words r err 3 err' → HasCause m out err out' err'
ended_by ports words = ended_noted ports [] words
