-- What each event keeps of a listener, and each fault, is kept of a whole capture.
use Rattle.std.proofs.Common.{ℕ, List, [], ◌∷◌, Option, Result, Ok, Err, sym, subst, inl, inr}
use Rattle.cqlp_capture.specs.declared.event.CaptureEnd.{CaptureEnd}
use Rattle.cqlp_capture_streams.specs.declared.capturing.CaptureRead.{CaptureRead}
use Rattle.cqlp_capture_streams.specs.declared.fault.StreamsFault.{StreamsFault}
use Rattle.cqlp_capture_streams.specs.declared.limits.StreamsLimits.{StreamsLimits}
use Rattle.cqlp_capture_streams.specs.ConnectionEvents.{ConnectionEvent}
use Rattle.cqlp_capture_streams.specs.Listening.{FailsAtLast, after_all}
use Rattle.cqlp_capture_streams.specs.Packets.{SplitState}
use Rattle.cqlp_capture_streams.specs.Captures.{ReadsMade, SplitsTo}
use Rattle.cqlp_capture_streams.specs.Streams.{ReadsCapture, default_limits, no_connections, turns}

module _ {V : Type 0} (after : V → ConnectionEvent → V) (faulted : V → ConnectionEvent → StreamsFault → V → Type 0) (P : V → Type 0)
    (keeps : (v : V) (s : ConnectionEvent) → P v → P (after v s))
    (stops : (v w : V) (s : ConnectionEvent) (e : StreamsFault) → faulted v s e w → P v → P w) where
  all_kept : (v : V) (ss : List ConnectionEvent) → P v → P (after_all after v ss)
  all_kept v [] p = p
  all_kept v (s ∷ ss) p = all_kept (after v s) ss (keeps v s p)

  kept_at_last : (endless : Type 0) (v w : V) (ss : List ConnectionEvent) (e : StreamsFault) → FailsAtLast after faulted endless v ss e w → P v → P w
  kept_at_last endless v w ss e (inl (is, many, same)) p = subst P (sym same) (all_kept v ss p)
  kept_at_last endless v w ss e (inr (inl (is, same))) p = subst P (sym same) (all_kept v ss p)
  kept_at_last endless v w ss e (inr (inr (front, s, parts, a))) p = stops (after_all after v front) w s e a (all_kept v front p)

  split_kept : (limits : StreamsLimits) (ports xs : List ℕ) (m : ReadsMade) (r : Result CaptureEnd StreamsFault) (left : Option (List ℕ)) (u : SplitState) (v w : V) → SplitsTo after faulted default_limits (no_connections limits ports) turns m v xs r left u w → P v → P w
  split_kept limits ports xs m (Ok e) left u v w a p = subst P (sym a.ends.2) (all_kept v a.ends.0 p)
  split_kept limits ports xs m (Err e) left u v w a p = elim a.ends.1 [
    | inl x ↦ subst P (sym x.2) (all_kept v a.ends.0 p)
    | inr (inl x) ↦ kept_at_last _ v w a.ends.0 e x.1 p
    | inr (inr x) ↦ kept_at_last _ v w a.ends.0 e x.1 p
  ]

  pub kept : (limits : StreamsLimits) (ports xs : List ℕ) (m : ReadsMade) (r : Result CaptureRead StreamsFault) (left : Option (List ℕ)) (v w : V) → ReadsCapture after faulted limits ports xs m r left v w → P v → P w
  kept limits ports xs m r left v w (inl (e, u, a, is)) p = split_kept limits ports xs m e left u v w a p
  kept limits ports xs m r left v w (inr (is, none, rest, same)) p = subst P (sym same) p
