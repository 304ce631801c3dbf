-- What bytes hold, step by step.
use Rattle.std.proofs.Common.{◌≡◌, ◌∙◌, ◌-◌, ◌<◌, ◌≤◌, ◌&&◌, ◌==◌, ℕ, zero, suc, Bool, true, false, List, [], ◌∷◌, ◌++◌, take, drop, if◌then◌else◌, Option, None, Some, Result, Ok, Err, IsErr, IsErrAnd, OnOk, refl, sym, ap, subst, append-nil, arith}
use Rattle.cqlp_note.specs.declared.refusal.Refusal.{Refusal}
use Rattle.cqlp_note.specs.Limits.{Rules}
use Rattle.cqlp_kind.specs.declared.node.Node.{Node}
use Rattle.cqlp_tcp_reassembly.specs.declared.step.GapCause.{GapCause}
use Rattle.cqlp_observer.specs.declared.heads.Heads.{Heads}
use Rattle.cqlp_observer.specs.declared.heads.Heard.{Heard}
use Rattle.cqlp_observer.specs.declared.heads.HeardStep.{HeardStep}
use Rattle.cqlp_observer.specs.Directions as watch
use Rattle.cqlp_observer.specs.Directions.{Steps, stepping}
use Rattle.cqlp_text.specs.Written.{Receives, Written}
use Rattle.cqlp_text.proofs.Writing.{Progress, progress_ends, progress_goes_on, progress_starts, takes_then_takes}
use Rattle.cqlp_decode.specs.Reading.{Verdict, Waits}
use Rattle.cqlp_decode.specs.Progress.{StreamState}
use Rattle.cqlp_capture_frames.specs.Faults.{Stops, Takes}
use Rattle.cqlp_capture_frames.specs.Happenings.{Happening, Manner, after_all, texts}
use Rattle.cqlp_capture_frames.specs.Happenings as happening
use Rattle.cqlp_capture_frames.specs.Frames.{Open, behind, fails, more_events, more_of, nodes_of, open_by, opened, read, says}
use Rattle.cqlp_capture_frames.specs.Reading.{Drains}
use Rattle.cqlp_capture_frames.specs.Directions.{Direction, IsReported, Reporting, all_reported, before, direction, gap_reported, goes_on, is_done, reporting, reports, with_heads}
use Rattle.cqlp_capture_frames.proofs.Faults.{progress_stops_by, stops_in_more, takes_then_stops}
use Rattle.cqlp_capture_frames.proofs.Reading.{after_more, texts_and_one, texts_more}

-- what a step reports, and those after it
abbrev pub next : {S : Type 0} → Heard → Reporting S → Reporting S → Reporting S
next h t k = if is_done h then t else before t.text k

module _ {S : Type 0} (m : Manner S) (room : Bool) where
  -- the bytes that are used, and those after them
  pub step_is : (left at : ℕ) (begins : Bool) (b : List ℕ) (s : S) (d : Direction) (x : HeardStep) (v : Heads) (end : ℕ) → 0 < left → end ≡ behind at x.used → stepping x v ≡ watch.heard None begins b d.heads
      → all_reported m room left at begins b s d ≡ next x.heard (reports m room end (take x.used b) x.heard s (with_heads v d))
      (all_reported m room (left - 1) end (begins && x.used == 0) (drop x.used b) (reports m room end (take x.used b) x.heard s (with_heads v d)).known (reports m room end (take x.used b) x.heard s (with_heads v d)).after)
  step_is zero at begins b s d x v end some es e = absurd (omega arith)
  step_is (suc n) at begins b s d x v end some es e =
      let less : suc n - 1 ≡ n = omega arith in
      rw (less, es) (ap (λ (z : Steps). next z.step.heard (reports m room (behind at z.step.used) (take z.step.used b) z.step.heard s (with_heads z.after d))
      (all_reported m room n (behind at z.step.used) (begins && z.step.used == 0) (drop z.step.used b) (reports m room (behind at z.step.used) (take z.step.used b) z.step.heard s (with_heads z.after d)).known (reports m room (behind at z.step.used) (take z.step.used b) z.step.heard s (with_heads z.after d)).after)) (sym e))

  pub reported_none : (left at : ℕ) (begins : Bool) (b : List ℕ) (s : S) (d : Direction) → left ≤ 0 → all_reported m room left at begins b s d ≡ reporting [] d s
  reported_none zero at begins b s d none = refl
  reported_none (suc n) at begins b s d none = absurd (omega arith)

module _ {S : Type 0} where
  next_done : (d : Bool) (t k : Reporting S) → d ≡ true → (if d then t else before t.text k) ≡ t
  next_done true t k e = refl
  next_done false t k e = absurd cc

  next_more : (d : Bool) (t k : Reporting S) → d ≡ false → (if d then t else before t.text k) ≡ before t.text k
  next_more true t k e = absurd cc
  next_more false t k e = refl

  -- whatever comes next, it begins with the text of this
  next_begins : (h : Heard) (t k : Reporting S) → (later : List ℕ) × ((next h t k).text ≡ t.text ++ later)
  next_begins h t k = by (is_done h)
    where
      by : (d : Bool) → (later : List ℕ) × ((if d then t else before t.text k).text ≡ t.text ++ later)
      by true = ([], sym (append-nil t.text))
      by false = (k.text, refl)

  -- ---- how far it is: the text that is left is that of the rest, which ends as the whole does

  pub record Goes (whole rest : Reporting S) (old now : Written) : Type 0 where
    pub here : Progress old whole.text rest.text now
    pub after : rest.after ≡ whole.after
    pub known : rest.known ≡ whole.known

  pub goes_first : (whole : Reporting S) (w : Written) → Goes whole whole w w
  goes_first whole w = record { here = progress_starts w whole.text; after = refl; known = refl }

module _ {S F : Type 0} (refuses : F → Bool) where
  module _ (w u new : Written) (whole rest k t : Reporting S) (h : Heard) (here : Goes whole rest w u) (is : rest ≡ next h t k) (d : Direction) (s : S) where
    pub step_stops : (r : Result (Unit {0}) F) (e : F) → IsErr r × IsErrAnd r (λ f. f ≡ e) → Stops (refuses e) u t.text new → IsReported refuses whole r w new d s
    step_stops (Ok x) e stops breaks = cc
    step_stops (Err f) e stops breaks =
        let b = next_begins h t k in
        progress_stops_by (refuses f) w u new whole.text rest.text t.text b.0 here.here (ap (λ (z : Reporting S). z.text) is ∙ b.1) (subst (λ (z : F). Stops (refuses z) u t.text new) (sym stops.1) breaks)

    pub step_ends : (x : Unit {0}) → is_done h ≡ true → IsReported refuses t (Ok x) u new d s → IsReported refuses whole (Ok x) w new d s
    step_ends x done reported =
        let e = is ∙ next_done (is_done h) t k done in (
          progress_ends (progress_goes_on [] here.here (ap (λ (z : Reporting S). z.text) e ∙ sym (append-nil t.text)) reported.0) refl,
          reported.1 ∙ sym (ap (λ (z : Reporting S). z.after) e) ∙ here.after,
          reported.2 ∙ sym (ap (λ (z : Reporting S). z.known) e) ∙ here.known,
        )

    pub step_goes_on : is_done h ≡ false → Receives u t.text new → Goes whole k w new
    step_goes_on more takes =
        let e = is ∙ next_more (is_done h) t k more in
        record {
          here = progress_goes_on k.text here.here (ap (λ (z : Reporting S). z.text) e) takes;
          after = sym (ap (λ (z : Reporting S). z.after) e) ∙ here.after;
          known = sym (ap (λ (z : Reporting S). z.known) e) ∙ here.known;
        }

  pub none_left : (x : Unit {0}) (w u : Written) (whole rest : Reporting S) (d : Direction) (s : S) → Goes whole rest w u → rest ≡ reporting [] d s → IsReported refuses whole (Ok x) w u d s
  none_left x w u whole rest d s here is = (
    progress_ends here.here (ap (λ (z : Reporting S). z.text) is),
    sym (ap (λ (z : Reporting S). z.after) is) ∙ here.after,
    sym (ap (λ (z : Reporting S). z.known) is) ∙ here.known,
  )

  -- ---- one thing, and then another

  module _ (w u new : Written) (first : List ℕ) (t : Reporting S) (d : Direction) (s : S) where
    pub first_stops : (r : Result (Unit {0}) F) (e : F) → IsErr r × IsErrAnd r (λ f. f ≡ e) → Stops (refuses e) w first new → IsReported refuses (before first t) r w new d s
    first_stops (Ok x) e stops breaks = cc
    first_stops (Err f) e stops breaks = stops_in_more (refuses f) w new first t.text (subst (λ (z : F). Stops (refuses z) w first new) (sym stops.1) breaks)

    pub then_reported : (r : Result (Unit {0}) F) → Receives w first u → IsReported refuses t r u new d s → IsReported refuses (before first t) r w new d s
    then_reported (Ok x) takes reported = (takes_then_takes w u new first t.text takes reported.0, reported.1, reported.2)
    then_reported (Err e) takes reported = takes_then_stops (refuses e) w u new first t.text takes reported

  -- one thing that is written
  pub one_reported : (r : Result (Unit {0}) F) (old new : Written) (t : Reporting S) (d : Direction) (s : S) → Takes refuses old t.text r new → OnOk r (d ≡ t.after) → OnOk r (s ≡ t.known) → IsReported refuses t r old new d s
  one_reported (Ok x) old new t d s writes after known = (writes, after, known)
  one_reported (Err e) old new t d s writes after known = writes

  -- and that leaves this direction
  pub one_leaves : (r : Result (Unit {0}) F) (old new : Written) (text : List ℕ) (d : Direction) (k s : S) → Takes refuses old text r new → OnOk r (s ≡ k) → IsReported refuses (reporting text d k) r old new d s
  one_leaves (Ok x) old new text d k s writes known = (writes, refl, known)
  one_leaves (Err e) old new text d k s writes known = writes

  -- what a caller learns
  pub reported_takes : (r : Result (Unit {0}) F) (old new : Written) (t : Reporting S) (d : Direction) (s : S) → IsReported refuses t r old new d s → Takes refuses old t.text r new
  reported_takes (Ok x) old new t d s reported = reported.0
  reported_takes (Err e) old new t d s reported = reported

  pub reported_leaves : (r : Result (Unit {0}) F) (old new : Written) (t : Reporting S) (d : Direction) (s : S) → IsReported refuses t r old new d s → OnOk r (d ≡ t.after)
  reported_leaves (Ok x) old new t d s reported = reported.1
  reported_leaves (Err e) old new t d s reported = tt

  pub reported_knows : (r : Result (Unit {0}) F) (old new : Written) (t : Reporting S) (d : Direction) (s : S) → IsReported refuses t r old new d s → OnOk r (s ≡ t.known)
  reported_knows (Ok x) old new t d s reported = reported.2
  reported_knows (Err e) old new t d s reported = tt

-- ---- more bytes of a frame: their events, and its refusal

module _ {S F : Type 0} (refuses : F → Bool) (m : Manner S) (first : StreamState) (at : ℕ) (bytes input : List ℕ) (s : S) where
  abbrev events : List Happening
  events = says at (more_events first.rules (nodes_of first.given) bytes input)

  abbrev all : List Happening
  all = more_of first.rules (opened at (nodes_of first.given) bytes) input

  abbrev verdict : Verdict
  verdict = (read first.rules (nodes_of first.given) (bytes ++ input)).1

  waits_is : verdict ≡ Waits → all ≡ events
  waits_is is = ap (λ (v : Verdict). events ++ fails at v) is ∙ append-nil events

  module _ (responses : Bool) (heads : Heads) (frame : Option Open) where
    abbrev pub whole : Reporting S
    whole = goes_on m input (opened at (nodes_of first.given) bytes) s (direction first.rules responses heads frame)

    pub body_stops : (r : Result (Unit {0}) F) (e : F) (old new : Written) (d : Direction) (t : S) → IsErr r × IsErrAnd r (λ f. f ≡ e) → Stops (refuses e) old (texts m s events) new → IsReported refuses whole r old new d t
    body_stops (Ok x) e old new d t stops breaks = cc
    body_stops (Err f) e old new d t stops breaks =
        rw (texts_more m s events (fails at verdict)) (stops_in_more (refuses f) old new (texts m s events) (texts m (after_all m s events) (fails at verdict)) (subst (λ (z : F). Stops (refuses z) old (texts m s events) new) (sym stops.1) breaks))

    -- it goes on
    pub body_waits : (x : Unit {0}) (new : StreamState) (t : S) (old now : Written) → new.rules ≡ first.rules → nodes_of new.given ≡ nodes_of first.given → Drains refuses m at bytes input first s (Ok None) new t old now
        → IsReported refuses whole (Ok x) old now (direction new.rules responses heads (Some (opened at (nodes_of new.given) (bytes ++ input)))) t
    body_waits x new t old now are held (reads, known, takes) =
        let here : (read first.rules (nodes_of new.given) (bytes ++ input)).1 ≡ Waits = subst (λ (l : Rules). (read l (nodes_of new.given) (bytes ++ input)).1 ≡ Waits) are reads.waits in
        let is : verdict ≡ Waits = subst (λ (g : Option (List Node)). (read first.rules g (bytes ++ input)).1 ≡ Waits) held here in (
          rw (waits_is is) takes,
          (λ i. direction (are i) responses heads (Some (opened at (held i) (bytes ++ input))))
              ∙ ap (λ (v : Verdict). direction first.rules responses heads (open_by v (opened at (nodes_of first.given) (bytes ++ input)))) (sym is),
          known ∙ ap (after_all m s) (sym (waits_is is)),
        )

    -- it is refused
    module _ (new : StreamState) (why : Refusal) (t u : S) (old mid now : Written) (are : new.rules ≡ first.rules) (drains : Drains refuses m at bytes input first s (Ok (Some why)) new t old mid) where
      abbrev said : Happening
      said = happening.Fails (behind at why.at) why.why

      fails_is : all ≡ events ++ said ∷ []
      fails_is = ap (λ (v : Verdict). events ++ fails at v) drains.0

      text_is : texts m s all ≡ texts m s events ++ m.text t said
      text_is = ap (texts m s) fails_is ∙ texts_and_one m s events said ∙ ap (λ (z : S). texts m s events ++ m.text z said) (sym drains.1)

      closed : direction new.rules responses heads None ≡ whole.after
      closed =
          ap (λ (l : Rules). direction l responses heads None) are
          ∙ ap (λ (v : Verdict). direction first.rules responses heads (open_by v (opened at (nodes_of first.given) (bytes ++ input)))) (sym drains.0)

      pub body_refused : (r : Result (Unit {0}) F) → Takes refuses mid (m.text t said) r now → OnOk r (u ≡ m.after t said) → IsReported refuses whole r old now (direction new.rules responses heads None) u
      body_refused (Ok x) writes known = (
        rw text_is (takes_then_takes old mid now (texts m s events) (m.text t said) drains.2 writes),
        closed,
        known ∙ ap (λ (z : S). m.after z said) drains.1 ∙ sym (after_more m s events (said ∷ [])) ∙ ap (after_all m s) (sym fails_is),
      )
      body_refused (Err e) writes known = rw text_is (takes_then_stops (refuses e) old mid now (texts m s events) (m.text t said) drains.2 writes)

-- ---- a gap, after the end of the frame that is read

module _ {S F : Type 0} (refuses : F → Bool) (m : Manner S) (at n : ℕ) (cause : GapCause) (closed : Reporting S) (d : Direction) (w u new : Written) where
  pub gap_stops : (s : S) (r : Result (Unit {0}) F) (e : F) → IsErr r × IsErrAnd r (λ f. f ≡ e) → Stops (refuses e) w closed.text new → IsReported refuses (gap_reported m at n cause closed) r w new d s
  gap_stops s (Ok x) e stops breaks = cc
  gap_stops s (Err f) e stops breaks = stops_in_more (refuses f) w new closed.text (m.text closed.known (happening.Gap at n cause)) (subst (λ (z : F). Stops (refuses z) w closed.text new) (sym stops.1) breaks)

  pub gap_writes : (s t : S) (r : Result (Unit {0}) F) → IsReported refuses closed (Ok tt) w u d s → Takes refuses u (m.text s (happening.Gap at n cause)) r new → OnOk r (t ≡ m.after s (happening.Gap at n cause)) → IsReported refuses (gap_reported m at n cause closed) r w new d t
  gap_writes s t (Ok x) reported writes after = (
    takes_then_takes w u new closed.text (m.text closed.known (happening.Gap at n cause)) reported.0 (subst (λ (z : S). Receives u (m.text z (happening.Gap at n cause)) new) reported.2 writes),
    reported.1,
    after ∙ ap (λ (z : S). m.after z (happening.Gap at n cause)) reported.2,
  )
  gap_writes s t (Err e) reported writes after = takes_then_stops (refuses e) w u new closed.text (m.text closed.known (happening.Gap at n cause)) reported.0 (subst (λ (z : S). Stops (refuses e) u (m.text z (happening.Gap at n cause)) new) reported.2 writes)
