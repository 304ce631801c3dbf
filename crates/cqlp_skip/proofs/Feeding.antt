-- What handing on a piece leaves.
use Rattle.std.proofs.Common.{◌≡◌, ℕ, ◌+◌, ◌-◌, ◌^◌, ◌≤◌, List, [], ◌∷◌, ◌++◌, length, take, drop, refl, sym, ap, ◌∙◌, subst, append_assoc, inl, inr, arith}
use Rattle.std.specs.Prelude.{min, Option, Some, None, ◌⊎◌}
use Rattle.std.proofs.lemmas.List.{append-nil, length-append, length-drop, length-take-le, take-append-drop, take_all}
use Rattle.cqlp_note.specs.declared.refusal.Refusal.{Refusal}
use Rattle.cqlp_note.specs.Reader.{Said, More, Got, says, Bad}
use Rattle.cqlp_note.specs.Step.{Emitted}
use Rattle.cqlp_note.proofs.Readers.{says_stays}
use Rattle.cqlp_note.proofs.Runs.{runs_stay, stays_bad}
use Rattle.cqlp_note.specs.declared.refusal.Reason.{Reason}
use Rattle.cqlp_note.specs.Limits.{Rules}
use Rattle.cqlp_decode.specs.Reading.{Event, Place, Gifts, Ends, Reads, Refused, Waits, Says, start_with, step}
use Rattle.cqlp_decode.specs.Progress.{StreamState}
use Rattle.cqlp_decode.specs.Streams.{Decoding, state, AfterGifts}
use Rattle.cqlp_decode.specs.Draining.{DrainsBy, DrainsPiece, DrainsTo, EndsAtEvent, fold_events, used_of, verdict_of}
use Rattle.cqlp_decode.specs.declared.feeding.Fed.{Fed}
use Rattle.cqlp_decode.specs.declared.feeding.Fed.TheVariants as fed
use Rattle.cqlp_skip.specs.declared.frame.OpenFrame.{OpenFrame}
use Rattle.cqlp_skip.specs.Stretches.{Stretch, GivenUp, frame_from, emitted}
use Rattle.cqlp_skip.specs.Shifted.{Shifted, shifted, with_event, FailsAtEvent}
use Rattle.cqlp_skip.specs.Pieces.{fed_from}
use Rattle.cqlp_skip.specs.Skipping.{Skipping, AfterSkips, Hands, HandsAll, HandsUpTo, Fails, FeedsTo}
use Rattle.cqlp_skip.proofs.Passing.{behind_passed, behind_all, behind_piece}
use Rattle.cqlp_skip.proofs.Folding.{frame-append, fold_shifted}

-- a refusal stays, whatever bytes follow
pub is_bad : (x : Said (Emitted Event Place) (ℕ × Reason)) (k : ℕ) (why : Reason) → Ends x (Refused k why) → x ≡ Bad (k, why)
is_bad More k why h = absurd h
is_bad (Bad f) k why h = ap Bad h
is_bad (Got x used) k why h = absurd h

ends_still : (l : Rules) (q : Place) (rest t : List ℕ) (k : ℕ) (why : Reason) → Ends (says (step l q) 0 rest) (Refused k why) → Ends (says (step l q) 0 (rest ++ t)) (Refused k why)
ends_still l q rest t k why ends = rw (stays_bad (k, why) (says_stays (step l q) 0 rest t) (is_bad (says (step l q) 0 rest) k why ends)) refl

pub still_refused : (l : Rules) (p : Place) (bytes t : List ℕ) (es : List (ℕ × Event)) (k : ℕ) (why : Reason) → Says l p bytes es (Refused k why) → Says l p (bytes ++ t) es (Refused k why)
still_refused l p bytes t es k why a =
    (a.0, a.1 ++ t, runs_stay (step l) p bytes t es a.0 a.1 a.2, ends_still l a.0 a.1 t k why a.3)

abbrev pub skipping : Decoding → (base used : ℕ) → Option OpenFrame → (last : ℕ) → Skipping
skipping d base used frame last = record { decoder = d; base = base; used = used; frame = frame; last = last }

module _ (d d' : Decoding) (base used used' last : ℕ) (frame frame' : Option OpenFrame) (xs s input later : List ℕ) (stretches : List Stretch) (gifts : Gifts) (es : List (ℕ × Event)) (p : ℕ) (a : AfterSkips xs (skipping d base used frame last) s stretches gifts es)
    (is : xs ≡ (s ++ input) ++ later) (passed : p ≡ min (base - used) (length input)) (rules : (state d').rules ≡ (state d).rules) where
  pub first : p ≡ min (base - length s) (length input)
  first = omega (arith, passed, a.used, a.near)

  -- After more events of the piece the history goes on.
  abbrev pub goes_on : (s' : List ℕ) (more : List (ℕ × Event)) (k : ℕ) → s' ≡ s ++ take (p + k) input → p + k ≤ length input
      → AfterGifts gifts (state d') (drop base s ++ take k (drop p input)) (es ++ more) → frame' ≡ frame_from frame more → used' ≡ min (used + (p + k)) (2 ^ 64 - 1)
      → ((r : Refusal) → (state d').refusal ≡ Some r → Says (state d').rules (start_with gifts) (drop base xs) (es ++ more) (Refused r.at r.why))
      → AfterSkips xs (skipping d' base used' frame' last) s' stretches gifts (es ++ more)
  goes_on s' more k at few conforms framed count refused = record {
    unread = drop (p + k) input ++ later;
    whole = is ∙ ap (λ (z : List ℕ). (s ++ z) ++ later) (sym (take-append-drop (p + k) input)) ∙ ap (λ (z : List ℕ). z ++ later) (sym (append_assoc s (take (p + k) input) (drop (p + k) input))) ∙ append_assoc (s ++ take (p + k) input) (drop (p + k) input) later ∙ ap (λ (z : List ℕ). z ++ (drop (p + k) input ++ later)) (sym at);
    given_up = subst (λ (l : Rules). GivenUp l xs stretches) (sym rules) a.given_up;
    base = a.base;
    conforms = subst (λ (z : List ℕ). AfterGifts gifts (state d') z (es ++ more)) (sym (ap (λ (z : List ℕ). drop base z) at ∙ behind_passed base s input p k first)) conforms;
    frame = framed ∙ ap (λ (z : Option OpenFrame). frame_from z more) a.frame ∙ sym (frame-append None es more);
    used = omega (arith, count, a.used, ap length at, length-append s (take (p + k) input), length-take-le (p + k) input few);
    near = a.near;
    refused = refused;
  }

  -- what the piece is refused, the stream is
  refused_on : (more : List (ℕ × Event)) (r : Refusal) → Says (state d').rules (start_with gifts) (drop base s ++ drop p input) (es ++ more) (Refused r.at r.why) → Says (state d').rules (start_with gifts) (drop base xs) (es ++ more) (Refused r.at r.why)
  refused_on more r says =
      let b = behind_piece base s input later p first in
      subst (λ (z : List ℕ). Says (state d').rules (start_with gifts) z (es ++ more) (Refused r.at r.why)) (sym (ap (λ (z : List ℕ). drop base z) is ∙ b.1))
      (still_refused (state d').rules (start_with gifts) (drop base s ++ drop p input) b.0 (es ++ more) r.at r.why says)

  refused_by : (more : List (ℕ × Event)) (r : Refusal) → (state d').refusal ≡ Some r → Says (state d').rules (start_with gifts) (drop base s ++ drop p input) (es ++ more) (verdict_of (state d').refusal) → Says (state d').rules (start_with gifts) (drop base xs) (es ++ more) (Refused r.at r.why)
  refused_by more r now says = refused_on more r (subst (λ (o : Option Refusal). Says (state d').rules (start_with gifts) (drop base s ++ drop p input) (es ++ more) (verdict_of o)) now says)

  module _ {V : Type 0} (f : V → ℕ → Event → V) (faulted : V → ℕ → Event → V → Type 0) (v w : V) (base' : ℕ) where
    abbrev new : Skipping
    new = skipping d' base used' frame' last

    -- what the sink sees, and the frame under way
    module _ (more : List (ℕ × Event)) (got : shifted w base' frame' ≡ fold_events (with_event f) (shifted v base frame) more) where
      same : shifted w base' frame' ≡ shifted (fold_events f v (emitted base more)) base (frame_from frame more)
      same = got ∙ fold_shifted f v base frame more

      seen : w ≡ fold_events f v (emitted base more)
      seen = ap (λ (x : Shifted V). x.view) same

      framed : frame' ≡ frame_from frame more
      framed = ap (λ (x : Shifted V). x.frame) same

    module _ (none : (state d).refusal ≡ None) where
      -- where the bytes used end
      ends_up : (more : List (ℕ × Event)) (k : ℕ) → EndsAtEvent (state d').rules gifts (drop base s ++ take k (drop p input)) es more k
          → ((p + k ≡ p) × (more ≡ [])) ⊎ ((q : Place) × Reads (state d').rules (start_with gifts) (drop base (s ++ take (p + k) input)) (es ++ more) q [])
      ends_up more k (inl none) = inl (omega (arith, none.0), none.1)
      ends_up more k (inr ends) = inr (ends.0, subst (λ (z : List ℕ). Reads (state d').rules (start_with gifts) z (es ++ more) ends.0 []) (sym (behind_passed base s input p k first)) ends.1)

      feeds_more : (state d').refusal ≡ None → DrainsPiece (with_event f) (state d) (state d') (drop p input) (drop p input) (shifted v base frame) (shifted w base' frame') → used' ≡ min (used + length input) (2 ^ 64 - 1) → HandsAll f xs new (s ++ input) stretches gifts es v w
      feeds_more now drains count =
          let q = drains gifts (drop base s) es a.conforms in
          let more = q.drains.more in
          let k = length input - p in
          let all : p + k ≡ length input = omega (arith, passed) in
          let front : take (p + k) input ≡ input = take_all (p + k) input (omega (arith, all)) in
          let back : take k (drop p input) ≡ drop p input = take_all k (drop p input) (omega (arith, length-drop p input)) in
          let conforms : AfterGifts gifts (state d') (drop base s ++ take k (drop p input)) (es ++ more) = rw back q.drains.conforms in
          let h = goes_on (s ++ input) more k (ap (λ (z : List ℕ). s ++ z) (sym front)) (omega (arith, all)) conforms (framed more q.drains.got) (omega (arith, count, all)) (λ r is. absurd (let no = sym now ∙ is in cc)) in
          let waits = subst (λ (o : Option Refusal). Says (state d').rules (start_with gifts) (drop base s ++ drop p input) (es ++ more) (verdict_of o)) now (q.says none) in (
            record { more = more; conforms = h; got = seen more q.drains.got },
            subst (λ (z : List ℕ). Says (state d').rules (start_with gifts) z (es ++ more) Waits) (sym (behind_all base s input p first)) waits,
          )

      feeds_refused : (k : ℕ) (r : Refusal) → p + k ≤ length input → DrainsTo (with_event f) (FailsAtEvent faulted) (state d) (drop p input) (fed.Refused k r) (state d') (shifted v base frame) (shifted w base' frame') → used' ≡ min (used + (p + k)) (2 ^ 64 - 1) → HandsUpTo f xs new (s ++ take (p + k) input) stretches gifts es (p + k) p v w
      feeds_refused k r few drains count =
          let e = drains gifts (drop base s) es a.conforms in
          let q = e.0 in
          let more = q.drains.more in
          let h : Hands f xs new (s ++ take (p + k) input) stretches gifts es v w = record {
            more = more;
            conforms = goes_on (s ++ take (p + k) input) more k refl few q.drains.conforms (framed more q.drains.got) count (λ r is. refused_by more r is (q.says none));
            got = seen more q.drains.got;
          } in
          (h, ends_up more k e.1, omega arith)

      feeds_fault : (k : ℕ) → p + k ≤ length input → (state d').refusal ≡ None → DrainsTo (with_event f) (FailsAtEvent faulted) (state d) (drop p input) (fed.Fault k) (state d') (shifted v base frame) (shifted w base' frame') → used' ≡ min (used + (p + k)) (2 ^ 64 - 1) → Fails f xs new (s ++ take (p + k) input) stretches gifts es faulted v w
      feeds_fault k few now drains count =
          let e = drains gifts (drop base s) es a.conforms in
          let q = e.0 in
          let one : List (ℕ × Event) = (q.at, q.event) ∷ [] in
          let all = q.more ++ one in
          let conforms : AfterGifts gifts (state d') (drop base s ++ take k (drop p input)) (es ++ all) = rw (← (append_assoc es q.more one)) q.conforms in
          let fault = subst (λ (x : Shifted V). FailsAtEvent faulted x q.at q.event (shifted w base' frame')) (fold_shifted f v base frame q.more) q.fault in
          let h = goes_on (s ++ take (p + k) input) all k refl few conforms (fault.2 ∙ sym (frame-append frame q.more one)) count (λ r is. absurd (let no = sym now ∙ is in cc)) in
          record {
            more = q.more;
            at = q.at;
            event = q.event;
            conforms = subst (λ (z : List (ℕ × Event)). AfterSkips xs new (s ++ take (p + k) input) stretches gifts z) (sym (append_assoc es q.more one)) h;
            fault = fault.0;
            ends = (e.1.0, subst (λ (z : List ℕ). Reads (state d').rules (start_with gifts) z (es ++ q.more ++ one) e.1.0 []) (sym (behind_passed base s input p k first)) e.1.1);
          }

    -- after a refusal nothing more is handed out
    feeds_again : (r : Refusal) → (state d).refusal ≡ Some r → state d' ≡ state d → w ≡ v → frame' ≡ frame → used' ≡ min (used + (p + 0)) (2 ^ 64 - 1) → HandsUpTo f xs new (s ++ take (p + 0) input) stretches gifts es (p + 0) p v w
    feeds_again r was same seen framed count =
        let none = append-nil es in
        let conforms : AfterGifts gifts (state d') (drop base s ++ []) (es ++ []) = subst (λ (z : StreamState). AfterGifts gifts z (drop base s ++ []) (es ++ [])) (sym same) (rw (none, append-nil (drop base s)) a.conforms) in
        let h = goes_on (s ++ take (p + 0) input) [] 0 refl (omega (arith, passed)) conforms framed count (λ q is. subst (λ (z : StreamState). Says z.rules (start_with gifts) (drop base xs) (es ++ []) (Refused q.at q.why)) (sym same) (rw none (a.refused q (sym (ap (λ (z : StreamState). z.refusal) same) ∙ is)))) in
        (record { more = []; conforms = h; got = seen }, inl (omega arith, refl), omega arith)

    feeds_new : (x : Fed) → (state d).refusal ≡ None → p + used_of (length (drop p input)) x ≤ length input → DrainsBy x (state d').refusal → DrainsTo (with_event f) (FailsAtEvent faulted) (state d) (drop p input) x (state d') (shifted v base frame) (shifted w base' frame')
        → used' ≡ min (used + used_of (length input) (fed_from base p x)) (2 ^ 64 - 1) → FeedsTo f faulted xs p new s stretches gifts es input (fed_from base p x) v w
    feeds_new fed.More none few by drains count = feeds_more none by drains count
    feeds_new (fed.Refused k r) none few by drains count = feeds_refused none k r few drains count
    feeds_new (fed.Fault k) none few by drains count = feeds_fault none k few by drains count

    feeds_by : (o : Option Refusal) → (state d).refusal ≡ o → (x : Fed) → p + used_of (length (drop p input)) x ≤ length input → DrainsBy x (state d').refusal
        → ((r : Refusal) → (state d).refusal ≡ Some r → (x ≡ fed.Refused 0 r) × (state d' ≡ state d) × (w ≡ v) × (frame' ≡ frame))
        → DrainsTo (with_event f) (FailsAtEvent faulted) (state d) (drop p input) x (state d') (shifted v base frame) (shifted w base' frame')
        → used' ≡ min (used + used_of (length input) (fed_from base p x)) (2 ^ 64 - 1) → FeedsTo f faulted xs p new s stretches gifts es input (fed_from base p x) v w
    feeds_by None was x few by again drains count = feeds_new x was few by drains count
    feeds_by (Some r) was x few by again drains count =
        let e = again r was in
        subst (λ (y : Fed). used' ≡ min (used + used_of (length input) (fed_from base p y)) (2 ^ 64 - 1) → FeedsTo f faulted xs p new s stretches gifts es input (fed_from base p y) v w) (sym e.0)
        (λ count. feeds_again r was e.1 e.2 e.3 count) count

    pub feeds : (x : Fed) → p + used_of (length (drop p input)) x ≤ length input → DrainsBy x (state d').refusal
        → ((r : Refusal) → (state d).refusal ≡ Some r → (x ≡ fed.Refused 0 r) × (state d' ≡ state d) × (w ≡ v) × (frame' ≡ frame))
        → DrainsTo (with_event f) (FailsAtEvent faulted) (state d) (drop p input) x (state d') (shifted v base frame) (shifted w base' frame')
        → used' ≡ min (used + used_of (length input) (fed_from base p x)) (2 ^ 64 - 1) → FeedsTo f faulted xs p new s stretches gifts es input (fed_from base p x) v w
    feeds x few by again drains count = feeds_by (state d).refusal refl x few by again drains count
