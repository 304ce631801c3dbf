-- Bytes that are refused for a fault of their own begin no frames.
use Rattle.std.proofs.Common.{◌≡◌, ℕ, ◌+◌, ◌<◌, ◌^◌, Bool, true, false, cond, ltb, List, [], ◌∷◌, ◌++◌, length, refl, sym, ap, ◌∙◌, subst, inl, inr, append_assoc, arith}
use Rattle.std.specs.Prelude.{◌⊎◌}
use Rattle.std.proofs.lemmas.Bool.{cases_lt, lt-ltb}
use Rattle.std.proofs.lemmas.List.{append-nil, length-append}
use Rattle.cqlp_note.specs.declared.header.TheConstants.Header.{LONGEST_BODY}
use Rattle.cqlp_note.specs.declared.refusal.Reason.{Reason}
use Rattle.cqlp_note.specs.declared.refusal.Reason.TheVariants.{StreamTooLong}
use Rattle.cqlp_note.specs.Limits.{Rules}
use Rattle.cqlp_note.proofs.Runs.{runs_stay}
use Rattle.cqlp_kind.specs.Types.{NoMore}
use Rattle.cqlp_message.specs.FrameValues.{FrameValue}
use Rattle.cqlp_message.specs.Frames.{AllSpell, FlatAll, frame_size}
use Rattle.cqlp_message.proofs.Sizes.{frame_long}
use Rattle.cqlp_message.proofs.Bounds.{Allow, frame_within}
use Rattle.cqlp_message.proofs.StreamIds.{with_id_of_bits, id_fits, id_spelled}
use Rattle.cqlp_decode.specs.Reading.{Place, Event, Verdict, Waits, Refused, Gifts, Reads, Says, step, start, start_with, is_in_use}
use Rattle.cqlp_decode.proofs.Gets.{refuses_new}
use Rattle.cqlp_laws.specs.Excess.{free}
use Rattle.cqlp_laws.specs.Limits.{IsOfLimit}
use Rattle.cqlp_laws.specs.Frames.{AllWithin, AllBeginInTime, verdict_between}
use Rattle.cqlp_laws.specs.Refused.{IsFault, RefusedIsNoFrame, RefusedIsNoFrameWithGifts, DecoderRefusesNoFrame, DecoderRefusesNoFrameWithGifts}
use Rattle.cqlp_laws.specs.Untyped.{AreWholeFrames, NoneInUse}
use Rattle.cqlp_laws.proofs.Whole.{says_once, refusal_stays}
use Rattle.cqlp_laws.proofs.FramesRead.{between, frames_read}
use Rattle.cqlp_laws.proofs.StepRuns.{runs_from, one_place}
use Rattle.cqlp_laws.proofs.RunsBack.{runs_split}
use Rattle.cqlp_laws.proofs.PlainRuns.{plainly, like_plainly, whole_due, free_from, says_forth, nothing_in_use}
use Rattle.cqlp_laws.proofs.EventCounts.{always_said}
use Rattle.cqlp_laws.proofs.StepCuts.{excess_of_limit}
use Rattle.cqlp_laws.proofs.Cuts.{reads_freely, says_cut}

-- ---- frames that are spelled, and those of them that begin in time

-- The bytes begin with frames that are within the limits and begin in time, and end with these, or go on past 2 ^ 63.
record BeginInTime (l : Rules) (at : ℕ) (b : List ℕ) : Type 0 where
  frames : List (FrameValue × ℕ)
  front : List ℕ
  back : List ℕ
  whole : b ≡ front ++ back
  spelled : AllSpell frames front
  within : AllWithin l frames
  early : AllBeginInTime at frames
  ends : (back ≡ []) ⊎ (2 ^ 63 < at + length front)

module _ (l : Rules) (allows : Allow l LONGEST_BODY) (typed : l.types ≡ true) where
  begin_in_time : (fs : List (FrameValue × ℕ)) (at : ℕ) (b : List ℕ) → AllSpell fs b → BeginInTime l at b
  begin_in_time [] at b s = record { frames = []; front = []; back = []; whole = s; spelled = refl; within = tt; early = tt; ends = inl refl }
  begin_in_time (f ∷ fs) at b s = elim (cases_lt (2 ^ 63) at) [
    | inl lt ↦ record { frames = []; front = []; back = b; whole = refl; spelled = refl; within = tt; early = tt; ends = inr (omega arith) }
    | inr le ↦
        let size : length s.front ≡ frame_size f.0 f.1 = frame_long f.0 f.1 s.front s.this in
        let r = begin_in_time fs (at + frame_size f.0 f.1) s.back s.that in
        record {
          frames = (with_id_of_bits f.0, f.1) ∷ r.frames;
          front = s.front ++ r.front;
          back = r.back;
          whole = s.whole ∙ ap (λ (c : List ℕ). s.front ++ c) r.whole ∙ sym (append_assoc s.front r.front r.back);
          spelled = record { front = s.front; back = r.front; whole = refl; this = id_spelled f.0 f.1 s.front s.this; that = r.spelled };
          within = (frame_within l allows typed (with_id_of_bits f.0) f.1 s.front (id_spelled f.0 f.1 s.front s.this), id_fits f.0.stream, r.within);
          early = (le, r.early);
          ends = elim r.ends [
            | inl e ↦ inl e
            | inr lt ↦ inr (omega (arith, length-append s.front r.front))
          ];
        }
  ]

-- ---- what is said of them

between_refuses : (late : Bool) (at k : ℕ) (why : Reason) → cond late (Refused at StreamTooLong) Waits ≡ Refused k why → why ≡ StreamTooLong
between_refuses true at k why is = cc
between_refuses false at k why is = absurd cc

same_reason : (j k : ℕ) (how why : Reason) → Refused j how ≡ Refused k why → how ≡ why
same_reason j k how why is = cc

module _ (l : Rules) (at stop : ℕ) (b : List ℕ) (es : List (ℕ × Event)) (k : ℕ) (why : Reason) (said : Says l (between at stop NoMore) b es (Refused k why)) where
  -- Frames are refused only where one would begin too late.
  only_too_late : BeginInTime l at b → why ≡ StreamTooLong
  only_too_late r =
      let p = between at stop NoMore in
      let front = frames_read l r.frames at stop NoMore r.front r.spelled r.within r.early in
      elim r.ends [
        | inl none ↦
            let all : b ≡ r.front = r.whole ∙ ap (λ (c : List ℕ). r.front ++ c) none ∙ append-nil r.front in
            let once = says_once l p r.front (FlatAll l at r.frames) es (verdict_between (at + length r.front)) (Refused k why) front (rw all at said) in
            between_refuses (ltb (2 ^ 63) (at + length r.front)) (at + length r.front) k why (sym once.1)
        | inr late ↦
            let end = at + length r.front in
            let is : verdict_between end ≡ Refused end StreamTooLong = rw (lt-ltb (2 ^ 63) end late) refl in
            let stays = refusal_stays l p r.front r.back (FlatAll l at r.frames) es (verdict_between end) (Refused k why) front (rw r.whole at said) end StreamTooLong is in
            same_reason k end why StreamTooLong stays.1
      ]

-- ---- what is refused

-- What no limit refuses is refused without limits.
refused_freely : (l : Rules) (gifts : Gifts) (bytes : List ℕ) (es : List (ℕ × Event)) (k : ℕ) (why : Reason) → Says l (start_with gifts) bytes es (Refused k why) → (IsOfLimit why → ⊥) → Says (free l) (start_with gifts) bytes es (Refused k why)
refused_freely l gifts bytes es k why said plain = elim (says_cut l gifts bytes es (Refused k why) said) [
  | inl c ↦ c.1
  | inr c ↦
      let is : why ≡ c.2 = same_reason k c.0.offset why c.2 c.4 in
      absurd (plain (rw is (excess_of_limit l c.0 c.1 c.0.symbols c.2 c.3.0.1)))
]

-- what is read within limits is read without
freely : (l : Rules) (gifts : Gifts) (bytes left : List ℕ) (es : List (ℕ × Event)) (p : Place) → Reads l (start_with gifts) bytes es p left → Reads (free l) (start_with gifts) bytes es p left
freely l gifts bytes left es p run = (reads_freely l gifts bytes es [] (start_with gifts) p bytes left (refl, refl) run).0

-- No given types are in use without limits, where none are within them.
none_freely : (l : Rules) (gifts : Gifts) (bytes : List ℕ) (before es : List (ℕ × Event)) (v : Verdict) → Says l (start_with gifts) bytes (before ++ es) v → NoneInUse l gifts bytes before es → NoneInUse (free l) gifts bytes before es
none_freely l gifts bytes before es v said none front back p left is run =
    let all : before ++ es ≡ (before ++ front) ++ back = ap (λ (xs : List (ℕ × Event)). before ++ xs) is ∙ sym (append_assoc before front back) in
    let c = runs_split (step l) (start_with gifts) said.0 bytes said.1 (before ++ front) back (rw all at said.2) in
    let here : c.0 ≡ p = one_place (step (free l)) (start_with gifts) c.0 p bytes c.1 left (before ++ front) (freely l gifts bytes c.1 (before ++ front) c.0 c.2) run in
    subst (λ (q : Place). is_in_use q.given ≡ false) here (none front back c.0 c.1 is c.2)

-- What is refused after whole frames is refused without limits, and with nothing given.
refused_plainly : (l : Rules) (gifts : Gifts) (s bytes : List ℕ) (before es : List (ℕ × Event)) (k : ℕ) (why : Reason) (w : AreWholeFrames l gifts s before)
    → Says l (start_with gifts) (s ++ bytes) (before ++ es) (Refused k why) → IsFault why → NoneInUse l gifts (s ++ bytes) before es → Says (free l) (plainly w.0) bytes es (Refused k why)
refused_plainly l gifts s bytes before es k why w said fault none =
    let all = refused_freely l gifts (s ++ bytes) (before ++ es) k why said fault.0 in
    let first : Reads (free l) (start_with gifts) (s ++ bytes) before w.0 bytes = runs_stay (step (free l)) (start_with gifts) s bytes before w.0 [] (freely l gifts s [] before w.0 w.1) in
    let later = runs_from (step (free l)) (start_with gifts) w.0 all.0 (s ++ bytes) bytes all.1 before es first all.2 in
    let idle = none_freely l gifts (s ++ bytes) before es (Refused k why) said none in
    says_forth (free l) es w.0 (plainly w.0) bytes (Refused k why) (like_plainly w.0 (whole_due l gifts s before w)) (free_from (free l) gifts (s ++ bytes) before es w.0 bytes first idle) (all.0, all.1, later, all.3)

pub refused_with_gifts : RefusedIsNoFrameWithGifts
refused_with_gifts l gifts s bytes before es k why typed some w said fault none t fs spelled =
    let at = w.0.offset in
    let stop = w.0.stop in
    let p = plainly w.0 in
    let all = always_said (free l) p (bytes ++ t) some in
    let stays = refusal_stays (free l) p bytes t es all.0 (Refused k why) all.1 (refused_plainly l gifts s bytes before es k why w said fault none) all.2 k why refl in
    let allows : Allow (free l) LONGEST_BODY = record { text = omega arith; cell = omega arith; entries = omega arith; depth = omega arith; part = omega arith } in
    fault.1 (only_too_late (free l) at stop (bytes ++ t) all.0 k why (rw stays.1 at all.2) (begin_in_time (free l) allows typed fs at (bytes ++ t) spelled))

pub decoder_refuses_with_gifts : DecoderRefusesNoFrameWithGifts
decoder_refuses_with_gifts gifts old new s bytes input before es r typed some none w after answers fault idle t fs spelled =
    let refused = refuses_new old.refusal gifts old (s ++ bytes) (before ++ es) input r none (answers.1 gifts (s ++ bytes) (before ++ es) after).2 in
    let joined : (s ++ bytes) ++ input ≡ s ++ (bytes ++ input) = append_assoc s bytes input in
    refused_with_gifts old.rules gifts s (bytes ++ input) before es r.at r.why typed some w (rw joined at refused) fault (subst (λ (b : List ℕ). NoneInUse old.rules gifts b before es) joined idle) t fs spelled

-- ---- where nothing is given

pub refused_is_no_frame : RefusedIsNoFrame
refused_is_no_frame l bytes es k why typed some said fault =
    refused_with_gifts l [] [] bytes [] es k why typed some (start, (refl, refl), refl) said fault (nothing_in_use l bytes [] es)

pub decoder_refuses_no_frame : DecoderRefusesNoFrame
decoder_refuses_no_frame old new s input es r typed some none after answers fault =
    decoder_refuses_with_gifts [] old new [] s input [] es r typed some none (start, (refl, refl), refl) after answers fault (nothing_in_use old.rules (s ++ input) [] es)
