-- What spells a frame within the limits is read as its events, and so are frames one after the other.
use Rattle.std.proofs.Common.{◌≡◌, ℕ, ◌+◌, ◌-◌, ◌≤◌, ◌^◌, List, [], ◌∷◌, ◌++◌, length, refl, sym, ap, subst, ◌∙◌, inl, inr, append_assoc, arith}
use Rattle.std.specs.Prelude.{FitsSigned, Ok}
use Rattle.std.specs.Int.{w16}
use Rattle.std.proofs.lemmas.Bool.{cases_lt, lt-ltb, le-ltb}
use Rattle.std.proofs.lemmas.List.{append-nil, length-append}
use Rattle.cqlp_note.specs.declared.header.Header.{Header}
use Rattle.cqlp_note.specs.Heading.{IsLawful, heading, header_bytes}
use Rattle.cqlp_note.specs.Limits.{Rules}
use Rattle.cqlp_note.specs.Reader.{says}
use Rattle.cqlp_note.specs.Step.{Emitted}
use Rattle.cqlp_note.proofs.Runs.{runs_then, runs_stay}
use Rattle.cqlp_note.proofs.Written.{written_is_read}
use Rattle.cqlp_note.proofs.Yields.{Yields}
use Rattle.cqlp_kind.specs.Types.{Types, NoMore}
use Rattle.cqlp_message.specs.FrameValues.{FrameValue}
use Rattle.cqlp_grammar.specs.Events.{Event, Frame, End}
use Rattle.cqlp_grammar.specs.Productions.{Stream, Extra, message}
use Rattle.cqlp_message.specs.Parts.{parts_size, parts_events}
use Rattle.cqlp_message.specs.Frames.{FrameSpells, header_of, frame_parts, frame_size, Flat, IsWithin, AllSpell, FlatAll}
use Rattle.cqlp_message.proofs.Sizes.{parts_long, frame_spelled, frame_long}
use Rattle.cqlp_message.proofs.Messages.{frame_derives}
use Rattle.cqlp_decode.specs.Reading.{Place, Gifts, step, start, start_with, Reads, Says, Verdict, Ends}
use Rattle.cqlp_laws.specs.Untyped.{AreWholeFrames}
use Rattle.cqlp_laws.specs.Frames.{AllWithin, AllBeginInTime, verdict_between, SpelledIsRead, SpelledIsReadWithGifts}
use Rattle.cqlp_laws.proofs.StepRuns.{step_runs, runs_join}
use Rattle.cqlp_laws.proofs.PartsRead.{inside, parts_read}
use Rattle.cqlp_laws.proofs.Offsets.{offset_is}
use Rattle.cqlp_laws.proofs.PlainRuns.{plainly, like_plainly, whole_due, free_from, says_back, nothing_in_use}

-- a place between frames
abbrev pub between : (at stop : ℕ) → (described : Types) → Place
between at stop described = inside at stop (Stream ∷ []) described

module _ (l : Rules) where
  header_reads : (at stop : ℕ) (described : Types) (h : Header) (b : List ℕ) → length b ≡ 9 → heading b ≡ Ok h → at ≤ 2 ^ 63 → Reads l (between at stop described) b ((at, Frame h) ∷ []) (inside (at + 9) ((at + 9) + h.length) (message h) described) []
  header_reads at stop described h b long is le =
      let x : Emitted Event Place = record { at = at; event = Frame h; after = λ used. inside (at + used) ((at + used) + h.length) (message h) described } in
      let y : Yields (step l (between at stop described)) x b = rw (le-ltb (2 ^ 63) at le) (b, [], long, sym (append-nil b), rw is (refl, refl)) in
      rw long at (step_runs (step l) (between at stop described) x b y)

  end_reads : (at x stop : ℕ) (described : Types) (b : List ℕ) → length b ≡ x → stop ≡ at + x → Reads l (inside at stop (Extra ∷ []) described) b ((stop, End x) ∷ []) (between stop stop described) []
  end_reads at x stop described b long is =
      let left : stop - at ≡ x = omega arith in
      let e : Emitted Event Place = record { at = stop; event = End x; after = λ used. between stop stop described } in
      step_runs (step l) (inside at stop (Extra ∷ []) described) e b (rw left (b, [], long, sym (append-nil b), (refl, refl)))

  -- a header, the parts of a frame and its end are read one after the other
  module _ (at stop x size : ℕ) (described described' : Types) (h : Header) (head body extra b : List ℕ) (es : List (ℕ × Event)) where
    frame_joined : length body ≡ size → length extra ≡ x → h.length ≡ length body + x → b ≡ head ++ (body ++ extra) → length head ≡ 9 → heading head ≡ Ok h → at ≤ 2 ^ 63
        → Reads l (inside (at + 9) ((at + 9) + h.length) (message h) described) body es (inside ((at + 9) + length body) ((at + 9) + h.length) (Extra ∷ []) described') []
        → Reads l (between at stop described) b (((at, Frame h) ∷ []) ++ es ++ (at + (9 + (size + x)), End x) ∷ []) (between (at + length b) (at + length b) described') []
    frame_joined sized more counts whole nine is le second =
        let end = (at + 9) + h.length in
        let here = (at + 9) + length body in
        let last = end_reads here x end described' extra more (omega arith) in
        let both = runs_join (step l) (inside (at + 9) end (message h) described) (inside here end (Extra ∷ []) described') (between end end described') body extra es ((end, End x) ∷ []) second last in
        let all = runs_join (step l) (between at stop described) (inside (at + 9) end (message h) described) (between end end described') head (body ++ extra) ((at, Frame h) ∷ []) (es ++ (end, End x) ∷ []) (header_reads at stop described h head nine is le) both in
        let total : at + length (head ++ (body ++ extra)) ≡ end = omega (arith, length-append head (body ++ extra), length-append body extra) in
        let last_at : at + (9 + (size + x)) ≡ end = omega arith in
        rw (whole, total, last_at) all

  -- What spells a frame is read as its events, and the next frame is due.
  pub frame_reads : (f : FrameValue) (x at stop : ℕ) (described : Types) (b : List ℕ) → FrameSpells f x b → IsWithin l f → FitsSigned w16 f.stream → at ≤ 2 ^ 63 → (described' : Types) × Reads l (between at stop described) b (Flat l at f x) (between (at + length b) (at + length b) described') []
  frame_reads f x at stop described b s w fits le =
      let ps = frame_parts f in
      let middle : List ℕ = s.announced ++ s.body in
      let size : length middle ≡ parts_size ps = parts_long ps middle (frame_spelled f x b s) in
      let n = parts_size ps + x in
      let all : length (s.announced ++ s.body ++ s.extra) ≡ n = omega (arith, length-append middle s.extra, size, s.more) in
      let h = header_of f n in
      let lawful : IsLawful h = rw all at s.lawful in
      let head : List ℕ = header_bytes h in
      let front : b ≡ ((head ++ s.announced) ++ s.body) ++ s.extra = rw all at s.whole in
      let whole : b ≡ head ++ (middle ++ s.extra) = front ∙ append_assoc (head ++ s.announced) s.body s.extra ∙ append_assoc head s.announced (s.body ++ s.extra) ∙ ap (λ (t : List ℕ). head ++ t) (sym (append_assoc s.announced s.body s.extra)) in
      let end = (at + 9) + n in
      let inside_end : (at + 9) + length middle ≤ end = omega arith in
      let counts : n ≡ length middle + x = omega arith in
      let second = parts_read l w.typed end ps (at + 9) (message h) described middle (frame_derives l f n s.agrees s.cells w.types described) (frame_spelled f x b s) w.parts inside_end in
      (second.0, frame_joined at stop x (parts_size ps) described second.0 h head middle s.extra b (parts_events l (at + 9) ps) size s.more counts whole refl (written_is_read h lawful fits) le second.1)

module _ (l : Rules) (at stop : ℕ) (described described' : Types) (front back b : List ℕ) (k : ℕ) (es : List (ℕ × Event)) (fs : ℕ → List (ℕ × Event)) (v : Verdict) where
  frames_joined : b ≡ front ++ back → length front ≡ k → Reads l (between at stop described) front es (between (at + length front) (at + length front) described') [] → Says l (between (at + length front) (at + length front) described') back (fs (at + length front)) v
      → Says l (between at stop described) b (es ++ fs (at + k)) v
  frames_joined whole size one more =
      let here = between (at + length front) (at + length front) described' in
      rw (whole, ← size) (more.0, more.1, runs_then (step l) (between at stop described) here more.0 (front ++ back) back more.1 es _ (runs_stay (step l) (between at stop described) front back es here [] one) more.2, more.3)

-- what is said between frames of no bytes
nothing_more : (l : Rules) (at stop : ℕ) (described : Types) → Ends (says (step l (between at stop described)) 0 []) (verdict_between at)
nothing_more l at stop described = elim (cases_lt (2 ^ 63) at) [
  | inl lt ↦ rw (lt-ltb (2 ^ 63) at lt) refl
  | inr le ↦ rw (le-ltb (2 ^ 63) at le) tt
]

-- What is spelled is read: frames one after the other, within the limits, say their events, and then nothing more.
pub frames_read : (l : Rules) (fs : List (FrameValue × ℕ)) (at stop : ℕ) (described : Types) (b : List ℕ) → AllSpell fs b → AllWithin l fs → AllBeginInTime at fs → Says l (between at stop described) b (FlatAll l at fs) (verdict_between (at + length b))
frames_read l [] at stop described b s w early =
    let none : at + length {A = ℕ} [] ≡ at = omega arith in
    (between at stop described, b, (refl, refl), rw (s, none) (nothing_more l at stop described))
frames_read l (f ∷ fs) at stop described b s w early =
    let long : at + length b ≡ (at + length s.front) + length s.back = omega (arith, ap length s.whole, length-append s.front s.back) in
    let size : length s.front ≡ frame_size f.0 f.1 = frame_long f.0 f.1 s.front s.this in
    let one = frame_reads l f.0 f.1 at stop described s.front s.this w.0 w.1 early.0 in
    let here = at + length s.front in
    let more = frames_read l fs here here one.0 s.back s.that w.2 (rw size early.1) in
    rw long (frames_joined l at stop described one.0 s.front s.back b (frame_size f.0 f.1) (Flat l at f.0 f.1) (λ k. FlatAll l k fs) (verdict_between (here + length s.back)) s.whole size one.1 more)

module _ (l : Rules) (gifts : Gifts) (s : List ℕ) (before : List (ℕ × Event)) (w : AreWholeFrames l gifts s before) where
  -- after whole frames the reading is at their end
  pub whole_offset : w.0.offset ≡ length s
  whole_offset = omega (arith, offset_is l gifts before w.0 s [] w.1)

  pub resumed : (bytes : List ℕ) → Reads l (start_with gifts) (s ++ bytes) before w.0 bytes
  resumed bytes = runs_stay (step l) (start_with gifts) s bytes before w.0 [] w.1

pub spelled_with_gifts : SpelledIsReadWithGifts
spelled_with_gifts l gifts s bytes before fs w spelled within early none =
    let at = whole_offset l gifts s before w in
    let all : w.0.offset + length bytes ≡ length (s ++ bytes) = omega (arith, at, length-append s bytes) in
    let plain = frames_read l fs w.0.offset w.0.stop NoMore bytes spelled within (rw at early) in
    let ends = subst (λ (k : ℕ). Says l (plainly w.0) bytes (FlatAll l w.0.offset fs) (verdict_between k)) all plain in
    let events = subst (λ (k : ℕ). Says l (plainly w.0) bytes (FlatAll l k fs) (verdict_between (length (s ++ bytes)))) at ends in
    let free = free_from l gifts (s ++ bytes) before (FlatAll l (length s) fs) w.0 bytes (resumed l gifts s before w bytes) none in
    let said = says_back l (FlatAll l (length s) fs) w.0 (plainly w.0) bytes (verdict_between (length (s ++ bytes))) (like_plainly w.0 (whole_due l gifts s before w)) free events in
    (said.0, said.1, runs_then (step l) (start_with gifts) w.0 said.0 (s ++ bytes) bytes said.1 before (FlatAll l (length s) fs) (resumed l gifts s before w bytes) said.2, said.3)

pub spelled_is_read : SpelledIsRead
spelled_is_read l fs bytes s within early = spelled_with_gifts l [] [] bytes [] fs (start, (refl, refl), refl) s within early (nothing_in_use l bytes [] (FlatAll l 0 fs))
