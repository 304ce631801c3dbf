-- What is read between a header and the end of its frame is spelled by the frame's bytes.
use Rattle.std.proofs.Common.{◌≡◌, ℕ, ◌+◌, ◌-◌, ◌<◌, ◌≤◌, ◌^◌, Bool, true, false, cond, ltb, ◌||◌, ◌==◌, List, [], ◌∷◌, ◌++◌, Option, Some, None, length, take, drop, Ok, Err, refl, sym, ap, ◌∙◌, subst, append_assoc, lit<, arith}
use borrow.Author.Gap.{read_sfits}
use Rattle.std.specs.Prelude.{All, FitsSigned, slice_index}
use Rattle.std.specs.Int.{w16, w32, from_be_bytes}
use Rattle.cqlp_note.specs.declared.opcode.Opcode.{Opcode}
use Rattle.std.proofs.lemmas.List.{append-nil, length-append, take_at, drop_at}
use Rattle.std.proofs.lemmas.List.Elements.{All-head, All-tail, All-take, All-drop}
use Rattle.cqlp_note.specs.declared.header.Header.{Header}
use Rattle.cqlp_note.specs.Heading.{Heading, heading, heading_of, has, same, answers, beside_number, opcodes, IsLawful, header_bytes}
use Rattle.cqlp_note.specs.Limits.{Rules}
use Rattle.cqlp_note.proofs.Written.{read_is_lawful, read_is_written}
use Rattle.cqlp_kind.specs.Types.{Types, NoMore}
use Rattle.cqlp_grammar.specs.Events.{Event, Frame, End}
use Rattle.cqlp_message.specs.Parts.{Part, PartsSpell, PartsWithin, parts_events}
use Rattle.cqlp_grammar.specs.Productions.{Symbol, Extra, message}
use Rattle.cqlp_message.proofs.Derives.{Derives}
use Rattle.cqlp_decode.specs.Reading.{Place, Gifts, step, start_with, Reads, Verdict, Says}
use Rattle.cqlp_laws.specs.Untyped.{NoneInUse}
use Rattle.cqlp_laws.specs.ReadFrames.{EndsNone}
use Rattle.cqlp_laws.proofs.RunsBack.{runs_exact, runs_split}
use Rattle.cqlp_laws.proofs.Offsets.{offset_is}
use Rattle.cqlp_laws.proofs.PlainRuns.{plainly, free_from, frame_forth}
use Rattle.cqlp_laws.proofs.Due.{message_due}
use Rattle.cqlp_laws.proofs.PartsBack.{inside, ReadsParts, parts_back}
use Rattle.cqlp_laws.proofs.FrameEdges.{Begun, extra_end, next_comes, between, Ended, ended, begun}

-- a place between frames, after these bytes
pub record Between (at : ℕ) (b : List ℕ) (q : Place) (left : List ℕ) : Type 0 where
  pub described : Types
  pub stop : ℕ
  pub front : List ℕ
  pub whole : b ≡ front ++ left
  pub place : q ≡ between (at + length front) stop described

zero_more : (a : ℕ) → a ≡ 0 + a
zero_more a = omega arith

no_less : (a b : ℕ) → a ≤ a + b
no_less a b = omega arith

three : (a b c d : List ℕ) → a ++ (b ++ (c ++ d)) ≡ (a ++ (b ++ c)) ++ d
three a b c d = simp append_assoc

no_end : (xs ys : List (ℕ × Event)) (at n : ℕ) → All EndsNone (xs ++ (at, End n) ∷ ys) → ⊥
no_end [] ys at n all = let no : false ≡ true = All-head EndsNone (at, End n) ys all in absurd cc
no_end (x ∷ xs) ys at n all = no_end xs ys at n (All-tail EndsNone x (xs ++ (at, End n) ∷ ys) all)

-- What is read of a frame, between its header and its end, which no other end comes before.
pub record IsReadFrame (l : Rules) (s : List ℕ) (p : ℕ) (h : Header) (q x : ℕ) (middle : List (ℕ × Event)) : Type 0 where
  pub parts : List Part
  pub described : Types
  pub body : List ℕ
  pub extra : List ℕ
  -- the bytes from the header's first one to the end
  pub bytes : take (q - p) (drop p s) ≡ header_bytes h ++ (body ++ extra)
  pub read : heading (header_bytes h) ≡ Ok h
  pub lawful : IsLawful h
  pub flags : h.flags < 2 ^ 8
  pub stream : FitsSigned w16 h.stream
  pub derives : Derives l parts (message h) described
  pub spelled : PartsSpell parts body
  pub limits : PartsWithin l parts
  pub events : middle ≡ parts_events l (p + 9) parts
  pub more : length extra ≡ x
  pub long : h.length ≡ length (body ++ extra)
  pub ends : q ≡ (p + 9) + h.length
  pub within : q ≤ length s

-- the end is due where the message ends
record Middle (l : Rules) (at stop : ℕ) (ss : List Symbol) (described : Types) (b : List ℕ) (es : List (ℕ × Event)) (q : Place) (left : List ℕ) : Type 0 where
  parts : List Part
  body : List ℕ
  described' : Types
  whole : b ≡ body ++ left
  derives : Derives l parts ss described
  spelled : PartsSpell parts body
  limits : PartsWithin l parts
  events : es ≡ parts_events l at parts
  within : at + length body ≤ stop
  place : q ≡ inside (at + length body) stop (Extra ∷ []) described'

module _ (l : Rules) (at stop : ℕ) (ss : List Symbol) (described : Types) (b : List ℕ) (es : List (ℕ × Event)) (q : Place) (left : List ℕ) where
  middle_by : (r : ReadsParts l at stop ss described b es q left) → All EndsNone es → (later : List (ℕ × Event)) → r.later ≡ later → Middle l at stop ss described b es q left
  middle_by r all [] is =
      let run : Reads l (inside (at + length r.body) stop (Extra ∷ []) r.described') r.back [] q left = rw is at r.onward in
      record {
        parts = r.parts;
        body = r.body;
        described' = r.described';
        whole = r.whole ∙ ap (λ (z : List ℕ). r.body ++ z) (sym run.1);
        derives = r.derives;
        spelled = r.spelled;
        limits = r.limits;
        events = r.events ∙ ap (λ (z : List (ℕ × Event)). parts_events l at r.parts ++ z) is ∙ append-nil (parts_events l at r.parts);
        within = r.within;
        place = run.0;
      }
  middle_by r all (e ∷ later) is =
      let here = at + length r.body in
      let f = ended l here stop r.described' r.back e later q left (rw is at r.onward) in
      let whole : es ≡ parts_events l at r.parts ++ (stop, End (stop - here)) ∷ f.later = r.events ∙ ap (λ (z : List (ℕ × Event)). parts_events l at r.parts ++ z) (is ∙ f.events) in
      absurd (no_end (parts_events l at r.parts) f.later stop (stop - here) (subst (λ (z : List (ℕ × Event)). All EndsNone z) whole all))

same_frame : (g h : Header) (a p : ℕ) → ◌≡◌ {A = ℕ × Event} (p, Frame h) (a, Frame g) → (p ≡ a) × (h ≡ g)
same_frame g h a p is = (ap (λ (e : ℕ × Event). e.0) is, let same : Frame h ≡ Frame g = ap (λ (e : ℕ × Event). e.1) is in cc)

same_end : (m n a p : ℕ) (xs ys : List (ℕ × Event)) → (p, End m) ∷ xs ≡ (a, End n) ∷ ys → (p ≡ a) × (m ≡ n)
same_end m n a p xs ys is =
    let first : ◌≡◌ {A = ℕ × Event} (p, End m) (a, End n) = cc in
    (ap (λ (e : ℕ × Event). e.0) first, let same : End m ≡ End n = ap (λ (e : ℕ × Event). e.1) first in cc)

-- a stream id has 16 bits
abbrev HasStream : Heading → Type 0
HasStream (Ok h) = FitsSigned w16 h.stream
HasStream (Err e) = Unit {0}

either_stream : (t : Bool) (x y : Heading) → HasStream x → HasStream y → HasStream (cond t x y)
either_stream true x y a b = a
either_stream false x y a b = b

known_stream : (response : Bool) (b : List ℕ) (o : Option Opcode) → HasStream (heading_of response b o)
known_stream response b None = tt
known_stream response b (Some o) = either_stream (same (answers o) response) _ _ (either_stream (ltb 268435456 (from_be_bytes w32 (take 4 (drop 5 b)))) _ _ tt (read_sfits w16 _)) tt

heading_stream : (b : List ℕ) → HasStream (heading b)
unfolding heading
heading_stream b =
    either_stream ((slice_index b 0 == 0x04) || (slice_index b 0 == 0x84)) _ _ (either_stream (has (slice_index b 1) 0x01) _ _ tt (known_stream (slice_index b 0 == 0x84) b (beside_number (slice_index b 4) opcodes))) tt

stream_fits : (b : List ℕ) (h : Header) → heading b ≡ Ok h → FitsSigned w16 h.stream
stream_fits b h is = subst HasStream is (heading_stream b)

flags_small : (h : Header) → All (λ b. b < 256) (header_bytes h) → h.flags < 2 ^ 8
flags_small h small = let low : h.flags < 256 = small 1 0 (lit< tt) in omega arith

content_is : (body extra : List ℕ) (at n : ℕ) → at + length body ≤ at + n → length extra ≡ (at + n) - (at + length body) → length (body ++ extra) ≡ n
content_is body extra at n le long = omega (arith, length-append body extra)

size_is : (head content : List ℕ) (p q n : ℕ) → length head ≡ 9 → length content ≡ n → q ≡ (p + 9) + n → length (head ++ content) ≡ q - p
size_is head content p q n nine long ends = omega (arith, length-append head content)

within_is : (front frame back s : List ℕ) (p q n : ℕ) → s ≡ front ++ (frame ++ back) → length front ≡ p → length frame ≡ q - p → q ≡ (p + 9) + n → q ≤ length s
within_is front frame back s p q n whole begins size ends = omega (arith, ap length whole, length-append front (frame ++ back), length-append frame back)

module _ (l : Rules) (s : List ℕ) (small : All (λ b. b < 256) s) (middle : List (ℕ × Event)) (x : ℕ) where
  -- a frame's bytes, and what was read of them
  frame_is : (p q : ℕ) (h : Header) (front head body extra back : List ℕ) (parts : List Part) (described : Types) → s ≡ front ++ ((head ++ (body ++ extra)) ++ back) → length front ≡ p → length head ≡ 9 → heading head ≡ Ok h → q ≡ (p + 9) + h.length
      → length (body ++ extra) ≡ h.length → length extra ≡ x → Derives l parts (message h) described → PartsSpell parts body → PartsWithin l parts → middle ≡ parts_events l (p + 9) parts → IsReadFrame l s p h q x middle
  frame_is p q h front head body extra back parts described whole begins nine is ends content more derives spelled limits events =
      let size : length (head ++ (body ++ extra)) ≡ q - p = size_is head (body ++ extra) p q h.length nine content ends in
      let from : drop p s ≡ (head ++ (body ++ extra)) ++ back = ap (λ (z : List ℕ). drop p z) whole ∙ drop_at front ((head ++ (body ++ extra)) ++ back) p begins in
      let bytes : take (q - p) (drop p s) ≡ head ++ (body ++ extra) = ap (λ (z : List ℕ). take (q - p) z) from ∙ take_at (head ++ (body ++ extra)) back (q - p) size in
      let first : take 9 (drop p s) ≡ head = ap (λ (z : List ℕ). take 9 z) (from ∙ append_assoc head (body ++ extra) back) ∙ take_at head ((body ++ extra) ++ back) 9 nine in
      let bytes_small : All (λ b. b < 256) head = subst (λ (z : List ℕ). All (λ b. b < 256) z) first (All-take (λ b. b < 256) 9 (drop p s) (All-drop (λ b. b < 256) p s small)) in
      let written : header_bytes h ≡ head = read_is_written head h nine (λ i lt. bytes_small i 0 (subst (λ (n : ℕ). i < n) (sym nine) lt)) is in
      record {
        parts = parts;
        described = described;
        body = body;
        extra = extra;
        bytes = bytes ∙ ap (λ (z : List ℕ). z ++ (body ++ extra)) (sym written);
        read = ap heading written ∙ is;
        lawful = read_is_lawful head h is;
        flags = flags_small h (subst (λ (z : List ℕ). All (λ b. b < 256) z) (sym written) bytes_small);
        stream = stream_fits head h is;
        derives = derives;
        spelled = spelled;
        limits = limits;
        events = events;
        more = more;
        long = sym content;
        ends = ends;
        within = within_is front (head ++ (body ++ extra)) back s p q h.length whole begins size ends;
      }

  -- the same from a place between frames on
  module _ (at stop : ℕ) (described : Types) (front b : List ℕ) (e : ℕ × Event) (q : ℕ) (after : List (ℕ × Event)) (last : Place) (over : List ℕ) (whole : s ≡ front ++ b) (begins : length front ≡ at) (inner : All EndsNone middle) where
    abbrev Header_then : Type 0
    Header_then = Begun l at described b e (middle ++ (q, End x) ∷ after) last over

    module _ (g : Header_then) (m : Place) (between : List ℕ) where
      abbrev Middle_then : Type 0
      Middle_then = Middle l (at + 9) ((at + 9) + g.header.length) (message g.header) described g.back middle m between

      frame_made : (k : Middle_then) → Ended l ((at + 9) + length k.body) ((at + 9) + g.header.length) k.described' between ((q, End x) ∷ after) last over → IsReadFrame l s at g.header q x middle
      frame_made k f =
          let end = (at + 9) + g.header.length in
          let ends = same_end x (end - ((at + 9) + length k.body)) end q after f.later f.events in
          let all : s ≡ front ++ ((g.head ++ (k.body ++ f.extra)) ++ f.back) =
          whole ∙ ap (λ (z : List ℕ). front ++ z) (g.whole ∙ ap (λ (z : List ℕ). g.head ++ z) (k.whole ∙ ap (λ (z : List ℕ). k.body ++ z) f.whole) ∙ three g.head k.body f.extra f.back) in
          frame_is at q g.header front g.head k.body f.extra f.back k.parts described all begins g.nine g.is ends.0 (content_is k.body f.extra (at + 9) g.header.length k.within f.long) (f.long ∙ sym ends.1) k.derives k.spelled k.limits k.events

      frame_ended : Middle_then → Reads l m between ((q, End x) ∷ after) last over → IsReadFrame l s at g.header q x middle
      frame_ended k run = frame_made k (ended l ((at + 9) + length k.body) ((at + 9) + g.header.length) k.described' between (q, End x) after last over (subst (λ (y : Place). Reads l y between ((q, End x) ∷ after) last over) k.place run))

    frame_read : l.types ≡ true → l.lenient ≡ false → (g : Header_then) → IsReadFrame l s at g.header q x middle
    frame_read on strict g =
        let end = (at + 9) + g.header.length in
        let c = runs_split (step l) (inside (at + 9) end (message g.header) described) last g.back over middle ((q, End x) ∷ after) g.onward in
        let r = parts_back l (at + 9) end (message g.header) described g.back middle c.0 c.1 on strict (message_due g.header) (no_less (at + 9) g.header.length) (extra_end c.0.symbols (next_comes l c.0 last c.1 over (q, End x) after c.3)) c.2 in
        frame_ended g c.0 c.1 (middle_by l (at + 9) end (message g.header) described g.back middle c.0 c.1 r inner r.later refl) c.3

module _ (l : Rules) (on : l.types ≡ true) (strict : l.lenient ≡ false) (s : List ℕ) (small : All (λ b. b < 256) s) (middle after : List (ℕ × Event)) (inner : All EndsNone middle) (p q x : ℕ) (h : Header) (last : Place) (over : List ℕ) where
  abbrev later : List (ℕ × Event)
  later = middle ++ (q, End x) ∷ after

  module _ (m : Place) (left : List ℕ) (t : Between 0 s m left) where
    frame_named : (g : Begun l (0 + length t.front) t.described left (p, Frame h) later last over) → (p ≡ 0 + length t.front) × (h ≡ g.header) → IsReadFrame l s p h q x middle
    frame_named g is =
        let r = frame_read l s small middle x (0 + length t.front) t.stop t.described t.front left (p, Frame h) q after last over t.whole (zero_more (length t.front)) inner on strict g in
        subst (λ (k : ℕ). IsReadFrame l s k h q x middle) (sym is.0) (subst (λ (y : Header). IsReadFrame l s (0 + length t.front) y q x middle) (sym is.1) r)

    pub frame_from : Reads l m left ((p, Frame h) ∷ later) last over → IsReadFrame l s p h q x middle
    frame_from run =
        let g = begun l (0 + length t.front) t.stop t.described left (p, Frame h) later last over (subst (λ (y : Place). Reads l y left ((p, Frame h) ∷ later) last over) t.place run) in
        frame_named g (same_frame g.header h (0 + length t.front) p g.event)

-- What is read between a header and the end of its frame is spelled by the bytes there, where no given types are in use
-- in the frame.
pub frame_back : (l : Rules) (gifts : Gifts) (s : List ℕ) (before middle after : List (ℕ × Event)) (p q x : ℕ) (h : Header) (v : Verdict) → l.types ≡ true → l.lenient ≡ false → All (λ b. b < 256) s
    → Says l (start_with gifts) s (before ++ ((p, Frame h) ∷ middle) ++ (q, End x) ∷ after) v → NoneInUse l gifts s before ((p, Frame h) ∷ middle ++ (q, End x) ∷ []) → All EndsNone middle → IsReadFrame l s p h q x middle
frame_back l gifts s before middle after p q x h v on strict small said none inner =
    let frame = (p, Frame h) ∷ (middle ++ (q, End x) ∷ []) in
    let whole : (before ++ ((p, Frame h) ∷ middle)) ++ (q, End x) ∷ after ≡ before ++ (frame ++ after) = simp append_assoc in
    let run : Reads l (start_with gifts) s (before ++ (frame ++ after)) said.0 said.1 = subst (λ (es : List (ℕ × Event)). Reads l (start_with gifts) s es said.0 said.1) whole said.2 in
    let a = runs_split (step l) (start_with gifts) said.0 s said.1 before (frame ++ after) run in
    let c = runs_split (step l) a.0 said.0 a.1 said.1 frame after a.3 in
    let exact = runs_exact (step l) (start_with gifts) a.0 s a.1 before a.2 in
    let due = next_comes l a.0 c.0 a.1 c.1 (p, Frame h) (middle ++ (q, End x) ∷ []) c.2 in
    let free = free_from l gifts s before frame a.0 a.1 a.2 none in
    let plain = frame_forth l a.0 a.1 due (p, Frame h) (middle ++ (q, End x) ∷ []) c.0 c.1 free c.2 in
    let at : a.0.offset ≡ 0 + length exact.0 = omega (arith, offset_is l gifts before a.0 s a.1 a.2, ap length exact.1, length-append exact.0 a.1) in
    let t : Between 0 s (plainly a.0) a.1 = record { described = NoMore; stop = a.0.stop; front = exact.0; whole = exact.1; place = ap (λ (n : ℕ). between n a.0.stop NoMore) at } in
    frame_from l on strict s small middle [] inner p q x h plain.0 c.1 (plainly a.0) a.1 t plain.1
