-- Where bytes spell parts that come of a lawful header's symbols, those of the header with them spell a frame value, and the
-- events of the header and of the parts are the frame's.
use Rattle.std.proofs.Common.{◌≡◌, ℕ, ◌+◌, ◌<◌, ◌^◌, true, List, [], ◌∷◌, ◌++◌, length, refl, sym, ap, ◌∙◌, append_assoc, arith}
use Rattle.std.specs.Prelude.{All, FitsSigned, ◌==◌}
use Rattle.std.specs.Int.{w16}
use Rattle.std.proofs.lemmas.Bool.{eq-eqb}
use Rattle.std.proofs.lemmas.List.Elements.{All-head, All-tail}
use Rattle.cqlp_note.specs.declared.header.Header.{Header}
use Rattle.cqlp_note.specs.Heading.{IsLawful, header_bytes}
use Rattle.cqlp_note.specs.Limits.{Rules}
use Rattle.cqlp_kind.specs.Types.{Types}
use Rattle.cqlp_type.specs.Trees.{trees_in, are_trees}
use Rattle.cqlp_type.proofs.WrittenTrees.{are_the_trees}
use Rattle.cqlp_grammar.specs.Productions.{message}
use Rattle.cqlp_message.specs.Parts.{Part, Field_is, Type_is, Cell_is, Joined, PartSpells, PartsSpell, parts_size, parts_events, PartsWithin, PartIsInRange}
use Rattle.cqlp_message.specs.Bodies.{message_parts}
use Rattle.cqlp_grammar.specs.Events.{Event, Frame, End}
use Rattle.cqlp_message.specs.Frames.{frame_parts, announced_parts, header_of, FrameSpells, FrameIsInRange, IsWithin, frame_size, Flat}
use Rattle.cqlp_message.proofs.Derives.{Derives}
use Rattle.cqlp_message.proofs.Gives.{IsSound, AreSound, both}
use Rattle.cqlp_message.proofs.PartsBack.{IsFrame, frame_back}

-- ---- sound parts

sound : (part : Part) (b : List ℕ) → PartIsInRange part → PartSpells part b → IsSound part
sound (Field_is f n v) b range s = range
sound (Type_is t) b range s = both (trees_in t == 1) (are_trees t) (eq-eqb (trees_in t) 1 s.one) (are_the_trees t s.formed)
sound (Cell_is row column k inner v) b range s = tt

-- parts that are in range and spelled are sound
pub parts_sound : (ps : List Part) (b : List ℕ) → All PartIsInRange ps → PartsSpell ps b → AreSound ps
parts_sound [] b range s = tt
parts_sound (part ∷ ps) b range s = (sound part s.front (All-head PartIsInRange part ps range) s.this, parts_sound ps s.back (All-tail PartIsInRange part ps range) s.that)

-- Parts that come of the symbols of a lawful header, and are spelled, are those of a frame with the header.
pub spelled_back : (l : Rules) (h : Header) (ps : List Part) (described : Types) (b : List ℕ) → IsLawful h → All PartIsInRange ps → PartsSpell ps b → Derives l ps (message h) described → IsFrame l h ps
spelled_back l h ps described b lawful range s d = frame_back l h ps described lawful.plain lawful.direction (parts_sound ps b range s) d

-- ---- the frame

-- what spells parts spells the first of them, and the others
pub parts_split : (ps qs : List Part) (b : List ℕ) → PartsSpell (ps ++ qs) b → Joined (PartsSpell ps) (PartsSpell qs) b
parts_split [] qs b s = record { front = []; back = b; whole = refl; this = refl; that = s }
parts_split (part ∷ ps) qs b s =
    let r = parts_split ps qs s.back s.that in
    record {
      front = s.front ++ r.front;
      back = r.back;
      whole = s.whole ∙ ap (λ t. s.front ++ t) r.whole ∙ sym (append_assoc s.front r.front r.back);
      this = record { front = s.front; back = r.front; whole = refl; this = s.this; that = r.this };
      that = r.that;
    }

in_line : (a b c d : List ℕ) → a ++ ((b ++ c) ++ d) ≡ ((a ++ b) ++ c) ++ d
in_line a b c d = simp append_assoc

module _ (l : Rules) (h : Header) (ps : List Part) (f : IsFrame l h ps) where
  -- The bytes of the header, of the parts and more spell the frame.
  pub frame_spelled : (b extra : List ℕ) (x : ℕ) → IsLawful h → PartsSpell ps b → h.length ≡ length (b ++ extra) → length extra ≡ x → FrameSpells f.frame x (header_bytes h ++ (b ++ extra))
  frame_spelled b extra x lawful s long more =
      let r = parts_split (announced_parts f.frame) (message_parts f.frame.message) b (rw (sym f.parts) at s) in
      let all : b ++ extra ≡ (r.front ++ r.back) ++ extra = ap (λ t. t ++ extra) r.whole in
      let header : header_of f.frame (length ((r.front ++ r.back) ++ extra)) ≡ h = ap (λ n. header_of f.frame n) (ap length (sym all) ∙ sym long) ∙ f.header in
      record {
        announced = r.front;
        body = r.back;
        extra = extra;
        agrees = f.agrees;
        cells = f.cells;
        parts = r.this;
        message = r.that;
        more = more;
        lawful = rw header lawful;
        whole = ap (λ t. header_bytes h ++ t) all ∙ in_line (header_bytes h) r.front r.back extra ∙ ap (λ g. ((header_bytes g ++ r.front) ++ r.back) ++ extra) (sym header);
      }

  -- A frame of such a header and such parts is in range.
  pub frame_in_range : All PartIsInRange ps → h.flags < 2 ^ 8 → FitsSigned w16 h.stream → FrameIsInRange f.frame
  frame_in_range range flags stream = record { flags = rw (ap (λ g. g.flags) f.header) flags; stream = rw (ap (λ g. g.stream) f.header) stream; parts = rw f.parts range }

  -- A frame of parts within the limits is within them.
  pub frame_within : PartsWithin l ps → l.types ≡ true → IsWithin l f.frame
  frame_within within typed = record { parts = rw f.parts within; types = f.types; typed = typed }

  -- The events of the header, of the parts and of x bytes more are the frame's.
  pub frame_events : (at q x : ℕ) (middle : List (ℕ × Event)) → h.length ≡ parts_size ps + x → q ≡ (at + 9) + h.length → middle ≡ parts_events l (at + 9) ps → (at, Frame h) ∷ middle ++ (q, End x) ∷ [] ≡ Flat l at f.frame x
  frame_events at q x middle long ends events =
      let n : h.length ≡ parts_size (frame_parts f.frame) + x = long ∙ ap (λ t. parts_size t + x) (sym f.parts) in
      let header : h ≡ header_of f.frame (parts_size (frame_parts f.frame) + x) = sym f.header ∙ ap (λ k. header_of f.frame k) n in
      let end : q ≡ at + frame_size f.frame x = omega (arith, n, ends) in
      let inner : middle ≡ parts_events l (at + 9) (frame_parts f.frame) = events ∙ ap (parts_events l (at + 9)) (sym f.parts) in
      λ i. (at, Frame (header i)) ∷ inner i ++ (end i, End x) ∷ []
