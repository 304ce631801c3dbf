-- A frame that fits is spelled by the bytes that are written of it, and a frame that bytes spell fits.
use Rattle.std.proofs.Common.{◌≡◌, ℕ, ◌<◌, ◌≤◌, ◌^◌, ◌&&◌, ◌||◌, Bool, true, false, cond, ltb, List, [], ◌∷◌, ◌++◌, length, append_assoc, Option, Some, None, refl, sym, ap, ◌∙◌, arith}
use Rattle.std.specs.Prelude.{not, is_some}
use Rattle.std.specs.List.{list_all}
use Rattle.std.proofs.lemmas.Bool.{ltb-false, le-ltb}
use Rattle.std.proofs.lemmas.List.{append-nil, length-append}
use Rattle.cqlp_note.specs.Heading.{has, header_bytes}
use Rattle.cqlp_note.specs.declared.header.TheConstants.Header.{LONGEST_BODY}
use Rattle.cqlp_note.proofs.Small.{Small, small_front, small_back, each_byte}
use Rattle.cqlp_message.specs.declared.unfit.Unfit.{Unfit}
use Rattle.cqlp_message.specs.declared.unfit.Unfit.TheVariants as unfit
use Rattle.cqlp_message.specs.FrameValues.{FrameValue}
use Rattle.cqlp_message.specs.Parts.{Part, Joined, PartsSpell, parts_size, parts_bytes, counts_fit, texts_fit, cell_fits}
use Rattle.cqlp_message.specs.Bodies.{message_parts}
use Rattle.cqlp_message.specs.Frames.{FrameSpells, announced_parts, frame_parts, header_of, frame_bytes, unfit_of, FrameIsInRange}
use Rattle.cqlp_message.specs.Agreement.{there_if, is_response, is_directed, frame_agrees, message_agrees, has_its_cells}
use Rattle.cqlp_message.specs.Fitting.{WhatFitsIsSpelled, WhatIsSpelledFits}
use Rattle.cqlp_type.proofs.WrittenTrees.{both, and_of}
use Rattle.cqlp_message.proofs.PartsWritten.{parts_written, parts_fit}
use Rattle.cqlp_message.proofs.Formed.{frame_formed}
use Rattle.cqlp_message.proofs.Sizes.{parts_long, frame_spelled, frame_long}

-- ---- tests

pub not_false : (b : Bool) → not b ≡ false → b ≡ true
not_false true e = refl
not_false false e = absurd cc

pub none_left : (t : Bool) (u : Unfit) (rest : Option Unfit) → cond t (Some u) rest ≡ None → (t ≡ false) × (rest ≡ None)
none_left true u rest e = absurd cc
none_left false u rest e = (refl, e)

none_right : (t : Bool) (u : Unfit) (rest : Option Unfit) → t ≡ false → rest ≡ None → cond t (Some u) rest ≡ None
none_right t u rest e f = rw e f

-- what nothing keeps from being spelled
pub record IsFit (f : FrameValue) : Type 0 where
  pub directed : is_directed f ≡ true
  pub agrees : frame_agrees f ≡ true
  pub counts : list_all counts_fit (frame_parts f) ≡ true
  pub texts : list_all texts_fit (frame_parts f) ≡ true
  pub shape : has_its_cells f.message ≡ true
  pub cells : list_all cell_fits (frame_parts f) ≡ true
  pub short : parts_size (frame_parts f) ≤ LONGEST_BODY

pub is_fit : (f : FrameValue) → unfit_of f ≡ None → IsFit f
is_fit f e =
    let a = none_left (not (is_directed f)) unfit.Direction _ e in
    let b = none_left (not (frame_agrees f)) unfit.Parts _ a.1 in
    let c = none_left (not (list_all counts_fit (frame_parts f))) unfit.TooManyItems _ b.1 in
    let d = none_left (not (list_all texts_fit (frame_parts f))) unfit.TextTooLong _ c.1 in
    let g = none_left (not (has_its_cells f.message)) unfit.RowShape _ d.1 in
    let h = none_left (not (list_all cell_fits (frame_parts f))) unfit.CellType _ g.1 in
    let i = none_left (ltb LONGEST_BODY (parts_size (frame_parts f))) unfit.BodyTooLong _ h.1 in
    record {
      directed = not_false _ a.0;
      agrees = not_false _ b.0;
      counts = not_false _ c.0;
      texts = not_false _ d.0;
      shape = not_false _ g.0;
      cells = not_false _ h.0;
      short = ltb-false LONGEST_BODY (parts_size (frame_parts f)) i.0;
    }

pub fit_is : (f : FrameValue) → IsFit f → unfit_of f ≡ None
fit_is f t =
    none_right (not (is_directed f)) unfit.Direction _ (ap not t.directed)
    (none_right (not (frame_agrees f)) unfit.Parts _ (ap not t.agrees)
    (none_right (not (list_all counts_fit (frame_parts f))) unfit.TooManyItems _ (ap not t.counts)
    (none_right (not (list_all texts_fit (frame_parts f))) unfit.TextTooLong _ (ap not t.texts)
    (none_right (not (has_its_cells f.message)) unfit.RowShape _ (ap not t.shape)
    (none_right (not (list_all cell_fits (frame_parts f))) unfit.CellType _ (ap not t.cells)
    (none_right (ltb LONGEST_BODY (parts_size (frame_parts f))) unfit.BodyTooLong _ (le-ltb LONGEST_BODY (parts_size (frame_parts f)) t.short) refl))))))

-- ---- agreement

record Announced (f : FrameValue) : Type 0 where
  plain : has f.flags 0x01 ≡ false
  tracing : there_if (is_response f.message && has f.flags 0x02) f.tracing ≡ true
  warnings : there_if (is_response f.message && has f.flags 0x08) f.warnings ≡ true

not_true : (b : Bool) → not b ≡ true → b ≡ false
not_true true e = absurd cc
not_true false e = refl

announced_of : (f : FrameValue) → frame_agrees f ≡ true → Announced f
announced_of f e =
    let p = not (has f.flags 0x01) in
    let t = there_if (is_response f.message && has f.flags 0x02) f.tracing in
    let w = there_if (is_response f.message && has f.flags 0x08) f.warnings in
    let y = there_if (has f.flags 0x04) f.payload in
    let a = both (p && t && w && y) (message_agrees f.message) e in
    let b = both (p && t && w) y a.0 in
    let c = both (p && t) w b.0 in
    let d = both p t c.0 in
    record { plain = not_true (has f.flags 0x01) d.0; tracing = d.1; warnings = c.1 }

-- a frame that agrees is not compressed
pub plain : (f : FrameValue) → frame_agrees f ≡ true → has f.flags 0x01 ≡ false
plain f e = (announced_of f e).plain

directed : {A B : Type 0} (r m n : Bool) (t : Option A) (u : Option B) → there_if (r && m) t ≡ true → there_if (r && n) u ≡ true → (r || (not (is_some t) && not (is_some u))) ≡ true
directed true m n t u a b = refl
directed false m n t u a b = and_of (not (is_some t)) (not (is_some u)) a b

-- ---- what is written

-- what spells some parts and others spells the ones and then the others
parts_split : (ps qs : List Part) (b : List ℕ) → PartsSpell (ps ++ qs) b → Joined (PartsSpell ps) (PartsSpell qs) b
parts_split [] qs b s = record { front = []; back = b; whole = refl; this = refl; that = s }
parts_split (part ∷ ps) qs b s =
    let more = parts_split ps qs s.back s.that in
    record {
      front = s.front ++ more.front;
      back = more.back;
      whole = s.whole ∙ ap (λ (x : List ℕ). s.front ++ x) more.whole ∙ sym (append_assoc s.front more.front more.back);
      this = record { front = s.front; back = more.front; whole = refl; this = s.this; that = more.this };
      that = more.that;
    }

header_then : (f : FrameValue) (m n : ℕ) (a b c : List ℕ) → n ≡ m → c ≡ a ++ b → header_bytes (header_of f n) ++ c ≡ header_bytes (header_of f m) ++ a ++ b ++ []
header_then f m n a b c size is =
    let h : List ℕ = header_bytes (header_of f m) in
    (λ i. header_bytes (header_of f (size i)) ++ is i) ∙ sym (append_assoc h a b) ∙ sym (append-nil (h ++ a ++ b))

frame_spells : (f : FrameValue) → FrameIsInRange f → IsFit f → FrameSpells f 0 (frame_bytes f)
frame_spells f range t =
    let all : List ℕ = parts_bytes (frame_parts f) in
    let low : parts_size (frame_parts f) < 2 ^ 31 = omega (arith, t.short) in
    let spelled : PartsSpell (frame_parts f) all = parts_written (frame_parts f) (frame_formed f t.agrees) range.parts t.counts t.texts t.cells low in
    let s = parts_split (announced_parts f) (message_parts f.message) all spelled in
    let size : parts_size (frame_parts f) ≡ length (s.front ++ s.back ++ []) = sym (parts_long (frame_parts f) all spelled) ∙ ap length (s.whole ∙ sym (append-nil (s.front ++ s.back))) in
    record {
      announced = s.front;
      body = s.back;
      extra = [];
      agrees = t.agrees;
      cells = t.shape;
      parts = s.this;
      message = s.that;
      more = refl;
      lawful = record { plain = (announced_of f t.agrees).plain; direction = refl; bounded = omega (arith, t.short, size) };
      whole = header_then f (length (s.front ++ s.back ++ [])) (parts_size (frame_parts f)) s.front s.back all size s.whole;
    }

pub frame_written : WhatFitsIsSpelled
frame_written f range fits =
    let s = frame_spells f range (is_fit f fits) in
    (s, frame_long f 0 (frame_bytes f) s)

-- ---- what is spelled

pub frame_fits : WhatIsSpelledFits
frame_fits f x b s all stream =
    let h : List ℕ = header_bytes (header_of f (length (s.announced ++ s.body ++ s.extra))) in
    let inside : Small (h ++ s.announced ++ s.body) = small_front b (h ++ s.announced ++ s.body) s.extra s.whole all in
    let parts : Small (s.announced ++ s.body) = small_back (h ++ s.announced ++ s.body) h (s.announced ++ s.body) (append_assoc h s.announced s.body) inside in
    let head : Small h = small_front (h ++ s.announced ++ s.body) h (s.announced ++ s.body) (append_assoc h s.announced s.body) inside in
    let fit = parts_fit (frame_parts f) (s.announced ++ s.body) (frame_spelled f x b s) parts in
    let a = announced_of f s.agrees in
    let long : length (s.announced ++ s.body) ≡ parts_size (frame_parts f) = parts_long (frame_parts f) (s.announced ++ s.body) (frame_spelled f x b s) in (
      fit_is f (record {
        directed = directed (is_response f.message) (has f.flags 0x02) (has f.flags 0x08) f.tracing f.warnings a.tracing a.warnings;
        agrees = s.agrees;
        counts = fit.counts;
        texts = fit.texts;
        shape = s.cells;
        cells = fit.cells;
        short = omega (arith, s.lawful.bounded, length-append (s.announced ++ s.body) s.extra, long);
      }),
      record { flags = each_byte h head 1; stream = stream; parts = fit.range },
    )
