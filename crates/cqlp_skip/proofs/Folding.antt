-- Events one after the other, emitted at their offsets in the whole stream.
use Rattle.std.proofs.Common.{◌≡◌, ℕ, List, [], ◌∷◌, ◌++◌, refl, ap, ◌∙◌, subst}
use Rattle.std.specs.Prelude.{Option}
use Rattle.cqlp_decode.specs.Reading.{Event}
use Rattle.cqlp_decode.specs.Draining.{fold_events}
use Rattle.cqlp_decode.specs.Cells.{Item, GetsAll}
use Rattle.cqlp_decode.specs.Draining.{Passes}
use Rattle.cqlp_skip.specs.declared.frame.OpenFrame.{OpenFrame}
use Rattle.cqlp_skip.specs.declared.shifting.Shifting.{Shifting}
use Rattle.cqlp_skip.specs.Stretches.{frame_after, frame_from, emitted, stream_offset}
use Rattle.cqlp_skip.specs.Shifted.{shifted, with_event}

pub frame-append : (frame : Option OpenFrame) (es fs : List (ℕ × Event)) → frame_from frame (es ++ fs) ≡ frame_from (frame_from frame es) fs
frame-append frame [] fs = refl
frame-append frame (e ∷ es) fs = frame-append (frame_after frame e.0 e.1) es fs

pub emitted-append : (base : ℕ) (es fs : List (ℕ × Event)) → emitted base (es ++ fs) ≡ emitted base es ++ emitted base fs
emitted-append base [] fs = refl
emitted-append base (e ∷ es) fs = ap (λ (z : List (ℕ × Event)). (stream_offset base e.0, e.1) ∷ z) (emitted-append base es fs)

-- what a sink behind shifted offsets sees
pub fold_shifted : {V : Type 0} (f : V → ℕ → Event → V) (v : V) (base : ℕ) (frame : Option OpenFrame) (es : List (ℕ × Event)) → fold_events (with_event f) (shifted v base frame) es ≡ shifted (fold_events f v (emitted base es)) base (frame_from frame es)
fold_shifted f v base frame [] = refl
fold_shifted f v base frame (e ∷ es) = fold_shifted f (f v (stream_offset base e.0) e.1) base (frame_after frame e.0 e.1) es

-- ---- from one sink to another

module _ {S : Type 0} (also : S → ℕ → Event → S → Type 0) where
  -- what a sink promises, behind shifted offsets
  abbrev pub AlsoShifted : Shifting S → ℕ → Event → Shifting S → Type 0
  AlsoShifted old at e new = also old.sink (stream_offset old.base at) e new.sink × (new.base ≡ old.base)

  moved : (base : ℕ) → List Item → List Item
  moved base [] = []
  moved base (x ∷ xs) = record { at = stream_offset base x.at; used = x.used; event = x.event } ∷ moved base xs

  gets_moved : (base : ℕ) (a b : Shifting S) (xs : List Item) → a.base ≡ base → GetsAll AlsoShifted a xs b → GetsAll also a.sink (moved base xs) b.sink
  unfolding moved
  gets_moved base a b [] is g = ap (λ (z : Shifting S). z.sink) g
  gets_moved base a b (x ∷ xs) is g = (g.0.sink, subst (λ (n : ℕ). also a.sink (stream_offset n x.at) x.event g.0.sink) is g.1.0, gets_moved base g.0 b xs (g.1.1 ∙ is) g.2)

  pub passes_moved : (a b : Shifting S) → Passes AlsoShifted a b → Passes also a.sink b.sink
  passes_moved a b p = (moved a.base p.0, gets_moved a.base a b p.0 refl p.1)
