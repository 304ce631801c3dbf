-- The end of a stream.
use Rattle.std.proofs.Common.{◌≡◌, ℕ, Bool, true, false, ◌+◌, ◌<◌, List, length, refl, sym, ap, ◌∙◌, arith}
use Rattle.std.specs.Prelude.{Option, Some, None, if◌then◌else◌}
use Rattle.cqlp_note.specs.declared.refusal.Refusal.{Refusal}
use Rattle.cqlp_grammar.specs.declared.event.Finish.TheVariants as finish
use Rattle.std.proofs.lemmas.List.{length-take-le}
use Rattle.cqlp_decode.specs.declared.progress.StreamStage.{StreamStage}
use Rattle.cqlp_decode.specs.declared.progress.StreamStage.TheVariants as stage
use Rattle.cqlp_decode.specs.declared.progress.StreamProgress.{StreamProgress}
use Rattle.cqlp_decode.specs.Reading.{Event, Gifts}
use Rattle.cqlp_decode.specs.Progress.{PartsState, nodes_of, state_of, rest_of, ends_due, IsBounded, IsPlaced, IsPending}
use Rattle.cqlp_decode.proofs.Columns.{cells_due, page_due}
use Rattle.cqlp_decode.specs.Streams.{AfterBy, Conforms, FinishesBy, is_open, frame_of}

closed : (b : Bool) → ◌≡◌ {A = ℕ} 0 (if b then 1 else 0) → b ≡ false
closed true e = absurd (omega arith)
closed false e = refl

opened : (b : Bool) → ◌≡◌ {A = ℕ} 1 (if b then 1 else 0) → b ≡ false → ⊥
opened true e shut = cc
opened false e shut = omega arith

module _ (s : StreamProgress) (q : PartsState) (gifts : Gifts) (bytes : List ℕ) (es : List (ℕ × Event)) (st : Conforms gifts (state_of s q) bytes es) where
  -- between two frames
  pub whole_is : s.stage ≡ stage.Header → s.came ≡ 0 → s.frame ≡ s.offset → (s.offset ≡ length bytes) × (is_open es ≡ false) × (length bytes ≡ frame_of es)
  whole_is here none start =
      let empty : length st.bytes ≡ 0 = ap length (rw (here, none) at st.pending) in
      let count : length bytes ≡ s.offset + length st.bytes = rw here at st.count in
      (omega arith, closed (is_open es) (rw here at st.due), omega (arith, st.frame))

  -- within a frame
  pub cut_is : (t : StreamStage) → s.stage ≡ t → IsPlaced s q t → IsBounded s → (s.stage ≡ stage.Header → s.came ≡ 0 → ⊥) → is_open es ≡ false → frame_of es < length bytes
  cut_is stage.Header here h bounded some shut =
      let came : length st.bytes ≡ s.came = ap length (rw here at st.pending) ∙ length-take-le s.came s.header (omega (arith, h.0, bounded.long)) in
      let count : length bytes ≡ s.offset + length st.bytes = rw here at st.count in
      omega (arith, count, st.frame, h.1, λ (z : s.came ≡ 0). some here z)
  cut_is (stage.Field w) here h bounded some shut = absurd (opened (is_open es) (rw here at st.due) shut)
  cut_is stage.BeforeType here h bounded some shut = absurd (opened (is_open es) (rw here at st.due) shut)
  cut_is stage.InType here h bounded some shut = absurd (opened (is_open es) (rw here at st.due) shut)
  cut_is (stage.BeforeCell p) here h bounded some shut =
      let one : ends_due (state_of s q).place.symbols ≡ 1 = rw here (cells_due (nodes_of q p.columns) s.limits.depth p (rest_of s.upcoming) h.0) in
      absurd (opened (is_open es) (sym one ∙ st.due) shut)
  cut_is (stage.InCell p) here h bounded some shut =
      let one : ends_due (state_of s q).place.symbols ≡ 1 = rw here (page_due (nodes_of q p.columns) s.limits.depth q.cells p (rest_of s.upcoming) h.page.0) in
      absurd (opened (is_open es) (sym one ∙ st.due) shut)
  cut_is stage.Extra here h bounded some shut = absurd (opened (is_open es) (rw here at st.due) shut)

module _ (s : StreamProgress) (q : PartsState) (gifts : Gifts) (bytes : List ℕ) (es : List (ℕ × Event)) where
  pub finishes_whole : (o : Option Refusal) → o ≡ None → s.stage ≡ stage.Header → s.came ≡ 0 → s.frame ≡ s.offset → AfterBy o gifts (state_of s q) bytes es → FinishesBy o bytes es (finish.Whole s.offset)
  finishes_whole (Some r) none here came start after = absurd cc
  finishes_whole None none here came start after = whole_is s q gifts bytes es after here came start

  pub finishes_cut : (o : Option Refusal) → o ≡ None → (used : ℕ) → ((b : List ℕ) → IsPending (state_of s q).pending b → used ≡ (state_of s q).place.offset + length b) → IsPlaced s q s.stage → IsBounded s → (s.stage ≡ stage.Header → s.came ≡ 0 → ⊥)
      → AfterBy o gifts (state_of s q) bytes es → FinishesBy o bytes es (finish.Cut s.frame used)
  finishes_cut (Some r) none used is h bounded some after = absurd cc
  finishes_cut None none used is h bounded some after =
      (is after.bytes after.pending ∙ sym after.count, after.frame, λ shut. cut_is s q gifts bytes es after s.stage refl h bounded some shut)
