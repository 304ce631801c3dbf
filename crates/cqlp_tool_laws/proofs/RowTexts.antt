-- What is written of frames is the text of the values in them.
use Rattle.std.proofs.Common.{◌≡◌, ℕ, suc, zero, ◌+◌, ◌<◌, ◌≤◌, Bool, true, false, if◌then◌else◌, nat_le, List, [], ◌∷◌, ◌++◌, length, get_or, Ok, Err, Result, refl, ap, ◌∙◌, arith, ◌^◌, None, subst, append_assoc, sym, append-nil}
use Rattle.std.proofs.lemmas.Bool.Decides.{nat_tests}
use Rattle.std.specs.Prelude.{nat_lt}
use Rattle.std.proofs.lemmas.List.{length-append}
use Rattle.cqlp_note.specs.declared.limits.Limits.{Limits}
use Rattle.cqlp_note.specs.declared.limits.LimitRange.{LimitRange}
use Rattle.cqlp_note.specs.declared.limits.TheConstants.Limits.{TEXT, CELL, ENTRIES, DEPTH}
use Rattle.cqlp_note.specs.declared.limits.BadLimits.{BadLimits}
use Rattle.cqlp_note.specs.declared.limits.BadLimits.TheVariants as bad
use Rattle.cqlp_note.specs.Limits.{Rules, first_bad, is_in, rules_of, with_lenient}
use Rattle.cqlp_note.specs.declared.refusal.Reason.TheVariants.{StreamTooLong}
use Rattle.cqlp_kind.specs.Types.{NoMore, Type_and}
use Rattle.cqlp_value.proofs.ScalarsWritten.{both_true}
use Rattle.cqlp_grammar.specs.declared.event.Finish.{Finish}
use Rattle.cqlp_grammar.specs.declared.event.Finish.TheVariants as finish
use Rattle.cqlp_grammar.specs.Events.{Event, Frame, End}
use Rattle.cqlp_message.specs.FrameValues.{Message, Rows, FrameValue}
use Rattle.cqlp_message.specs.Frames.{AllSpell, FlatAll, frame_size, Flat, frame_parts, header_of}
use Rattle.cqlp_message.specs.Parts.{parts_size, parts_events, Cell_is, part_events}
use Rattle.cqlp_message.proofs.Sizes.{frame_long}
use Rattle.cqlp_decode.specs.Reading.{Verdict, Refused, Waits, Says, start}
use Rattle.cqlp_decode.specs.Progress.{frame_after}
use Rattle.cqlp_decode.specs.Streams.{FinishesBy, frame_from, open_after, open_from}
use Rattle.cqlp_laws.specs.Frames.{AllWithin, verdict_between, AllBeginInTime}
use Rattle.cqlp_laws.proofs.FramesRead.{spelled_is_read, spelled_with_gifts}
use Rattle.cqlp_text.specs.Outputs.{with_text}
use Rattle.cqlp_text.specs.PageText.{no_page, page_text}
use Rattle.cqlp_text.specs.declared.ending.Ending.TheVariants as ending
use Rattle.cqlp_text.specs.Endings.{ending_line, finish_status}
use Rattle.cqlp_render.specs.declared.text_form.TextForm.TheVariants as forms
use Rattle.cqlp_tool_laws.specs.ValueText.{message_text}
use Rattle.cqlp_tool_laws.specs.Rows.{NestsWithin, FrameIsItsValues, FramesAreTheirValues, NestingIsLimited, ValuesAreRendered, ValuesAreShown, in_column, CellIsItsValue}
use Rattle.cqlp_tool_laws.proofs.OneAnswer.{rendered_whole, shown_rightly}
use Rattle.cqlp_tool_laws.proofs.Shapes.{fit_ready, spelled_ready, fit_are}
use Rattle.cqlp_tool_laws.proofs.Nesting.{frame_nests}
use Rattle.cqlp_tool_laws.proofs.PageTexts.{frame_then, frame_text, one_text, writes_cell}

-- ---- limits

all_in : (a b c d : Bool) → ◌≡◌ {A = Result Unit BadLimits} (if a then (if b then (if c then (if d then Ok tt else Err bad.Depth) else Err bad.Entries) else Err bad.Cell) else Err bad.Text) (Ok tt) → (b ≡ true) × (d ≡ true)
all_in true true true true e = (refl, refl)
all_in true true true false e = cc
all_in true true false d e = cc
all_in true false c d e = cc
all_in false b c d e = cc

at_least : (range : LimitRange) (n : ℕ) → is_in range n ≡ true → range.least ≤ n
at_least range n e = let both = both_true (nat_le range.least n) (nat_le n range.greatest) e in let le : nat_le range.least n ≡ true = both.0 in grind (arith, nat_tests)

at_most : (range : LimitRange) (n : ℕ) → is_in range n ≡ true → n ≤ range.greatest
at_most range n e = let both = both_true (nat_le range.least n) (nat_le n range.greatest) e in let le : nat_le n range.greatest ≡ true = both.1 in grind (arith, nat_tests)

-- a part of a long content has any byte, and no type is deeper than 64
lawful : (limits : Limits) → first_bad limits ≡ Ok tt → (1 ≤ limits.cell) × (limits.depth ≤ 64)
lawful limits e =
    let both = all_in (is_in TEXT limits.text) (is_in CELL limits.cell) (is_in ENTRIES limits.entries) (is_in DEPTH limits.depth) e in
    let some : 32 ≤ limits.cell = at_least CELL limits.cell both.0 in
    (omega arith, at_most DEPTH limits.depth both.1)

pub nesting_is_limited : NestingIsLimited
nesting_is_limited limits f e fits within = (frame_nests (rules_of limits) f (fit_ready f fits) within.parts, (lawful limits e).1)

nests_more : (depth most : ℕ) (m : Message) → depth ≤ most → NestsWithin depth m → NestsWithin most m
nests_more depth most (Rows p) le nests = λ k d lt. let one = nests k d lt in omega arith
nests_more depth most m le nests = tt

-- frames within limits that allow no type deeper than 64
frames_nest : (l : Rules) (fs : List (FrameValue × ℕ)) (bytes : List ℕ) → l.depth ≤ 64 → AllSpell fs bytes → AllWithin l fs → (k : ℕ) (d : FrameValue × ℕ) → k < length fs → NestsWithin 64 (get_or fs k d).0.message
frames_nest l [] bytes deep spelled within k d lt = absurd (omega arith)
frames_nest l (f ∷ fs) bytes deep spelled within zero d lt =
    nests_more l.depth 64 f.0.message deep (frame_nests l f.0 (spelled_ready f.0 f.1 spelled.front spelled.this) within.0.parts)
frames_nest l (f ∷ fs) bytes deep spelled within (suc k) d lt = frames_nest l fs spelled.back deep spelled.that within.2 k d (omega arith)

-- ---- the text of events

pub cell_is_its_value : CellIsItsValue
cell_is_its_value l at columns last row column k inner v more some fits nests =
    let are = fit_are (Type_and k inner NoMore) v fits in
    let one = one_text l some k inner v are in (
      one.0,
      one.1,
      ap (λ es. page_text (in_column columns last) (es ++ more)) (sym (append-nil (part_events l at (Cell_is row column k inner v))))
          ∙ (writes_cell l some columns last row column k inner v one.0 are nests one.1).text at more,
    )

pub frame_is_its_values : FrameIsItsValues
frame_is_its_values l at x f some fits nests = frame_text l some at x f (fit_ready f fits) nests

pub frames_are_their_values : FramesAreTheirValues
frames_are_their_values l at [] bytes some spelled nests = refl
frames_are_their_values l at (f ∷ fs) bytes some spelled nests =
    frame_then l some at f.1 f.0 (FlatAll l (at + frame_size f.0 f.1) fs) (spelled_ready f.0 f.1 spelled.front spelled.this) (nests 0 f (omega arith))
    ∙ ap (λ t. message_text f.0.message ++ t) (frames_are_their_values l (at + frame_size f.0 f.1) fs spelled.back some spelled.that (λ k d lt. nests (suc k) d (omega arith)))

-- ---- what is written

pub values_are_rendered : ValuesAreRendered
values_are_rendered gifts turns f old new xs left before after s es fs a free rules some deep whole spelled within early none ran =
    let said = spelled_with_gifts old.rules gifts s xs es fs whole spelled within early none in
    let right = rendered_whole gifts (forms.Pages no_page) turns f old new xs left before after s es (FlatAll old.rules (length s) fs) (verdict_between (length (s ++ xs))) a free rules said ran in
    right.0 ∙ ap (with_text before) (frames_are_their_values old.rules (length s) fs xs some spelled (frames_nest old.rules fs xs deep spelled within))

-- ---- the end of the stream

-- the end of a frame leaves none open, and the next begins there
shut : (b : Bool) (es : List (ℕ × Event)) (at x : ℕ) (more : List (ℕ × Event)) → open_from b (es ++ ((at, End x) ∷ more)) ≡ open_from false more
shut b [] at x more = refl
shut b (e ∷ es) at x more = shut (open_after e.1) es at x more

next_frame : (frame : ℕ) (es : List (ℕ × Event)) (at x : ℕ) (more : List (ℕ × Event)) → frame_from frame (es ++ ((at, End x) ∷ more)) ≡ frame_from at more
next_frame frame [] at x more = refl
next_frame frame (e ∷ es) at x more = next_frame (frame_after frame e.0 e.1) es at x more

module _ (l : Rules) where
  frame_events : (at x : ℕ) (f : FrameValue) (more : List (ℕ × Event)) → Flat l at f x ++ more ≡ ((at, Frame (header_of f (parts_size (frame_parts f) + x))) ∷ parts_events l (at + 9) (frame_parts f)) ++ ((at + frame_size f x, End x) ∷ more)
  frame_events at x f more = append_assoc ((at, Frame (header_of f (parts_size (frame_parts f) + x))) ∷ parts_events l (at + 9) (frame_parts f)) ((at + frame_size f x, End x) ∷ []) more

  all_shut : (at : ℕ) (fs : List (FrameValue × ℕ)) → open_from false (FlatAll l at fs) ≡ false
  all_shut at [] = refl
  all_shut at (f ∷ fs) =
      let behind = FlatAll l (at + frame_size f.0 f.1) fs in
      ap (open_from false) (frame_events at f.1 f.0 behind)
      ∙ shut false ((at, Frame (header_of f.0 (parts_size (frame_parts f.0) + f.1))) ∷ parts_events l (at + 9) (frame_parts f.0)) (at + frame_size f.0 f.1) f.1 behind
      ∙ all_shut (at + frame_size f.0 f.1) fs

  last_frame : (at : ℕ) (fs : List (FrameValue × ℕ)) (bytes : List ℕ) → AllSpell fs bytes → frame_from at (FlatAll l at fs) ≡ at + length bytes
  last_frame at [] bytes spelled = let none = ap length spelled in omega arith
  last_frame at (f ∷ fs) bytes spelled =
      let behind = FlatAll l (at + frame_size f.0 f.1) fs in
      let size = frame_long f.0 f.1 spelled.front spelled.this in
      let all = ap length spelled.whole ∙ length-append spelled.front spelled.back in
      let total : at + frame_size f.0 f.1 + length spelled.back ≡ at + length bytes = omega (arith, size, all) in
      ap (frame_from at) (frame_events at f.1 f.0 behind)
      ∙ next_frame at ((at, Frame (header_of f.0 (parts_size (frame_parts f.0) + f.1))) ∷ parts_events l (at + 9) (frame_parts f.0)) (at + frame_size f.0 f.1) f.1 behind
      ∙ last_frame (at + frame_size f.0 f.1) fs spelled.back spelled.that
      ∙ total

  ends_whole : (fs : List (FrameValue × ℕ)) (bytes : List ℕ) (f : Finish) → AllSpell fs bytes → FinishesBy None bytes (FlatAll l 0 fs) f → f ≡ finish.Whole (length bytes)
  ends_whole fs bytes (finish.Whole n) spelled ends = ap (λ k. finish.Whole k) ends.0
  ends_whole fs bytes (finish.Cut at n) spelled ends =
      let left = ends.2 (all_shut 0 fs) in
      let none = last_frame 0 fs bytes spelled in
      absurd (omega (arith, left, none))
  ends_whole fs bytes (finish.Refused r) spelled ends = absurd ends

  -- frames that end by an offset begin by it
  begin_in_time : (at : ℕ) (fs : List (FrameValue × ℕ)) (bytes : List ℕ) → AllSpell fs bytes → at + length bytes ≤ 2 ^ 63 → AllBeginInTime at fs
  begin_in_time at [] bytes spelled early = tt
  begin_in_time at (f ∷ fs) bytes spelled early =
      let size = frame_long f.0 f.1 spelled.front spelled.this in
      let all = ap length spelled.whole ∙ length-append spelled.front spelled.back in
      (omega arith, begin_in_time (at + frame_size f.0 f.1) fs spelled.back spelled.that (omega (arith, size, all)))

waits : (n : ℕ) → n ≤ 2 ^ 63 → verdict_between n ≡ Waits
waits n early = let within : nat_lt (2 ^ 63) n ≡ false = grind (arith, nat_tests) in ap (λ (b : Bool). if b then Refused n StreamTooLong else Waits) within

pub values_are_shown : ValuesAreShown
values_are_shown limits lenient turns xs before status after fs e spelled within early granted shows =
    let l = with_lenient lenient (rules_of limits) in
    let ranges = lawful limits e in
    let said = spelled_is_read l fs xs spelled within (begin_in_time l 0 fs xs spelled (omega arith)) in
    let right = shown_rightly (forms.Pages no_page) l turns xs before status after (FlatAll l 0 fs) Waits (subst (λ (v : Verdict). Says l start xs (FlatAll l 0 fs) v) (waits (length xs) early) said) granted shows in
    let whole = ends_whole l fs xs right.0 spelled right.1 in
    (right.2 ∙ ap finish_status whole, right.3 ∙ ap (with_text before.out) (frames_are_their_values l 0 fs xs ranges.0 spelled (frames_nest l fs xs ranges.1 spelled within)), right.4 ∙ ap (λ (f : Finish). with_text before.err (ending_line (ending.Finished f))) whole)
