-- A page whose cells all came.
use Rattle.std.proofs.Common.{◌≡◌, ℕ, ◌+◌, ◌*◌, ◌≤◌, ◌==◌, true, false, List, [], ◌∷◌, ◌++◌, length, map, None, refl, sym, ap, ◌∙◌, arith, inl}
use Rattle.std.specs.List.{list_all}
use Rattle.std.proofs.lemmas.Bool.{eqb-true}
use Rattle.std.proofs.lemmas.List.Elements.{All-nil}
use Rattle.std.proofs.lemmas.List.Folds.{list_all-append}
use Rattle.cqlp_value.specs.Values.{AreInRange}
use Rattle.cqlp_note.specs.Limits.{Rules}
use Rattle.cqlp_grammar.specs.Events.{Event, Frame, End}
use Rattle.cqlp_kind.specs.Types.{how_many}
use Rattle.cqlp_message.specs.FrameValues.{FrameValue}
use Rattle.cqlp_message.specs.Frames.{Flat, frame_parts, header_of}
use Rattle.cqlp_message.specs.Owned.{frame_of}
use Rattle.cqlp_message.specs.Pages.{AreItsCells, cells_wanted, page_head, page_unfit_of, types_of_page, with_cells}
use Rattle.cqlp_message.specs.Parts.{cell_fits, parts_size}
use Rattle.cqlp_message.proofs.PageCells.{rows_size}
use Rattle.cqlp_message.proofs.PageWalks.{rows_cut}
use Rattle.cqlp_message.proofs.PageFrames.{cell_parts, columns_described, front_parts, is_page, no_cells_fit, page_rows, page_written, parts_bare, parts_with, wanted_is}
use Rattle.cqlp_build.specs.Emitted.{emitted}
use Rattle.cqlp_build.proofs.FrameViews.{body_events, frame_said}
use Rattle.cqlp_build.proofs.Steps.{emitted_append}
use Rattle.cqlp_compose.specs.declared.place.PageProgress.{PageProgress}
use Rattle.cqlp_compose.specs.Places.{first_place, is_done}
use Rattle.cqlp_compose.specs.PageLaws.{IsPageOf, PageHasItsEvents, all_bytes, all_events, own_header}
use Rattle.cqlp_compose.specs.Measures.{events_size}
use Rattle.cqlp_compose.proofs.Pieces.{pieces_conform}
use Rattle.cqlp_compose.proofs.Sizes.{both, rows_sizes}
use Rattle.cqlp_compose.proofs.Steps.{Conforms}

-- limits without parts
abbrev whole_limits : Rules
whole_limits = record { text = 0; cell = 0; entries = 0; depth = 0; part = 0; types = true; parts = false; lenient = false }

module _ (f : FrameValue) (n : ℕ) (begins : page_unfit_of f n ≡ None) where
  no_cells : cell_parts f.message [] ≡ []
  no_cells = rows_cut 0 (types_of_page f.message) (page_rows f.message)

  pub first : Conforms f n [] [] (first_place n)
  first = record {
    cells = [];
    count = refl;
    few = omega arith;
    events = ap emitted no_cells;
    fit = no_cells_fit f n begins;
    size = omega arith;
    are = refl;
    range = All-nil AreInRange;
  }

  module _ (es : List Event) (bytes : List ℕ) (p : PageProgress) (s : Conforms f n es bytes p) (done : is_done f p ≡ true) where
    ends : (p.cells ≡ cells_wanted f.message) × (p.free ≡ 0)
    ends =
        let b = both (p.cells == cells_wanted f.message) (p.free == 0) done in
        (eqb-true p.cells (cells_wanted f.message) b.0, eqb-true p.free 0 b.1)

    its_cells : AreItsCells f n s.cells
    its_cells = record { number = sym s.count ∙ ends.0; fit = s.fit; size = omega (arith, s.size, ends.1) }

    abbrev g : FrameValue
    g = with_cells f s.cells

    events_of : emitted (frame_parts g) ≡ emitted (frame_parts f) ++ es
    events_of =
        ap emitted (parts_with f s.cells) ∙ emitted_append (front_parts f) (cell_parts f.message s.cells)
        ∙ (λ i. emitted (sym (parts_bare f (is_page f n begins).bare) i) ++ s.events i)

    own : map (λ e. e.1) (Flat whole_limits 0 g 0) ≡ own_header g ∷ (emitted (frame_parts f) ++ es) ++ End 0 ∷ []
    own =
        let none : parts_size (frame_parts g) + 0 ≡ parts_size (frame_parts g) = omega arith in
        frame_said whole_limits 0 g 0
        ∙ (λ i. Frame (header_of g (none i)) ∷ (body_events whole_limits 0 g (inl refl) ∙ events_of) i ++ End 0 ∷ [])

    fits : list_all cell_fits (cell_parts f.message s.cells) ≡ true
    fits =
        (both (list_all cell_fits (front_parts f)) (list_all cell_fits (cell_parts f.message s.cells))
        (sym (list_all-append cell_fits (front_parts f) (cell_parts f.message s.cells)) ∙ ap (list_all cell_fits) (sym (parts_with f s.cells)) ∙ s.fit)).1

    few : length s.cells ≤ page_rows f.message * how_many (types_of_page f.message)
    few =
        let e : cells_wanted f.message ≡ page_rows f.message * how_many (types_of_page f.message) = wanted_is f.message ∙ ap (λ (k : ℕ). page_rows f.message * k) (sym (columns_described f (is_page f n begins).agrees)) in
        omega (arith, e, s.few)

    sizes : events_size es ≡ n
    sizes =
        ap events_size (sym s.events) ∙ rows_sizes 0 (types_of_page f.message) (page_rows f.message) s.cells fits
        ∙ rows_size 0 (types_of_page f.message) (page_rows f.message) s.cells few ∙ its_cells.size

    pub whole : IsPageOf f n es (page_head f n ++ bytes)
    whole =
        let law = page_written f n s.cells begins its_cells in
        record {
          cells = s.cells;
          are = record { rules = whole_limits; at = 0; are = own };
          spelled = law.0;
          written = ap (λ (b : List ℕ). page_head f n ++ b) (sym s.are) ∙ law.1;
          size = sizes;
          range = s.range;
        }

pub has_its_events : PageHasItsEvents
has_its_events f n pieces end begins are done =
    whole (frame_of f) n begins (all_events pieces) (all_bytes pieces) end
    (pieces_conform f n begins pieces [] [] (first_place n) end (first (frame_of f) n begins) are) done
