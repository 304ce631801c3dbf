-- Pages, as the values that are made of the description of their columns, of how many rows they have, and of their cells.
use Rattle.std.proofs.Common.{◌≡◌, ℕ, ◌*◌, ◌++◌, List, [], ◌∷◌, true, length, refl, sym, ap, subst, ◌∙◌, arith, inl}
use Rattle.std.specs.List.{list_all}
use Rattle.std.proofs.lemmas.List.{nil_from_length}
use Rattle.cqlp_note.specs.declared.field.Field.TheVariants as field
use Rattle.cqlp_note.specs.Field as note
use Rattle.cqlp_grammar.specs.Events.{Event, Holds}
use Rattle.cqlp_kind.specs.Types.{how_many}
use Rattle.cqlp_value.specs.Values.{Values}
use Rattle.cqlp_message.specs.Agreement.{metadata_agrees}
use Rattle.cqlp_message.specs.Bodies.{cell_types, count, metadata_parts, page_parts}
use Rattle.cqlp_message.specs.FrameValues.{Metadata, Page}
use Rattle.cqlp_message.specs.Parts.{cell_fits}
use Rattle.cqlp_message.proofs.PageWalks.{rows_cut}
use Rattle.cqlp_build.specs.declared.held.FrameEvents.{FrameEvents}
use Rattle.cqlp_build.specs.FrameEvents.{Builds, any, left}
use Rattle.cqlp_build.specs.Productions.{AreCells, IsPage, cells_parts}
use Rattle.cqlp_build.specs.Emitted.{emitted}
use Rattle.cqlp_build.specs.Types.{is_built_metadata}
use Rattle.cqlp_build.proofs.MetadataParts.{IsMetadata}
use Rattle.cqlp_build.proofs.Rows.{BuildsRows}
use Rattle.cqlp_build.proofs.Several.{both, join}
use Rattle.cqlp_build.proofs.Steps.{after_builds, as_builds, emitted_append}

abbrev page_from : Metadata × (ℕ × List Values) → Page
page_from p = record { meta = p.0; rows = p.1.0; cells = p.1.1 }

abbrev rest_events : Metadata → ℕ × List Values → List Event
rest_events m r = (Holds field.Rows (note.Count r.0) ∷ []) ++ emitted (cells_parts m r.0 r.1)

abbrev AreRest : Metadata → ℕ × List Values → Type 0
AreRest m r = (true ≡ true) × AreCells m r.0 r.1

page_said : (p : Metadata × (ℕ × List Values)) → emitted (page_parts (page_from p)) ≡ emitted (metadata_parts p.0) ++ rest_events p.0 p.1
page_said p = emitted_append (metadata_parts p.0) (count field.Rows p.1.0 ∷ cells_parts p.0 p.1.0 p.1.1)

page_on : (p : Metadata × (ℕ × List Values)) → IsMetadata p.0 × AreRest p.0 p.1 → IsPage (page_from p)
page_on p q = let m = both (metadata_agrees p.0) (is_built_metadata p.0) q.0 in (m.0, m.1, q.1.1)

page_view : (p : Page) → IsPage p → (a : Metadata × (ℕ × List Values)) × (IsMetadata a.0 × AreRest a.0 a.1) × (p ≡ page_from a)
page_view p q = ((p.meta, (p.rows, p.cells)), (join (metadata_agrees p.meta) (is_built_metadata p.meta) q.0 q.1, (refl, q.2)), refl)

pub page_made : {m : Metadata} {n : ℕ} {cells : List Values} {a b c d : FrameEvents}
    → Builds (λ m. emitted (metadata_parts m)) IsMetadata m a b → Builds (λ n. Holds field.Rows (note.Count n) ∷ []) any n b c
    → Builds (λ vs. emitted (cells_parts m n vs)) (AreCells m n) cells c d
    → Builds (λ p. emitted (page_parts p)) IsPage (page_from (m, (n, cells))) a d
page_made {m} one two three =
    as_builds (λ p. emitted (page_parts p)) IsPage page_from (λ p q. page_said p) page_on page_view
    (after_builds rest_events AreRest one (after_builds (λ n vs. emitted (cells_parts m n vs)) (λ n vs. AreCells m n vs) two three))

-- ---- cells

-- the cells of all rows are those of the page
pub cells_made : (m : Metadata) (n : ℕ) (vs : List Values) (old new : FrameEvents) → how_many (cell_types m) ≡ m.columns → BuildsRows 0 n (cell_types m) vs old new
    → Builds (λ ws. emitted (cells_parts m n ws)) (AreCells m n) vs old new
cells_made m n vs old new e b =
    subst (λ (k : ℕ). Builds (λ ws. emitted (cells_parts m n ws)) (λ ws. (length ws ≡ n * k) × (list_all cell_fits (cells_parts m n ws) ≡ true)) vs old new) e b

-- a page without columns has none
pub no_cells : (m : Metadata) (n : ℕ) (h : FrameEvents) → m.columns ≡ 0 → Builds (λ ws. emitted (cells_parts m n ws)) (AreCells m n) [] h h
no_cells m n h z =
    let cut : cells_parts m n [] ≡ [] = rows_cut 0 (cell_types m) n in
    let none : n * m.columns ≡ 0 = rw z (omega arith) in
    record {
      made = λ s. (s, ap (λ ps. emitted ps ++ left h) (sym cut), (sym none, ap (list_all cell_fits) cut));
      only = λ s ws rest p e.
          let nil : ws ≡ [] = nil_from_length ws (p.0 ∙ none) in
          (nil, sym (e ∙ (ap (λ xs. emitted (cells_parts m n xs) ++ rest) nil ∙ ap (λ ps. emitted ps ++ rest) cut)));
      none = λ s. inl s;
    }
