-- A frame that is built of the events of a page.
use Rattle.std.proofs.Common.{◌≡◌, ℕ, ◌∷◌, ◌++◌, List, [], true, refl, ap, ◌∙◌, subst}
use Rattle.cqlp_note.specs.declared.header.Header.{Header}
use Rattle.cqlp_grammar.specs.Events.{Event, Frame, End}
use Rattle.cqlp_value.specs.Values.{Values}
use Rattle.cqlp_message.specs.FrameValues.{FrameValue, Message, Rows}
use Rattle.cqlp_message.specs.Agreement.{is_response, opcode_of}
use Rattle.cqlp_message.specs.Frames.{frame_bytes, frame_parts, header_of}
use Rattle.cqlp_message.specs.Owned.{frame_of}
use Rattle.cqlp_message.specs.Pages.{filled, with_cells}
use Rattle.cqlp_message.specs.Parts.{parts_size}
use Rattle.cqlp_build.specs.Building.{AreEventsOf, CanBeBuilt, is_built}
use Rattle.cqlp_build.specs.Closing.{closed, of_length}
use Rattle.cqlp_build.specs.Emitted.{emitted}
use Rattle.cqlp_compose.specs.PageLaws.{IsPageOf, PageIsBuilt}

same_response : (m : Message) (cells : List Values) → is_response (filled m cells) ≡ is_response m
same_response (Rows p) cells = refl
same_response m cells = refl

same_opcode : (m : Message) (cells : List Values) → opcode_of (filled m cells) ≡ opcode_of m
same_opcode (Rows p) cells = refl
same_opcode m cells = refl

same_built : (m : Message) (cells : List Values) → is_built (filled m cells) ≡ is_built m
same_built (Rows p) cells = refl
same_built m cells = refl

-- the header of a page is the same with its cells, but for its length
same_header : (f : FrameValue) (cells : List Values) (k m : ℕ) → header_of (with_cells f cells) m ≡ of_length (header_of f k) m
same_header f cells k m = λ i. record (header_of f m) { response = same_response f.message cells i; opcode = same_opcode f.message cells i }

-- its events, with a header of whatever length
pub page_closed : (f : FrameValue) (n k : ℕ) (es : List Event) (bytes : List ℕ) (p : IsPageOf f n es bytes)
    → AreEventsOf (closed (header_of f k) (parts_size (frame_parts (with_cells f p.cells))) (emitted (frame_parts f) ++ es)) (with_cells f p.cells) 0
page_closed f n k es bytes p =
    let page = with_cells f p.cells in
    let m = parts_size (frame_parts page) in
    let fields = emitted (frame_parts f) ++ es in
    subst (λ (h : Header). AreEventsOf (Frame h ∷ fields ++ End 0 ∷ []) page 0) (same_header f p.cells k m) p.are

pub page_can : (f : FrameValue) (n : ℕ) (es : List Event) (bytes : List ℕ) (p : IsPageOf f n es bytes) → is_built f.message ≡ true → CanBeBuilt (with_cells f p.cells)
page_can f n es bytes p built = (p.spelled, same_built f.message p.cells ∙ built)

pub is_page_built : PageIsBuilt
is_page_built f n k es bytes g p built ends =
    let page = with_cells f p.cells in
    let same : page ≡ frame_of g = ends.only (parts_size (frame_parts page)) page (page_can f n es bytes p built) (page_closed f n k es bytes p) in
    p.written ∙ ap frame_bytes same
