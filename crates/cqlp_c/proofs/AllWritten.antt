-- What is written is read as its events.
use Rattle.std.proofs.Common.{◌≡◌, ℕ, inl, inr, List, [], ◌∷◌, refl}
use Rattle.cqlp_note.specs.declared.header.Header.{Header}
use Rattle.cqlp_grammar.specs.Events.{Event, Frame, Holds, Node_of, Cell_at, Leave, End}
use Rattle.cqlp_compose.specs.CellPages.{IsFrameOf}
use Rattle.cqlp_c.specs.EncodeLaws.{IsReadAs}
use Rattle.cqlp_c.specs.Encoding.{IsWritten}
use Rattle.cqlp_c.proofs.OneEncoded.{written_has_header, written_reads_back}
use Rattle.cqlp_c.proofs.PagesWritten.{read_as}

pub reads_back : (h : Header) (fields : List Event) (bytes : List ℕ) → IsWritten (Frame h ∷ fields) bytes → IsReadAs h fields bytes
reads_back h fields bytes (inl w) = written_reads_back h fields bytes w
reads_back h fields bytes (inr p) = read_as h fields bytes p.frame

page_has_header : (es : List Event) (bytes : List ℕ) → IsFrameOf es bytes → (h : Header) × (fields : List Event) × (es ≡ Frame h ∷ fields)
page_has_header [] bytes p = absurd p
page_has_header (Frame h ∷ es) bytes p = (h, es, refl)
page_has_header (Holds k v ∷ es) bytes p = absurd p
page_has_header (Node_of o ∷ es) bytes p = absurd p
page_has_header (Cell_at row column c ∷ es) bytes p = absurd p
page_has_header (Leave level items ∷ es) bytes p = absurd p
page_has_header (End x ∷ es) bytes p = absurd p

pub has_header : (es : List Event) (bytes : List ℕ) → IsWritten es bytes → (h : Header) × (fields : List Event) × (es ≡ Frame h ∷ fields)
has_header es bytes (inl w) = written_has_header es bytes w
has_header es bytes (inr p) = page_has_header es bytes p.frame
