-- What a composer writes of the events of a page.
use Rattle.std.proofs.Common.{◌≡◌, ℕ, ◌++◌, List, ◌∷◌, Err, refl, sym, ap, ◌∙◌}
use Rattle.cqlp_note.specs.declared.header.Header.{Header}
use Rattle.cqlp_grammar.specs.Events.{Event, Frame}
use Rattle.cqlp_message.specs.FrameValues.{FrameValue}
use Rattle.cqlp_message.specs.Frames.{frame_bytes, frame_parts, header_of}
use Rattle.cqlp_message.specs.Pages.{with_cells}
use Rattle.cqlp_message.specs.Parts.{parts_size}
use Rattle.cqlp_build.specs.declared.error.BuildError.{BuildError}
use Rattle.cqlp_build.specs.declared.error.BuildError.TheVariants as error
use Rattle.cqlp_build.specs.Building.{AreEventsOf, CanBeBuilt}
use Rattle.cqlp_build.specs.Closing.{Ends, closed}
use Rattle.cqlp_build.specs.Emitted.{emitted}
use Rattle.cqlp_compose.proofs.Built.{page_can, page_closed}
use Rattle.cqlp_compose.specs.BatchLaws.{BatchesAreComposed, IsComposed, PageIsComposed}

-- where a frame has these events, it is not said that none has
only_memory : (h : Header) (fields : List Event) (size : ℕ) (f : FrameValue) → CanBeBuilt f → AreEventsOf (closed h size fields) f 0 → (why : BuildError) → Ends (Frame h ∷ fields) (Err why) → why ≡ error.NoMemory
only_memory h fields size f can are error.NoFrame e = absurd (e size f 0 can are)
only_memory h fields size f can are error.NoMemory e = refl
only_memory h fields size f can are error.Misplaced e = absurd e
only_memory h fields size f can are error.Unbuilt e = absurd e
only_memory h fields size f can are error.TooManyFields e = absurd e
only_memory h fields size f can are error.TooDeep e = absurd e
only_memory h fields size f can are error.TooManyBytes e = absurd e

is_composed : (h : Header) (fields : List Event) (bytes : List ℕ) (size : ℕ) (f : FrameValue) → CanBeBuilt f → AreEventsOf (closed h size fields) f 0 → bytes ≡ frame_bytes f → IsComposed (Frame h ∷ fields) bytes
is_composed h fields bytes size f can are written = (
  λ other w. w.are ∙ sym (ap frame_bytes (w.ends.only size f can are)) ∙ sym written,
  only_memory h fields size f can are,
)

pub batches_are_composed : BatchesAreComposed
batches_are_composed h fields bytes p = is_composed h fields bytes p.size p.frame (p.spelled, p.built) p.are p.written

pub page_is_composed : PageIsComposed
page_is_composed f n k es bytes p built =
    is_composed (header_of f k) (emitted (frame_parts f) ++ es) bytes (parts_size (frame_parts (with_cells f p.cells))) (with_cells f p.cells) (page_can f n es bytes p built) (page_closed f n k es bytes p) p.written
