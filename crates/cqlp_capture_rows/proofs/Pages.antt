-- The text of an event in two parts: the line of its page, and what is written of it there.
use Rattle.std.proofs.Common.{◌≡◌, Bool, Result, IsErr, refl, subst}
use Rattle.cqlp_grammar.specs.declared.sink.SinkFault.{SinkFault}
use Rattle.cqlp_grammar.specs.Events.{Event}
use Rattle.cqlp_text.specs.Written.{Written, BreaksOff, Receives, Writes}
use Rattle.cqlp_text.specs.PageText.{PagePlace, page_part}
use Rattle.cqlp_text.proofs.Writing.{progress_goes_on, progress_starts, progress_stops, progress_writes}
use Rattle.cqlp_capture_rows.specs.declared.spot.FrameSpot.{FrameSpot}
use Rattle.cqlp_capture_rows.specs.Pages.{Page, begins_page, page_line_if, rows_part}

pub rows_part_stops : (s : FrameSpot) (p : Page) (e : Event) (begins : Bool) (r : Result (Unit {0}) SinkFault) (old new : Written) → IsErr r → begins ≡ begins_page e → BreaksOff old (page_line_if begins s) new → Writes old (rows_part s p e) r new
rows_part_stops s p e begins r old new stops is breaks =
    progress_stops (page_part p.place e) r stops (progress_starts old (rows_part s p e)) refl (subst (λ (b : Bool). BreaksOff old (page_line_if b s) new) is breaks)

pub rows_part_writes : (s : FrameSpot) (p : Page) (place : PagePlace) (e : Event) (begins : Bool) (r : Result (Unit {0}) SinkFault) (old mid new : Written) → place ≡ p.place → begins ≡ begins_page e → Receives old (page_line_if begins s) mid → Writes mid (page_part place e) r new → Writes old (rows_part s p e) r new
rows_part_writes s p place e begins r old mid new at is takes writes =
    progress_writes new r (progress_goes_on (page_part p.place e) (progress_starts old (rows_part s p e)) refl (subst (λ (b : Bool). Receives old (page_line_if b s) mid) is takes)) (subst (λ (q : PagePlace). Writes mid (page_part q e) r new) at writes)
