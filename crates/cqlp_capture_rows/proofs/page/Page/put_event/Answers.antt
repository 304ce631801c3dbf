use Rattle.std.proofs.Common.{ap}
use Rattle.cqlp_grammar.specs.Events.{event_of}
use Rattle.cqlp_capture_rows.specs.Pages.{Page}
use Rattle.cqlp_capture_rows.proofs.Pages.{rows_part_stops, rows_part_writes}
use Rattle.cqlp_capture_rows.proofs.page.Page.put_event.Goals as goal

pub returns-in_err-put_page_line_if-clause-part : goal.returns-in_err-put_page_line_if-clause-part
returns-in_err-put_page_line_if-clause-part g c =
    rows_part_stops c.args.begun c.args.self.now (event_of c.args.event.now) c.begins_page.result c.from_residual.result c.args.writer.now c.put_page_line_if.new.writer c.from_residual.ensures.0 c.begins_page.ensures c.in_err-put_page_line_if.ensures

pub returns-clause-part : goal.returns-clause-part
returns-clause-part g c =
    rows_part_writes c.args.begun c.args.self.now c.self.inside.place (event_of c.args.event.now) c.begins_page.result c.put_page_part.result c.args.writer.now c.put_page_line_if.new.writer c.put_page_part.new.self (ap (λ (q : Page). q.place) c.self.view_is) c.begins_page.ensures c.in_ok-put_page_line_if.ensures c.put_page_part.ensures.part
