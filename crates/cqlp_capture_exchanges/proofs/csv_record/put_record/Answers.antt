use Rattle.std.proofs.Common.{sym, subst}
use Rattle.cqlp_text.specs.Written.{Writes}
use Rattle.cqlp_capture_exchanges.specs.CsvRecords.{record_of}
use Rattle.cqlp_capture_exchanges.specs.Reports.{report_of}
use Rattle.cqlp_capture_exchanges.proofs.csv_record.put_record.Goals as goal

pub returns-in-Unread : goal.returns-in-Unread
returns-in-Unread g c =
    subst (λ r. Writes c.args.writer.now (record_of c.args.known.now c.args.first c.args.connection.now (report_of r)) c.put_unread.result c.put_unread.new.writer) (sym c.in-Unread.is) c.put_unread.ensures
