use Rattle.std.proofs.Common.{sym, subst}
use Rattle.cqlp_text.specs.Written.{Writes}
use Rattle.cqlp_observer.specs.Keeping.{Kept}
use Rattle.cqlp_observer.specs.declared.paired.Paired.{Paired}
use Rattle.cqlp_capture_exchanges.specs.CsvRecords.{paired_record}
use Rattle.cqlp_capture_exchanges.proofs.csv_record.put_paired.Goals as goal

pub returns-in-Exchange : goal.returns-in-Exchange
returns-in-Exchange g c =
    subst (λ (t : Paired Kept). Writes c.args.writer.now (paired_record c.args.known.now c.args.first c.args.connection.now c.args.end t) c.put_exchange.result c.put_exchange.new.writer) (sym c.in-Exchange.is) c.put_exchange.ensures

pub returns-in-Unasked : goal.returns-in-Unasked
returns-in-Unasked g c =
    subst (λ (t : Paired Kept). Writes c.args.writer.now (paired_record c.args.known.now c.args.first c.args.connection.now c.args.end t) c.put_alone.result c.put_alone.new.writer) (sym c.in-Unasked.is) c.put_alone.ensures

pub returns-in-Event : goal.returns-in-Event
returns-in-Event g c =
    subst (λ (t : Paired Kept). Writes c.args.writer.now (paired_record c.args.known.now c.args.first c.args.connection.now c.args.end t) c.put_alone-in-Event.result c.put_alone-in-Event.new.writer) (sym c.in-Event.is) c.put_alone-in-Event.ensures
