use Rattle.std.proofs.Common.{◌≡◌, ℕ, Option, Some, subst}
use Rattle.std.specs.BTreeMap.{is_at}
use Rattle.std.specs.Map.{lookup}
use Rattle.std.specs.Ordering.{nat_cmp}
use Rattle.cqlp_capture_exchanges.specs.Connections.{of_delivery}
use Rattle.cqlp_capture_exchanges.specs.Accounts.{ReportedAll}
use Rattle.cqlp_capture_exchanges.specs.Talks.{Slot}
use Rattle.cqlp_capture_exchanges.specs.Tables.{Table, table, takes_delivery, takes_delivery_at}
use Rattle.cqlp_capture_exchanges.proofs.table.Table.hear.Goals as goal

pub returns-in-Some-clause-reports : goal.returns-in-Some-clause-reports
returns-in-Some-clause-reports g c =
    let t = c.args.delivered.now in
    let own = table c.self.inside.slots.entries c.self.inside.pool c.self.inside.missed in
    let found = subst (λ (k : ℕ). Some c.in-Some.slot.now ≡ lookup (is_at (nat_cmp k)) own.slots) c.newest_first.ensures c.in-Some.ensures.value in
    subst (λ (w : Table). ReportedAll (of_delivery t) (takes_delivery c.args.present t c.args.bytes.now w).reports c.args.reporter.now c.hear_in.result c.hear_in.new.reporter) c.self.view_is
    (subst (λ (o : Option Slot). ReportedAll (of_delivery t) (takes_delivery_at o c.args.present t c.args.bytes.now own).reports c.args.reporter.now c.hear_in.result c.hear_in.new.reporter) found c.hear_in.ensures.reports)
