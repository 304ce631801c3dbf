use Rattle.std.proofs.Common.{◌≡◌, ℕ, Option, Some, subst}
use Rattle.std.specs.BTreeMap.{is_at}
use Rattle.std.specs.Map.{lookup}
use Rattle.std.specs.Ordering.{nat_cmp}
use Rattle.cqlp_capture_exchanges.specs.Connections.{of_totals}
use Rattle.cqlp_capture_exchanges.specs.Accounts.{ReportedAll}
use Rattle.cqlp_capture_exchanges.specs.Talks.{Slot}
use Rattle.cqlp_capture_exchanges.specs.Tables.{Table, leaves, leaves_at, table}
use Rattle.cqlp_capture_exchanges.proofs.table.Table.leave.Goals as goal

pub returns-in-Some-clause-reports : goal.returns-in-Some-clause-reports
returns-in-Some-clause-reports g c =
    let t = c.args.totals.now in
    let own = table c.self.inside.slots.entries c.self.inside.pool c.self.inside.missed in
    let found = subst (λ (k : ℕ). Some c.in-Some.slot ≡ lookup (is_at (nat_cmp k)) own.slots) c.newest_first.ensures c.in-Some.ensures.value in
    subst (λ (w : Table). ReportedAll (of_totals t) (leaves t w).reports c.args.reporter.now c.let_leave.result c.let_leave.new.reporter) c.self.view_is
    (subst (λ (o : Option Slot). ReportedAll (of_totals t) (leaves_at o t own).reports c.args.reporter.now c.let_leave.result c.let_leave.new.reporter) found c.let_leave.ensures.reports)
