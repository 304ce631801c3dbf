use Rattle.std.proofs.Common.{◌≡◌, ℕ, Option, Some, subst}
use Rattle.std.specs.BTreeMap.{is_at}
use Rattle.std.specs.Map.{lookup}
use Rattle.std.specs.Ordering.{nat_cmp}
use Rattle.cqlp_capture_frames.specs.Faults.{Takes}
use Rattle.cqlp_capture_frames.specs.Reportings.{is_memory}
use Rattle.cqlp_capture_events.specs.Tables.{Slot, Table, table, reports, reports_at}
use Rattle.cqlp_capture_events.proofs.table.Table.hear.Goals as goal

pub returns-in-Some-clause-text : goal.returns-in-Some-clause-text
returns-in-Some-clause-text g c =
    let a = c.args in
    let old = c.self.inside in
    let found = subst (λ (k : ℕ). Some c.in-Some.slot.now ≡ lookup (is_at (nat_cmp k)) old.slots.entries) c.newest_first.ensures c.in-Some.ensures.value in
    subst (λ (w : Table). Takes is_memory a.writer.now (reports a.delivered.now a.bytes.now w).text c.hear_in.result c.hear_in.new.writer) c.self.view_is
    (subst (λ (o : Option Slot). Takes is_memory a.writer.now (reports_at o a.delivered.now a.bytes.now (table old.slots.entries old.reading old.unread)).text c.hear_in.result c.hear_in.new.writer) found c.hear_in.ensures.text)
