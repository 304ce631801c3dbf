use Rattle.std.proofs.Common.{◌∙◌, ◌&&◌, Bool, ap, length, if◌then◌else◌}
use Rattle.std.specs.Prelude.{nat_le}
use Rattle.cqlp_capture_exchanges.specs.Labels.{Label}
use Rattle.cqlp_capture_exchanges.specs.Notings.{batch_name, noted_as, request_as}
use Rattle.cqlp_capture_exchanges.proofs.noting.note_text.Goals as goal

pub returns-then-is_batch : goal.returns-then-is_batch
returns-then-is_batch g c =
    let n = c.args.naming in
    let o = c.args.outcome.now in
    let text = c.args.text.now in
    let name = c.as_slice.ensures.bytes ∙ ap (λ (l : Label). l.text) c.batch_name-name.ensures ∙ ap batch_name c.as_bytes.ensures.value in
    let as_batch = request_as (batch_name text) (c.args.is_whole && nat_le (length text) 250) o in
    let as_one = request_as text c.args.is_whole o in
    c.note_as.ensures ∙ (λ i. noted_as n (request_as (name i) (c.has_all.ensures i) o) c.args.summary.now)
    ∙ ap (λ (b : Bool). noted_as n (if b then as_batch else as_one) c.args.summary.now) c.if-is_batch.ensures

pub returns-else-is_batch : goal.returns-else-is_batch
returns-else-is_batch g c =
    let n = c.args.naming in
    let o = c.args.outcome.now in
    let text = c.args.text.now in
    let as_batch = request_as (batch_name text) (c.args.is_whole && nat_le (length text) 250) o in
    let as_one = request_as text c.args.is_whole o in
    c.note_as-else-is_batch.ensures
    ∙ (λ i. noted_as n (request_as (c.as_bytes-else-is_batch.ensures.value i) c.args.is_whole o) c.args.summary.now)
    ∙ ap (λ (b : Bool). noted_as n (if b then as_batch else as_one) c.args.summary.now) c.if-is_batch.ensures
