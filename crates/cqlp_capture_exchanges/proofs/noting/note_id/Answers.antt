use Rattle.std.proofs.Common.{◌≡◌, ◌∙◌, ◌<◌, [], Some, IsSome, length, ap, refl, sym, subst}
use Rattle.cqlp_text.specs.Outputs.{WritesText, output}
use Rattle.cqlp_capture_summary.specs.Summaries.{noted_request}
use Rattle.cqlp_capture_exchanges.specs.Labels.{Label}
use Rattle.cqlp_capture_exchanges.specs.Notings.{id_name, request_as}
use Rattle.cqlp_capture_exchanges.proofs.Labels.{noted_by_label}
use Rattle.cqlp_capture_exchanges.proofs.noting.note_id.Goals as goal

pub returns : goal.returns
returns g c =
    let o = c.args.outcome.now in
    let s = c.args.summary.now in
    let text = id_name c.args.request.now.frame.header.opcode c.args.id.now c.args.is_whole in
    let l = c.append_id-appended.new.target in
    let r = c.append_id-appended.result in
    let known : IsSome (Some c.new-label.result.text) = refl in
    let writes : WritesText (output (Some []) 0) text r (output (Some l.text) l.failures) =
    subst (λ (z : Label). WritesText (output (Some z.text) z.failures) text r (output (Some l.text) l.failures)) c.new-label.ensures (c.append_id-appended.ensures known) in
    let full : 0 < l.failures → length l.text ≡ 256 = λ some. ap length (sym c.as_slice.ensures.bytes) ∙ c.as_slice.ensures.full some in
    c.note_as.ensures ∙ (λ i. noted_request (request_as (c.as_slice.ensures.bytes i) (c.is_ok.ensures.value i) o) s) ∙ noted_by_label text l.text l.failures r o s writes full
