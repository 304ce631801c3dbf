use Rattle.std.proofs.Common.{arith, ◌≡◌, ◌∙◌, refl, sym, ap, subst, inl, inr, OnOk, Result}
use Rattle.cqlp_capture.specs.Progress.{CaptureState}
use Rattle.cqlp_capture_streams.specs.declared.capturing.CaptureRead.{CaptureRead}
use Rattle.cqlp_capture_streams.specs.declared.fault.StreamsFault.{StreamsFault}
use Rattle.cqlp_capture_streams.specs.Packets.{new_split}
use Rattle.cqlp_capture_streams.specs.Captures.{no_reads}
use Rattle.cqlp_capture_streams.specs.Streams.{default_limits, no_connections}
use Rattle.cqlp_capture_streams.proofs.Splitting.{read_on, splits_as}
use Rattle.cqlp_capture_streams.proofs.capturing.read_capture.Goals as goal

pub returns-in_default-clause-reads : goal.returns-in_default-clause-reads
returns-in_default-clause-reads g c = λ xs is k. (no_reads, (λ fits. omega arith, refl, λ fits. omega arith), inr (refl, refl, is, refl))

pub returns-in_default-new-clause-reads : goal.returns-in_default-new-clause-reads
returns-in_default-new-clause-reads g c = λ xs is k. (no_reads, (λ fits. omega arith, refl, λ fits. omega arith), inr (refl, refl, is, refl))

pub returns-in_default-new-2-clause-reads : goal.returns-in_default-new-2-clause-reads
returns-in_default-new-2-clause-reads g c = λ xs is k. (no_reads, (λ fits. omega arith, refl, λ fits. omega arith), inr (refl, refl, is, refl))

pub returns-in_default-vec-clause-reads : goal.returns-in_default-vec-clause-reads
returns-in_default-vec-clause-reads g c = λ xs is k. (no_reads, (λ fits. omega arith, refl, λ fits. omega arith), inr (refl, refl, is, refl))

pub returns-clause-reports : goal.returns-clause-reports
returns-clause-reports g c = λ reports. subst (λ (z : Result CaptureRead StreamsFault). OnOk z (g.L.Listener.reports c.split-answer.new.listener)) (sym c.read_of.ensures) (read_on _ c.split-answer.result c.split-answer.new.splitter (c.split-answer.ensures.reports reports))

pub returns-clause-reads : goal.returns-clause-reads
returns-clause-reads g c = λ xs is k.
    let a = c.split-answer.ensures.splits xs is k in
    let limits : c.in-Ok.reader.limits ≡ default_limits = ap (λ (z : CaptureState). z.limits) c.in-Ok.ensures.fresh in
    let fresh : c.new-splitter.result ≡ no_connections c.args.limits c.args.ports.now = c.new-splitter.ensures ∙ (λ i. new_split (c.in-Ok-new.ensures.fresh i) (c.in-Ok-new-2.ensures i)) in (
      a.0,
      a.1,
      inl (
        c.split-answer.result,
        c.split-answer.new.splitter,
        splits_as g.L.Listener.after g.L.Listener.faulted c.in-Ok.reader.limits default_limits c.new-splitter.result (no_connections c.args.limits c.args.ports.now) _ a.0 (g.L.Listener.view c.args.listener.now) xs c.split-answer.result (g.R.Source.left c.split-answer.new.input) c.split-answer.new.splitter (g.L.Listener.view c.split-answer.new.listener) limits fresh a.2,
        c.read_of.ensures,
      ),
    )
