use Rattle.std.proofs.Common.{ap, sym, ◌∙◌, ◌+◌, false}
use Rattle.cqlp_observer.specs.Watches.{Reporting, reported_by}
use Rattle.cqlp_observer.proofs.WholeFrame.{whole_heard}
use Rattle.cqlp_observer.proofs.watch.Watch.hear.Goals as goal

pub returns-in_ok-take_frame-in-Some-clause-reported : goal.returns-in_ok-take_frame-in-Some-clause-reported
returns-in_ok-take_frame-in-Some-clause-reported g c =
    let h = c.in-Some.header in
    ap (λ (t : Reporting). reported_by (9 + h.length) false c.args.opening t) c.in_ok-take_frame-in-Some.ensures
    ∙ sym (whole_heard h c.args.responses c.args.time c.args.begins c.args.piece.now c.args.room c.args.opening c.args.self.now c.in-Some.ensures)
