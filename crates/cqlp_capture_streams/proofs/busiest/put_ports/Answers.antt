use Rattle.std.proofs.Common.{◌≡◌, decimal, ◌++◌, ap}
use Rattle.cqlp_text.proofs.Writing.{progress_starts, progress_stops, progress_goes_on, progress_writes}
use Rattle.cqlp_capture_streams.specs.Endings.{more_ports, ports_words}
use Rattle.cqlp_capture_streams.proofs.busiest.put_ports.Goals as goal

pub returns-in_err-put_number : goal.returns-in_err-put_number
returns-in_err-put_number g c =
    let parts : ports_words c.args.ports.now ≡ decimal c.in-Some.first.now ++ more_ports c.in-Some.more.now = ap ports_words c.in-Some.ensures.cases.0 in
    progress_stops _ c.from_residual.result c.from_residual.ensures.0 (progress_starts _ _) parts c.in_err-put_number.ensures

pub returns : goal.returns
returns g c =
    let parts : ports_words c.args.ports.now ≡ decimal c.in-Some.first.now ++ more_ports c.in-Some.more.now = ap ports_words c.in-Some.ensures.cases.0 in
    let s1 = progress_goes_on _ (progress_starts _ _) parts c.in_ok-put_number.ensures in
    progress_writes _ c.put_more.result s1 c.put_more.ensures
