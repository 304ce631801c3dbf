use Rattle.std.proofs.Common.{refl}
use Rattle.cqlp_text.proofs.Writing.{progress_starts}
use Rattle.cqlp_capture_streams.proofs.Parts.{part_last, part_stops, part_taken}
use Rattle.cqlp_capture_streams.proofs.busiest.put_busy.Goals as goal

pub returns-in_err-put : goal.returns-in_err-put
returns-in_err-put g c =
    part_stops _ c.from_residual.result c.from_residual.ensures.0 (progress_starts _ _) refl refl c.in_err-put.ensures

pub returns-in_err-put_ports : goal.returns-in_err-put_ports
returns-in_err-put_ports g c =
    let s1 = part_taken _ (progress_starts _ _) refl refl c.in_ok-put.ensures in
    part_stops _ c.from_residual-in_err-put_ports.result c.from_residual-in_err-put_ports.ensures.0 s1 refl refl c.in_err-put_ports.ensures

pub returns-in_err-put-2 : goal.returns-in_err-put-2
returns-in_err-put-2 g c =
    let s1 = part_taken _ (progress_starts _ _) refl refl c.in_ok-put.ensures in
    let s2 = part_taken _ s1 refl refl c.in_ok-put_ports.ensures in
    part_stops _ c.from_residual-in_err-put-2.result c.from_residual-in_err-put-2.ensures.0 s2 refl refl c.in_err-put-2.ensures

pub returns-in_err-put_port : goal.returns-in_err-put_port
returns-in_err-put_port g c =
    let s1 = part_taken _ (progress_starts _ _) refl refl c.in_ok-put.ensures in
    let s2 = part_taken _ s1 refl refl c.in_ok-put_ports.ensures in
    let s3 = part_taken _ s2 refl refl c.in_ok-put-2.ensures in
    part_stops _ c.from_residual-in_err-put_port.result c.from_residual-in_err-put_port.ensures.0 s3 refl refl c.in_err-put_port.ensures

pub returns-in_err-put_next : goal.returns-in_err-put_next
returns-in_err-put_next g c =
    let s1 = part_taken _ (progress_starts _ _) refl refl c.in_ok-put.ensures in
    let s2 = part_taken _ s1 refl refl c.in_ok-put_ports.ensures in
    let s3 = part_taken _ s2 refl refl c.in_ok-put-2.ensures in
    let s4 = part_taken _ s3 refl refl c.in_ok-put_port.ensures in
    part_stops _ c.from_residual-in_err-put_next.result c.from_residual-in_err-put_next.ensures.0 s4 refl refl c.in_err-put_next.ensures

pub returns-in_err-put_next-2 : goal.returns-in_err-put_next-2
returns-in_err-put_next-2 g c =
    let s1 = part_taken _ (progress_starts _ _) refl refl c.in_ok-put.ensures in
    let s2 = part_taken _ s1 refl refl c.in_ok-put_ports.ensures in
    let s3 = part_taken _ s2 refl refl c.in_ok-put-2.ensures in
    let s4 = part_taken _ s3 refl refl c.in_ok-put_port.ensures in
    let s5 = part_taken _ s4 refl refl c.in_ok-put_next.ensures in
    part_stops _ c.from_residual-in_err-put_next-2.result c.from_residual-in_err-put_next-2.ensures.0 s5 refl refl c.in_err-put_next-2.ensures

pub returns : goal.returns
returns g c =
    let s1 = part_taken _ (progress_starts _ _) refl refl c.in_ok-put.ensures in
    let s2 = part_taken _ s1 refl refl c.in_ok-put_ports.ensures in
    let s3 = part_taken _ s2 refl refl c.in_ok-put-2.ensures in
    let s4 = part_taken _ s3 refl refl c.in_ok-put_port.ensures in
    let s5 = part_taken _ s4 refl refl c.in_ok-put_next.ensures in
    let s6 = part_taken _ s5 refl refl c.in_ok-put_next-2.ensures in
    part_last _ _ c.put-3.result s6 refl refl c.put-3.ensures
