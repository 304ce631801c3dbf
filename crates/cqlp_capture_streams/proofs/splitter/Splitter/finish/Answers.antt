use Rattle.std.proofs.Common.{rules, Err, ◌≡◌, ◌++◌, inl}
use Rattle.cqlp_capture_streams.specs.Reportings.{is_done}
use Rattle.cqlp_capture_streams.proofs.Getting.{gets_others}
use Rattle.cqlp_capture_streams.proofs.Leaving.{finished_at}
use Rattle.cqlp_capture_streams.proofs.splitter.Splitter.finish.Goals as goal

pub returns-in_err-hand_on_all : goal.returns-in_err-hand_on_all
returns-in_err-hand_on_all g c =
    let is : c.from_residual.result ≡ Err c.in_err-hand_on_all.field-0.0 = search rules in
    rw is (λ reports. let a = c.in_err-hand_on_all.ensures reports in (a.0, inl a.1, a.2))

pub returns : goal.returns
returns g c = λ reports.
    let i = c.self.inside in
    let a = c.in_ok-hand_on_all.ensures reports in
    let b = c.finish_all.ensures a.2.0 in
    (a.0 ++ b.0, finished_at (is_done c.finish_all.result) c.args.self.now c.hand_on_all.new.self i.connections c.finish_all.new.connections i.order i.link i.time i.original i.counts a.0 b.0 c.self.view_is a.1 b.1, gets_others g.L.Listener c.args.listener.now _ _ a.0 b.0 _ a.2.1 b.2)
