use Rattle.std.proofs.Common.{◌≡◌, List, length}
use Rattle.cqlp_tcp_segment.specs.Segment.{seen}
use Rattle.cqlp_capture_streams.specs.ConnectionEvents.{ConnectionEvent}
use Rattle.cqlp_capture_streams.specs.Listening.{after_all}
use Rattle.cqlp_capture_streams.specs.Reportings.{Path, Pulls}
use Rattle.cqlp_capture_streams.proofs.reporting.pull_all.Given as goal

-- the listener has got what was reported so far
abbrev pub invariant-loop-turn : goal.invariant-loop-turn
invariant-loop-turn g l =
    let m = g.L.Listener in
    m.reports l.fn.listener → (ss : List ConnectionEvent)
    × Path (Pulls (seen l.segment) l.time) l.fn.connections ss l.connections
    × m.reports l.listener × (m.view l.listener ≡ after_all m.after (m.view l.fn.listener) ss) × (length ss ≡ l.turn)
