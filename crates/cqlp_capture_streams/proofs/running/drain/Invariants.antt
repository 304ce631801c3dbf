use Rattle.std.proofs.Common.{◌≡◌, ◌≤◌, ◌++◌, ℕ, List, None, length, take}
use Rattle.cqlp_capture_streams.specs.Packets.{SplitState}
use Rattle.cqlp_capture_streams.specs.Captures.{Has}
use Rattle.cqlp_capture_streams.proofs.running.drain.Given as goal

-- the listener has got what the events of the bytes used report
abbrev pub invariant-loop-turn : goal.invariant-loop-turn
invariant-loop-turn g l = record {
  within : l.used ≤ length l.piece;
  limits : l.reader.limits ≡ l.fn.reader.limits;
  free : l.fn.reader.refusal ≡ None → l.reader.refusal ≡ None;
  reports : g.L.Listener.reports l.fn.listener → g.L.Listener.reports l.listener;
  has : (t : SplitState) (before : g.L.Listener.View) (s : List ℕ) → g.L.Listener.reports l.fn.listener → Has g.L.Listener.after t before s l.fn.reader l.fn.splitter (g.L.Listener.view l.fn.listener) → (h : Has g.L.Listener.after t before (s ++ take l.used l.piece) l.reader l.splitter (g.L.Listener.view l.listener)) × (l.turn ≤ length h.events);
}
