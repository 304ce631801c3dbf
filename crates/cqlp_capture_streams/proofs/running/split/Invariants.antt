use Rattle.std.proofs.Common.{◌≡◌, ◌*◌, ℕ, List, Some, length}
use Rattle.cqlp_note.specs.Streams.{CountsUp}
use Rattle.cqlp_capture_streams.specs.Captures.{most_read}
use Rattle.cqlp_capture_streams.proofs.Splitting.{SoFar}
use Rattle.cqlp_capture_streams.proofs.running.split.Given as goal

-- the listener has got what the bytes read report
abbrev pub invariant-loop-turn : goal.invariant-loop-turn
invariant-loop-turn g l = record {
  long : length l.buffer ≡ length l.fn.buffer;
  reports : g.L.Listener.reports l.fn.listener → g.L.Listener.reports l.listener;
  failures : g.R.Source.failures l.input ≡ g.R.Source.failures l.fn.input;
  counted : CountsUp l.turn (g.R.Source.reads l.fn.input) (g.R.Source.reads l.input);
  asked : CountsUp (most_read * l.turn) (g.R.Source.asked l.fn.input) (g.R.Source.asked l.input);
  so_far : (xs : List ℕ) → g.R.Source.left l.fn.input ≡ Some xs → g.L.Listener.reports l.fn.listener → SoFar g.L.Listener.after l.fn.reader.limits l.fn.splitter (g.L.Listener.view l.fn.listener) xs (g.R.Source.left l.input) l.reader l.splitter (g.L.Listener.view l.listener);
}
