-- Where the bytes are that came early.
use Rattle.std.specs.Prelude.{List, [], ◌∷◌}
use Rattle.cqlp_tcp_reassembly.specs.Runs.{EarlyRun}
use Rattle.cqlp_tcp_reassembly.specs.declared.runs.Store.{Store}
use Rattle.cqlp_tcp_reassembly.specs.declared.runs.Store.TheVariants as store

-- None, one in a box of its own, or those of a queue.
abbrev pub runs_in : {A : Type 0} → Store A → List EarlyRun
runs_in store.Empty = []
runs_in (store.Alone run) = run.value ∷ []
runs_in (store.Queued queue) = queue.value
