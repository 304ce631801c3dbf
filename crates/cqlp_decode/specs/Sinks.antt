-- How a sink takes events.
use Rattle.std.specs.Prelude.{◌≡◌, ℕ}
use Rattle.cqlp_grammar.specs.declared.sink.Sink as sink
use Rattle.cqlp_grammar.specs.Events.{Event}

-- It has got the event at an offset: one that reports what it has got goes on to report it, with this event too.
abbrev pub Gets : {S : Type 0} → sink.Ghosts S → S → ℕ → Event → S → Type 0
Gets members before at event after =
    (members.reports before
    → members.reports after × (members.view after ≡ members.after (members.view before) at event))
    × members.also before at event after

-- It failed at the event at an offset.
abbrev pub Fails : {S : Type 0} → sink.Ghosts S → S → ℕ → Event → S → Type 0
Fails members before at event after =
    (members.reports before → members.faulted (members.view before) at event (members.view after))
    × members.also before at event after
