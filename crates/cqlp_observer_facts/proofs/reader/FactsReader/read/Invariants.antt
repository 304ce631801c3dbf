use Rattle.std.proofs.Common.{◌≡◌, ◌≤◌, ◌+◌, length}
use Rattle.cqlp_observer_facts.specs.Reading.{before, read}
use Rattle.cqlp_observer_facts.proofs.reader.FactsReader.read.Given as goal

abbrev pub invariant-loop-self : goal.invariant-loop-self
invariant-loop-self l =
    (read l.rest l.self ≡ read l.fn.piece l.fn.self)
    × (l.before + before l.rest l.self ≡ before l.fn.piece l.fn.self)
    × (l.before + length l.rest ≤ length l.fn.piece)

abbrev pub decreases-loop-self : goal.decreases-loop-self
decreases-loop-self l = length l.rest

abbrev pub invariant-loop-rest : goal.invariant-loop-rest
invariant-loop-rest l =
    (read l.rest l.self ≡ read l.fn.piece l.fn.self)
    × (l.before ≡ before l.fn.piece l.fn.self)
    × (l.before ≤ length l.fn.piece)

abbrev pub decreases-loop-rest : goal.decreases-loop-rest
decreases-loop-rest l = length l.rest
