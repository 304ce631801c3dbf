-- The ports that a command line names.
use Rattle.std.specs.Prelude.{ℕ, ◌≤◌, List, take}
use Rattle.cqlp_options.specs.declared.capture.Ports.{Ports}

abbrev pub named : Ports → List ℕ
named p = take p.count p.numbers

-- 1 to 16 are named
abbrev pub AreWithin : Ports → Type 0
AreWithin p = (1 ≤ p.count) × (p.count ≤ 16)
