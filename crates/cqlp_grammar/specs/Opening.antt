-- What is due next goes by, or the group that it begins is opened.
use Rattle.std.specs.Prelude.{◌≡◌, ◌+◌, ◌≤◌, ◌++◌, List, length, Option, Some, None}
use Rattle.cqlp_grammar.specs.Productions.{group}
use Rattle.cqlp_grammar.specs.Upcoming.{IsDue, Pops, opened, symbols_in}
use Rattle.cqlp_grammar.specs.declared.grammar.Group.{Group}
use Rattle.cqlp_grammar.specs.declared.productions.Expected.{Expected}
use Rattle.cqlp_grammar.specs.declared.upcoming.Slot.{Slot}

-- Where no group is opened, the field that was due is gone. All fields of a group that is opened are still to be read.
abbrev pub Opens : List Slot → Option Group → List Slot → Type 0
Opens old None new = (o : Option Expected) → IsDue old o → Pops old o new
Opens old (Some g) new = (symbols_in old ≡ group g ++ symbols_in new) × (length new + opened g ≤ 16)
