-- The events that are held, of which some are cells that lie row by row.
use Rattle.std.specs.Prelude.{◌≡◌, ◌++◌, List, drop, true}
use Rattle.cqlp_build.specs.declared.item.Item.{Item}
use Rattle.cqlp_build.specs.declared.held_events.HeldEvents.TheInside.{Inside}
use Rattle.cqlp_build.specs.CellSizes.{IsSizeOf}
use Rattle.cqlp_build.specs.Plain.{fits_run, run_items}

-- those before the run, the cells of the run that are left, and those after it
abbrev pub held_items : Inside → List Item
held_items h = (h.head.items ++ run_items h.last h.taken (drop h.taken h.cells.items)) ++ h.tail.items

-- while none of the run was taken, each of its cells is a plain value of its column's kind, and they have the size that was counted
abbrev pub IsRun : Inside → Type 0
IsRun h = h.taken ≡ 0 → (fits_run h.last 0 h.kinds.items h.cells.items ≡ true) × IsSizeOf h.size h.cells.items
