use Rattle.std.proofs.Common.{◌+◌, ◌*◌, length, map}
use Rattle.cqlp_type.specs.TypeTrees.{tree_of}
use Rattle.cqlp_build.specs.FrameEvents.{HoldsNoMore}
use Rattle.cqlp_build.specs.Types.{field_events, is_built_field, is_built_type, type_events}
use Rattle.cqlp_build.proofs.Several.{Remains}
use Rattle.cqlp_build.proofs.TypeParts.{field_of}
use Rattle.cqlp_build.proofs.held.FrameEvents.+types.Given as goal

-- each type in a type has fewer events
abbrev pub decreases-tree : goal.decreases-tree
decreases-tree l = 3 * length l.self.now.items.items

abbrev pub decreases-tree_of : goal.decreases-tree_of
decreases-tree_of l = 3 * length l.self.now.items.items + 2

abbrev pub decreases-types : goal.decreases-types
decreases-types l = 3 * length l.self.now.items.items + 1

abbrev pub decreases-fields : goal.decreases-fields
decreases-fields l = 3 * length l.self.now.items.items + 1

abbrev pub invariant-types-loop : goal.invariant-types-loop
invariant-types-loop l = record {
  remains : Remains type_events is_built_type l.count l.fn.self l.self l.counter (map tree_of l.types.items);
  fewer : HoldsNoMore l.fn.self l.self;
}

abbrev pub invariant-fields-loop : goal.invariant-fields-loop
invariant-fields-loop l = record {
  remains : Remains field_events is_built_field l.count l.fn.self l.self l.counter (map field_of l.fields.items);
  fewer : HoldsNoMore l.fn.self l.self;
}
