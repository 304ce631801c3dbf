use Rattle.std.proofs.Common.{take}
use Rattle.std.specs.List.{flat_map}
use Rattle.cqlp_message.specs.PartRefs.{Takes}
use Rattle.cqlp_message.proofs.walk.walk_each.Given as goal

-- the parts of the items so far are taken
abbrev pub invariant-loop-item : goal.invariant-loop-item
invariant-loop-item g l = Takes g.V.TakesParts.taken l.fn.visitor l.visitor (flat_map (λ x. g.T.HasParts.parts (g.T.HasParts.value x)) (take l.item-index l.items))
