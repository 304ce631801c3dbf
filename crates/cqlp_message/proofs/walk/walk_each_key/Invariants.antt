use Rattle.std.proofs.Common.{take, [], ◌∷◌}
use Rattle.std.specs.List.{flat_map}
use Rattle.cqlp_note.specs.declared.field.Field.TheVariants as field
use Rattle.cqlp_message.specs.Bodies.{short}
use Rattle.cqlp_message.specs.PartRefs.{Takes}
use Rattle.cqlp_message.proofs.walk.walk_each_key.Given as goal

-- the parts of the items so far are taken
abbrev pub invariant-loop-key : goal.invariant-loop-key
invariant-loop-key g l = Takes g.V.TakesParts.taken l.fn.visitor l.visitor (flat_map (λ k. short field.KeyIndex k ∷ []) (take l.key-index l.keys))
