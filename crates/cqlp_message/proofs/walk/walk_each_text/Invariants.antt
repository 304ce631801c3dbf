use Rattle.std.proofs.Common.{take, [], ◌∷◌}
use Rattle.std.specs.List.{flat_map}
use Rattle.std.specs.Prelude.{string_bytes}
use Rattle.cqlp_message.specs.Bodies.{text}
use Rattle.cqlp_message.specs.PartRefs.{Takes}
use Rattle.cqlp_message.proofs.walk.walk_each_text.Given as goal

-- the parts of the items so far are taken
abbrev pub invariant-loop-text : goal.invariant-loop-text
invariant-loop-text g l = Takes g.V.TakesParts.taken l.fn.visitor l.visitor (flat_map (λ t. text l.field (string_bytes t) ∷ []) (take l.text-index l.texts))
