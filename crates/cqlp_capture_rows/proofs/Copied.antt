-- The nodes of a table that is lent.
use Rattle.std.proofs.Common.{◌≡◌, List, Option, Some, None, option_map, refl}
use Rattle.std.specs.Borrow.{Bor}
use Rattle.std.specs.Option.{option_copied}
use Rattle.cqlp_kind.specs.declared.node.Node.{Node}
use Rattle.cqlp_type.specs.Table.{Table}

pub copied_nodes : (r : Option (Bor Table)) → option_map (λ (t : Bor Table). t.now.nodes) r ≡ option_map (λ (t : Table). t.nodes) (option_copied r)
copied_nodes None = refl
copied_nodes (Some t) = refl
