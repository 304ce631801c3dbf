-- The events that are held, as contracts see them.
use Rattle.std.specs.Prelude.{List}
use Rattle.cqlp_build.specs.declared.item.Item.{Item}

-- all, in their order
pub record Held : Type 0 where
  pub items : List Item
