-- The contents of scalars, as they are written.
use Rattle.std.specs.Prelude.{ℕ, ◌++◌, List}
use Rattle.cqlp_compose.specs.declared.scalar.Content.{Content}
use Rattle.cqlp_compose.specs.declared.scalar.Content.TheVariants as content

-- the bytes of a content
abbrev pub content_in : Content → List ℕ
content_in (content.One c) = c
content_in (content.Two c) = c
content_in (content.Four c) = c
content_in (content.Eight c) = c
content_in (content.Sixteen c) = c
content_in (content.Lent c) = c.now
content_in (content.Decimal scale c) = scale ++ c.now
