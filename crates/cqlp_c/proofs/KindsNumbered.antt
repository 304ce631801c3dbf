-- Kinds, found by their numbers one after the other.
use Rattle.std.specs.Prelude.{Option, Some, None, List, ◌++◌}
use Rattle.cqlp_kind.specs.declared.kind.Kind.{Kind}

-- further kinds after these
abbrev pub behind : List Kind → Option (List Kind) → Option (List Kind)
behind ks None = None
behind ks (Some more) = Some (ks ++ more)
