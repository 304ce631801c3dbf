-- No bytes, where no frame of a direction ends.
use Rattle.std.specs.Prelude.{Bool, not, ◌&&◌, ◌==◌, List, length, ℕ}
use Rattle.cqlp_observer.specs.Directions.{is_over}
use Rattle.cqlp_observer.specs.Watches.{Watched, side_of}

-- There is nothing to be reported of these bytes.
abbrev pub has_nothing : (responses : Bool) → List ℕ → Watched → Bool
has_nothing responses b w = (length b == 0) && not (is_over (side_of responses w).heads.stage)
