-- What an object of a summary says.
use Rattle.std.specs.Prelude.{ℕ}
use Rattle.cqlp_capture_summary.specs.Tallies.{counted}
use Rattle.cqlp_capture_merge.specs.declared.object.Entry.{Entry}

-- the most nanoseconds that the name took in the capture
abbrev pub most_of : Entry → ℕ
most_of e = counted e.figures.time e.missing
