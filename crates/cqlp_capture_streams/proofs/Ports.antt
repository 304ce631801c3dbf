-- Ports, one after the other.
use Rattle.std.proofs.Common.{◌≡◌, ◌<◌, ◌+◌, ℕ, List, ◌++◌, length, drop, get_or, add-one, refl}
use Rattle.std.proofs.Math.Seq.{drop-cons}
use Rattle.cqlp_capture_streams.specs.Endings.{more_port, more_ports}

-- the next one
pub ports_at : (ps : List ℕ) (i : ℕ) → i < length ps → more_ports (drop i ps) ≡ more_port (get_or ps i 0) ++ more_ports (drop (i + 1) ps)
ports_at ps i within = rw (add-one, drop-cons ps i 0 within) refl
