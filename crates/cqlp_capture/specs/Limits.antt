-- The caller's limits.
use Rattle.std.specs.Prelude.{Bool, ◌&&◌, nat_le}
use Rattle.cqlp_capture.specs.declared.limits.CaptureLimits.{CaptureLimits}

-- 64 to 16,777,216 bytes of a packet, and 1 to 65,536 interfaces
abbrev pub is_in_range : CaptureLimits → Bool
is_in_range l =
    nat_le 64 l.packet && nat_le l.packet 16777216 && nat_le 1 l.interfaces && nat_le l.interfaces 65536
