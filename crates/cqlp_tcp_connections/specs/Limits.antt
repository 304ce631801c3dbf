-- The caller's limits.
use Rattle.std.specs.Prelude.{Bool, ◌&&◌, nat_le}
use Rattle.cqlp_tcp_connections.specs.declared.limits.ConnectionLimits.{ConnectionLimits}

-- 1 to 1,048,576 connections
abbrev pub is_in_range : ConnectionLimits → Bool
is_in_range l = nat_le 1 l.connections && nat_le l.connections 1048576
