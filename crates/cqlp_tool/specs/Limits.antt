-- What is kept of a capture, by the options.
use Rattle.std.specs.Prelude.{ℕ, ◌*◌, Option, Some, None}
use Rattle.cqlp_options.specs.declared.limits.CaptureLimits.{CaptureLimits}
use Rattle.cqlp_capture_exchanges.specs.declared.pool.ExchangeLimits.{ExchangeLimits}
use Rattle.cqlp_capture_streams.specs.declared.buffering.Buffering.{Buffering}
use Rattle.cqlp_capture_streams.specs.declared.buffering.Buffering.TheVariants as buffering
use Rattle.cqlp_capture_streams.specs.declared.limits.StreamsLimits.{StreamsLimits}

-- so many MiB in bytes
abbrev pub mebibytes : ℕ → ℕ
mebibytes n = n * 1048576

-- how many packets wait to be put in order: the number that is given, and else 1,000 of a regular file, whose lines are written in blocks, and
-- none of any other
abbrev pub window_of : (given : Option ℕ) → Buffering → ℕ
window_of (Some packets) b = packets
window_of None buffering.Block = 1000
window_of None buffering.Line = 0

-- Each direction holds at most 1 MiB of what came early. Packets wait to be put in order that are captured at most one second apart, with at
-- most 1.5 MiB.
abbrev pub streams_limits_of : Buffering → CaptureLimits → StreamsLimits
streams_limits_of b l = record {
  connections = record { connections = l.connections; early = mebibytes l.early; early_each = 1048576 };
  order = record { packets = window_of l.order b; nanoseconds = 1000000000; bytes = 1572864 };
}

abbrev pub exchange_limits_of : CaptureLimits → ExchangeLimits
exchange_limits_of l = record { «open» = l.open; text = mebibytes l.text }
