-- The limits of a capture that a command line names.
use Rattle.std.specs.Prelude.{◌≤◌, IfSome}
use Rattle.cqlp_options.specs.declared.limits.CaptureLimits.{CaptureLimits}

-- each is in its range; early and text are numbers of MiB
pub record AreWithin (limits : CaptureLimits) : Type 0 where
  pub connections : (1 ≤ limits.connections) × (limits.connections ≤ 1048576)
  pub waiting : (1 ≤ limits.open) × (limits.open ≤ 16777216)
  pub early : (1 ≤ limits.early) × (limits.early ≤ 4096)
  pub text : (1 ≤ limits.text) × (limits.text ≤ 4096)
  pub order : IfSome limits.order (λ packets. packets ≤ 65536)
