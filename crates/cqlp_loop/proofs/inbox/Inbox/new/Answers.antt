use Rattle.std.proofs.Common.{◌≡◌, ap}
use Rattle.std.specs.Prelude.{Err}
use Rattle.cqlp_note.specs.Limits.{first_bad}
use Rattle.cqlp_note.specs.declared.limits.TheConstants.Limits.{DEFAULT}
use Rattle.cqlp_loop.proofs.inbox.Inbox.new.Goals as goal

pub unreachable-requires : goal.unreachable-requires
unreachable-requires c =
    let bad : first_bad DEFAULT ≡ Err c.in-Err-BadLimits.field-0-0 = (c.in-Err-BadLimits.ensures.bad c.in-Err-BadLimits.field-0-0).0 (ap (λ x. Err x) c.in-Err-BadLimits.field-0-is) in
    cc
