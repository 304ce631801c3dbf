use Rattle.std.proofs.Common.{ap}
use Rattle.cqlp_loop.specs.Inboxes.{InboxState, for_next}
use Rattle.cqlp_loop.proofs.inbox.Inbox.header.Goals as goal

pub returns-in-Ok-Head : goal.returns-in-Ok-Head
returns-in-Ok-Head g c =
    let p = rw c.in-Ok-Head.field-0-is at c.in-Ok-Head.ensures in
    rw (ap (λ (i : InboxState). for_next i) c.self.view_is) at p.2

pub returns-in-Err : goal.returns-in-Err
returns-in-Err g c = rw (ap (λ (i : InboxState). for_next i) c.self.view_is) at c.in-Err.ensures
