use Rattle.cqlp_loop.proofs.inbox.Inbox.rest.Goals as goal

pub returns-in-Ok-Tail : goal.returns-in-Ok-Tail
returns-in-Ok-Tail g c =
    let p = rw c.in-Ok-Tail.field-0-is at c.in-Ok-Tail.ensures in
    (p.1, p.2)
