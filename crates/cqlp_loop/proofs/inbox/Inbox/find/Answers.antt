use Rattle.std.proofs.Common.{◌+◌, ◌-◌, take, drop, ap, sym, ◌∙◌, arith}
use Rattle.std.proofs.lemmas.List.{length-take}
use Rattle.cqlp_loop.specs.Inboxes.{InboxState}
use Rattle.cqlp_loop.proofs.Pulling.{waiting_split}
use Rattle.cqlp_loop.proofs.inbox.Inbox.find.Goals as goal

pub returns-in-Found : goal.returns-in-Found
returns-in-Found c =
    let e = c.in-Found.ensures in (
      ap (λ (i : InboxState). i.reads) c.self.view_is,
      e.1,
      record {
        stops = rw (← c.self.view_is) e.2;
        waiting = omega (arith, c.self.invariant, length-take (c.self.inside.end - (c.self.inside.next + c.in-Found.used)) (drop (c.self.inside.next + c.in-Found.used) c.self.inside.piece));
      },
      λ hs. record {
        used = take c.in-Found.used (take (c.self.inside.end - c.self.inside.next) (drop c.self.inside.next c.self.inside.piece));
        split = ap (λ (i : InboxState). i.waiting) (sym c.self.view_is) ∙ waiting_split c.self.inside.next c.self.inside.end c.in-Found.used c.self.inside.piece e.0;
        emits = rw (← c.self.view_is) (e.3 hs);
      },
    )
