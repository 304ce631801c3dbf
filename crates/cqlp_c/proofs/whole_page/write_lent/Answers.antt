use Rattle.std.proofs.Common.{◌++◌, ◌+◌, ◌^◌, ◌<◌, ◌≤◌, ℕ, List, ap, drop, length, subst, sym, ◌∙◌}
use Rattle.cqlp_c.proofs.LentCells.{lent_is}
use Rattle.cqlp_c.proofs.whole_page.write_lent.Goals as goal

pub put_event-requires-clause-short : goal.put_event-requires-clause-short
put_event-requires-clause-short c =
    let is = lent_is c.args.c_event.now c.args.contents.now c.split_at.result.0.now c.content_len.result (length c.args.room.now) c.requires.lent c.requires.writable c.content_len.ensures c.split_at.ensures.front in
    subst (λ (b : List ℕ). length b < 2 ^ 32 + 4) is c.requires.writable.2

pub put_event-requires-clause-room : goal.put_event-requires-clause-room
put_event-requires-clause-room c =
    let is = lent_is c.args.c_event.now c.args.contents.now c.split_at.result.0.now c.content_len.result (length c.args.room.now) c.requires.lent c.requires.writable c.content_len.ensures c.split_at.ensures.front in
    subst (λ (b : List ℕ). length b ≤ length c.args.room.now) is c.requires.writable.3

pub returns-clause-len : goal.returns-clause-len
returns-clause-len c =
    let is = lent_is c.args.c_event.now c.args.contents.now c.split_at.result.0.now c.content_len.result (length c.args.room.now) c.requires.lent c.requires.writable c.content_len.ensures c.split_at.ensures.front in
    c.put_event.ensures.len ∙ ap length (sym is)

pub returns-clause-put : goal.returns-clause-put
returns-clause-put c =
    let is = lent_is c.args.c_event.now c.args.contents.now c.split_at.result.0.now c.content_len.result (length c.args.room.now) c.requires.lent c.requires.writable c.content_len.ensures c.split_at.ensures.front in
    c.put_event.ensures.put ∙ ap (λ (b : List ℕ). b ++ drop c.put_event.result c.args.room.now) (sym is)
