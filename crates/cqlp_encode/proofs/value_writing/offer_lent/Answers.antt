use Rattle.cqlp_encode.proofs.Calls.{one_call, two_calls}
use Rattle.cqlp_encode.proofs.Lent.{cut_before, then_others}
use Rattle.cqlp_encode.proofs.value_writing.offer_lent.Goals as goal

pub returns-then-taken-lt4-clause-continued : goal.returns-then-taken-lt4-clause-continued
returns-then-taken-lt4-clause-continued g c =
    let len = rw c.to_be_bytes-len.ensures at c.offer_after-taken.ensures.continued in
    cut_before _ _ _ c.args.content.now _ c.if-taken-lt4.true len

pub returns-clause-continued : goal.returns-clause-continued
returns-clause-continued g c =
    let len = rw c.to_be_bytes-len.ensures at c.offer_after-taken.ensures.continued in
    then_others _ _ _ _ c.args.content.now _ _ c.if-taken-lt4.false len c.offer_after.ensures.continued

pub returns-then-taken-lt4-clause-calls : goal.returns-then-taken-lt4-clause-calls
returns-then-taken-lt4-clause-calls g c = one_call _ _ _ _ c.offer_after-taken.ensures.writes

pub returns-clause-calls : goal.returns-clause-calls
returns-clause-calls g c = two_calls _ _ _ _ _ _ c.offer_after-taken.ensures.writes c.offer_after.ensures.writes
