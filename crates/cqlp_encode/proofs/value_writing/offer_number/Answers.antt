use Rattle.std.proofs.Common.{List, ℕ, take, drop, ap, ◌∙◌, arith}
use Rattle.cqlp_encode.proofs.Calls.{one_call}
use Rattle.cqlp_encode.proofs.Few.{few_offered}
use Rattle.cqlp_encode.proofs.value_writing.offer_number.Goals as goal

pub returns-clause-continued : goal.returns-clause-continued
returns-clause-continued g c =
    let front = c.copy_from_slice.ensures.after ∙ ap (λ (t : List ℕ). take 4 (drop 4 t)) c.to_be_bytes.ensures in
    few_offered _ _ _ c.args.content.now _ _ _ _ _ _ c.copy_from_slice-2.ensures.after front c.copy_from_slice.ensures.len (omega arith) c.offer_after.ensures.continued

pub returns-clause-calls : goal.returns-clause-calls
returns-clause-calls g c = one_call _ _ _ _ c.offer_after.ensures.writes
