use Rattle.std.proofs.Common.{List, ℕ, take, drop, ap, ◌∙◌, arith}
use Rattle.cqlp_encode.proofs.Few.{few_put}
use Rattle.cqlp_encode.proofs.staged.Staged.put_number.Goals as goal

pub returns : goal.returns
returns g c =
    let front = c.copy_from_slice.ensures.after ∙ ap (λ (t : List ℕ). take 4 (drop 4 t)) c.to_be_bytes.ensures in
    few_put _ _ _ c.args.content.now _ _ _ _ _ c.copy_from_slice-2.ensures.after front c.copy_from_slice.ensures.len (omega arith) c.put_few.ensures
