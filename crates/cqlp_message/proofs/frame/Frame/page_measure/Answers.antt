use Rattle.std.proofs.Common.{◌≡◌, Err, sym, ap, ◌∙◌, rules}
use Rattle.cqlp_message.specs.Frames.{frame_size, if_none}
use Rattle.cqlp_message.specs.Owned.{frame_of}
use Rattle.cqlp_message.proofs.Tallies.{first_of_page}
use Rattle.cqlp_message.proofs.frame.Frame.page_measure.Goals as goal

pub returns-in_err-tally-clause-is : goal.returns-in_err-tally-clause-is
returns-in_err-tally-clause-is c =
    let f = frame_of c.args.self.now in
    let is : c.from_residual.result ≡ Err c.in_err-tally.field-0.0 = search rules in
    is ∙ ap (λ o. if_none o (frame_size f c.args.cells_len)) (sym (first_of_page f c.args.cells_len _ c.in_err-tally.ensures.refused))
