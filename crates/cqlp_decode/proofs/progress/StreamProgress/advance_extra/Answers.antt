use Rattle.cqlp_decode.proofs.Steps.{extra_hands}
use Rattle.cqlp_decode.proofs.progress.StreamProgress.advance_extra.Goals as goal

pub returns-clause-moves : goal.returns-clause-moves
returns-clause-moves c = λ q idle. extra_hands c.args.self.now c.end_frame.new.self q c.args.input.now c.min-used.result c.end_frame.ensures c.requires.here c.requires.bounded.inside c.requires.came c.min-used.ensures c.if-self-used.false
