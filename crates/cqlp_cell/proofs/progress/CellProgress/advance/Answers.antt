use Rattle.cqlp_cell.specs.Progress.{state_of}
use Rattle.cqlp_cell.proofs.Emptying.{bare_idle}
use Rattle.cqlp_cell.proofs.progress.CellProgress.advance.Goals as goal

pub empty-requires : goal.empty-requires
empty-requires g c =
    bare_idle c.args.table.now.nodes (state_of c.args.self.now) c.args.partial.now c.args.input.now (state_of c.step-answer.new.self) c.step-answer.new.partial c.requires.joined c.step-answer.result c.is_bare.result c.is_bare.ensures c.if-is_bare.true c.step-answer.ensures.moves
