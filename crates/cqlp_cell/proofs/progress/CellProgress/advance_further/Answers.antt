use Rattle.std.proofs.Common.{◌++◌, length, refl, subst}
use Rattle.cqlp_cell.specs.Gathering.{seen_before}
use Rattle.cqlp_cell.specs.Progress.{CellState, state_of}
use Rattle.cqlp_cell.specs.Reading.{HaveCome, Settles, step_says}
use Rattle.cqlp_cell.specs.declared.advance.CellAdvance.TheVariants as advance
use Rattle.cqlp_cell.proofs.Further.{part_conforms, after_other, further_settles}
use Rattle.cqlp_cell.proofs.progress.CellProgress.advance_further.Goals as goal

pub advance_part-answer-requires-clause-conforms : goal.advance_part-answer-requires-clause-conforms
advance_part-answer-requires-clause-conforms g c =
    let r = c.requires in
    part_conforms c.args.table.now.nodes (state_of c.args.self.now) c.args.value r.conforms r.due r.further refl

pub returns-in-More-clause-settles : goal.returns-in-More-clause-settles
returns-in-More-clause-settles g c =
    let r = c.requires in
    let seen = seen_before c.args.begun c.args.partial.now in
    rw c.in-More.is (further_settles c.args.table.now.nodes (state_of c.args.self.now) c.args.value r.conforms r.due r.further c.args.partial.now c.advance_part-answer.new.partial c.args.input.now (seen ++ c.args.input.now) (length seen) (advance.More c.in-More.used) (state_of c.advance_part-answer.new.self) (rw c.in-More.is at c.advance_part-answer.ensures.settles))

pub returns-in_default : goal.returns-in_default
returns-in_default g c =
    let r = c.requires in
    let nodes = c.args.table.now.nodes in
    let old = state_of c.args.self.now in
    let new = state_of c.advance_part-answer.new.self in
    let a = c.advance_part-answer.result in
    let seen = seen_before c.args.begun c.args.partial.now in
    let bytes = seen ++ c.args.input.now in
    let s = further_settles nodes old c.args.value r.conforms r.due r.further c.args.partial.now c.advance_part-answer.new.partial c.args.input.now bytes (length seen) a new c.advance_part-answer.ensures.settles in
    record {
      settles = subst (λ (z : CellState). Settles nodes old c.args.partial.now c.args.input.now (step_says nodes old bytes) (length seen) (HaveCome bytes) a z c.advance_part-answer.new.partial) (after_other a new c.in_default.not-More) s;
      room = c.advance_part-answer.ensures.room;
      limits = c.advance_part-answer.ensures.limits;
    }
