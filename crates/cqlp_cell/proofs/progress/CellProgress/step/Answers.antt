use Rattle.std.proofs.Common.{sym, ◌∙◌, arith}
use Rattle.cqlp_cell.specs.Progress.{state_of}
use Rattle.cqlp_cell.proofs.Closing.{resumed, moves_by, moves_afresh, settles_answers, close_some}
use Rattle.cqlp_cell.proofs.progress.CellProgress.step.Goals as goal

pub returns-in-Close-clause-moves : goal.returns-in-Close-clause-moves
returns-in-Close-clause-moves g c =
    moves_afresh c.args.table.now.nodes (state_of c.args.self.now) c.args.partial.now c.args.input.now c.leave.result (state_of c.leave.new.self) c.leave.new.partial c.in-Nothing.is c.leave.ensures.settles

pub returns-in-Scalar-clause-moves : goal.returns-in-Scalar-clause-moves
returns-in-Scalar-clause-moves g c =
    let r = c.requires in
    let nodes = c.args.table.now.nodes in
    let old = state_of c.args.self.now in
    let arrived = rw c.in-Scalar.is at r.joined.under_way in
    let s = c.advance_scalar.ensures.settles in
    moves_by nodes old c.args.partial.now c.args.input.now _ _ _ c.advance_scalar.result (state_of c.advance_scalar.new.self) c.advance_scalar.new.partial s
    (λ b come. resumed nodes old c.args.partial.now c.args.input.now c.in-Scalar.len r.conforms arrived.0 (omega (arith, arrived.2.fits.0)) b _ _ _ (rw c.in-Scalar.is at come) s)

pub returns-in-Counted-clause-moves : goal.returns-in-Counted-clause-moves
returns-in-Counted-clause-moves g c =
    let r = c.requires in
    let nodes = c.args.table.now.nodes in
    let old = state_of c.args.self.now in
    let arrived = rw c.in-Counted.is at r.joined.under_way in
    let s = c.advance_count.ensures.settles in
    moves_by nodes old c.args.partial.now c.args.input.now _ _ _ c.advance_count.result (state_of c.advance_count.new.self) c.advance_count.new.partial s
    (λ b come. resumed nodes old c.args.partial.now c.args.input.now c.in-Counted.len r.conforms arrived.0 (omega (arith, arrived.2.fits.0)) b _ _ _ (rw c.in-Counted.is at come) s)

pub returns-in-First-clause-moves : goal.returns-in-First-clause-moves
returns-in-First-clause-moves g c =
    let r = c.requires in
    let nodes = c.args.table.now.nodes in
    let old = state_of c.args.self.now in
    let arrived = rw c.in-First.is at r.joined.under_way in
    let s = c.advance_first.ensures.settles in
    moves_by nodes old c.args.partial.now c.args.input.now _ _ _ c.advance_first.result (state_of c.advance_first.new.self) c.advance_first.new.partial s
    (λ b come. resumed nodes old c.args.partial.now c.args.input.now c.in-First.total r.conforms arrived.0 (omega (arith, arrived.2.fits.0)) b _ _ _ (rw c.in-First.is at come) s)

pub returns-in-Close-clause-answers : goal.returns-in-Close-clause-answers
returns-in-Close-clause-answers g c =
    settles_answers c.args.table.now.nodes (state_of c.args.self.now) c.args.partial.now c.args.input.now _ _ _ c.leave.result (state_of c.leave.new.self) c.leave.new.partial c.leave.ensures.settles
    (close_some (state_of c.args.self.now) _ (sym c.due.ensures ∙ c.in-Close.is))

pub leave-requires : goal.leave-requires
leave-requires g c =
    let r = c.requires in
    record {
      conforms = r.conforms;
      due = sym c.due.ensures ∙ c.in-Close.is;
      fresh = c.in-Nothing.is;
      idle = rw c.in-Nothing.is at r.joined.under_way;
      longest = r.joined.longest;
    }

pub advance_length-requires : goal.advance_length-requires
advance_length-requires g c =
    let r = c.requires in
    record {
      conforms = r.conforms;
      due = sym c.due.ensures ∙ c.in-Value.is;
      under_way = rw c.in-Nothing.is at r.joined.under_way;
      longest = r.joined.longest;
      levels = r.levels;
      parts = r.parts;
    }

pub advance_length-requires-in-Length : goal.advance_length-requires-in-Length
advance_length-requires-in-Length g c =
    let r = c.requires in
    let arrived = rw c.in-Length.is at r.joined.under_way in
    record {
      conforms = r.conforms;
      due = arrived.0;
      under_way = arrived.1;
      longest = r.joined.longest;
      levels = r.levels;
      parts = r.parts;
    }

pub advance_scalar-requires : goal.advance_scalar-requires
advance_scalar-requires g c =
    let r = c.requires in
    let arrived = rw c.in-Scalar.is at r.joined.under_way in
    record {
      conforms = r.conforms;
      due = arrived.0;
      value = c.value-value.ensures;
      decided = arrived.2;
      under_way = arrived.1;
      longest = r.joined.longest;
      within = omega arith;
      front = omega arith;
      some = omega (arith, arrived.1.3);
    }

pub advance_count-requires : goal.advance_count-requires
advance_count-requires g c =
    let r = c.requires in
    let arrived = rw c.in-Counted.is at r.joined.under_way in
    record {
      conforms = r.conforms;
      due = arrived.0;
      value = c.value-value-in-Counted.ensures;
      decided = arrived.2;
      under_way = arrived.1;
      longest = r.joined.longest;
      levels = r.levels;
      within = omega arith;
      front = omega arith;
      some = omega (arith, arrived.1.4);
    }

pub advance_first-requires : goal.advance_first-requires
advance_first-requires g c =
    let r = c.requires in
    let arrived = rw c.in-First.is at r.joined.under_way in
    record {
      conforms = r.conforms;
      due = arrived.0;
      decided = arrived.2;
      under_way = arrived.1;
      longest = r.joined.longest;
      parts = r.parts arrived.2.can.2;
      within = omega arith;
      front = omega arith;
      some = omega (arith, arrived.1.3);
    }
