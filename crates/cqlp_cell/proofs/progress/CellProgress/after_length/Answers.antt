use Rattle.std.proofs.Common.{◌^◌, ◌<◌, ℕ, drop, refl, sym, subst, arith}
use Rattle.cqlp_cell.specs.declared.size.Sized.TheVariants as size
use Rattle.cqlp_cell.specs.Progress.{state_of, due_value}
use Rattle.cqlp_cell.specs.Reading.{Decided}
use Rattle.cqlp_cell.proofs.Settling.{value_decided, refused_fails, null_hands, empty_hands, fields_hands}
use Rattle.cqlp_cell.proofs.progress.CellProgress.after_length.Goals as goal

pub advance_scalar-requires : goal.advance_scalar-requires
advance_scalar-requires g c =
    let r = c.requires in
    let nodes = c.args.table.now.nodes in
    let old = state_of c.args.self.now in
    let h = c.in-Scalar.ensures in
    let s = size.Scalar c.in-Scalar.len in
    record {
      conforms = r.conforms;
      due = r.due;
      value = r.value;
      decided = subst (λ (n : ℕ). Decided nodes old n s) (sym h.can.0) (value_decided nodes old c.args.value c.args.len s r.value h);
      under_way = r.idle;
      longest = r.longest;
      within = r.within;
      front = r.front;
      some = omega (arith, r.some);
    }

pub advance_first-requires : goal.advance_first-requires
advance_first-requires g c =
    let r = c.requires in
    let nodes = c.args.table.now.nodes in
    let old = state_of c.args.self.now in
    let h = c.in-Parts.ensures in
    let s = size.Parts c.in-Parts.len in
    record {
      conforms = r.conforms;
      due = r.due;
      decided = subst (λ (n : ℕ). Decided nodes old n s) (sym h.can.0) (value_decided nodes old c.args.value c.args.len s r.value h);
      under_way = r.idle;
      longest = r.longest;
      parts = r.parts h.can.2;
      within = r.within;
      front = r.front;
      some = omega (arith, r.some);
    }

pub advance_count-requires : goal.advance_count-requires
advance_count-requires g c =
    let r = c.requires in
    let nodes = c.args.table.now.nodes in
    let old = state_of c.args.self.now in
    let h = c.in-Counted.ensures in
    let s = size.Counted c.in-Counted.len in
    record {
      conforms = r.conforms;
      due = r.due;
      value = r.value;
      decided = subst (λ (n : ℕ). Decided nodes old n s) (sym h.can.0) (value_decided nodes old c.args.value c.args.len s r.value h);
      under_way = r.idle;
      longest = r.longest;
      levels = r.levels;
      within = r.within;
      front = r.front;
      some = omega (arith, r.some);
    }

pub enter_fields-item-requires : goal.enter_fields-item-requires
enter_fields-item-requires g c =
    let r = c.requires in
    let nodes = c.args.table.now.nodes in
    let old = state_of c.args.self.now in
    let h = c.in-Fields.ensures in
    let s = size.Fields c.in-Fields.len in
    record {
      conforms = r.conforms;
      due = r.due;
      value = r.value;
      decided = subst (λ (n : ℕ). Decided nodes old n s) (sym h.can.0) (value_decided nodes old c.args.value c.args.len s r.value h);
      levels = r.levels;
    }

pub returns-in-Scalar : goal.returns-in-Scalar
returns-in-Scalar g c =
    let e = c.advance_scalar.ensures in
    record { settles = rw c.in-Scalar.ensures.can.0 at e.settles; room = e.room; limits = e.limits }

pub returns-in-Parts : goal.returns-in-Parts
returns-in-Parts g c =
    let e = c.advance_first.ensures in
    record { settles = rw c.in-Parts.ensures.can.0 at e.settles; room = e.room; limits = e.limits }

pub returns-in-Counted : goal.returns-in-Counted
returns-in-Counted g c =
    let e = c.advance_count.ensures in
    record { settles = rw c.in-Counted.ensures.can.0 at e.settles; room = e.room; limits = e.limits }

pub returns-in-Null-clause-settles : goal.returns-in-Null-clause-settles
returns-in-Null-clause-settles g c =
    let r = c.requires in
    let h = value_decided c.args.table.now.nodes (state_of c.args.self.now) c.args.value c.args.len _ r.value c.in-Null.ensures in
    let pass = c.pass_length.ensures in
    rw pass.answer (null_hands c.args.table.now.nodes (state_of c.args.self.now) (state_of c.pass_length.new.self) c.args.len c.args.start c.args.partial.now c.args.partial.now c.args.input.now r.conforms r.due r.room r.within r.front r.some r.idle refl c.len-level.result h c.len-level.ensures.is pass.state)

pub returns-in-Empty-clause-settles : goal.returns-in-Empty-clause-settles
returns-in-Empty-clause-settles g c =
    let r = c.requires in
    let h = value_decided c.args.table.now.nodes (state_of c.args.self.now) c.args.value c.args.len _ r.value c.in-Empty.ensures in
    let pass = c.pass_length-in-Empty.ensures in
    rw pass.answer (empty_hands c.args.table.now.nodes (state_of c.args.self.now) (state_of c.pass_length-in-Empty.new.self) c.args.len c.args.start c.args.partial.now c.args.partial.now c.args.input.now r.conforms r.due r.room r.within r.front r.some r.idle refl c.len-level.result h c.len-level.ensures.is pass.state)

pub returns-in-Fields-clause-settles : goal.returns-in-Fields-clause-settles
returns-in-Fields-clause-settles g c =
    let r = c.requires in
    let sized = c.in-Fields.ensures in
    let h = value_decided c.args.table.now.nodes (state_of c.args.self.now) c.args.value c.args.len _ r.value sized in
    let low : (due_value c.args.table.now.nodes (state_of c.args.self.now)).arity < 2 ^ 16 = rw (← r.value) (omega arith) in
    let enter = c.enter_fields-item.ensures in
    rw (enter.item, r.value) (fields_hands c.args.table.now.nodes (state_of c.args.self.now) (state_of c.enter_fields-item.new.self) c.args.len c.args.start c.args.partial.now c.args.partial.now c.args.input.now r.conforms r.due r.room r.within r.front r.some r.idle refl (rw sized.can.0 at h) low (rw sized.can.0 at enter.enters))

pub returns-in-Refused-clause-settles : goal.returns-in-Refused-clause-settles
returns-in-Refused-clause-settles g c =
    let r = c.requires in
    let h = value_decided c.args.table.now.nodes (state_of c.args.self.now) c.args.value c.args.len _ r.value c.in-Refused.ensures in
    let refuse = c.refuse.ensures in
    rw refuse.answer (refused_fails c.args.table.now.nodes (state_of c.args.self.now) c.args.len (drop c.args.start c.args.input.now) _ c.args.partial.now c.args.partial.now (state_of c.refuse.new.self) h refuse.state r.idle refl)
