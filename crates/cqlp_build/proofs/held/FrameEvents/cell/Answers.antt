use Rattle.std.proofs.Common.{refl, ap, ◌∙◌}
use Rattle.cqlp_type.specs.Trees.{kind_in, types_in}
use Rattle.cqlp_type.specs.TypeTrees.{head_of, inner_of}
use Rattle.cqlp_value.specs.Values.{NoValue, Null_and}
use Rattle.cqlp_build.specs.declared.held.FrameEvents.{FrameEvents}
use Rattle.cqlp_build.specs.FrameEvents.{first_fault}
use Rattle.cqlp_build.proofs.Cells.{not_gathered, still_not_gathered, still_sound, value_built, value_refused}
use Rattle.cqlp_build.proofs.held.FrameEvents.cell.Goals as goal

pub returns-then-not-gather : goal.returns-then-not-gather
returns-then-not-gather c =
    not_gathered c.args.row c.args.column (kind_in (head_of c.args.tree.now)) (types_in (inner_of c.args.tree.now)) c.args.self.now c.take_front.new.self c.refuse.new.self (Null_and NoValue)
    (still_not_gathered c.args.row c.args.column c.args.self.now c.gather.new.self c.take_front.new.self c.if-not-gather.ensures c.take_front.ensures)
    (ap (λ (h : FrameEvents). h.fault) c.refuse.ensures)

pub take_front-requires : goal.take_front-requires
take_front-requires c = λ s. c.requires (still_sound c.args.row c.args.column c.args.self.now c.gather.new.self c.if-not-gather.ensures s)

pub returns-in-Ok : goal.returns-in-Ok
returns-in-Ok c =
    value_built c.args.row c.args.column (kind_in (head_of c.args.tree.now)) (types_in (inner_of c.args.tree.now)) c.args.self.now c.gather.new.self (record c.gather.new.self { cell = c.whole.new.self })
    refl refl c.if-not-gather.ensures c.in-Ok.value c.in-Ok.ensures

pub returns-in-Err : goal.returns-in-Err
returns-in-Err c =
    value_refused c.args.row c.args.column (kind_in (head_of c.args.tree.now)) (types_in (inner_of c.args.tree.now)) c.args.self.now c.gather.new.self c.refuse-in-Err.new.self c.if-not-gather.ensures (Null_and NoValue)
    c.in-Err.why c.in-Err.ensures (ap (λ (h : FrameEvents). h.fault) c.refuse-in-Err.ensures ∙ ap (first_fault c.gather.new.self.fault) c.fault.ensures)
