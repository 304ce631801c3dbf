use Rattle.std.proofs.Common.{rules, ◌≡◌, ℕ, refl, sym, ap, ◌∙◌, arith}
use Rattle.cqlp_note.specs.Reader.{Bad}
use Rattle.cqlp_note.specs.Partial.{FieldState}
use Rattle.cqlp_type.specs.declared.remaining.OptionStage.{OptionStage}
use Rattle.cqlp_type.specs.Remaining.{stage_symbols}
use Rattle.cqlp_type.specs.Progress.{TypeState}
use Rattle.cqlp_type.proofs.Calls.{kept, waits_fits, waits_on, field_at, stopped_is, refused_says, ends_fits, ends_on, failed, idle_after}
use Rattle.cqlp_type.proofs.OpenTypes.{reads_waited, reads_handed, reads_over}
use Rattle.cqlp_type.proofs.reader.TypeReader.advance.Goals as goal

pub overflow_add-self : goal.overflow_add-self
overflow_add-self g c =
    let r = c.begin_item.ensures in
    let view = c.self-in-More.view_is in
    let le = rw (← view) at (waits_fits c.args.self.now c.begin_item.new.self c.args.partial.now c.begin_item.new.partial c.args.table.now c.args.input.now r.reader r.shared r.pending r.room c.in-More.used c.advance.new.self c.in-More.ensures) in
    omega (arith, le, c.self-in-More.ranges)

pub returns-in-More : goal.returns-in-More
returns-in-More g c =
    let r = c.begin_item.ensures in
    let view = c.self-in-More.view_is in
    let w = rw (← view) at (waits_on c.args.self.now c.begin_item.new.self c.args.partial.now c.begin_item.new.partial c.args.table.now c.args.input.now r.reader r.shared r.pending r.room c.in-More.used c.advance.new.self c.in-More.ensures) in
    record { is = w; leaves = reads_waited c.args.self.now c.args.partial.now c.args.table.now c.args.input.now _ c.advance.new.self c.args.table.now c.requires.table c.in-More.used w }

pub returns-in-Refused : goal.returns-in-Refused
returns-in-Refused g c =
    let r = c.begin_item.ensures in
    let e = c.in-Refused.ensures in
    let old = c.args.self.now in
    let said = refused_says old c.begin_item.new.self c.args.partial.now c.begin_item.new.partial c.args.table.now c.args.input.now r.reader r.shared r.pending r.room c.in-Refused.refusal.why e.1 in
    let at : c.in-Refused.refusal.at ≡ c.begin_item.new.self.offset = e.0 ∙ field_at old c.begin_item.new.self c.args.partial.now c.begin_item.new.partial c.args.table.now c.args.input.now r.reader r.shared r.pending r.room in
    record {
      is = (
        said ∙ ap (λ (k : ℕ). Bad (k, c.in-Refused.refusal.why)) (sym at),
        c.stop-in-Refused.ensures ∙ stopped_is old c.begin_item.new.self c.args.partial.now c.begin_item.new.partial c.args.table.now c.args.input.now r.reader r.shared r.pending r.room,
        ap (λ (z : FieldState). z.under_way) e.2,
        ap (λ (z : FieldState). z.content) e.2,
        ap (λ (z : FieldState). z.room) e.2 ∙ r.room,
        refl,
      );
      leaves = tt;
    }

pub overflow_add-self-in-Ok : goal.overflow_add-self-in-Ok
overflow_add-self-in-Ok g c =
    let r = c.begin_item.ensures in
    let view = c.self-in-Got.view_is in
    let le = rw (← view) at ((ends_fits c.args.self.now c.begin_item.new.self c.args.partial.now c.begin_item.new.partial c.args.table.now c.args.input.now r.reader r.shared r.pending r.room c.in-Got.used c.in-Got.item c.advance.new.self c.in-Got.ensures.1 c.in-Got.ensures.0).1) in
    omega (arith, le, c.self-in-Got.ranges)

pub overflow_add-self-in-Ok-2 : goal.overflow_add-self-in-Ok-2
overflow_add-self-in-Ok-2 g c =
    let r = c.begin_item.ensures in
    let view = c.self-in-Got.view_is in
    let inside = c.self-in-Got.invariant.0 in
    let le = rw (← view) at ((ends_fits c.args.self.now c.begin_item.new.self c.args.partial.now c.begin_item.new.partial c.args.table.now c.args.input.now r.reader r.shared r.pending r.room c.in-Got.used c.in-Got.item c.advance.new.self c.in-Got.ensures.1 c.in-Got.ensures.0).1) in
    omega (arith, le, inside, c.self-in-Got.ranges)

pub invariant_of-self-in-Ok : goal.invariant_of-self-in-Ok
invariant_of-self-in-Ok g c =
    let r = c.begin_item.ensures in
    let view = c.self-in-Got.view_is in
    let inside = c.self-in-Got.invariant.0 in
    let le = rw (← view) at ((ends_fits c.args.self.now c.begin_item.new.self c.args.partial.now c.begin_item.new.partial c.args.table.now c.args.input.now r.reader r.shared r.pending r.room c.in-Got.used c.in-Got.item c.advance.new.self c.in-Got.ensures.1 c.in-Got.ensures.0).1) in
    (omega (arith, le, inside), (c.in-Ok.ensures.lawful, c.in-Ok.ensures.depth))

pub returns-in-Ok : goal.returns-in-Ok
returns-in-Ok g c =
    let r = c.begin_item.ensures in
    let view = c.self-in-Got.view_is in
    let n = c.self-in-Got.inside in
    let f = c.in-Ok.ensures in
    let w = ends_on c.args.self.now _ c.args.partial.now c.begin_item.new.partial c.args.table.now c.args.input.now (rw (← view) at r.reader) (rw (← view) at r.shared) (rw (← view) at r.pending) r.room c.in-Got.used c.in-Got.item c.advance.new.self c.in-Got.ensures.1 c.in-Got.ensures.0
    c.in-Ok.item _ c.follow.new.self.open_options.height c.follow.new.table (f.follows n.at n.end c.args.input.now c.advance.new.self.content) f.part f.table f.entries in
    rw f.under_way (record { is = w; leaves = reads_handed c.args.self.now c.args.partial.now c.args.table.now c.args.input.now _ c.advance.new.self c.follow.new.table c.requires.table n.at c.in-Got.used c.in-Ok.item w })

pub returns-in-Err : goal.returns-in-Err
returns-in-Err g c =
    let r = c.begin_item.ensures in
    let view = c.self-in-Got.view_is in
    let n = c.self-in-Got.inside in
    let f = c.in-Err.ensures in
    let e = f.follows n.at n.end c.args.input.now c.advance.new.self.content in
    let said = failed c.args.self.now _ c.args.partial.now c.begin_item.new.partial c.args.table.now c.args.input.now (rw (← view) at r.reader) (rw (← view) at r.shared) (rw (← view) at r.pending) r.room c.in-Got.used c.in-Got.item c.advance.new.self c.in-Got.ensures.1 c.in-Got.ensures.0 c.in-Err.why e.0 in
    let idle = idle_after c.args.self.now c.begin_item.new.self c.args.partial.now c.begin_item.new.partial c.args.table.now c.args.input.now r.reader r.shared r.pending r.room c.in-Got.used c.in-Got.item c.advance.new.self c.in-Got.ensures.1 c.in-Got.ensures.0 in
    let stopped = rw (← view) at (stopped_is c.args.self.now c.begin_item.new.self c.args.partial.now c.begin_item.new.partial c.args.table.now c.args.input.now r.reader r.shared r.pending r.room) in
    record { is = (said.0, c.stop-in-Err.ensures ∙ stopped, idle.0, said.1, idle.1, λ i. record { nodes = e.1 i; room = f.table i }); leaves = tt }

pub follow-requires : goal.follow-requires
follow-requires g c =
    let r = c.begin_item.ensures in
    let view = c.self-in-Got.view_is in
    record {
      wanted = search rules;
      lawful = search rules;
      depth = search rules;
      entries = search rules;
      types = rw (← view) at (kept c.args.self.now c.begin_item.new.self c.args.partial.now c.begin_item.new.partial c.args.table.now c.args.input.now r.reader r.shared r.pending r.room c.in-Got.used c.in-Got.item c.advance.new.self c.in-Got.ensures.1 c.in-Got.ensures.0 c.requires.table);
    }

pub returns-in-Done-clause-leaves : goal.returns-in-Done-clause-leaves
returns-in-Done-clause-leaves g c =
    let none = sym (ap (λ (z : TypeState). z.symbols) c.self.view_is) ∙ ap (λ (x : OptionStage). stage_symbols x c.self.inside.remaining.open_options) c.in-Done.is in
    reads_over c.args.self.now c.args.partial.now c.args.table.now c.requires.table c.requires.shared none
