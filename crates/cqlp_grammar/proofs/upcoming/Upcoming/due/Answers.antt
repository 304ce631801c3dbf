use Rattle.std.proofs.Common.{◌≡◌, length, arith, rules}
use Rattle.cqlp_note.specs.declared.field.Field.TheVariants.{TraceId}
use Rattle.cqlp_note.specs.declared.field.Notation.TheVariants.{Byte}
use Rattle.cqlp_grammar.specs.declared.grammar.Role.TheVariants.{Alone}
use Rattle.cqlp_grammar.specs.declared.productions.Expected.TheVariants.{Field}
use Rattle.cqlp_grammar.specs.declared.upcoming.Slot.{Slot}
use Rattle.cqlp_grammar.specs.declared.upcoming.Slot.TheVariants.{One, Many}
use Rattle.cqlp_grammar.proofs.Stack.{popped_last, due_one, due_many}
use Rattle.cqlp_grammar.proofs.upcoming.Upcoming.due.Goals as goal

abbrev none : Slot
none = One (Field (record { field = TraceId; notation = Byte; role = Alone }))

pub returns-in-One : goal.returns-in-One
returns-in-One c =
    let long : length c.self.inside.slots ≡ 16 = search rules in
    let le = c.self.invariant.0 in
    let last = popped_last c.self.inside.slots c.self.inside.len none (omega arith) (omega arith) (One c.in-One.due) c.in-One.is c.self.invariant.1 in
    rw (← c.self.view_is) (due_one _ _ c.in-One.due last)

pub returns-in-Many : goal.returns-in-Many
returns-in-Many c =
    let long : length c.self.inside.slots ≡ 16 = search rules in
    let le = c.self.invariant.0 in
    let last = popped_last c.self.inside.slots c.self.inside.len none (omega arith) (omega arith) (Many c.in-Many.group c.in-Many.field-1) c.in-Many.is c.self.invariant.1 in
    rw (← c.self.view_is) (due_many _ _ c.in-Many.group c.in-Many.field-1 c.group_fields.result.now _ last c.group_fields.ensures.fields c.group_fields.ensures.some c.group_fields.ensures.read)
