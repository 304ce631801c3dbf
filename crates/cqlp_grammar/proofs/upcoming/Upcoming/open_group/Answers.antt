use Rattle.std.proofs.Common.{◌≡◌, length, arith, rules}
use Rattle.cqlp_note.specs.declared.field.Field.TheVariants.{TraceId}
use Rattle.cqlp_note.specs.declared.field.Notation.TheVariants.{Byte}
use Rattle.cqlp_grammar.specs.declared.grammar.Role.TheVariants.{Alone}
use Rattle.cqlp_grammar.specs.declared.productions.Expected.TheVariants.{Field}
use Rattle.cqlp_grammar.specs.declared.upcoming.Slot.{Slot}
use Rattle.cqlp_grammar.specs.declared.upcoming.Slot.TheVariants.{One, Many}
use Rattle.cqlp_grammar.proofs.Stack.{fewer-fits, fewer-opens, opens_one, passes_one, popped-fits, popped_last}
use Rattle.cqlp_grammar.proofs.upcoming.Upcoming.open_group.Goals as goal

abbrev none : Slot
none = One (Field (record { field = TraceId; notation = Byte; role = Alone }))

pub invariant_of-self : goal.invariant_of-self
invariant_of-self c =
    let long : length c.self.inside.slots ≡ 16 = search rules in
    let le = c.self.invariant.0 in
    let less = c.count_down.ensures c.in-Many.group c.in-Many.left c.in-Many.is c.if-left-gt1.true in
    (omega arith, fewer-fits c.self.inside.slots c.self.inside.len none (omega arith) (omega arith) c.in-Many.group c.in-Many.left c.count_down.new.self less c.in-Many.is c.if-left-gt1.true c.self.invariant.1)

pub invariant_of-self-else-left-gt1 : goal.invariant_of-self-else-left-gt1
invariant_of-self-else-left-gt1 c =
    let long : length c.self.inside.slots ≡ 16 = search rules in
    let le = c.self.invariant.0 in
    (omega arith, (popped-fits c.self.inside.slots c.self.inside.len none (omega arith) (omega arith) c.self.invariant.1).0)

pub invariant_of-self-in-One : goal.invariant_of-self-in-One
invariant_of-self-in-One c =
    let long : length c.self.inside.slots ≡ 16 = search rules in
    let le = c.self.invariant.0 in
    (omega arith, (popped-fits c.self.inside.slots c.self.inside.len none (omega arith) (omega arith) c.self.invariant.1).0)

pub returns-then-left-gt1 : goal.returns-then-left-gt1
returns-then-left-gt1 c =
    let long : length c.self.inside.slots ≡ 16 = search rules in
    let le = c.self.invariant.0 in
    let less = c.count_down.ensures c.in-Many.group c.in-Many.left c.in-Many.is c.if-left-gt1.true in
    rw (← c.self.view_is) (fewer-opens c.self.inside.slots c.self.inside.len none (omega arith) (omega arith) c.in-Many.group c.in-Many.left c.count_down.new.self less c.in-Many.is c.if-left-gt1.true c.self.invariant.1)

pub returns-else-left-gt1 : goal.returns-else-left-gt1
returns-else-left-gt1 c =
    let long : length c.self.inside.slots ≡ 16 = search rules in
    let le = c.self.invariant.0 in
    let last = popped_last c.self.inside.slots c.self.inside.len none (omega arith) (omega arith) (Many c.in-Many.group c.in-Many.left) c.in-Many.is c.self.invariant.1 in
    rw (← c.self.view_is) (opens_one _ _ c.in-Many.group c.in-Many.left last c.if-left-gt1.false)

pub returns-in-One : goal.returns-in-One
returns-in-One c =
    let long : length c.self.inside.slots ≡ 16 = search rules in
    let le = c.self.invariant.0 in
    let last = popped_last c.self.inside.slots c.self.inside.len none (omega arith) (omega arith) (One c.in-One.field-0) c.in-One.is c.self.invariant.1 in
    rw (← c.self.view_is) (passes_one _ _ c.in-One.field-0 last)
