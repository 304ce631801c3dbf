use Rattle.std.proofs.Common.{sym, ◌∙◌, refl, arith}
use Rattle.cqlp_cell.proofs.Opened.{field_there, field_read}
use Rattle.cqlp_cell.proofs.open_values.OpenValue.pass_item.Goals as goal

pub unwrap-requires : goal.unwrap-requires
unwrap-requires g c = rw c.node.ensures.is (field_there c.args.table.now.nodes c.args.self.now (rw c.in-Fields.is at c.requires))

pub overflow_add-self : goal.overflow_add-self
overflow_add-self g c =
    let read = field_read c.args.table.now.nodes c.args.self.now (rw c.in-Fields.is at c.requires) c.unwrap.result (sym c.node.ensures.is ∙ c.unwrap.ensures) in
    omega (arith, read.1)

pub returns-in-Fields : goal.returns-in-Fields
returns-in-Fields g c =
    let read = field_read c.args.table.now.nodes c.args.self.now (rw c.in-Fields.is at c.requires) c.unwrap.result (sym c.node.ensures.is ∙ c.unwrap.ensures) in
    rw (c.in-Fields.is, read.0) (rw (sym c.in-Fields.is) refl)
