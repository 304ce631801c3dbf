use Rattle.std.proofs.Common.{◌≡◌, ◌∙◌, List, refl, sym, ap, arith}
use Rattle.cqlp_note.specs.declared.field.Field.TheVariants as field
use Rattle.cqlp_note.specs.Field.{Count}
use Rattle.cqlp_note.specs.Partial.{item_value}
use Rattle.cqlp_note.specs.Step.{Emit}
use Rattle.cqlp_kind.specs.declared.node.Node.{Node}
use Rattle.cqlp_kind.specs.TypeStep.{TypeSymbol, TypeEvent, IsField, TypePlace, type_place}
use Rattle.cqlp_type.specs.Table.{Table}
use Rattle.cqlp_type.specs.Remaining.{symbols_of}
use Rattle.cqlp_type.proofs.Nodes.{length_with_arity}
use Rattle.cqlp_type.proofs.remaining.Remaining.follow.Goals as goal

emits_at : (p : TypePlace) (e : TypeEvent) (x y : List TypeSymbol × List Node) → x ≡ y → Emit p.offset e (type_place p y) ≡ Emit p.offset e (type_place p x)
emits_at p e x y is = ap (λ (z : List TypeSymbol × List Node). Emit p.offset e (type_place p z)) (sym is)

pub returns-in-Id : goal.returns-in-Id
returns-in-Id g c =
    let f = c.take_id.ensures in
    record {
      lawful = f.lawful;
      depth = f.depth;
      under_way = f.under_way;
      table = f.table;
      entries = f.entries;
      part = rw c.in-Id.is f.part;
      follows = λ at stop input buffer. f.follows at stop (item_value c.args.item input buffer) input buffer (c.number_in.ensures.value input buffer);
    }

pub returns-in-Fields : goal.returns-in-Fields
returns-in-Fields g c =
    let e = c.enter_option-self.ensures in
    let n = c.number_in-count.result in
    let is = rw c.set_arity.ensures at e.is in
    record {
      lawful = omega (arith, e.closed, e.within, e.around);
      depth = e.around ∙ c.requires.depth;
      under_way = e.under_way;
      table = e.table ∙ ap (λ (t : Table). t.room) c.set_arity.ensures;
      entries = rw (e.same, c.set_arity.ensures, length_with_arity n c.args.table.now.nodes) (λ few. few);
      part = rw c.in-Fields.is (c.into.result, refl);
      follows = λ at stop input buffer.
          let p : TypePlace = record { offset = at; stop = stop; symbols = symbols_of c.args.self.now; nodes = c.args.table.now.nodes } in
          rw (c.in-Fields.is, c.number_in-count.ensures.value input buffer, c.into.ensures) (emits_at p (IsField field.Fields (Count n)) _ _ is);
    }

pub returns-in-Name : goal.returns-in-Name
returns-in-Name g c = record {
  lawful = rw c.in-Name.is at c.requires.lawful;
  depth = c.requires.depth;
  under_way = refl;
  table = refl;
  entries = λ few. few;
  part = rw c.in-Name.is refl;
  follows = rw c.in-Name.is (λ at stop input buffer. refl);
}

pub returns-in-Keyspace : goal.returns-in-Keyspace
returns-in-Keyspace g c = record {
  lawful = rw c.in-Keyspace.is at c.requires.lawful;
  depth = c.requires.depth;
  under_way = refl;
  table = refl;
  entries = λ few. few;
  part = rw c.in-Keyspace.is refl;
  follows = rw c.in-Keyspace.is (λ at stop input buffer. refl);
}

pub returns-in-TypeName : goal.returns-in-TypeName
returns-in-TypeName g c = record {
  lawful = rw c.in-TypeName.is at c.requires.lawful;
  depth = c.requires.depth;
  under_way = refl;
  table = refl;
  entries = λ few. few;
  part = rw c.in-TypeName.is refl;
  follows = rw c.in-TypeName.is (λ at stop input buffer. refl);
}

pub returns-in-Class : goal.returns-in-Class
returns-in-Class g c =
    let e = c.enter_option-self-in-Class.ensures in
    record {
      lawful = omega (arith, e.closed, e.within, e.around);
      depth = e.around ∙ c.requires.depth;
      under_way = e.under_way;
      table = e.table;
      entries = rw e.same (λ few. few);
      part = rw c.in-Class.is refl;
      follows = λ at stop input buffer.
          let p : TypePlace = record { offset = at; stop = stop; symbols = symbols_of c.args.self.now; nodes = c.args.table.now.nodes } in
          rw c.in-Class.is (emits_at p (IsField field.Class (item_value c.args.item input buffer)) _ _ e.is);
    }
