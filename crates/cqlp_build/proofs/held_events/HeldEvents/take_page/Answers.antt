use Rattle.std.proofs.Common.{◌≡◌, ap, length, rules, subst, sym, ◌∙◌}
use Rattle.std.proofs.lemmas.List.{nil_from_length}
use Rattle.cqlp_message.specs.Owned.{metadata_of}
use Rattle.cqlp_build.specs.CellSizes.{IsSizeOf}
use Rattle.cqlp_build.specs.WholePage.{IsWhole}
use Rattle.cqlp_build.proofs.Plain.{emptied, whole_items}
use Rattle.cqlp_build.proofs.Runs.{page_plain}
use Rattle.cqlp_build.proofs.held_events.HeldEvents.take_page.Goals as goal

pub returns-clause-taken : goal.returns-clause-taken
returns-clause-taken c =
    let h = c.self.inside in
    let m = metadata_of c.args.meta.now in
    let cells = h.cells.items in
    let p = c.is_page.ensures c.if-not-is_page.false in
    let no_head : length h.head.items ≡ 0 = search rules in
    let no_tail : length h.tail.items ≡ 0 = search rules in
    let head = nil_from_length h.head.items no_head in
    let tail = nil_from_length h.tail.items no_tail in
    let whole : IsWhole m c.args.rows cells c.args.self.now.items =
    record {
      last = h.last;
      columns = p.1;
      items_are = whole_items h c.args.self.now.items (ap (λ x. x.items) c.self.view_is) head tail p.0;
      many = p.2;
      plain = page_plain m h.last c.args.rows h.kinds.items cells p.1 p.2 p.3 (c.self.invariant p.0).0;
    } in
    let none = ap (λ v. v.items) c.replace-cells.ensures.after ∙ c.new.ensures.items in
    (subst (λ v. IsWhole m c.args.rows v.items c.args.self.now.items) (sym c.replace-cells.ensures.value) whole, emptied h c.replace-cells.new.dest.items head tail p.0 none)

pub returns-clause-sized : goal.returns-clause-sized
returns-clause-sized c =
    let p = c.is_page.ensures c.if-not-is_page.false in
    subst (λ v. IsSizeOf c.self.inside.size v.items) (sym c.replace-cells.ensures.value) (c.self.invariant p.0).1
