use Rattle.std.proofs.Common.{◌≡◌, ◌+◌, List, arith, length, refl, subst, sym}
use Rattle.cqlp_c.specs.declared.event.CqlpEvent.{CqlpEvent}
use Rattle.cqlp_c.specs.WholePages.{IsWithoutEnd, OpensWhole}
use Rattle.cqlp_c.proofs.CellWriting.{page_encoded, page_of, quarters_ready, without_long}
use Rattle.cqlp_c.proofs.whole_page.encode_page.Goals as goal

pub open_whole-requires : goal.open_whole-requires
open_whole-requires c = omega (arith, c.if-events.false, c.split_at.ensures.back_len, without_long c.split_at.result.1.now c.without_end-cells.result.now c.without_end-cells.ensures)

pub put_page-requires-clause-ready : goal.put_page-requires-clause-ready
put_page-requires-clause-ready c = quarters_ready c.in-Some.ensures.frame c.in-Some.ensures.rest c.without_end-cells.result.now c.in-Some.page.cells c.in-Some.ensures.cells

pub put_page-requires-clause-size : goal.put_page-requires-clause-size
put_page-requires-clause-size c = sym c.in-Some.ensures.size

pub returns : goal.returns
returns c =
    let p = page_of c.args.alloc c.args.events.now c.head_len.result c.without_end-cells.result.now c.args.contents.now c.in-Some.page c.if-events.false
    (subst (λ (xs : List CqlpEvent). IsWithoutEnd xs c.without_end-cells.result.now) c.split_at.ensures.back c.without_end-cells.ensures)
    (subst (λ (xs : List CqlpEvent). OpensWhole xs c.without_end-cells.result.now c.args.contents.now c.in-Some.page) c.split_at.ensures.front c.in-Some.ensures)
    in
    let long : c.in-Some-checked_add.length ≡ length c.in-Some.page.head.items + c.in-Some.page.size = omega (arith, c.in-Some-checked_add.ensures.1, c.len.ensures) in
    page_encoded c.args.events.now c.head_len.result c.without_end-cells.result.now c.args.contents.now c.in-Some.page c.put_page.result c.args.bytes.now c.put_page.new.bytes
    (record { length = c.in-Some-checked_add.length; event = length c.args.events.now }) p
    (subst (λ (xs : List CqlpEvent). IsWithoutEnd xs c.without_end-cells.result.now) c.split_at.ensures.back c.without_end-cells.ensures) c.put_page.ensures long refl
