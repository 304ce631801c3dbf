use Rattle.std.proofs.Common.{◌∙◌, sym, refl, arith}
use Rattle.cqlp_message.specs.Owned.{frame_of}
use Rattle.cqlp_message.proofs.Tallies.{none_where_measured, some_where_not, size_where_measured}
use Rattle.cqlp_encode.proofs.Calls.{no_call}
use Rattle.cqlp_encode.proofs.PageSteps.{page_lawful, first_place, begins_cut, begins_all, all_of_head}
use Rattle.cqlp_encode.proofs.page_writer.PageWriter.begin_from.Goals as goal

pub returns-in-Err-clause-begins : goal.returns-in-Err-clause-begins
returns-in-Err-clause-begins g c = (some_where_not _ _ _ (sym c.page_measure.ensures.is ∙ c.in-Err.is), refl)

pub overflow_sub-page_len : goal.overflow_sub-page_len
overflow_sub-page_len g c = omega (arith, size_where_measured _ _ _ (sym c.page_measure.ensures.is ∙ c.in-Ok.is))

pub write_parts-taken-requires-clause-lawful : goal.write_parts-taken-requires-clause-lawful
write_parts-taken-requires-clause-lawful g c =
    let measured = sym c.page_measure.ensures.is ∙ c.in-Ok.is in
    page_lawful (frame_of c.args.frame.now) c.args.cells_len c.in-Ok.len (none_where_measured _ _ _ measured) (size_where_measured _ _ _ measured)

pub write_parts-taken-requires-clause-size : goal.write_parts-taken-requires-clause-size
write_parts-taken-requires-clause-size g c = omega (arith, size_where_measured _ _ _ (sym c.page_measure.ensures.is ∙ c.in-Ok.is))

pub overflow_sub-page_len-2 : goal.overflow_sub-page_len-2
overflow_sub-page_len-2 g c = omega (arith, size_where_measured _ _ _ (sym c.page_measure.ensures.is ∙ c.in-Ok.is))

pub returns-then-taken-page_len-clause-begins : goal.returns-then-taken-page_len-clause-begins
returns-then-taken-page_len-clause-begins g c =
    let measured = sym c.page_measure.ensures.is ∙ c.in-Ok.is in
    begins_cut c.args.frame.now c.args.cells_len c.in-Ok.len c.write_parts-taken.result (none_where_measured _ _ _ measured) (size_where_measured _ _ _ measured) c.args.before _ _ c.write_parts-taken.ensures.continued c.write_parts-taken.ensures.size c.if-taken-page_len.true

pub invariant_of-result : goal.invariant_of-result
invariant_of-result g c =
    let measured = sym c.page_measure.ensures.is ∙ c.in-Ok.is in
    let fits = none_where_measured _ _ _ measured in
    let is = size_where_measured _ _ _ measured in
    let place = first_place c.args.frame.now c.args.cells_len c.in-Ok.len c.write_parts-taken.result fits is c.cells_wanted.result c.cells_wanted.ensures (all_of_head c.args.frame.now c.args.cells_len c.in-Ok.len c.write_parts-taken.result fits is c.args.before _ _ c.write_parts-taken.ensures.continued c.write_parts-taken.ensures.size c.if-taken-page_len.false) in
    (place, record { described = c.specs.ensures; number = c.columns.ensures })

pub returns-clause-begins : goal.returns-clause-begins
returns-clause-begins g c =
    let measured = sym c.page_measure.ensures.is ∙ c.in-Ok.is in
    begins_all c.args.frame.now c.args.cells_len c.in-Ok.len c.write_parts-taken.result (none_where_measured _ _ _ measured) (size_where_measured _ _ _ measured) c.args.before _ _ c.write_parts-taken.ensures.continued c.write_parts-taken.ensures.size c.cells_wanted.result c.cells_wanted.ensures c.if-taken-page_len.false

pub returns-in-Err-clause-calls : goal.returns-in-Err-clause-calls
returns-in-Err-clause-calls g c = no_call _ _
