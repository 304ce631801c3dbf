use Rattle.std.proofs.Common.{◌∙◌, sym, arith}
use Rattle.cqlp_message.proofs.Tallies.{none_where_measured, some_where_not}
use Rattle.cqlp_encode.proofs.Checking.{cut_back, none_left}
use Rattle.cqlp_encode.proofs.appending.append.Goals as goal

pub returns-in-Ok : goal.returns-in-Ok
returns-in-Ok c = record {
  appends =
      (none_where_measured _ _ _ (sym c.measure.ensures.is ∙ c.in-Ok.is), c.extend.ensures.extends.full (none_left _ c.in_default.not-Some) (none_where_measured _ _ _ (sym c.measure.ensures.is ∙ c.in-Ok.is)), cut_back _ _ _ _ c.len-start.result (omega (arith, c.len-start.ensures)) c.extend.ensures.extends.given c.truncate.ensures.items);
  capacity = omega (arith, c.extend.ensures.capacity, c.truncate.ensures.capacity);
}

pub returns-in-Err : goal.returns-in-Err
returns-in-Err c = record {
  appends =
      (some_where_not _ _ _ (sym c.measure.ensures.is ∙ c.in-Err.is), cut_back _ _ _ _ c.len-start.result (omega (arith, c.len-start.ensures)) c.extend.ensures.extends.given c.truncate.ensures.items);
  capacity = omega (arith, c.extend.ensures.capacity, c.truncate.ensures.capacity);
}
