use Rattle.cqlp_columns.proofs.BatchLaws.{full_where_rows_begin, room_for_one}
use Rattle.cqlp_columns.proofs.laws.whole_rows.Goals as goal

pub returns-clause-full : goal.returns-clause-full
returns-clause-full c = full_where_rows_begin

pub returns-clause-room : goal.returns-clause-room
returns-clause-room c = room_for_one
