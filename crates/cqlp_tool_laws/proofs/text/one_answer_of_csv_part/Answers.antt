use Rattle.cqlp_row_text.specs.CsvRows.{csv_part}
use Rattle.cqlp_tool_laws.proofs.OneText.{writes_once}
use Rattle.cqlp_tool_laws.proofs.text.one_answer_of_csv_part.Goals as goal

pub returns : goal.returns
returns c = λ place event. writes_once (csv_part place event)
