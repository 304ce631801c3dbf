-- How exchanges are written.
use Rattle.std.specs.Prelude.{ℕ, List, [], Option, codes}
use Rattle.cqlp_capture_summary.specs.Histograms.{histogram_text}
use Rattle.cqlp_capture_summary.specs.Lines.{summary_text}
use Rattle.cqlp_capture_summary.specs.Summaries.{Summary}
use Rattle.cqlp_capture_exchanges.specs.declared.connection.Connection.{Connection}
use Rattle.cqlp_capture_exchanges.specs.declared.form.ExchangeForm.{ExchangeForm}
use Rattle.cqlp_capture_exchanges.specs.declared.form.ExchangeForm.TheVariants as form
use Rattle.cqlp_capture_exchanges.specs.declared.summary_by.Attribute.{Attribute}
use Rattle.cqlp_capture_exchanges.specs.declared.summary_by.Attribute.TheVariants as attribute
use Rattle.cqlp_capture_exchanges.specs.declared.summary_by.SummaryBy.{SummaryBy}
use Rattle.cqlp_capture_exchanges.specs.declared.summary_by.SummaryBy.TheVariants as by
use Rattle.cqlp_capture_exchanges.specs.CsvRecords.{csv_text, names_if_first, with_record}
use Rattle.cqlp_capture_exchanges.specs.Prepared.{Known}
use Rattle.cqlp_capture_exchanges.specs.Reports.{Report}
use Rattle.cqlp_capture_exchanges.specs.Histograms.{with_report_by_time}
use Rattle.cqlp_capture_exchanges.specs.Intervals.{interval_as, text_before, with_report_in_interval}
use Rattle.cqlp_capture_exchanges.specs.Lines.{line}
use Rattle.cqlp_capture_exchanges.specs.Notings.{with_report}
use Rattle.cqlp_capture_exchanges.specs.Objects.{json_line}
use Rattle.cqlp_capture_exchanges.specs.SummaryObjects.{summary_objects}

-- what is written of a report, after what is in the summary so far
abbrev pub text_of : ExchangeForm → (known : Known) → (first : Option ℕ) → Summary → Connection → Report → List ℕ
text_of (form.Lines style) known first s n r = line known style first n r
text_of (form.Json shown) known first s n r = json_line known shown first n r
text_of form.Csv known first s n r = csv_text known first s n r
text_of (form.Summary b) known first s n r = []
text_of (form.SummaryJson b) known first s n r = []
text_of (form.Intervals seconds shown) known first s n r = text_before shown seconds r s
text_of form.Histogram known first s n r = []

-- what is counted, how many names are distinguished, and what is written at the end
abbrev pub noted_in : ExchangeForm → (known : Known) → Connection → Report → Summary → Summary
noted_in (form.Lines style) known n r s = s
noted_in (form.Json shown) known n r s = s
noted_in form.Csv known n r s = with_record s
noted_in (form.Summary b) known n r s = with_report b known n r s
noted_in (form.SummaryJson b) known n r s = with_report b known n r s
noted_in (form.Intervals seconds shown) known n r s = with_report_in_interval seconds r s
noted_in form.Histogram known n r s = with_report_by_time r s

abbrev pub statements_in : ExchangeForm → ℕ
statements_in (form.Lines style) = 0
statements_in (form.Json shown) = 0
statements_in form.Csv = 0
statements_in (form.Summary b) = 256
statements_in (form.SummaryJson b) = 256
statements_in (form.Intervals seconds shown) = 0
statements_in form.Histogram = 0

abbrev pub attribute_heading : Attribute → List ℕ
attribute_heading attribute.Client = codes "client"
attribute_heading attribute.Node = codes "node"
attribute_heading attribute.Opcode = codes "opcode"
attribute_heading attribute.Error = codes "error"

abbrev pub heading_of : SummaryBy → List ℕ
heading_of (by.Statement n) = codes "statement"
heading_of by.Table = codes "table"
heading_of (by.Attribute a) = attribute_heading a

abbrev pub ending_of : ExchangeForm → Summary → List ℕ
ending_of (form.Lines style) s = []
ending_of (form.Json shown) s = []
ending_of form.Csv s = names_if_first s
ending_of (form.Summary b) s = summary_text (heading_of b) s
ending_of (form.SummaryJson b) s = summary_objects (heading_of b) s
ending_of (form.Intervals seconds shown) s = interval_as shown seconds s.others
ending_of form.Histogram s = histogram_text s.others
