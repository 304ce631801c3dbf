-- What is shown of an event, as the code has it.
use Rattle.std.specs.Prelude.{ℕ, List, [], ◌++◌, codes, decimal}
use Rattle.hex.specs.Hex.{encode_lower}
use Rattle.cqlp_kind.specs.Contents.{value_of}
use Rattle.cqlp_text.specs.CellText.{cell_text}
use Rattle.cqlp_json.specs.Values as json
use Rattle.cqlp_row_text.specs.declared.shown.Content.{Content}
use Rattle.cqlp_row_text.specs.declared.shown.Content.TheVariants as content
use Rattle.cqlp_row_text.specs.declared.shown.Shown.{Shown}
use Rattle.cqlp_row_text.specs.Quotes.{text_field, text_item}

abbrev pub content_text : Content → List ℕ
content_text content.Nothing = []
content_text (content.Number n) = decimal n
content_text (content.Json s) = json.scalar_text (value_of s)
content_text (content.Cell s) = cell_text (value_of s)
content_text (content.TextField t) = text_field t.now
content_text (content.TextItem t) = text_item t.now
content_text (content.Hex bytes) = encode_lower bytes.now

abbrev pub shown_text : Shown → List ℕ
shown_text s = s.before.now ++ (s.begin.now ++ (content_text s.content ++ (s.end.now ++ s.after.now)))
