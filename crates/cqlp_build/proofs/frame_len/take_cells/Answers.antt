use Rattle.std.proofs.Common.{List, map, ap, ◌∙◌}
use Rattle.cqlp_value.specs.Owned.{value_of}
use Rattle.cqlp_value.specs.declared.value.Value.{Value}
use Rattle.cqlp_message.specs.FrameValues.{Rows}
use Rattle.cqlp_message.specs.Owned.{message_of, metadata_of, page_of}
use Rattle.cqlp_build.proofs.frame_len.take_cells.Goals as goal

pub returns-in-Rows : goal.returns-in-Rows
returns-in-Rows c =
    let page = c.in-Rows.page in
    let none = ap (λ v. v.items) c.replace.ensures.after ∙ c.new.ensures.items in (
      page_of page,
      ap message_of c.in-Rows.is,
      ap (λ v. map value_of v.items) c.replace.ensures.value,
      ap (λ (cells : List Value). Rows (record { meta = metadata_of page.meta; rows = page.rows; cells = map value_of cells })) none,
    )
