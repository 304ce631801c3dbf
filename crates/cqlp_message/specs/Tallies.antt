-- What is found of the parts of a frame.
use Rattle.std.specs.Prelude.{◌≡◌, true, ◌-◌, ◌^◌, List, All, min}
use Rattle.std.specs.List.{list_all}
use Rattle.cqlp_message.specs.declared.tally.Tally.{Tally}
use Rattle.cqlp_message.specs.FrameValues.{FrameValue}
use Rattle.cqlp_message.specs.Parts.{Part, part_size, parts_size, counts_fit, texts_fit, cell_fits, PartIsInRange}
use Rattle.cqlp_message.specs.Agreement.{is_directed, frame_agrees}
use Rattle.cqlp_message.specs.Frames.{frame_parts, FrameIsInRange}

-- It says of a part, which is in range, whether its counts, its texts and its cell fit, and how many bytes it has.
pub record IsTallyOf (t : Tally) (part : Part) : Type 0 where
  pub counts : t.counts ≡ counts_fit part
  pub texts : t.texts ≡ texts_fit part
  pub cells : t.cells ≡ cell_fits part
  pub size : t.size ≡ min (part_size part) (2 ^ 64 - 1)
  pub range : PartIsInRange part

-- It says of these parts, which are in range, whether all counts, texts and cells fit, and how many bytes they have.
pub record IsTally (t : Tally) (parts : List Part) : Type 0 where
  pub counts : t.counts ≡ list_all counts_fit parts
  pub texts : t.texts ≡ list_all texts_fit parts
  pub cells : t.cells ≡ list_all cell_fits parts
  pub size : t.size ≡ min (parts_size parts) (2 ^ 64 - 1)
  pub range : All PartIsInRange parts

-- It says this of the parts of a frame in range whose parts are those that are announced, and whose counts and texts fit.
pub record IsFrameTally (t : Tally) (f : FrameValue) : Type 0 where
  pub directed : is_directed f ≡ true
  pub agrees : frame_agrees f ≡ true
  pub counts : list_all counts_fit (frame_parts f) ≡ true
  pub texts : list_all texts_fit (frame_parts f) ≡ true
  pub tally : IsTally t (frame_parts f)
  pub range : FrameIsInRange f
