-- What is known of the cells that were counted.
use Rattle.std.specs.Prelude.{◌≡◌, ◌<◌, ◌≤◌, ◌-◌, ◌^◌, ℕ, true, false, min, List, length, None}
use Rattle.cqlp_value.specs.Values.{Values}
use Rattle.cqlp_message.specs.FrameValues.{FrameValue}
use Rattle.cqlp_message.specs.Owned.{frame_of}
use Rattle.cqlp_message.specs.Pages.{cells_fit, cells_size, cells_wanted, page_unfit_of}
use Rattle.cqlp_encode.specs.declared.tally.Tally.{Tally}

-- These cells of this page were counted. Whether they fit is known where the frame is a page that can be written with cells
-- of some length, and wants as many.
pub record HasCounted (f : FrameValue) (cells : List Values) (t : Tally) : Type 0 where
  pub frame : frame_of t.frame.now ≡ f
  pub within : t.count ≤ cells_wanted f.message
  pub count : t.is_past ≡ false → t.count ≡ length cells
  pub past : t.is_past ≡ true → (t.count ≡ cells_wanted f.message) × (cells_wanted f.message < length cells)
  pub size : t.size ≡ min (cells_size cells) (2 ^ 64 - 1)
  pub fit : (n : ℕ) → page_unfit_of f n ≡ None → t.is_past ≡ false → t.is_fit ≡ cells_fit f cells
