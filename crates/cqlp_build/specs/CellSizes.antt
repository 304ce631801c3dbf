-- How many bytes the cells of a page have, where that was counted as they came.
use Rattle.std.specs.Prelude.{◌≡◌, ⊤, ℕ, ◌-◌, ◌^◌, min, List, [], map, Option, Some, None, Result, Ok, Err}
use Rattle.cqlp_value.specs.Values.{Values}
use Rattle.cqlp_value.specs.Owned.{value_of}
use Rattle.cqlp_value.specs.declared.value.Value.{Value}
use Rattle.cqlp_message.specs.FrameValues.{Message, Rows, Page}
use Rattle.cqlp_message.specs.Owned.{message_of}
use Rattle.cqlp_message.specs.Pages.{cells_size}
use Rattle.cqlp_message.specs.declared.message.Message.{Message as OwnedMessage}
use Rattle.cqlp_message.specs.declared.unfit.Unfit.{Unfit}

-- The cells have this many bytes; it is 2^64 - 1 where they have more.
abbrev pub HaveSize : ℕ → List Values → Type 0
HaveSize n cells = n ≡ min (cells_size cells) (2 ^ 64 - 1)

-- The same of cells that a program owns.
abbrev pub IsSizeOf : ℕ → List Value → Type 0
IsSizeOf n cells = HaveSize n (map value_of cells)

-- The cells have this many bytes, where it was counted.
abbrev pub AreSized : Option ℕ → List Values → Type 0
AreSized None cells = ⊤
AreSized (Some n) cells = HaveSize n cells

-- The same of the cells of a message that is a page.
abbrev pub IsSized : Option ℕ → Message → Type 0
IsSized size (Rows p) = AreSized size p.cells
IsSized size m = ⊤

-- The cells of a message that is a page have this many bytes.
abbrev pub IsCounted : ℕ → Message → Type 0
IsCounted n (Rows p) = cells_size p.cells ≡ n
IsCounted n m = ⊤

-- the page without its cells
abbrev pub without_cells : Page → Page
without_cells p = record { meta = p.meta; rows = p.rows; cells = [] }

-- The cells are those of a page, and are taken out of it; or the message is no page, and is as it was.
abbrev pub TakesCells : Option (List Value) → (old new : OwnedMessage) → Type 0
TakesCells (Some cells) old new =
    (p : Page) × (message_of old ≡ Rows p) × (map value_of cells ≡ p.cells) × (message_of new ≡ Rows (without_cells p))
TakesCells None old new = new ≡ old

-- how many bytes a frame has, if some bytes spell it
abbrev pub measured : Result ℕ Unfit → Option ℕ
measured (Ok n) = Some n
measured (Err why) = None
