-- The cells of a page that was begun, one after the other.
use Rattle.std.specs.Prelude.{◌≡◌, ◌++◌, ◌⊎◌, ℕ, Bool, true, List, [], ◌∷◌, Result, Ok, Err}
use Rattle.cqlp_note.specs.Outputs.{Output}
use Rattle.cqlp_value.specs.Values.{Values}
use Rattle.cqlp_encode.specs.declared.page_writer.PageError.{PageError}
use Rattle.cqlp_encode.specs.declared.page_writer.PageError.TheVariants as page_error
use Rattle.cqlp_encode.specs.PageWriting.{PageState, Adds, AddsAll, Finishes}
use Rattle.cqlp_encode.specs.declared.lent_page.LentError.{LentError}
use Rattle.cqlp_encode.specs.declared.lent_page.LentError.TheVariants as error

-- what the writer of a page says, once its cells were measured
abbrev pub lent_error : PageError → LentError
lent_error (page_error.Write k) = error.Write k
lent_error e = error.Changed

-- All cells that were lent were written but the last, of which the writer says why not.
pub record LastStops (p : PageState) (lent : List Values) (old : Output) (e : LentError) (new : Output) : Type 0 where
  pub cells : List Values
  pub cell : Values
  pub is : lent ≡ cells ++ cell ∷ []
  pub mid : Output
  pub q : PageState
  pub r : PageState
  pub why : PageError
  pub adds : AddsAll p [] cells old mid q
  pub stopped : Adds q cells cell mid (Err why) new r
  pub lent_error : e ≡ lent_error why

-- All cells that were lent were written, and the writer says why they are not the page's.
pub record EndStops (p : PageState) (n : ℕ) (lent : List Values) (old : Output) (e : LentError) (new : Output) : Type 0 where
  pub q : PageState
  pub why : PageError
  pub adds : AddsAll p [] lent old new q
  pub stopped : Finishes q n lent (Err why)
  pub lent_error : e ≡ lent_error why

-- What becomes of a page that was begun with cells of n bytes, where these are lent, and that they have ended.
abbrev pub AddsLent :
    PageState → (n : ℕ) → (lent : List Values) → (ended : Bool) → (old : Output) → Result ℕ LentError → (new : Output) → Type 0
AddsLent p n lent ended old (Ok size) new =
    (ended ≡ true) × (q : PageState) × AddsAll p [] lent old new q × Finishes q n lent (Ok size)
AddsLent p n lent ended old (Err e) new =
    LastStops p lent old e new ⊎ ((ended ≡ true) × EndStops p n lent old e new)
