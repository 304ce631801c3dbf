-- What becomes of an event of a cell.
use Rattle.std.proofs.Common.{◌≡◌, ℕ, Bool, true, false, List, [], Option, Some, None, Ok, Err, refl, ap, ◌∙◌}
use Rattle.cqlp_grammar.specs.Events.{Event}
use Rattle.cqlp_build_cells.specs.Building.{ends_cell}
use Rattle.cqlp_compose.specs.declared.error.PageCellError.{PageCellError}
use Rattle.cqlp_compose.specs.Cells.{CellsState, GoesOn as CellGoesOn, Takes, within as cell_within}
use Rattle.cqlp_compose.specs.declared.error.PutError.TheVariants as error
use Rattle.cqlp_message.specs.declared.frame.Frame.{Frame}
use Rattle.cqlp_build_cells.specs.declared.builder.CellLimits.{CellLimits}
use Rattle.cqlp_compose.specs.declared.place.PageProgress.{PageProgress}
use Rattle.cqlp_compose.specs.declared.cells.PageCells.{PageCells}
use Rattle.cqlp_compose.specs.Put.{Answer, Ended, GoesOn, PutterState, Puts, fresh, fresh_putter, under_way, within}

-- after the last event of a cell none is under way
uncut : (ends : Bool) (s new : CellsState) → ends ≡ true → CellGoesOn ends s (Ok tt) new → new.cut ≡ false
uncut true s new e g = ap (λ (x : CellsState). x.cut) g.3
uncut false s new e g = absurd cc

pub is_whole : (old new : CellsState) (e : Event) → ends_cell e ≡ true → Takes old e (Ok tt) new → new.cut ≡ false
is_whole old new e last t = uncut (ends_cell e) (cell_within old t.1) new last t.3

module _ (old : PutterState) (e : Event) (n : ℕ) (mid : CellsState) where
  ended_by : (ends : Bool) (r : Answer) (bytes : List ℕ) (new : PutterState) → ends ≡ true → Ended (within old mid) n r bytes new → GoesOn ends (within old mid) n r bytes new
  ended_by true r bytes new is x = x
  ended_by false r bytes new is x = absurd cc

  -- where the cell ends
  pub put_end : (r : Answer) (bytes : List ℕ) (new : PutterState) → ends_cell e ≡ true → Takes old.cells e (Ok tt) mid → Ended (within old mid) n r bytes new → Puts old e n r bytes new
  put_end (Ok None) bytes new last t x = absurd x
  put_end (Ok (Some len)) bytes new last t x = (mid, t, ended_by (ends_cell e) (Ok (Some len)) bytes new last x)
  put_end (Err (error.NoRoom len)) bytes new last t x = (mid, t, ended_by (ends_cell e) (Err (error.NoRoom len)) bytes new last x)
  put_end (Err (error.Cell why)) bytes new last t x = absurd x

  on_by : (ends : Bool) → ends ≡ false → GoesOn ends (within old mid) n (Ok None) [] (within old mid)
  on_by false is = (refl, refl)
  on_by true is = absurd cc

  -- where it goes on
  pub goes_on : ends_cell e ≡ false → Takes old.cells e (Ok tt) mid → Puts old e n (Ok None) [] (within old mid)
  goes_on last t = (mid, t, on_by (ends_cell e) last)

  -- where the event is not taken
  pub refused : (why : PageCellError) (new : PutterState) → Takes old.cells e (Err why) mid → new ≡ fresh old old.place → Puts old e n (Err (error.Cell why)) [] new
  refused why new t is = (mid, t, refl, is)

-- ---- the cell ends, or goes on

pub ends_true : (b : Bool) (s : PutterState) (n : ℕ) (r : Answer) (bytes : List ℕ) (new : PutterState) → b ≡ true → Ended s n r bytes new → GoesOn b s n r bytes new
ends_true true s n r bytes new is x = x
ends_true false s n r bytes new is x = absurd cc

pub ends_false : (b : Bool) (s : PutterState) (n : ℕ) (new : PutterState) → b ≡ false → new ≡ s → GoesOn b s n (Ok None) [] new
ends_false false s n new is x = (refl, x)
ends_false true s n new is x = absurd cc

no_refusal : {A : Type 0} (b : Bool) (s : PutterState) (n : ℕ) (why : PageCellError) (bytes : List ℕ) (new : PutterState) → GoesOn b s n (Err (error.Cell why)) bytes new → A
no_refusal true s n why bytes new g = absurd g
no_refusal false s n why bytes new g = absurd g

-- an event that was taken, and what became of its cell
pub taken_puts : (old : PutterState) (e : Event) (n : ℕ) (mid : CellsState) (r : Answer) (bytes : List ℕ) (new : PutterState)
    → Takes old.cells e (Ok tt) mid → GoesOn (ends_cell e) (within old mid) n r bytes new → Puts old e n r bytes new
taken_puts old e n mid (Ok len) bytes new t g = (mid, t, g)
taken_puts old e n mid (Err (error.NoRoom len)) bytes new t g = (mid, t, g)
taken_puts old e n mid (Err (error.Cell why)) bytes new t g = no_refusal (ends_cell e) (within old mid) n why bytes new g

-- a putter without a cell under way
abbrev putter_at : Frame → CellLimits → PageProgress → Option PageCells → PutterState
putter_at f limits p cells = record { frame = f; limits = limits; place = p; cells = under_way f p limits cells }

pub none_under_way : (f : Frame) (limits : CellLimits) (p q : PageProgress) (cells : Option PageCells) → cells ≡ None → p ≡ q
    → putter_at f limits p cells ≡ fresh_putter f q limits
none_under_way f limits p q cells none is =
    ap (λ (x : Option PageCells). putter_at f limits p x) none ∙ ap (λ (x : PageProgress). fresh_putter f x limits) is
