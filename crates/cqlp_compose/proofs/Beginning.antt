-- How a page is begun.
use Rattle.std.proofs.Common.{◌≡◌, ℕ, inl, inr, Option, Some, None, Result, Ok, Err, refl, sym, ap, subst}
use Rattle.cqlp_message.specs.declared.frame.Frame.{Frame as OwnedFrame}
use Rattle.cqlp_message.specs.declared.unfit.Unfit.{Unfit}
use Rattle.cqlp_message.specs.Owned.{frame_of}
use Rattle.cqlp_build.specs.declared.error.BuildError.{BuildError}
use Rattle.cqlp_build.specs.declared.error.BuildError.TheVariants as build_error
use Rattle.cqlp_build.specs.Closing.{Ends}
use Rattle.cqlp_compose.specs.Composing.{ComposerState, Takes}
use Rattle.cqlp_compose.specs.declared.place.PageProgress.{PageProgress}
use Rattle.cqlp_compose.specs.Places.{first_place, place_unless}
use Rattle.cqlp_compose.specs.declared.error.BeginError.{BeginError}
use Rattle.cqlp_compose.specs.declared.error.BeginError.TheVariants as error
use Rattle.cqlp_compose.specs.declared.page.BegunPage.{BegunPage}
use Rattle.cqlp_compose.specs.Begun.{Begins, BeginsBare, IsBare, SetsRows, rows_event, said_len, without_rows}

module _ (s : ComposerState) (n : ℕ) where
  pub begun_bare : (len : ℕ) (f : OwnedFrame) (r : Result BegunPage BeginError) → IsBare s n (Ok f) → BeginsBare (frame_of f) (said_len len) r → Begins s n len r
  begun_bare len f (Ok b) is x = (f, is, x)
  begun_bare len f (Err (error.Unfit why)) is x = (f, is, x)
  begun_bare len f (Err (error.Build build_error.NoMemory)) is x = is.0
  begun_bare len f (Err error.NoPage) is x = absurd x
  begun_bare len f (Err (error.Build build_error.Misplaced)) is x = absurd x
  begun_bare len f (Err (error.Build build_error.Unbuilt)) is x = absurd x
  begun_bare len f (Err (error.Build build_error.TooManyFields)) is x = absurd x
  begun_bare len f (Err (error.Build build_error.TooDeep)) is x = absurd x
  begun_bare len f (Err (error.Build build_error.TooManyBytes)) is x = absurd x
  begun_bare len f (Err (error.Build build_error.NoFrame)) is x = absurd x

  pub not_bare : (len : ℕ) (why : BeginError) → IsBare s n (Err why) → Begins s n len (Err why)
  not_bare len error.NoPage x = x
  not_bare len (error.Build why) x = x
  not_bare len (error.Unfit why) x = absurd x

  -- the count is not taken
  pub count_refused : (why : BuildError) (new : ComposerState) → Takes s (rows_event 0) (Err why) new → IsBare s n (Err (error.Build why))
  count_refused build_error.NoMemory new t = t.0
  count_refused build_error.Misplaced new t = inl t.0
  count_refused build_error.Unbuilt new t = inl t.0
  count_refused build_error.TooManyFields new t = inl t.0
  count_refused build_error.TooDeep new t = inl t.0
  count_refused build_error.TooManyBytes new t = inl t.0
  count_refused build_error.NoFrame new t = inl t.0

  closed_at : (q : Result OwnedFrame BuildError) (new : ComposerState) → new ≡ without_rows s → Ends new.frame.events q → Ends (without_rows s).frame.events q
  closed_at q new is e = subst (λ (k : ComposerState). Ends k.frame.events q) is e

  -- the frame without rows is there
  pub closed_ok : (new : ComposerState) (g : OwnedFrame) (r : Result OwnedFrame BeginError) → Takes s (rows_event 0) (Ok tt) new → Ends new.frame.events (Ok g) → SetsRows (frame_of g) n r → IsBare s n r
  closed_ok new g (Ok f) t e x = (t.0, g, closed_at (Ok g) new t.1 e, x)
  closed_ok new g (Err error.NoPage) t e x = (t.0, g, closed_at (Ok g) new t.1 e, x)
  closed_ok new g (Err (error.Build why)) t e x = absurd x
  closed_ok new g (Err (error.Unfit why)) t e x = absurd x

  -- it is not
  pub closed_err : (new : ComposerState) (why : BuildError) → Takes s (rows_event 0) (Ok tt) new → Ends new.frame.events (Err why) → IsBare s n (Err (error.Build why))
  closed_err new build_error.NoMemory t e = t.0
  closed_err new build_error.Misplaced t e = inr (t.0, closed_at (Err build_error.Misplaced) new t.1 e)
  closed_err new build_error.Unbuilt t e = inr (t.0, closed_at (Err build_error.Unbuilt) new t.1 e)
  closed_err new build_error.TooManyFields t e = inr (t.0, closed_at (Err build_error.TooManyFields) new t.1 e)
  closed_err new build_error.TooDeep t e = inr (t.0, closed_at (Err build_error.TooDeep) new t.1 e)
  closed_err new build_error.TooManyBytes t e = inr (t.0, closed_at (Err build_error.TooManyBytes) new t.1 e)
  closed_err new build_error.NoFrame t e = inr (t.0, closed_at (Err build_error.NoFrame) new t.1 e)

-- what the first place says
pub no_place : (o : Option Unfit) (n : ℕ) (why : Unfit) → Err why ≡ place_unless o n → o ≡ Some why
no_place None n why e = absurd cc
no_place (Some other) n why e = let same : why ≡ other = cc in ap Some (sym same)

pub a_place : (o : Option Unfit) (n : ℕ) (p : PageProgress) → Ok p ≡ place_unless o n → (o ≡ None) × (p ≡ first_place n)
a_place None n p e = (refl, cc)
a_place (Some other) n p e = absurd cc
