-- Why calls of readers and writers fail.
use Rattle.std.specs.Prelude.{◌≡◌, ℕ, Bool, true, Option, Some, Result, Ok, Err, if◌then◌else◌, is_err}
use Rattle.std.specs.IoError.{error_kind}
use Rattle.std.specs.declared.io.Error.{Error}
use Rattle.std.specs.declared.io.ErrorKind.{ErrorKind}
use Rattle.std.specs.declared.io.ErrorKind.TheVariants as kind
use Rattle.cqlp_note.specs.declared.streams.IoFault.{IoFault}
use Rattle.cqlp_sockets.specs.declared.cause.Cause.{Cause}
use Rattle.cqlp_sockets.specs.declared.cause.Cause.TheVariants as cause

-- what an error of this kind says
abbrev pub cause_of : ErrorKind → Cause
cause_of kind.WouldBlock = cause.WouldBlock
cause_of kind.Interrupted = cause.Interrupted
cause_of _ = cause.Failed

-- What is kept of what a call of a reader or a writer answered: of an error what it says, and else the cause before.
abbrev pub KeepsCause : (old : Option Cause) → Result ℕ Error → Result ℕ IoFault → (new : Option Cause) → Type 0
KeepsCause old (Ok n) r new = (r ≡ Ok n) × (new ≡ old)
KeepsCause old (Err e) r new = (is_err r ≡ true) × (new ≡ Some (cause_of (error_kind e)))

-- Which cause is kept after a call, and which before: an error's own; that it took nothing, where it said no error but
-- took nothing of some bytes; and after a call that did not fail the one before.
abbrev pub LeavesCause : (old : Option Cause) → Result ℕ IoFault → (none_taken : Bool) → (new : Option Cause) → Type 0
LeavesCause old (Ok n) none_taken new = new ≡ (if none_taken then Some cause.TookNothing else old)
LeavesCause old (Err e) none_taken new = (k : ErrorKind) × (new ≡ Some (cause_of k))

-- ---- law

-- After a call that says no error there is one cause.
abbrev pub OneCause : Type 0
OneCause =
    (old new new' : Option Cause) (n : ℕ) (none_taken : Bool)
    → LeavesCause old (Ok n) none_taken new → LeavesCause old (Ok n) none_taken new' → new' ≡ new
