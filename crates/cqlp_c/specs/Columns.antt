-- What the calls on columns answer, and what they leave.
use Rattle.std.specs.Prelude.{◌≡◌, ℕ, zero, suc, ◌-◌, ◌≤◌, Bool, true, false, List, [], ◌∷◌, length, drop, min, nat_lt, is_some}
use Rattle.std.specs.Prelude.{if◌then◌else◌, ◌&&◌, slice_get, ◌⊎◌}
use Rattle.std.specs.Prelude.{Option, Some, None}
use Rattle.std.specs.Borrow.{Bor}
use Rattle.std.specs.Ptr.{Ptr}
use denote.RawPtr.{◌+ₚ◌}
use Rattle.cqlp_note.specs.Heading.{beside_number}
use Rattle.cqlp_kind.specs.declared.kind.Kind.{Kind}
use Rattle.cqlp_columns.specs.declared.columns.BatchLimits.{BatchLimits}
use Rattle.cqlp_columns.specs.declared.column.MakeError.{MakeError}
use Rattle.cqlp_columns.specs.declared.column.MakeError.TheVariants as error
use Rattle.cqlp_columns.specs.Arrays.{AreBytesOf, Column, Site, values_at}
use Rattle.cqlp_columns.specs.Batches.{Batch, HasTaken, IsNew, refusal_of_kinds}
use Rattle.cqlp_decode.specs.Progress.{IsHeld}
use Rattle.cqlp_decode.specs.Reading.{Event}
use Rattle.cqlp_decode.specs.Streams.{Decoding, state}
use Rattle.cqlp_laws.specs.Contents.{content_in}
use Rattle.cqlp_columns.specs.declared.filled.Filled.{Filled}
use Rattle.cqlp_columns.specs.declared.filled.Stop.{Stop as Why}
use Rattle.cqlp_columns.specs.declared.filled.Stop.TheVariants as why
use Rattle.cqlp_columns.specs.Filling.{FillsOn}
use Rattle.cqlp_c.specs.declared.batch.Batch.{Batch as FromC}
use Rattle.cqlp_c.specs.declared.batch.Stop.TheVariants as stop
use Rattle.cqlp_c.specs.declared.columns.CqlpBatchLimits.{CqlpBatchLimits}
use Rattle.cqlp_c.specs.declared.columns.CqlpColumn.{CqlpColumn}
use Rattle.cqlp_c.specs.declared.course.CqlpBegun.{CqlpBegun}
use Rattle.cqlp_c.specs.declared.course.CqlpCourse.{CqlpCourse}
use Rattle.cqlp_c.specs.declared.event.CqlpEvent.{CqlpEvent}
use Rattle.cqlp_c.specs.declared.numbers.TheConstants as numbers
use Rattle.cqlp_c.specs.declared.shown.CqlpBatch.{CqlpBatch}
use Rattle.cqlp_c.specs.Batches.{BeginsAt, Buffer, WritesPut, buffer_in, put_of}
use Rattle.cqlp_c.specs.Course.{batch_from, begun_after, gone_on}
use Rattle.cqlp_skip.specs.Stretches.{stream_offset}
use Rattle.cqlp_c.specs.Events.{Writes}
use Rattle.cqlp_c.specs.Numbers.{kinds, number_of_kind}
use Rattle.cqlp_c.specs.Shown.{batch_of}

-- the columns that a handle has
abbrev pub columns_in : Option (Option Batch) → Option Batch
columns_in None = None
columns_in (Some held) = held

-- ---- new

abbrev pub with_kind : Option Kind → Option (List Kind) → Option (List Kind)
with_kind (Some k) (Some ks) = Some (k ∷ ks)
with_kind k ks = None

-- the kinds that have these numbers, if each number is a kind's
abbrev pub kinds_numbered : List ℕ → Option (List Kind)
kinds_numbered [] = Some []
kinds_numbered (n ∷ ns) = with_kind (beside_number n kinds) (kinds_numbered ns)

abbrev pub code_of_make : MakeError → ℕ
code_of_make error.TooManyColumns = numbers.TOO_MANY_COLUMNS
code_of_make error.Unsupported = numbers.UNSUPPORTED
code_of_make error.NoMemory = numbers.NO_MEMORY

-- The code says what is against columns of these kinds; else they are made without rows, where memory is there.
abbrev pub MakesBy : BatchLimits → List Kind → Option MakeError → (code : ℕ) → (new : Option (Option Batch)) → Type 0
MakesBy l ks (Some why) code new = (code ≡ code_of_make why) × (new ≡ None)
MakesBy l ks None code new =
    ((code ≡ numbers.NO_MEMORY) × (new ≡ None)) ⊎ ((code ≡ numbers.DONE) × (b : Batch) × (new ≡ Some (Some b)) × IsNew l ks b)

abbrev pub MakesOf : BatchLimits → Option (List Kind) → (code : ℕ) → (new : Option (Option Batch)) → Type 0
MakesOf l None code new = (code ≡ numbers.BAD_KIND) × (new ≡ None)
MakesOf l (Some ks) code new = MakesBy l ks (refusal_of_kinds l ks) code new

abbrev pub limits_of : CqlpBatchLimits → BatchLimits
limits_of l = record { columns = l.columns; rows = l.rows; bytes = l.bytes; content = l.content }

-- Memory may be refused before the numbers are looked at.
abbrev pub MakesNumbered : BatchLimits → List ℕ → (code : ℕ) → (new : Option (Option Batch)) → Type 0
MakesNumbered l ns code new = ((code ≡ numbers.NO_MEMORY) × (new ≡ None)) ⊎ MakesOf l (kinds_numbered ns) code new

-- too many columns are refused before their kinds are looked at
abbrev pub MakesAnew : (too_many : Bool) → BatchLimits → List ℕ → (code : ℕ) → (new : Option (Option Batch)) → Type 0
MakesAnew true l ns code new = (code ≡ numbers.TOO_MANY_COLUMNS) × (new ≡ None)
MakesAnew false l ns code new = MakesNumbered l ns code new

-- What `cqlp_columns_new` makes of a handle: one in use is refused, and stays as it is.
abbrev pub Makes : CqlpBatchLimits → List ℕ → (old : Option (Option Batch)) → (code : ℕ) → (new : Option (Option Batch)) → Type 0
Makes l ns (Some held) code new = (code ≡ numbers.IN_USE) × (new ≡ Some held)
Makes l ns None code new = MakesAnew (nat_lt l.columns (length ns)) (limits_of l) ns code new

-- ---- next

-- C gets an event at this offset, wherever its content lies, and whether it lends one.
abbrev pub WritesBeside : CqlpEvent → (lends : Bool) → (at : ℕ) → Event → Type 0
WritesBeside written lends at e = Writes written at e × (lends ≡ is_some (content_in e))

-- It is put with where its content lies: in the bytes used, of which it is the last, or in the decoder.
abbrev pub PutsBeside : CqlpEvent → (lends : Bool) → (input : Ptr) → Buffer → (bytes : List ℕ) → CqlpEvent → Type 0
PutsBeside written lends input buffer bytes slot =
    (at : ℕ) (e : Event) → WritesBeside written lends at e → IsHeld e (length bytes) buffer.bytes
    → WritesPut input buffer slot (put_of at e (length bytes) (length bytes))

-- what a call made of the input, as a batch of at most one event
abbrev pub batch_at : (used : ℕ) → Why → FromC
batch_at used why.More = record { used = used; events = 0; stop = stop.More }
batch_at used why.Full = record { used = used; events = 0; stop = stop.Full }
batch_at used why.Other = record { used = used; events = 1; stop = stop.Full }
batch_at used why.Failed = record { used = used; events = 1; stop = stop.Full }
batch_at used (why.Refused r) = record { used = used; events = 0; stop = stop.Refused r }

abbrev pub batch_in : Filled → FromC
batch_in f = batch_at f.used f.stop

-- The event that is no cell of the columns is put, as of a step that used all bytes of the call.
abbrev pub PutsOther : (input : Ptr) → Buffer → (used : ℕ) → CqlpEvent → (at : ℕ) → Event → CqlpEvent → Type 0
PutsOther input b used was at e written = WritesPut input b written (put_of at e used used)

-- the frame under way after at most one event
abbrev pub begun_at : (events : ℕ) → CqlpBegun → CqlpEvent → CqlpBegun
begun_at zero f c = f
begun_at (suc n) f c = begun_after f c

-- What a call makes of the input: cells go into the columns, and the first other event is put, of this much of the input.
pub record FillsColumns (old new : Decoding) (input : List ℕ) (begins : Ptr) (columns columns' : Batch) (was written : CqlpEvent) (from to : CqlpBegun)
    (b : FromC) : Type 0 where
  pub filled : Filled
  pub batch : b ≡ batch_in filled
  pub fills : FillsOn (PutsOther begins (buffer_in new) filled.used) (λ was at e written. ⊥) (state old) (state new) input columns columns' was written filled
  pub within : filled.used ≤ length input
  -- an event that is not written leaves the one that was there
  pub none : b.events ≡ 0 → written ≡ was
  pub frame : to ≡ begun_at b.events from written
  pub rules : (state new).rules ≡ (state old).rules

-- the event of a call that writes one, at its offset in the whole stream, in which its stretch begins at `base`; the first stretch begins at 0
abbrev pub placed_written : (events base : ℕ) → CqlpEvent → CqlpEvent
placed_written events base c = if nat_lt 0 base && nat_lt 0 events then record c { at = stream_offset base c.at } else c

-- The same of a piece of which the first bytes are passed over, as many as the frame passed over last still has; the event is written at its offset in the
-- whole stream.
pub record ReadsOn (old new : Decoding) (from to : CqlpCourse) (input : List ℕ) (begins : Ptr) (columns columns' : Batch) (was written : CqlpEvent) (b : FromC)
    : Type 0 where
  pub passed : ℕ
  pub is_passed : passed ≡ min (from.base - from.used) (length input)
  pub own : FromC
  pub event : CqlpEvent
  pub frame : CqlpBegun
  pub fills : FillsColumns old new (drop passed input) (begins +ₚ passed) columns columns' was event from.frame frame own
  pub placed : written ≡ placed_written own.events from.base event
  pub batch : b ≡ batch_from from.base passed own
  pub course : to ≡ record (gone_on from b.used) { frame = frame }

abbrev pub ReadsHeld : (old new : Decoding) → (from to : CqlpCourse) → (held held' : Option Batch) → (input : List ℕ) → (begins : Ptr) → (was written : CqlpEvent)
    → (before : CqlpBatch) → (code : ℕ) → (after : CqlpBatch) → Type 0
ReadsHeld old new from to None held' input begins was written before code after =
    (code ≡ numbers.NO_COLUMNS) × (new ≡ old) × (to ≡ from) × (held' ≡ None) × (written ≡ was) × (after ≡ before)
ReadsHeld old new from to (Some a) held' input begins was written before code after =
    (code ≡ numbers.DONE) × (a' : Batch) × (held' ≡ Some a') × (b : FromC) × (after ≡ batch_of b)
    × ReadsOn old new from to input begins a a' was written b

abbrev pub ReadsInto : (old new : Decoding) → (from to : CqlpCourse) → (place place' : Option (Option Batch)) → (input : List ℕ) → (begins : Ptr)
    → (was written : CqlpEvent) → (before : CqlpBatch) → (code : ℕ) → (after : CqlpBatch) → Type 0
ReadsInto old new from to None place' input begins was written before code after =
    (code ≡ numbers.NO_COLUMNS) × (new ≡ old) × (to ≡ from) × (place' ≡ None) × (written ≡ was) × (after ≡ before)
ReadsInto old new from to (Some held) place' input begins was written before code after =
    (left : Option Batch) × (place' ≡ Some left) × ReadsHeld old new from to held left input begins was written before code after

abbrev pub Nexts : (old : Option Decoding) → (from : CqlpCourse) → (place : Option (Option Batch)) → (input : Bor (List ℕ)) → (code : ℕ)
    → (new : Option Decoding) → (to : CqlpCourse) → (place' : Option (Option Batch)) → (was written : CqlpEvent) → (before after : CqlpBatch) → Type 0
Nexts None from place input code new to place' was written before after =
    (code ≡ numbers.NO_DECODER) × (new ≡ None) × (to ≡ from) × (place' ≡ place) × (written ≡ was) × (after ≡ before)
Nexts (Some d) from place input code new to place' was written before after =
    (e : Decoding) × (new ≡ Some e) × (begins : Ptr) × BeginsAt input begins
    × ReadsInto d e from to place place' input.now begins was written before code after

-- ---- get, clear and free

-- Where the arrays of a column lie, which is where the column has them, and how long they are.
pub record Shows (a : Column) (view : CqlpColumn) : Type 0 where
  pub values : view.values ≡ values_at a.layout a.places
  pub offsets : view.offsets ≡ a.places.offsets
  pub validity : view.validity ≡ a.places.valid
  pub empties : view.empties ≡ a.places.empty
  pub size : (bytes : List ℕ) × AreBytesOf a bytes × (view.size ≡ length bytes)
  pub bounds : view.bounds ≡ length a.offsets
  pub cells : view.cells ≡ length a.valid
  pub kind : view.kind ≡ number_of_kind a.kind

abbrev pub ShowsOne : Option Column → (code : ℕ) → (was written : CqlpColumn) → Type 0
ShowsOne None code was written = (code ≡ numbers.NO_COLUMN) × (written ≡ was)
ShowsOne (Some a) code was written = (code ≡ numbers.DONE) × Shows a written

abbrev pub ShowsHeld : Option Batch → (column code : ℕ) → (was written : CqlpColumn) → Type 0
ShowsHeld None k code was written = (code ≡ numbers.NO_COLUMNS) × (written ≡ was)
ShowsHeld (Some b) k code was written = ShowsOne (slice_get b.columns k) code was written

abbrev pub Gets : (old new : Option (Option Batch)) → (column code : ℕ) → (was written : CqlpColumn) → Type 0
Gets old new k code was written = (new ≡ old) × ShowsHeld (columns_in old) k code was written

-- Columns without rows: those that a batch of these kinds has after no events, whatever it had before.
abbrev pub ClearsHeld : Option Batch → (code : ℕ) → Option Batch → Type 0
ClearsHeld None code new = (code ≡ numbers.NO_COLUMNS) × (new ≡ None)
ClearsHeld (Some b) code new =
    (code ≡ numbers.DONE) × (b' : Batch) × (new ≡ Some b')
    × ((sites : List Site) (es : List Event) → HasTaken b.limits sites es b → HasTaken b.limits sites [] b')

abbrev pub Clears : (old : Option (Option Batch)) → (code : ℕ) → (new : Option (Option Batch)) → Type 0
Clears None code new = (code ≡ numbers.NO_COLUMNS) × (new ≡ None)
Clears (Some held) code new = (left : Option Batch) × (new ≡ Some left) × ClearsHeld held code left

abbrev pub code_of_free : Option (Option Batch) → ℕ
code_of_free None = numbers.NO_COLUMNS
code_of_free (Some held) = numbers.DONE
