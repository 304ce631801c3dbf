-- The array of a batch, as what takes events.
use Rattle.std.specs.Prelude.{◌≡◌, ℕ, ◌+◌, ◌-◌, ◌<◌, ◌≤◌, ◌++◌, List, [], ◌∷◌, length, take, drop, set, Option, Some, None, ⊤}
use Rattle.std.specs.Borrow.{Bor}
use Rattle.std.specs.Ptr.{Ptr, as_ptr, null_ptr}
use denote.RawPtr.{◌+ₚ◌}
use Rattle.cqlp_decode.specs.Reading.{Event, Gifts}
use Rattle.cqlp_decode.specs.Progress.{StreamState}
use Rattle.cqlp_decode.specs.Streams.{AfterGifts}
use Rattle.cqlp_decode.specs.Cells.{Item, TakesItems, bytes_of}
use Rattle.cqlp_laws.specs.Contents.{before_content, content_in}
use Rattle.cqlp_c.specs.declared.course.CqlpBegun.{CqlpBegun}
use Rattle.cqlp_c.specs.declared.event.CqlpEvent.{CqlpEvent}
use Rattle.cqlp_c.specs.declared.slots.Origin.{Origin}
use Rattle.cqlp_c.specs.declared.slots.Slots.{Slots}
use Rattle.cqlp_c.specs.declared.slots.WholePut.{WholePut}
use Rattle.cqlp_c.specs.Course.{begun_after, begun_by}
use Rattle.cqlp_c.specs.Events.{written_at}

-- there is room for another event
abbrev pub HasRoom : Slots → Type 0
HasRoom s = s.count < length s.events.now

-- Where the content of the event at an offset lies, if it lies in the input: its offset in the stream gives its place
-- there. It is null where there is none.
abbrev pub IsPlaced : Origin → (at : ℕ) → Event → Option (List ℕ) → Ptr → Type 0
IsPlaced o at e None place = place ≡ null_ptr
IsPlaced o at e (Some content) place =
    o.offset ≤ at + before_content e → at + before_content e ≤ o.offset + length o.input.now
    → place ≡ as_ptr o.input +ₚ ((at + before_content e) - o.offset)

-- C gets this event at this offset, and where its content lies, if it lies in the input.
abbrev pub WritesIn : Origin → CqlpEvent → (at : ℕ) → Event → Type 0
WritesIn o c at e = (place : Ptr) × IsPlaced o at e (content_in e) place × (c ≡ written_at at e place)

-- The event at an offset is in the next place of the array, which is the same otherwise.
pub record PutsOne (before : Slots) (at : ℕ) (e : Event) (after : Slots) : Type 0 where
  pub written : CqlpEvent
  pub writes : WritesIn before.origin written at e
  pub origin : after.origin ≡ before.origin
  pub events : after.events.now ≡ set before.events.now before.count written
  pub count : after.count ≡ before.count + 1
  pub same : after.events.ghost_name ≡ before.events.ghost_name
  pub frame : after.frame ≡ begun_after before.frame written

abbrev pub PutsNext : Slots → (at : ℕ) → Event → Slots → Type 0
PutsNext before at e after = HasRoom before → PutsOne before at e after

-- these are the events of the items, as C sees them, one for one
abbrev pub WritesItems : Origin → List CqlpEvent → List Item → Type 0
WritesItems o [] [] = ⊤
WritesItems o (c ∷ cs) (x ∷ xs) = WritesIn o c x.at x.event × WritesItems o cs xs
WritesItems o cs xs = ⊥

-- Items were taken one after the other, of this many bytes, and their events, as C sees them, are after the first n
-- of the array, which is the same otherwise. The frame is under way that is after them.
pub record PutsWhole (old new : StreamState) (input : Bor (List ℕ)) (n : ℕ) (put : WholePut)
    (before after : List CqlpEvent) (was now : CqlpBegun) : Type 0 where
  pub items : List Item
  pub takes : TakesItems old input.now items new
  pub all : put.used ≡ bytes_of items
  pub events : List CqlpEvent
  pub written : (gifts : Gifts) (s : List ℕ) (es : List (ℕ × Event)) → AfterGifts gifts old s es → old.refusal ≡ None
      → WritesItems (record { input = input; offset = length s }) events items
  pub first : take put.count after ≡ take n before ++ events
  pub others : drop put.count after ≡ drop put.count before
  pub long : length after ≡ length before
  pub count : put.count ≡ n + length items
  pub frame : now ≡ begun_by was events
