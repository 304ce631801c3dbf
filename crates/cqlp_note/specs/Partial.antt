-- A field out of pieces.
use Rattle.std.specs.Prelude.{◌≡◌, ℕ, ◌+◌, ◌-◌, ◌^◌, ◌==◌, ◌++◌, ◌<◌, ◌≤◌, if◌then◌else◌, Bool, true, false, List, [], length, take}
use Rattle.std.specs.Prelude.{drop, Option, Some, None, ⊤}
use Rattle.std.specs.Int.{w32, from_be_bytes}
use Rattle.std.specs.Ptr.{Ptr}
use Rattle.std.specs.Str.{is_utf8}
use Rattle.cqlp_note.specs.declared.field.Notation.{Notation}
use Rattle.cqlp_note.specs.declared.field.Notation.TheVariants as notation
use Rattle.cqlp_note.specs.declared.head.Wanted.{Wanted}
use Rattle.cqlp_note.specs.declared.whole.WholeField.{WholeField}
use Rattle.cqlp_note.specs.declared.head.ContentForm.{ContentForm}
use Rattle.cqlp_note.specs.declared.head.ContentForm.TheVariants as form
use Rattle.cqlp_note.specs.declared.advance.ContentPlace.{ContentPlace}
use Rattle.cqlp_note.specs.declared.advance.ContentPlace.TheVariants as lies
use Rattle.cqlp_note.specs.declared.advance.FieldOutline.{FieldOutline}
use Rattle.cqlp_note.specs.declared.advance.FieldOutline.TheVariants as item
use Rattle.cqlp_note.specs.declared.advance.FieldAdvance.{FieldAdvance}
use Rattle.cqlp_note.specs.declared.advance.FieldAdvance.TheVariants as taken
use Rattle.cqlp_note.specs.declared.advance.Push.{Push}
use Rattle.cqlp_note.specs.declared.advance.Push.TheVariants as push
use Rattle.cqlp_note.specs.declared.advance.FieldStage.{FieldStage}
use Rattle.cqlp_note.specs.declared.advance.FieldStage.TheVariants as stage
use Rattle.cqlp_note.specs.declared.prim.BoundValue.{BoundValue}
use Rattle.cqlp_note.specs.declared.prim.BoundValue.TheVariants as bound
use Rattle.cqlp_note.specs.declared.prim.Primitive.{Primitive}
use Rattle.cqlp_note.specs.Reader.{More, Bad, Got, Gives, Takes, says}
use Rattle.cqlp_note.specs.Field.{FieldValue, Text, Bytes, Bound, Known, content_length, content_of, is_negative}
use Rattle.cqlp_note.specs.Gathered.{Gathered}
use Rattle.cqlp_note.specs.Head.{HasNoContent, after_fixed, fixed_of, reader_of, value_of, made, front_of}

-- What a caller knows of a `Partial`: the room for a content; whether a field is under way, which was asked for
-- last, and its bytes since `begin`; the content that the buffer holds, and where the buffer begins.
pub record FieldState : Type 0 where
  pub room : ℕ
  pub under_way : Bool
  pub field : Wanted
  pub seen : List ℕ
  pub content : List ℕ
  pub buffer : Ptr

-- room for contents of this many bytes, no field under way, and nothing in the buffer
pub record IsNew (size : ℕ) (p : FieldState) : Type 0 where
  pub room : p.room ≡ size
  pub idle : p.under_way ≡ false
  pub none : p.seen ≡ []
  pub empty : p.content ≡ []

abbrev pub begun : FieldState → Wanted → FieldState
begun p w = record p { under_way = true; field = w; seen = []; content = [] }

-- the same field, after these bytes of it
abbrev pub going_on : FieldState → (seen content : List ℕ) → FieldState
going_on p seen content = record p { under_way = true; seen = seen; content = content }

-- no field, with this content in the buffer
abbrev pub ended : FieldState → (content : List ℕ) → FieldState
ended p content = record p { under_way = false; seen = []; content = content }

-- ---- what is inside

abbrev pub is_under_way : FieldStage → Bool
is_under_way stage.Idle = false
is_under_way stage.Front = true
is_under_way (stage.Content len f) = true

abbrev pub seen_of : FieldStage → (front content : List ℕ) → List ℕ
seen_of stage.Idle front content = []
seen_of stage.Front front content = front
seen_of (stage.Content len f) front content = front ++ content

abbrev pub progress : FieldStage → Wanted → (front : List ℕ) → Gathered → FieldState
progress s w front g = record {
  room = g.room;
  under_way = is_under_way s;
  field = w;
  seen = seen_of s front g.items;
  content = g.items;
  buffer = g.buffer;
}

-- Whatever follows these bytes of a field, after `taken` of them comes a content of len bytes, which begins with
-- `rest`.
abbrev pub IsContentAfter : Wanted → (bytes : List ℕ) → (len : ℕ) → ContentForm → (taken : ℕ) → (rest : List ℕ) → Type 0
IsContentAfter w bytes len f taken rest =
    (t : List ℕ) → says (reader_of w) 0 (bytes ++ t) ≡ says (Takes len (made f)) taken (rest ++ t)

-- A front goes on, or is empty. A content of len bytes goes on after its front.
abbrev pub IsUnderWay : FieldStage → Wanted → (front content : List ℕ) → (room : ℕ) → Type 0
IsUnderWay stage.Idle w front content room = ⊤
IsUnderWay stage.Front w front content room =
    (content ≡ []) × (w.limit ≤ room) × (length front ≤ front_of w.notation)
    × (0 < length front → says (reader_of w) 0 front ≡ More)
IsUnderWay (stage.Content len f) w front content room =
    (length front ≤ 24) × (length content < len) × (len ≤ room)
    × IsContentAfter w (front ++ content) len f (length front) content
    × (length front ≡ front_of w.notation)

-- no byte of a field has come
abbrev pub IsFresh : FieldState → Type 0
IsFresh p = (p.seen ≡ []) × (p.content ≡ [])

-- The first bytes are a whole field that fits its container: this value, in which no content is.
abbrev pub IsPlain : Wanted → (bytes : List ℕ) → (used : ℕ) → Primitive → Type 0
IsPlain w bytes used v =
    (used ≡ fixed_of w.notation) × (used ≤ w.room) × (used ≤ length bytes) × HasNoContent v
    × (after_fixed w.notation w.limit w.room (take used bytes) ≡ Gives (value_of v))

-- a [value] of a request that its length says whole (section 3)
abbrev pub bare_value : ℕ → Option BoundValue
bare_value n =
    if n == (2 ^ 32 - 1) then Some bound.Null
    else if n == (2 ^ 32 - 2) then Some bound.Unset
    else None

-- no field that ends with its fixed part is at the front of these bytes
abbrev pub IsNoPlain : Notation → (bytes : List ℕ) → Type 0
IsNoPlain n bytes =
    (limit room : ℕ) (v : FieldValue) → ¬ (after_fixed n limit room (take (fixed_of n) bytes) ≡ Gives v)

-- the value of a field that ends with its fixed part, if it does
abbrev pub IsPlainValue : Notation → (bytes : List ℕ) → Option Primitive → Type 0
IsPlainValue n bytes None = IsNoPlain n bytes
IsPlainValue n bytes (Some v) =
    HasNoContent v × ((limit room : ℕ) → after_fixed n limit room (take (fixed_of n) bytes) ≡ Gives (value_of v))

-- a field that ends with its fixed part, if there is one
abbrev pub IsPlainFront : Wanted → (bytes : List ℕ) → Option WholeField → Type 0
IsPlainFront w bytes None =
    fixed_of w.notation ≤ w.room → fixed_of w.notation ≤ length bytes → IsNoPlain w.notation bytes
IsPlainFront w bytes (Some f) = IsPlain w bytes f.used f.value

-- ---- what is handed out

abbrev pub accepts : ContentForm → List ℕ → Bool
accepts form.Text c = is_utf8 c
accepts form.Bytes c = true
accepts form.Bound c = true

-- After these bytes comes a content of this length.
abbrev pub LeadsToContent : Notation → (bytes : List ℕ) → (start len : ℕ) → ContentForm → Type 0
LeadsToContent n bytes start len f =
    (start ≤ 4) × (start ≡ fixed_of n)
    × ((limit room : ℕ) → after_fixed n limit room (take start bytes) ≡ content_of start len limit room (made f))

-- no content begins by this fixed part of a field, since its length is negative or it has none
abbrev pub HasNoLength : Notation → List ℕ → Type 0
HasNoLength notation.Text16 c = ⊥
HasNoLength notation.Bytes16 c = ⊥
HasNoLength notation.Text32 c = is_negative (from_be_bytes w32 c) ≡ true
HasNoLength notation.Bytes32 c = is_negative (from_be_bytes w32 c) ≡ true
HasNoLength notation.Bound c = is_negative (from_be_bytes w32 c) ≡ true
HasNoLength n c = ⊤

-- Where a content begins after these bytes, if one does.
abbrev pub IsContentHead : Notation → (bytes : List ℕ) → Option (ℕ × ℕ × ContentForm) → Type 0
IsContentHead n bytes None = fixed_of n ≤ length bytes → HasNoLength n (take (fixed_of n) bytes)
IsContentHead n bytes (Some h) = LeadsToContent n bytes h.0 h.1 h.2

-- Such a content is within the limit, fits its container, lies whole in the bytes, and may be there.
abbrev pub HasContent : Wanted → (bytes : List ℕ) → (start len : ℕ) → ContentForm → Type 0
HasContent w bytes start len f =
    (len ≤ w.limit) × (start + len ≤ w.room) × (start + len ≤ length bytes)
    × (accepts f (take len (drop start bytes)) ≡ true)

abbrev pub content_value : ContentForm → List ℕ → FieldValue
content_value form.Text c = Text c
content_value form.Bytes c = Bytes (Some c)
content_value form.Bound c = Bound (Known c)

abbrev pub content_at : ContentPlace → (input buffer : List ℕ) → List ℕ
content_at (lies.InInput start len) input buffer = take len (drop start input)
content_at lies.InBuffer input buffer = buffer

abbrev pub item_value : FieldOutline → (input buffer : List ℕ) → FieldValue
item_value (item.Plain v) input buffer = value_of v
item_value (item.Content f l) input buffer = content_value f (content_at l input buffer)

abbrev pub LiesThere : ContentPlace → (input : List ℕ) → Type 0
LiesThere (lies.InInput start len) input = start + len ≤ length input
LiesThere lies.InBuffer input = ⊤

-- an item that can be lent from this input and this buffer
abbrev pub CanLend : FieldOutline → (input buffer : List ℕ) → Type 0
CanLend (item.Plain v) input buffer = ⊤
CanLend (item.Content f l) input buffer = LiesThere l input × (accepts f (content_at l input buffer) ≡ true)

-- the content itself
abbrev pub content_bytes : FieldValue → List ℕ
content_bytes (Text s) = s
content_bytes (Bytes (Some c)) = c
content_bytes (Bound (Known c)) = c
content_bytes v = []

-- The first `used` bytes of the input end the field, which is this value. Where its content lies whole in them,
-- the buffer is empty; else it holds the content, for which it has room.
pub record Ends (old : FieldState) (input : List ℕ) (used : ℕ) (v : FieldValue) (new : FieldState) : Type 0 where
  pub within : used ≤ length input
  pub is : says (reader_of old.field) 0 (old.seen ++ input) ≡ Got v (length old.seen + used)
  pub idle : new ≡ ended old new.content
  pub lent : content_length v ≤ used → new.content ≡ []
  pub kept : used < content_length v → new.content ≡ content_bytes v
  pub fits : length new.content ≤ old.room

-- All of the input belongs to the field, which goes on. The buffer holds what has come of its content, all after the
-- bytes that go before one, and has room for it.
pub record Waits (old : FieldState) (input : List ℕ) (used : ℕ) (new : FieldState) : Type 0 where
  pub all : used ≡ length input
  pub is : says (reader_of old.field) 0 (old.seen ++ input) ≡ More
  pub under_way : new ≡ going_on old (old.seen ++ input) new.content
  pub kept : new.content ≡ drop (front_of old.field.notation) (old.seen ++ input)
  pub fits : length new.content ≤ old.room

-- Some of a content has come, and it goes on also after this many bytes more, for which the buffer has room.
pub record GathersMore (most : ℕ) (p : FieldState) : Type 0 where
  pub under_way : p.under_way ≡ true
  pub some : 0 < length p.content
  pub waits : (piece : List ℕ) → length piece ≤ most → says (reader_of p.field) 0 (p.seen ++ piece) ≡ More
  pub fits : length p.content + most ≤ p.room

-- What the input adds to the bytes before it makes of a field.
abbrev pub Advances : FieldState → List ℕ → FieldAdvance → FieldState → Type 0
Advances old input (taken.More used) new = Waits old input used new
Advances old input (taken.Got used i) new =
    Ends old input used (item_value i input new.content) new × CanLend i input new.content
Advances old input (taken.Refused r) new =
    (r.at ≡ old.field.at) × (says (reader_of old.field) 0 (old.seen ++ input) ≡ Bad r.why) × (new ≡ ended old [])

abbrev pub Pushes : FieldState → List ℕ → Push → FieldState → Type 0
Pushes old input (push.More used) new = Waits old input used new
Pushes old input (push.Got used v) new = Ends old input used (value_of v) new
Pushes old input (push.Refused r) new =
    (r.at ≡ old.field.at) × (says (reader_of old.field) 0 (old.seen ++ input) ≡ Bad r.why) × (new ≡ ended old [])

-- How much of the input is used: all of it while the field goes on, and no more than it where the field ends.
abbrev pub Uses : List ℕ → Push → Type 0
Uses input (push.More used) = used ≡ length input
Uses input (push.Got used v) = used ≤ length input
Uses input (push.Refused r) = ⊤
