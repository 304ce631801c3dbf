-- What the front of a field determines of it.
use Rattle.std.specs.Prelude.{◌≡◌, ℕ, ◌+◌, ◌-◌, ◌^◌, ◌++◌, ◌<◌, ◌≤◌, ◌==◌, ◌||◌, List, length, take, drop, Some, None, Result, Ok}
use Rattle.std.specs.Prelude.{Err, if◌then◌else◌, ⊤}
use Rattle.std.specs.Int.{w8, w16, w32, w64, from_be_bytes, cast_signed}
use Rattle.cqlp_note.specs.declared.field.Notation.{Notation}
use Rattle.cqlp_note.specs.declared.field.Notation.TheVariants as notation
use Rattle.cqlp_note.specs.declared.refusal.Reason.TheVariants.{BadCount, BadInet, BadValueLength}
use Rattle.cqlp_note.specs.declared.prim.BoundValue.TheVariants as bound
use Rattle.cqlp_note.specs.declared.prim.Primitive.{Primitive}
use Rattle.cqlp_note.specs.declared.prim.Primitive.TheVariants as prim
use Rattle.cqlp_note.specs.declared.head.Wanted.{Wanted}
use Rattle.cqlp_note.specs.declared.head.ContentForm.{ContentForm}
use Rattle.cqlp_note.specs.declared.head.ContentForm.TheVariants as form
use Rattle.cqlp_note.specs.declared.head.Head.{Head}
use Rattle.cqlp_note.specs.declared.head.Head.TheVariants as head
use Rattle.cqlp_note.specs.declared.head.Stop.{Stop}
use Rattle.cqlp_note.specs.declared.head.Stop.TheVariants as stop
use Rattle.cqlp_note.specs.Reader.{More, Bad, Got, Gives, Refuses, Takes, says}
use Rattle.cqlp_note.specs.Field.{FieldValue, Byte, Short, Int, Long, Uuid, Count, Text, Bytes, Bound, Inet, Null, Unset, Known}
use Rattle.cqlp_note.specs.Field.{FieldReader, text_of, field_of, content_of, inet_of, is_negative, signed}

abbrev pub value_of : Primitive → FieldValue
value_of (prim.Byte n) = Byte n
value_of (prim.Short n) = Short n
value_of (prim.Int z) = Int z
value_of (prim.Long z) = Long z
value_of (prim.Uuid c) = Uuid c
value_of (prim.Count n) = Count n
value_of (prim.Text s) = Text s.now
value_of (prim.Bytes None) = Bytes None
value_of (prim.Bytes (Some c)) = Bytes (Some c.now)
value_of (prim.Bound bound.Null) = Bound Null
value_of (prim.Bound bound.Unset) = Bound Unset
value_of (prim.Bound (bound.Bytes c)) = Bound (Known c.now)
value_of (prim.Inet a z) = Inet a z

-- no content is in it
abbrev pub HasNoContent : Primitive → Type 0
HasNoContent (prim.Text s) = ⊥
HasNoContent (prim.Bytes (Some c)) = ⊥
HasNoContent (prim.Bound (bound.Bytes c)) = ⊥
HasNoContent v = ⊤

-- the field that was asked for
abbrev pub reader_of : Wanted → FieldReader
reader_of w = field_of w.notation w.limit w.room

-- what is made of a content
abbrev pub made : ContentForm → List ℕ → FieldReader
made form.Text c = text_of c
made form.Bytes c = Gives (Bytes (Some c))
made form.Bound c = Gives (Bound (Known c))

-- ---- the part that every field in a notation has

abbrev pub fixed_of : Notation → ℕ
fixed_of notation.Byte = 1
fixed_of notation.Short = 2
fixed_of notation.Int = 4
fixed_of notation.Long = 8
fixed_of notation.Uuid = 16
fixed_of notation.Count16 = 2
fixed_of notation.Count32 = 4
fixed_of notation.Text16 = 2
fixed_of notation.Text32 = 4
fixed_of notation.Bytes16 = 2
fixed_of notation.Bytes32 = 4
fixed_of notation.Bound = 4
fixed_of notation.Inet = 1
fixed_of (notation.Content n) = 0

-- what goes by that part
abbrev pub after_fixed : Notation → (limit room : ℕ) → List ℕ → FieldReader
after_fixed notation.Byte limit room c = Gives (Byte (from_be_bytes w8 c))
after_fixed notation.Short limit room c = Gives (Short (from_be_bytes w16 c))
after_fixed notation.Int limit room c = Gives (Int (signed (from_be_bytes w32 c)))
after_fixed notation.Long limit room c = Gives (Long (cast_signed w64 (from_be_bytes w64 c)))
after_fixed notation.Uuid limit room c = Gives (Uuid c)
after_fixed notation.Count16 limit room c = Gives (Count (from_be_bytes w16 c))
after_fixed notation.Count32 limit room c =
    if is_negative (from_be_bytes w32 c) then Refuses BadCount else Gives (Count (from_be_bytes w32 c))
after_fixed notation.Text16 limit room c = content_of 2 (from_be_bytes w16 c) limit room (made form.Text)
after_fixed notation.Text32 limit room c =
    if is_negative (from_be_bytes w32 c) then Refuses BadCount
    else content_of 4 (from_be_bytes w32 c) limit room (made form.Text)
after_fixed notation.Bytes16 limit room c = content_of 2 (from_be_bytes w16 c) limit room (made form.Bytes)
after_fixed notation.Bytes32 limit room c =
    if is_negative (from_be_bytes w32 c) then Gives (Bytes None)
    else content_of 4 (from_be_bytes w32 c) limit room (made form.Bytes)
after_fixed notation.Bound limit room c =
    if from_be_bytes w32 c == (2 ^ 32 - 1) then Gives (Bound Null)
    else if from_be_bytes w32 c == (2 ^ 32 - 2) then Gives (Bound Unset)
    else if is_negative (from_be_bytes w32 c) then Refuses BadValueLength
    else content_of 4 (from_be_bytes w32 c) limit room (made form.Bound)
after_fixed notation.Inet limit room c =
    if (from_be_bytes w8 c == 4) || (from_be_bytes w8 c == 16) then inet_of (from_be_bytes w8 c) room
    else Refuses BadInet
after_fixed (notation.Content n) limit room c = content_of 0 n limit room (made form.Bytes)

-- what goes before a content, at most
abbrev pub front_of : Notation → ℕ
front_of notation.Inet = 21
front_of n = fixed_of n

-- ---- what a front determines

-- What the reader of a field says after k bytes, of the rest and of whatever follows, is what this determines.
abbrev pub Determines : Wanted → FieldReader → (k : ℕ) → (rest : List ℕ) → Result Head Stop → Type 0
Determines w r k rest (Ok (head.Whole used v)) =
    (used ≤ k + length rest) × ((t : List ℕ) → says r k (rest ++ t) ≡ Got (value_of v) used) × HasNoContent v
Determines w r k rest (Ok (head.Content after len f)) =
    (after ≡ front_of w.notation) × (k ≤ after) × (after ≤ k + length rest) × (len ≤ w.limit)
    × ((t : List ℕ) → says r k (rest ++ t) ≡ says (Takes len (made f)) after (drop (after - k) rest ++ t))
Determines w r k rest (Err stop.Wanting) = (k + length rest < front_of w.notation) × (says r k rest ≡ More)
Determines w r k rest (Err (stop.Refused why)) = (t : List ℕ) → says r k (rest ++ t) ≡ Bad why

-- what the bytes after its fixed part determine of a field in this notation
abbrev pub DeterminesAfterFixed : Wanted → Notation → (bytes : List ℕ) → Result Head Stop → Type 0
DeterminesAfterFixed w n bytes r =
    Determines w (after_fixed n w.limit w.room (take (fixed_of n) bytes)) (fixed_of n) (drop (fixed_of n) bytes) r
