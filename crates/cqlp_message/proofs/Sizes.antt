-- How many bytes spell the parts of a frame, and a frame.
use Rattle.std.proofs.Common.{◌≡◌, ℕ, ◌+◌, List, [], ◌∷◌, ◌++◌, length, append_assoc, false, Some, None, refl, ap, ◌∙◌, arith}
use Rattle.std.proofs.lemmas.List.{length-append}
use Rattle.cqlp_note.specs.declared.field.Notation.{Notation}
use Rattle.cqlp_note.specs.declared.field.Notation.TheVariants as notation
use Rattle.cqlp_note.specs.declared.prim.Address.TheVariants as address
use Rattle.cqlp_note.specs.Heading.{header_bytes}
use Rattle.cqlp_note.specs.Field.{FieldValue, Byte, Short, Int, Long, Uuid, Count, Text, Bytes, Bound, Inet, Null, Unset, Known}
use Rattle.cqlp_note.specs.Head.{fixed_of}
use Rattle.cqlp_note.specs.Spelling.{Spells}
use Rattle.cqlp_note.proofs.Spelled.{counted_size}
use Rattle.cqlp_type.proofs.Lengths.{spelled_long}
use Rattle.cqlp_kind.specs.Types.{NoMore, Type_and}
use Rattle.cqlp_value.proofs.ReadBack.{spelled_size}
use Rattle.cqlp_message.specs.FrameValues.{FrameValue}
use Rattle.cqlp_message.specs.Parts.{Part, Field_is, Type_is, Cell_is, PartSpells, PartsSpell, size_behind, part_size, parts_size}
use Rattle.cqlp_message.specs.Bodies.{message_parts}
use Rattle.cqlp_message.specs.Frames.{FrameSpells, announced_parts, frame_parts, header_of, frame_size}

pub field_size : (n : Notation) (v : FieldValue) (b : List ℕ) → Spells n v b → length b ≡ fixed_of n + size_behind v
unfolding Spells
field_size notation.Byte (Byte n) b s = s.long
field_size notation.Short (Short n) b s = s.long
field_size notation.Int (Int z) b s = s.1.long
field_size notation.Long (Long z) b s = s.1.long
field_size notation.Uuid (Uuid c) b s = s.0
field_size notation.Count16 (Count n) b s = s.long
field_size notation.Count32 (Count n) b s = s.0.long
field_size notation.Text16 (Text t) b s = counted_size 2 _ t b s.0
field_size notation.Text32 (Text t) b s = counted_size 4 _ t b s.0
field_size notation.Bytes16 (Bytes (Some c)) b s = counted_size 2 _ c b s
field_size notation.Bytes32 (Bytes None) b s = s.1.long
field_size notation.Bytes32 (Bytes (Some c)) b s = counted_size 4 _ c b s.0
field_size notation.Bound (Bound Null) b s = s.long
field_size notation.Bound (Bound Unset) b s = s.long
field_size notation.Bound (Bound (Known c)) b s = counted_size 4 _ c b s.0
field_size notation.Inet (Inet (address.V4 a) z) b s = omega (arith, s.1.counts.long, s.1.ends.long, s.2, ap length s.1.parts, length-append (s.1.head ++ a) s.1.tail, length-append s.1.head a)
field_size notation.Inet (Inet (address.V6 a) z) b s = omega (arith, s.1.counts.long, s.1.ends.long, s.2, ap length s.1.parts, length-append (s.1.head ++ a) s.1.tail, length-append s.1.head a)
field_size (notation.Content n) (Bytes (Some c)) b s = omega (arith, s.0, ap length s.1)
field_size n v b s = absurd s

pub part_sized : (part : Part) (b : List ℕ) → PartSpells part b → length b ≡ part_size part
part_sized (Field_is f n v) b s = field_size n v b s
part_sized (Type_is t) b s = spelled_long false t b s.spelled
part_sized (Cell_is row column k inner v) b s = spelled_size (Type_and k inner NoMore) v b s

pub parts_long : (ps : List Part) (b : List ℕ) → PartsSpell ps b → length b ≡ parts_size ps
parts_long [] b s = ap length s
parts_long (part ∷ ps) b s = ap length s.whole ∙ length-append s.front s.back ∙ rw (part_sized part s.front s.this, parts_long ps s.back s.that)

-- what spells some parts and what spells others, one after the other, spell all of them
pub parts_join : (ps qs : List Part) (b c : List ℕ) → PartsSpell ps b → PartsSpell qs c → PartsSpell (ps ++ qs) (b ++ c)
parts_join [] qs b c s t = rw s t
parts_join (part ∷ ps) qs b c s t =
    record { front = s.front; back = s.back ++ c; whole = ap (λ (x : List ℕ). x ++ c) s.whole ∙ append_assoc s.front s.back c; this = s.this; that = parts_join ps qs s.back c s.that t }

-- The bytes between a frame's header and what is after its message spell all of its parts.
pub frame_spelled : (f : FrameValue) (x : ℕ) (b : List ℕ) (s : FrameSpells f x b) → PartsSpell (frame_parts f) (s.announced ++ s.body)
frame_spelled f x b s = parts_join (announced_parts f) (message_parts f.message) s.announced s.body s.parts s.message

-- A frame has as many bytes as its header, its parts and what is after them.
pub frame_long : (f : FrameValue) (x : ℕ) (b : List ℕ) → FrameSpells f x b → length b ≡ frame_size f x
frame_long f x b s =
    let head : List ℕ = header_bytes (header_of f (length (s.announced ++ s.body ++ s.extra))) in
    let nine : length head ≡ 9 = refl in
    let inside : length (s.announced ++ s.body) ≡ parts_size (frame_parts f) = parts_long (frame_parts f) _ (frame_spelled f x b s) in
    omega (arith, nine, inside, s.more, ap length s.whole, length-append (head ++ s.announced ++ s.body) s.extra, length-append (head ++ s.announced) s.body, length-append head s.announced, length-append s.announced s.body)
