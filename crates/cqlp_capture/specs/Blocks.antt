-- What the blocks of a pcapng section say (draft-ietf-opsawg-pcapng).
use Rattle.std.specs.Prelude.{ℕ, ◌+◌, ◌-◌, ◌*◌, ◌^◌, ◌<◌, ◌≤◌, ◌==◌, ◌&&◌, ◌||◌, Bool, List, length, Option, Some, None, Result, Ok}
use Rattle.std.specs.Prelude.{nat_lt, nat_le, option_map, slice_get, slice_index, if◌then◌else◌}
use Rattle.cqlp_capture.specs.declared.block.Block.{Block}
use Rattle.cqlp_capture.specs.declared.block.BlockKind.{BlockKind}
use Rattle.cqlp_capture.specs.declared.block.BlockKind.TheVariants as kind
use Rattle.cqlp_capture.specs.declared.block.EitherLength.{EitherLength}
use Rattle.cqlp_capture.specs.declared.file.ByteOrder.{ByteOrder}
use Rattle.cqlp_capture.specs.declared.file.ByteOrder.TheVariants.{BigEndian, LittleEndian}
use Rattle.cqlp_capture.specs.declared.file.SectionForm.TheVariants as form
use Rattle.cqlp_capture.specs.declared.event.PacketHead.{PacketHead}
use Rattle.cqlp_capture.specs.declared.event.EventOutline.TheVariants as outline
use Rattle.cqlp_capture.specs.declared.event.SkipReason.{SkipReason}
use Rattle.cqlp_capture.specs.declared.event.SkipReason.TheVariants.{ShortBlock, BadOptionLength, UnknownTimeUnit, NegativeTimeOffset, TooManyInterfaces, UnknownInterface, UnreadInterface, TimeTooLarge, PacketBeyondBlock, PacketTooLong}
use Rattle.cqlp_capture.specs.declared.event.Emission.{Emission}
use Rattle.cqlp_capture.specs.declared.interfaces.KnownInterface.{KnownInterface}
use Rattle.cqlp_capture.specs.declared.interfaces.TableChange.TheVariants.{Keep, Forget, Add}
use Rattle.cqlp_capture.specs.declared.place.Stage.{Stage}
use Rattle.cqlp_capture.specs.declared.place.Stage.TheVariants.{SectionBody, BlockHead, InterfaceBody, OptionHead, TimeUnit, TimeOffset, EnhancedBody, PacketBody, SimpleBody, BlockData, Pass, BlockEnd}
use Rattle.cqlp_capture.specs.declared.refusal.CaptureReason.TheVariants.{UnknownVersion, FileTooLong, UnknownByteOrder, BadBlockLength, UnequalBlockLengths}
use Rattle.cqlp_capture.specs.declared.refusal.CaptureRefusal.{CaptureRefusal}
use Rattle.cqlp_capture.specs.Numbers.{is_section, is_block_length, number_16, number_32, number_64, order_of, padded, unit_of}
use Rattle.cqlp_capture.specs.Emission.{goes_on, refused}

-- ---- a block (section 3.1): type, length, what it says, and the length again

-- the kind of the blocks of this type (section 10.1)
abbrev pub kind_of : ℕ → BlockKind
kind_of n =
    if is_section n then kind.Section
    else if n == 1 then kind.Interface
    else if n == 2 then kind.Packet
    else if n == 3 then kind.SimplePacket
    else if n == 6 then kind.EnhancedPacket
    else kind.Other

-- how many bytes a block of this kind has at least, so that it can be read
abbrev pub least_length : BlockKind → ℕ
least_length kind.Section = 28
least_length kind.Interface = 20
least_length kind.Packet = 32
least_length kind.EnhancedPacket = 32
least_length kind.SimplePacket = 16
least_length kind.Other = 12

-- A block has both its lengths. What is left of a shorter one of an interface would not say its link type: the numbers of the
-- interfaces after it would not be known.
abbrev pub lawful_length : BlockKind → ℕ
lawful_length kind.Interface = 20
lawful_length k = 12

-- a block that begins before offset 2^63, and has both lengths
pub record IsBlock (b : Block) : Type 0 where
  pub near : b.start ≤ 2 ^ 63
  pub least : 12 ≤ b.length
  pub most : b.length < 2 ^ 32

-- where its second length begins
abbrev pub block_end : Block → ℕ
block_end b = b.start + b.length - 4

-- so many bytes, from this offset on, lie between its two lengths
pub record IsInBlock (b : Block) (offset n : ℕ) : Type 0 where
  pub block : IsBlock b
  pub after : b.start + 8 ≤ offset
  pub before : offset + n ≤ block_end b

-- the bytes from this offset on to its second length
abbrev pub room_of : Block → (offset : ℕ) → ℕ
room_of b offset = block_end b - offset

-- Options are read where there is room for one. What is left of a block is passed over, up to its second length.
abbrev pub at_option : Block → (offset : ℕ) → Stage
at_option b offset =
    if nat_le (offset + 4) (block_end b) then OptionHead b
    else if nat_lt offset (block_end b) then Pass b (block_end b)
    else BlockEnd b

-- the bytes from one offset to the other are passed over
abbrev pub passing : Block → (offset until : ℕ) → Stage
passing b offset until = if offset == until then at_option b until else Pass b until

-- A block, an interface or a packet cannot be read for this reason: what is left of the block, from this offset on, is passed over.
abbrev pub skipped : (offset : ℕ) → Block → SkipReason → Result Emission CaptureRefusal
skipped offset b why =
    Ok (record {
      at = b.start;
      what = Some (outline.Skipped why);
      place = record { offset = offset; stage = passing b offset (block_end b) };
      change = Keep;
    })

-- ---- the section header block (section 4.1)

-- its length comes before the order of its bytes is known
abbrev pub either_length : (i : ℕ) → List ℕ → EitherLength
either_length i b = record { big_endian = number_32 BigEndian i b; little_endian = number_32 LittleEndian i b }

abbrev pub length_in : ByteOrder → EitherLength → ℕ
length_in BigEndian l = l.big_endian
length_in LittleEndian l = l.little_endian

abbrev pub read_section_length : List ℕ → Result Emission CaptureRefusal
read_section_length b = goes_on 8 (SectionBody (either_length 0 b))

-- a section begins, in which no interface is known
abbrev pub read_section : Block → Result Emission CaptureRefusal
read_section b =
    Ok (record {
      at = b.start;
      what = Some (outline.Section (form.Pcapng b.order));
      place = record { offset = b.start + 24; stage = passing b (b.start + 24) (block_end b) };
      change = Forget;
    })

-- version 1.0, or 1.2, which means the same
abbrev pub is_known_version : ByteOrder → List ℕ → Bool
is_known_version o b = (number_16 o 4 b == 1) && ((number_16 o 6 b == 0) || (number_16 o 6 b == 2))

abbrev pub section_at : (offset : ℕ) → EitherLength → ByteOrder → Block
section_at offset l o = record { order = o; start = offset - 8; length = length_in o l; interface = None }

abbrev pub read_section_in : (offset : ℕ) → EitherLength → List ℕ → Option ByteOrder → Result Emission CaptureRefusal
read_section_in offset l b None = refused offset UnknownByteOrder
read_section_in offset l b (Some o) =
    if is_block_length 28 (length_in o l)
    then (if is_known_version o b then read_section (section_at offset l o) else refused (offset + 4) UnknownVersion)
    else refused (offset - 4) BadBlockLength

-- the byte-order magic, the version, and the length of the section, which is not looked at
abbrev pub read_section_body : (offset : ℕ) → EitherLength → List ℕ → Result Emission CaptureRefusal
read_section_body offset l b = read_section_in offset l b (order_of (number_32 BigEndian 0 b))

-- ---- the head of any block

abbrev pub block_at : (offset : ℕ) → ByteOrder → List ℕ → Block
block_at offset o b = record { order = o; start = offset; length = number_32 o 4 b; interface = None }

-- where the body of a block of this kind is read
abbrev pub body_of : BlockKind → Block → Stage
body_of kind.Interface b = InterfaceBody b
body_of kind.Packet b = PacketBody b
body_of kind.EnhancedPacket b = EnhancedBody b
body_of kind.SimplePacket b = SimpleBody b
body_of kind.Section b = passing b (b.start + 8) (block_end b)
body_of kind.Other b = passing b (b.start + 8) (block_end b)

abbrev pub read_block : BlockKind → Block → Result Emission CaptureRefusal
read_block k b = goes_on (b.start + 8) (body_of k b)

abbrev pub read_block_of : BlockKind → Block → Result Emission CaptureRefusal
read_block_of k b =
    if is_block_length (lawful_length k) b.length
    then (if nat_lt b.length (least_length k) then skipped (b.start + 8) b ShortBlock else read_block k b)
    else refused (b.start + 4) BadBlockLength

abbrev pub read_block_head : (offset : ℕ) → ByteOrder → List ℕ → Result Emission CaptureRefusal
read_block_head offset o b =
    if nat_lt (2 ^ 63) offset then refused offset FileTooLong
    else if is_section (number_32 o 0 b) then goes_on (offset + 8) (SectionBody (either_length 4 b))
    else read_block_of (kind_of (number_32 o 0 b)) (block_at offset o b)

-- ---- the interface description block (section 4.2)

-- the block with what is known of its interface
abbrev pub describing : Block → KnownInterface → Block
describing b i = record { order = b.order; start = b.start; length = b.length; interface = Some i }

-- this is known up to this offset
abbrev pub described : (offset : ℕ) → Block → KnownInterface → Result Emission CaptureRefusal
described offset b i = goes_on offset (at_option (describing b i) offset)

-- the link type, two bytes that are not used, and how many bytes of a packet were captured at most; times are in
-- microseconds since 1970, where no option says otherwise
abbrev pub read_interface_body : (offset : ℕ) → Block → List ℕ → Result Emission CaptureRefusal
read_interface_body offset b bytes =
    described (offset + 8) b
    (record { link = number_16 b.order 0 bytes; snap_length = number_32 b.order 4 bytes; unit = Some 1000; offset = 0 })

-- No time of the block's interface can be read.
abbrev pub untimed : KnownInterface → KnownInterface
untimed i = record { link = i.link; snap_length = i.snap_length; unit = None; offset = i.offset }

abbrev pub untimed_block : Block → Block
untimed_block b = record { order = b.order; start = b.start; length = b.length; interface = option_map untimed b.interface }

-- An option of the interface cannot be read.
abbrev pub skipped_option : (offset : ℕ) → Block → SkipReason → Result Emission CaptureRefusal
skipped_option offset b why = skipped offset (untimed_block b) why

-- An option (section 3.5) has a code and the length of its value. if_tsresol, 9, has one byte, and if_tsoffset, 14, eight.
abbrev pub read_option : (offset : ℕ) → Block → (code size : ℕ) → Result Emission CaptureRefusal
read_option offset b code size =
    if code == 9
    then (if size == 1 then goes_on (offset + 4) (TimeUnit b) else skipped_option (offset + 4) b BadOptionLength)
    else if code == 14
    then (if size == 8 then goes_on (offset + 4) (TimeOffset b) else skipped_option (offset + 4) b BadOptionLength)
    else goes_on (offset + 4) (passing b (offset + 4) (offset + 4 + padded size))

-- opt_endofopt, 0, is the last
abbrev pub read_option_head : (offset : ℕ) → Block → List ℕ → Result Emission CaptureRefusal
read_option_head offset b bytes =
    if number_16 b.order 0 bytes == 0 then goes_on (offset + 4) (passing b (offset + 4) (block_end b))
    else if nat_lt (block_end b) (offset + 4 + padded (number_16 b.order 2 bytes)) then skipped_option (offset + 4) b BadOptionLength
    else read_option offset b (number_16 b.order 0 bytes) (number_16 b.order 2 bytes)

abbrev pub with_unit : (unit : ℕ) → KnownInterface → KnownInterface
with_unit unit i = record { link = i.link; snap_length = i.snap_length; unit = Some unit; offset = i.offset }

abbrev pub with_offset : (seconds : ℕ) → KnownInterface → KnownInterface
with_offset seconds i = record { link = i.link; snap_length = i.snap_length; unit = i.unit; offset = seconds }

-- what an option says of the block's interface
abbrev pub redescribed : (offset : ℕ) → Block → Option KnownInterface → (KnownInterface → KnownInterface) → Result Emission CaptureRefusal
redescribed offset b None f = goes_on offset (at_option b offset)
redescribed offset b (Some i) f = described offset b (f i)

abbrev pub read_unit : (offset : ℕ) → Block → Option ℕ → Result Emission CaptureRefusal
read_unit offset b None = skipped_option (offset + 4) b UnknownTimeUnit
read_unit offset b (Some unit) = redescribed (offset + 4) b b.interface (with_unit unit)

-- if_tsresol
abbrev pub read_time_unit : (offset : ℕ) → Block → List ℕ → Result Emission CaptureRefusal
read_time_unit offset b bytes = read_unit offset b (unit_of (slice_index bytes 0))

-- if_tsoffset: a signed number of seconds
abbrev pub read_time_offset : (offset : ℕ) → Block → List ℕ → Result Emission CaptureRefusal
read_time_offset offset b bytes =
    if nat_le (2 ^ 63) (number_64 b.order 0 bytes) then skipped_option (offset + 8) b NegativeTimeOffset
    else redescribed (offset + 8) b b.interface (with_offset (number_64 b.order 0 bytes))

-- ---- the bytes of a packet, and the end of a block

abbrev pub read_packet : (offset : ℕ) → Block → PacketHead → Result Emission CaptureRefusal
read_packet offset b h =
    Ok (record {
      at = b.start;
      what = Some (outline.Packet h);
      place = record { offset = offset; stage = BlockData b h.captured };
      change = Keep;
    })

-- a packet whose bytes are at this offset, if they lie in the block and the limit allows as many
abbrev pub read_within : (limit offset : ℕ) → Block → PacketHead → Result Emission CaptureRefusal
read_within limit offset b h =
    if nat_lt (room_of b offset) h.captured then skipped offset b PacketBeyondBlock
    else if nat_lt limit h.captured then skipped offset b PacketTooLong
    else read_packet offset b h

-- these bytes, up to this offset, are all of a packet
abbrev pub read_data : (end offset : ℕ) → Stage → Result Emission CaptureRefusal
read_data end offset s =
    Ok (record { at = offset; what = Some outline.Data; place = record { offset = end; stage = s }; change = Keep })

abbrev pub read_known : (limit : ℕ) → List KnownInterface → (offset : ℕ) → Block → Option KnownInterface → Result Emission CaptureRefusal
read_known limit known offset b None = goes_on (offset + 4) (BlockHead b.order)
read_known limit known offset b (Some i) =
    if nat_lt (length known) limit
    then Ok (record {
      at = b.start;
      what = Some (outline.Interface (record { number = length known; link = i.link; snap_length = i.snap_length }));
      place = record { offset = offset + 4; stage = BlockHead b.order };
      change = Add i;
    })
    else Ok (record {
      at = b.start;
      what = Some (outline.Skipped TooManyInterfaces);
      place = record { offset = offset + 4; stage = BlockHead b.order };
      change = Keep;
    })

-- Both lengths are the same, and where the block was about an interface, that is known from here on.
abbrev pub read_block_end : (limit : ℕ) → List KnownInterface → (offset : ℕ) → Block → List ℕ → Result Emission CaptureRefusal
read_block_end limit known offset b bytes =
    if number_32 b.order 0 bytes == b.length then read_known limit known offset b b.interface
    else refused offset UnequalBlockLengths

-- ---- the enhanced packet block (section 4.3), and the packet block before it (appendix A)

-- a time in nanoseconds, if it is a number of 64 bits
abbrev pub nanoseconds_of : (unit offset units : ℕ) → ℕ
nanoseconds_of unit offset units = units * unit + offset * 1000000000

abbrev pub time_of : (unit offset units : ℕ) → Option ℕ
time_of unit offset units =
    if nat_lt (nanoseconds_of unit offset units) (2 ^ 64) then Some (nanoseconds_of unit offset units) else None

-- the upper half of a time comes first, in both orders of bytes
abbrev pub units_of : ByteOrder → List ℕ → ℕ
units_of o b = number_32 o 4 b * 2 ^ 32 + number_32 o 8 b

abbrev pub enhanced_of : (number : ℕ) → ByteOrder → KnownInterface → (time : ℕ) → List ℕ → PacketHead
enhanced_of number o i time b = record {
  interface = number;
  link = i.link;
  time = Some time;
  captured = number_32 o 12 b;
  original = number_32 o 16 b;
}

abbrev pub read_timed : (limit number offset : ℕ) → Block → List ℕ → KnownInterface → Option ℕ → Result Emission CaptureRefusal
read_timed limit number offset b bytes i None = skipped (offset + 20) b TimeTooLarge
read_timed limit number offset b bytes i (Some time) =
    read_within limit (offset + 20) b (enhanced_of number b.order i time bytes)

abbrev pub read_by_unit : (limit number offset : ℕ) → Block → List ℕ → KnownInterface → Option ℕ → Result Emission CaptureRefusal
read_by_unit limit number offset b bytes i None = skipped (offset + 20) b UnreadInterface
read_by_unit limit number offset b bytes i (Some unit) =
    read_timed limit number offset b bytes i (time_of unit i.offset (units_of b.order bytes))

abbrev pub read_enhanced : (limit number offset : ℕ) → Block → List ℕ → Option KnownInterface → Result Emission CaptureRefusal
read_enhanced limit number offset b bytes None = skipped (offset + 20) b UnknownInterface
read_enhanced limit number offset b bytes (Some i) = read_by_unit limit number offset b bytes i i.unit

-- the number of its interface, its time, how many of its bytes were captured, and how many it had
abbrev pub read_enhanced_body : (limit : ℕ) → List KnownInterface → (number offset : ℕ) → Block → List ℕ → Result Emission CaptureRefusal
read_enhanced_body limit known number offset b bytes = read_enhanced limit number offset b bytes (slice_get known number)

-- the enhanced packet that has these numbers, if its interface is known and its time can be read
abbrev pub enhanced_at : (number : ℕ) → ByteOrder → List ℕ → KnownInterface → Option ℕ → Option PacketHead
enhanced_at number o bytes i None = None
enhanced_at number o bytes i (Some time) = Some (enhanced_of number o i time bytes)

abbrev pub enhanced_by : (number : ℕ) → ByteOrder → List ℕ → KnownInterface → Option ℕ → Option PacketHead
enhanced_by number o bytes i None = None
enhanced_by number o bytes i (Some unit) = enhanced_at number o bytes i (time_of unit i.offset (units_of o bytes))

abbrev pub enhanced_on : (number : ℕ) → ByteOrder → List ℕ → Option KnownInterface → Option PacketHead
enhanced_on number o bytes None = None
enhanced_on number o bytes (Some i) = enhanced_by number o bytes i i.unit

abbrev pub enhanced_in : List KnownInterface → ByteOrder → List ℕ → Option PacketHead
enhanced_in known o bytes = enhanced_on (number_32 o 0 bytes) o bytes (slice_get known (number_32 o 0 bytes))

-- ---- the simple packet block (section 4.4)

-- As many bytes of it were captured as it had, but no more than its interface says, where that says so, and than its block has.
abbrev pub snapped : (snap_length original : ℕ) → ℕ
snapped snap_length original =
    if snap_length == 0 then original else if nat_le original snap_length then original else snap_length

abbrev pub captured_of : KnownInterface → (original room : ℕ) → ℕ
captured_of i original room =
    if nat_lt room (snapped i.snap_length original) then room else snapped i.snap_length original

abbrev pub simple_of : KnownInterface → (original captured : ℕ) → PacketHead
simple_of i original captured =
    record { interface = 0; link = i.link; time = None; captured = captured; original = original }

abbrev pub read_simple : (limit offset : ℕ) → Block → (original : ℕ) → Option KnownInterface → Result Emission CaptureRefusal
read_simple limit offset b original None = skipped (offset + 4) b UnknownInterface
read_simple limit offset b original (Some i) =
    read_within limit (offset + 4) b (simple_of i original (captured_of i original (room_of b (offset + 4))))

-- how many bytes it had; it is one of the section's first interface
abbrev pub read_simple_body : (limit : ℕ) → List KnownInterface → (offset : ℕ) → Block → List ℕ → Result Emission CaptureRefusal
read_simple_body limit known offset b bytes = read_simple limit offset b (number_32 b.order 0 bytes) (slice_get known 0)
