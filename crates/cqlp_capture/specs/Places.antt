-- Places that a reading comes to.
use Rattle.std.specs.Prelude.{◌≡◌, ℕ, ◌+◌, ◌-◌, ◌^◌, ◌<◌, ◌≤◌, Bool, true, false, List, [], length, ⊤}
use Rattle.cqlp_capture.specs.declared.block.Block.{Block}
use Rattle.cqlp_capture.specs.declared.interfaces.KnownInterface.{KnownInterface}
use Rattle.cqlp_capture.specs.declared.limits.CaptureLimits.{CaptureLimits}
use Rattle.cqlp_capture.specs.declared.place.Stage.{Stage}
use Rattle.cqlp_capture.specs.declared.place.Stage.TheVariants.{Magic, FileHead, RecordHead, Data, Rest, SectionLength, SectionBody, BlockHead, InterfaceBody, OptionHead, TimeUnit, TimeOffset, EnhancedBody, PacketBody, SimpleBody, BlockData, Pass, BlockEnd}
use Rattle.cqlp_capture.specs.declared.place.Place.{Place}
use Rattle.cqlp_capture.specs.Blocks.{IsInBlock, block_end}
use Rattle.cqlp_capture.specs.Reading.{Spot}

-- a packet's bytes come after the header of its record, and the numbers of a section after its length
abbrev pub ComesAfterHead : (offset : ℕ) → Stage → Type 0
ComesAfterHead offset (Data r n) = 16 ≤ offset
ComesAfterHead offset (Rest r start left) = start + 16 ≤ offset
ComesAfterHead offset (SectionBody l) = 8 ≤ offset
ComesAfterHead offset s = ⊤

abbrev pub HasRecordBefore : Place → Type 0
HasRecordBefore p = ComesAfterHead p.offset p.stage

-- the bytes that are passed over next
pub record IsPassing (b : Block) (offset until : ℕ) : Type 0 where
  pub block : IsInBlock b offset 1
  pub some : offset < until
  pub inside : until ≤ block_end b

-- this many bytes right after the block's first length
pub record IsBody (b : Block) (offset n : ℕ) : Type 0 where
  pub block : IsInBlock b offset n
  pub here : offset ≡ b.start + 8

-- this many bytes of a packet within the limit
pub record IsPacket (limit : ℕ) (b : Block) (offset n : ℕ) : Type 0 where
  pub block : IsInBlock b offset n
  pub few : n ≤ limit

pub record IsAtEnd (b : Block) (offset : ℕ) : Type 0 where
  pub block : IsInBlock b offset 0
  pub here : offset ≡ block_end b

-- no record and no block begins much farther than offset 2^63, what is read lies in its block, and a packet is within the limit
abbrev pub IsNear : CaptureLimits → (offset : ℕ) → Stage → Type 0
IsNear l offset Magic = offset ≡ 0
IsNear l offset (FileHead f) = offset ≡ 4
IsNear l offset (RecordHead r) = offset ≤ 2 ^ 63 + 2 ^ 33
IsNear l offset (Data r n) = (offset ≤ 2 ^ 63 + 16) × (n ≤ l.packet)
IsNear l offset (Rest r start left) = (offset + left ≤ 2 ^ 63 + 2 ^ 33) × (0 < left)
IsNear l offset SectionLength = offset ≡ 4
IsNear l offset (SectionBody e) = offset ≤ 2 ^ 63 + 8
IsNear l offset (BlockHead o) = offset ≤ 2 ^ 63 + 2 ^ 33
IsNear l offset (InterfaceBody b) = IsInBlock b offset 8
IsNear l offset (OptionHead b) = IsInBlock b offset 4
IsNear l offset (TimeUnit b) = IsInBlock b offset 4
IsNear l offset (TimeOffset b) = IsInBlock b offset 8
IsNear l offset (EnhancedBody b) = IsBody b offset 20
IsNear l offset (PacketBody b) = IsBody b offset 20
IsNear l offset (SimpleBody b) = IsBody b offset 4
IsNear l offset (BlockData b n) = IsPacket l.packet b offset n
IsNear l offset (Pass b until) = IsPassing b offset until
IsNear l offset (BlockEnd b) = IsAtEnd b offset

abbrev pub IsPlace : CaptureLimits → Place → Type 0
IsPlace l p = IsNear l p.offset p.stage × HasRecordBefore p

-- no interface is known before the first of a pcap file
abbrev pub IsKnownAt : CaptureLimits → Stage → List KnownInterface → Type 0
IsKnownAt l Magic known = known ≡ []
IsKnownAt l (FileHead f) known = known ≡ []
IsKnownAt l s known = length known ≤ l.interfaces

pub record IsSpot (l : CaptureLimits) (p : Spot) : Type 0 where
  pub place : IsPlace l p.place
  pub known : IsKnownAt l p.place.stage p.known

-- a file may end here
abbrev pub is_between : Stage → Bool
is_between (RecordHead r) = true
is_between (BlockHead o) = true
is_between s = false

-- where the header of the file, the record or the block began that is under way
abbrev pub began_at : (offset : ℕ) → Stage → ℕ
began_at offset Magic = 0
began_at offset (FileHead f) = 0
began_at offset (RecordHead r) = offset
began_at offset (Data r n) = offset - 16
began_at offset (Rest r start left) = start
began_at offset SectionLength = 0
began_at offset (SectionBody e) = offset - 8
began_at offset (BlockHead o) = offset
began_at offset (InterfaceBody b) = b.start
began_at offset (OptionHead b) = b.start
began_at offset (TimeUnit b) = b.start
began_at offset (TimeOffset b) = b.start
began_at offset (EnhancedBody b) = b.start
began_at offset (PacketBody b) = b.start
began_at offset (SimpleBody b) = b.start
began_at offset (BlockData b n) = b.start
began_at offset (Pass b until) = b.start
began_at offset (BlockEnd b) = b.start

abbrev pub began : Place → ℕ
began p = began_at p.offset p.stage

-- The bytes of a packet may be none: they are paid by the header before them, so that no step is for nothing.
abbrev pub due : Stage → ℕ
due (Data r n) = 1
due (BlockData b n) = 1
due s = 0
