-- What the header of a pcap file and those of its records say (draft-ietf-opsawg-pcap).
use Rattle.std.specs.Prelude.{ℕ, ◌+◌, ◌%◌, ◌^◌, ◌==◌, ◌&&◌, Bool, List, Option, Some, None, Result, Ok, min, nat_lt, if◌then◌else◌}
use Rattle.cqlp_capture.specs.declared.file.FileForm.{FileForm}
use Rattle.cqlp_capture.specs.declared.file.ByteOrder.TheVariants.{BigEndian}
use Rattle.cqlp_capture.specs.declared.file.SectionForm.TheVariants as form
use Rattle.cqlp_capture.specs.declared.event.InterfaceHead.{InterfaceHead}
use Rattle.cqlp_capture.specs.declared.event.PacketHead.{PacketHead}
use Rattle.cqlp_capture.specs.declared.event.EventOutline.TheVariants as outline
use Rattle.cqlp_capture.specs.declared.event.SkipReason.TheVariants.{PacketTooLong}
use Rattle.cqlp_capture.specs.declared.event.Emission.{Emission}
use Rattle.cqlp_capture.specs.declared.interfaces.KnownInterface.{KnownInterface}
use Rattle.cqlp_capture.specs.declared.interfaces.TableChange.TheVariants.{Keep, Add}
use Rattle.cqlp_capture.specs.declared.place.RecordForm.{RecordForm}
use Rattle.cqlp_capture.specs.declared.place.Stage.TheVariants.{FileHead, RecordHead, Data, Rest, SectionLength}
use Rattle.cqlp_capture.specs.declared.place.Stage.{Stage}
use Rattle.cqlp_capture.specs.declared.refusal.CaptureReason.TheVariants.{Gzip, UnknownMagic, UnknownVersion, FileTooLong}
use Rattle.cqlp_capture.specs.declared.refusal.CaptureRefusal.{CaptureRefusal}
use Rattle.cqlp_capture.specs.Numbers.{form_of, is_gzip, is_section, nanoseconds, number_16, number_32, unit_of_fraction}
use Rattle.cqlp_capture.specs.Emission.{goes_on, refused}

abbrev pub read_form : Option FileForm → Result Emission CaptureRefusal
read_form None = refused 0 UnknownMagic
read_form (Some f) =
    Ok (record {
      at = 0;
      what = Some (outline.Section (form.Pcap f));
      place = record { offset = 4; stage = FileHead f };
      change = Keep;
    })

-- The first four bytes are the magic number of a pcap file's header (section 4), or the type of a section header block,
-- with which a pcapng file begins (section 4.1 of draft-ietf-opsawg-pcapng). What gzip compresses begins otherwise.
abbrev pub read_magic : List ℕ → Result Emission CaptureRefusal
read_magic b =
    if is_gzip (number_32 BigEndian 0 b) then refused 0 Gzip
    else if is_section (number_32 BigEndian 0 b) then goes_on 4 SectionLength
    else read_form (form_of (number_32 BigEndian 0 b))

-- Then come the version, which is 2.4, eight bytes that are not used, how many bytes of a packet were captured at most, and
-- the link type, whose upper half is about frame check sequences.
abbrev pub is_known_version : FileForm → List ℕ → Bool
is_known_version f b = (number_16 f.order 0 b == 2) && (number_16 f.order 2 b == 4)

abbrev pub interface_of : FileForm → List ℕ → InterfaceHead
interface_of f b = record {
  number = 0;
  link = number_32 f.order 16 b % 65536;
  snap_length = number_32 f.order 12 b;
}

abbrev pub known_of : FileForm → List ℕ → KnownInterface
known_of f b = record {
  link = number_32 f.order 16 b % 65536;
  snap_length = number_32 f.order 12 b;
  unit = Some (unit_of_fraction f.fraction);
  offset = 0;
}

abbrev pub records_of : FileForm → List ℕ → RecordForm
records_of f b = record { form = f; link = number_32 f.order 16 b % 65536 }

abbrev pub read_file_head : FileForm → List ℕ → Result Emission CaptureRefusal
read_file_head f b =
    if is_known_version f b
    then Ok (record {
      at = 4;
      what = Some (outline.Interface (interface_of f b));
      place = record { offset = 24; stage = RecordHead (records_of f b) };
      change = Add (known_of f b);
    })
    else refused 4 UnknownVersion

-- The header of a record (section 5): seconds and a fraction of one since 1970, how many bytes were captured, and how
-- many the packet had.
abbrev pub packet_of : RecordForm → List ℕ → PacketHead
packet_of r b = record {
  interface = 0;
  link = r.link;
  time = Some (nanoseconds r.form.fraction (number_32 r.form.order 0 b) (number_32 r.form.order 4 b));
  captured = number_32 r.form.order 8 b;
  original = number_32 r.form.order 12 b;
}

-- Of a packet that is passed over the bytes are taken 64 at a time, so that they need no more room than any limit gives.
abbrev pub rest_of : RecordForm → (start left : ℕ) → Stage
rest_of r start left = if left == 0 then RecordHead r else Rest r start left

-- A length is a number of 32 bits.
abbrev pub skipped_record : (offset captured : ℕ) → RecordForm → Result Emission CaptureRefusal
skipped_record offset captured r =
    Ok (record {
      at = offset;
      what = Some (outline.Skipped PacketTooLong);
      place = record { offset = offset + 16; stage = Rest r offset (min captured 4294967295) };
      change = Keep;
    })

abbrev pub read_record_head : (limit offset : ℕ) → RecordForm → List ℕ → Result Emission CaptureRefusal
read_record_head limit offset r b =
    if nat_lt (2 ^ 63) offset then refused offset FileTooLong
    else if nat_lt limit (number_32 r.form.order 8 b) then skipped_record offset (number_32 r.form.order 8 b) r
    else Ok (record {
      at = offset;
      what = Some (outline.Packet (packet_of r b));
      place = record { offset = offset + 16; stage = Data r (number_32 r.form.order 8 b) };
      change = Keep;
    })
