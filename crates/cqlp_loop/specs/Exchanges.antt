-- The messages of the conversation, and what becomes of one that is sent (section 4 of native_protocol_v4.spec).
use Rattle.std.specs.Prelude.{◌≡◌, ◌<◌, ℕ, ℤ, pos, [], ◌∷◌, length, codes, Some, None, Result, Ok, Err}
use Rattle.std.specs.Io.KnownBytes.{Appends}
use Rattle.cqlp_note.specs.declared.opcode.Opcode.{Opcode}
use Rattle.cqlp_note.specs.declared.opcode.Opcode.TheVariants as opcode
use Rattle.cqlp_note.specs.Outputs.{Output, Offered}
use Rattle.cqlp_kind.specs.declared.kind.Kind.TheVariants as type
use Rattle.cqlp_type.specs.Trees.{Plain, NoTree, Tree_and}
use Rattle.cqlp_kind.specs.Scalars as scalar
use Rattle.cqlp_value.specs.Values.{Values, NoValue, Scalar_and}
use Rattle.cqlp_message.specs.FrameValues as value
use Rattle.cqlp_message.specs.FrameValues.{FrameValue, Message}
use Rattle.cqlp_message.specs.Frames.{frame_bytes, unfit_of}
use Rattle.cqlp_message.specs.Pages.{AreItsCells, page_unfit_of}
use Rattle.cqlp_encode.specs.declared.page_writer.PageError.{PageError}
use Rattle.cqlp_encode.specs.declared.page_writer.PageError.TheVariants as error
use Rattle.cqlp_session.specs.declared.kind.RequestKind.{RequestKind}
use Rattle.cqlp_session.specs.declared.kind.RequestKind.TheVariants as kind
use Rattle.cqlp_loop.specs.declared.fault.LoopFault.{LoopFault}
use Rattle.cqlp_loop.specs.declared.fault.LoopFault.TheVariants as fault
use Rattle.cqlp_loop.specs.declared.request.Request.{Request}
use Rattle.cqlp_loop.specs.declared.request.Request.TheVariants.{Options, Startup, Query}

abbrev pub kind_of : Request → RequestKind
kind_of Options = kind.Options
kind_of Startup = kind.Startup
kind_of Query = kind.Query

-- the opcode of its reply
abbrev pub opcode_of : Request → Opcode
opcode_of Options = opcode.Supported
opcode_of Startup = opcode.Ready
opcode_of Query = opcode.Result

-- a frame with this message alone
abbrev pub plain_frame : (stream : ℤ) → Message → FrameValue
plain_frame id m = record { flags = 0; stream = id; tracing = None; warnings = None; payload = None; message = m }

-- Sections 4.1.3, 4.1.1 and 4.1.4: no option; the version of CQL; a query with consistency 1 and no flags.
abbrev pub request_message : Request → Message
request_message Options = value.Options
request_message Startup = value.Startup ((codes "CQL_VERSION", codes "3.0.0") ∷ [])
request_message Query = value.Query (codes "SELECT c FROM k.t") (record {
  consistency = 1;
  flags = 0;
  values = None;
  page_size = None;
  paging = None;
  serial = None;
  timestamp = None;
})

-- Section 4.2.5.2: a page of the table k.t, with one column c of int, and one row; still without its cell.
abbrev pub bare_page : value.Page
bare_page = record {
  meta = record {
    flags = pos 1;
    columns = 1;
    paging = None;
    table = Some (codes "k", codes "t");
    specs = Some (record { table = None; name = codes "c"; tree = Tree_and [] (Plain type.Int) NoTree NoTree } ∷ []);
  };
  rows = 1;
  cells = [];
}

-- its cell, the int 7
abbrev pub cell : Values
cell = Scalar_and (scalar.Int (pos 7)) NoValue

-- the page with it
abbrev pub page : value.Page
page = record { meta = bare_page.meta; rows = bare_page.rows; cells = cell ∷ [] }

-- Sections 4.2.4, 4.2.2 and 4.2.5.2: the version of CQL; nothing; a page.
abbrev pub reply_message : Request → Message
reply_message Options = value.Supported ((codes "CQL_VERSION", codes "3.0.0" ∷ []) ∷ [])
reply_message Startup = value.Ready
reply_message Query = value.Rows page

-- the same, but a page without its cells
abbrev pub reply_head : Request → Message
reply_head Query = value.Rows bare_page
reply_head r = reply_message r

abbrev pub request_frame : Request → (stream : ℤ) → FrameValue
request_frame r id = plain_frame id (request_message r)

abbrev pub reply_frame : Request → (stream : ℤ) → FrameValue
reply_frame r id = plain_frame id (reply_message r)

-- nothing keeps a frame from being spelled
pub record IsSpelled (f : FrameValue) : Type 0 where
  pub fits : unfit_of f ≡ None

-- a page that can be begun, and then its cell be written
pub record IsPage (f : FrameValue) : Type 0 where
  pub begins : page_unfit_of f 8 ≡ None
  pub cells : AreItsCells f 8 (cell ∷ [])

-- All bytes of the frame were given; or the target failed within them; or there was no memory, and none were.
abbrev pub Writes : FrameValue → (old : Output) → Result (Unit {0}) LoopFault → (new : Output) → Type 0
Writes f old (Ok u) new = Appends old.given new.given (frame_bytes f) × (new.failures ≡ old.failures)
Writes f old (Err fault.SocketFault) new = (n : ℕ) × (n < length (frame_bytes f)) × Offered old (frame_bytes f) n new
Writes f old (Err fault.NoMemory) new = new ≡ old
Writes f old (Err e) new = ⊥

-- The same with its memory at hand.
abbrev pub Sends : FrameValue → (old : Output) → Result (Unit {0}) LoopFault → (new : Output) → Type 0
Sends f old (Ok u) new = Appends old.given new.given (frame_bytes f) × (new.failures ≡ old.failures)
Sends f old (Err fault.SocketFault) new = (n : ℕ) × (n < length (frame_bytes f)) × Offered old (frame_bytes f) n new
Sends f old (Err e) new = ⊥

-- The same of a page.
abbrev pub WritesPage : FrameValue → (old : Output) → Result ℕ PageError → (new : Output) → Type 0
WritesPage f old (Ok size) new = Appends old.given new.given (frame_bytes f) × (new.failures ≡ old.failures)
WritesPage f old (Err (error.Write k)) new =
    (n : ℕ) × (n < length (frame_bytes f)) × Offered old (frame_bytes f) n new
WritesPage f old (Err e) new = ⊥
