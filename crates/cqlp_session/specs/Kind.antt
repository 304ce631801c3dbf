-- Requests and what answers them (section 4 of native_protocol_v4.spec).
use Rattle.std.specs.Prelude.{Bool, true, false, Option, Some, None}
use Rattle.cqlp_note.specs.declared.opcode.Opcode.{Opcode}
use Rattle.cqlp_note.specs.declared.opcode.Opcode.TheVariants as opcode
use Rattle.cqlp_session.specs.declared.kind.RequestKind.{RequestKind}
use Rattle.cqlp_session.specs.declared.kind.RequestKind.TheVariants as kind

-- the opcode of a request
abbrev pub opcode_of : RequestKind → Opcode
opcode_of kind.Startup = opcode.Startup
opcode_of kind.Options = opcode.Options
opcode_of kind.Query = opcode.Query
opcode_of kind.Prepare = opcode.Prepare
opcode_of kind.Execute = opcode.Execute
opcode_of kind.Batch = opcode.Batch
opcode_of kind.Register = opcode.Register
opcode_of kind.AuthResponse = opcode.AuthResponse

-- the request that has an opcode
abbrev pub kind_of : Opcode → Option RequestKind
kind_of opcode.Startup = Some kind.Startup
kind_of opcode.Options = Some kind.Options
kind_of opcode.Query = Some kind.Query
kind_of opcode.Prepare = Some kind.Prepare
kind_of opcode.Execute = Some kind.Execute
kind_of opcode.Batch = Some kind.Batch
kind_of opcode.Register = Some kind.Register
kind_of opcode.AuthResponse = Some kind.AuthResponse
kind_of o = None

-- ERROR answers any request, and each kind has its own answers.
abbrev pub answers : RequestKind → Opcode → Bool
answers k opcode.Error = true
answers kind.Startup opcode.Ready = true
answers kind.Startup opcode.Authenticate = true
answers kind.AuthResponse opcode.AuthChallenge = true
answers kind.AuthResponse opcode.AuthSuccess = true
answers kind.Options opcode.Supported = true
answers kind.Query opcode.Result = true
answers kind.Prepare opcode.Result = true
answers kind.Execute opcode.Result = true
answers kind.Batch opcode.Result = true
answers kind.Register opcode.Ready = true
answers k o = false

-- it takes part in setting up the connection
abbrev pub is_handshake : RequestKind → Bool
is_handshake kind.Startup = true
is_handshake kind.AuthResponse = true
is_handshake k = false
