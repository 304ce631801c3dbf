-- The phases of a connection (sections 4.1.1 and 4.1.2 of native_protocol_v4.spec).
use Rattle.std.specs.Prelude.{Bool, true, false, not}
use Rattle.cqlp_note.specs.declared.opcode.Opcode.{Opcode}
use Rattle.cqlp_note.specs.declared.opcode.Opcode.TheVariants as opcode
use Rattle.cqlp_session.specs.declared.kind.RequestKind.{RequestKind}
use Rattle.cqlp_session.specs.declared.kind.RequestKind.TheVariants as kind
use Rattle.cqlp_session.specs.declared.phase.Phase.{Phase}
use Rattle.cqlp_session.specs.declared.phase.Phase.TheVariants.{Fresh, Opening, Challenged, Ready, Failed}
use Rattle.cqlp_session.specs.Kind.{is_handshake}

-- which requests may begin
abbrev pub may_begin : Phase → RequestKind → Bool
may_begin Fresh kind.Options = true
may_begin Fresh kind.Startup = true
may_begin Challenged kind.AuthResponse = true
may_begin Ready k = not (is_handshake k)
may_begin phase k = false

-- the phase once a request has begun or is accepted
abbrev pub phase_begun : Phase → RequestKind → Phase
phase_begun phase kind.Startup = Opening
phase_begun phase kind.AuthResponse = Opening
phase_begun phase k = phase

-- the phase once a request is answered
abbrev pub phase_answered : Phase → RequestKind → Opcode → Phase
phase_answered phase kind.Startup opcode.Ready = Ready
phase_answered phase kind.Startup opcode.Authenticate = Challenged
phase_answered phase kind.Startup opcode.Error = Failed
phase_answered phase kind.AuthResponse opcode.AuthSuccess = Ready
phase_answered phase kind.AuthResponse opcode.AuthChallenge = Challenged
phase_answered phase kind.AuthResponse opcode.Error = Failed
phase_answered phase k o = phase
