-- A core on the heap says the same to every thread, and so does the right to free it.
use denote.Builtin.{u64 as number}
use denote.RattleType.{RattleType}
use denote.Struct.Struct.{exits_of}
use denote.Struct.Owning.{shape, fields, to}
use denote.Param.Send.{IsSend, AllSend, owning_send, struct_send, sendable}
use Rattle.std.specs.contracts.alloc.Global as heap
use Rattle.std.specs.contracts.impls.GlobalAllocator.TheImpl.{ghosts}
use Rattle.std.proofs.Crossing as heap_crosses
use Rattle.std_alloc.proofs.SendSync.{quiet}
use Rattle.cqlp_session.specs.contracts.server_of.ServerOf as server
use Rattle.cqlp_session.proofs.server_of.ServerOf.TheSendSync as server_crosses
use Rattle.cqlp_c.proofs.Crosses.{held}
use Rattle.cqlp_c.specs.contracts.server.CqlpService.{the_row, the_type}

pub send : IsSend the_row
send =
    let R : RattleType = server.the_row number heap.the_row ghosts in
    let word : IsSend number = search sendable in
    let crosses : IsSend R = server_crosses.the_send number heap.the_row ghosts word heap_crosses.send heap_crosses.frees in
    let all : AllSend (fields the_type) = (search sendable, tt) in
    owning_send the_type all (λ d. held R crosses d.alloc d.at d.value)
    (λ k. quiet (to the_type) (exits_of k (fields the_type)) ((struct_send (shape the_type) all).leaving k))
