-- Columns on the heap say the same to every thread, and so does the right to free it.
use denote.RattleType.{RattleType}
use denote.Struct.Struct.{exits_of}
use denote.Struct.Owning.{shape, fields, to}
use denote.Param.Send.{IsSend, AllSend, owning_send, struct_send, sendable}
use Rattle.core.proofs.option.Option.TheSendSync as option_crosses
use Rattle.std.specs.contracts.alloc.Global as heap
use Rattle.std.specs.contracts.impls.GlobalAllocator.TheImpl.{ghosts}
use Rattle.std.specs.contracts.option.Option.{the_row as option_of}
use Rattle.std.proofs.Crossing as heap_crosses
use Rattle.std_alloc.proofs.SendSync.{quiet}
use Rattle.cqlp_columns.specs.contracts.columns.Columns as table
use Rattle.cqlp_columns.proofs.columns.Columns.TheSendSync as table_crosses
use Rattle.cqlp_c.proofs.Crosses.{held}
use Rattle.cqlp_c.specs.contracts.columns.CqlpArrays.{the_row, the_type}

pub send : IsSend the_row
send =
    let T : RattleType = table.the_row heap.the_row ghosts in
    let R : RattleType = option_of T in
    let inner : IsSend T = table_crosses.the_send heap.the_row ghosts heap_crosses.send heap_crosses.frees in
    let crosses : IsSend R = option_crosses.the_send T inner in
    let all : AllSend (fields the_type) = (search sendable, tt) in
    owning_send the_type all (λ d. held R crosses d.alloc d.at d.value)
    (λ k. quiet (to the_type) (exits_of k (fields the_type)) ((struct_send (shape the_type) all).leaving k))
