-- What a place holds on the heap says the same to every thread, where its values do.
use mir.Raw.{raw}
use base.Shift.{Keyless}
use denote.Memory.{lone}
use denote.RattleType.{RattleType}
use denote.RawPtr.{Ptr}
use denote.Param.Send.{IsSend}
use Rattle.std.specs.Prelude.{Option, Some, None}
use Rattle.std.specs.Box.Ownership.{box_owns}
use Rattle.std.specs.contracts.alloc.Global as heap
use Rattle.std.specs.contracts.impls.GlobalAllocator.TheImpl.{ghosts}
use Rattle.std.proofs.Crossing.{frees}
use Rattle.std_alloc.proofs.SendSync.{lies}
use Rattle.cqlp_c.specs.Handle.{owned_in}

pub held : (R : RattleType) → IsSend R → (a : (heap.the_row).Denot) (p : Ptr) (v : Option R.Denot)
    → Keyless (owned_in (box_owns (ghosts.dealloc_token a) R p) v)
held R s a p None = tt
held R s a p (Some x) = (lies R s p x, frees.frees a (raw (lone R.mir)) p)
