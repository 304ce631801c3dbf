-- What a `ServerOf` ends as, where a `&mut` to one of its values was handed out.
use Rattle.std.specs.Prelude.{ℤ, Option, Some}
use Rattle.std.specs.Borrow.{Fml, Lends, LendsIf, MutBor, RattleType}
use Rattle.std.specs.declared.alloc.Allocator.{Ghosts}
use Rattle.cqlp_session.specs.Carried.{CarryingServer}
use Rattle.cqlp_session.specs.contracts.server_of.ServerOf.{the_row}
use Rattle.cqlp_session.specs.Slots.{put}

-- the same core, where the request under an id carries this
abbrev pub server_with : {T : Type 0} → CarryingServer T → ℤ → T → CarryingServer T
server_with c id value = record { core = c.core; carried = put c.carried id (Some value) }

module _ (T A : RattleType) (alloc : Ghosts A.Denot) (s : MutBor (CarryingServer T.Denot)) (id : ℤ) where
  -- once the borrow r ends, the request under the id carries the last value written through it
  abbrev pub server_lends_value : MutBor T.Denot → Fml
  server_lends_value r = Lends (the_row T A alloc) T s r (server_with s.now id)

  -- the same where r is a reference, and at `None` all stays as it is
  abbrev pub server_lends : Option (MutBor T.Denot) → Fml
  server_lends r = LendsIf (the_row T A alloc) T s r (server_with s.now id) s.now
