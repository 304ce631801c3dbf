-- What a `ClientOf` ends as, where a `&mut` to one of its values was handed out.
use Rattle.std.specs.Prelude.{ℤ, Option, Some}
use Rattle.std.specs.Borrow.{Fml, Lends, LendsIf, MutBor, RattleType}
use Rattle.std.specs.declared.alloc.Allocator.{Ghosts}
use Rattle.cqlp_session.specs.Carried.{CarryingClient}
use Rattle.cqlp_session.specs.contracts.client_of.ClientOf.{the_row}
use Rattle.cqlp_session.specs.Slots.{put}

-- the same core, where the request under an id carries this
abbrev pub client_with : {T : Type 0} → CarryingClient T → ℤ → T → CarryingClient T
client_with c id value = record { core = c.core; carried = put c.carried id (Some value) }

module _ (T A : RattleType) (alloc : Ghosts A.Denot) (s : MutBor (CarryingClient T.Denot)) (id : ℤ) where
  -- once the borrow r ends, the request under the id carries the last value written through it
  abbrev pub client_lends_value : MutBor T.Denot → Fml
  client_lends_value r = Lends (the_row T A alloc) T s r (client_with s.now id)

  -- the same where r is a reference, and at `None` all stays as it is
  abbrev pub client_lends : Option (MutBor T.Denot) → Fml
  client_lends r = LendsIf (the_row T A alloc) T s r (client_with s.now id) s.now
