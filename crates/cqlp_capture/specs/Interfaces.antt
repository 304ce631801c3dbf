-- The interfaces of a section.
use Rattle.std.specs.Prelude.{ℕ, List, [], ◌∷◌, ◌++◌}
use Rattle.cqlp_capture.specs.declared.interfaces.KnownInterface.{KnownInterface}
use Rattle.cqlp_capture.specs.declared.interfaces.TableChange.{TableChange}
use Rattle.cqlp_capture.specs.declared.interfaces.TableChange.TheVariants.{Keep, Forget, Add}

-- the interfaces, of which the first has the number 0, and how many there can be
pub record Interfaces : Type 0 where
  pub known : List KnownInterface
  pub room : ℕ

abbrev pub interfaces : List KnownInterface → (room : ℕ) → Interfaces
interfaces known room = record { known = known; room = room }

abbrev pub changed : TableChange → List KnownInterface → List KnownInterface
changed Keep known = known
changed Forget known = []
changed (Add i) known = known ++ i ∷ []
