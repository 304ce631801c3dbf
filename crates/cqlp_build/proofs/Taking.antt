-- Which event is due.
use Rattle.std.proofs.Common.{◌≡◌, List, ◌∷◌, true, refl}
use Rattle.cqlp_grammar.specs.Events.{Event, Frame, Holds, Node_of, Cell_at, Leave, End}
use Rattle.cqlp_build.specs.Building.{is_due, is_inner}

pub due : (e d : Event) (es : List Event) → is_inner e ≡ true → is_due (d ∷ es) e ≡ true
due (Holds f v) d es i = refl
due (Node_of k) d es i = refl
due (Cell_at r c v) d es i = refl
due (Leave l n) d es i = refl
due (Frame h) d es i = absurd cc
due (End x) d es i = absurd cc
