-- Parts that are there, and tables that say nothing.
use Rattle.std.proofs.Common.{◌≡◌, Bool, ◌&&◌, List, [], ◌∷◌, length, map, Option, Some, None, refl}
use Rattle.std.specs.Prelude.{is_some}
use Rattle.std.specs.Option.{option_map}
use Rattle.std.specs.List.{list_all}
use Rattle.std.specs.Prelude.{string_bytes}
use Rattle.std.specs.declared.string.String.{String}
use Rattle.std.specs.declared.alloc.Global.{Global}
use Rattle.cqlp_note.specs.Heading.{same}
use Rattle.cqlp_message.specs.declared.request.OwnedBound.{OwnedBound}
use Rattle.cqlp_note.specs.Field.{BoundValue}
use Rattle.cqlp_message.specs.FrameValues.{Octets}
use Rattle.cqlp_message.specs.Owned.{bound_of}
use Rattle.cqlp_message.specs.Agreement.{there_if}
use Rattle.cqlp_grammar.specs.declared.productions.Expected.{Expected}
use Rattle.cqlp_grammar.specs.Upcoming.{wants}

pub is_some_of : {X Y : Type 0} (f : X → Y) (o : Option X) → is_some (option_map f o) ≡ is_some o
is_some_of f None = refl
is_some_of f (Some x) = refl

pub length_wants : (ws : List Expected) → length (wants ws) ≡ length ws
length_wants [] = refl
length_wants (w ∷ ws) = rw (length_wants ws) refl

pub named_values : (named : Bool) (vs : List (Option (String Global) × OwnedBound)) → list_all (λ (v : Option Octets × BoundValue). there_if named v.0) (map (λ (v : Option (String Global) × OwnedBound). (option_map string_bytes v.0, bound_of v.1)) vs) ≡ list_all (λ (v : Option (String Global) × OwnedBound). same named (is_some v.0)) vs
named_values named [] = refl
named_values named (v ∷ vs) = λ i. same named (is_some_of string_bytes v.0 i) && named_values named vs i
