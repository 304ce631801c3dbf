-- The size of cells that is counted as they come.
use Rattle.std.proofs.Common.{◌≡◌, ℕ, ◌+◌, ◌-◌, ◌^◌, ◌++◌, List, [], ◌∷◌, Bool, true, false, Option, map, min, ap, ◌∙◌, arith}
use Rattle.std.proofs.lemmas.List.{map-append}
use Rattle.cqlp_note.specs.declared.opcode.Opcode.{Opcode}
use Rattle.cqlp_note.specs.declared.opcode.Opcode.TheVariants as opcode
use Rattle.cqlp_value.specs.Values.{values_size}
use Rattle.cqlp_value.specs.Owned.{value_of}
use Rattle.cqlp_value.specs.declared.value.Value.{Value}
use Rattle.cqlp_message.specs.Agreement.{opcode_of}
use Rattle.cqlp_message.specs.FrameValues.{Message, Rows}
use Rattle.cqlp_message.specs.Pages.{cells_size}
use Rattle.cqlp_message.proofs.PageCells.{cells_size_more}
use Rattle.cqlp_grammar.specs.Events.{Event}
use Rattle.cqlp_build.specs.CellSizes.{IsSized, IsSizeOf}
use Rattle.cqlp_build.specs.FrameEvents.{Builds, IsSound}
use Rattle.cqlp_build.specs.Productions.{BuildsMessage}
use Rattle.cqlp_build.specs.declared.held.FrameEvents.{FrameEvents}

-- one cell more
pub sized_more : (n k m : ℕ) (cells new : List Value) (v : Value) → new ≡ cells ++ v ∷ [] → k ≡ min (values_size (value_of v)) (2 ^ 64 - 1) → m ≡ min (n + k) (2 ^ 64 - 1)
    → IsSizeOf n cells → IsSizeOf m new
sized_more n k m cells new v is one more size =
    let total : cells_size (map value_of new) ≡ cells_size (map value_of cells) + values_size (value_of v) =
    ap (λ xs. cells_size (map value_of xs)) is ∙ ap cells_size (map-append value_of cells (v ∷ [])) ∙ cells_size_more (map value_of cells) (value_of v) in
    omega (arith, total, one, more, size)

-- what is kept beside the events does not matter to what is built of them
pub resized : {A : Type 0} {emitted : A → List Event} {P : A → Type 0} {a : A} {old new : FrameEvents} (size : Option ℕ)
    → Builds emitted P a old new → Builds emitted P a old (record new { cells_size = size })
resized size b = record { made = b.made; only = b.only; none = b.none }

-- the opcode of a result
abbrev pub is_result : Opcode → Bool
is_result opcode.Result = true
is_result o = false

no_page : (o : Opcode) (size : Option ℕ) (m : Message) → is_result o ≡ false → opcode_of m ≡ o → IsSized size m
no_page o size (Rows p) e is = let r : true ≡ false = ap is_result is ∙ e in absurd cc
no_page o size m e is = tt

-- a message of another opcode than a result's is no page
pub other_message : {o : Opcode} {m : Message} {old new : FrameEvents} (size : Option ℕ) → is_result o ≡ false → BuildsMessage o m old new → IsSound new → IsSized size m
other_message {o} {m} size e b s = no_page o size m e (b.made s).2.opcode
