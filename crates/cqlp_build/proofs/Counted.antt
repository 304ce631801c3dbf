-- The events of items after their number.
use Rattle.std.proofs.Common.{◌≡◌, ℕ, ◌++◌, List, [], ◌∷◌, length, true, Bool, refl, ap, ◌∙◌}
use Rattle.std.specs.List.{flat_map, list_all}
use Rattle.std.proofs.lemmas.Grind.{flat_map-append}
use Rattle.cqlp_note.specs.declared.field.Field.{Field}
use Rattle.cqlp_note.specs.Field as note
use Rattle.cqlp_grammar.specs.Events.{Holds}
use Rattle.cqlp_message.specs.Parts.{Part}
use Rattle.cqlp_message.specs.Bodies.{counted}
use Rattle.cqlp_build.specs.declared.held.FrameEvents.{FrameEvents}
use Rattle.cqlp_build.specs.FrameEvents.{Builds, Many, any}
use Rattle.cqlp_build.specs.Emitted.{emitted, part_emitted}
use Rattle.cqlp_build.proofs.Steps.{pair_builds, as_builds}

pub emitted_many : {A : Type 0} (parts : A → List Part) (xs : List A) → emitted (flat_map parts xs) ≡ flat_map (λ x. emitted (parts x)) xs
emitted_many parts [] = refl
emitted_many parts (x ∷ xs) = flat_map-append part_emitted (parts x) (flat_map parts xs) ∙ ap (λ es. emitted (parts x) ++ es) (emitted_many parts xs)

pub emitted_counted : {A : Type 0} (f : Field) (parts : A → List Part) (n : ℕ) (xs : List A) → length xs ≡ n → emitted (counted f parts xs) ≡ Holds f (note.Count n) ∷ flat_map (λ x. emitted (parts x)) xs
emitted_counted f parts n xs e = rw (e, emitted_many parts xs) refl

-- items after their number
pub counted_builds : {A : Type 0} (f : Field) (parts : A → List Part) (t : A → Bool) {n : ℕ} {xs : List A} {old mid new : FrameEvents}
    → Builds (λ k. Holds f (note.Count k) ∷ []) any n old mid → Builds (flat_map (λ x. emitted (parts x))) (Many t n) xs mid new
    → Builds (λ ys. emitted (counted f parts ys)) (λ ys. list_all t ys ≡ true) xs old new
counted_builds {A} f parts t one many =
    as_builds (λ ys. emitted (counted f parts ys)) (λ ys. list_all t ys ≡ true) (λ (p : ℕ × List A). p.1)
    (λ p q. emitted_counted f parts p.0 p.1 q.1.0)
    (λ p q. q.1.1)
    (λ ys e. ((length ys, ys), (refl, (refl, e)), refl))
    (pair_builds (λ k. Many t k) one many)
