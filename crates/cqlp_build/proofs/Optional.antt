-- What may be there.
use Rattle.std.proofs.Common.{◌≡◌, ◌++◌, List, [], ◌∷◌, Bool, true, false, Option, Some, None, refl, sym, ap, ◌∙◌, inl}
use Rattle.std.specs.List.{list_all}
use Rattle.cqlp_grammar.specs.Events.{Event}
use Rattle.cqlp_message.specs.Agreement.{there_if}
use Rattle.cqlp_message.specs.Bodies.{where_some}
use Rattle.cqlp_message.specs.Parts.{Part}
use Rattle.cqlp_build.specs.declared.held.FrameEvents.{FrameEvents}
use Rattle.cqlp_build.specs.FrameEvents.{Builds, left}
use Rattle.cqlp_build.specs.Emitted.{emitted}
use Rattle.cqlp_build.proofs.Steps.{as_builds}

-- nothing comes, of what has no events
pub nothing_builds : {B : Type 0} (tail : B → List Event) (Q : B → Type 0) (z : B) (old : FrameEvents) → tail z ≡ [] → Q z → ((b : B) → Q b → b ≡ z) → Builds tail Q z old old
nothing_builds tail Q z old none q one = record {
  made = λ s. (s, ap (λ t. t ++ left old) (sym none), q);
  only = λ s b rest p e. (one b p, sym (e ∙ ap (λ x. tail x ++ rest) (one b p) ∙ ap (λ t. t ++ rest) none));
  none = λ s. inl s;
}

pub all_true : {A : Type 0} (xs : List A) → list_all (λ _. true) xs ≡ true
all_true [] = refl
all_true (x ∷ xs) = all_true xs

module _ {A : Type 0} (parts : A → List Part) where
  -- it is there
  pub some_builds : {P : A → Type 0} (Q : Option A → Type 0) → ((x : A) → P x → Q (Some x)) → ((x : A) → Q (Some x) → P x) → (Q None → ⊥)
      → {a : A} {old new : FrameEvents} → Builds (λ x. emitted (parts x)) P a old new → Builds (λ o. emitted (where_some parts o)) Q (Some a) old new
  some_builds {P} Q into out nay one = as_builds (λ o. emitted (where_some parts o)) Q Some (λ x p. refl) into view one
    where
      view : (o : Option A) → Q o → (a : A) × (P a) × (o ≡ Some a)
      view (Some x) q = (x, out x q, refl)
      view None q = absurd (nay q)

  -- it is not
  pub none_builds : (Q : Option A → Type 0) → Q None → ((x : A) → Q (Some x) → ⊥) → (old : FrameEvents) → Builds (λ o. emitted (where_some parts o)) Q None old old
  none_builds Q q nay old = nothing_builds (λ o. emitted (where_some parts o)) Q None old refl q one
    where
      one : (o : Option A) → Q o → o ≡ None
      one None p = refl
      one (Some x) p = absurd (nay x p)

  pub some_there : {P : A → Type 0} → ((x : A) → P x) → (there : Bool) → there ≡ true
      → {a : A} {old new : FrameEvents} → Builds (λ x. emitted (parts x)) P a old new → Builds (λ o. emitted (where_some parts o)) (λ o. there_if there o ≡ true) (Some a) old new
  some_there all true e one = some_builds (λ o. there_if true o ≡ true) (λ x p. refl) (λ x q. all x) (λ q. absurd cc) one
  some_there all false e one = absurd cc

  pub none_there : (there : Bool) → there ≡ false → (old : FrameEvents) → Builds (λ o. emitted (where_some parts o)) (λ o. there_if there o ≡ true) None old old
  none_there false e old = none_builds (λ o. there_if false o ≡ true) refl (λ x q. absurd cc) old
  none_there true e old = absurd cc
