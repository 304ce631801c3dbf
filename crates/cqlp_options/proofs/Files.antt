-- A capture's files: the first and the others, and whether standard input is one of several.
use Rattle.std.proofs.Common.{◌≡◌, ◌≢◌, ◌==◌, ◌-◌, ◌≤◌, ℕ, Bool, true, false, not, ◌||◌, List, [], ◌∷◌}
use Rattle.std.proofs.Common.{IsTrue, codes, length, take, drop, slice_index_or, refl, sym, ap, ◌∙◌, arith}
use Rattle.std.proofs.lemmas.Bool.{true≢false, false≢true, or_from, or_parts}
use Rattle.std.proofs.lemmas.List.{take_rest}
use Rattle.std.proofs.lemmas.List.Elements.{All-nil, All-cons, All-head, All-tail}
use Rattle.std.proofs.lemmas.Slice.Eq.{bytes_eq-Decides}
use Rattle.std.specs.Borrow.{Bor}
use Rattle.std.specs.List.{All, list_any}
use Rattle.std.specs.Str.{bytes_eq}
use Rattle.cqlp_options.specs.CaptureFiles.{GoesAlone, texts_of}

pub first_and_others : (xs : List (Bor (List ℕ))) (d : Bor (List ℕ)) → 1 ≤ length xs
    → texts_of xs ≡ (slice_index_or xs 0 d).now ∷ texts_of (take (length xs - 1) (drop 1 xs))
first_and_others [] d h = absurd (omega (arith, h))
first_and_others (x ∷ xs) d h = sym (ap (λ ys. x.now ∷ texts_of ys) (take_rest (x ∷ xs) 1))

-- ---- a text among others

not_true : (b : Bool) → (b ≡ true → ⊥) → b ≡ false
not_true true h = absurd (h refl)
not_true false h = refl

not_is_true : (b : Bool) → not b ≡ true → b ≡ false
not_is_true true h = absurd (false≢true h)
not_is_true false h = refl

not_is_false : (b : Bool) → not b ≡ false → b ≡ true
not_is_false true h = refl
not_is_false false h = absurd (true≢false h)

differs : (t u : List ℕ) → bytes_eq u t ≡ false → u ≢ t
differs t u h = λ e. true≢false (sym ((bytes_eq-Decides u t).1 e) ∙ h)

none : (t : List ℕ) (xs : List (Bor (List ℕ))) → list_any (λ x. bytes_eq x.now t) xs ≡ false → All (λ u. u ≢ t) (texts_of xs)
none t [] h = All-nil (λ u. u ≢ t)
none t (x ∷ xs) h =
    let parts = or_parts (bytes_eq x.now t) (list_any (λ y. bytes_eq y.now t) xs) h in
    All-cons (λ u. u ≢ t) x.now (texts_of xs) (differs t x.now parts.0) (none t xs parts.1)

none_met : (t : List ℕ) (xs : List (Bor (List ℕ))) → All (λ u. u ≢ t) (texts_of xs) → list_any (λ x. bytes_eq x.now t) xs ≡ false
none_met t [] h = refl
none_met t (x ∷ xs) h =
    or_from (bytes_eq x.now t) (list_any (λ y. bytes_eq y.now t) xs)
    (not_true (bytes_eq x.now t) (λ e. All-head (λ u. u ≢ t) x.now (texts_of xs) h ((bytes_eq-Decides x.now t).0 e)))
    (none_met t xs (All-tail (λ u. u ≢ t) x.now (texts_of xs) h))

no_texts : (xs : List (Bor (List ℕ))) → texts_of xs ≡ [] → xs ≡ []
no_texts [] h = refl
no_texts (x ∷ xs) h =
    let e : length (texts_of (x ∷ xs)) ≡ 0 = ap length h in
    absurd (omega (arith, e))

-- ---- standard input

-- where the first is a file, it goes by the others
pub behind_a_file : (first : List ℕ) (xs : List (Bor (List ℕ))) (is_other has : Bool)
    → is_other ≡ not (bytes_eq first (codes "-")) → is_other ≡ true → has ≡ list_any (λ x. bytes_eq x.now (codes "-")) xs
    → (IsTrue (not has) → GoesAlone first (texts_of xs)) × (GoesAlone first (texts_of xs) → IsTrue (not has))
behind_a_file first xs is_other has is is_true among =
    let other : first ≢ codes "-" = differs (codes "-") first (not_is_true (bytes_eq first (codes "-")) (sym is ∙ is_true)) in (
      λ h. record {
        first_alone = λ e. absurd (other e);
        no_other = none (codes "-") xs (sym among ∙ not_is_true has h);
      },
      λ alone. ap not (among ∙ none_met (codes "-") xs alone.no_other),
    )

-- where it is standard input, there are no others
pub before_a_file : (first : List ℕ) (xs : List (Bor (List ℕ))) (is_other is_empty : Bool)
    → is_other ≡ not (bytes_eq first (codes "-")) → is_other ≡ false → is_empty ≡ (length xs == 0) → is_empty ≡ false
    → (IsTrue is_other → GoesAlone first (texts_of xs)) × (GoesAlone first (texts_of xs) → IsTrue is_other)
before_a_file first xs is_other is_empty is is_false empty some =
    let input : first ≡ codes "-" = (bytes_eq-Decides first (codes "-")).0 (not_is_false (bytes_eq first (codes "-")) (sym is ∙ is_false)) in
    let several : xs ≢ [] = λ e. true≢false (sym (ap (λ (ys : List (Bor (List ℕ))). length ys == 0) e) ∙ (sym empty ∙ some)) in
    (λ h. absurd (true≢false (sym h ∙ is_false)), λ alone. absurd (several (no_texts xs (alone.first_alone input))))

-- ---- whether a file behind the first has a path

any_text : (t : List ℕ) (xs : List (Bor (List ℕ))) → list_any (λ x. bytes_eq x.now t) xs ≡ list_any (λ u. bytes_eq u t) (texts_of xs)
any_text t [] = refl
any_text t (x ∷ xs) = ap (λ b. bytes_eq x.now t || b) (any_text t xs)

pub other_file : (file path : List ℕ) (xs : List (Bor (List ℕ))) (b found : Bool) → b ≡ bytes_eq file path → b ≡ false
    → found ≡ list_any (λ x. bytes_eq x.now path) xs → found ≡ list_any (λ u. bytes_eq u path) (file ∷ texts_of xs)
other_file file path xs b found is is_false among =
    among ∙ any_text path xs ∙ ap (λ c. c || list_any (λ u. bytes_eq u path) (texts_of xs)) (sym (sym is ∙ is_false))
