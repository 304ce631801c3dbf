-- What a literal is makes no difference to a fingerprint.
use Rattle.std.proofs.Common.{◌≡◌, ◌∙◌, ℕ, false, List, [], ◌∷◌, ◌++◌, refl, sym, ◌==◌}
use Rattle.std.proofs.lemmas.List.Elements.{All-head, All-tail}
use Rattle.cqlp_capture_summary.specs.Fingerprints.{read_from, with_literal}
use Rattle.cqlp_capture_summary.specs.Laws.{HasNone, TextsAreAlike}
use Rattle.cqlp_capture_summary.specs.Names.{Name}
use Rattle.cqlp_capture_summary.specs.declared.mode.Mode.TheVariants as mode

in_text : (b : ℕ) (bs : List ℕ) (w : Name) → (b == 39) ≡ false → read_from mode.Text (b ∷ bs) w ≡ read_from mode.Text bs w
in_text b bs w none = rw none refl

text_read : (t rest : List ℕ) (w : Name) → HasNone 39 t → read_from mode.Text (t ++ rest) w ≡ read_from mode.Text rest w
text_read [] rest w none = refl
text_read (b ∷ bs) rest w none =
    in_text b (bs ++ rest) w (All-head (λ c. (c == 39) ≡ false) b bs none) ∙ text_read bs rest w (All-tail (λ c. (c == 39) ≡ false) b bs none)

pub texts_are_alike : TextsAreAlike
texts_are_alike t u rest w none none' = text_read t (39 ∷ rest) (with_literal w) none ∙ sym (text_read u (39 ∷ rest) (with_literal w) none')
