-- The line of a frame that was passed over, in parts.
use Rattle.std.proofs.Common.{◌≡◌, ℕ, List, [], ◌∷◌, ◌++◌, codes, decimal, sym, ap, ◌∙◌, append_assoc}
use Rattle.cqlp_note.specs.declared.refusal.Reason.{Reason}
use Rattle.cqlp_note.specs.declared.refusal.Refusal.{Refusal}
use Rattle.cqlp_text.specs.Names.{reason_name}
use Rattle.cqlp_render_skip.specs.Texts.{skipped_line}

-- what comes after the name of the reason
abbrev pub after_name : (at : ℕ) → List ℕ
after_name at = codes " at " ++ (decimal at ++ codes "\n")

-- what comes after the first word
abbrev pub after_word : (at : ℕ) → Refusal → List ℕ
after_word at r = decimal at ++ (codes " " ++ (reason_name r.why ++ after_name r.at))

in_parts : (a b c : List ℕ) → (a ++ 32 ∷ (b ++ 32 ∷ 97 ∷ 116 ∷ 32 ∷ (c ++ []))) ++ 10 ∷ [] ≡ a ++ 32 ∷ (b ++ 32 ∷ 97 ∷ 116 ∷ 32 ∷ (c ++ 10 ∷ []))
in_parts a b c =
    append_assoc a (32 ∷ (b ++ 32 ∷ 97 ∷ 116 ∷ 32 ∷ (c ++ []))) (10 ∷ [])
    ∙ ap (λ (z : List ℕ). a ++ 32 ∷ z) (append_assoc b (32 ∷ 97 ∷ 116 ∷ 32 ∷ (c ++ [])) (10 ∷ []) ∙ ap (λ (z : List ℕ). b ++ 32 ∷ 97 ∷ 116 ∷ 32 ∷ z) (append_assoc c [] (10 ∷ [])))

pub line_parts : (at : ℕ) (r : Refusal) → skipped_line at r ≡ codes "skipped " ++ after_word at r
line_parts at r = ap (λ (z : List ℕ). codes "skipped " ++ z) (in_parts (decimal at) (reason_name r.why) (decimal r.at))

-- the name, as bytes
pub name_parts : (x y : List ℕ) (why : Reason) (at : ℕ) → x ≡ y → y ≡ reason_name why → reason_name why ++ after_name at ≡ x ++ after_name at
name_parts x y why at same is = ap (λ (z : List ℕ). z ++ after_name at) (sym (same ∙ is))
