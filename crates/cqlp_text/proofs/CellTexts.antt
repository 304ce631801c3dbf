-- Texts of cells in parts.
use Rattle.std.proofs.Common.{◌≡◌, ◌≢◌, ℕ, zero, suc, ◌+◌, ◌-◌, ◌/◌, ◌%◌, List, [], ◌∷◌, ◌++◌, ◌≤◌, length, take, drop, replicate, refl, ap, ◌∙◌, append-nil, drop-drop, length-drop, arith}
use Rattle.std.proofs.lemmas.List.{take-replicate, length-replicate, nil_from_length}
use borrow.Rule.Slice.PartMut.{put_mid}
use Rattle.cqlp_text.specs.CellText.{digits}

pub digits_last : (count number : ℕ) → count ≢ 0 → digits count number ≡ digits (count - 1) (number / 10) ++ (48 + number % 10) ∷ []
digits_last zero number some = absurd (some refl)
digits_last (suc k) number some = let e : k ≡ suc k - 1 = omega arith in ap (λ j. digits j (number / 10) ++ (48 + number % 10) ∷ []) e

-- bytes after copies of one before them
pub filled : (bytes wide given : List ℕ) (fill sign : ℕ) → length bytes ≤ 16 → wide ≡ replicate 16 fill → fill ≡ sign → given ≡ bytes → put_mid (16 - length bytes) (16 - (16 - length bytes)) wide given ≡ replicate (16 - length bytes) sign ++ bytes
filled bytes wide given fill sign short all same copied =
    let front : take (16 - length bytes) wide ≡ replicate (16 - length bytes) sign = ap (take (16 - length bytes)) (all ∙ ap (replicate 16) same) ∙ take-replicate (16 - length bytes) 16 sign (omega arith) in
    let len : length wide ≡ 16 = ap length all ∙ length-replicate 16 fill in
    let end : (16 - length bytes) + (16 - (16 - length bytes)) ≡ 16 = omega arith in
    let whole : drop 16 wide ≡ [] = nil_from_length (drop 16 wide) (simp length-drop (omega arith)) in
    let none : drop (16 - (16 - length bytes)) (drop (16 - length bytes) wide) ≡ [] = drop-drop _ _ wide ∙ ap (λ k. drop k wide) end ∙ whole in
    ap (λ t. t ++ (given ++ drop (16 - (16 - length bytes)) (drop (16 - length bytes) wide))) front
    ∙ ap (λ t. replicate (16 - length bytes) sign ++ (given ++ t)) none
    ∙ ap (λ t. replicate (16 - length bytes) sign ++ t) (append-nil given ∙ copied)
