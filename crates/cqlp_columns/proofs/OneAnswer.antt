-- One answer to a cell.
use Rattle.std.proofs.Common.{◌≡◌, ℕ, List, [], ◌∷◌, ◌++◌, ap, sym, ◌∙◌, refl}
use Rattle.std.specs.Prelude.{Option, Result, Ok, Err}
use Rattle.cqlp_columns.specs.declared.column.ColumnRefusal.{ColumnRefusal}
use Rattle.cqlp_columns.specs.declared.layout.Layout.{Layout}
use Rattle.cqlp_columns.specs.Arrays.{Column, IsAnswer, Site, column_of, refusal_of}
use Rattle.cqlp_columns.specs.Cells.{Cell}

same_answer : (o p : Option ColumnRefusal) (r r' : Result (Unit {0}) ColumnRefusal) → o ≡ p → IsAnswer o r → IsAnswer p r' → r' ≡ r
same_answer o p (Ok u) (Ok v) e x y = refl
same_answer o p (Ok u) (Err f) e x y = cc
same_answer o p (Err f) (Ok v) e x y = cc
same_answer o p (Err f) (Err g) e x y = cc

pub one_answer :
    (s : Site) (l : Layout) (rows size : ℕ) (cells : List Cell) (c : Cell) (a a' b b' : Column) (r r' : Result (Unit {0}) ColumnRefusal)
    → a ≡ column_of s l rows size cells → a' ≡ column_of s l rows size cells → IsAnswer (refusal_of c a) r → IsAnswer (refusal_of c a') r'
    → b ≡ column_of s l rows size (cells ++ c ∷ []) → b' ≡ column_of s l rows size (cells ++ c ∷ []) → (r' ≡ r) × (b' ≡ b)
one_answer s l rows size cells c a a' b b' r r' p q x y u v =
    (same_answer (refusal_of c a) (refusal_of c a') r r' (ap (λ z. refusal_of c z) (p ∙ sym q)) x y, v ∙ sym u)
