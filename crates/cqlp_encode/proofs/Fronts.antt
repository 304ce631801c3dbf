-- Cells that are lent as the first time are those of the page.
use Rattle.std.proofs.Common.{◌≡◌, ℕ, ◌≤◌, ◌==◌, ◌&&◌, if◌then◌else◌, Bool, true, false, not, List, [], ◌∷◌, ◌++◌, length, Option, Some, None, refl, sym, ap, ◌∙◌, subst, append_assoc, append-nil, arith}
use Rattle.std.proofs.lemmas.List.{length-append}
use Rattle.std.proofs.lemmas.Bool.Decides.{nat_tests}
use Rattle.cqlp_note.specs.Outputs.{Output}
use Rattle.cqlp_value.specs.Values.{Values}
use Rattle.cqlp_message.specs.declared.unfit.Unfit.{Unfit}
use Rattle.cqlp_message.specs.declared.unfit.Unfit.TheVariants as unfit
use Rattle.cqlp_message.specs.FrameValues.{FrameValue}
use Rattle.cqlp_message.specs.Frames.{first_of}
use Rattle.cqlp_message.specs.Pages.{cells_fit, cells_size, cells_wanted, page_obstacles, page_unfit_of}
use Rattle.cqlp_message.proofs.PageCells.{cells_size_append}
use Rattle.cqlp_message.proofs.PageFrames.{is_page, next_fits}
use Rattle.cqlp_encode.specs.LentCells.{Another, TooFew, Changes, are_all, are_front, lent_unfit_of}
use Rattle.cqlp_encode.specs.LentLaws.{Lends, SameAreNotChanged}
use Rattle.cqlp_encode.proofs.Measured.{others}
use Rattle.cqlp_encode.proofs.LentPages.{all_is, front_is}

and_left : (a b : Bool) → (a && b) ≡ true → a ≡ true
and_left true b e = refl
and_left false b e = absurd cc

-- the first of cells that fit fit
pub front_fits : (f : FrameValue) (n : ℕ) (xs ys : List Values) → page_unfit_of f n ≡ None → length (xs ++ ys) ≤ cells_wanted f.message → cells_fit f (xs ++ ys) ≡ true → cells_fit f xs ≡ true
front_fits f n xs [] e le fit = subst (λ (x : List Values). cells_fit f x ≡ true) (append-nil xs) fit
front_fits f n xs (y ∷ ys) e le fit =
    let same : (xs ++ y ∷ []) ++ ys ≡ xs ++ y ∷ ys = append_assoc xs (y ∷ []) ys in
    let more : cells_fit f (xs ++ y ∷ []) ≡ true = front_fits f n (xs ++ y ∷ []) ys e (omega (arith, ap length same, le)) (ap (cells_fit f) same ∙ fit) in
    and_left (cells_fit f xs) _ (sym (next_fits f xs y (is_page f n e).agrees (omega (arith, le, length-append xs (y ∷ ys)))) ∙ more)

none_both : (xs ys : List (Bool × Unfit)) → first_of (xs ++ ys) ≡ None → (first_of xs ≡ None) × (first_of ys ≡ None)
none_both [] ys e = (refl, e)
none_both ((true, w) ∷ xs) ys e = absurd cc
none_both ((false, w) ∷ xs) ys e = none_both xs ys e

none_if : (b : Bool) (why : Unfit) (o : Option Unfit) → (if b then Some why else o) ≡ None → (b ≡ false) × (o ≡ None)
none_if true why o e = absurd cc
none_if false why o e = (refl, e)

not_false : (b : Bool) → not b ≡ false → b ≡ true
not_false true e = refl
not_false false e = absurd cc

same_number : (n m : ℕ) → (n == m) ≡ true → n ≡ m
same_number n m e = grind (arith, nat_tests)

-- What is known of cells with which a page is written.
pub record AreCells (f : FrameValue) (cells : List Values) : Type 0 where
  pub begins : page_unfit_of f (cells_size cells) ≡ None
  pub number : length cells ≡ cells_wanted f.message
  pub fit : cells_fit f cells ≡ true

pub are_cells : (f : FrameValue) (cells : List Values) → lent_unfit_of f cells ≡ None → AreCells f cells
are_cells f cells e =
    let both = none_both (page_obstacles f (cells_size cells)) (others f cells) e in
    let w = none_if (not (length cells == cells_wanted f.message)) unfit.RowShape (first_of ((not (cells_fit f cells), unfit.CellType) ∷ [])) both.1 in
    let x = none_if (not (cells_fit f cells)) unfit.CellType None w.1 in
    record { begins = both.0; number = same_number _ _ (not_false _ w.0); fit = not_false _ x.0 }

false_not_true : (b : Bool) → b ≡ false → b ≡ true → ⊥
false_not_true b e w = absurd cc

module _ (f : FrameValue) (first again : List Values) (ended : Bool) (old new : Output) (lends : Lends first again ended) (fits : lent_unfit_of f first ≡ None) where
  all : AreCells f first
  all = are_cells f first fits

  is_front : are_front f (cells_size first) again ≡ true
  is_front =
      let same = lends.1 in
      let number : length (again ++ lends.0) ≡ cells_wanted f.message = ap length (sym same) ∙ all.number in
      front_is f (cells_size first) again
      (omega (arith, number, length-append again lends.0))
      (front_fits f (cells_size first) again lends.0 all.begins (omega (arith, number)) (ap (cells_fit f) (sym same) ∙ all.fit))
      (omega (arith, ap cells_size same, cells_size_append again lends.0))

  is_all : ended ≡ true → are_all f (cells_size first) again ≡ true
  is_all e =
      let equal : first ≡ again = lends.1 ∙ ap (λ (x : List Values). again ++ x) (lends.2 e) ∙ append-nil again in
      all_is f (cells_size first) again (ap length (sym equal) ∙ all.number) (ap cells_size (sym equal))

  unchanged : Changes f (cells_size first) again ended old new → ⊥
  unchanged (Another cells v is front none offered) = false_not_true _ none is_front
  unchanged (TooFew end front none offered) = false_not_true _ none (is_all end)

pub same_are_not_changed : SameAreNotChanged
same_are_not_changed f first again ended old new lends e = unchanged f first again ended old new lends e.0 e.1
