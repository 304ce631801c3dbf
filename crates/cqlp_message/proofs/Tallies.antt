-- What is found of parts, one more of them, and why a frame has no spelling.
use Rattle.std.proofs.Common.{◌≡◌, ℕ, ◌+◌, ◌-◌, ◌≤◌, ◌^◌, ◌++◌, Bool, true, false, cond, ◌&&◌, List, [], ◌∷◌, None, min, refl, sym, ap, ◌∙◌, arith}
use Rattle.std.specs.Prelude.{nat_lt, not, Option, Some, Ok, Err}
use Rattle.cqlp_message.specs.declared.unfit.Unfit.{Unfit}
use Rattle.cqlp_message.specs.declared.unfit.Unfit.TheVariants as unfit
use Rattle.std.specs.List.{list_all}
use Rattle.std.proofs.lemmas.List.Elements.{All-push}
use Rattle.std.proofs.lemmas.List.Folds.{list_all-append}
use Rattle.std.proofs.lemmas.Bool.Decides.{nat_tests}
use Rattle.cqlp_note.specs.declared.header.TheConstants.Header.{LONGEST_BODY}
use Rattle.cqlp_message.specs.declared.tally.Tally.{Tally}
use Rattle.cqlp_message.specs.FrameValues.{FrameValue}
use Rattle.cqlp_message.specs.Parts.{Part, part_size, parts_size, counts_fit, texts_fit, cell_fits, PartIsInRange}
use Rattle.cqlp_message.specs.Frames.{frame_parts, first_obstacles, first_of, obstacles, unfit_of, if_none}
use Rattle.cqlp_message.specs.Agreement.{has_its_cells}
use Rattle.cqlp_message.specs.Pages.{is_bare, page_unfit_of}
use Rattle.cqlp_message.specs.Tallies.{IsTally, IsTallyOf}

pub size_more : (ps : List Part) (p : Part) → parts_size (ps ++ p ∷ []) ≡ parts_size ps + part_size p
size_more [] p = omega arith
size_more (q ∷ ps) p = let e = size_more ps p in omega arith

pub and_true : (b : Bool) → (b && true) ≡ b
and_true true = refl
and_true false = refl

all_more : (test : Part → Bool) (ps : List Part) (p : Part) → list_all test (ps ++ p ∷ []) ≡ (list_all test ps && test p)
all_more test ps p = list_all-append test ps (p ∷ []) ∙ ap (λ b. list_all test ps && b) (and_true (test p))

pub tally_more : (t u r : Tally) (ps : List Part) (p : Part) → IsTally t ps → IsTallyOf u p → r.counts ≡ (t.counts && u.counts) → r.texts ≡ (t.texts && u.texts) → r.cells ≡ (t.cells && u.cells) → r.size ≡ min (t.size + u.size) (2 ^ 64 - 1) → IsTally r (ps ++ p ∷ [])
tally_more t u r ps p all one c x l s = record {
  counts = c ∙ (λ i. all.counts i && one.counts i) ∙ sym (all_more counts_fit ps p);
  texts = x ∙ (λ i. all.texts i && one.texts i) ∙ sym (all_more texts_fit ps p);
  cells = l ∙ (λ i. all.cells i && one.cells i) ∙ sym (all_more cell_fits ps p);
  size = let e = size_more ps p in let f = all.size in let g = one.size in omega arith;
  range = All-push PartIsInRange ps p all.range one.range;
}

abbrev pub AllFalse : {A : Type 0} → List (Bool × A) → Type 0
AllFalse [] = Unit {0}
AllFalse (test ∷ tests) = (test.0 ≡ false) × AllFalse tests

all_false_first : {A : Type 0} (b : Bool) (a : A) (tests : List (Bool × A)) → (first_of tests ≡ None → AllFalse tests) → first_of ((b, a) ∷ tests) ≡ None → (b ≡ false) × AllFalse tests
all_false_first true a tests more e = absurd (cc)
all_false_first false a tests more e = (refl, more e)

-- where nothing is in the way, no test holds
pub all_false : {A : Type 0} (tests : List (Bool × A)) → first_of tests ≡ None → AllFalse tests
all_false [] e = tt
all_false (test ∷ tests) e = all_false_first test.0 test.1 tests (all_false tests) e

first_with : {A : Type 0} (b : Bool) (a' : A) (rest all : Option A) (a : A) → (rest ≡ Some a → all ≡ Some a) → cond b (Some a') rest ≡ Some a → cond b (Some a') all ≡ Some a
first_with true a' rest all a more e = e
first_with false a' rest all a more e = more e

-- the first that holds of some tests is the first of these and others
first_of_more : {A : Type 0} (tests others : List (Bool × A)) (a : A) → first_of tests ≡ Some a → first_of (tests ++ others) ≡ Some a
first_of_more [] others a e = absurd cc
first_of_more (test ∷ tests) others a e = first_with test.0 test.1 (first_of tests) (first_of (tests ++ others)) a (first_of_more tests others a) e

-- what is in the way of a frame whatever its cells is so of the frame, and of a page without cells
pub first_of_frame : (f : FrameValue) (why : Unfit) → first_of (first_obstacles f) ≡ Some why → unfit_of f ≡ Some why
first_of_frame f why e =
    first_of_more (first_obstacles f) ((not (has_its_cells f.message), unfit.RowShape) ∷ (not (list_all cell_fits (frame_parts f)), unfit.CellType) ∷ (nat_lt LONGEST_BODY (parts_size (frame_parts f)), unfit.BodyTooLong) ∷ []) why e

pub first_of_page : (f : FrameValue) (n : ℕ) (why : Unfit) → first_of (first_obstacles f) ≡ Some why → page_unfit_of f n ≡ Some why
first_of_page f n why e =
    first_of_more (first_obstacles f) ((not (is_bare f.message), unfit.RowShape) ∷ (nat_lt LONGEST_BODY (parts_size (frame_parts f) + n), unfit.BodyTooLong) ∷ []) why e

below : (m n : ℕ) → nat_lt m n ≡ false → n ≤ m
below m n e = grind (arith, nat_tests)

pub small_enough : (f : FrameValue) → unfit_of f ≡ None → parts_size (frame_parts f) ≤ LONGEST_BODY
small_enough f e = below LONGEST_BODY (parts_size (frame_parts f)) (all_false (obstacles f) e).1.1.1.1.1.1.0

-- what was measured has nothing in the way
pub none_where_measured : (o : Option Unfit) (n m : ℕ) → if_none o n ≡ Ok m → o ≡ None
none_where_measured None n m e = refl
none_where_measured (Some why) n m e = absurd cc

pub some_where_not : (o : Option Unfit) (n : ℕ) (why : Unfit) → if_none o n ≡ Err why → o ≡ Some why
some_where_not None n why e = absurd cc
some_where_not (Some why') n why e = cc

pub size_where_measured : (o : Option Unfit) (n m : ℕ) → if_none o n ≡ Ok m → m ≡ n
size_where_measured None n m e = cc
size_where_measured (Some why) n m e = absurd cc
