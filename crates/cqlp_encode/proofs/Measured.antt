-- Cells that are counted, and why a page is not written with them.
use Rattle.std.proofs.Common.{◌≡◌, ◌≢◌, ℕ, zero, suc, ◌+◌, ◌-◌, ◌*◌, ◌<◌, ◌==◌, ◌%◌, ◌^◌, ◌&&◌, Bool, true, false, not, List, [], ◌∷◌, ◌++◌, length, min, Option, Some, None, Result, Ok, Err, refl, sym, ap, ◌∙◌, subst, inl, inr, arith}
use Rattle.std.proofs.lemmas.List.{length-append}
use Rattle.std.proofs.lemmas.Bool.{cases_lt, lt-ltb}
use Rattle.std.proofs.lemmas.Bool.Decides.{nat_tests}
use Rattle.std.proofs.Math.Nat.{mul-zero}
use Rattle.cqlp_note.specs.declared.header.TheConstants.Header.{LONGEST_BODY}
use Rattle.cqlp_value.specs.Values.{Values, values_size}
use Rattle.cqlp_message.specs.declared.unfit.Unfit.{Unfit}
use Rattle.cqlp_message.specs.declared.unfit.Unfit.TheVariants as unfit
use Rattle.cqlp_message.specs.FrameValues.{FrameValue}
use Rattle.cqlp_message.specs.Frames.{first_of, if_none, frame_parts}
use Rattle.cqlp_message.specs.Owned.{frame_of}
use Rattle.cqlp_message.specs.Parts.{parts_size}
use Rattle.cqlp_message.specs.Pages.{cells_fit, cells_size, cells_wanted, fits_column, page_columns, page_obstacles, page_unfit_of, types_of_page}
use Rattle.cqlp_message.proofs.PageCells.{cells_size_more}
use Rattle.cqlp_message.proofs.PageFrames.{is_page, next_fits, no_cells_fit, page_rows, wanted_is}
use Rattle.cqlp_encode.specs.declared.tally.Tally.{Tally}
use Rattle.cqlp_encode.specs.LentCells.{lent_unfit_of, measure_of}
use Rattle.cqlp_encode.specs.Tallies.{HasCounted}

-- ---- the first of two lists of obstacles

pub first_some : (xs ys : List (Bool × Unfit)) (why : Unfit) → first_of xs ≡ Some why → first_of (xs ++ ys) ≡ Some why
first_some [] ys why e = absurd cc
first_some ((true, w) ∷ xs) ys why e = e
first_some ((false, w) ∷ xs) ys why e = first_some xs ys why e

pub first_none : (xs ys : List (Bool × Unfit)) → first_of xs ≡ None → first_of (xs ++ ys) ≡ first_of ys
first_none [] ys e = refl
first_none ((true, w) ∷ xs) ys e = absurd cc
first_none ((false, w) ∷ xs) ys e = first_none xs ys e

-- ---- why not

-- what is longer than a body is refused alike
too_long : (f : FrameValue) (n m : ℕ) → LONGEST_BODY < n → LONGEST_BODY < m → page_unfit_of f n ≡ page_unfit_of f m
too_long f n m a b = rw (lt-ltb LONGEST_BODY (parts_size (frame_parts f) + n) (omega arith), lt-ltb LONGEST_BODY (parts_size (frame_parts f) + m) (omega arith)) refl

pub cut_length : (f : FrameValue) (size n m : ℕ) → size ≡ min n (2 ^ 64 - 1) → m ≡ min size (2 ^ 32 - 1) → page_unfit_of f m ≡ page_unfit_of f n
cut_length f size n m is cut = elim (cases_lt n (2 ^ 32)) [
  | inl lt ↦ let same : m ≡ n = omega (arith, is, cut) in ap (page_unfit_of f) same
  | inr le ↦ too_long f m n (omega (arith, is, cut)) (omega arith)
]

-- cells of a page are not longer than a body
pub short : (f : FrameValue) (size n m : ℕ) → size ≡ min n (2 ^ 64 - 1) → m ≡ min size (2 ^ 32 - 1) → page_unfit_of f m ≡ None → m ≡ n
short f size n m is cut e = let room = (is_page f m e).short in omega (arith, is, cut, room)

-- what keeps cells from being a page's, once their bytes do not
abbrev pub others : FrameValue → List Values → List (Bool × Unfit)
others f cells = (not (length cells == cells_wanted f.message), unfit.RowShape) ∷ (not (cells_fit f cells), unfit.CellType) ∷ []

module _ (f : FrameValue) (cells : List Values) where
  pub page_refused : (why : Unfit) → page_unfit_of f (cells_size cells) ≡ Some why → measure_of f cells ≡ Err why
  page_refused why e = ap (λ (o : Option Unfit). if_none o (cells_size cells)) (first_some (page_obstacles f (cells_size cells)) (others f cells) why e)

  module _ (e : page_unfit_of f (cells_size cells) ≡ None) where
    rest : lent_unfit_of f cells ≡ first_of (others f cells)
    rest = first_none (page_obstacles f (cells_size cells)) (others f cells) e

    pub number_refused : length cells ≢ cells_wanted f.message → measure_of f cells ≡ Err unfit.RowShape
    number_refused other =
        let isnt : (length cells == cells_wanted f.message) ≡ false = grind (arith, nat_tests) in
        let first : first_of (others f cells) ≡ Some unfit.RowShape = rw isnt refl in
        ap (λ (o : Option Unfit). if_none o (cells_size cells)) (rest ∙ first)

    module _ (same : length cells ≡ cells_wanted f.message) where
      equal : (length cells == cells_wanted f.message) ≡ true
      equal = grind (arith, nat_tests)

      pub type_refused : cells_fit f cells ≡ false → measure_of f cells ≡ Err unfit.CellType
      type_refused isnt =
          let first : first_of (others f cells) ≡ Some unfit.CellType = rw (equal, isnt) refl in
          ap (λ (o : Option Unfit). if_none o (cells_size cells)) (rest ∙ first)

      pub let_through : cells_fit f cells ≡ true → measure_of f cells ≡ Ok (cells_size cells)
      let_through fit =
          let first : first_of (others f cells) ≡ None = rw (equal, fit) refl in
          ap (λ (o : Option Unfit). if_none o (cells_size cells)) (rest ∙ first)

-- what a measure says

pub ok_of : (o : Option Unfit) (n len : ℕ) → Ok len ≡ if_none o n → (o ≡ None) × (n ≡ len)
ok_of None n len e = (refl, cc)
ok_of (Some why) n len e = absurd cc

pub err_of : (o : Option Unfit) (n : ℕ) (why : Unfit) → Err why ≡ if_none o n → o ≡ Some why
err_of None n why e = absurd cc
err_of (Some w) n why e = cc

-- ---- a cell more

false_not_true : {A : Type 0} (b : Bool) → b ≡ false → b ≡ true → A
false_not_true b e w = absurd cc

some_columns : (rows columns n : ℕ) → n < rows * columns → 0 < columns
some_columns rows zero n lt = absurd (omega (arith, mul-zero rows))
some_columns rows (suc c) n lt = omega arith

-- what a page wants, it has columns for
pub has_columns : (f : FrameValue) (n : ℕ) → n < cells_wanted f.message → 0 < page_columns f.message
has_columns f n lt = some_columns (page_rows f.message) (page_columns f.message) n (omega (arith, lt, wanted_is f.message))

module _ (f : FrameValue) (cells : List Values) (v : Values) (t u : Tally) (h : HasCounted f cells t) (frame : u.frame ≡ t.frame) (size : u.size ≡ min (t.size + min (values_size v) (2 ^ 64 - 1)) (2 ^ 64 - 1)) where
  size_more : u.size ≡ min (cells_size (cells ++ v ∷ [])) (2 ^ 64 - 1)
  size_more = omega (arith, size, h.size, cells_size_more cells v)

  frame_same : frame_of u.frame.now ≡ f
  frame_same = ap (λ x. frame_of x.now) frame ∙ h.frame

  past_more : (b : Bool) → t.is_past ≡ b → t.count ≡ cells_wanted f.message → cells_wanted f.message < length (cells ++ v ∷ [])
  past_more true e all = omega (arith, (h.past e).1, length-append cells (v ∷ []))
  past_more false e all = omega (arith, h.count e, all, length-append cells (v ∷ []))

  pub counts_past : t.count ≡ cells_wanted f.message → u.count ≡ t.count → u.is_past ≡ true → HasCounted f (cells ++ v ∷ []) u
  counts_past all count past = record {
    frame = frame_same;
    within = omega (arith, all, count);
    count = λ e. false_not_true u.is_past e past;
    past = λ e. (count ∙ all, past_more t.is_past refl all);
    size = size_more;
    fit = λ n e w. false_not_true u.is_past w past;
  }

  not_past : (b : Bool) → t.is_past ≡ b → t.count ≢ cells_wanted f.message → t.is_past ≡ false
  not_past true e other = absurd (other (h.past e).0)
  not_past false e other = e

  pub counts_one : t.count ≢ cells_wanted f.message → u.count ≡ min (t.count + 1) (2 ^ 64 - 1) → cells_wanted f.message < 2 ^ 64 → u.is_past ≡ t.is_past
      → u.is_fit ≡ (t.is_fit && fits_column (types_of_page f.message) (t.count % page_columns f.message) v) → HasCounted f (cells ++ v ∷ []) u
  counts_one other count bounded past fit =
      let on : t.is_past ≡ false = not_past t.is_past refl other in
      let long : t.count ≡ length cells = h.count on in
      let less : t.count < cells_wanted f.message = omega (arith, h.within, other) in
      let more : u.count ≡ length cells + 1 = omega (arith, count, bounded, less, long) in
      record {
        frame = frame_same;
        within = omega (arith, more, less, long);
        count = λ e. omega (arith, more, length-append cells (v ∷ []));
        past = λ e. false_not_true u.is_past (past ∙ on) e;
        size = size_more;
        fit = λ n e w.
            let next = next_fits f cells v (is_page f n e).agrees (omega (arith, less, long)) in
            fit ∙ ap (λ (b : Bool). b && fits_column (types_of_page f.message) (t.count % page_columns f.message) v) (h.fit n e on) ∙ ap (λ (k : ℕ). cells_fit f cells && fits_column (types_of_page f.message) (k % page_columns f.message) v) long ∙ sym next;
      }

pub counts_none : (f : FrameValue) (t : Tally) → frame_of t.frame.now ≡ f → t.count ≡ 0 → t.size ≡ 0 → t.is_past ≡ false → t.is_fit ≡ true → HasCounted f [] t
counts_none f t frame count size past fit = record {
  frame = frame;
  within = omega (arith, count);
  count = λ e. count;
  past = λ e. false_not_true t.is_past past e;
  size = size;
  fit = λ n e w. fit ∙ sym (no_cells_fit f n e);
}

-- what is shown of the page that is counted for is shown of the same page
pub counts_same : (t u : Tally) (cells : List Values) (v : Values) → (HasCounted (frame_of t.frame.now) cells t → HasCounted (frame_of t.frame.now) (cells ++ v ∷ []) u) → (f : FrameValue) → HasCounted f cells t → HasCounted f (cells ++ v ∷ []) u
counts_same t u cells v step f h = subst (λ (g : FrameValue). HasCounted g (cells ++ v ∷ []) u) h.frame (step (subst (λ (g : FrameValue). HasCounted g cells t) (sym h.frame) h))

pub measures_same : (t : Tally) (r : Result ℕ Unfit) (cells : List Values) → (HasCounted (frame_of t.frame.now) cells t → r ≡ measure_of (frame_of t.frame.now) cells) → (f : FrameValue) → HasCounted f cells t → r ≡ measure_of f cells
measures_same t r cells step f h = subst (λ (g : FrameValue). r ≡ measure_of g cells) h.frame (step (subst (λ (g : FrameValue). HasCounted g cells t) (sym h.frame) h))

pub and_true : (b x r : Bool) → b ≡ true → r ≡ x → r ≡ (b && x)
and_true b x r e w = rw e w

pub and_false : (b x r : Bool) → b ≡ false → r ≡ false → r ≡ (b && x)
and_false b x r e w = rw e w

-- ---- the measure of cells that were counted

module _ (f : FrameValue) (cells : List Values) (t : Tally) (len : ℕ) (h : HasCounted f cells t) (cut : len ≡ min t.size (2 ^ 32 - 1)) where
  same_page : page_unfit_of f len ≡ page_unfit_of f (cells_size cells)
  same_page = cut_length f t.size (cells_size cells) len h.size cut

  pub measures_page : (why : Unfit) → page_unfit_of f len ≡ Some why → Err why ≡ measure_of f cells
  measures_page why e = sym (page_refused f cells why (sym same_page ∙ e))

  module _ (e : page_unfit_of f len ≡ None) where
    begins : page_unfit_of f (cells_size cells) ≡ None
    begins = sym same_page ∙ e

    pub measures_past : t.is_past ≡ true → Err unfit.RowShape ≡ measure_of f cells
    measures_past past = sym (number_refused f cells begins (λ w. absurd (omega (arith, (h.past past).1, w))))

    module _ (on : t.is_past ≡ false) where
      pub measures_number : t.count ≢ cells_wanted f.message → Err unfit.RowShape ≡ measure_of f cells
      measures_number other = sym (number_refused f cells begins (λ w. other (h.count on ∙ w)))

      module _ (all : t.count ≡ cells_wanted f.message) where
        number : length cells ≡ cells_wanted f.message
        number = sym (h.count on) ∙ all

        fit : t.is_fit ≡ cells_fit f cells
        fit = h.fit (cells_size cells) begins on

        pub measures_type : t.is_fit ≡ false → Err unfit.CellType ≡ measure_of f cells
        measures_type isnt = sym (type_refused f cells begins number (sym fit ∙ isnt))

        pub measures_all : t.is_fit ≡ true → Ok len ≡ measure_of f cells
        measures_all is = ap (λ (k : ℕ). Ok k) (short f t.size (cells_size cells) len h.size cut e) ∙ sym (let_through f cells begins number (sym fit ∙ is))
