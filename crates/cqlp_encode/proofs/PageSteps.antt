-- A page that is written cell by cell, one call after the other.
use Rattle.std.proofs.Common.{◌≡◌, ℕ, zero, suc, ◌+◌, ◌-◌, ◌*◌, ◌<◌, ◌≤◌, ◌==◌, if◌then◌else◌, Bool, true, false, not, is_some, List, [], ◌∷◌, ◌++◌, ◌^◌, get_or, length, nat_lt, Option, Some, None, Result, Ok, Err, refl, sym, ap, ◌∙◌, subst, inl, inr, arith}
use Rattle.std.proofs.lemmas.List.{length-append}
use Rattle.std.proofs.lemmas.Bool.{lt-ltb, le-ltb}
use Rattle.std.proofs.lemmas.Bool.Decides.{nat_tests}
use Rattle.std.proofs.Math.Nat.{lt_of_mul-lt-mul_right, mul-zero, zero-mul}
use Rattle.std.specs.Prelude.{⊤, IfSome, IsErr, IsErrAnd}
use Rattle.cqlp_note.specs.declared.header.TheConstants.Header.{LONGEST_BODY}
use Rattle.cqlp_note.specs.Heading.{IsLawful}
use Rattle.cqlp_note.specs.Outputs.{Output, Offered}
use Rattle.cqlp_type.specs.Trees.{types_in}
use Rattle.cqlp_type.specs.TypeTrees.{tree_of}
use Rattle.cqlp_value.specs.Values.{Values, values_fit, values_size, values_bytes}
use Rattle.cqlp_value.proofs.ValuesWritten.{written_size}
use Rattle.cqlp_message.specs.declared.frame.Frame.{Frame}
use Rattle.cqlp_message.specs.declared.response.Spec.{Spec}
use Rattle.cqlp_message.specs.declared.unfit.Unfit.TheVariants as unfit
use Rattle.cqlp_message.specs.FrameValues.{FrameValue}
use Rattle.cqlp_message.specs.Owned.{frame_of}
use Rattle.cqlp_message.specs.Parts.{parts_size}
use Rattle.cqlp_message.specs.Frames.{frame_parts, frame_size, header_of}
use Rattle.cqlp_message.proofs.FramesWritten.{plain as not_compressed}
use Rattle.cqlp_message.specs.Pages.{page_unfit_of, page_head, page_columns, cells_wanted, cells_fit, types_of_page, fits_column, AreItsCells}
use Rattle.cqlp_message.proofs.PageCells.{cells_size_more}
use Rattle.cqlp_message.proofs.PageColumns.{fits_spec}
use Rattle.cqlp_message.proofs.PageFrames.{page_rows, wanted_is, is_page, no_cells_fit, one_more_fits, page_written}
use Rattle.cqlp_encode.specs.declared.page_writer.PageError.{PageError}
use Rattle.cqlp_encode.specs.declared.page_writer.PageError.TheVariants as error
use Rattle.cqlp_encode.specs.PageWriting.{PageState, page, After, Begins, BeginsFrom, Finishes, Adds, cells_after, cell_error, one_more, failed_after}
use Rattle.cqlp_encode.specs.Encoding.{Continued, header_and_parts}
use Rattle.cqlp_encode.proofs.Continuing.{anew}
use Rattle.cqlp_encode.specs.PagePlaces.{HasColumns, HasSize, IsPlace, IsSized, IsTaken, Represents}

-- ---- before the first cell

pub page_lawful : (f : FrameValue) (n len : ℕ) → page_unfit_of f n ≡ None → len ≡ frame_size f n → IsLawful (header_of f (len - 9))
page_lawful f n len e is =
    let t = is_page f n e in
    record { plain = not_compressed f t.agrees; direction = refl; bounded = omega (arith, is, t.short) }

some_column : (rows c : ℕ) → 0 < rows * c → 0 < c
some_column rows zero lt = absurd (omega (arith, mul-zero rows))
some_column rows (suc c) lt = omega arith

-- a writer that was just made
abbrev pub made : Frame → (left free written : ℕ) → PageState
made f left free written = record { frame = f; left = left; free = free; written = written; failed = false; cut = 0 }

module _ (f : Frame) (n len taken : ℕ) (fits : page_unfit_of (frame_of f) n ≡ None) (is : len ≡ frame_size (frame_of f) n) where
  pub first_place : (left : ℕ) → left ≡ cells_wanted (frame_of f).message → taken ≡ frame_size (frame_of f) 0 → IsPlace (made f left n taken) 0
  first_place left all count =
      let m = (frame_of f).message in
      let short = (is_page (frame_of f) n fits).short in
      record {
        row = 0;
        cells = omega (arith, all, zero-mul (page_columns m));
        column = λ some. some_column (page_rows m) (page_columns m) (omega (arith, some, all, wanted_is m));
        free = omega (arith, short);
        bounded = omega (arith, short, count);
        cut = omega arith;
        uncut = λ e. refl;
      }

  module _ (before : ℕ) (old new : Output) (continued : Continued before old (header_and_parts (frame_of f) (len - 9)) taken new) (long : length (header_and_parts (frame_of f) (len - 9)) ≡ frame_size (frame_of f) 0) where
    same_head : header_and_parts (frame_of f) (len - 9) ≡ page_head (frame_of f) n
    same_head = let body : len - 9 ≡ parts_size (frame_parts (frame_of f)) + n = omega (arith, is) in ap (λ (k : ℕ). header_and_parts (frame_of f) k) body

    head_long : length (page_head (frame_of f) n) ≡ frame_size (frame_of f) 0
    head_long = ap length (sym same_head) ∙ long

    pub begins_cut : taken < len - n → BeginsFrom f n before old (Err (error.Write taken)) new
    begins_cut less = (fits, head_long, omega (arith, is, less), subst (λ (x : List ℕ). Continued before old x taken new) same_head continued)

    pub all_of_head : len - n ≤ taken → taken ≡ frame_size (frame_of f) 0
    all_of_head all = omega (arith, continued.bound, long, is, all)

    pub begins_all : (left : ℕ) → left ≡ cells_wanted (frame_of f).message → len - n ≤ taken → BeginsFrom f n before old (Ok (made f left n taken)) new
    begins_all left wanted all =
        let count = all_of_head all in (
          refl,
          refl,
          record {
            begun = fits;
            fit = no_cells_fit (frame_of f) n fits;
            left = omega (arith, wanted);
            free = omega arith;
            written = λ e. omega (arith, count);
            cut = omega (arith, count);
            uncut = λ e. refl;
          },
          head_long,
          subst (λ (k : ℕ). Continued before old (page_head (frame_of f) n) k new) count (subst (λ (x : List ℕ). Continued before old x taken new) same_head continued),
        )

-- what was written of a page from its first byte on
pub begins_anew : (f : Frame) (n : ℕ) (old new : Output) (r : Result PageState PageError) → BeginsFrom f n 0 old r new → Begins f n old r new
begins_anew f n old new (Ok p) b = (b.0, b.1, b.2, b.3, anew old new (page_head (frame_of f) n) _ b.4)
begins_anew f n old new (Err (error.Unfit why)) b = b
begins_anew f n old new (Err (error.Write k)) b = (b.0, b.1, b.2, anew old new (page_head (frame_of f) n) k b.3)
begins_anew f n old new (Err error.OutOfTurn) b = absurd b
begins_anew f n old new (Err error.PastLength) b = absurd b
begins_anew f n old new (Err error.NotDone) b = absurd b

-- ---- a value is the next cell, or is not

-- where the cells so far fit, one more does if it is one of its column's type
pub fits_next : (p : PageState) (at : ℕ) (v : Values) → IsPlace p at → 0 < p.left → (n : ℕ) (cells : List Values) → After p n cells
    → cells_fit (page p) (cells ++ v ∷ []) ≡ fits_column (types_of_page (page p).message) at v
fits_next p at v place some n cells a =
    let m = (page p).message in
    let c : ℕ = page_columns m in
    let whole : place.row * c + at + p.left ≡ page_rows m * c = place.cells ∙ wanted_is m in
    let is : length cells ≡ place.row * c + at = omega (arith, place.cells, a.left) in
    let more = one_more_fits (page p) cells v place.row at (is_page (page p) n a.begun).agrees is (place.column some) (lt_of_mul-lt-mul_right c {m = place.row} {n = page_rows m} (omega (arith, whole, some))) in
    more ∙ rw a.fit refl

some_left : (n : ℕ) → 0 < n → (n == 0) ≡ false
some_left n some = grind (arith, nat_tests)

module _ (p : PageState) (cells : List Values) (v : Values) (sound : p.failed ≡ false) (some : 0 < p.left) where
  pub refuses_type : cells_fit (page p) (cells ++ v ∷ []) ≡ false → cell_error p cells v ≡ Some (error.Unfit unfit.CellType)
  refuses_type isnt = rw (sound, some_left p.left some, isnt) refl

  pub refuses_length : cells_fit (page p) (cells ++ v ∷ []) ≡ true → p.free < values_size v → cell_error p cells v ≡ Some error.PastLength
  refuses_length fits long = rw (sound, some_left p.left some, fits, lt-ltb p.free (values_size v) long) refl

  pub accepts : cells_fit (page p) (cells ++ v ∷ []) ≡ true → values_size v ≤ p.free → cell_error p cells v ≡ None
  accepts fits short = rw (sound, some_left p.left some, fits, le-ltb p.free (values_size v) short) refl

-- a value represents itself, where it is said whether it fits its column
pub conforms : (p : PageState) (at : ℕ) (v : Values) (fits : Bool) → IsPlace p at → fits ≡ fits_column (types_of_page (page p).message) at v → (n : ℕ) (cells : List Values) → After p n cells → Represents p cells fits v v
conforms p at v fits place is n cells a = record {
  fit = λ some. fits_next p at v place some n cells a ∙ sym is;
  size = λ e. refl;
  bytes = λ e. refl;
}

-- the same where its column's type is described
pub conforms_as : (p : PageState) (at : ℕ) (specs : List Spec) (columns : ℕ) (s : Spec) (v : Values) → IsPlace p at → HasColumns p.frame specs columns → s ≡ get_or specs at s → at < length specs → (n : ℕ) (cells : List Values) → After p n cells
    → Represents p cells (values_fit (types_in (tree_of s.tree)) v) v v
conforms_as p at specs columns s v place has e lt n cells a =
    let is = fits_spec p.frame.message at s v (subst (λ (x : List Spec). s ≡ get_or x at s) has.described e) (subst (λ (x : List Spec). at < length x) has.described lt) in
    conforms p at v _ place (sym is) n cells a

-- ---- the size of a value that fits

pub fits_where_some : (size : Option ℕ) (n : ℕ) → size ≡ Some n → is_some size ≡ true
fits_where_some (Some m) n is = refl
fits_where_some None n is = absurd cc

pub size_of_some : (size : Option ℕ) (n : ℕ) (v : Values) → IfSome size (HasSize v) → size ≡ Some n → n ≤ LONGEST_BODY → n ≡ values_size v
size_of_some (Some m) n v has is small =
    let same : m ≡ n = cc in
    omega arith
size_of_some None n v has is small = absurd cc

sized : (v : Values) (content : List ℕ) → IsSized v content → values_size v ≡ 4 + length content
sized v content is = omega (arith, written_size v, ap length is)

pub has_size : (v : Values) (content : List ℕ) → IsSized v content → length content < 2 ^ 63 → HasSize v (length content + 4)
has_size v content is short = omega (arith, sized v content is)

-- ---- a cell

pub refused : (p : PageState) (cells : List Values) (v : Values) (old : Output) (e : PageError) → cell_error p cells v ≡ Some e → Adds p cells v old (Err e) old p
refused p cells v old (error.Unfit why) is = (is, refl, refl)
refused p cells v old error.OutOfTurn is = (is, refl, refl)
refused p cells v old error.PastLength is = (is, refl, refl)
refused p cells v old error.NotDone is = (is, refl, refl)
refused p cells v old (error.Write k) is = inl (is, refl, refl)

-- the same as the answer of a call
pub refused_as : (p : PageState) (cells : List Values) (v : Values) (old : Output) (r : Result ⊤ PageError) (e : PageError) → IsErr r × IsErrAnd r (λ f. f ≡ e) → cell_error p cells v ≡ Some e → Adds p cells v old r old p
refused_as p cells v old (Ok u) e is some = absurd is.1
refused_as p cells v old (Err f) e is some = rw is.1 (refused p cells v old e some)

module _ (p : PageState) (cells : List Values) (fits : Bool) (w v : Values) (old new : Output) (size taken : ℕ) (s : Represents p cells fits w v) (fit : fits ≡ true) (same : size ≡ values_size w) (gave : Offered old (values_bytes w) taken new) where
  is : size ≡ values_size v
  is = same ∙ sym (s.size fit)

  offered : Offered old (values_bytes v) taken new
  offered = subst (λ (x : List ℕ). Offered old x taken new) (sym (s.bytes fit)) gave

  pub adds_cut : (k : ℕ) (q : PageState) → taken < size → k ≡ p.written + taken → q ≡ failed_after p k → cell_error p cells v ≡ None → Adds p cells v old (Err (error.Write k)) new q
  adds_cut k q less count after none = inr (none, record { taken = taken; some = omega (arith, less, is); count = count; offered = offered; after = after })

  pub adds_all : (q : PageState) → size ≤ taken → q ≡ one_more p size → cell_error p cells v ≡ None → Adds p cells v old (Ok tt) new q
  adds_all q all after none =
      let long = written_size v in
      let count : taken ≡ values_size v = omega (arith, offered.bound, long, all, is) in
      (none, long, subst (λ (k : ℕ). Offered old (values_bytes v) k new) count offered, after ∙ ap (λ (k : ℕ). one_more p k) is)

  pub adds : (r : Result ⊤ PageError) (q : PageState) → cell_error p cells v ≡ None → IsTaken p size taken r q → Adds p cells v old r new q
  adds (Ok u) q none t = adds_all q t.0 t.1 none
  adds (Err (error.Write k)) q none t = adds_cut k q t.0 t.1 t.2 none
  adds (Err (error.Unfit why)) q none t = absurd t
  adds (Err error.OutOfTurn) q none t = absurd t
  adds (Err error.PastLength) q none t = absurd t
  adds (Err error.NotDone) q none t = absurd t

pub none_left : (b : Bool) (e : PageError) (o : Option PageError) → (if b then Some e else o) ≡ None → (b ≡ false) × (o ≡ None)
none_left true e o is = absurd cc
none_left false e o is = (refl, is)

not_false : (b : Bool) → not b ≡ false → b ≡ true
not_false true e = refl
not_false false e = absurd cc

less_or_not : (m n : ℕ) → nat_lt m n ≡ false → n ≤ m
less_or_not m n e = grind (arith, nat_tests)

none_no : (n : ℕ) → (n == 0) ≡ false → 0 < n
none_no n e = grind (arith, nat_tests)

-- a fault leaves the cells as they were
pub after_cut : (p : PageState) (n : ℕ) (cells : List Values) (taken k : ℕ) (q : PageState) → p.failed ≡ false → k ≡ p.written + taken → q ≡ failed_after p k → After p n cells → After q n cells
after_cut p n cells taken k q sound count after a =
    let sum = a.written sound in
    rw after (record { begun = a.begun; fit = a.fit; left = a.left; free = a.free; written = λ e. absurd cc; cut = omega (arith, count, sum); uncut = λ e. absurd cc })

-- where the value was the next cell, the writer is after it
pub after_one_more : (p : PageState) (n : ℕ) (cells : List Values) (v : Values) (size : ℕ) (q : PageState) → size ≡ values_size v → q ≡ one_more p size → cell_error p cells v ≡ None → After p n cells → After q n (cells ++ v ∷ [])
after_one_more p n cells v size q is after none a =
    let w = none_left p.failed (error.Write p.written) _ none in
    let x = none_left (p.left == 0) error.OutOfTurn _ w.1 in
    let y = none_left (not (cells_fit (page p) (cells ++ v ∷ []))) (error.Unfit unfit.CellType) _ x.1 in
    let z = none_left (nat_lt p.free (values_size v)) error.PastLength _ y.1 in
    let some = none_no p.left x.0 in
    let room = less_or_not p.free (values_size v) z.0 in
    let sum = a.written w.0 in
    rw after (record {
      begun = a.begun;
      fit = not_false _ y.0;
      left = omega (arith, some, a.left, length-append cells (v ∷ []));
      free = omega (arith, is, room, a.free, cells_size_more cells v);
      written = λ e. omega (arith, is, room, sum);
      cut = omega (arith, is, room, sum);
      uncut = λ e. refl;
    })

-- what a call leaves
pub after_adds : (p : PageState) (n : ℕ) (cells : List Values) (v : Values) (old new : Output) (r : Result ⊤ PageError) (q : PageState) → After p n cells → Adds p cells v old r new q → After q n (cells_after r cells v)
after_adds p n cells v old new (Ok u) q a s = after_one_more p n cells v (values_size v) q refl s.3 s.0 a
after_adds p n cells v old new (Err (error.Unfit why)) q a s = rw s.2 a
after_adds p n cells v old new (Err error.OutOfTurn) q a s = rw s.2 a
after_adds p n cells v old new (Err error.PastLength) q a s = rw s.2 a
after_adds p n cells v old new (Err error.NotDone) q a s = rw s.2 a
after_adds p n cells v old new (Err (error.Write k)) q a (inl s) = rw s.2 a
after_adds p n cells v old new (Err (error.Write k)) q a (inr s) = after_cut p n cells s.1.taken k q (none_left p.failed (error.Write p.written) _ s.0).0 s.1.count s.1.after a

-- ---- all cells

pub finished : (p : PageState) → p.failed ≡ false → p.left ≡ 0 → p.free ≡ 0 → (n : ℕ) (cells : List Values) → After p n cells → Finishes p n cells (Ok p.written)
finished p sound none empty n cells a =
    let all : AreItsCells (page p) n cells = record { number = omega (arith, none, a.left); fit = a.fit; size = omega (arith, empty, a.free) } in
    let law = page_written (page p) n cells a.begun all in
    let count : p.written ≡ frame_size (page p) n = omega (arith, empty, a.written sound) in
    (sound, omega (arith, none, empty), count ∙ law.2, law.0, law.1)
