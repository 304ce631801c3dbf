-- A cell that is gone on with where a call stopped within it.
use Rattle.std.proofs.Common.{◌≡◌, ℕ, ◌+◌, ◌-◌, ◌<◌, ◌≤◌, ◌==◌, if◌then◌else◌, Bool, true, false, not, List, [], ◌∷◌, ◌++◌, take, drop, nat_le, nat_lt, Option, Some, None, Result, Ok, Err, inl, inr, refl, sym, ap, ◌∙◌, subst, arith}
use Rattle.std.proofs.lemmas.List.{take_all}
use Rattle.std.proofs.lemmas.Bool.Decides.{nat_tests}
use Rattle.std.specs.Prelude.{⊤, IsErr, IsErrAnd}
use Rattle.std.specs.Io.KnownBytes.{Appends}
use Rattle.cqlp_note.specs.Outputs.{Output, Offered}
use Rattle.cqlp_value.specs.Values.{Values, values_size, values_bytes}
use Rattle.cqlp_value.proofs.ValuesWritten.{written_size}
use Rattle.cqlp_message.specs.declared.unfit.Unfit.TheVariants as unfit
use Rattle.cqlp_message.specs.Pages.{cells_fit}
use Rattle.cqlp_encode.specs.declared.page_writer.PageError.{PageError}
use Rattle.cqlp_encode.specs.declared.page_writer.PageError.TheVariants as error
use Rattle.cqlp_encode.specs.Encoding.{Continued}
use Rattle.cqlp_encode.specs.PagePlaces.{IsPlace, Represents, Checks}
use Rattle.cqlp_encode.specs.PageWriting.{PageState, page, After, AddsRest, CellCut, GoesOn, cells_after, cell_error, rest_error, before_cut, one_more, failed_after}
use Rattle.cqlp_encode.specs.Laws.{CellIsWhole}
use Rattle.cqlp_encode.proofs.Continuing.{came, came_then}
use Rattle.cqlp_encode.proofs.PageSteps.{none_left, after_cut, after_one_more}

-- ---- what keeps a value from being the cell

-- the tests of a cell, in order, and that behind them
abbrev three : (a b c : Bool) → Option PageError → Option PageError
three a b c o = if a then Some error.OutOfTurn else (if b then Some (error.Unfit unfit.CellType) else (if c then Some error.PastLength else o))

refused_by : (a b c : Bool) (o : Option PageError) (e : PageError) → three a b c None ≡ Some e → three a b c o ≡ Some e
refused_by true b c o e is = is
refused_by false true c o e is = is
refused_by false false true o e is = is
refused_by false false false o e is = absurd cc

let_by : (a b c : Bool) (o : Option PageError) → three a b c None ≡ None → three a b c o ≡ o
let_by true b c o is = absurd cc
let_by false true c o is = absurd cc
let_by false false true o is = absurd cc
let_by false false false o is = refl

none_of : (a b c : Bool) (o : Option PageError) → three a b c o ≡ None → (three a b c None ≡ None) × (o ≡ None)
none_of true b c o is = absurd cc
none_of false true c o is = absurd cc
none_of false false true o is = absurd cc
none_of false false false o is = (refl, is)

never_write : (a b c : Bool) (k : ℕ) → three a b c None ≡ Some (error.Write k) → ⊥
never_write true b c k is = absurd cc
never_write false true c k is = absurd cc
never_write false false true k is = absurd cc
never_write false false false k is = absurd cc

module _ (p : PageState) (cells : List Values) (v : Values) where
  pub sound_refuses : p.failed ≡ false → rest_error p cells v ≡ Some error.OutOfTurn
  sound_refuses sound = rw sound refl

  pub cell_refuses : (e : PageError) → p.failed ≡ true → cell_error (before_cut p) cells v ≡ Some e → rest_error p cells v ≡ Some e
  cell_refuses e failed is = rw failed (refused_by (p.left == 0) (not (cells_fit (page p) (cells ++ v ∷ []))) (nat_lt p.free (values_size v)) _ e is)

  pub shorter_refuses : p.failed ≡ true → cell_error (before_cut p) cells v ≡ None → values_size v ≤ p.cut → rest_error p cells v ≡ Some error.OutOfTurn
  shorter_refuses failed is le =
      let short : nat_le (values_size v) p.cut ≡ true = grind (arith, nat_tests) in
      rw failed (let_by (p.left == 0) (not (cells_fit (page p) (cells ++ v ∷ []))) (nat_lt p.free (values_size v)) _ is ∙ rw short refl)

  pub lets_rest : p.failed ≡ true → cell_error (before_cut p) cells v ≡ None → p.cut < values_size v → rest_error p cells v ≡ None
  lets_rest failed is lt =
      let long : nat_le (values_size v) p.cut ≡ false = grind (arith, nat_tests) in
      rw failed (let_by (p.left == 0) (not (cells_fit (page p) (cells ++ v ∷ []))) (nat_lt p.free (values_size v)) _ is ∙ rw long refl)

  pub rest_lets : rest_error p cells v ≡ None → cell_error (before_cut p) cells v ≡ None
  rest_lets is =
      let w = none_left (not p.failed) error.OutOfTurn _ is in
      (none_of (p.left == 0) (not (cells_fit (page p) (cells ++ v ∷ []))) (nat_lt p.free (values_size v)) _ w.1).0

-- ---- go on

module _ (p : PageState) (cells : List Values) (fits : Bool) (w v : Values) (s : Represents p cells fits w v) where
  -- it represents the same cell at the writer before
  pub conforms_before : Represents (before_cut p) cells fits w v
  conforms_before = record { fit = s.fit; size = s.size; bytes = s.bytes }

  pub rest_refused : (e : PageError) (old : Output) → p.failed ≡ true → Checks (before_cut p) cells v (Err e) → AddsRest p cells v old (Err e) old p
  rest_refused (error.Unfit why) old failed is = (cell_refuses p cells v _ failed is, refl, refl)
  rest_refused error.OutOfTurn old failed is = (cell_refuses p cells v _ failed is, refl, refl)
  rest_refused error.PastLength old failed is = (cell_refuses p cells v _ failed is, refl, refl)
  rest_refused error.NotDone old failed is = (cell_refuses p cells v _ failed is, refl, refl)
  rest_refused (error.Write k) old failed is = absurd (never_write (p.left == 0) (not (cells_fit (page p) (cells ++ v ∷ []))) (nat_lt p.free (values_size v)) k is)

  -- the same as the answer of a call
  pub rest_refused_as : (r : Result ⊤ PageError) (e : PageError) (old : Output) → IsErr r × IsErrAnd r (λ f. f ≡ e) → p.failed ≡ true → Checks (before_cut p) cells v (Err e) → AddsRest p cells v old r old p
  rest_refused_as (Ok u) e old is failed c = absurd is.1
  rest_refused_as (Err f) e old is failed c = rw is.1 (rest_refused e old failed c)

  module _ (old new : Output) (size taken : ℕ) (failed : p.failed ≡ true) (fit : fits ≡ true) (same : size ≡ values_size w) (none : cell_error (before_cut p) cells v ≡ None) where
    is : size ≡ values_size v
    is = same ∙ sym (s.size fit)

    pub rest_short : size ≤ p.cut → AddsRest p cells v old (Err error.OutOfTurn) old p
    rest_short le = (shorter_refuses p cells v failed none (omega (arith, le, is)), refl, refl)

    module _ (some : p.cut < size) (gave : Continued p.cut old (values_bytes w) taken new) where
      continued : Continued p.cut old (values_bytes v) taken new
      continued = subst (λ (x : List ℕ). Continued p.cut old x taken new) (sym (s.bytes fit)) gave

      lets : rest_error p cells v ≡ None
      lets = lets_rest p cells v failed none (omega (arith, some, is))

      pub rest_cut : (k : ℕ) (q : PageState) → taken < size → k ≡ (before_cut p).written + taken → q ≡ failed_after (before_cut p) k → AddsRest p cells v old (Err (error.Write k)) new q
      rest_cut k q less count after = (lets, record { taken = taken; some = omega (arith, less, is); count = count; continued = continued; after = after })

      pub rest_all : (q : PageState) → size ≤ taken → q ≡ one_more (before_cut p) size → AddsRest p cells v old (Ok tt) new q
      rest_all q all after =
          let long = written_size v in
          let count : taken ≡ values_size v = omega (arith, continued.bound, long, all, is) in
          (lets, long, subst (λ (k : ℕ). Continued p.cut old (values_bytes v) k new) count continued, after ∙ ap (λ (k : ℕ). one_more (before_cut p) k) is)

-- ---- what it leaves

after_before : (p : PageState) (n : ℕ) (cells : List Values) → After p n cells → After (before_cut p) n cells
after_before p n cells a = record {
  begun = a.begun;
  fit = a.fit;
  left = a.left;
  free = a.free;
  written = λ e. a.cut;
  cut = omega (arith, a.cut);
  uncut = λ e. refl;
}

pub after_rest : (p : PageState) (n : ℕ) (cells : List Values) (v : Values) (old new : Output) (r : Result ⊤ PageError) (q : PageState) → After p n cells → AddsRest p cells v old r new q → After q n (cells_after r cells v)
after_rest p n cells v old new (Ok u) q a s = after_one_more (before_cut p) n cells v (values_size v) q refl s.3 (rest_lets p cells v s.0) (after_before p n cells a)
after_rest p n cells v old new (Err (error.Unfit why)) q a s = rw s.2 a
after_rest p n cells v old new (Err error.OutOfTurn) q a s = rw s.2 a
after_rest p n cells v old new (Err error.PastLength) q a s = rw s.2 a
after_rest p n cells v old new (Err error.NotDone) q a s = rw s.2 a
after_rest p n cells v old new (Err (error.Write k)) q a s = after_cut (before_cut p) n cells s.1.taken k q refl s.1.count s.1.after (after_before p n cells a)

-- the writer before a cell in which a target failed has its place
pub place_before : (p : PageState) (at : ℕ) → IsPlace p at → IsPlace (before_cut p) at
place_before p at place = record {
  row = place.row;
  cells = place.cells;
  column = place.column;
  free = place.free;
  bounded = omega (arith, place.bounded, place.cut);
  cut = omega arith;
  uncut = λ e. refl;
}

-- ---- one attempt after the other

-- before a cell that was cut after t bytes the writer is as it was
restored : (p : PageState) (k t : ℕ) → p.failed ≡ false → p.cut ≡ 0 → k ≡ p.written + t → before_cut (failed_after p k) ≡ p
restored p k t sound uncut count =
    let written : k - (k - p.written) ≡ p.written = omega (arith, count) in
    λ i. record { frame = p.frame; left = p.left; free = p.free; written = written i; failed = sym sound i; cut = sym uncut i }

module _ (p : PageState) (cells : List Values) (v : Values) (sound : p.failed ≡ false) (uncut : p.cut ≡ 0) where
  rest_came : (stops : List (ℕ × Output × PageState)) (k t : ℕ) (q q' : PageState) (mid new : Output) → q ≡ failed_after p k → k ≡ p.written + t → GoesOn q cells v mid stops (Ok tt) new q'
      → Appends mid.given new.given (drop t (take (values_size v) (values_bytes v))) × (q' ≡ one_more p (values_size v))
  rest_came [] k t q q' mid new is count g =
      let cut : q.cut ≡ t = ap (λ (x : PageState). x.cut) is ∙ omega (arith, count) in
      let before : before_cut q ≡ p = ap before_cut is ∙ restored p k t sound uncut count in
      let c : Continued t mid (values_bytes v) (values_size v) new = subst (λ (n : ℕ). Continued n mid (values_bytes v) (values_size v) new) cut g.2 in
      (came t (values_size v) mid new (values_bytes v) c, g.3 ∙ ap (λ (x : PageState). one_more x (values_size v)) before)
  rest_came (stop ∷ stops) k t q q' mid new is count g =
      let before : before_cut q ≡ p = ap before_cut is ∙ restored p k t sound uncut count in
      let cut : q.cut ≡ t = ap (λ (x : PageState). x.cut) is ∙ omega (arith, count) in
      let c : Continued t mid (values_bytes v) g.0.1.taken stop.1 = subst (λ (n : ℕ). Continued n mid (values_bytes v) g.0.1.taken stop.1) cut g.0.1.continued in
      let next : stop.2 ≡ failed_after p stop.0 = g.0.1.after ∙ ap (λ (x : PageState). failed_after x stop.0) before in
      let more : stop.0 ≡ p.written + g.0.1.taken = g.0.1.count ∙ ap (λ (x : PageState). x.written + g.0.1.taken) before in
      let rest = rest_came stops stop.0 g.0.1.taken stop.2 q' stop.1 new next more g.1 in
      (came_then t g.0.1.taken (values_size v) mid stop.1 new (values_bytes v) c (omega (arith, g.0.1.some)) rest.0, rest.1)

as_continued : (old new : Output) (bytes : List ℕ) (n : ℕ) → Offered old bytes n new → Continued 0 old bytes n new
as_continued old new bytes n o =
    let same : n - 0 ≡ n = omega arith in
    record { bound = o.bound; from = omega arith; offered = rw same o }

whole_cell : (p : PageState) (cells : List Values) (v : Values) (n k : ℕ) (q q' : PageState) (old mid new : Output) (stops : List (ℕ × Output × PageState)) → After p n cells → cell_error p cells v ≡ None → CellCut p v k old mid q → GoesOn q cells v mid stops (Ok tt) new q'
    → Appends old.given new.given (values_bytes v) × (q' ≡ one_more p (values_size v))
whole_cell p cells v n k q q' old mid new stops a none c g =
    let sound = (none_left p.failed (error.Write p.written) _ none).0 in
    let rest = rest_came p cells v sound (a.uncut sound) stops k c.taken q q' mid new c.after c.count g in
    let all : take (values_size v) (values_bytes v) ≡ values_bytes v = take_all (values_size v) (values_bytes v) (omega (arith, written_size v)) in
    let both = came_then 0 c.taken (values_size v) old mid new (values_bytes v) (as_continued old mid (values_bytes v) c.taken c.offered) (omega (arith, c.some)) rest.0 in
    (subst (λ (x : List ℕ). Appends old.given new.given x) all both, rest.1)

pub cell_whole : CellIsWhole
cell_whole p q q' n k cells v old mid new stops a none (inl s) g = let both = sym none ∙ s.0 in absurd cc
cell_whole p q q' n k cells v old mid new stops a none (inr s) g = whole_cell p cells v n k q q' old mid new stops a none s.1 g
