-- A page whose cells are lent the second time, and written one after the other.
use Rattle.std.proofs.Common.{◌≡◌, ℕ, zero, suc, ◌+◌, ◌<◌, ◌≤◌, ◌==◌, ◌&&◌, Bool, true, false, not, nat_lt, nat_le, List, [], ◌∷◌, ◌++◌, length, take, Some, None, Result, Ok, Err, refl, sym, ap, ◌∙◌, subst, inl, inr, append_assoc, append-nil, arith}
use Rattle.std.proofs.lemmas.List.{length-append, take_all}
use Rattle.std.proofs.lemmas.Bool.{cases_lt, lt-ltb, le-ltb}
use Rattle.std.proofs.lemmas.Bool.Decides.{nat_tests}
use Rattle.std.specs.Io.KnownBytes.{Appends}
use Rattle.cqlp_note.specs.Outputs.{Output, Offered}
use Rattle.cqlp_note.specs.Streams.{counted}
use Rattle.cqlp_note.proofs.Appended.{appends_then}
use Rattle.cqlp_value.specs.Values.{Values, values_size, values_bytes}
use Rattle.cqlp_value.proofs.ValuesWritten.{written_size}
use Rattle.cqlp_message.specs.declared.frame.Frame.{Frame}
use Rattle.cqlp_message.specs.declared.unfit.Unfit.TheVariants as unfit
use Rattle.cqlp_message.specs.FrameValues.{FrameValue}
use Rattle.cqlp_message.specs.Frames.{first_of, frame_size}
use Rattle.cqlp_message.specs.Owned.{frame_of}
use Rattle.cqlp_message.specs.Pages.{cells_bytes, cells_fit, cells_size, cells_wanted, page_head, page_unfit_of}
use Rattle.cqlp_message.proofs.PageCells.{cells_bytes_more, cells_size_more}
use Rattle.cqlp_message.proofs.PageFrames.{no_cells_fit}
use Rattle.cqlp_encode.specs.declared.page_writer.PageError.{PageError}
use Rattle.cqlp_encode.specs.declared.page_writer.PageError.TheVariants as page_error
use Rattle.cqlp_encode.specs.PageWriting.{PageState, page, After, Begins, Adds, AddsAll, CellCut, Finishes, cell_error}
use Rattle.cqlp_encode.proofs.FramesTaken.{nothing_more}
use Rattle.cqlp_encode.proofs.PageSteps.{after_one_more}
use Rattle.cqlp_encode.proofs.PageWhole.{as_encoded}
use Rattle.cqlp_encode.specs.declared.lent_page.LentError.{LentError}
use Rattle.cqlp_encode.specs.declared.lent_page.LentError.TheVariants as error
use Rattle.cqlp_encode.specs.LentCells.{Another, TooFew, Changes, EncodesLent, Stops, are_all, are_front, front_bytes, lent_unfit_of}
use Rattle.cqlp_encode.specs.Adding.{AddsLent, lent_error}

-- ---- one cell more

pub one_more_added : (p q r : PageState) (before cells : List Values) (v : Values) (old mid new : Output) → AddsAll p before cells old mid q → Adds q (before ++ cells) v mid (Ok tt) new r → AddsAll p before (cells ++ v ∷ []) old new r
one_more_added p q r before [] v old mid new a b =
    let c : Adds p before v old (Ok tt) new r = subst (λ (x : PageState). Adds x before v old (Ok tt) new r) a.1 (subst (λ (x : Output). Adds q before v x (Ok tt) new r) a.0 (subst (λ (x : List Values). Adds q x v mid (Ok tt) new r) (append-nil before) b)) in
    (r, new, c, (refl, refl))
one_more_added p q r before (w ∷ cells) v old mid new (s, at, one, others) b =
    (s, at, one, one_more_added s q r (before ++ w ∷ []) cells v at mid new others (subst (λ (x : List Values). Adds q x v mid (Ok tt) new r) (sym (append_assoc before (w ∷ []) cells)) b))

pub same_frame : (cells before : List Values) (p q : PageState) (old new : Output) → AddsAll p before cells old new q → q.frame ≡ p.frame
same_frame [] before p q old new a = ap (λ (x : PageState). x.frame) a.1
same_frame (v ∷ cells) before p q old new (r, mid, one, others) = same_frame cells (before ++ v ∷ []) r q mid new others ∙ ap (λ (x : PageState). x.frame) one.3

still_sound : (cells before : List Values) (p q : PageState) (old new : Output) → AddsAll p before cells old new q → p.failed ≡ false → q.failed ≡ false
still_sound [] before p q old new a sound = ap (λ (x : PageState). x.failed) a.1 ∙ sound
still_sound (v ∷ cells) before p q old new (r, mid, one, others) sound = still_sound cells (before ++ v ∷ []) r q mid new others (ap (λ (x : PageState). x.failed) one.3)

pub after_all : (n : ℕ) (cells before : List Values) (p q : PageState) (old new : Output) → AddsAll p before cells old new q → After p n before → After q n (before ++ cells)
after_all n [] before p q old new a w = subst (λ (x : PageState). After x n (before ++ [])) (sym a.1) (subst (λ (x : List Values). After p n x) (sym (append-nil before)) w)
after_all n (v ∷ cells) before p q old new (r, mid, one, others) w =
    let next = after_one_more p n before v (values_size v) r refl one.3 one.0 w in
    subst (λ (x : List Values). After q n x) (append_assoc before (v ∷ []) cells) (after_all n cells (before ++ v ∷ []) r q mid new others next)

-- ---- what was written

-- all of these bytes were appended, and no call failed
abbrev pub TakesAll : (old : Output) → List ℕ → (new : Output) → Type 0
TakesAll old bytes new = Appends old.given new.given bytes × (new.failures ≡ old.failures)

takes_all : (old new : Output) (bytes : List ℕ) (n : ℕ) → n ≡ length bytes → Offered old bytes n new → TakesAll old bytes new
takes_all old new bytes n is o =
    let none : nat_lt n (length bytes) ≡ false = le-ltb n (length bytes) (omega (arith, is)) in
    (subst (λ (x : List ℕ). Appends old.given new.given x) (take_all n bytes (omega (arith, is))) o.given, o.failures ∙ ap (λ b. counted b old.failures) none)

offers_all : (old new : Output) (bytes : List ℕ) → TakesAll old bytes new → Offered old bytes (length bytes) new
offers_all old new bytes t =
    let none : nat_lt (length bytes) (length bytes) ≡ false = le-ltb (length bytes) (length bytes) (omega arith) in
    record {
      bound = omega arith;
      given = subst (λ (x : List ℕ). Appends old.given new.given x) (sym (take_all (length bytes) bytes (omega arith))) t.0;
      failures = t.1 ∙ ap (λ b. counted b old.failures) (sym none);
    }

takes_then : (a b c : Output) (x y : List ℕ) → TakesAll a x b → TakesAll b y c → TakesAll a (x ++ y) c
takes_then a b c x y s t = (appends_then a.given b.given c.given x y s.0 t.0, t.1 ∙ s.1)

cells_taken : (cells before : List Values) (p q : PageState) (old new : Output) → AddsAll p before cells old new q → TakesAll old (cells_bytes cells) new
cells_taken [] before p q old new a = rw a.0 (nothing_more old.given, refl)
cells_taken (v ∷ cells) before p q old new (r, mid, one, others) =
    takes_then old mid new (values_bytes v) (cells_bytes cells) (takes_all old mid (values_bytes v) (values_size v) (sym one.1) one.2) (cells_taken cells (before ++ v ∷ []) r q mid new others)

take_behind : (n : ℕ) (xs ys : List ℕ) → take (length xs + n) (xs ++ ys) ≡ xs ++ take n ys
take_behind n [] ys = let none : 0 + n ≡ n = omega arith in rw none refl
take_behind n (x ∷ xs) ys = let more : length (x ∷ xs) + n ≡ suc (length xs + n) = omega arith in rw more (ap (λ (zs : List ℕ). x ∷ zs) (take_behind n xs ys))

behind : (n k m : ℕ) → nat_lt n m ≡ nat_lt (k + n) (k + m)
behind n k m = elim (cases_lt n m) [
  | inl lt ↦ lt-ltb n m lt ∙ sym (lt-ltb (k + n) (k + m) (omega arith))
  | inr le ↦ le-ltb n m le ∙ sym (le-ltb (k + n) (k + m) (omega arith))
]

-- all of these bytes, and then the first of others
offers_then : (old mid new : Output) (xs ys : List ℕ) (n : ℕ) → TakesAll old xs mid → Offered mid ys n new → Offered old (xs ++ ys) (length xs + n) new
offers_then old mid new xs ys n s o =
    let long : length (xs ++ ys) ≡ length xs + length ys = length-append xs ys in
    record {
      bound = omega (arith, long, o.bound);
      given = subst (λ (x : List ℕ). Appends old.given new.given x) (sym (take_behind n xs ys)) (appends_then old.given mid.given new.given xs (take n ys) s.0 o.given);
      failures = o.failures ∙ ap (λ (k : ℕ). counted (nat_lt n (length ys)) k) s.1 ∙ ap (λ (b : Bool). counted b old.failures) (behind n (length xs) (length ys) ∙ ap (λ (k : ℕ). nat_lt (length xs + n) k) (sym long));
    }

pub cells_long : (cells : List Values) → length (cells_bytes cells) ≡ cells_size cells
cells_long [] = refl
cells_long (v ∷ cells) = omega (arith, length-append (values_bytes v) (cells_bytes cells), written_size v, cells_long cells)

-- ---- a front of a page, and what is none

pub front_is : (f : FrameValue) (n : ℕ) (cells : List Values) → length cells ≤ cells_wanted f.message → cells_fit f cells ≡ true → cells_size cells ≤ n → are_front f n cells ≡ true
front_is f n cells number fit size =
    let a : nat_le (length cells) (cells_wanted f.message) ≡ true = grind (arith, nat_tests) in
    let b : nat_le (cells_size cells) n ≡ true = grind (arith, nat_tests) in
    rw (a, fit, b) refl

too_many : (f : FrameValue) (n : ℕ) (cells : List Values) → cells_wanted f.message < length cells → are_front f n cells ≡ false
too_many f n cells lt = let a : nat_le (length cells) (cells_wanted f.message) ≡ false = grind (arith, nat_tests) in rw a refl

and_false : (b : Bool) → (b && false) ≡ false
and_false true = refl
and_false false = refl

not_of_type : (f : FrameValue) (n : ℕ) (cells : List Values) → cells_fit f cells ≡ false → are_front f n cells ≡ false
not_of_type f n cells fit = rw (fit, and_false (nat_le (length cells) (cells_wanted f.message))) refl

too_big : (f : FrameValue) (n : ℕ) (cells : List Values) → n < cells_size cells → are_front f n cells ≡ false
too_big f n cells lt =
    let a : nat_le (cells_size cells) n ≡ false = grind (arith, nat_tests) in
    rw a (and_false (nat_le (length cells) (cells_wanted f.message) && cells_fit f cells))

front_after : (q : PageState) (n : ℕ) (cells : List Values) → After q n cells → are_front (page q) n cells ≡ true
front_after q n cells a = front_is (page q) n cells (omega (arith, a.left)) a.fit (omega (arith, a.free))

-- a writer whose target has not failed refuses what is no front
module _ (q : PageState) (n : ℕ) (cells : List Values) (v : Values) (a : After q n cells) (sound : q.failed ≡ false) where
  abbrev pub Refusal : PageError → Type 0
  Refusal e = (lent_error e ≡ error.Changed) × (are_front (page q) n (cells ++ v ∷ []) ≡ false)

  all_there : (q.left == 0) ≡ true → are_front (page q) n (cells ++ v ∷ []) ≡ false
  all_there e =
      let none : q.left ≡ 0 = grind (arith, nat_tests) in
      too_many (page q) n (cells ++ v ∷ []) (omega (arith, none, a.left, length-append cells (v ∷ [])))

  past_free : nat_lt q.free (values_size v) ≡ true → are_front (page q) n (cells ++ v ∷ []) ≡ false
  past_free e =
      let lt : q.free < values_size v = grind (arith, nat_tests) in
      too_big (page q) n (cells ++ v ∷ []) (omega (arith, lt, a.free, cells_size_more cells v))

  by_tests : (x y z : Bool) (e : PageError) → (q.left == 0) ≡ x → cells_fit (page q) (cells ++ v ∷ []) ≡ y → nat_lt q.free (values_size v) ≡ z
      → first_of ((x, page_error.OutOfTurn) ∷ (not y, page_error.Unfit unfit.CellType) ∷ (z, page_error.PastLength) ∷ []) ≡ Some e → Refusal e
  by_tests true y z e xs ys zs is = let same : e ≡ page_error.OutOfTurn = cc in (ap lent_error same, all_there xs)
  by_tests false false z e xs ys zs is = let same : e ≡ page_error.Unfit unfit.CellType = cc in (ap lent_error same, not_of_type (page q) n (cells ++ v ∷ []) ys)
  by_tests false true true e xs ys zs is = let same : e ≡ page_error.PastLength = cc in (ap lent_error same, past_free zs)
  by_tests false true false e xs ys zs is = absurd cc

  pub refusal : (e : PageError) → cell_error q cells v ≡ Some e → Refusal e
  refusal e is = by_tests (q.left == 0) (cells_fit (page q) (cells ++ v ∷ [])) (nat_lt q.free (values_size v)) e refl refl refl (rw sound at is)

not_all : (f : FrameValue) (n : ℕ) (cells : List Values) (left free : ℕ) → left + length cells ≡ cells_wanted f.message → free + cells_size cells ≡ n → 0 < left + free → are_all f n cells ≡ false
not_all f n cells zero free number size some =
    let b : (cells_size cells == n) ≡ false = grind (arith, nat_tests) in
    rw (b, and_false (length cells == cells_wanted f.message)) refl
not_all f n cells (suc left) free number size some =
    let a : (length cells == cells_wanted f.message) ≡ false = grind (arith, nat_tests) in
    rw a refl

pub all_is : (f : FrameValue) (n : ℕ) (cells : List Values) → length cells ≡ cells_wanted f.message → cells_size cells ≡ n → are_all f n cells ≡ true
all_is f n cells number size =
    let a : (length cells == cells_wanted f.message) ≡ true = grind (arith, nat_tests) in
    let b : (cells_size cells == n) ≡ true = grind (arith, nat_tests) in
    rw (a, b) refl

no_write : (k : ℕ) → error.Write k ≡ error.Changed → ⊥
no_write k e = absurd cc

-- ---- the whole page

module _ (f : Frame) (n : ℕ) (p : PageState) (old start : Output) (begun : Begins f n old (Ok p) start) where
  head_taken : TakesAll old (page_head (frame_of f) n) start
  head_taken = takes_all old start (page_head (frame_of f) n) _ (sym begun.3) begun.4

  module _ (q : PageState) (cells : List Values) (mid : Output) (adds : AddsAll p [] cells start mid q) where
    same : q.frame ≡ f
    same = same_frame cells [] p q start mid adds ∙ begun.0

    sound : q.failed ≡ false
    sound = still_sound cells [] p q start mid adds begun.1

    after : After q n cells
    after = after_all n cells [] p q start mid adds begun.2

    taken : TakesAll old (front_bytes (frame_of f) n cells) mid
    taken = takes_then old start mid (page_head (frame_of f) n) (cells_bytes cells) head_taken (cells_taken cells [] p q start mid adds)

    of_frame : (P : FrameValue → Type 0) → P (page q) → P (frame_of f)
    of_frame P x = subst (λ (y : Frame). P (frame_of y)) same x

    front : are_front (frame_of f) n cells ≡ true
    front = of_frame (λ g. are_front g n cells ≡ true) (front_after q n cells after)

    -- so many bytes were written
    count : q.written ≡ length (front_bytes (frame_of f) n cells)
    count =
        let sum : q.written + q.free ≡ frame_size (frame_of f) n = of_frame (λ g. q.written + q.free ≡ frame_size g n) (after.written sound) in
        omega (arith, sum, after.free, length-append (page_head (frame_of f) n) (cells_bytes cells), begun.3, cells_long cells)

    more_bytes : (v : Values) → front_bytes (frame_of f) n (cells ++ v ∷ []) ≡ front_bytes (frame_of f) n cells ++ values_bytes v
    more_bytes v = ap (λ (b : List ℕ). page_head (frame_of f) n ++ b) (cells_bytes_more cells v) ∙ sym (append_assoc (page_head (frame_of f) n) (cells_bytes cells) (values_bytes v))

    refused : (ended : Bool) (v : Values) (why : PageError) (new : Output) → cell_error q cells v ≡ Some why → new ≡ mid → (lent_error why ≡ error.Changed) × Changes (frame_of f) n (cells ++ v ∷ []) ended old new
    refused ended v why new is unchanged =
        let r = refusal q n cells v after sound why is in
        let none : are_front (frame_of f) n (cells ++ v ∷ []) ≡ false = of_frame (λ g. are_front g n (cells ++ v ∷ []) ≡ false) r.1 in
        (r.0, rw unchanged (Another cells v refl front none (offers_all old mid (front_bytes (frame_of f) n cells) taken)))

    cut : (v : Values) (k : ℕ) (new : Output) (r : PageState) → cell_error q cells v ≡ None → CellCut q v k mid new r → Stops (frame_of f) n (cells ++ v ∷ []) k old new
    cut v k new r none c =
        let next = after_one_more q n cells v (values_size v) _ refl refl none after in
        let bytes = more_bytes v in
        let long : length (front_bytes (frame_of f) n cells ++ values_bytes v) ≡ length (front_bytes (frame_of f) n cells) + values_size v = length-append (front_bytes (frame_of f) n cells) (values_bytes v) ∙ ap (λ (m : ℕ). length (front_bytes (frame_of f) n cells) + m) (written_size v) in
        let at : k ≡ length (front_bytes (frame_of f) n cells) + c.taken = omega (arith, c.count, count) in
        record {
          front = of_frame (λ g. are_front g n (cells ++ v ∷ []) ≡ true) (front_after _ n (cells ++ v ∷ []) next);
          less = omega (arith, at, long, c.some, ap length bytes);
          last = inr (cells, v, refl, omega (arith, at));
          offered = subst (λ (x : List ℕ). Offered old x k new) (sym bytes) (subst (λ (m : ℕ). Offered old (front_bytes (frame_of f) n cells ++ values_bytes v) m new) (sym at) (offers_then old mid new (front_bytes (frame_of f) n cells) (values_bytes v) c.taken taken c.offered));
        }

    last_one : (ended : Bool) (v : Values) (why : PageError) (new : Output) (r : PageState) → Adds q cells v mid (Err why) new r → (first : List Values) → lent_unfit_of (frame_of f) first ≡ None → cells_size first ≡ n → EncodesLent (frame_of f) first (cells ++ v ∷ []) ended old (Err (lent_error why)) new
    last_one ended v (page_error.Write k) new r (inl s) first fits size = absurd (no_write k (refused ended v (page_error.Write k) new s.0 s.1).0)
    last_one ended v (page_error.Write k) new r (inr s) first fits size = (fits, rw size (cut v k new r s.0 s.1))
    last_one ended v (page_error.Unfit why) new r s first fits size = (fits, rw size (refused ended v (page_error.Unfit why) new s.0 s.1).1)
    last_one ended v page_error.OutOfTurn new r s first fits size = (fits, rw size (refused ended v page_error.OutOfTurn new s.0 s.1).1)
    last_one ended v page_error.PastLength new r s first fits size = (fits, rw size (refused ended v page_error.PastLength new s.0 s.1).1)
    last_one ended v page_error.NotDone new r s first fits size = (fits, rw size (refused ended v page_error.NotDone new s.0 s.1).1)

    whole : q.left + q.free ≡ 0 → are_all (frame_of f) n cells ≡ true
    whole none = of_frame (λ g. are_all g n cells ≡ true) (all_is (page q) n cells (omega (arith, none, after.left)) (omega (arith, none, after.free)))

    too_few : Finishes q n cells (Err page_error.NotDone) → Changes (frame_of f) n cells true old mid
    too_few s =
        let some : 0 < q.left + q.free = grind (arith, nat_tests, s.1) in
        TooFew refl front (of_frame (λ g. are_all g n cells ≡ false) (not_all (page q) n cells q.left q.free after.left after.free some)) (offers_all old mid (front_bytes (frame_of f) n cells) taken)

    ends : (why : PageError) → Finishes q n cells (Err why) → (first : List Values) → lent_unfit_of (frame_of f) first ≡ None → cells_size first ≡ n → EncodesLent (frame_of f) first cells true old (Err (lent_error why)) mid
    ends (page_error.Write k) s first fits size = let both = sym sound ∙ s.0 in absurd cc
    ends page_error.NotDone s first fits size = (fits, rw size (too_few s))
    ends (page_error.Unfit why) s first fits size = absurd s
    ends page_error.OutOfTurn s first fits size = absurd s
    ends page_error.PastLength s first fits size = absurd s

  pub lent_again : (first again : List Values) (ended : Bool) (r : Result ℕ LentError) (new : Output) → lent_unfit_of (frame_of f) first ≡ None → cells_size first ≡ n → AddsLent p n again ended start r new → EncodesLent (frame_of f) first again ended old r new
  lent_again first again ended (Ok size) new fits same (end, q, adds, done) =
      (fits, end, rw same (front q again new adds), rw same (whole q again new adds done.1), as_encoded f n again p q old start new size begun adds done)
  lent_again first again ended (Err e) new fits same (inl s) =
      subst (λ (x : LentError). EncodesLent (frame_of f) first again ended old (Err x) new) (sym s.lent_error) (subst (λ (x : List Values). EncodesLent (frame_of f) first x ended old (Err (lent_error s.why)) new) (sym s.is) (last_one s.q s.cells s.mid s.adds ended s.cell s.why new s.r s.stopped first fits same))
  lent_again first again ended (Err e) new fits same (inr (end, s)) =
      subst (λ (x : LentError). EncodesLent (frame_of f) first again ended old (Err x) new) (sym s.lent_error) (subst (λ (b : Bool). EncodesLent (frame_of f) first again b old (Err (lent_error s.why)) new) (sym end) (ends s.q again new s.adds s.why s.stopped first fits same))

-- ---- before the first cell

pub head_cut : (f : Frame) (n : ℕ) (first : List Values) (why : PageError) (ended : Bool) (old new : Output) → lent_unfit_of (frame_of f) first ≡ None → page_unfit_of (frame_of f) n ≡ None → cells_size first ≡ n → Begins f n old (Err why) new → EncodesLent (frame_of f) first [] ended old (Err (lent_error why)) new
head_cut f n first (page_error.Unfit why) ended old new fits begins size b = let both = sym begins ∙ b.0 in absurd cc
head_cut f n first (page_error.Write k) ended old new fits begins size b =
    let none : front_bytes (frame_of f) n [] ≡ page_head (frame_of f) n = append-nil (page_head (frame_of f) n) in (
      fits,
      rw size (record {
        front = front_is (frame_of f) n [] (omega arith) (no_cells_fit (frame_of f) n begins) (omega arith);
        less = omega (arith, b.1, b.2, ap length none);
        last = inl refl;
        offered = subst (λ (x : List ℕ). Offered old x k new) (sym none) b.3;
      }),
    )
head_cut f n first page_error.OutOfTurn ended old new fits begins size b = absurd b
head_cut f n first page_error.PastLength ended old new fits begins size b = absurd b
head_cut f n first page_error.NotDone ended old new fits begins size b = absurd b
