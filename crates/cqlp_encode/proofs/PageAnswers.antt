-- One answer of each call of a page's writer meets its clause.
use Rattle.std.proofs.Common.{◌≡◌, ℕ, ◌+◌, ◌<◌, Bool, true, false, nat_lt, List, [], Option, Some, None, IsSome, Result, Ok, Err, inl, inr, refl, sym, ap, ◌∙◌, subst, arith}
use Rattle.std.proofs.lemmas.Bool.Decides.{nat_tests}
use Rattle.std.specs.Prelude.{⊤}
use Rattle.cqlp_note.specs.Outputs.{Output, Offered}
use Rattle.cqlp_value.specs.Values.{Values, values_size, values_bytes}
use Rattle.cqlp_message.specs.declared.frame.Frame.{Frame}
use Rattle.cqlp_message.specs.declared.unfit.Unfit.{Unfit}
use Rattle.cqlp_message.specs.Owned.{frame_of}
use Rattle.cqlp_message.specs.Frames.{frame_size}
use Rattle.cqlp_message.specs.Pages.{page_unfit_of, page_head, cells_wanted}
use Rattle.cqlp_encode.specs.declared.page_writer.PageError.{PageError}
use Rattle.cqlp_encode.specs.declared.page_writer.PageError.TheVariants as error
use Rattle.cqlp_encode.specs.PageWriting.{PageState, page, After, Adds, CellCut, cell_error, one_more, failed_after}
use Rattle.cqlp_encode.specs.Laws.{OneAnswerOfBegin, OneAnswerOfCell, OneAnswerOfFinish}
use Rattle.cqlp_encode.proofs.OneAnswer.{left_once}

-- ---- begin

-- a writer that was just made is the only one
pub made_once : (f : Frame) (n : ℕ) (p q : PageState) → p.frame ≡ f → q.frame ≡ f → p.failed ≡ false → q.failed ≡ false → After p n [] → After q n [] → q ≡ p
made_once f n p q pf qf ps qs a b =
    let frames : q.frame ≡ p.frame = qf ∙ sym pf in
    let wanted : cells_wanted (page q).message ≡ cells_wanted (page p).message = ap (λ (x : Frame). cells_wanted (frame_of x).message) frames in
    let sizes : frame_size (page q) n ≡ frame_size (page p) n = ap (λ (x : Frame). frame_size (frame_of x) n) frames in
    let left : q.left ≡ p.left = omega (arith, a.left, b.left, wanted) in
    let free : q.free ≡ p.free = omega (arith, a.free, b.free) in
    let written : q.written ≡ p.written = omega (arith, a.written ps, b.written qs, sizes, a.free, b.free) in
    let failed : q.failed ≡ p.failed = qs ∙ sym ps in
    let cut : q.cut ≡ p.cut = b.uncut qs ∙ sym (a.uncut ps) in
    λ i. record { frame = frames i; left = left i; free = free i; written = written i; failed = failed i; cut = cut i }

-- all bytes before the first cell
pub head_count : (f : Frame) (n : ℕ) (p : PageState) → p.frame ≡ f → p.failed ≡ false → After p n [] → p.written ≡ frame_size (frame_of f) 0
head_count f n p is sound a =
    let sizes : frame_size (page p) n ≡ frame_size (frame_of f) n = ap (λ (x : Frame). frame_size (frame_of x) n) is in
    omega (arith, a.written sound, a.free, sizes)

pub begun_fits : (f : Frame) (n : ℕ) (p : PageState) → p.frame ≡ f → After p n [] → page_unfit_of (frame_of f) n ≡ None
begun_fits f n p is a = subst (λ (x : Frame). page_unfit_of (frame_of x) n ≡ None) is a.begun

pub no_both : {A : Type 0} (o : Option Unfit) (why : Unfit) → o ≡ None → o ≡ Some why → A
no_both o why e w = let both = sym e ∙ w in absurd cc

pub begins_once : OneAnswerOfBegin
begins_once f n old new new' (Ok p) (Ok q) known a b e =
    (ap (λ (x : PageState). Ok x) (made_once f n p q a.0 b.0 a.1 b.1 a.2 b.2), left_once old new new' (page_head (frame_of f) n) _ _ known refl a.4 b.4)
begins_once f n old new new' (Ok p) (Err (error.Unfit why)) known a b e = no_both _ why (begun_fits f n p a.0 a.2) b.0
begins_once f n old new new' (Ok p) (Err (error.Write k)) known a b e = absurd (omega (arith, head_count f n p a.0 a.1 a.2, b.2, e))
begins_once f n old new new' (Err (error.Unfit why)) (Ok q) known a b e = no_both _ why (begun_fits f n q b.0 b.2) a.0
begins_once f n old new new' (Err (error.Unfit why)) (Err (error.Unfit why')) known a b e =
    let both : ◌≡◌ {A = Option Unfit} (Some why) (Some why') = sym a.0 ∙ b.0 in
    let same : why' ≡ why = cc in
    (ap (λ (w : Unfit). Err (error.Unfit w)) same, b.1 ∙ sym a.1)
begins_once f n old new new' (Err (error.Unfit why)) (Err (error.Write k)) known a b e = no_both _ why b.0 a.0
begins_once f n old new new' (Err (error.Write j)) (Ok q) known a b e = absurd (omega (arith, head_count f n q b.0 b.1 b.2, a.2, e))
begins_once f n old new new' (Err (error.Write j)) (Err (error.Unfit why)) known a b e = no_both _ why a.0 b.0
begins_once f n old new new' (Err (error.Write j)) (Err (error.Write k)) known a b e =
    (ap (λ (m : ℕ). Err (error.Write m)) e, left_once old new new' (page_head (frame_of f) n) j k known e a.3 b.3)
begins_once f n old new new' (Err error.OutOfTurn) r known a b e = absurd a
begins_once f n old new new' (Err error.PastLength) r known a b e = absurd a
begins_once f n old new new' (Err error.NotDone) r known a b e = absurd a
begins_once f n old new new' r (Err error.OutOfTurn) known a b e = absurd b
begins_once f n old new new' r (Err error.PastLength) known a b e = absurd b
begins_once f n old new new' r (Err error.NotDone) known a b e = absurd b

-- ---- cell

-- the value was refused, or cut, or written
data Outcome (p : PageState) (cells : List Values) (v : Values) (old : Output) (r : Result ⊤ PageError) (new : Output) (q : PageState) : Type 0 where
  refused : (e : PageError) → r ≡ Err e → cell_error p cells v ≡ Some e → new ≡ old → q ≡ p → Outcome p cells v old r new q
  cut : (k : ℕ) → r ≡ Err (error.Write k) → cell_error p cells v ≡ None → CellCut p v k old new q → Outcome p cells v old r new q
  whole : r ≡ Ok tt → cell_error p cells v ≡ None → Offered old (values_bytes v) (values_size v) new → q ≡ one_more p (values_size v) → Outcome p cells v old r new q

outcome : (p : PageState) (cells : List Values) (v : Values) (old : Output) (r : Result ⊤ PageError) (new : Output) (q : PageState) → Adds p cells v old r new q → Outcome p cells v old r new q
outcome p cells v old (Ok u) new q a = whole refl a.0 a.2 a.3
outcome p cells v old (Err (error.Unfit why)) new q a = refused (error.Unfit why) refl a.0 a.1 a.2
outcome p cells v old (Err error.OutOfTurn) new q a = refused error.OutOfTurn refl a.0 a.1 a.2
outcome p cells v old (Err error.PastLength) new q a = refused error.PastLength refl a.0 a.1 a.2
outcome p cells v old (Err error.NotDone) new q a = refused error.NotDone refl a.0 a.1 a.2
outcome p cells v old (Err (error.Write k)) new q (inl a) = refused (error.Write k) refl a.0 a.1 a.2
outcome p cells v old (Err (error.Write k)) new q (inr a) = cut k refl a.0 a.1

pub same_error : (o : Option PageError) (e e' : PageError) → o ≡ Some e → o ≡ Some e' → e' ≡ e
same_error o e e' a b = let both : ◌≡◌ {A = Option PageError} (Some e) (Some e') = sym a ∙ b in cc

pub no_error : {A : Type 0} (o : Option PageError) (e : PageError) → o ≡ None → o ≡ Some e → A
no_error o e a b = let both = sym a ∙ b in absurd cc

module _ (p q q' : PageState) (cells : List Values) (v : Values) (old new new' : Output) (r r' : Result ⊤ PageError) (known : IsSome old.given) where
  once : Outcome p cells v old r new q → Outcome p cells v old r' new' q' → q'.written ≡ q.written → (r' ≡ r) × (new' ≡ new) × (q' ≡ q)
  once (refused e is why same still) (refused e' is' why' same' still') w =
      (is' ∙ ap (λ (x : PageError). Err x) (same_error _ e e' why why') ∙ sym is, same' ∙ sym same, still' ∙ sym still)
  once (refused e is why same still) (cut k is' none c) w = no_error _ e none why
  once (refused e is why same still) (whole is' none offered after) w = no_error _ e none why
  once (cut k is none c) (refused e is' why same still) w = no_error _ e none why
  once (cut k is none c) (cut k' is' none' c') w =
      let at : q.written ≡ k = ap (λ (x : PageState). x.written) c.after in
      let at' : q'.written ≡ k' = ap (λ (x : PageState). x.written) c'.after in
      let e : k' ≡ k = omega (arith, at, at', w) in
      let f : c'.taken ≡ c.taken = omega (arith, c.count, c'.count, e) in
      (is' ∙ ap (λ (x : ℕ). Err (error.Write x)) e ∙ sym is, left_once old new new' (values_bytes v) c.taken c'.taken known f c.offered c'.offered, c'.after ∙ ap (λ (x : ℕ). failed_after p x) e ∙ sym c.after)
  once (cut k is none c) (whole is' none' offered after) w =
      let at : q.written ≡ k = ap (λ (x : PageState). x.written) c.after in
      let at' : q'.written ≡ p.written + values_size v = ap (λ (x : PageState). x.written) after in
      absurd (omega (arith, at, at', c.count, c.some, w))
  once (whole is none offered after) (refused e is' why same still) w = no_error _ e none why
  once (whole is none offered after) (cut k is' none' c) w =
      let at : q'.written ≡ k = ap (λ (x : PageState). x.written) c.after in
      let at' : q.written ≡ p.written + values_size v = ap (λ (x : PageState). x.written) after in
      absurd (omega (arith, at, at', c.count, c.some, w))
  once (whole is none offered after) (whole is' none' offered' after') w =
      (is' ∙ sym is, left_once old new new' (values_bytes v) _ _ known refl offered offered', after' ∙ sym after)

pub adds_once : OneAnswerOfCell
adds_once p q q' cells v old new new' r r' known a b w = once p q q' cells v old new new' r r' known (outcome p cells v old r new q a) (outcome p cells v old r' new' q' b) w

-- ---- finish

some_more : (n : ℕ) → nat_lt 0 n ≡ true → 0 < n
some_more n e = grind (arith, nat_tests)

sound_or_not : {A : Type 0} (b : Bool) → b ≡ false → b ≡ true → A
sound_or_not b e f = let both = sym e ∙ f in absurd cc

pub finishes_once : OneAnswerOfFinish
finishes_once p n cells (Ok size) (Ok size') a b = ap (λ (x : ℕ). Ok x) (b.2 ∙ sym a.2)
finishes_once p n cells (Ok size) (Err (error.Write k)) a b = sound_or_not p.failed a.0 b.0
finishes_once p n cells (Ok size) (Err error.NotDone) a b = absurd (omega (arith, a.1, some_more _ b.1))
finishes_once p n cells (Err (error.Write k)) (Ok size) a b = sound_or_not p.failed b.0 a.0
finishes_once p n cells (Err (error.Write k)) (Err (error.Write k')) a b = ap (λ (x : ℕ). Err (error.Write x)) (b.1 ∙ sym a.1)
finishes_once p n cells (Err (error.Write k)) (Err error.NotDone) a b = sound_or_not p.failed b.0 a.0
finishes_once p n cells (Err error.NotDone) (Ok size) a b = absurd (omega (arith, b.1, some_more _ a.1))
finishes_once p n cells (Err error.NotDone) (Err (error.Write k)) a b = sound_or_not p.failed a.0 b.0
finishes_once p n cells (Err error.NotDone) (Err error.NotDone) a b = refl
finishes_once p n cells (Err (error.Unfit why)) r a b = absurd a
finishes_once p n cells (Err error.OutOfTurn) r a b = absurd a
finishes_once p n cells (Err error.PastLength) r a b = absurd a
finishes_once p n cells r (Err (error.Unfit why)) a b = absurd b
finishes_once p n cells r (Err error.OutOfTurn) a b = absurd b
finishes_once p n cells r (Err error.PastLength) a b = absurd b
