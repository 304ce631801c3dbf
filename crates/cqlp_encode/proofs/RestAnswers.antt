-- One answer of each call that goes on with a page meets its clause.
use Rattle.std.proofs.Common.{◌≡◌, ℕ, ◌+◌, List, Option, Some, None, IsSome, Result, Ok, Err, refl, sym, ap, ◌∙◌, arith}
use Rattle.std.specs.Prelude.{⊤}
use Rattle.cqlp_note.specs.Outputs.{Output}
use Rattle.cqlp_value.specs.Values.{Values, values_size, values_bytes}
use Rattle.cqlp_message.specs.declared.unfit.Unfit.{Unfit}
use Rattle.cqlp_message.specs.Owned.{frame_of}
use Rattle.cqlp_message.specs.Pages.{page_head}
use Rattle.cqlp_encode.specs.declared.page_writer.PageError.{PageError}
use Rattle.cqlp_encode.specs.declared.page_writer.PageError.TheVariants as error
use Rattle.cqlp_encode.specs.Encoding.{Continued}
use Rattle.cqlp_encode.specs.PageWriting.{PageState, AddsRest, RestCut, rest_error, before_cut, one_more, failed_after}
use Rattle.cqlp_encode.specs.Laws.{OneAnswerOfBeginFrom, OneAnswerOfResume}
use Rattle.cqlp_encode.proofs.Attempts.{continued_once}
use Rattle.cqlp_encode.proofs.PageAnswers.{made_once, head_count, begun_fits, no_both, same_error, no_error}

-- ---- begin

pub begins_from_once : OneAnswerOfBeginFrom
begins_from_once f n before old new new' (Ok p) (Ok q) known a b e =
    (ap (λ (x : PageState). Ok x) (made_once f n p q a.0 b.0 a.1 b.1 a.2 b.2), continued_once before old new new' (page_head (frame_of f) n) _ _ known refl a.4 b.4)
begins_from_once f n before old new new' (Ok p) (Err (error.Unfit why)) known a b e = no_both _ why (begun_fits f n p a.0 a.2) b.0
begins_from_once f n before old new new' (Ok p) (Err (error.Write k)) known a b e = absurd (omega (arith, head_count f n p a.0 a.1 a.2, b.2, e))
begins_from_once f n before old new new' (Err (error.Unfit why)) (Ok q) known a b e = no_both _ why (begun_fits f n q b.0 b.2) a.0
begins_from_once f n before old new new' (Err (error.Unfit why)) (Err (error.Unfit why')) known a b e =
    let both : ◌≡◌ {A = Option Unfit} (Some why) (Some why') = sym a.0 ∙ b.0 in
    let same : why' ≡ why = cc in
    (ap (λ (w : Unfit). Err (error.Unfit w)) same, b.1 ∙ sym a.1)
begins_from_once f n before old new new' (Err (error.Unfit why)) (Err (error.Write k)) known a b e = no_both _ why b.0 a.0
begins_from_once f n before old new new' (Err (error.Write j)) (Ok q) known a b e = absurd (omega (arith, head_count f n q b.0 b.1 b.2, a.2, e))
begins_from_once f n before old new new' (Err (error.Write j)) (Err (error.Unfit why)) known a b e = no_both _ why a.0 b.0
begins_from_once f n before old new new' (Err (error.Write j)) (Err (error.Write k)) known a b e =
    (ap (λ (m : ℕ). Err (error.Write m)) e, continued_once before old new new' (page_head (frame_of f) n) j k known e a.3 b.3)
begins_from_once f n before old new new' (Err error.OutOfTurn) r known a b e = absurd a
begins_from_once f n before old new new' (Err error.PastLength) r known a b e = absurd a
begins_from_once f n before old new new' (Err error.NotDone) r known a b e = absurd a
begins_from_once f n before old new new' r (Err error.OutOfTurn) known a b e = absurd b
begins_from_once f n before old new new' r (Err error.PastLength) known a b e = absurd b
begins_from_once f n before old new new' r (Err error.NotDone) known a b e = absurd b

-- ---- a cell

-- the value was refused, or cut again, or written
data Outcome (p : PageState) (cells : List Values) (v : Values) (old : Output) (r : Result ⊤ PageError) (new : Output) (q : PageState) : Type 0 where
  refused : (e : PageError) → r ≡ Err e → rest_error p cells v ≡ Some e → new ≡ old → q ≡ p → Outcome p cells v old r new q
  cut : (k : ℕ) → r ≡ Err (error.Write k) → rest_error p cells v ≡ None → RestCut p v k old new q → Outcome p cells v old r new q
  whole : r ≡ Ok tt → rest_error p cells v ≡ None → Continued p.cut old (values_bytes v) (values_size v) new → q ≡ one_more (before_cut p) (values_size v) → Outcome p cells v old r new q

outcome : (p : PageState) (cells : List Values) (v : Values) (old : Output) (r : Result ⊤ PageError) (new : Output) (q : PageState) → AddsRest p cells v old r new q → Outcome p cells v old r new q
outcome p cells v old (Ok u) new q a = whole refl a.0 a.2 a.3
outcome p cells v old (Err (error.Unfit why)) new q a = refused (error.Unfit why) refl a.0 a.1 a.2
outcome p cells v old (Err error.OutOfTurn) new q a = refused error.OutOfTurn refl a.0 a.1 a.2
outcome p cells v old (Err error.PastLength) new q a = refused error.PastLength refl a.0 a.1 a.2
outcome p cells v old (Err error.NotDone) new q a = refused error.NotDone refl a.0 a.1 a.2
outcome p cells v old (Err (error.Write k)) new q a = cut k refl a.0 a.1

module _ (p q q' : PageState) (cells : List Values) (v : Values) (old new new' : Output) (r r' : Result ⊤ PageError) (known : IsSome old.given) where
  once : Outcome p cells v old r new q → Outcome p cells v old r' new' q' → q'.written ≡ q.written → (r' ≡ r) × (new' ≡ new) × (q' ≡ q)
  once (refused e is why same still) (refused e' is' why' same' still') w =
      (is' ∙ ap (λ (x : PageError). Err x) (same_error _ e e' why why') ∙ sym is, same' ∙ sym same, still' ∙ sym still)
  once (refused e is why same still) (cut k is' none c) w = no_error _ e none why
  once (refused e is why same still) (whole is' none continued after) w = no_error _ e none why
  once (cut k is none c) (refused e is' why same still) w = no_error _ e none why
  once (cut k is none c) (cut k' is' none' c') w =
      let at : q.written ≡ k = ap (λ (x : PageState). x.written) c.after in
      let at' : q'.written ≡ k' = ap (λ (x : PageState). x.written) c'.after in
      let e : k' ≡ k = omega (arith, at, at', w) in
      let f : c'.taken ≡ c.taken = omega (arith, c.count, c'.count, e) in
      (is' ∙ ap (λ (x : ℕ). Err (error.Write x)) e ∙ sym is, continued_once p.cut old new new' (values_bytes v) c.taken c'.taken known f c.continued c'.continued, c'.after ∙ ap (λ (x : ℕ). failed_after (before_cut p) x) e ∙ sym c.after)
  once (cut k is none c) (whole is' none' continued after) w =
      let at : q.written ≡ k = ap (λ (x : PageState). x.written) c.after in
      let at' : q'.written ≡ (before_cut p).written + values_size v = ap (λ (x : PageState). x.written) after in
      absurd (omega (arith, at, at', c.count, c.some, w))
  once (whole is none continued after) (refused e is' why same still) w = no_error _ e none why
  once (whole is none continued after) (cut k is' none' c) w =
      let at : q'.written ≡ k = ap (λ (x : PageState). x.written) c.after in
      let at' : q.written ≡ (before_cut p).written + values_size v = ap (λ (x : PageState). x.written) after in
      absurd (omega (arith, at, at', c.count, c.some, w))
  once (whole is none continued after) (whole is' none' continued' after') w =
      (is' ∙ sym is, continued_once p.cut old new new' (values_bytes v) _ _ known refl continued continued', after' ∙ sym after)

pub rests_once : OneAnswerOfResume
rests_once p q q' cells v old new new' r r' known a b w = once p q q' cells v old new new' r r' known (outcome p cells v old r new q a) (outcome p cells v old r' new' q' b) w
