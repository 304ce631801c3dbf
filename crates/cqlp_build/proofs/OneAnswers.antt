-- An event has one answer.
use Rattle.std.proofs.Common.{◌≡◌, ℕ, ◌⊎◌, length, true, false, Some, None, Ok, Err, refl, sym, ap, ◌∙◌, subst, arith, lt-ltb, le-ltb, inl, inr}
use Rattle.std.specs.Prelude.{◌==◌, if◌then◌else◌, nat_lt}
use Rattle.cqlp_grammar.specs.Events.{Event, Frame, Holds, Node_of, Cell_at, Leave, End}
use Rattle.cqlp_message.specs.Owned.{frame_of}
use Rattle.cqlp_build.specs.declared.builder.BuiltFrame.{BuiltFrame}
use Rattle.cqlp_build.specs.declared.error.BuildError.{BuildError}
use Rattle.cqlp_build.specs.declared.error.BuildError.TheVariants as error
use Rattle.cqlp_build.specs.Building.{BuilderState, TakesEvent, content_size, is_due, is_end, is_field, is_unbuilt}
use Rattle.cqlp_build.specs.Nesting.{depth_at}
use Rattle.cqlp_build.specs.Laws.{Answer, AreSame, OneAnswer, WantsMemory}

-- the first test that an event does not pass, each with its number
class_err : BuildError → ℕ
class_err error.Misplaced = 0
class_err error.Unbuilt = 1
class_err error.NoFrame = 2
class_err error.TooManyFields = 3
class_err error.TooManyBytes = 4
class_err error.NoMemory = 6
class_err error.TooDeep = 7

class : Answer → ℕ
class (Ok (Some b)) = 2
class (Ok None) = 5
class (Err w) = class_err w

of_class : ℕ → BuildError
of_class n =
    if n == 0 then error.Misplaced
    else (if n == 1 then error.Unbuilt
    else (if n == 2 then error.NoFrame
    else (if n == 3 then error.TooManyFields
    else (if n == 4 then error.TooManyBytes
    else (if n == 7 then error.TooDeep else error.NoMemory)))))

class_back : (w : BuildError) → of_class (class_err w) ≡ w
unfolding class_err of_class
class_back error.Misplaced = refl
class_back error.Unbuilt = refl
class_back error.NoFrame = refl
class_back error.TooManyFields = refl
class_back error.TooManyBytes = refl
class_back error.NoMemory = refl
class_back error.TooDeep = refl

never_5 : (w : BuildError) → class_err w ≡ 5 → ⊥
unfolding class_err
never_5 error.Misplaced d = absurd (omega (arith, d))
never_5 error.Unbuilt d = absurd (omega (arith, d))
never_5 error.NoFrame d = absurd (omega (arith, d))
never_5 error.TooManyFields d = absurd (omega (arith, d))
never_5 error.TooManyBytes d = absurd (omega (arith, d))
never_5 error.NoMemory d = absurd (omega (arith, d))
never_5 error.TooDeep d = absurd (omega (arith, d))

of_field : BuilderState → Event → ℕ
of_field s e =
    if nat_lt s.limits.fields (length s.events) then 3
    else (if nat_lt s.limits.depth (depth_at e s.around) then 7
    else (if nat_lt s.room (content_size e) then 4 else 5))

of_due : BuilderState → Event → ℕ
of_due s e = if is_unbuilt e then 1 else (if is_end e then 2 else (if is_field e then of_field s e else 5))

test_of : BuilderState → Event → ℕ
test_of s e = if is_due s.events e then of_due s e else 0

no_end : (e : Event) → is_field e ≡ true → is_end e ≡ false
no_end (Holds f v) d = refl
no_end (Frame h) d = absurd cc
no_end (Node_of k) d = refl
no_end (Cell_at r c v) d = refl
no_end (Leave l n) d = refl
no_end (End x) d = absurd cc

taken_class : (s : BuilderState) (e : Event) (new : BuilderState) → TakesEvent s e (Ok None) new → test_of s e ≡ 5
unfolding test_of of_due of_field
taken_class s (Holds f v) new t = rw (t.0, le-ltb _ _ t.2.0.0, le-ltb _ _ t.2.0.1, le-ltb _ _ t.2.0.2) refl
taken_class s (Frame h) new t = rw t.0 refl
taken_class s (Node_of k) new t = rw (t.0, le-ltb _ _ t.2.0.0, le-ltb _ _ t.2.0.1, le-ltb _ _ t.2.0.2) refl
taken_class s (Cell_at r c v) new t = rw (t.0, t.1, le-ltb _ _ t.2.0.0, le-ltb _ _ t.2.0.1, le-ltb _ _ t.2.0.2) refl
taken_class s (Leave l n) new t = rw (t.0, le-ltb _ _ t.2.0.0, le-ltb _ _ t.2.0.1, le-ltb _ _ t.2.0.2) refl
taken_class s (End x) new t = absurd t.2.0

classed : (s : BuilderState) (e : Event) (r : Answer) (new : BuilderState) → TakesEvent s e r new → (WantsMemory r → ⊥) → test_of s e ≡ class r
unfolding test_of of_due of_field class class_err
classed s e (Err error.Misplaced) new t n = rw t.0 refl
classed s e (Err error.Unbuilt) new t n = rw (t.0, t.1) refl
classed s e (Ok (Some b)) new t n = rw (t.0, t.1, t.2.0) refl
classed s e (Err error.NoFrame) new t n = rw (t.0, t.1, t.2.0) refl
classed s e (Err error.TooManyFields) new t n = rw (t.0, t.1, no_end e t.2.0, t.2.0, lt-ltb _ _ t.2.1) refl
classed s e (Err error.TooDeep) new t n = rw (t.0, t.1, no_end e t.2.0, t.2.0, le-ltb _ _ t.2.1, lt-ltb _ _ t.2.2) refl
classed s e (Err error.TooManyBytes) new t n = rw (t.0, t.1, no_end e t.2.0, t.2.0, le-ltb _ _ t.2.1, le-ltb _ _ t.2.2, lt-ltb _ _ t.2.3) refl
classed s e (Ok None) new t n = taken_class s e new t
classed s e (Err error.NoMemory) new t n = absurd (n refl)

abbrev Same : BuilderState → Answer → Answer → BuilderState → BuilderState → Type 0
Same s a b na nb = AreSame a b × (na ≡ nb)

same_state : (s : BuilderState) (e : Event) (w : BuildError) (na nb : BuilderState) → TakesEvent s e (Err w) na → TakesEvent s e (Err w) nb → na ≡ nb
same_state s e error.Misplaced na nb t u = t.1 ∙ sym u.1
same_state s e error.Unbuilt na nb t u = t.2 ∙ sym u.2
same_state s e error.NoFrame na nb t u = t.2.2 ∙ sym u.2.2
same_state s e error.TooManyFields na nb t u = t.2.2 ∙ sym u.2.2
same_state s e error.TooDeep na nb t u = t.2.3 ∙ sym u.2.3
same_state s e error.TooManyBytes na nb t u = t.2.4 ∙ sym u.2.4
same_state s e error.NoMemory na nb t u = t.2.1 ∙ sym u.2.1

-- a frame is given where none has the events
never_both : (s : BuilderState) (e : Event) (b : BuiltFrame) (w : BuildError) (na nb : BuilderState) → TakesEvent s e (Ok (Some b)) na → TakesEvent s e (Err w) nb → class_err w ≡ 2 → ⊥
unfolding of_class
never_both s e b w na nb t u d =
    let is : w ≡ error.NoFrame = sym (class_back w) ∙ ap of_class d in
    let v : TakesEvent s e (Err error.NoFrame) nb = subst (λ (k : BuildError). TakesEvent s e (Err k) nb) is u in
    v.2.1 (frame_of b.frame) b.extra t.2.1.can t.2.1.are

same_of : (s : BuilderState) (e : Event) (a b : Answer) (na nb : BuilderState) → TakesEvent s e a na → TakesEvent s e b nb → class a ≡ class b → Same s a b na nb
unfolding class
same_of s e (Ok None) (Ok None) na nb t u d = (tt, t.2.1 ∙ sym u.2.1)
same_of s e (Ok (Some b)) (Ok (Some c)) na nb t u d = (u.2.1.only (frame_of b.frame) b.extra t.2.1.can t.2.1.are, t.2.2 ∙ sym u.2.2)
same_of s e (Ok None) (Ok (Some c)) na nb t u d = absurd (omega (arith, d))
same_of s e (Ok (Some b)) (Ok None) na nb t u d = absurd (omega (arith, d))
same_of s e (Ok None) (Err w) na nb t u d = absurd (never_5 w (sym d))
same_of s e (Err w) (Ok None) na nb t u d = absurd (never_5 w d)
same_of s e (Ok (Some b)) (Err w) na nb t u d = absurd (never_both s e b w na nb t u (sym d))
same_of s e (Err w) (Ok (Some b)) na nb t u d = absurd (never_both s e b w nb na u t d)
same_of s e (Err w) (Err v) na nb t u d =
    let is : w ≡ v = sym (class_back w) ∙ ap of_class d ∙ class_back v in
    (is, same_state s e v na nb (subst (λ (k : BuildError). TakesEvent s e (Err k) na) is t) u)

wants : (r : Answer) → WantsMemory r ⊎ (WantsMemory r → ⊥)
wants (Err error.NoMemory) = inl refl
wants (Err error.Misplaced) = inr (λ e. absurd cc)
wants (Err error.Unbuilt) = inr (λ e. absurd cc)
wants (Err error.NoFrame) = inr (λ e. absurd cc)
wants (Err error.TooManyFields) = inr (λ e. absurd cc)
wants (Err error.TooDeep) = inr (λ e. absurd cc)
wants (Err error.TooManyBytes) = inr (λ e. absurd cc)
wants (Ok o) = inr (λ e. absurd cc)

pub one_answer : OneAnswer
one_answer s e a b na nb t u =
    elim (wants a) [
      | inl w ↦ inr (inl w)
      | inr n ↦ elim (wants b) [
        | inl w ↦ inr (inr w)
        | inr m ↦ inl (same_of s e a b na nb t u (sym (classed s e a na t n) ∙ classed s e b nb u m))
      ]
    ]
