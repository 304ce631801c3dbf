-- An event has one answer, and so has the end of a cell.
use Rattle.std.proofs.Common.{◌≡◌, ℕ, ◌⊎◌, List, length, Option, true, false, Result, Ok, Err, refl, sym, ap, ◌∙◌, subst, arith, lt-ltb, le-ltb, inl, inr}
use Rattle.std.specs.Prelude.{◌==◌, if◌then◌else◌, nat_lt}
use Rattle.cqlp_kind.specs.CellStep.{CellEvent}
use Rattle.cqlp_type.specs.declared.tree.TypeTree.{TypeTree}
use Rattle.cqlp_grammar.specs.Events.{Event}
use Rattle.cqlp_value.specs.declared.value.Value.{Value}
use Rattle.cqlp_value.specs.Owned.{value_of}
use Rattle.cqlp_build_cells.specs.declared.error.CellError.{CellError}
use Rattle.cqlp_build_cells.specs.declared.error.CellError.TheVariants as error
use Rattle.cqlp_build_cells.specs.Building.{CellState, Finishes, TakesEvent, content_size, is_formed, is_of, is_part, with_event}
use Rattle.cqlp_build_cells.specs.Laws.{Answer, AreSame, OneAnswer, OneAnswerOfFinish, ValueIsBuilt}

-- the first test that an event does not pass, each with its number
class_err : CellError → ℕ
class_err error.Misplaced = 0
class_err error.InParts = 1
class_err error.TooManyEvents = 2
class_err error.TooManyBytes = 3
class_err error.NoMemory = 6
class_err error.Unformed = 7
class_err error.NoValue = 8

class : Answer → ℕ
class (Ok u) = 4
class (Err w) = class_err w

of_class : ℕ → CellError
of_class n =
    if n == 0 then error.Misplaced
    else (if n == 1 then error.InParts
    else (if n == 2 then error.TooManyEvents
    else (if n == 3 then error.TooManyBytes
    else (if n == 7 then error.Unformed
    else (if n == 8 then error.NoValue else error.NoMemory)))))

class_back : (w : CellError) → of_class (class_err w) ≡ w
unfolding class_err of_class
class_back error.Misplaced = refl
class_back error.InParts = refl
class_back error.TooManyEvents = refl
class_back error.TooManyBytes = refl
class_back error.NoMemory = refl
class_back error.Unformed = refl
class_back error.NoValue = refl

never_4 : (w : CellError) → class_err w ≡ 4 → ⊥
unfolding class_err
never_4 error.Misplaced d = absurd (omega (arith, d))
never_4 error.InParts d = absurd (omega (arith, d))
never_4 error.TooManyEvents d = absurd (omega (arith, d))
never_4 error.TooManyBytes d = absurd (omega (arith, d))
never_4 error.NoMemory d = absurd (omega (arith, d))
never_4 error.Unformed d = absurd (omega (arith, d))
never_4 error.NoValue d = absurd (omega (arith, d))

test_of : CellState → Event → ℕ
test_of s e =
    if is_of s.place e
    then (if is_part e then 1
    else (if nat_lt (length s.events) s.limits.events
    then (if nat_lt s.room (content_size e) then 3 else 4) else 2))
    else 0

classed : (s : CellState) (e : Event) (r : Answer) (new : CellState) → TakesEvent s e r new → (r ≡ Err error.NoMemory → ⊥) → test_of s e ≡ class r
unfolding test_of class class_err
classed s e (Ok u) new t n = rw (t.0, t.1, lt-ltb _ _ t.2.0, le-ltb _ _ t.2.1) refl
classed s e (Err error.Misplaced) new t n = rw t.0 refl
classed s e (Err error.InParts) new t n = rw (t.0, t.1) refl
classed s e (Err error.TooManyEvents) new t n = rw (t.0, t.1, le-ltb _ _ t.2.0) refl
classed s e (Err error.TooManyBytes) new t n = rw (t.0, t.1, lt-ltb _ _ t.2.0, lt-ltb _ _ t.2.1) refl
classed s e (Err error.NoMemory) new t n = absurd (n refl)
classed s e (Err error.Unformed) new t n = absurd t.2
classed s e (Err error.NoValue) new t n = absurd t.2

same_state : (s : CellState) (e : Event) (w : CellError) (na nb : CellState) → TakesEvent s e (Err w) na → TakesEvent s e (Err w) nb → na ≡ nb
same_state s e error.Misplaced na nb t u = t.1 ∙ sym u.1
same_state s e error.InParts na nb t u = t.2 ∙ sym u.2
same_state s e error.TooManyEvents na nb t u = t.2.1 ∙ sym u.2.1
same_state s e error.TooManyBytes na nb t u = t.2.2 ∙ sym u.2.2
same_state s e error.NoMemory na nb t u = t.2.2 ∙ sym u.2.2
same_state s e error.Unformed na nb t u = absurd t.2
same_state s e error.NoValue na nb t u = absurd t.2

same_of : (s : CellState) (e : Event) (a b : Answer) (na nb : CellState) → TakesEvent s e a na → TakesEvent s e b nb → class a ≡ class b → (a ≡ b) × (na ≡ nb)
unfolding class
same_of s e (Ok u) (Ok w) na nb t v d =
    let is : t.2.2 ≡ v.2.2 = cc in
    (refl, t.2.4 ∙ ap (λ (x : CellEvent). with_event s e x) is ∙ sym v.2.4)
same_of s e (Ok u) (Err w) na nb t v d = absurd (never_4 w (sym d))
same_of s e (Err w) (Ok u) na nb t v d = absurd (never_4 w d)
same_of s e (Err w) (Err x) na nb t v d =
    let is : w ≡ x = sym (class_back w) ∙ ap of_class d ∙ class_back x in
    (ap Err is, same_state s e x na nb (subst (λ (k : CellError). TakesEvent s e (Err k) na) is t) v)

wants : (r : Answer) → (r ≡ Err error.NoMemory) ⊎ (r ≡ Err error.NoMemory → ⊥)
wants (Err error.NoMemory) = inl refl
wants (Err error.Misplaced) = inr (λ e. absurd cc)
wants (Err error.InParts) = inr (λ e. absurd cc)
wants (Err error.TooManyEvents) = inr (λ e. absurd cc)
wants (Err error.TooManyBytes) = inr (λ e. absurd cc)
wants (Err error.Unformed) = inr (λ e. absurd cc)
wants (Err error.NoValue) = inr (λ e. absurd cc)
wants (Ok o) = inr (λ e. absurd cc)

pub one_answer : OneAnswer
one_answer s e a b na nb t u =
    elim (wants a) [
      | inl w ↦ inr (inl w)
      | inr n ↦ elim (wants b) [
        | inl w ↦ inr (inr w)
        | inr m ↦ inl (same_of s e a b na nb t u (sym (classed s e a na t n) ∙ classed s e b nb u m))
      ]
    ]

-- ---- the end of a cell

unformed : (t : Option TypeTree) → is_formed t ≡ true → is_formed t ≡ false → ⊥
unformed t e f = let d : true ≡ false = sym e ∙ f in absurd cc

with_value : (es : List CellEvent) (t : Option TypeTree) (v : Value) (r : Result Value CellError) → Finishes es t (Ok v) → Finishes es t r → AreSame (Ok v) r
with_value es t v (Ok w) h g = g.1.only (value_of v) h.1.fits h.1.are
with_value es t v (Err error.NoMemory) h g = tt
with_value es t v (Err error.Unformed) h g = absurd (unformed t h.0 g)
with_value es t v (Err error.NoValue) h g = absurd (g.1 (value_of v) h.1.fits h.1.are)
with_value es t v (Err error.Misplaced) h g = absurd g
with_value es t v (Err error.InParts) h g = absurd g
with_value es t v (Err error.TooManyEvents) h g = absurd g
with_value es t v (Err error.TooManyBytes) h g = absurd g

same_back : (v : Value) (r : Result Value CellError) → AreSame (Ok v) r → AreSame r (Ok v)
same_back v (Ok w) s = sym s
same_back v (Err error.NoMemory) s = tt
same_back v (Err error.Unformed) s = absurd s
same_back v (Err error.NoValue) s = absurd s
same_back v (Err error.Misplaced) s = absurd s
same_back v (Err error.InParts) s = absurd s
same_back v (Err error.TooManyEvents) s = absurd s
same_back v (Err error.TooManyBytes) s = absurd s

pub one_answer_of_finish : OneAnswerOfFinish
one_answer_of_finish es t (Ok v) r h g = with_value es t v r h g
one_answer_of_finish es t (Err e) (Ok v) h g = same_back v (Err e) (with_value es t v (Err e) g h)
one_answer_of_finish es t (Err error.NoMemory) (Err d) h g = tt
one_answer_of_finish es t (Err error.Unformed) (Err error.NoMemory) h g = tt
one_answer_of_finish es t (Err error.NoValue) (Err error.NoMemory) h g = tt
one_answer_of_finish es t (Err error.Unformed) (Err error.Unformed) h g = refl
one_answer_of_finish es t (Err error.NoValue) (Err error.NoValue) h g = refl
one_answer_of_finish es t (Err error.Unformed) (Err error.NoValue) h g = absurd (unformed t g.0 h)
one_answer_of_finish es t (Err error.NoValue) (Err error.Unformed) h g = absurd (unformed t h.0 g)
one_answer_of_finish es t (Err error.Misplaced) r h g = absurd h
one_answer_of_finish es t (Err error.InParts) r h g = absurd h
one_answer_of_finish es t (Err error.TooManyEvents) r h g = absurd h
one_answer_of_finish es t (Err error.TooManyBytes) r h g = absurd h
one_answer_of_finish es t r (Err error.Misplaced) h g = absurd g
one_answer_of_finish es t r (Err error.InParts) h g = absurd g
one_answer_of_finish es t r (Err error.TooManyEvents) h g = absurd g
one_answer_of_finish es t r (Err error.TooManyBytes) h g = absurd g

pub value_is_built : ValueIsBuilt
value_is_built es t v (Ok w) formed fits are h = sym (h.1.only (value_of v) fits are)
value_is_built es t v (Err error.NoMemory) formed fits are h = tt
value_is_built es t v (Err error.Unformed) formed fits are h = absurd (unformed t formed h)
value_is_built es t v (Err error.NoValue) formed fits are h = absurd (h.1 (value_of v) fits are)
value_is_built es t v (Err error.Misplaced) formed fits are h = absurd h
value_is_built es t v (Err error.InParts) formed fits are h = absurd h
value_is_built es t v (Err error.TooManyEvents) formed fits are h = absurd h
value_is_built es t v (Err error.TooManyBytes) formed fits are h = absurd h
