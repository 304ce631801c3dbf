-- A reader of headers takes few steps.
use Rattle.std.proofs.Common.{inl, inr, ◌≡◌, ℕ, zero, suc, ◌+◌, ◌-◌, ◌*◌, ◌<◌, ◌≤◌, Bool, true, false, cond, List, [], ◌∷◌, ◌++◌, length, take, drop, refl, sym, subst, arith, length-append, Option, Some, None}
use Rattle.std.specs.Prelude.{min, nat_lt, ◌==◌}
use Rattle.std.proofs.Math.Dec.{eqb-suc-zero}
use Rattle.std.proofs.lemmas.Bool.{cases_Bool, ltb-true}
use Rattle.std.proofs.lemmas.List.{length-drop, length-take}
use Rattle.cqlp_note.specs.declared.header.Header.{Header}
use Rattle.cqlp_observer.specs.declared.heads.Heads.{Heads}
use Rattle.cqlp_observer.specs.declared.heads.Heard.{Heard}
use Rattle.cqlp_observer.specs.declared.heads.Heard.TheVariants as heard_as
use Rattle.cqlp_observer.specs.declared.heads.Stage.{Stage}
use Rattle.cqlp_observer.specs.declared.heads.Stage.TheVariants as stage
use Rattle.cqlp_observer.specs.Heads.{head_within}
use Rattle.cqlp_observer.specs.Directions.{Closes, Steps, after_gap, anew, begun_if, filled, heard, heard_in, heard_some, hears, is_over, sought, sought_as}
use Rattle.cqlp_observer.specs.Steps.{IsShort, StepsOn, TakesFewSteps, is_more, steps_of}
use Rattle.cqlp_observer.proofs.Came.{within_nine}

-- a step that uses some byte
record Uses (b : List ℕ) (x : Steps) : Type 0 where
  short : IsShort x.after.stage
  fewer : is_more x.step.heard ≡ false → steps_of (drop x.step.used b) x.after < 2 * length b

one_at_most : (c : Bool) → cond c 1 0 ≤ 1
one_at_most true = omega arith
one_at_most false = omega arith

uses_hears : (b : List ℕ) (s : Heads) (used : ℕ) (what : Heard) (g : Stage) → 1 ≤ used → used ≤ length b → IsShort g → Uses b (hears used what g s)
uses_hears b s used what g some le short = record {
  short = short;
  fewer = λ e. omega (arith, some, le, length-drop used b, one_at_most (is_over g));
}

uses_headed : (b : List ℕ) (s : Heads) (o : Option Header) (used at : ℕ) (first last : Option ℕ) → 1 ≤ used → used ≤ length b → Uses b (begun_if o used at first last s)
uses_headed b s None used at first last some le = uses_hears b s used heard_as.Stray stage.Lost some le tt
uses_headed b s (Some h) used at first last some le = uses_hears b s used (heard_as.Begins h) _ some le tt

uses_filled : (front : List ℕ) (at : ℕ) (first last : Option ℕ) (b : List ℕ) (s : Heads) → length front < 9 → 1 ≤ length b → Uses b (filled front at first last b s)
uses_filled front at first last b s few long =
    let more = front ++ take (9 - length front) b in
    let used = length more - length front in
    let size : length more ≡ length front + length (take (9 - length front) b) = length-append front (take (9 - length front) b) in
    let cut : length (take (9 - length front) b) ≡ min (9 - length front) (length b) = length-take (9 - length front) b in
    let some : 1 ≤ used = omega (arith, size, cut, few, long) in
    let le : used ≤ length b = omega (arith, size, cut) in
    elim (cases_Bool (nat_lt (length more) 9)) [
      | inl short ↦ rw short (record { short = ltb-true (length more) 9 short; fewer = λ e. absurd (cc e) })
      | inr enough ↦
          let P : Bool → Type 0 = λ c. Uses b (cond c (hears used heard_as.More (stage.Header more at first) s) (begun_if (head_within s.responses more) used at first last s)) in
          subst P (sym enough) (uses_headed b s (head_within s.responses more) used at first last some le)
    ]

uses_sought : (time : Option ℕ) (b : List ℕ) (s : Heads) (o : Option Header) → 1 ≤ length b → ((h : Header) → o ≡ Some h → head_within s.responses (take 9 b) ≡ Some h) → Uses b (sought_as o time b s)
uses_sought time b s None long is = uses_hears b s (length b) heard_as.Stray stage.Lost long (omega arith) tt
uses_sought time b s (Some h) long is =
    let few : length (take 9 b) ≤ 9 = omega (arith, length-take 9 b) in
    let nine = within_nine s.responses (take 9 b) h few (is h refl) in
    uses_hears b s 9 (heard_as.Begins h) _ (omega arith) (omega (arith, length-take 9 b, nine.0)) tt

uses_begins : (time : Option ℕ) (begins : Bool) (b : List ℕ) (s : Heads) → 1 ≤ length b → Uses b (sought time begins b s)
uses_begins time true b s long = uses_sought time b s (head_within s.responses (take 9 b)) long (λ h e. e)
uses_begins time false b s long = uses_sought time b s None long (λ h e. absurd (cc e))

uses_in : (time : Option ℕ) (begins : Bool) (b : List ℕ) (responses : Bool) (position : ℕ) (g : Stage) → IsShort g → is_over g ≡ false → 1 ≤ length b → (let s : Heads = record { responses = responses; position = position; stage = g } in Uses b (heard_in g time begins b s))
uses_in time begins b responses position stage.Lost k over long = uses_begins time begins b _ long
uses_in time begins b responses position stage.Between k over long = uses_filled [] position time time b _ (omega arith) long
uses_in time begins b responses position (stage.Header front at first) k over long = uses_filled front at first time b _ k long
uses_in time begins b responses position (stage.Body f zero) k over long = absurd (cc over)
uses_in time begins b responses position (stage.Body f (suc left)) k over long =
    let s : Heads = record { responses = responses; position = position; stage = stage.Body f (suc left) } in
    uses_hears b s (min (length b) (suc left)) heard_as.Body _ (omega (arith, long)) (omega arith) tt

uses_some : (time : Option ℕ) (begins : Bool) (b : List ℕ) (responses : Bool) (position : ℕ) (g : Stage) → IsShort g → is_over g ≡ false → (let s : Heads = record { responses = responses; position = position; stage = g } in Uses b (heard_some time begins b s))
uses_some time begins [] responses position g k over = record { short = k; fewer = λ e. absurd (cc e) }
uses_some time begins (x ∷ b) responses position g k over = rw (eqb-suc-zero (length b)) (uses_in time begins (x ∷ b) responses position g k over (omega arith))

abbrev On : List ℕ → Heads → Steps → Type 0
On b s x = StepsOn b s x.after x.step

on_of : (b : List ℕ) (s : Heads) (x : Steps) → Uses b x → On b s x
on_of b s x u = record { short = u.short; fewer = λ e. let least = u.fewer e in omega (arith, least) }

on_heard : (time : Option ℕ) (begins : Bool) (b : List ℕ) (responses : Bool) (position : ℕ) (g : Stage) → IsShort g → (let s : Heads = record { responses = responses; position = position; stage = g } in On b s (heard time begins b s))
on_heard time begins b responses position stage.Lost k = on_of b _ _ (uses_some time begins b responses position stage.Lost k refl)
on_heard time begins b responses position stage.Between k = on_of b _ _ (uses_some time begins b responses position stage.Between k refl)
on_heard time begins b responses position (stage.Header front at first) k = on_of b _ _ (uses_some time begins b responses position (stage.Header front at first) k refl)
on_heard time begins b responses position (stage.Body f zero) k = record { short = tt; fewer = λ e. omega arith }
on_heard time begins b responses position (stage.Body f (suc left)) k =
    let s : Heads = record { responses = responses; position = position; stage = stage.Body f (suc left) } in
    let u : Uses b (heard time begins b s) = rw (eqb-suc-zero left) (uses_some time begins b responses position (stage.Body f (suc left)) k (eqb-suc-zero left)) in
    on_of b s (heard time begins b s) u

-- ---- a gap, and the end

gone : (c : Bool) (x y : Heads) → IsShort x.stage → IsShort y.stage → IsShort (cond {A = Heads} c x y).stage
gone true x y a b = a
gone false x y a b = b

after_gap_short : (n : ℕ) (time : Option ℕ) (responses : Bool) (position : ℕ) (g : Stage) → IsShort g → (let s : Heads = record { responses = responses; position = position; stage = g } in IsShort (after_gap n time s).after.stage)
after_gap_short n time responses position stage.Lost k = gone (nat_lt 0 n) _ _ tt k
after_gap_short n time responses position stage.Between k = gone (nat_lt 0 n) _ _ tt k
after_gap_short n time responses position (stage.Header front at first) k = gone (nat_lt 0 n) _ _ tt k
after_gap_short n time responses position (stage.Body f left) k = elim (cases_Bool (nat_lt n left)) [
  | inl within ↦ rw within tt
  | inr past ↦ elim (cases_Bool (n == left)) [
    | inl at_end ↦ rw (past, at_end) tt
    | inr over ↦ rw (past, over) tt
  ]
]

new_short : (responses from_start : Bool) → IsShort (anew responses from_start).stage
new_short responses true = tt
new_short responses false = tt

pub takes_few : TakesFewSteps
takes_few = (
  new_short,
  λ time begins b old new step e k. subst (λ (x : Steps). On b old x) (sym e) (on_heard time begins b old.responses old.position old.stage k),
  λ n time old new reported e k. subst (λ (x : Closes). IsShort x.after.stage) (sym e) (after_gap_short n time old.responses old.position old.stage k),
  λ old new reported e. subst (λ (x : Closes). IsShort x.after.stage) (sym e) tt,
)
