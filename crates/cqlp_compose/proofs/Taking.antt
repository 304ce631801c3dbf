-- What keeps an event from being the next.
use Rattle.std.proofs.Common.{◌≡◌, ℕ, ◌<◌, ◌≤◌, Bool, true, false, nat_lt, length, refl, sym, ap, ◌∙◌, arith, Option, Some, None, Ok, Err}
use Rattle.std.specs.Prelude.{not, ◌||◌, if◌then◌else◌}
use Rattle.cqlp_grammar.specs.Events.{Event, Frame, Holds, Node_of, Cell_at, Leave, End}
use Rattle.cqlp_build.specs.declared.builder.BuiltFrame.{BuiltFrame}
use Rattle.cqlp_build.specs.declared.error.BuildError.{BuildError}
use Rattle.cqlp_build.specs.declared.error.BuildError.TheVariants as error
use Rattle.cqlp_build.specs.Building.{BuilderState, IsWithin, TakesEvent, content_size, is_due, is_end, is_field, is_unbuilt}
use Rattle.cqlp_build.specs.Nesting.{depth_at}
use Rattle.cqlp_compose.specs.Composing.{ComposerState, Takes, bound_of, limit_of, refusal_of}

abbrev with_end : BuilderState → Bool → ComposerState
with_end s b = record { frame = s; ended = b }

first : (b d u : Bool) (m n x : Option BuildError) → d ≡ false → (if b || not d then m else if u then n else x) ≡ m
first true d u m n x p = refl
first false false u m n x p = refl
first false true u m n x p = absurd cc

second : (b d u : Bool) (m n x : Option BuildError) → b ≡ false → d ≡ true → u ≡ true → (if b || not d then m else if u then n else x) ≡ n
second false true true m n x p q r = refl
second true d u m n x p q r = absurd cc
second false false u m n x p q r = absurd cc
second false true false m n x p q r = absurd cc

third : (b d u : Bool) (m n x : Option BuildError) → b ≡ false → d ≡ true → u ≡ false → (if b || not d then m else if u then n else x) ≡ x
third false true false m n x p q r = refl
third true d u m n x p q r = absurd cc
third false false u m n x p q r = absurd cc
third false true true m n x p q r = absurd cc

lt_true : (m n : ℕ) → m < n → nat_lt m n ≡ true
lt_true m n lt = grind (arith, lt)

lt_false : (m n : ℕ) → n ≤ m → nat_lt m n ≡ false
lt_false m n le = grind (arith, le)

-- of three tests, the first that holds
module _ (x y z w : Option BuildError) where
  no_limit : (f d r : Bool) → f ≡ false → d ≡ false → r ≡ false → (if f then x else if d then y else if r then z else w) ≡ w
  no_limit false false false p q s = refl
  no_limit true d r p q s = absurd cc
  no_limit false true r p q s = absurd cc
  no_limit false false true p q s = absurd cc

  first_limit : (f d r : Bool) → f ≡ true → (if f then x else if d then y else if r then z else w) ≡ x
  first_limit true d r p = refl
  first_limit false d r p = absurd cc

  second_limit : (f d r : Bool) → f ≡ false → d ≡ true → (if f then x else if d then y else if r then z else w) ≡ y
  second_limit false true r p q = refl
  second_limit true d r p q = absurd cc
  second_limit false false r p q = absurd cc

  third_limit : (f d r : Bool) → f ≡ false → d ≡ false → r ≡ true → (if f then x else if d then y else if r then z else w) ≡ z
  third_limit false false true p q s = refl
  third_limit true d r p q s = absurd cc
  third_limit false true r p q s = absurd cc
  third_limit false false false p q s = absurd cc

module _ (s : BuilderState) (b : Bool) (on : b ≡ false) (new : BuilderState) where
  in_bounds : (e : Event) → is_due s.events e ≡ true → is_unbuilt e ≡ false → refusal_of (with_end s b) e ≡ bound_of s e
  in_bounds e d u = third b (is_due s.events e) (is_unbuilt e) (Some error.Misplaced) (Some error.Unbuilt) (bound_of s e) on d u

  same : new ≡ s → with_end new b ≡ with_end s b
  same e = ap (λ (k : BuilderState). with_end k b) e

  bound_field : (e : Event) → is_field e ≡ true → bound_of s e ≡ limit_of s e
  bound_field e k = ap (λ (d : Bool). if d then limit_of s e else None) k

  within : (e : Event) → IsWithin s e → limit_of s e ≡ None
  within e w =
      no_limit _ _ _ _ (nat_lt s.limits.fields (length s.events)) (nat_lt s.limits.depth (depth_at e s.around)) (nat_lt s.room (content_size e))
      (lt_false s.limits.fields (length s.events) w.0) (lt_false s.limits.depth (depth_at e s.around) w.1) (lt_false s.room (content_size e) w.2)

  pub takes_ok : (e : Event) (x : Option BuiltFrame) → is_end e ≡ false → TakesEvent s e (Ok x) new → Takes (with_end s b) e (Ok tt) (with_end new b)
  takes_ok (Frame h) None k t = (in_bounds (Frame h) t.0 t.1, ap (λ (k : BuilderState). with_end k b) t.2.1)
  takes_ok (Holds f v) None k t = (in_bounds (Holds f v) t.0 t.1 ∙ within (Holds f v) t.2.0, ap (λ (k : BuilderState). with_end k b) t.2.1)
  takes_ok (Node_of o) None k t = (in_bounds (Node_of o) t.0 t.1 ∙ within (Node_of o) t.2.0, ap (λ (k : BuilderState). with_end k b) t.2.1)
  takes_ok (Cell_at row column c) None k t =
      (in_bounds (Cell_at row column c) t.0 t.1 ∙ within (Cell_at row column c) t.2.0, ap (λ (k : BuilderState). with_end k b) t.2.1)
  takes_ok (Leave level items) None k t = (in_bounds (Leave level items) t.0 t.1 ∙ within (Leave level items) t.2.0, ap (λ (k : BuilderState). with_end k b) t.2.1)
  takes_ok (End x) None k t = absurd cc
  takes_ok e (Some f) k t = let d : true ≡ false = sym t.2.0 ∙ k in absurd cc

  too_many_fields : (e : Event) → TakesEvent s e (Err error.TooManyFields) new → Takes (with_end s b) e (Err error.TooManyFields) (with_end new b)
  too_many_fields e t = (
    in_bounds e t.0 t.1 ∙ bound_field e t.2.0
        ∙ first_limit _ _ _ _ (nat_lt s.limits.fields (length s.events)) (nat_lt s.limits.depth (depth_at e s.around)) (nat_lt s.room (content_size e))
        (lt_true s.limits.fields (length s.events) t.2.1),
    same t.2.2,
  )

  too_deep : (e : Event) → TakesEvent s e (Err error.TooDeep) new → Takes (with_end s b) e (Err error.TooDeep) (with_end new b)
  too_deep e t = (
    in_bounds e t.0 t.1 ∙ bound_field e t.2.0
        ∙ second_limit _ _ _ _ (nat_lt s.limits.fields (length s.events)) (nat_lt s.limits.depth (depth_at e s.around)) (nat_lt s.room (content_size e))
        (lt_false s.limits.fields (length s.events) t.2.1) (lt_true s.limits.depth (depth_at e s.around) t.2.2),
    same t.2.3,
  )

  too_many_bytes : (e : Event) → TakesEvent s e (Err error.TooManyBytes) new → Takes (with_end s b) e (Err error.TooManyBytes) (with_end new b)
  too_many_bytes e t = (
    in_bounds e t.0 t.1 ∙ bound_field e t.2.0
        ∙ third_limit _ _ _ _ (nat_lt s.limits.fields (length s.events)) (nat_lt s.limits.depth (depth_at e s.around)) (nat_lt s.room (content_size e))
        (lt_false s.limits.fields (length s.events) t.2.1) (lt_false s.limits.depth (depth_at e s.around) t.2.2)
        (lt_true s.room (content_size e) t.2.3),
    same t.2.4,
  )

  no_memory : (e : Event) → is_end e ≡ false → TakesEvent s e (Err error.NoMemory) new → Takes (with_end s b) e (Err error.NoMemory) (with_end new b)
  no_memory (Holds f v) k t = (in_bounds (Holds f v) t.0 t.1 ∙ within (Holds f v) t.2.0, same t.2.1)
  no_memory (Node_of o) k t = (in_bounds (Node_of o) t.0 t.1 ∙ within (Node_of o) t.2.0, same t.2.1)
  no_memory (Frame h) k t = absurd t.2.0
  no_memory (Cell_at row column c) k t = (in_bounds (Cell_at row column c) t.0 t.1 ∙ within (Cell_at row column c) t.2.0, same t.2.1)
  no_memory (Leave level items) k t = (in_bounds (Leave level items) t.0 t.1 ∙ within (Leave level items) t.2.0, same t.2.1)
  no_memory (End x) k t = absurd cc

  pub takes_err : (e : Event) (why : BuildError) → is_end e ≡ false → TakesEvent s e (Err why) new → Takes (with_end s b) e (Err why) (with_end new b)
  takes_err e error.Misplaced k t =
      (first b (is_due s.events e) (is_unbuilt e) (Some error.Misplaced) (Some error.Unbuilt) (bound_of s e) t.0, same t.1)
  takes_err e error.Unbuilt k t =
      (second b (is_due s.events e) (is_unbuilt e) (Some error.Misplaced) (Some error.Unbuilt) (bound_of s e) on t.0 t.1, same t.2)
  takes_err e error.TooManyFields k t = too_many_fields e t
  takes_err e error.TooDeep k t = too_deep e t
  takes_err e error.TooManyBytes k t = too_many_bytes e t
  takes_err e error.NoFrame k t = let d : true ≡ false = sym t.2.0 ∙ k in absurd cc
  takes_err e error.NoMemory k t = no_memory e k t
