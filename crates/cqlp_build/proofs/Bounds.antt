-- What is refused first of the events of frames.
use Rattle.std.proofs.Common.{◌≡◌, ℕ, ◌+◌, ◌++◌, ◌⊎◌, List, [], ◌∷◌, true, false, Bool, Err, refl, sym, ap, ◌∙◌, subst, append-nil, append_assoc, inl, inr}
use Rattle.std.specs.Prelude.{is_ok, not}
use Rattle.std.specs.List.{AllByRecursion, list_all}
use Rattle.std.proofs.lemmas.List.{map-append}
use Rattle.cqlp_note.specs.declared.header.Header.{Header}
use Rattle.cqlp_note.specs.Limits.{Rules}
use Rattle.cqlp_grammar.specs.Events.{Event, Frame, Holds, Node_of, Cell_at, Leave, End}
use Rattle.cqlp_message.specs.FrameValues.{FrameValue}
use Rattle.cqlp_message.specs.Frames.{Flat, FlatAll, frame_parts, frame_size, header_of}
use Rattle.cqlp_message.specs.Parts.{parts_size}
use Rattle.cqlp_build.specs.declared.builder.BuildLimits.{BuildLimits}
use Rattle.cqlp_build.specs.declared.error.BuildError.{BuildError}
use Rattle.cqlp_build.specs.declared.error.BuildError.TheVariants as error
use Rattle.cqlp_build.specs.Building.{BuilderState, CanBeBuilt, HaveNoParts, TakesEvent, empty, is_due, is_end, is_inner, is_unbuilt}
use Rattle.cqlp_build.specs.Laws.{Answer, AreTaken, NoneRefused, OnlyBoundsRefuse, is_of_bounds, without_offsets}
use Rattle.cqlp_build.proofs.FrameViews.{AreInner, body_inner, body_of, frame_said}
use Rattle.cqlp_build.proofs.Several.{both}
use Rattle.cqlp_build.proofs.Streams.{end_step, header_step, inner_step}
use Rattle.cqlp_build.proofs.Taking.{due}

no_answer : (s : BuilderState) (rs : List Answer) (e : BuildError) (new : BuilderState) → AreTaken s [] (rs ++ Err e ∷ []) new → ⊥
no_answer s [] e new a = a
no_answer s (r ∷ rs) e new a = a

inner_no_end : (e : Event) → is_inner e ≡ true → is_end e ≡ true → ⊥
inner_no_end (End x) i d = absurd cc
inner_no_end (Frame h) i d = absurd cc
inner_no_end (Holds f v) i d = absurd cc
inner_no_end (Node_of k) i d = absurd cc
inner_no_end (Cell_at r c v) i d = absurd cc
inner_no_end (Leave l n) i d = absurd cc

-- ---- one event

header_bounds : (s : BuilderState) (h : Header) (w : BuildError) (new : BuilderState) → s.events ≡ [] → TakesEvent s (Frame h) (Err w) new → is_of_bounds w ≡ true
header_bounds s h error.Misplaced new z t = let d : true ≡ false = ap (λ es. is_due es (Frame h)) (sym z) ∙ t.0 in absurd cc
header_bounds s h error.Unbuilt new z t = let u = t.1 in absurd cc
header_bounds s h error.NoFrame new z t = let e = t.2.0 in absurd cc
header_bounds s h error.TooManyFields new z t = refl
header_bounds s h error.TooDeep new z t = refl
header_bounds s h error.TooManyBytes new z t = refl
header_bounds s h error.NoMemory new z t = refl

not_so : (b : Bool) → not b ≡ true → b ≡ false
not_so false e = refl
not_so true e = absurd cc

first_whole : (e : Event) (es : List Event) → HaveNoParts (e ∷ es) → (is_unbuilt e ≡ false) × HaveNoParts es
first_whole e es n =
    let p = both (not (is_unbuilt e)) (list_all (λ d. not (is_unbuilt d)) es) n in
    (not_so (is_unbuilt e) p.0, p.1)

plain_bounds : (s : BuilderState) (e d : Event) (ds : List Event) (w : BuildError) (new : BuilderState) → s.events ≡ d ∷ ds → is_inner e ≡ true → is_unbuilt e ≡ false → TakesEvent s e (Err w) new → is_of_bounds w ≡ true
plain_bounds s e d ds error.Misplaced new z p b t = let f : true ≡ false = sym (due e d ds p) ∙ (ap (λ es. is_due es e) (sym z) ∙ t.0) in absurd cc
plain_bounds s e d ds error.Unbuilt new z p b t = let f : true ≡ false = sym t.1 ∙ b in absurd cc
plain_bounds s e d ds error.NoFrame new z p b t = absurd (inner_no_end e p t.2.0)
plain_bounds s e d ds error.TooManyFields new z p b t = refl
plain_bounds s e d ds error.TooDeep new z p b t = refl
plain_bounds s e d ds error.TooManyBytes new z p b t = refl
plain_bounds s e d ds error.NoMemory new z p b t = refl

-- ---- several

-- What is left, where no refusal came yet.
pub record Later (mid : BuilderState) (rest after : List Event) (w : BuildError) (new : BuilderState) : Type 0 where
  pub before : List Event
  pub rs : List Answer
  pub same : before ++ after ≡ rest
  pub run : AreTaken mid before (rs ++ Err w ∷ []) new
  pub sound : NoneRefused rs
  pub whole : HaveNoParts before

inner_bounds : (es : List Event) → AreInner es → (s : BuilderState) (d : Event) (ds rest before after : List Event) (rs : List Answer) (w : BuildError) (new : BuilderState)
    → s.events ≡ d ∷ ds → before ++ after ≡ es ++ rest → HaveNoParts before → AreTaken s before (rs ++ Err w ∷ []) new → NoneRefused rs
    → (is_of_bounds w ≡ true) ⊎ ((mid : BuilderState) × (mid.events ≡ s.events ++ es) × (mid.limits ≡ s.limits) × Later mid rest after w new)
inner_bounds [] p s d ds rest before after rs w new z b v a n = inr (s, sym (append-nil s.events), refl, record { before = before; rs = rs; same = b; run = a; sound = n; whole = v })
inner_bounds (e ∷ es) p s d ds rest [] after rs w new z b v a n = absurd (no_answer s rs w new a)
inner_bounds (e ∷ es) p s d ds rest (x ∷ before) after [] w new z b v a n =
    let same : x ≡ e = cc in
    inl (plain_bounds s x d ds w a.0 z (subst (λ (k : Event). is_inner k ≡ true) (sym same) p.0) (first_whole x before v).0 a.1)
inner_bounds (e ∷ es) p s d ds rest (x ∷ before) after (r ∷ rs) w new z b v a n =
    let same : x ≡ e = cc in
    let o = both (is_ok r) (list_all is_ok rs) n in
    let t = inner_step s x r a.0 (subst (λ (k : Event). is_inner k ≡ true) (sym same) p.0) a.1 o.0 in
    let events : a.0.events ≡ d ∷ (ds ++ e ∷ []) = ap (λ (m : BuilderState). m.events) t.1 ∙ (ap (λ k. k ++ x ∷ []) z ∙ ap (λ k. d ∷ (ds ++ k ∷ [])) same) in
    let limits : a.0.limits ≡ s.limits = ap (λ (m : BuilderState). m.limits) t.1 in
    let more : before ++ after ≡ es ++ rest = cc in
    elim (inner_bounds es p.1 a.0 d (ds ++ e ∷ []) rest before after rs w new events more (first_whole x before v).1 a.2 o.1) [
      | inl k ↦ inl k
      | inr k ↦ inr (
        k.0,
        k.1 ∙ (ap (λ m. m ++ es) events ∙ (append_assoc (d ∷ ds) (e ∷ []) es ∙ ap (λ m. m ++ e ∷ es) (sym z))),
        k.2 ∙ limits,
        k.3,
      )
    ]

module _ (l : Rules) (at : ℕ) (f : FrameValue) (x : ℕ) (c : CanBeBuilt f) where
  abbrev head : Header
  head = header_of f (parts_size (frame_parts f) + x)

  end_bounds : (s : BuilderState) (w : BuildError) (new : BuilderState) → s.events ≡ Frame head ∷ body_of l at f → TakesEvent s (End x) (Err w) new → is_of_bounds w ≡ true
  end_bounds s error.Misplaced new z t = let d : true ≡ false = ap (λ es. is_due es (End x)) (sym z) ∙ t.0 in absurd cc
  end_bounds s error.Unbuilt new z t = let u = t.1 in absurd cc
  end_bounds s error.NoFrame new z t = absurd (t.2.1 f x c (record { rules = l; at = at; are = frame_said l at f x ∙ ap (λ es. es ++ End x ∷ []) (sym z) }))
  end_bounds s error.TooManyFields new z t = refl
  end_bounds s error.TooDeep new z t = refl
  end_bounds s error.TooManyBytes new z t = refl
  end_bounds s error.NoMemory new z t = refl

  end_later : (s : BuilderState) (limits : BuildLimits) (rest before after : List Event) (rs : List Answer) (w : BuildError) (new : BuilderState)
      → s.events ≡ Frame head ∷ body_of l at f → s.limits ≡ limits → before ++ after ≡ End x ∷ rest → HaveNoParts before → AreTaken s before (rs ++ Err w ∷ []) new → NoneRefused rs
      → (is_of_bounds w ≡ true) ⊎ Later (empty limits) rest after w new
  end_later s limits rest [] after rs w new z m b v a n = absurd (no_answer s rs w new a)
  end_later s limits rest (e ∷ before) after [] w new z m b v a n =
      let same : e ≡ End x = cc in
      inl (end_bounds s w a.0 z (subst (λ (k : Event). TakesEvent s k (Err w) a.0) same a.1))
  end_later s limits rest (e ∷ before) after (r ∷ rs) w new z m b v a n =
      let same : e ≡ End x = cc in
      let o = both (is_ok r) (list_all is_ok rs) n in
      let t = end_step l at f x c s r a.0 z (subst (λ (k : Event). TakesEvent s k r a.0) same a.1) o.0 in
      inr (record { before = before; rs = rs; same = cc; run = subst (λ (k : BuilderState). AreTaken k before (rs ++ Err w ∷ []) new) (t.1 ∙ ap empty m) a.2; sound = o.1; whole = (first_whole e before v).1 })

  frame_bounds : (s : BuilderState) (rest before after : List Event) (rs : List Answer) (w : BuildError) (new : BuilderState)
      → s.events ≡ [] → before ++ after ≡ Frame head ∷ body_of l at f ++ End x ∷ rest → HaveNoParts before → AreTaken s before (rs ++ Err w ∷ []) new → NoneRefused rs
      → (is_of_bounds w ≡ true) ⊎ Later (empty s.limits) rest after w new
  frame_bounds s rest [] after rs w new z b v a n = absurd (no_answer s rs w new a)
  frame_bounds s rest (e ∷ before) after [] w new z b v a n =
      let same : e ≡ Frame head = cc in
      inl (header_bounds s head w a.0 z (subst (λ (k : Event). TakesEvent s k (Err w) a.0) same a.1))
  frame_bounds s rest (e ∷ before) after (r ∷ rs) w new z b v a n =
      let same : e ≡ Frame head = cc in
      let more : before ++ after ≡ body_of l at f ++ End x ∷ rest = cc in
      let o = both (is_ok r) (list_all is_ok rs) n in
      let t = header_step s head r a.0 (subst (λ (k : Event). TakesEvent s k r a.0) same a.1) o.0 in
      let events : a.0.events ≡ Frame head ∷ [] = ap (λ (m : BuilderState). m.events) t.1 ∙ ap (λ k. k ++ Frame head ∷ []) z in
      let limits : a.0.limits ≡ s.limits = ap (λ (m : BuilderState). m.limits) t.1 in
      elim (inner_bounds (body_of l at f) (body_inner l at f) a.0 (Frame head) [] (End x ∷ rest) before after rs w new events more (first_whole e before v).1 a.2 o.1) [
        | inl k ↦ inl k
        | inr k ↦ end_later k.0 s.limits rest k.3.before after k.3.rs w new (k.1 ∙ ap (λ m. m ++ body_of l at f) events) (k.2 ∙ limits) k.3.same k.3.whole k.3.run k.3.sound
      ]

empty_front : (before after : List Event) → before ++ after ≡ [] → before ≡ []
empty_front [] after e = refl
empty_front (b ∷ before) after e = absurd cc

all_bounds : (limits : BuildLimits) (l : Rules) (at : ℕ) (fs : List (FrameValue × ℕ)) (before after : List Event) (rs : List Answer) (e : BuildError) (new : BuilderState)
    → AllByRecursion (λ f. CanBeBuilt f.0) fs → before ++ after ≡ without_offsets (FlatAll l at fs)
    → HaveNoParts before → AreTaken (empty limits) before (rs ++ Err e ∷ []) new → NoneRefused rs
    → is_of_bounds e ≡ true
all_bounds limits l at [] before after rs e new p b v a n =
    absurd (no_answer (empty limits) rs e new (subst (λ (k : List Event). AreTaken (empty limits) k (rs ++ Err e ∷ []) new) (empty_front before after b) a))
all_bounds limits l at (f ∷ fs) before after rs e new p b v a n =
    let later = FlatAll l (at + frame_size f.0 f.1) fs in
    let all : before ++ after ≡ Frame (header_of f.0 (parts_size (frame_parts f.0) + f.1)) ∷ body_of l at f.0 ++ End f.1 ∷ without_offsets later =
    b ∙ (map-append (λ e. e.1) (Flat l at f.0 f.1) later ∙ (ap (λ es. es ++ without_offsets later) (frame_said l at f.0 f.1)
    ∙ append_assoc (Frame (header_of f.0 (parts_size (frame_parts f.0) + f.1)) ∷ body_of l at f.0) (End f.1 ∷ []) (without_offsets later))) in
    elim (frame_bounds l at f.0 f.1 p.0 (empty limits) (without_offsets later) before after rs e new refl all v a n) [
      | inl k ↦ k
      | inr k ↦ all_bounds limits l (at + frame_size f.0 f.1) fs k.before after k.rs e new p.1 k.same k.whole k.run k.sound
    ]

pub bounds_refuse : OnlyBoundsRefuse
bounds_refuse limits l at fs before after rs e new p b v a n = all_bounds limits l at fs before after rs e new p b v a n
