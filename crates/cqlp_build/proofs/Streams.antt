-- The events of frames, taken one after the other.
use Rattle.std.proofs.Common.{◌≡◌, ℕ, ◌+◌, ◌++◌, List, [], ◌∷◌, true, Some, None, Ok, Err, refl, sym, ap, ◌∙◌, subst, append-nil, append_assoc}
use Rattle.std.specs.Prelude.{is_ok}
use Rattle.std.specs.List.{AllByRecursion, list_all}
use Rattle.std.proofs.lemmas.List.{map-append}
use Rattle.cqlp_note.specs.declared.header.Header.{Header}
use Rattle.cqlp_note.specs.Limits.{Rules}
use Rattle.cqlp_grammar.specs.Events.{Event, Frame, Holds, Node_of, Cell_at, Leave, End}
use Rattle.cqlp_message.specs.FrameValues.{FrameValue}
use Rattle.cqlp_message.specs.Frames.{Flat, FlatAll, frame_parts, frame_size, header_of}
use Rattle.cqlp_message.specs.Parts.{parts_size}
use Rattle.cqlp_build.specs.declared.builder.BuildLimits.{BuildLimits}
use Rattle.cqlp_build.specs.Building.{BuilderState, CanBeBuilt, TakesEvent, empty, is_end, is_inner, with_event}
use Rattle.cqlp_build.specs.Laws.{Answer, AreFirstOf, AreTaken, IsCut, NoneRefused, StreamIsBuilt, frames_given, without_offsets}
use Rattle.cqlp_build.proofs.FrameViews.{body_inner, body_of, frame_said}
use Rattle.cqlp_build.proofs.Several.{both}

-- ---- one event

pub header_step : (s : BuilderState) (h : Header) (r : Answer) (mid : BuilderState) → TakesEvent s (Frame h) r mid → is_ok r ≡ true → (frames_given (r ∷ []) ≡ []) × (mid ≡ with_event s (Frame h))
header_step s h (Ok None) mid t o = (refl, t.2.1)
header_step s h (Ok (Some b)) mid t o = let e = t.2.0 in absurd cc
header_step s h (Err e) mid t o = absurd cc

pub inner_step : (s : BuilderState) (e : Event) (r : Answer) (mid : BuilderState) → is_inner e ≡ true → TakesEvent s e r mid → is_ok r ≡ true → (frames_given (r ∷ []) ≡ []) × (mid ≡ with_event s e)
inner_step s e (Ok None) mid i t o = (refl, t.2.1)
inner_step s e (Ok (Some b)) mid i t o = absurd (never e i t.2.0)
  where
    never : (e : Event) → is_inner e ≡ true → is_end e ≡ true → ⊥
    never (End x) i d = absurd cc
    never (Frame h) i d = absurd cc
    never (Holds f v) i d = absurd cc
    never (Node_of k) i d = absurd cc
    never (Cell_at r c v) i d = absurd cc
    never (Leave l n) i d = absurd cc
inner_step s e (Err w) mid i t o = absurd cc

-- what is left to be taken, when some events were
pub record Goes (s : BuilderState) (es rest : List Event) (rs : List Answer) (new : BuilderState) : Type 0 where
  pub mid : BuilderState
  pub later : List Answer
  pub run : AreTaken mid rest later new
  pub sound : NoneRefused later
  pub frames : frames_given rs ≡ frames_given later
  pub events : mid.events ≡ s.events ++ es
  pub limits : mid.limits ≡ s.limits

pub goes : (es : List Event) → AllByRecursion (λ e. is_inner e ≡ true) es → (s : BuilderState) (rest : List Event) (rs : List Answer) (new : BuilderState) → AreTaken s (es ++ rest) rs new → NoneRefused rs → Goes s es rest rs new
goes [] p s rest rs new a n = record { mid = s; later = rs; run = a; sound = n; frames = refl; events = sym (append-nil s.events); limits = refl }
goes (e ∷ es) p s rest [] new a n = absurd a
goes (e ∷ es) p s rest (r ∷ rs) new a n =
    let o = both (is_ok r) (list_all is_ok rs) n in
    let t = inner_step s e r a.0 p.0 a.1 o.0 in
    let g = goes es p.1 a.0 rest rs new a.2 o.1 in
    record {
      mid = g.mid;
      later = g.later;
      run = g.run;
      sound = g.sound;
      frames = frames_first r rs t.0 ∙ g.frames;
      events = g.events ∙ ap (λ (m : BuilderState). m.events ++ es) t.1 ∙ append_assoc s.events (e ∷ []) es;
      limits = g.limits ∙ ap (λ (m : BuilderState). m.limits) t.1;
    }
  where
    frames_first : (r : Answer) (rs : List Answer) → frames_given (r ∷ []) ≡ [] → frames_given (r ∷ rs) ≡ frames_given rs
    frames_first (Ok None) rs e = refl
    frames_first (Ok (Some b)) rs e = absurd cc
    frames_first (Err w) rs e = refl

-- ---- one frame

module _ (l : Rules) (at : ℕ) (f : FrameValue) (x : ℕ) (c : CanBeBuilt f) where
  abbrev pub head : Header
  head = header_of f (parts_size (frame_parts f) + x)

  all_said : without_offsets (Flat l at f x) ≡ Frame head ∷ body_of l at f ++ End x ∷ []
  all_said = frame_said l at f x

  pub end_step : (s : BuilderState) (r : Answer) (mid : BuilderState) → s.events ≡ Frame head ∷ body_of l at f → TakesEvent s (End x) r mid → is_ok r ≡ true → (frames_given (r ∷ []) ≡ (f, x) ∷ []) × (mid ≡ empty s.limits)
  end_step s (Ok None) mid e t o = absurd (t.2.0)
  end_step s (Ok (Some b)) mid e t o =
      let w = t.2.1.only f x c (record { rules = l; at = at; are = all_said ∙ ap (λ es. es ++ End x ∷ []) (sym e) }) in
      (λ i. (sym w.0 i, sym w.1 i) ∷ [], t.2.2)
  end_step s (Err w) mid e t o = absurd cc

  pub record Done (s : BuilderState) (rest : List Event) (rs : List Answer) (new : BuilderState) : Type 0 where
    pub later : List Answer
    pub run : AreTaken (empty s.limits) rest later new
    pub sound : NoneRefused later
    pub frames : frames_given rs ≡ (f, x) ∷ frames_given later

  inner_all : AllByRecursion (λ e. is_inner e ≡ true) (body_of l at f)
  inner_all = body_inner l at f

  frames_first : (r : Answer) (rs : List Answer) (xs : List (FrameValue × ℕ)) → frames_given (r ∷ []) ≡ xs → frames_given (r ∷ rs) ≡ xs ++ frames_given rs
  frames_first (Ok None) rs xs e = ap (λ ys. ys ++ frames_given rs) e
  frames_first (Ok (Some b)) rs xs e = ap (λ ys. ys ++ frames_given rs) e
  frames_first (Err w) rs xs e = ap (λ ys. ys ++ frames_given rs) e

  at_end : (s : BuilderState) (limits : BuildLimits) (rest : List Event) (rs : List Answer) (new : BuilderState) → s.events ≡ Frame head ∷ body_of l at f → s.limits ≡ limits
      → AreTaken s (End x ∷ rest) rs new → NoneRefused rs → (later : List Answer) × AreTaken (empty limits) rest later new × NoneRefused later × (frames_given rs ≡ (f, x) ∷ frames_given later)
  at_end s limits rest [] new e m a n = absurd a
  at_end s limits rest (r ∷ rs) new e m a n =
      let o = both (is_ok r) (list_all is_ok rs) n in
      let t = end_step s r a.0 e a.1 o.0 in
      (rs, subst (λ (b : BuilderState). AreTaken b rest rs new) (t.1 ∙ ap empty m) a.2, o.1, frames_first r rs ((f, x) ∷ []) t.0)

  with_head : (s : BuilderState) (rest : List Event) (rs : List Answer) (new : BuilderState) → s.events ≡ [] → AreTaken s (Frame head ∷ body_of l at f ++ End x ∷ rest) rs new → NoneRefused rs → Done s rest rs new
  with_head s rest [] new z a n = absurd a
  with_head s rest (r ∷ rs) new z a n =
      let o = both (is_ok r) (list_all is_ok rs) n in
      let t = header_step s head r a.0 a.1 o.0 in
      let g = goes (body_of l at f) inner_all a.0 (End x ∷ rest) rs new a.2 o.1 in
      let events : g.mid.events ≡ Frame head ∷ body_of l at f = g.events ∙ ap (λ (m : BuilderState). m.events ++ body_of l at f) t.1 ∙ ap (λ es. (es ++ Frame head ∷ []) ++ body_of l at f) z in
      let limits : g.mid.limits ≡ s.limits = g.limits ∙ ap (λ (m : BuilderState). m.limits) t.1 in
      let d = at_end g.mid s.limits rest g.later new events limits g.run g.sound in
      record { later = d.0; run = d.1; sound = d.2; frames = frames_first r rs [] t.0 ∙ (g.frames ∙ d.3) }

  pub frame_done : (s : BuilderState) (rest : List Event) (rs : List Answer) (new : BuilderState) → s.events ≡ [] → AreTaken s (without_offsets (Flat l at f x) ++ rest) rs new → NoneRefused rs → Done s rest rs new
  frame_done s rest rs new z a n =
      let all : without_offsets (Flat l at f x) ++ rest ≡ Frame head ∷ body_of l at f ++ End x ∷ rest = ap (λ es. es ++ rest) all_said ∙ append_assoc (Frame head ∷ body_of l at f) (End x ∷ []) rest in
      with_head s rest rs new z (subst (λ (es : List Event). AreTaken s es rs new) all a) n

  -- ---- a frame that is cut

  front_inner : (es ps rest : List Event) (z next : Event) → AllByRecursion (λ e. is_inner e ≡ true) ps → es ++ next ∷ rest ≡ ps ++ z ∷ [] → AllByRecursion (λ e. is_inner e ≡ true) es
  front_inner [] ps rest z next p e = tt
  front_inner (a ∷ es) [] rest z next p e = let d : es ++ next ∷ rest ≡ [] = cc in absurd (never es d)
    where
      never : (es : List Event) → es ++ next ∷ rest ≡ [] → ⊥
      never [] d = absurd cc
      never (b ∷ es) d = absurd cc
  front_inner (a ∷ es) (b ∷ ps) rest z next p e =
      let d : b ≡ a = cc in
      (subst (λ (k : Event). is_inner k ≡ true) d p.0, front_inner es ps rest z next p.1 cc)

  pub cut_taken : (s : BuilderState) (e : Event) (es : List Event) (rs : List Answer) (new : BuilderState) → s.events ≡ [] → AreFirstOf (e ∷ es) f x → AreTaken s (e ∷ es) rs new → NoneRefused rs → (frames_given rs ≡ []) × (new.events ≡ e ∷ es)
  cut_taken s e es [] new z w a n = absurd a
  cut_taken s e es (r ∷ rs) new z w a n =
      let o = both (is_ok r) (list_all is_ok rs) n in
      let said : without_offsets (Flat w.rules w.at f x) ≡ Frame head ∷ body_of w.rules w.at f ++ End x ∷ [] = frame_said w.rules w.at f x in
      let all : e ∷ (es ++ w.next ∷ w.rest) ≡ Frame head ∷ (body_of w.rules w.at f ++ End x ∷ []) = w.are ∙ said in
      let first : e ≡ Frame head = cc in
      let later : es ++ w.next ∷ w.rest ≡ body_of w.rules w.at f ++ End x ∷ [] = cc in
      let step : TakesEvent s (Frame head) r a.0 = subst (λ (k : Event). TakesEvent s k r a.0) first a.1 in
      let t = header_step s head r a.0 step o.0 in
      let g = goes es (front_inner es (body_of w.rules w.at f) w.rest (End x) w.next (body_inner w.rules w.at f) later) a.0 [] rs new (subst (λ (k : List Event). AreTaken a.0 k rs new) (sym (append-nil es)) a.2) o.1 in
      let end = nothing_more g.mid g.later new g.run in (
        frames_first r rs [] t.0 ∙ (g.frames ∙ end.0),
        ap (λ (m : BuilderState). m.events) end.1 ∙ (g.events ∙ (ap (λ (m : BuilderState). m.events ++ es) t.1 ∙ (ap (λ k. (k ++ Frame head ∷ []) ++ es) z ∙ ap (λ k. k ∷ es) (sym first)))),
      )
    where
      nothing_more : (m : BuilderState) (rs : List Answer) (new : BuilderState) → AreTaken m [] rs new → (frames_given rs ≡ []) × (new ≡ m)
      nothing_more m [] new a = (refl, a)
      nothing_more m (r ∷ rs) new a = absurd a

-- ---- a stream

cut_end : (s : BuilderState) (cut : List Event) (rs : List Answer) (new : BuilderState) → s.events ≡ [] → IsCut cut → AreTaken s cut rs new → NoneRefused rs → (frames_given rs ≡ []) × (new.events ≡ cut)
cut_end s [] [] new z c a n = (refl, ap (λ (m : BuilderState). m.events) a ∙ z)
cut_end s [] (r ∷ rs) new z c a n = absurd a
cut_end s (e ∷ es) rs new z c a n = cut_taken c.3.rules c.3.at c.0 c.1 c.2 s e es rs new z c.3 a n

all_built : (limits : BuildLimits) (l : Rules) (at : ℕ) (fs : List (FrameValue × ℕ)) (cut : List Event) (rs : List Answer) (new : BuilderState)
    → AllByRecursion (λ f. CanBeBuilt f.0) fs → IsCut cut
    → AreTaken (empty limits) (without_offsets (FlatAll l at fs) ++ cut) rs new → NoneRefused rs
    → (frames_given rs ≡ fs) × (new.events ≡ cut)
all_built limits l at [] cut rs new p c a n = cut_end (empty limits) cut rs new refl c a n
all_built limits l at (f ∷ fs) cut rs new p c a n =
    let later = FlatAll l (at + frame_size f.0 f.1) fs in
    let all : without_offsets (Flat l at f.0 f.1 ++ later) ++ cut ≡ without_offsets (Flat l at f.0 f.1) ++ (without_offsets later ++ cut) =
    ap (λ es. es ++ cut) (map-append (λ e. e.1) (Flat l at f.0 f.1) later) ∙ append_assoc (without_offsets (Flat l at f.0 f.1)) (without_offsets later) cut in
    let d = frame_done l at f.0 f.1 p.0 (empty limits) (without_offsets later ++ cut) rs new refl (subst (λ (es : List Event). AreTaken (empty limits) es rs new) all a) n in
    let more = all_built limits l (at + frame_size f.0 f.1) fs cut d.later new p.1 c d.run d.sound in
    (d.frames ∙ ap (λ gs. f ∷ gs) more.0, more.1)

pub stream_built : StreamIsBuilt
stream_built limits l at fs cut rs new p c a n = all_built limits l at fs cut rs new p c a n
