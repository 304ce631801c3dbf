-- What is known at the end of a frame.
use Rattle.std.proofs.Common.{◌≡◌, ℕ, ◌+◌, ◌++◌, ◌⊎◌, List, [], ◌∷◌, true, Bool, Option, Some, None, refl, sym, ap, ◌∙◌, subst, append-nil, Ok, Err, arith, inl, inr}
use Rattle.cqlp_note.specs.declared.header.Header.{Header}
use Rattle.cqlp_note.specs.Limits.{Rules}
use Rattle.cqlp_grammar.specs.Events.{Event, Frame, End}
use Rattle.cqlp_note.specs.declared.field.Field.TheVariants as field
use Rattle.std.specs.List.{list_all}
use Rattle.std.proofs.lemmas.List.Folds.{list_all-append}
use Rattle.cqlp_message.specs.FrameValues.{FrameValue, Message, Rows}
use Rattle.cqlp_message.specs.Bodies.{cell_types, count, message_parts, metadata_parts, rows_parts}
use Rattle.cqlp_message.specs.Frames.{announced_parts, frame_parts, frame_size, header_of, if_none, measure_of, unfit_of}
use Rattle.cqlp_message.specs.declared.unfit.Unfit.{Unfit}
use Rattle.cqlp_message.specs.Parts.{Part, cell_fits, parts_size}
use Rattle.cqlp_message.proofs.FramesWritten.{IsFit, is_fit}
use Rattle.cqlp_build.specs.declared.held.FrameEvents.{FrameEvents}
use Rattle.cqlp_note.specs.Heading.{answers, same}
use Rattle.cqlp_message.specs.Agreement.{has_its_cells, opcode_of}
use Rattle.std.specs.Prelude.{IsTrue, false}
use Rattle.std.proofs.Common.{◌↔◌}
use Rattle.cqlp_message.specs.Owned.{frame_of}
use Rattle.cqlp_build.specs.declared.builder.BuiltFrame.{BuiltFrame}
use Rattle.cqlp_build.specs.Building.{BuilderState, IsBuiltOf, TakesEvent, empty, is_due, AreEventsOf, AreOfNone, BeginsWith, CanBeBuilt, Finishes, HaveNoParts, IsOfHeader, Reports, has_fit_cells}
use Rattle.cqlp_build.specs.declared.error.BuildError.{BuildError}
use Rattle.cqlp_build.specs.declared.error.BuildError.TheVariants as error
use Rattle.cqlp_build.specs.FrameEvents.{Builds, IsRefused, IsSound, left}
use Rattle.cqlp_build.specs.Emitted.{emitted}
use Rattle.cqlp_build.proofs.Several.{both, join}
use Rattle.cqlp_build.proofs.FrameViews.{body_of, body_events, frame_said, left_none}
use Rattle.cqlp_build.proofs.Steps.{AreNone}

-- ---- ends of lists

never_empty : {A : Type 0} (xs : List A) (a : A) → [] ≡ xs ++ a ∷ [] → ⊥
never_empty [] a e = absurd cc
never_empty (x ∷ xs) a e = absurd cc

last_is : {A : Type 0} (xs ys : List A) (a b : A) → xs ++ a ∷ [] ≡ ys ++ b ∷ [] → (xs ≡ ys) × (a ≡ b)
last_is [] [] a b e = (refl, cc)
last_is [] (y ∷ ys) a b e = let d : [] ≡ ys ++ b ∷ [] = cc in absurd (never_empty ys b d)
last_is (x ∷ xs) [] a b e = let d : [] ≡ xs ++ a ∷ [] = cc in absurd (never_empty xs a d)
last_is (x ∷ xs) (y ∷ ys) a b e =
    let r = last_is xs ys a b cc in
    let p : x ≡ y = cc in
    (cc, r.1)

-- ---- the events of a frame

-- what a frame with these events is
pub record IsFrameOf (h : Header) (es : List Event) (x : ℕ) (g : FrameValue) (y : ℕ) : Type 0 where
  pub header : header_of g (parts_size (frame_parts g) + y) ≡ h
  pub parts : emitted (frame_parts g) ≡ es
  pub extra : y ≡ x

frame_from : (h k : Header) (es fs : List Event) (x y : ℕ) → Frame k ∷ fs ++ End y ∷ [] ≡ Frame h ∷ es ++ End x ∷ [] → (k ≡ h) × (fs ≡ es) × (y ≡ x)
frame_from h k es fs x y e =
    let head : k ≡ h = cc in
    let tail : fs ++ End y ∷ [] ≡ es ++ End x ∷ [] = cc in
    let r = last_is fs es (End y) (End x) tail in
    let end = r.1 in
    let same : y ≡ x = cc in
    (head, r.0, same)

pub is_frame_of : (h : Header) (es : List Event) (x : ℕ) (g : FrameValue) (y : ℕ) → HaveNoParts es → AreEventsOf (Frame h ∷ es ++ End x ∷ []) g y → IsFrameOf h es x g y
is_frame_of h es x g y n a =
    let r = frame_from h (header_of g (parts_size (frame_parts g) + y)) es (body_of a.rules a.at g) x y (sym (frame_said a.rules a.at g y) ∙ a.are) in
    record { header = r.0; parts = sym (body_events a.rules a.at g (inr (subst HaveNoParts (sym r.1) n))) ∙ r.1; extra = r.2 }

-- of a frame that some bytes spell all cells are there, each of its type
fit_cells : (g : FrameValue) → IsFit g → has_fit_cells g.message ≡ true
fit_cells g i = of_message g.message i.shape (none_front (announced_parts g) (message_parts g.message) i.cells)
  where
    none_front : (ps qs : List Part) → list_all cell_fits (ps ++ qs) ≡ true → list_all cell_fits qs ≡ true
    none_front ps qs e = (both (list_all cell_fits ps) (list_all cell_fits qs) (sym (list_all-append cell_fits ps qs) ∙ e)).1

    of_message : (m : Message) → has_its_cells m ≡ true → list_all cell_fits (message_parts m) ≡ true → has_fit_cells m ≡ true
    of_message (Rows p) s e = join (has_its_cells (Rows p)) (list_all cell_fits (rows_parts 0 (cell_types p.meta) p.rows p.cells)) s
        (none_front (count field.Rows p.rows ∷ []) (rows_parts 0 (cell_types p.meta) p.rows p.cells)
        (none_front (metadata_parts p.meta) (count field.Rows p.rows ∷ rows_parts 0 (cell_types p.meta) p.rows p.cells) e))
    of_message m s e = refl

begins_with : (h : Header) (g : FrameValue) (n : ℕ) → CanBeBuilt g → header_of g n ≡ h → BeginsWith h g
begins_with h g n c e = record {
  flags = ap (λ (k : Header). k.flags) e;
  stream = ap (λ (k : Header). k.stream) e;
  opcode = ap (λ (k : Header). k.opcode) e;
  agrees = (is_fit g c.0).agrees;
  built = c.1;
  cells = fit_cells g (is_fit g c.0);
}

abbrev no_rules : Rules
no_rules = record { text = 0; cell = 0; entries = 0; depth = 0; part = 0; types = true; parts = false; lenient = false }

pub are_events : (h : Header) (es : List Event) (x : ℕ) (f : FrameValue) → CanBeBuilt f → IsFrameOf h es x f x → AreEventsOf (Frame h ∷ es ++ End x ∷ []) f x
are_events h es x f c i = record {
  rules = no_rules;
  at = 0;
  are = frame_said no_rules 0 f x ∙ ap (λ k. Frame k ∷ body_of no_rules 0 f ++ End x ∷ []) i.header ∙ ap (λ r. Frame h ∷ r ++ End x ∷ []) (body_events no_rules 0 f (inl refl) ∙ i.parts);
}

module _ (h : Header) (x : ℕ) (f : FrameValue) (old new : FrameEvents) (b : Builds (λ g. emitted (frame_parts g)) (BeginsWith h) f old new) where
  pub only_this : (g : FrameValue) (y : ℕ) → IsSound new → CanBeBuilt g → AreEventsOf (Frame h ∷ left old ++ End x ∷ []) g y → (g ≡ f) × ([] ≡ left new) × (y ≡ x)
  only_this g y s c a =
      let i = is_frame_of h (left old) x g y (left_none old) a in
      let o = b.only s g [] (begins_with h g _ c i.header) (sym i.parts ∙ sym (append-nil (emitted (frame_parts g)))) in
      (o.0, o.1, i.extra)

  -- it was refused
  pub none_refused : IsSound old → IsRefused new → AreOfNone (Frame h ∷ left old ++ End x ∷ [])
  none_refused s r = never s (b.none r)
    where
      never : IsSound old → IsRefused old ⊎ AreNone (λ g. emitted (frame_parts g)) (BeginsWith h) old → AreOfNone (Frame h ∷ left old ++ End x ∷ [])
      never s (inl k) g y c a = absurd cc
      never s (inr k) g y c a =
          let i = is_frame_of h (left old) x g y (left_none old) a in
          k.1 g [] (begins_with h g _ c i.header) (sym i.parts ∙ sym (append-nil (emitted (frame_parts g))))

  -- something is left
  pub none_left : IsSound new → ([] ≡ left new → ⊥) → AreOfNone (Frame h ∷ left old ++ End x ∷ [])
  none_left s n g y c a = n (only_this g y s c a).1

  -- it is another header's
  pub none_of_header : IsSound new → (IsOfHeader f h x → ⊥) → AreOfNone (Frame h ∷ left old ++ End x ∷ [])
  none_of_header s n g y c a =
      let o = only_this g y s c a in
      let i = is_frame_of h (left old) x g y (left_none old) a in
      n (subst (λ (k : FrameValue). unfit_of k ≡ None) o.0 c.0, subst (λ (k : FrameValue). header_of k (parts_size (frame_parts k) + x) ≡ h) o.0 (subst (λ (z : ℕ). header_of g (parts_size (frame_parts g) + z) ≡ h) o.2 i.header))

  -- all was taken
  pub built_of : IsSound new → [] ≡ left new → IsOfHeader f h x → (AreEventsOf (Frame h ∷ left old ++ End x ∷ []) f x) × (CanBeBuilt f) × ((g : FrameValue) (y : ℕ) → CanBeBuilt g → AreEventsOf (Frame h ∷ left old ++ End x ∷ []) g y → (g ≡ f) × (y ≡ x))
  built_of s n i =
      let m = b.made s in
      let c : CanBeBuilt f = (i.0, m.2.built) in
      let e : emitted (frame_parts f) ≡ left old = sym (append-nil (emitted (frame_parts f))) ∙ ap (λ r. emitted (frame_parts f) ++ r) n ∙ sym m.1 in
      (are_events h (left old) x f c (record { header = i.1; parts = e; extra = refl }), c, λ g y d a. let o = only_this g y s d a in (o.0, o.2))

  pub no_frame : IsSound old → Reports h x f new (Some error.NoFrame) → AreOfNone (Frame h ∷ left old ++ End x ∷ [])
  no_frame s (inl r) = none_refused s r
  no_frame s (inr (k, inl n)) = none_left k (λ e. n (sym e))
  no_frame s (inr (k, inr n)) = none_of_header k (n (b.made k).2)

  pub finishes_not : IsSound old → (why : BuildError) → Reports h x f new (Some why) → Finishes h x (left old) (Err why)
  finishes_not s error.NoFrame t = no_frame s t
  finishes_not s error.NoMemory t = tt
  finishes_not s error.Misplaced t = absurd t
  finishes_not s error.Unbuilt t = absurd t
  finishes_not s error.TooManyFields t = absurd t
  finishes_not s error.TooDeep t = absurd t
  finishes_not s error.TooManyBytes t = absurd t

-- ---- headers

pub measured : (o : Option Unfit) (n m : ℕ) → if_none o n ≡ Ok m → (o ≡ None) × (m ≡ n)
measured None n m e = let d : n ≡ m = cc in (refl, sym d)
measured (Some why) n m e = absurd cc

pub refused : (o : Option Unfit) (n : ℕ) (why : Unfit) → if_none o n ≡ Err why → o ≡ None → ⊥
refused None n why e d = absurd cc
refused (Some y) n why e d = absurd cc

pub not_measured : (f : FrameValue) (h : Header) (x : ℕ) (why : Unfit) → measure_of f ≡ Err why → IsOfHeader f h x → ⊥
not_measured f h x why e i = refused (unfit_of f) (frame_size f 0) why e i.0

pub is_of_header : (f : FrameValue) (h : Header) (x len : ℕ) → measure_of f ≡ Ok len → header_of f h.length ≡ h → len + x ≡ h.length + 9 → IsOfHeader f h x
is_of_header f h x len m e n =
    let r = measured (unfit_of f) (frame_size f 0) len m in
    let size : h.length ≡ parts_size (frame_parts f) + x = omega (arith, r.1) in
    (r.0, subst (λ (k : ℕ). header_of f k ≡ h) size e)

pub length_of_header : (f : FrameValue) (h : Header) (x len : ℕ) → measure_of f ≡ Ok len → IsOfHeader f h x → len + x ≡ h.length + 9
length_of_header f h x len m i =
    let r = measured (unfit_of f) (frame_size f 0) len m in
    let size : parts_size (frame_parts f) + x ≡ h.length = ap (λ (k : Header). k.length) i.1 in
    omega (arith, r.1)

pub header_is : (f : FrameValue) (h : Header) (x : ℕ) → IsOfHeader f h x → header_of f h.length ≡ h
header_is f h x i =
    let size : parts_size (frame_parts f) + x ≡ h.length = ap (λ (k : Header). k.length) i.1 in
    subst (λ (k : ℕ). header_of f k ≡ h) size i.1

-- ---- what is reported at the end

pub decided : (f : FrameValue) (h : Header) (x len : ℕ) (r : Bool) → (IsTrue r ↔ (len + x ≡ h.length + 9)) → measure_of f ≡ Ok len → header_of f h.length ≡ h → (IsTrue r ↔ IsOfHeader f h x)
decided f h x len r e m hd = (λ t. is_of_header f h x len m hd (e.0 t), λ i. e.1 (length_of_header f h x len m i))

pub end_refused : (s new : BuilderState) (h : Header) (es : List Event) (x : ℕ) (why : BuildError) → s.events ≡ Frame h ∷ es → Finishes h x es (Err why) → new ≡ empty s.limits → TakesEvent s (End x) (Err why) new
end_refused s new h es x error.NoFrame n t e = (ap (λ k. is_due k (End x)) n, refl, (refl, subst (λ (k : List Event). AreOfNone (k ++ End x ∷ [])) (sym n) t, e))
end_refused s new h es x error.NoMemory n t e = (ap (λ k. is_due k (End x)) n, refl, (tt, e))
end_refused s new h es x error.Misplaced n t e = absurd t
end_refused s new h es x error.Unbuilt n t e = absurd t
end_refused s new h es x error.TooManyFields n t e = absurd t
end_refused s new h es x error.TooDeep n t e = absurd t
end_refused s new h es x error.TooManyBytes n t e = absurd t

same_is : (a b : Bool) → same a b ≡ true → a ≡ b
same_is true true e = refl
same_is false false e = refl
same_is true false e = absurd cc
same_is false true e = absurd cc

is_same : (a b : Bool) → a ≡ b → same a b ≡ true
is_same true true e = refl
is_same false false e = refl
is_same true false e = absurd cc
is_same false true e = absurd cc

pub header_by : (f : FrameValue) (h : Header) → BeginsWith h f → same h.response (answers h.opcode) ≡ true → header_of f h.length ≡ h
header_by f h b s =
    let response : answers (opcode_of f.message) ≡ h.response = ap answers b.opcode ∙ sym (same_is h.response (answers h.opcode) s) in
    λ i. record { response = response i; flags = b.flags i; stream = b.stream i; opcode = b.opcode i; length = h.length }

pub directed_by : (f : FrameValue) (h : Header) (x : ℕ) → BeginsWith h f → IsOfHeader f h x → same h.response (answers h.opcode) ≡ true
directed_by f h x b i =
    let response : answers (opcode_of f.message) ≡ h.response = ap (λ (k : Header). k.response) (header_is f h x i) in
    is_same h.response (answers h.opcode) (sym response ∙ ap answers b.opcode)

pub not_directed : (f : FrameValue) (h : Header) (x : ℕ) (r : Bool) → r ≡ false → (IsOfHeader f h x → r ≡ true) → (IsTrue r ↔ IsOfHeader f h x)
not_directed f h x r e g = (λ t. let d : true ≡ false = sym t ∙ e in absurd cc, λ i. g i)

-- what is built of events is the same frame after it was measured
pub rebuilt : (es : List Event) {b : BuiltFrame} (f : FrameValue) (x : ℕ) → f ≡ frame_of b.frame → x ≡ b.extra
    → (AreEventsOf es f x) × (CanBeBuilt f) × ((g : FrameValue) (y : ℕ) → CanBeBuilt g → AreEventsOf es g y → (g ≡ f) × (y ≡ x)) → IsBuiltOf es b
rebuilt es {b} f x e d t =
    record {
      are = subst (λ (k : ℕ). AreEventsOf es (frame_of b.frame) k) d (subst (λ (k : FrameValue). AreEventsOf es k x) e t.0);
      can = subst CanBeBuilt e t.1;
      only = λ g y c a. let o = t.2 g y c a in (o.0 ∙ e, o.1 ∙ d);
    }
