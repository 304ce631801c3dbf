-- What is known where a frame ends whatever its header says of its length.
use Rattle.std.proofs.Common.{◌≡◌, ℕ, ◌+◌, ◌++◌, ◌⊎◌, [], ◌∷◌, false, Bool, Some, None, sym, ◌∙◌, subst, Ok, Err, arith, inl, inr}
use Rattle.std.specs.Prelude.{IsTrue}
use Rattle.std.proofs.Common.{◌↔◌}
use Rattle.cqlp_note.specs.declared.header.Header.{Header}
use Rattle.cqlp_note.specs.Heading.{answers, same}
use Rattle.cqlp_grammar.specs.Events.{Frame, End}
use Rattle.cqlp_message.specs.FrameValues.{FrameValue}
use Rattle.cqlp_message.specs.Frames.{frame_parts, frame_size, header_of, measure_of, unfit_of}
use Rattle.cqlp_message.specs.Owned.{frame_of}
use Rattle.cqlp_message.specs.Parts.{parts_size}
use Rattle.cqlp_message.specs.declared.frame.Frame.{Frame as OwnedFrame}
use Rattle.cqlp_message.specs.declared.unfit.Unfit.{Unfit}
use Rattle.cqlp_build.specs.declared.error.BuildError.{BuildError}
use Rattle.cqlp_build.specs.declared.error.BuildError.TheVariants as error
use Rattle.cqlp_build.specs.declared.held.FrameEvents.{FrameEvents}
use Rattle.cqlp_build.specs.Building.{AreOfNone, BeginsWith, IsOfHeader}
use Rattle.cqlp_build.specs.Closing.{ClosesAt, IsOfSome, ReportsOf, of_length}
use Rattle.cqlp_build.specs.FrameEvents.{Builds, IsRefused, IsSound, left}
use Rattle.cqlp_build.specs.Emitted.{emitted}
use Rattle.cqlp_build.proofs.Finishing.{built_of, directed_by, header_by, none_left, none_of_header, none_refused, measured, only_this, refused}
use Rattle.cqlp_build.proofs.FrameViews.{left_none}
use Rattle.cqlp_build.proofs.Steps.{AreNone}

begins_of : (h : Header) (n : ℕ) (f : FrameValue) → BeginsWith h f → BeginsWith (of_length h n) f
begins_of h n f b = record { flags = b.flags; stream = b.stream; opcode = b.opcode; agrees = b.agrees; built = b.built; cells = b.cells }

begins_back : (h : Header) (n : ℕ) (f : FrameValue) → BeginsWith (of_length h n) f → BeginsWith h f
begins_back h n f b = record { flags = b.flags; stream = b.stream; opcode = b.opcode; agrees = b.agrees; built = b.built; cells = b.cells }

module _ (h : Header) (n : ℕ) (f : FrameValue) (old new : FrameEvents) (b : Builds (λ g. emitted (frame_parts g)) (BeginsWith h) f old new) where
  none_by : IsRefused old ⊎ AreNone (λ g. emitted (frame_parts g)) (BeginsWith h) old
      → IsRefused old ⊎ AreNone (λ g. emitted (frame_parts g)) (BeginsWith (of_length h n)) old
  none_by (inl r) = inl r
  none_by (inr k) = inr (k.0, λ g rest p e. k.1 g rest (begins_back h n g p) e)

  pub builds_of : Builds (λ g. emitted (frame_parts g)) (BeginsWith (of_length h n)) f old new
  builds_of = record {
    made = λ s. let m = b.made s in (m.0, m.1, begins_of h n f m.2);
    only = λ s g rest p e. b.only s g rest (begins_back h n g p) e;
    none = λ r. none_by (b.none r);
  }

no_more : (n : ℕ) → n + 0 ≡ n
no_more n = omega arith

pub of_some : (h : Header) (f : FrameValue) → BeginsWith h f → IsOfSome h f → IsOfHeader f (of_length h (parts_size (frame_parts f))) 0
of_some h f b s =
    let n = parts_size (frame_parts f) in
    (s.0, subst (λ (k : ℕ). header_of f k ≡ of_length h n) (sym (no_more n)) (header_by f (of_length h n) (begins_of h n f b) s.1))

pub some_of : (h : Header) (n : ℕ) (f : FrameValue) → BeginsWith (of_length h n) f → IsOfHeader f (of_length h n) 0 → IsOfSome h f
some_of h n f b i = (i.0, directed_by f (of_length h n) 0 b i)

module _ (h : Header) (f : OwnedFrame) (old new : FrameEvents) (s : IsSound old) (b : Builds (λ g. emitted (frame_parts g)) (BeginsWith h) (frame_of f) old new) where
  pub closes : ReportsOf h (frame_of f) new None → ClosesAt h (left old) (Ok f)
  closes t =
      let n = parts_size (frame_parts (frame_of f)) in
      let m = b.made t.0 in
      let r = built_of (of_length h n) 0 (frame_of f) old new (builds_of h n (frame_of f) old new b) t.0 (sym t.1) (of_some h (frame_of f) m.2 (t.2 m.2)) in
      record {
        size = n;
        are = r.0;
        can = r.1;
        whole = left_none old;
        only = λ k g d a. (only_this (of_length h k) 0 (frame_of f) old new (builds_of h k (frame_of f) old new b) g 0 t.0 d a).0;
      }

  no_frame : (n : ℕ) → ReportsOf h (frame_of f) new (Some error.NoFrame) → AreOfNone (Frame (of_length h n) ∷ left old ++ End 0 ∷ [])
  no_frame n (inl r) = none_refused (of_length h n) 0 (frame_of f) old new (builds_of h n (frame_of f) old new b) s r
  no_frame n (inr (k, inl e)) =
      none_left (of_length h n) 0 (frame_of f) old new (builds_of h n (frame_of f) old new b) k (λ d. e (sym d))
  no_frame n (inr (k, inr e)) =
      let c = builds_of h n (frame_of f) old new b in
      none_of_header (of_length h n) 0 (frame_of f) old new c k
      (λ i. e (b.made k).2 (some_of h n (frame_of f) (c.made k).2 i))

  pub closes_not : (why : BuildError) → ReportsOf h (frame_of f) new (Some why) → ClosesAt h (left old) (Err why)
  closes_not error.NoFrame t = λ n. no_frame n t
  closes_not error.NoMemory t = tt
  closes_not error.Misplaced t = absurd t
  closes_not error.Unbuilt t = absurd t
  closes_not error.TooManyFields t = absurd t
  closes_not error.TooDeep t = absurd t
  closes_not error.TooManyBytes t = absurd t

-- ---- whether it can be

pub can_be : (f : FrameValue) (h : Header) (len : ℕ) (r : Bool) → measure_of f ≡ Ok len → r ≡ same h.response (answers h.opcode) → (IsTrue r ↔ IsOfSome h f)
can_be f h len r m e =
    (λ t. ((measured (unfit_of f) (frame_size f 0) len m).0, sym e ∙ t), λ s. e ∙ s.1)

pub cannot_be : (f : FrameValue) (h : Header) (why : Unfit) → measure_of f ≡ Err why → (IsTrue false ↔ IsOfSome h f)
cannot_be f h why m = (λ t. absurd cc, λ s. absurd (refused (unfit_of f) (frame_size f 0) why m s.0))
