-- Of events there is one frame, and what is written of it is read as them.
use Rattle.std.proofs.Common.{◌≡◌, ℕ, ◌+◌, ◌++◌, ◌⊎◌, inl, inr, Bool, true, false, nat_lt, List, [], ◌∷◌, length, refl, sym, ap, ◌∙◌, subst, Ok, Err}
use Rattle.std.specs.Prelude.{Result}
use Rattle.cqlp_note.specs.declared.header.Header.{Header}
use Rattle.cqlp_grammar.specs.Events.{Event, Frame, Holds, Node_of, Cell_at, Leave, End}
use Rattle.cqlp_note.specs.Limits.{Rules}
use Rattle.cqlp_message.specs.FrameValues.{FrameValue}
use Rattle.cqlp_message.specs.Parts.{parts_size}
use Rattle.cqlp_message.specs.Frames.{Flat, frame_bytes, frame_parts, header_of}
use Rattle.cqlp_build.specs.Laws.{without_offsets}
use Rattle.cqlp_message.specs.Owned.{frame_of}
use Rattle.cqlp_message.specs.declared.frame.Frame.{Frame as OwnedFrame}
use Rattle.cqlp_build.specs.declared.error.BuildError.{BuildError}
use Rattle.cqlp_build.specs.declared.error.BuildError.TheVariants as error
use Rattle.cqlp_build.specs.Building.{HaveNoParts}
use Rattle.cqlp_build.specs.Closing.{Ends, of_length}
use Rattle.cqlp_build.proofs.FrameViews.{body_of, body_events, frame_said, none_both}
use Rattle.cqlp_build.proofs.Finishing.{is_frame_of}
use Rattle.cqlp_compose.specs.CellPages.{IsFrameOf}
use Rattle.cqlp_compose.specs.Composing.{ComposerState, IsWrittenOf}
use Rattle.cqlp_compose.proofs.CellPages.{one_page, page_composed}
use Rattle.cqlp_compose.proofs.Once.{one_frame, one_reason, only_memory}
use Rattle.cqlp_decode.specs.Reading.{Says, Waits, start}
use Rattle.cqlp_laws.proofs.WrittenFrames.{written_is_read}
use Rattle.cqlp_c.specs.declared.encode.CqlpEncoded.{CqlpEncoded}
use Rattle.cqlp_c.specs.declared.encode.Stopped.{Stopped}
use Rattle.cqlp_c.specs.declared.encode.Unencoded.{Unencoded}
use Rattle.cqlp_c.specs.declared.encode.Unencoded.TheVariants as unencoded
use Rattle.cqlp_c.specs.declared.event.CqlpEvent.{CqlpEvent}
use Rattle.cqlp_c.specs.declared.numbers.TheConstants as numbers
use Rattle.cqlp_c.specs.EncodeLaws.{AreAlike, AreWhole, IsReadAs}
use Rattle.cqlp_c.specs.Encoding.{Encodes, HasNone, IsEncoded, IsPlaced, IsUnencodedAt, IsWritten, PutsFrame, PutsNone, StopsFor, Taken, after_all, at_first, code_of_unencoded}
use Rattle.cqlp_c.specs.Rooms.{PutsBytes, PutsWhere}

-- ---- the frame

written_once : (es : List Event) (bytes others : List ℕ) → IsWritten es bytes → IsWritten es others → bytes ≡ others
written_once es bytes others (inl a) (inl b) = a.are ∙ ap frame_bytes (one_frame es a.frame b.frame a.ends b.ends) ∙ sym b.are
written_once es bytes others (inl a) (inr b) = (page_composed es others b.frame).0 bytes a
written_once es bytes others (inr a) (inl b) = sym ((page_composed es bytes a.frame).0 others b)
written_once es bytes others (inr a) (inr b) = one_page es bytes others a b

-- ---- bytes that are put

puts_where_once : (short : Bool) (bytes before one other : List ℕ) (a b : ℕ) → PutsWhere short bytes a before one → PutsWhere short bytes b before other → (a ≡ b) × (one ≡ other)
puts_where_once true bytes before one other a b p q = (p.0 ∙ sym q.0, p.1 ∙ sym q.1)
puts_where_once false bytes before one other a b p q = (p.0 ∙ sym q.0, p.1 ∙ sym q.1)

puts_once : (bytes before one other : List ℕ) (a b m n : ℕ) → PutsBytes bytes a before one m → PutsBytes bytes b before other n → ((a ≡ b) × (one ≡ other)) × (m ≡ n)
puts_once bytes before one other a b m n p q = (puts_where_once (nat_lt (length before) (length bytes)) bytes before one other a b p.0 q.0, p.1 ∙ sym q.1)

-- ---- no frame

stops_for : (cs : List CqlpEvent) (contents : List ℕ) (n : ℕ) (why : Unencoded) → IsUnencodedAt cs contents n why → (code_of_unencoded why ≡ numbers.NO_MEMORY) ⊎ StopsFor cs contents (record { event = n; why = why })
stops_for cs contents n (unencoded.Refused error.NoMemory) k = inl refl
stops_for cs contents n (unencoded.Refused error.Misplaced) k = inr k
stops_for cs contents n (unencoded.Refused error.Unbuilt) k = inr k
stops_for cs contents n (unencoded.Refused error.TooManyFields) k = inr k
stops_for cs contents n (unencoded.Refused error.TooDeep) k = inr k
stops_for cs contents n (unencoded.Refused error.TooManyBytes) k = inr k
stops_for cs contents n (unencoded.Refused error.NoFrame) k = inr k
stops_for cs contents n (unencoded.BadEvent w) k = inr k
stops_for cs contents n unencoded.LeftOver k = inr k

code_by : (w : BuildError) → w ≡ error.NoMemory → code_of_unencoded (unencoded.Refused w) ≡ numbers.NO_MEMORY
code_by w e = ap (λ (x : BuildError). code_of_unencoded (unencoded.Refused x)) e

-- where a frame is there, nothing but memory keeps it
none_of_frame : (s : ComposerState) (f : OwnedFrame) (why : Unencoded) → Ends s.frame.events (Ok f) → HasNone (s, []) why → code_of_unencoded why ≡ numbers.NO_MEMORY
none_of_frame s f (unencoded.Refused w) e n = code_by w (only_memory s.frame.events f w e n)
none_of_frame s f (unencoded.BadEvent w) e n = absurd n
none_of_frame s f unencoded.LeftOver e n = absurd n

none_of_page : (s : ComposerState) (bytes : List ℕ) (why : Unencoded) → IsFrameOf s.frame.events bytes → HasNone (s, []) why → code_of_unencoded why ≡ numbers.NO_MEMORY
none_of_page s bytes (unencoded.Refused w) p n = code_by w ((page_composed s.frame.events bytes p).1 w n)
none_of_page s bytes (unencoded.BadEvent w) p n = absurd n
none_of_page s bytes unencoded.LeftOver p n = absurd n

none_of_written : (s : ComposerState) (bytes : List ℕ) (why : Unencoded) → IsWritten s.frame.events bytes → HasNone (s, []) why → code_of_unencoded why ≡ numbers.NO_MEMORY
none_of_written s bytes why (inl w) n = none_of_frame s w.frame why w.ends n
none_of_written s bytes why (inr p) n = none_of_page s bytes why p.frame n

abbrev taken_of : Taken → Result Taken Stopped → Taken
taken_of t (Ok u) = u
taken_of t (Err r) = t

same_taken : (r : Result Taken Stopped) (t u : Taken) → r ≡ Ok t → r ≡ Ok u → t ≡ u
same_taken r t u x y = ap (λ (q : Result Taken Stopped). taken_of t q) (sym x ∙ y)

both : (cs : List CqlpEvent) (contents bytes : List ℕ) (r : Stopped) → IsEncoded cs contents bytes → StopsFor cs contents r → code_of_unencoded r.why ≡ numbers.NO_MEMORY
both cs contents bytes r x (inl e) = let d : Ok (x.0, []) ≡ Err r = sym x.1 ∙ e in absurd cc
both cs contents bytes r x (inr y) =
    let same : y.0 ≡ (x.0, []) = same_taken (after_all 0 (at_first contents) cs) y.0 (x.0, []) y.1 x.1 in
    none_of_written x.0 bytes r.why x.2 (subst (λ (t : Taken). HasNone t r.why) same y.3)

one_none_left : (s : ComposerState) (a b : Unencoded) → HasNone (s, []) a → HasNone (s, []) b → (code_of_unencoded a ≡ code_of_unencoded b) ⊎ ((code_of_unencoded a ≡ numbers.NO_MEMORY) ⊎ (code_of_unencoded b ≡ numbers.NO_MEMORY))
one_none_left s (unencoded.Refused a) (unencoded.Refused b) x y = by (one_reason s.frame.events a b x y)
  where
    by : (a ≡ b) ⊎ ((a ≡ error.NoMemory) ⊎ (b ≡ error.NoMemory)) → (code_of_unencoded (unencoded.Refused a) ≡ code_of_unencoded (unencoded.Refused b)) ⊎ ((code_of_unencoded (unencoded.Refused a) ≡ numbers.NO_MEMORY) ⊎ (code_of_unencoded (unencoded.Refused b) ≡ numbers.NO_MEMORY))
    by (inl e) = inl (ap (λ (x : BuildError). code_of_unencoded (unencoded.Refused x)) e)
    by (inr (inl e)) = inr (inl (code_by a e))
    by (inr (inr e)) = inr (inr (code_by b e))
one_none_left s (unencoded.BadEvent a) b x y = absurd x
one_none_left s unencoded.LeftOver b x y = absurd x
one_none_left s (unencoded.Refused a) (unencoded.BadEvent b) x y = absurd y
one_none_left s (unencoded.Refused a) unencoded.LeftOver x y = absurd y

one_some_left : (s : ComposerState) (c : ℕ) (bs : List ℕ) (a b : Unencoded) → HasNone (s, c ∷ bs) a → HasNone (s, c ∷ bs) b → code_of_unencoded a ≡ code_of_unencoded b
one_some_left s c bs unencoded.LeftOver unencoded.LeftOver x y = refl
one_some_left s c bs unencoded.LeftOver (unencoded.Refused b) x y = absurd y
one_some_left s c bs unencoded.LeftOver (unencoded.BadEvent b) x y = absurd y
one_some_left s c bs (unencoded.Refused a) b x y = absurd x
one_some_left s c bs (unencoded.BadEvent a) b x y = absurd x

one_none : (s : ComposerState) (rest : List ℕ) (a b : Unencoded) → HasNone (s, rest) a → HasNone (s, rest) b → (code_of_unencoded a ≡ code_of_unencoded b) ⊎ ((code_of_unencoded a ≡ numbers.NO_MEMORY) ⊎ (code_of_unencoded b ≡ numbers.NO_MEMORY))
one_none s [] a b x y = one_none_left s a b x y
one_none s (c ∷ bs) a b x y = inl (one_some_left s c bs a b x y)

-- the place is said, but where no frame has the events
abbrev HasPlaces : (q r : Stopped) → Type 0
HasPlaces q r = (q.event ≡ r.event) ⊎ (code_of_unencoded q.why ≡ numbers.NO_SUCH_FRAME)

-- two that stop have one place and one code, or memory was refused
abbrev AreOne : (q r : Stopped) → Type 0
AreOne q r =
    (HasPlaces q r × (code_of_unencoded q.why ≡ code_of_unencoded r.why))
    ⊎ ((code_of_unencoded q.why ≡ numbers.NO_MEMORY) ⊎ (code_of_unencoded r.why ≡ numbers.NO_MEMORY))

abbrev IsAtEnd : (q : Stopped) (all : ℕ) → Type 0
IsAtEnd q all = (q.event ≡ all) ⊎ (code_of_unencoded q.why ≡ numbers.NO_SUCH_FRAME)

at_end : (n all : ℕ) (why : Unencoded) → IsPlaced why n all → (n ≡ all) ⊎ (code_of_unencoded why ≡ numbers.NO_SUCH_FRAME)
at_end n all (unencoded.Refused error.NoFrame) p = inr refl
at_end n all (unencoded.Refused error.NoMemory) p = inl p
at_end n all (unencoded.Refused error.Misplaced) p = inl p
at_end n all (unencoded.Refused error.Unbuilt) p = inl p
at_end n all (unencoded.Refused error.TooManyFields) p = inl p
at_end n all (unencoded.Refused error.TooDeep) p = inl p
at_end n all (unencoded.Refused error.TooManyBytes) p = inl p
at_end n all (unencoded.BadEvent w) p = inl p
at_end n all unencoded.LeftOver p = inl p

one_place : (q r : Stopped) (all : ℕ) → IsAtEnd q all → IsAtEnd r all → code_of_unencoded q.why ≡ code_of_unencoded r.why → HasPlaces q r
one_place q r all (inl x) (inl y) k = inl (x ∙ sym y)
one_place q r all (inl x) (inr y) k = inr (k ∙ y)
one_place q r all (inr x) y k = inr x

placed_one : (q r : Stopped) (all : ℕ) → IsAtEnd q all → IsAtEnd r all
    → (code_of_unencoded q.why ≡ code_of_unencoded r.why) ⊎ ((code_of_unencoded q.why ≡ numbers.NO_MEMORY) ⊎ (code_of_unencoded r.why ≡ numbers.NO_MEMORY)) → AreOne q r
placed_one q r all x y (inl k) = inl (one_place q r all x y k, k)
placed_one q r all x y (inr e) = inr e

one_stop : (cs : List CqlpEvent) (contents : List ℕ) (q r : Stopped) → StopsFor cs contents q → StopsFor cs contents r → AreOne q r
one_stop cs contents q r (inl x) (inl y) =
    let same : q ≡ r = let d : Err q ≡ Err r = sym x ∙ y in cc in
    inl (inl (ap (λ (z : Stopped). z.event) same), ap (λ (z : Stopped). code_of_unencoded z.why) same)
one_stop cs contents q r (inl x) (inr y) = let d : Err q ≡ Ok y.0 = sym x ∙ y.1 in absurd cc
one_stop cs contents q r (inr x) (inl y) = let d : Ok x.0 ≡ Err r = sym x.1 ∙ y in absurd cc
one_stop cs contents q r (inr x) (inr y) =
    let same : y.0 ≡ x.0 = let d : Ok y.0 ≡ Ok x.0 = sym y.1 ∙ x.1 in cc in
    placed_one q r (length cs) (at_end q.event (length cs) q.why x.2) (at_end r.event (length cs) r.why y.2) (one_none x.0.0 x.0.1 q.why r.why x.3 (subst (λ (t : Taken). HasNone t r.why) same y.3))

-- ---- one answer

module _ (cs : List CqlpEvent) (contents before : List ℕ) (a b : ℕ) (one other : List ℕ) (t u : CqlpEncoded) where
  abbrev Same : Type 0
  Same = ((a ≡ b) × (one ≡ other) × AreAlike a t u) ⊎ ((a ≡ numbers.NO_MEMORY) ⊎ (b ≡ numbers.NO_MEMORY))

  frames_once : PutsFrame cs contents a before one t → PutsFrame cs contents b before other u → Same
  frames_once x y =
      let alike : (x.1.0, []) ≡ (y.1.0, []) = same_taken (after_all 0 (at_first contents) cs) (x.1.0, []) (y.1.0, []) x.1.1 y.1.1 in
      let left : x.1.0 ≡ y.1.0 = ap (λ (t : Taken). t.0) alike in
      let bytes : y.0 ≡ x.0 = written_once x.1.0.frame.events y.0 x.0 (subst (λ (s : ComposerState). IsWritten s.frame.events y.0) (sym left) y.1.2) x.1.2 in
      let p = puts_once x.0 before one other a b t.length u.length x.2 (subst (λ (z : List ℕ). PutsBytes z b before other u.length) bytes y.2) in
      inl (p.0.0, p.0.1, (p.1, inl (x.3 ∙ sym y.3)))

  frame_or_none : PutsFrame cs contents a before one t → PutsNone cs contents b before other u → Same
  frame_or_none x y = by (stops_for cs contents y.0.event y.0.why y.1)
    where
      by : (code_of_unencoded y.0.why ≡ numbers.NO_MEMORY) ⊎ StopsFor cs contents y.0 → Same
      by (inl e) = inr (inr (y.2 ∙ e))
      by (inr s) = inr (inr (y.2 ∙ both cs contents x.0 y.0 x.1 s))

  none_or_frame : PutsNone cs contents a before one t → PutsFrame cs contents b before other u → Same
  none_or_frame x y = by (stops_for cs contents x.0.event x.0.why x.1)
    where
      by : (code_of_unencoded x.0.why ≡ numbers.NO_MEMORY) ⊎ StopsFor cs contents x.0 → Same
      by (inl e) = inr (inl (x.2 ∙ e))
      by (inr s) = inr (inl (x.2 ∙ both cs contents y.0 x.0 y.1 s))

  none_once : PutsNone cs contents a before one t → PutsNone cs contents b before other u → Same
  none_once x y = by (stops_for cs contents x.0.event x.0.why x.1) (stops_for cs contents y.0.event y.0.why y.1)
    where
      place : HasPlaces x.0 y.0 → (t.event ≡ u.event) ⊎ (a ≡ numbers.NO_SUCH_FRAME)
      place (inl e) = inl (ap (λ (z : CqlpEncoded). z.event) x.4 ∙ e ∙ sym (ap (λ (z : CqlpEncoded). z.event) y.4))
      place (inr e) = inr (x.2 ∙ e)

      alike : AreOne x.0 y.0 → Same
      alike (inl (e, k)) = inl (x.2 ∙ k ∙ sym y.2, x.3 ∙ sym y.3, (ap (λ (z : CqlpEncoded). z.length) x.4 ∙ sym (ap (λ (z : CqlpEncoded). z.length) y.4), place e))
      alike (inr (inl k)) = inr (inl (x.2 ∙ k))
      alike (inr (inr k)) = inr (inr (y.2 ∙ k))

      by : (code_of_unencoded x.0.why ≡ numbers.NO_MEMORY) ⊎ StopsFor cs contents x.0 → (code_of_unencoded y.0.why ≡ numbers.NO_MEMORY) ⊎ StopsFor cs contents y.0 → Same
      by (inl e) k = inr (inl (x.2 ∙ e))
      by (inr s) (inl e) = inr (inr (y.2 ∙ e))
      by (inr s) (inr k) = alike (one_stop cs contents x.0 y.0 s k)

  pub one_encoded : Encodes cs contents a before one t → Encodes cs contents b before other u → Same
  one_encoded (inl x) (inl y) = frames_once x y
  one_encoded (inl x) (inr y) = frame_or_none x y
  one_encoded (inr x) (inl y) = none_or_frame x y
  one_encoded (inr x) (inr y) = none_once x y

-- ---- what is written is read

-- between a header and an end nothing comes in parts either
pub body_whole : (l : Rules) (f : FrameValue) → AreWhole l (without_offsets (Flat l 0 f 0)) → AreWhole l (body_of l 0 f)
body_whole l f (inl e) = inl e
body_whole l f (inr n) =
    let head = Frame (header_of f (parts_size (frame_parts f) + 0)) in
    inr (none_both (head ∷ body_of l 0 f) (End 0 ∷ []) (subst HaveNoParts (frame_said l 0 f 0) n)).0

pub written_reads_back : (h : Header) (fields : List Event) (bytes : List ℕ) → IsWrittenOf (Frame h ∷ fields) bytes → IsReadAs h fields bytes
written_reads_back h fields bytes w =
    let f = frame_of w.frame in
    let e = w.ends in
    let i = is_frame_of (of_length h e.size) fields 0 f 0 e.whole e.are in
    record {
      size = e.size;
      frame = f;
      are = w.are;
      said = λ l within. (
        Flat l 0 f 0,
        subst (λ (b : List ℕ). Says l start b (Flat l 0 f 0) Waits) (sym w.are) (written_is_read f w.range l e.can.0 within),
        λ whole. frame_said l 0 f 0
            ∙ ap (λ k. Frame k ∷ body_of l 0 f ++ End 0 ∷ []) i.header
            ∙ ap (λ r. Frame (of_length h e.size) ∷ r ++ End 0 ∷ []) (body_events l 0 f (body_whole l f whole) ∙ i.parts),
      );
    }

pub written_has_header : (es : List Event) (bytes : List ℕ) → IsWrittenOf es bytes → (h : Header) × (fields : List Event) × (es ≡ Frame h ∷ fields)
written_has_header [] bytes w = let d = w.ends in absurd cc
written_has_header (Frame h ∷ es) bytes w = (h, es, refl)
written_has_header (Holds k v ∷ es) bytes w = absurd w.ends
written_has_header (Node_of o ∷ es) bytes w = absurd w.ends
written_has_header (Cell_at row column c ∷ es) bytes w = absurd w.ends
written_has_header (Leave level items ∷ es) bytes w = absurd w.ends
written_has_header (End x ∷ es) bytes w = absurd w.ends
