-- There is one answer.
use Rattle.std.proofs.Common.{◌≡◌, ℕ, ◌⊎◌, inl, inr, Bool, true, false, List, [], length, Some, None, Result, Ok, Err, refl, sym, ap, ◌∙◌, subst, arith}
use Rattle.cqlp_grammar.specs.Events.{Event}
use Rattle.cqlp_message.specs.declared.frame.Frame.{Frame as OwnedFrame}
use Rattle.cqlp_message.specs.declared.unfit.Unfit.{Unfit}
use Rattle.cqlp_message.specs.FrameValues.{FrameValue}
use Rattle.cqlp_message.specs.Owned.{frame_of}
use Rattle.cqlp_message.specs.Pages.{page_head, page_unfit_of}
use Rattle.cqlp_build.specs.declared.error.BuildError.{BuildError}
use Rattle.cqlp_build.specs.declared.error.BuildError.TheVariants as build_error
use Rattle.cqlp_build.specs.Closing.{Ends}
use Rattle.cqlp_compose.specs.Composing.{ComposerState, refusal_of}
use Rattle.cqlp_compose.proofs.Once.{one_frame, one_reason, only_memory}
use Rattle.cqlp_build_cells.specs.declared.error.CellError.TheVariants as cell_error
use Rattle.cqlp_build_cells.specs.Building.{ends_cell}
use Rattle.cqlp_compose.specs.declared.error.PageCellError.{PageCellError}
use Rattle.cqlp_compose.specs.declared.error.PageCellError.TheVariants as page_error
use Rattle.cqlp_compose.specs.Cells.{CellsState, Takes}
use Rattle.cqlp_compose.specs.PageLaws.{LacksMemory as LacksCell}
use Rattle.cqlp_compose.proofs.OneAnswerOfCells.{one_answer as one_event}
use Rattle.cqlp_compose.specs.declared.error.BeginError.{BeginError}
use Rattle.cqlp_compose.specs.declared.error.BeginError.TheVariants as error
use Rattle.cqlp_compose.specs.declared.error.PutError.TheVariants as put_error
use Rattle.cqlp_compose.specs.declared.page.BegunPage.{BegunPage}
use Rattle.cqlp_compose.specs.Begun.{Begins, IsBare, frame_with_rows, is_page, rows_event, said_len, without_rows}
use Rattle.cqlp_compose.specs.BatchLaws.{AreSame, LacksMemory, OneAnswer, OneAnswerOfBegin, no_memory}
use Rattle.cqlp_compose.specs.Put.{Answer, Ended, GoesOn, PutterState, Puts, fresh, within}

-- ---- events of cells

module _ (old : PutterState) (e : Event) (n : ℕ) where
  abbrev Alike : (a b : Answer) (x y : List ℕ) (s t : PutterState) → Type 0
  Alike a b x y s t = ((a ≡ b) × (x ≡ y) × (s ≡ t)) ⊎ ((a ≡ no_memory) ⊎ (b ≡ no_memory))

  abbrev Follows : Result (Unit {0}) PageCellError → Answer → CellsState → List ℕ → PutterState → Type 0
  Follows (Ok u) a mid x s = GoesOn (ends_cell e) (within old mid) n a x s
  Follows (Err why) a mid x s = (a ≡ Err (put_error.Cell why)) × (x ≡ []) × (s ≡ fresh old old.place)

  -- what becomes of it, by what becomes of it in the cell
  abbrev Seen : Answer → List ℕ → PutterState → Type 0
  Seen a x s = (r : Result (Unit {0}) PageCellError) × (mid : CellsState) × Takes old.cells e r mid × Follows r a mid x s

  seen : (a : Answer) (x : List ℕ) (s : PutterState) → Puts old e n a x s → Seen a x s
  seen (Ok len) x s p = (Ok tt, p.0, p.1, p.2)
  seen (Err (put_error.NoRoom len)) x s p = (Ok tt, p.0, p.1, p.2)
  seen (Err (put_error.Cell why)) x s p = (Err why, p.0, p.1, (refl, p.2, p.3))

  ended_once : (t : PutterState) (a b : Answer) (x y : List ℕ) (s u : PutterState) → Ended t n a x s → Ended t n b y u → (a ≡ b) × (x ≡ y) × (s ≡ u)
  ended_once t (Ok None) b x y s u p q = absurd p
  ended_once t (Err (put_error.Cell why)) b x y s u p q = absurd p
  ended_once t (Ok (Some len)) (Ok None) x y s u p q = absurd q
  ended_once t (Ok (Some len)) (Err (put_error.Cell why)) x y s u p q = absurd q
  ended_once t (Err (put_error.NoRoom len)) (Ok None) x y s u p q = absurd q
  ended_once t (Err (put_error.NoRoom len)) (Err (put_error.Cell why)) x y s u p q = absurd q
  ended_once t (Ok (Some len)) (Ok (Some m)) x y s u p q =
      let same : x ≡ y = p.0 ∙ sym q.0 in
      (ap (λ (k : ℕ). Ok (Some k)) (p.1 ∙ ap length same ∙ sym q.1), same, p.3 ∙ sym q.3)
  ended_once t (Err (put_error.NoRoom len)) (Err (put_error.NoRoom m)) x y s u p q =
      (ap (λ (k : ℕ). Err (put_error.NoRoom k)) (p.1 ∙ sym q.1), p.0 ∙ sym q.0, p.3 ∙ sym q.3)
  ended_once t (Ok (Some len)) (Err (put_error.NoRoom m)) x y s u p q = absurd (omega (arith, p.2, q.2, ap length p.0))
  ended_once t (Err (put_error.NoRoom len)) (Ok (Some m)) x y s u p q = absurd (omega (arith, p.2, q.2, ap length q.0))

  goes_once : (ends : Bool) (t : PutterState) (a b : Answer) (x y : List ℕ) (s u : PutterState) → GoesOn ends t n a x s → GoesOn ends t n b y u → (a ≡ b) × (x ≡ y) × (s ≡ u)
  goes_once true t a b x y s u p q = ended_once t a b x y s u p q
  goes_once false t (Ok None) (Ok None) x y s u p q = (refl, p.0 ∙ sym q.0, p.1 ∙ sym q.1)
  goes_once false t (Ok None) (Ok (Some m)) x y s u p q = absurd q
  goes_once false t (Ok None) (Err why) x y s u p q = absurd q
  goes_once false t (Ok (Some m)) b x y s u p q = absurd p
  goes_once false t (Err why) b x y s u p q = absurd p

  follows_once : (r k : Result (Unit {0}) PageCellError) (m w : CellsState) (a b : Answer) (x y : List ℕ) (s u : PutterState) → r ≡ k → m ≡ w → Follows r a m x s → Follows k b w y u → (a ≡ b) × (x ≡ y) × (s ≡ u)
  follows_once (Ok i) (Ok j) m w a b x y s u same mid p q =
      goes_once (ends_cell e) (within old w) a b x y s u (subst (λ (c : CellsState). GoesOn (ends_cell e) (within old c) n a x s) mid p) q
  follows_once (Err why) (Err other) m w a b x y s u same mid p q =
      let one : why ≡ other = cc in
      (p.0 ∙ ap (λ (c : PageCellError). Err (put_error.Cell c)) one ∙ sym q.0, p.1 ∙ sym q.1, p.2 ∙ sym q.2)
  follows_once (Ok i) (Err other) m w a b x y s u same mid p q = absurd cc
  follows_once (Err why) (Ok j) m w a b x y s u same mid p q = absurd cc

  no_memory_by : (r : Result (Unit {0}) PageCellError) (mid : CellsState) (a : Answer) (x : List ℕ) (s : PutterState) → r ≡ Err (page_error.Cell cell_error.NoMemory) → Follows r a mid x s → a ≡ no_memory
  no_memory_by (Ok u) mid a x s is p = absurd cc
  no_memory_by (Err why) mid a x s is p =
      let one : why ≡ page_error.Cell cell_error.NoMemory = cc in
      p.0 ∙ ap (λ (c : PageCellError). Err (put_error.Cell c)) one

  both_seen : (a b : Answer) (x y : List ℕ) (s u : PutterState) → Seen a x s → Seen b y u → Alike a b x y s u
  both_seen a b x y s u p q = by (one_event old.cells e p.0 q.0 p.1 q.1 p.2 q.2)
    where
      by : ((p.0 ≡ q.0) × (p.1 ≡ q.1)) ⊎ (LacksCell old.cells e p.0 p.1 ⊎ LacksCell old.cells e q.0 q.1) → Alike a b x y s u
      by (inl (r, m)) = inl (follows_once p.0 q.0 p.1 q.1 a b x y s u r m p.3 q.3)
      by (inr (inl r)) = inr (inl (no_memory_by p.0 p.1 a x s r.0 p.3))
      by (inr (inr r)) = inr (inr (no_memory_by q.0 q.1 b y u r.0 q.3))

-- but where memory is refused
pub one_answer : (old : PutterState) (e : Event) (n : ℕ) (a b : Answer) (x y : List ℕ) (s u : PutterState) → Puts old e n a x s → Puts old e n b y u → Alike old e n a b x y s u
one_answer old e n a b x y s u p q = both_seen old e n a b x y s u (seen old e n a x s p) (seen old e n b y u q)

-- what is left then
lacks : (old : PutterState) (e : Event) (n : ℕ) (a : Answer) (x : List ℕ) (s : PutterState) → Puts old e n a x s → a ≡ no_memory → LacksMemory old a x s
lacks old e n a x s p is = let q = subst (λ (z : Answer). Puts old e n z x s) is p in (is, q.2, q.3)

pub one_answer_of_take : OneAnswer
one_answer_of_take old e n a b x y s u p q = by (one_answer old e n a b x y s u p q)
  where
    by : Alike old e n a b x y s u → ((a ≡ b) × (x ≡ y) × (s ≡ u)) ⊎ (LacksMemory old a x s ⊎ LacksMemory old b y u)
    by (inl same) = inl same
    by (inr (inl none)) = inr (inl (lacks old e n a x s p none))
    by (inr (inr none)) = inr (inr (lacks old e n b y u q none))

-- ---- a page that is begun

module _ (s : ComposerState) (n : ℕ) where
  -- what is made of the frame without rows
  abbrev Made : Result OwnedFrame BuildError → Result FrameValue BeginError → Type 0
  Made (Ok g) (Ok f) = (is_page (frame_of g).message ≡ true) × (f ≡ frame_with_rows n (frame_of g))
  Made (Ok g) (Err error.NoPage) = is_page (frame_of g).message ≡ false
  Made (Err why) (Err (error.Build other)) = why ≡ other
  Made q r = ⊥

  abbrev valued : Result OwnedFrame BeginError → Result FrameValue BeginError
  valued (Ok f) = Ok (frame_of f)
  valued (Err why) = Err why

  abbrev out_of_memory : Result FrameValue BeginError
  out_of_memory = Err (error.Build build_error.NoMemory)

  -- the count is refused, or the frame without rows ends so
  abbrev View : Result FrameValue BeginError → Type 0
  View r =
      ((why : BuildError) × (refusal_of s (rows_event 0) ≡ Some why) × (r ≡ Err (error.Build why)))
      ⊎ ((refusal_of s (rows_event 0) ≡ None) × (q : Result OwnedFrame BuildError) × Ends (without_rows s).frame.events q × Made q r)

  build_view : (why : BuildError) → (refusal_of s (rows_event 0) ≡ Some why) ⊎ ((refusal_of s (rows_event 0) ≡ None) × Ends (without_rows s).frame.events (Err why)) → View (Err (error.Build why))
  build_view why (inl r) = inl (why, r, refl)
  build_view why (inr p) = inr (p.0, Err why, p.1, refl)

  view : (r : Result OwnedFrame BeginError) → IsBare s n r → View (valued r) ⊎ (valued r ≡ out_of_memory)
  view (Ok f) b = inl (inr (b.0, Ok b.1, b.2, b.3))
  view (Err error.NoPage) b = inl (inr (b.0, Ok b.1, b.2, b.3))
  view (Err (error.Build build_error.NoMemory)) b = inr refl
  view (Err (error.Build build_error.Misplaced)) b = inl (build_view build_error.Misplaced b)
  view (Err (error.Build build_error.Unbuilt)) b = inl (build_view build_error.Unbuilt b)
  view (Err (error.Build build_error.TooManyFields)) b = inl (build_view build_error.TooManyFields b)
  view (Err (error.Build build_error.TooDeep)) b = inl (build_view build_error.TooDeep b)
  view (Err (error.Build build_error.TooManyBytes)) b = inl (build_view build_error.TooManyBytes b)
  view (Err (error.Build build_error.NoFrame)) b = inl (build_view build_error.NoFrame b)
  view (Err (error.Unfit why)) b = absurd b

  abbrev Same : (a b : Result FrameValue BeginError) → Type 0
  Same a b = (a ≡ b) ⊎ ((a ≡ out_of_memory) ⊎ (b ≡ out_of_memory))

  said : (why other : BuildError) → why ≡ other → other ≡ build_error.NoMemory → Err (error.Build why) ≡ out_of_memory
  said why other p q = ap (λ (w : BuildError). Err (error.Build w)) (p ∙ q)

  made_pages : (g k : OwnedFrame) (a b : Result FrameValue BeginError) → frame_of g ≡ frame_of k → Made (Ok g) a → Made (Ok k) b → a ≡ b
  made_pages g k (Ok f) (Ok h) same x y = ap (λ (v : FrameValue). Ok v) (x.1 ∙ ap (frame_with_rows n) same ∙ sym y.1)
  made_pages g k (Err error.NoPage) (Err error.NoPage) same x y = refl
  made_pages g k (Ok f) (Err error.NoPage) same x y = let d : true ≡ false = sym x.0 ∙ ap (λ (v : FrameValue). is_page v.message) same ∙ y in absurd cc
  made_pages g k (Err error.NoPage) (Ok f) same x y = let d : true ≡ false = sym y.0 ∙ ap (λ (v : FrameValue). is_page v.message) (sym same) ∙ x in absurd cc
  made_pages g k (Ok f) (Err (error.Build why)) same x y = absurd y
  made_pages g k (Ok f) (Err (error.Unfit why)) same x y = absurd y
  made_pages g k (Err error.NoPage) (Err (error.Build why)) same x y = absurd y
  made_pages g k (Err error.NoPage) (Err (error.Unfit why)) same x y = absurd y
  made_pages g k (Err (error.Build why)) b same x y = absurd x
  made_pages g k (Err (error.Unfit why)) b same x y = absurd x

  made_none : (why : BuildError) (a : Result FrameValue BeginError) → Made (Err why) a → a ≡ Err (error.Build why)
  made_none why (Err (error.Build other)) x = ap (λ (w : BuildError). Err (error.Build w)) (sym x)
  made_none why (Ok f) x = absurd x
  made_none why (Err error.NoPage) x = absurd x
  made_none why (Err (error.Unfit w)) x = absurd x

  one_end : (q r : Result OwnedFrame BuildError) (a b : Result FrameValue BeginError) → Ends (without_rows s).frame.events q → Ends (without_rows s).frame.events r → Made q a → Made r b → Same a b
  one_end (Ok g) (Ok k) a b p t x y = inl (made_pages g k a b (one_frame (without_rows s).frame.events g k p t) x y)
  one_end (Ok g) (Err why) a b p t x y = inr (inr (made_none why b y ∙ said why why refl (only_memory (without_rows s).frame.events g why p t)))
  one_end (Err why) (Ok k) a b p t x y = inr (inl (made_none why a x ∙ said why why refl (only_memory (without_rows s).frame.events k why t p)))
  one_end (Err why) (Err other) a b p t x y = by (one_reason (without_rows s).frame.events why other p t)
    where
      by : (why ≡ other) ⊎ ((why ≡ build_error.NoMemory) ⊎ (other ≡ build_error.NoMemory)) → Same a b
      by (inl e) = inl (made_none why a x ∙ ap (λ (w : BuildError). Err (error.Build w)) e ∙ sym (made_none other b y))
      by (inr (inl e)) = inr (inl (made_none why a x ∙ said why why refl e))
      by (inr (inr e)) = inr (inr (made_none other b y ∙ said other other refl e))

  one_view : (a b : Result FrameValue BeginError) → View a → View b → Same a b
  one_view a b (inl p) (inl q) =
      let same : p.0 ≡ q.0 = let d : Some p.0 ≡ Some q.0 = sym p.1 ∙ q.1 in cc in
      inl (p.2 ∙ ap (λ (k : BuildError). Err (error.Build k)) same ∙ sym q.2)
  one_view a b (inl p) (inr q) = let d : Some p.0 ≡ None = sym p.1 ∙ q.0 in absurd cc
  one_view a b (inr p) (inl q) = let d : None ≡ Some q.0 = sym p.0 ∙ q.1 in absurd cc
  one_view a b (inr p) (inr q) = one_end p.1 q.1 a b p.2 q.2 p.3 q.3

  one_bare : (a b : Result OwnedFrame BeginError) → IsBare s n a → IsBare s n b → Same (valued a) (valued b)
  one_bare a b x y = by (view a x) (view b y)
    where
      by : View (valued a) ⊎ (valued a ≡ out_of_memory) → View (valued b) ⊎ (valued b ≡ out_of_memory) → Same (valued a) (valued b)
      by (inr e) k = inr (inl e)
      by (inl v) (inr e) = inr (inr e)
      by (inl v) (inl w) = one_view (valued a) (valued b) v w

  never_memory : (f : OwnedFrame) → valued (Ok f) ≡ out_of_memory → ⊥
  never_memory f e = absurd cc

  -- two pages are one
  one_page : (f g : OwnedFrame) → IsBare s n (Ok f) → IsBare s n (Ok g) → frame_of f ≡ frame_of g
  one_page f g x y = by (one_bare (Ok f) (Ok g) x y)
    where
      by : Same (valued (Ok f)) (valued (Ok g)) → frame_of f ≡ frame_of g
      by (inl e) = cc
      by (inr (inl e)) = absurd (never_memory f e)
      by (inr (inr e)) = absurd (never_memory g e)

  reason_is : (a b : BeginError) → valued (Err a) ≡ valued (Err b) → a ≡ b
  reason_is a b e = cc

  same_by : (a b : BeginError) → a ≡ b → AreSame (Err a) (Err b)
  same_by (error.Build build_error.NoMemory) b e = tt
  same_by a (error.Build build_error.NoMemory) e = tt
  same_by a b e = e

  no_memory_left : (a : BeginError) (b : Result BegunPage BeginError) → valued (Err a) ≡ out_of_memory → AreSame (Err a) b
  no_memory_left (error.Build build_error.NoMemory) b e = tt
  no_memory_left a b e = absurd cc

  no_memory_right : (a : Result BegunPage BeginError) (b : BeginError) → valued (Err b) ≡ out_of_memory → AreSame a (Err b)
  no_memory_right (Ok x) (error.Build build_error.NoMemory) e = tt
  no_memory_right (Err (error.Build build_error.NoMemory)) (error.Build build_error.NoMemory) e = tt
  no_memory_right (Err a) (error.Build build_error.NoMemory) e = tt
  no_memory_right a b e = absurd cc

  two_reasons : (a b : BeginError) → IsBare s n (Err a) → IsBare s n (Err b) → AreSame (Err a) (Err b)
  two_reasons a b x y = by (one_bare (Err a) (Err b) x y)
    where
      by : Same (valued (Err a)) (valued (Err b)) → AreSame (Err a) (Err b)
      by (inl e) = same_by a b (reason_is a b e)
      by (inr (inl e)) = no_memory_left a (Err b) e
      by (inr (inr e)) = no_memory_right (Err a) b e

  page_or_reason : (f : OwnedFrame) (a : Result BegunPage BeginError) (b : BeginError) → IsBare s n (Ok f) → IsBare s n (Err b) → AreSame a (Err b)
  page_or_reason f a b x y = by (one_bare (Ok f) (Err b) x y)
    where
      by : Same (valued (Ok f)) (valued (Err b)) → AreSame a (Err b)
      by (inl e) = absurd cc
      by (inr (inl e)) = absurd (never_memory f e)
      by (inr (inr e)) = no_memory_right a b e

  reason_or_page : (a : BeginError) (g : OwnedFrame) (b : Result BegunPage BeginError) → IsBare s n (Err a) → IsBare s n (Ok g) → AreSame (Err a) b
  reason_or_page a g b x y = by (one_bare (Err a) (Ok g) x y)
    where
      by : Same (valued (Err a)) (valued (Ok g)) → AreSame (Err a) b
      by (inl e) = absurd cc
      by (inr (inl e)) = no_memory_left a b e
      by (inr (inr e)) = absurd (never_memory g e)

  module _ (len : ℕ) where
    two_pages : (x y : BegunPage) → Begins s n len (Ok x) → Begins s n len (Ok y) → AreSame (Ok x) (Ok y)
    two_pages x y p q =
        let same : frame_of p.0 ≡ frame_of q.0 = one_page p.0 q.0 p.1 q.1 in
        (p.2.1 ∙ same ∙ sym q.2.1, p.2.2 ∙ sym q.2.2, p.2.3 ∙ ap (λ (f : FrameValue). page_head f (said_len len)) same ∙ sym q.2.3)

    unfit_page : (why : Unfit) (y : BegunPage) → Begins s n len (Err (error.Unfit why)) → Begins s n len (Ok y) → ⊥
    unfit_page why y p q =
        let d : Some why ≡ None = sym p.2 ∙ ap (λ (f : FrameValue). page_unfit_of f (said_len len)) (one_page p.0 q.0 p.1 q.1) ∙ q.2.0 in
        absurd cc

    two_unfit : (a b : Unfit) → Begins s n len (Err (error.Unfit a)) → Begins s n len (Err (error.Unfit b)) → a ≡ b
    two_unfit a b p q =
        let d : Some a ≡ Some b = sym p.2 ∙ ap (λ (f : FrameValue). page_unfit_of f (said_len len)) (one_page p.0 q.0 p.1 q.1) ∙ q.2 in
        cc

    one_begun : (a b : Result BegunPage BeginError) → Begins s n len a → Begins s n len b → AreSame a b
    one_begun (Ok x) (Ok y) p q = two_pages x y p q
    one_begun (Ok x) (Err (error.Unfit why)) p q = absurd (unfit_page why x q p)
    one_begun (Ok x) (Err error.NoPage) p q = page_or_reason p.0 (Ok x) error.NoPage p.1 q
    one_begun (Ok x) (Err (error.Build why)) p q = page_or_reason p.0 (Ok x) (error.Build why) p.1 q
    one_begun (Err (error.Unfit why)) (Ok y) p q = absurd (unfit_page why y p q)
    one_begun (Err (error.Unfit why)) (Err (error.Unfit other)) p q = same_by (error.Unfit why) (error.Unfit other) (ap error.Unfit (two_unfit why other p q))
    one_begun (Err (error.Unfit why)) (Err error.NoPage) p q = page_or_reason p.0 (Err (error.Unfit why)) error.NoPage p.1 q
    one_begun (Err (error.Unfit why)) (Err (error.Build other)) p q = page_or_reason p.0 (Err (error.Unfit why)) (error.Build other) p.1 q
    one_begun (Err error.NoPage) (Ok y) p q = reason_or_page error.NoPage q.0 (Ok y) p q.1
    one_begun (Err error.NoPage) (Err (error.Unfit other)) p q = reason_or_page error.NoPage q.0 (Err (error.Unfit other)) p q.1
    one_begun (Err error.NoPage) (Err error.NoPage) p q = two_reasons error.NoPage error.NoPage p q
    one_begun (Err error.NoPage) (Err (error.Build other)) p q = two_reasons error.NoPage (error.Build other) p q
    one_begun (Err (error.Build why)) (Ok y) p q = reason_or_page (error.Build why) q.0 (Ok y) p q.1
    one_begun (Err (error.Build why)) (Err (error.Unfit other)) p q = reason_or_page (error.Build why) q.0 (Err (error.Unfit other)) p q.1
    one_begun (Err (error.Build why)) (Err error.NoPage) p q = two_reasons (error.Build why) error.NoPage p q
    one_begun (Err (error.Build why)) (Err (error.Build other)) p q = two_reasons (error.Build why) (error.Build other) p q

pub one_answer_of_begin : OneAnswerOfBegin
one_answer_of_begin s n len a b p q = one_begun s n len a b p q
