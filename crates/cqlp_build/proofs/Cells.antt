-- The events of cells: where those of one end, and which value they are of.
use Rattle.std.proofs.Common.{◌≡◌, ℕ, suc, ◌+◌, ◌++◌, ◌&&◌, Bool, true, false, List, [], ◌∷◌, map, Option, Some, None, Ok, Err, refl, sym, ap, ◌∙◌, append-nil, append_assoc, arith, inl, inr}
use Rattle.std.specs.Prelude.{◌==◌, not}
use Rattle.std.proofs.Math.Dec.{eqb-suc-zero}
use Rattle.std.specs.Prelude.{OnOk, Result, is_err}
use Rattle.cqlp_note.specs.Limits.{Rules}
use Rattle.cqlp_kind.specs.declared.kind.Kind.{Kind}
use Rattle.cqlp_kind.specs.CellStep.{CellEvent, Leaf, Null, Empty, Enter, Leave, Part}
use Rattle.cqlp_kind.specs.Types.{Types, NoMore, Type_and, first_types, how_many}
use Rattle.cqlp_value.specs.Values.{Values, NoValue, Null_and, Empty_and, Scalar_and, Counted_and, Fields_and, values_in, type_copies}
use Rattle.cqlp_value.specs.Owned.{value_of}
use Rattle.cqlp_value.specs.declared.value.Value.{Value}
use Rattle.cqlp_grammar.specs.Events.{Event, cell_event}
use Rattle.cqlp_build_cells.specs.Building.{AreEventsOf, FinishesAs, cell_of, ends}
use Rattle.cqlp_build_cells.specs.CellEvents as cell
use Rattle.cqlp_build_cells.specs.Said.{Fit, values_said}
use Rattle.cqlp_build_cells.specs.declared.held.CellEvents.{CellEvents as CellHeld}
use Rattle.cqlp_build_cells.specs.declared.error.CellError.{CellError}
use Rattle.cqlp_build_cells.specs.declared.error.CellError.TheVariants as error
use Rattle.cqlp_build_cells.proofs.Whole.{are_said, items_said}
use Rattle.cqlp_build.specs.declared.held.Fault.{Fault}
use Rattle.cqlp_build.specs.declared.held.Fault.TheVariants as fault
use Rattle.cqlp_build.specs.declared.held.FrameEvents.{FrameEvents}
use Rattle.std.proofs.lemmas.List.{map-append}
use Rattle.cqlp_build_cells.specs.declared.step.Step.{Step}
use Rattle.cqlp_build.specs.FrameEvents.{IsSound, TakesStep, first_fault, left}
use Rattle.cqlp_build.specs.Productions.{BuildsCell, Gathers, KeepsFault, ends_at_last, fault_of}
use Rattle.cqlp_build.proofs.Several.{both, join}
use Rattle.cqlp_build.proofs.Steps.{no_memory}

-- ---- where a cell ends

abbrev none_ends : List CellEvent → Bool
none_ends [] = true
none_ends (e ∷ es) = not (ends e) && none_ends es

none_both : (xs ys : List CellEvent) → none_ends xs ≡ true → none_ends ys ≡ true → none_ends (xs ++ ys) ≡ true
none_both [] ys p q = q
none_both (x ∷ xs) ys p q =
    let r = both (not (ends x)) (none_ends xs) p in
    join (not (ends x)) (none_ends (xs ++ ys)) r.0 (none_both xs ys r.1 q)

one_more : (n : ℕ) → (n + 1 == 0) ≡ false
one_more n =
    let same : n + 1 ≡ suc n = omega arith in
    ap (λ m. m == 0) same ∙ eqb-suc-zero n

-- no event within a value ends its cell
inside_none : (n : ℕ) → (n == 0) ≡ false → (ts : Types) (vs : Values) → none_ends (values_said n ts vs) ≡ true
inside_none n z NoMore vs = refl
inside_none n z (Type_and k inner ts) NoValue = refl
inside_none n z (Type_and k inner ts) (Null_and vs) = join (not (n == 0)) (none_ends (values_said n ts vs)) (ap not z) (inside_none n z ts vs)
inside_none n z (Type_and k inner ts) (Empty_and vs) = join (not (n == 0)) (none_ends (values_said n ts vs)) (ap not z) (inside_none n z ts vs)
inside_none n z (Type_and k inner ts) (Scalar_and v vs) = join (not (n == 0)) (none_ends (values_said n ts vs)) (ap not z) (inside_none n z ts vs)
inside_none n z (Type_and k inner ts) (Counted_and j c items vs) =
    none_both (values_said (n + 1) (type_copies c inner) items) (Leave n c ∷ values_said n ts vs) (inside_none (n + 1) (one_more n) (type_copies c inner) items)
    (join (not (n == 0)) (none_ends (values_said n ts vs)) (ap not z) (inside_none n z ts vs))
inside_none n z (Type_and k inner ts) (Fields_and j items vs) =
    none_both (values_said (n + 1) (first_types (values_in items) inner) items) (Leave n (values_in items) ∷ values_said n ts vs)
    (inside_none (n + 1) (one_more n) (first_types (values_in items) inner) items)
    (join (not (n == 0)) (none_ends (values_said n ts vs)) (ap not z) (inside_none n z ts vs))

at_last : (es : List CellEvent) (e : CellEvent) → none_ends es ≡ true → ends e ≡ true → ends_at_last (es ++ e ∷ []) ≡ true
at_last [] e n h = h
at_last (x ∷ []) e n h = join (not (ends x)) (ends e) (both (not (ends x)) true n).0 h
at_last (x ∷ y ∷ es) e n h =
    let p = both (not (ends x)) (none_ends (y ∷ es)) n in
    join (not (ends x)) (ends_at_last (y ∷ es ++ e ∷ [])) p.0 (at_last (y ∷ es) e p.1 h)

-- nothing comes of a cell after the last event of its value, and of no other
pub cell_ends : (k : Kind) (inner : Types) (v : Values) → Fit (Type_and k inner NoMore) v → ends_at_last (values_said 0 (Type_and k inner NoMore) v) ≡ true
cell_ends k inner NoValue f = absurd cc
cell_ends k inner (Null_and vs) f = refl
cell_ends k inner (Empty_and vs) f = refl
cell_ends k inner (Scalar_and v vs) f = refl
cell_ends k inner (Counted_and j c items vs) f =
    at_last (Enter 0 k c ∷ values_said 1 (type_copies c inner) items) (Leave 0 c) (inside_none 1 refl (type_copies c inner) items) refl
cell_ends k inner (Fields_and j items vs) f =
    at_last (Enter 0 k (how_many inner) ∷ values_said 1 (first_types (values_in items) inner) items) (Leave 0 (values_in items))
    (inside_none 1 refl (first_types (values_in items) inner) items) refl

-- ---- one cell comes first

emitted_back : (row column : ℕ) (e : CellEvent) → cell_of (cell_event row column e) ≡ Some e
emitted_back row column (Leaf level v) = refl
emitted_back row column (Null level) = refl
emitted_back row column (Empty level) = refl
emitted_back row column (Enter level k n) = refl
emitted_back row column (Leave level n) = refl
emitted_back row column (Part level offset c last) = refl

same_emitted : (row column : ℕ) (e d : CellEvent) → cell_event row column e ≡ cell_event row column d → e ≡ d
same_emitted row column e d h =
    let s : Some e ≡ Some d = sym (emitted_back row column e) ∙ (ap cell_of h ∙ emitted_back row column d) in
    cc

never_both : (e d : CellEvent) → e ≡ d → ends e ≡ true → not (ends d) ≡ true → ⊥
never_both e d h p q = let r : not true ≡ true = ap not (sym p ∙ ap ends h) ∙ q in absurd cc

module _ (row column : ℕ) where
  abbrev emitted : List CellEvent → List Event
  emitted es = map (cell_event row column) es

  pub one_cell : (es fs : List CellEvent) → ends_at_last es ≡ true → ends_at_last fs ≡ true → (r s : List Event) → emitted es ++ r ≡ emitted fs ++ s → (es ≡ fs) × (r ≡ s)
  one_cell [] fs p q r s h = absurd cc
  one_cell (e ∷ es) [] p q r s h = absurd cc
  one_cell (e ∷ []) (f ∷ []) p q r s h =
      let first : cell_event row column e ≡ cell_event row column f = cc in
      let rest : r ≡ s = cc in
      (ap (λ x. x ∷ []) (same_emitted row column e f first), rest)
  one_cell (e ∷ []) (f ∷ g ∷ fs) p q r s h =
      let first : cell_event row column e ≡ cell_event row column f = cc in
      absurd (never_both e f (same_emitted row column e f first) p (both (not (ends f)) (ends_at_last (g ∷ fs)) q).0)
  one_cell (e ∷ d ∷ es) (f ∷ []) p q r s h =
      let first : cell_event row column e ≡ cell_event row column f = cc in
      absurd (never_both f e (sym (same_emitted row column e f first)) q (both (not (ends e)) (ends_at_last (d ∷ es)) p).0)
  one_cell (e ∷ d ∷ es) (f ∷ g ∷ fs) p q r s h =
      let first : cell_event row column e ≡ cell_event row column f = cc in
      let later : emitted (d ∷ es) ++ r ≡ emitted (g ∷ fs) ++ s = cc in
      let o = one_cell (d ∷ es) (g ∷ fs) (both (not (ends e)) (ends_at_last (d ∷ es)) p).1 (both (not (ends f)) (ends_at_last (g ∷ fs)) q).1 r s later in
      let same = same_emitted row column e f first in
      (λ i. same i ∷ o.0 i, o.1)

  -- the events of a cell that has not ended are not all of it
  pub not_over : (es fs : List CellEvent) → none_ends es ≡ true → ends_at_last fs ≡ true → (r s : List Event) → emitted es ++ r ≡ emitted fs ++ s
      → (e : CellEvent) × (more : List Event) × (r ≡ cell_event row column e ∷ more)
  not_over es [] n q r s h = absurd cc
  not_over [] (f ∷ fs) n q r s h = (f, emitted fs ++ s, h)
  not_over (e ∷ es) (f ∷ []) n q r s h =
      let first : cell_event row column e ≡ cell_event row column f = cc in
      absurd (never_both f e (sym (same_emitted row column e f first)) q (both (not (ends e)) (none_ends es) n).0)
  not_over (e ∷ es) (f ∷ g ∷ fs) n q r s h =
      let later : emitted es ++ r ≡ emitted (g ∷ fs) ++ s = cc in
      not_over es (g ∷ fs) (both (not (ends e)) (none_ends es) n).1 (both (not (ends f)) (ends_at_last (g ∷ fs)) q).1 r s later

-- ---- gathering

pub on_ok : {A E P : Type 0} (r : Result A E) → is_err r ≡ false → OnOk r P → P
on_ok (Ok a) e p = p
on_ok (Err x) e p = absurd cc

-- what has come of a cell that has not ended
pub record Comes (row column : ℕ) (start now : FrameEvents) : Type 0 where
  pub fault : now.fault ≡ start.fault
  pub came : left start ≡ map (cell_event row column) (cell.left now.cell) ++ left now
  pub none : none_ends (cell.left now.cell) ≡ true

module _ (row column : ℕ) (start now next new : FrameEvents) (c : Comes row column start now) (s : ℕ × Step) (t : TakesStep row column (Some s) now next)
    (fault : new.fault ≡ next.fault) (rest : left new ≡ left next) (held : cell.left new.cell ≡ cell.left now.cell ++ cell.emitted_by s ∷ []) where
  come : left start ≡ map (cell_event row column) (cell.left new.cell) ++ left new
  come =
      let es = map (cell_event row column) (cell.left now.cell) in
      let e = cell_event row column (cell.emitted_by s) in
      c.came ∙ (ap (λ r. es ++ r) t.1 ∙ (ap (λ r. es ++ e ∷ r) (sym rest)
      ∙ (sym (append_assoc es (e ∷ []) (left new)) ∙ ap (λ r. r ++ left new) (sym (map-append (cell_event row column) (cell.left now.cell) (cell.emitted_by s ∷ [])) ∙ ap (map (cell_event row column)) (sym held)))))

  pub comes_on : ends (cell.emitted_by s) ≡ false → Comes row column start new
  comes_on e = record {
    fault = fault ∙ (t.2 ∙ (sym t.0 ∙ c.fault));
    came = come;
    none = ap none_ends held ∙ none_both (cell.left now.cell) (cell.emitted_by s ∷ []) c.none (ap (λ b. not b && true) e);
  }

  pub comes_whole : ends (cell.emitted_by s) ≡ true → Gathers row column true start new
  comes_whole e = (sym c.fault ∙ t.0, fault ∙ t.2, come, ap ends_at_last held ∙ at_last (cell.left now.cell) (cell.emitted_by s) c.none e)

pub comes_not : (row column : ℕ) (start now new : FrameEvents) → Comes row column start now → TakesStep row column None now new → Gathers row column false start new
comes_not row column start now new c t = inr (
  t.0 ∙ c.fault,
  λ s es rest q e.
      let o = not_over row column (cell.left now.cell) es c.none q (left now) rest (sym c.came ∙ e) in
      t.1 (c.fault ∙ s) o.0 o.1 o.2,
)

-- ---- its value

abbrev whole_limits : Rules
whole_limits = record { text = 0; cell = 0; entries = 0; depth = 0; part = 0; types = true; parts = false; lenient = false }

are_of : (h : CellHeld) (ts : Types) (w : Values) → values_said 0 ts w ≡ cell.left h → AreEventsOf (cell.left h) ts w
are_of h ts w e = record { rules = whole_limits; at = 0; are = items_said whole_limits 0 0 ts w (inl refl) ∙ e }

said_of : (h : CellHeld) (ts : Types) (w : Values) → AreEventsOf (cell.left h) ts w → cell.left h ≡ values_said 0 ts w
said_of h ts w a = are_said h ts w a ∙ append-nil (values_said 0 ts w)

module _ (row column : ℕ) (k : Kind) (inner : Types) (old mid new : FrameEvents) (same : new.fault ≡ mid.fault) (rest : left new ≡ left mid) (g : Gathers row column true old mid) where
  abbrev ts : Types
  ts = Type_and k inner NoMore

  -- what comes first is the value's, if it is any value's
  first_of : (w : Values) (more : List Event) → Fit ts w → left old ≡ map (cell_event row column) (values_said 0 ts w) ++ more
      → (cell.left mid.cell ≡ values_said 0 ts w) × (left mid ≡ more)
  first_of w more f e =
      one_cell row column (cell.left mid.cell) (values_said 0 ts w) g.3 (cell_ends k inner w f) (left mid) more (sym g.2 ∙ e)

  pub value_built : (v : Value) → FinishesAs (cell.left mid.cell) ts (Ok v) → BuildsCell row column ts (value_of v) old new
  value_built v b = record {
    made = λ s. (
      g.0,
      g.2 ∙ (ap (λ es. map (cell_event row column) es ++ left mid) (said_of mid.cell ts (value_of v) b.are) ∙ ap (λ r. map (cell_event row column) (values_said 0 ts (value_of v)) ++ r) (sym rest)),
      b.fits,
    );
    only = λ s w more f e.
        let o = first_of w more f e in
        (b.only w f (are_of mid.cell ts w (sym o.0)), sym o.1 ∙ sym rest);
    none = λ r. let d : None ≡ Some fault.NoFrame = sym g.1 ∙ (sym same ∙ r) in absurd cc;
  }

module _ (row column : ℕ) (k : Kind) (inner : Types) (old mid new : FrameEvents) (g : Gathers row column true old mid) (v : Values) where
  none_of : FinishesAs (cell.left mid.cell) (Type_and k inner NoMore) (Err error.NoValue) → new.fault ≡ Some fault.NoFrame → BuildsCell row column (Type_and k inner NoMore) v old new
  none_of n r = record {
    made = λ s. absurd cc;
    only = λ s. absurd cc;
    none = λ _. inr (
      g.0,
      λ w more f e.
          let o = one_cell row column (cell.left mid.cell) (values_said 0 (Type_and k inner NoMore) w) g.3 (cell_ends k inner w f) (left mid) more (sym g.2 ∙ e) in
          n w f (are_of mid.cell (Type_and k inner NoMore) w (sym o.0)),
    );
  }

  pub value_refused : (why : CellError) → FinishesAs (cell.left mid.cell) (Type_and k inner NoMore) (Err why) → new.fault ≡ first_fault mid.fault (fault_of why)
      → BuildsCell row column (Type_and k inner NoMore) v old new
  value_refused error.NoValue n r = none_of n (r ∙ ap (λ f. first_fault f fault.NoFrame) g.1)
  value_refused error.NoMemory n r = no_memory v (r ∙ ap (λ f. first_fault f fault.NoMemory) g.1)
  value_refused error.Misplaced n r = absurd n
  value_refused error.InParts n r = absurd n
  value_refused error.TooManyEvents n r = absurd n
  value_refused error.TooManyBytes n r = absurd n
  value_refused error.Unformed n r = absurd n

-- ---- it did not come

module _ (row column : ℕ) (k : Kind) (inner : Types) (old mid new : FrameEvents) (v : Values) where
  cell_of_fault : (o : Option Fault) → old.fault ≡ o → mid.fault ≡ old.fault
      → (IsSound old → (es : List CellEvent) (rest : List Event) → ends_at_last es ≡ true → left old ≡ map (cell_event row column) es ++ rest → ⊥)
      → new.fault ≡ first_fault mid.fault fault.NoFrame → BuildsCell row column (Type_and k inner NoMore) v old new
  cell_of_fault None s m n r =
      let f : new.fault ≡ Some fault.NoFrame = r ∙ ap (λ x. first_fault x fault.NoFrame) (m ∙ s) in
      record {
        made = λ t. absurd cc;
        only = λ t. absurd cc;
        none = λ _. inr (s, λ w more fit e. n s (values_said 0 (Type_and k inner NoMore) w) more (cell_ends k inner w fit) e);
      }
  cell_of_fault (Some y) s m n r =
      let f : new.fault ≡ Some y = r ∙ ap (λ x. first_fault x fault.NoFrame) (m ∙ s) in
      record {
        made = λ t. absurd cc;
        only = λ t. absurd cc;
        none = λ t. inl (s ∙ (sym f ∙ t));
      }

  pub not_gathered : Gathers row column false old mid → new.fault ≡ first_fault mid.fault fault.NoFrame → BuildsCell row column (Type_and k inner NoMore) v old new
  not_gathered (inl m) r = no_memory v (r ∙ ap (λ f. first_fault f fault.NoFrame) m)
  not_gathered (inr m) r = cell_of_fault old.fault refl m.0 m.1 r

-- what is not refused was not
pub still_sound : (row column : ℕ) (old mid : FrameEvents) → Gathers row column false old mid → IsSound mid → IsSound old
still_sound row column old mid (inl m) s = let d : None ≡ Some fault.NoMemory = sym s ∙ m in absurd cc
still_sound row column old mid (inr m) s = sym m.0 ∙ s

pub still_not_gathered : (row column : ℕ) (old mid new : FrameEvents) → Gathers row column false old mid → KeepsFault mid new → Gathers row column false old new
still_not_gathered row column old mid new (inl m) (inl k) = inl (k ∙ m)
still_not_gathered row column old mid new (inr m) (inl k) = inr (k ∙ m.0, m.1)
still_not_gathered row column old mid new g (inr k) = inl k
