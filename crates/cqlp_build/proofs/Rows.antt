-- The cells of a row, one after the other, and those of rows.
use Rattle.std.proofs.Common.{◌≡◌, ℕ, zero, suc, ◌+◌, ◌-◌, ◌*◌, ◌<◌, ◌≤◌, ◌++◌, List, [], ◌∷◌, true, length, drop, take, Some, refl, sym, ap, ◌∙◌, subst, append-nil, append_assoc, arith, inl}
use Rattle.std.specs.List.{list_all}
use Rattle.std.proofs.lemmas.List.{drop_at, length-append, length-drop, take-append-drop}
use Rattle.std.proofs.lemmas.List.Folds.{list_all-append}
use Rattle.std.proofs.Math.Nat.{suc-mul}
use Rattle.cqlp_kind.specs.declared.kind.Kind.{Kind}
use Rattle.cqlp_kind.specs.Types.{Types, NoMore, Type_and, how_many}
use Rattle.cqlp_value.specs.Values.{Values, value_fits}
use Rattle.cqlp_message.specs.Bodies.{row_parts, rows_parts}
use Rattle.cqlp_message.specs.Parts.{Cell_is, cell_fits}
use Rattle.cqlp_build.specs.declared.held.FrameEvents.{FrameEvents}
use Rattle.cqlp_build.specs.declared.held.Fault.{Fault}
use Rattle.cqlp_build.specs.FrameEvents.{Builds, IsSound}
use Rattle.cqlp_build.specs.Productions.{BuildsCell, BuildsRow, column_type}
use Rattle.cqlp_build.specs.Emitted.{emitted}
use Rattle.cqlp_build.proofs.Several.{both, join}
use Rattle.cqlp_build.proofs.Steps.{as_builds, other_value, stuck, emitted_append, ◌then◌}

-- a cell of each of these columns, the first of which has this number
abbrev pub AreOf : (row column : ℕ) → Types → List Values → Type 0
AreOf row column ts vs = (length vs ≡ how_many ts) × (list_all cell_fits (row_parts row column ts vs) ≡ true)

abbrev pub BuildsFrom : (row column : ℕ) → Types → List Values → (old new : FrameEvents) → Type 0
BuildsFrom row column ts vs old new = Builds (λ ws. emitted (row_parts row column ts ws)) (AreOf row column ts) vs old new

module _ (row : ℕ) where
  nothing : (ws : List Values) → length ws ≡ 0 → ws ≡ []
  nothing [] e = refl
  nothing (w ∷ ws) e = absurd (omega (arith, e))

  pub none_built : (column : ℕ) (h : FrameEvents) → BuildsFrom row column NoMore [] h h
  none_built column h = record {
    made = λ s. (s, refl, (refl, refl));
    only = λ s ws rest p e. (nothing ws p.0, sym e);
    none = λ s. inl s;
  }

  first_view : (column : ℕ) (k : Kind) (inner ts : Types) (ws : List Values) → AreOf row column (Type_and k inner ts) ws
      → (a : Values × List Values) × ((value_fits k inner a.0 ≡ true) × AreOf row (column + 1) ts a.1) × (ws ≡ a.0 ∷ a.1)
  first_view column k inner ts [] p = absurd (omega (arith, p.0))
  first_view column k inner ts (w ∷ ws) p =
      let f = both (value_fits k inner w) (list_all cell_fits (row_parts row (column + 1) ts ws)) p.1 in
      ((w, ws), (f.0, (omega (arith, p.0), f.1)), refl)

  -- a cell, and those after it
  pub first_built : (column : ℕ) (k : Kind) (inner ts : Types) {v : Values} {vs : List Values} {a b c : FrameEvents}
      → BuildsCell row column (Type_and k inner NoMore) v a b → BuildsFrom row (column + 1) ts vs b c → BuildsFrom row column (Type_and k inner ts) (v ∷ vs) a c
  first_built column k inner ts one more =
      as_builds (λ ws. emitted (row_parts row column (Type_and k inner ts) ws)) (AreOf row column (Type_and k inner ts)) (λ p. p.0 ∷ p.1)
      (λ p q. refl)
      (λ p q. (omega (arith, q.1.0), join (value_fits k inner p.0) (list_all cell_fits (row_parts row (column + 1) ts p.1)) q.0 q.1.1))
      (first_view column k inner ts)
      (one then more)

  -- What is still to be built of a row, when these cells are, and columns of these types are left.
  pub record Remains (all : Types) (start now : FrameEvents) (column : ℕ) (ts : Types) (xs : List Values) : Type 0 where
    pub remains : (zs : List Values) (end : FrameEvents) → BuildsFrom row column ts zs now end → BuildsFrom row 0 all (xs ++ zs) start end

  pub remains_all : (all : Types) (start : FrameEvents) → Remains all start start 0 all []
  remains_all all start = record { remains = λ zs end h. h }

  pub remains_more : (all : Types) (start now next : FrameEvents) (column : ℕ) (k : Kind) (inner ts : Types) (xs : List Values) (v : Values)
      → Remains all start now column (Type_and k inner ts) xs → BuildsCell row column (Type_and k inner NoMore) v now next → Remains all start next (column + 1) ts (xs ++ v ∷ [])
  remains_more all start now next column k inner ts xs v r h = record {
    remains = λ zs end more. rw append_assoc (r.remains (v ∷ zs) end (first_built column k inner ts h more));
  }

  pub remains_none : (all : Types) (start now : FrameEvents) (column : ℕ) (xs : List Values) → Remains all start now column NoMore xs → BuildsFrom row 0 all xs start now
  remains_none all start now column xs r = rw append-nil at (r.remains [] now (none_built column now))

  pub remains_stuck : (all : Types) (start now : FrameEvents) (column : ℕ) (ts : Types) (xs ys : List Values) (f : Fault) → now.fault ≡ Some f → Remains all start now column ts xs → BuildsFrom row 0 all ys start now
  remains_stuck all start now column ts xs ys f e r = other_value ys f e (r.remains [] now (stuck [] f e))

-- ---- the columns of a row

-- the columns from this one on
abbrev pub columns_from : (column : ℕ) → Types → Types
columns_from zero ts = ts
columns_from (suc n) NoMore = NoMore
columns_from (suc n) (Type_and k inner ts) = columns_from n ts

next_column : (n : ℕ) (ts : Types) → n < how_many ts
    → (k : Kind) × (inner : Types) × (columns_from n ts ≡ Type_and k inner (columns_from (suc n) ts)) × (column_type n ts ≡ Type_and k inner NoMore)
next_column n NoMore h = absurd (omega (arith, h))
next_column zero (Type_and k inner ts) h = (k, inner, refl, refl)
next_column (suc n) (Type_and k inner ts) h = next_column n ts (omega (arith, h))

no_column : (n : ℕ) (ts : Types) → how_many ts ≤ n → columns_from n ts ≡ NoMore
no_column zero NoMore h = refl
no_column zero (Type_and k inner ts) h = absurd (omega (arith, h))
no_column (suc n) NoMore h = refl
no_column (suc n) (Type_and k inner ts) h = no_column n ts (omega (arith, h))

-- How far a row is built, whose first cells are behind others.
pub record Row (row : ℕ) (ts : Types) (before : List Values) (start now : FrameEvents) (column : ℕ) (cells : List Values) : Type 0 where
  pub made : List Values
  pub same : cells ≡ before ++ made
  pub due : Remains row ts start now column (columns_from column ts) made
  pub sound : IsSound now

-- the cells that are there are others and those of a row
abbrev pub HasRow : (row : ℕ) → Types → (before cells : List Values) → (start now : FrameEvents) → Type 0
HasRow row ts before cells start now = (made : List Values) × (cells ≡ before ++ made) × BuildsRow row ts made start now

module _ (row : ℕ) (ts : Types) (before : List Values) (start : FrameEvents) where
  pub row_begins : IsSound start → Row row ts before start start 0 before
  row_begins s = record { made = []; same = sym (append-nil before); due = remains_all row ts start; sound = s }

  module _ (now next : FrameEvents) (column : ℕ) (cells : List Values) (v : Values) (within : column < how_many ts) (r : Row row ts before start now column cells) (h : BuildsCell row column (column_type column ts) v now next) where
    more : Remains row ts start next (column + 1) (columns_from (suc column) ts) (r.made ++ v ∷ [])
    more =
        let c = next_column column ts within in
        remains_more row ts start now next column c.0 c.1 (columns_from (suc column) ts) r.made v
        (subst (λ (us : Types). Remains row ts start now column us r.made) c.2 r.due)
        (subst (λ (us : Types). BuildsCell row column us v now next) c.3 h)

    pub row_goes : (after : List Values) → after ≡ cells ++ v ∷ [] → IsSound next → Row row ts before start next (column + 1) after
    row_goes after e s =
        let same : suc column ≡ column + 1 = omega arith in
        record {
          made = r.made ++ v ∷ [];
          same = e ∙ ap (λ xs. xs ++ v ∷ []) r.same ∙ append_assoc before r.made (v ∷ []);
          due = subst (λ (n : ℕ). Remains row ts start next (column + 1) (columns_from n ts) (r.made ++ v ∷ [])) same more;
          sound = s;
        }

    pub row_stops : (f : Fault) → next.fault ≡ Some f → HasRow row ts before cells start next
    row_stops f e = (r.made, r.same, remains_stuck row ts start next (column + 1) (columns_from (suc column) ts) (r.made ++ v ∷ []) r.made f e more)

  pub row_ends : (now : FrameEvents) (column : ℕ) (cells : List Values) → how_many ts ≤ column → Row row ts before start now column cells → HasRow row ts before cells start now
  row_ends now column cells over r =
      (r.made, r.same, remains_none row ts start now column r.made (subst (λ (us : Types). Remains row ts start now column us r.made) (no_column column ts over) r.due))

-- ---- rows

-- a cell of each column of each of these rows
abbrev pub AreRows : (row rows : ℕ) → Types → List Values → Type 0
AreRows row n ts vs = (length vs ≡ n * how_many ts) × (list_all cell_fits (rows_parts row ts n vs) ≡ true)

abbrev pub BuildsRows : (row rows : ℕ) → Types → List Values → (old new : FrameEvents) → Type 0
BuildsRows row n ts vs old new = Builds (λ ws. emitted (rows_parts row ts n ws)) (AreRows row n ts) vs old new

-- more cells change no row
row_more : (row column : ℕ) (ts : Types) (vs ws : List Values) → length vs ≡ how_many ts → row_parts row column ts (vs ++ ws) ≡ row_parts row column ts vs
row_more row column NoMore vs ws is = refl
row_more row column (Type_and k inner others) [] ws is = absurd (omega (arith, is))
row_more row column (Type_and k inner others) (v ∷ vs) ws is = ap (λ t. Cell_is row column k inner v ∷ t) (row_more row (column + 1) others vs ws (omega (arith, is)))

pub rows_more : (row : ℕ) (ts : Types) (n : ℕ) (vs ws : List Values) → length vs ≡ how_many ts → rows_parts row ts (suc n) (vs ++ ws) ≡ row_parts row 0 ts vs ++ rows_parts (row + 1) ts n ws
rows_more row ts n vs ws is = rw (row_more row 0 ts vs ws is, drop_at vs ws (how_many ts) is) refl

module _ (ts : Types) where
  pub no_rows : (row : ℕ) (h : FrameEvents) → BuildsRows row 0 ts [] h h
  no_rows row h = record {
    made = λ s. (s, refl, (omega arith, refl));
    only = λ s ws rest p e. (nothing row ws (omega (arith, p.0)), sym e);
    none = λ s. inl s;
  }

  abbrev both_rows : List Values × List Values → List Values
  both_rows p = p.0 ++ p.1

  abbrev AreBoth : (row n : ℕ) → List Values × List Values → Type 0
  AreBoth row n p = AreOf row 0 ts p.0 × AreRows (row + 1) n ts p.1

  rows_said : (row n : ℕ) (p : List Values × List Values) → AreBoth row n p
      → emitted (rows_parts row ts (suc n) (both_rows p)) ≡ emitted (row_parts row 0 ts p.0) ++ emitted (rows_parts (row + 1) ts n p.1)
  rows_said row n p q = ap emitted (rows_more row ts n p.0 p.1 q.0.0) ∙ emitted_append (row_parts row 0 ts p.0) (rows_parts (row + 1) ts n p.1)

  rows_on : (row n : ℕ) (p : List Values × List Values) → AreBoth row n p → AreRows row (suc n) ts (both_rows p)
  rows_on row n p q =
      let one = row_parts row 0 ts p.0 in
      let others = rows_parts (row + 1) ts n p.1 in (
        omega (arith, length-append p.0 p.1, q.0.0, q.1.0, suc-mul n (how_many ts)),
        ap (list_all cell_fits) (rows_more row ts n p.0 p.1 q.0.0) ∙ list_all-append cell_fits one others ∙ join (list_all cell_fits one) (list_all cell_fits others) q.0.1 q.1.1,
      )

  rows_view : (row n : ℕ) (ws : List Values) → AreRows row (suc n) ts ws → (p : List Values × List Values) × AreBoth row n p × (ws ≡ both_rows p)
  rows_view row n ws q =
      let vs = take (how_many ts) ws in
      let us = drop (how_many ts) ws in
      let is : ws ≡ vs ++ us = sym (take-append-drop (how_many ts) ws) in
      let all : how_many ts ≤ length ws = omega (arith, q.0, suc-mul n (how_many ts)) in
      let len : length vs ≡ how_many ts = omega (arith, length-drop (how_many ts) ws, length-append vs us, ap length is, all) in
      let rest : length us ≡ n * how_many ts = omega (arith, length-drop (how_many ts) ws, q.0, suc-mul n (how_many ts)) in
      let one = row_parts row 0 ts vs in
      let others = rows_parts (row + 1) ts n us in
      let fits = sym (list_all-append cell_fits one others) ∙ (ap (list_all cell_fits) (sym (rows_more row ts n vs us len)) ∙ (ap (λ (xs : List Values). list_all cell_fits (rows_parts row ts (suc n) xs)) (sym is) ∙ q.1)) in
      let f = both (list_all cell_fits one) (list_all cell_fits others) fits in
      ((vs, us), ((len, f.0), (rest, f.1)), is)

  -- a row, and those after it
  pub first_row : (row n : ℕ) {vs ws : List Values} {a b c : FrameEvents} → BuildsRow row ts vs a b → BuildsRows (row + 1) n ts ws b c → BuildsRows row (suc n) ts (vs ++ ws) a c
  first_row row n one more =
      as_builds (λ xs. emitted (rows_parts row ts (suc n) xs)) (AreRows row (suc n) ts) both_rows (rows_said row n) (rows_on row n) (rows_view row n)
      (one then more)

  -- What is still to be built of rows, when these cells are.
  pub record RowsRemain (rows : ℕ) (start now : FrameEvents) (row : ℕ) (xs : List Values) : Type 0 where
    pub remain : (k : ℕ) (zs : List Values) (end : FrameEvents) → row + k ≡ rows → BuildsRows row k ts zs now end → BuildsRows 0 rows ts (xs ++ zs) start end

  pub rows_begin : (rows : ℕ) (start : FrameEvents) → RowsRemain rows start start 0 []
  rows_begin rows start = record { remain = λ k zs end e h. let is : k ≡ rows = omega (arith, e) in subst (λ (m : ℕ). BuildsRows 0 m ts zs start end) is h }

  pub rows_go : (rows : ℕ) (start now next : FrameEvents) (row : ℕ) (xs vs : List Values) → RowsRemain rows start now row xs → BuildsRow row ts vs now next → RowsRemain rows start next (row + 1) (xs ++ vs)
  rows_go rows start now next row xs vs r h = record {
    remain = λ k zs end e more. rw append_assoc (r.remain (suc k) (vs ++ zs) end (omega (arith, e)) (first_row row k h more));
  }

  pub rows_end : (rows : ℕ) (start now : FrameEvents) (row : ℕ) (xs : List Values) → row ≤ rows → rows ≤ row → RowsRemain rows start now row xs → BuildsRows 0 rows ts xs start now
  rows_end rows start now row xs l m r = rw append-nil at (r.remain 0 [] now (omega (arith, l, m)) (no_rows row now))

  -- a fault ends it
  pub rows_stuck : (rows : ℕ) (start now : FrameEvents) (row : ℕ) (xs ys : List Values) (f : Fault) → row ≤ rows → now.fault ≡ Some f → RowsRemain rows start now row xs → BuildsRows 0 rows ts ys start now
  rows_stuck rows start now row xs ys f l e r = other_value ys f e (r.remain (rows - row) [] now (omega (arith, l)) (stuck [] f e))
