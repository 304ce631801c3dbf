-- The first fields of a tuple or a user-defined type.
use Rattle.std.proofs.Common.{◌≡◌, ℕ, zero, suc, ◌+◌, ◌<◌, ◌≤◌, ◌++◌, ◌&&◌, ◌^◌, true, false, ltb, get_or, List, [], ◌∷◌, drop, length, Some, refl, sym, ap, ◌∙◌, subst, append_assoc, arith}
use Rattle.cqlp_kind.specs.declared.kind.Kind.{Kind}
use Rattle.cqlp_kind.specs.Scalars.{kind_of, scalar_fits}
use Rattle.cqlp_kind.specs.Types.{Types, NoMore, Type_and, first_types, is_kind}
use Rattle.cqlp_kind.specs.CellStep.{CellEvent, Leave}
use Rattle.cqlp_cell.specs.Sizes.{is_counted}
use Rattle.cqlp_type.specs.Trees.{kind_in, types_in}
use Rattle.cqlp_type.specs.TypeTrees.{head_of, inner_of}
use Rattle.cqlp_type.specs.declared.tree.TypeTree.{TypeTree}
use Rattle.cqlp_value.specs.Measures.{types_by}
use Rattle.cqlp_value.specs.Values.{Values, NoValue, Null_and, Empty_and, Scalar_and, Counted_and, Fields_and, values_in, values_fit, type_copies, has_fields}
use Rattle.cqlp_value.proofs.ReadBack.{with_others, values_in_after}
use Rattle.cqlp_build_cells.specs.declared.held.Fault.{Fault}
use Rattle.cqlp_build_cells.specs.declared.held.CellEvents.{CellEvents}
use Rattle.cqlp_build_cells.specs.CellEvents.{Builds, any, begins_with_leave, left}
use Rattle.cqlp_build_cells.specs.Said.{AreFirst, Fit, fields_said, values_said}
use Rattle.cqlp_build_cells.proofs.Said.{fit_both, no_leave, none_fit, others_assoc, others_none, said_both}
use Rattle.cqlp_build_cells.proofs.Several.{BuildsAll}
use Rattle.cqlp_build_cells.proofs.Steps.{as_builds, both, free, join, other_value, stuck, ◌then◌}

-- one value or more
abbrev pub IsSome : Values → Type 0
IsSome vs = 0 < values_in vs

abbrev one_type : Kind → Types → Types
one_type k inner = Type_and k inner NoMore

single : (k : Kind) (inner : Types) (vs : Values) → Fit (one_type k inner) vs → values_in vs ≡ 1
single k inner NoValue f = absurd cc
single k inner (Null_and vs) f = ap suc (ap values_in (none_fit vs f))
single k inner (Empty_and vs) f = ap suc (ap values_in (none_fit vs f))
single k inner (Scalar_and v vs) f = ap suc (ap values_in (none_fit vs (both (is_kind (kind_of v) k && scalar_fits v) (values_fit NoMore vs) f).1))
single k inner (Counted_and j n items vs) f = ap suc (ap values_in (none_fit vs (both (is_kind j k && is_counted k && ltb n (2 ^ 31) && values_fit (type_copies n inner) items) (values_fit NoMore vs) f).1))
single k inner (Fields_and j items vs) f = ap suc (ap values_in (none_fit vs (both (is_kind j k && has_fields k && ltb 0 (values_in items) && values_fit (first_types (values_in items) inner) items) (values_fit NoMore vs) f).1))

one_more : (k : Kind) (inner : Types) (vs ws : Values) → Fit (one_type k inner) vs → values_in (with_others vs ws) ≡ suc (values_in ws)
one_more k inner vs ws f = omega (arith, values_in_after vs ws, single k inner vs f)

abbrev AreBoth : Kind → Types → Types → Values × Values → Type 0
AreBoth k inner rest p = Fit (one_type k inner) p.0 × AreFirst rest p.1

first_on : (k : Kind) (inner rest : Types) (p : Values × Values) → AreBoth k inner rest p → AreFirst (Type_and k inner rest) (with_others p.0 p.1) × IsSome (with_others p.0 p.1)
first_on k inner rest p q =
    let many = one_more k inner p.0 p.1 q.0 in (
      subst (λ (n : ℕ). Fit (first_types n (Type_and k inner rest)) (with_others p.0 p.1)) (sym many) (fit_both (one_type k inner) (first_types (values_in p.1) rest) p.0 p.1 q.0 q.1),
      omega (arith, many),
    )

first_said : (level i : ℕ) (k : Kind) (inner rest : Types) (p : Values × Values) → AreBoth k inner rest p
    → fields_said level i (Type_and k inner rest) (with_others p.0 p.1) ≡ values_said (level + 1) (one_type k inner) p.0 ++ fields_said level (i + 1) rest p.1
first_said level i k inner rest p q =
    let many = one_more k inner p.0 p.1 q.0 in
    let vs = with_others p.0 p.1 in
    let T = Type_and k inner rest in
    let one = values_said (level + 1) (one_type k inner) p.0 in
    let more = values_said (level + 1) (first_types (values_in p.1) rest) p.1 in
    let sum : i + suc (values_in p.1) ≡ i + 1 + values_in p.1 = omega arith in
    ap (λ (n : ℕ). values_said (level + 1) (first_types n T) vs ++ Leave level (i + n) ∷ []) many
    ∙ ap (λ (n : ℕ). values_said (level + 1) (first_types (suc (values_in p.1)) T) vs ++ Leave level n ∷ []) sum
    ∙ ap (λ es. es ++ Leave level (i + 1 + values_in p.1) ∷ []) (said_both (level + 1) (one_type k inner) (first_types (values_in p.1) rest) p.0 p.1 q.0)
    ∙ append_assoc one more (Leave level (i + 1 + values_in p.1) ∷ [])

first_view : (k : Kind) (inner rest : Types) (vs : Values) → AreFirst (Type_and k inner rest) vs × IsSome vs → (p : Values × Values) × (AreBoth k inner rest p) × (vs ≡ with_others p.0 p.1)
first_view k inner rest NoValue f = absurd (omega (arith, f.1))
first_view k inner rest (Null_and vs) f = ((Null_and NoValue, vs), (refl, f.0), refl)
first_view k inner rest (Empty_and vs) f = ((Empty_and NoValue, vs), (refl, f.0), refl)
first_view k inner rest (Scalar_and v vs) f =
    let own = is_kind (kind_of v) k && scalar_fits v in
    let p = both own (values_fit (first_types (values_in vs) rest) vs) f.0 in
    ((Scalar_and v NoValue, vs), (join own true p.0 refl, p.1), refl)
first_view k inner rest (Counted_and j n items vs) f =
    let own = is_kind j k && is_counted k && ltb n (2 ^ 31) && values_fit (type_copies n inner) items in
    let p = both own (values_fit (first_types (values_in vs) rest) vs) f.0 in
    ((Counted_and j n items NoValue, vs), (join own true p.0 refl, p.1), refl)
first_view k inner rest (Fields_and j items vs) f =
    let own = is_kind j k && has_fields k && ltb 0 (values_in items) && values_fit (first_types (values_in items) inner) items in
    let p = both own (values_fit (first_types (values_in vs) rest) vs) f.0 in
    ((Fields_and j items NoValue, vs), (join own true p.0 refl, p.1), refl)

-- What does not begin with the end of the value around has a field.
some_emitted : (level i : ℕ) (rest : Types) (es more : List CellEvent) (vs : Values) → begins_with_leave es ≡ false → es ≡ fields_said level i rest vs ++ more → IsSome vs
some_emitted level i rest es more NoValue but is = let d : true ≡ false = sym (ap begins_with_leave is) ∙ but in absurd cc
some_emitted level i rest es more (Null_and vs) but is = omega arith
some_emitted level i rest es more (Empty_and vs) but is = omega arith
some_emitted level i rest es more (Scalar_and v vs) but is = omega arith
some_emitted level i rest es more (Counted_and j n items vs) but is = omega arith
some_emitted level i rest es more (Fields_and j items vs) but is = omega arith

module _ (level : ℕ) where
  -- the first fields of these types are built, after this many, and then the end of the value around them
  abbrev pub BuildsFirst : (taken : ℕ) → Types → Values → (old new : CellEvents) → Type 0
  BuildsFirst i ts vs old new = Builds (fields_said level i ts) (AreFirst ts) vs old new

  one_first : (i : ℕ) (k : Kind) (inner rest : Types) {v vs : Values} {a b c : CellEvents} → begins_with_leave (left a) ≡ false → BuildsAll (level + 1) (one_type k inner) v a b → BuildsFirst (i + 1) rest vs b c
      → BuildsFirst i (Type_and k inner rest) (with_others v vs) a c
  one_first i k inner rest {v} {vs} {a} {b} {c} but one more =
      free IsSome (λ w es f is. some_emitted level i (Type_and k inner rest) (left a) es w but is)
      (as_builds (fields_said level i (Type_and k inner rest)) (λ w. AreFirst (Type_and k inner rest) w × IsSome w) (λ (p : Values × Values). with_others p.0 p.1)
      (first_said level i k inner rest) (first_on k inner rest) (first_view k inner rest) (one then more))

  abbrev Ends : (taken : ℕ) → (old new : CellEvents) → Type 0
  Ends i old new = Builds {A = Unit {0}} (λ _. Leave level i ∷ []) any tt old new

  -- No field is there, where those that are would begin with no end of a value, or there is no type.
  none_first : (i : ℕ) (rest : Types) {a b : CellEvents} → ((vs : Values) (es : List CellEvent) → AreFirst rest vs → left a ≡ fields_said level i rest vs ++ es → vs ≡ NoValue) → Ends i a b
      → BuildsFirst i rest NoValue a b
  none_first i rest {a} {b} says end =
      free (λ vs. vs ≡ NoValue) says
      (as_builds (fields_said level i rest) (λ vs. AreFirst rest vs × (vs ≡ NoValue)) (λ (u : Unit {0}). NoValue)
      (λ u q. ap (λ (n : ℕ). Leave level n ∷ []) (omega arith)) (λ u q. (refl, refl)) (λ vs f. (tt, refl, f.1)) end)

  no_type : (i : ℕ) (vs : Values) → AreFirst NoMore vs → vs ≡ NoValue
  no_type i NoValue f = refl
  no_type i (Null_and vs) f = absurd cc
  no_type i (Empty_and vs) f = absurd cc
  no_type i (Scalar_and v vs) f = absurd cc
  no_type i (Counted_and j n items vs) f = absurd cc
  no_type i (Fields_and j items vs) f = absurd cc

  first_leaves : (i : ℕ) (k : Kind) (inner rest : Types) (es more : List CellEvent) (vs : Values) → begins_with_leave es ≡ true → AreFirst (Type_and k inner rest) vs → es ≡ fields_said level i (Type_and k inner rest) vs ++ more → vs ≡ NoValue
  first_leaves i k inner rest es more vs ends f is = elim vs as (λ ws. vs ≡ ws → ws ≡ NoValue) [
    | NoValue ↦ λ e. refl
    | Null_and ws ↦ λ e. absurd (never (Null_and ws) e (omega arith))
    | Empty_and ws ↦ λ e. absurd (never (Empty_and ws) e (omega arith))
    | Scalar_and v ws ↦ λ e. absurd (never (Scalar_and v ws) e (omega arith))
    | Counted_and j n items ws ↦ λ e. absurd (never (Counted_and j n items ws) e (omega arith))
    | Fields_and j items ws ↦ λ e. absurd (never (Fields_and j items ws) e (omega arith))
  ] refl
    where
      never : (ws : Values) → vs ≡ ws → IsSome ws → ⊥
      never ws e some =
          let p = first_view k inner rest vs (f, subst IsSome (sym e) some) in
          let emitted = is ∙ ap (λ (x : Values). fields_said level i (Type_and k inner rest) x ++ more) p.2 ∙ ap (λ x. x ++ more) (first_said level i k inner rest p.0 p.1)
          ∙ append_assoc (values_said (level + 1) (one_type k inner) p.0.0) (fields_said level (i + 1) rest p.0.1) more in
          let d : true ≡ false = sym ends ∙ ap begins_with_leave emitted ∙ no_leave (level + 1) k inner NoMore p.0.0 _ p.1.0 in
          absurd cc

  pub end_first : (i : ℕ) (rest : Types) {a b : CellEvents} → begins_with_leave (left a) ≡ true → Ends i a b → BuildsFirst i rest NoValue a b
  end_first i NoMore {a} {b} ends end = none_first i NoMore (λ vs es f is. no_type i vs f) end
  end_first i (Type_and k inner rest) {a} {b} ends end = none_first i (Type_and k inner rest) (λ vs es f is. first_leaves i k inner rest (left a) es vs ends f is) end

  pub over_first : (i : ℕ) {a b : CellEvents} → Ends i a b → BuildsFirst i NoMore NoValue a b
  over_first i end = none_first i NoMore (λ vs es f is. no_type i vs f) end

  module _ {X : Type 0} (f : X → TypeTree) (xs : List X) where
    -- What is still to be built of the fields, when the first i are.
    pub record RemainsFirst (start now : CellEvents) (i : ℕ) (vs : Values) : Type 0 where
      pub remains : (zs : Values) (end : CellEvents) → BuildsFirst i (types_by f (drop i xs)) zs now end → BuildsFirst 0 (types_by f xs) (with_others vs zs) start end

    pub first_all : (start : CellEvents) → RemainsFirst start start 0 NoValue
    first_all start = record { remains = λ zs end h. h }

    at : (i : ℕ) (ys : List X) (x : X) → x ≡ get_or ys i x → i < length ys → types_by f (drop i ys) ≡ Type_and (kind_in (head_of (f x))) (types_in (inner_of (f x))) (types_by f (drop (i + 1) ys))
    at i [] x here lt = absurd (omega (arith, lt))
    at zero (y ∷ ys) x here lt = ap (λ (z : X). Type_and (kind_in (head_of (f z))) (types_in (inner_of (f z))) (types_by f ys)) (sym here)
    at (suc i) (y ∷ ys) x here lt =
        let next : suc (i + 1) ≡ suc i + 1 = omega arith in
        at i ys x here (omega (arith, lt)) ∙ ap (λ (n : ℕ). Type_and (kind_in (head_of (f x))) (types_in (inner_of (f x))) (types_by f (drop n (y ∷ ys)))) next

    pub first_more : (start now next : CellEvents) (i : ℕ) (x : X) (vs v : Values) → x ≡ get_or xs i x → i < length xs → begins_with_leave (left now) ≡ false → RemainsFirst start now i vs
        → BuildsAll (level + 1) (one_type (kind_in (head_of (f x))) (types_in (inner_of (f x)))) v now next → RemainsFirst start next (i + 1) (with_others vs v)
    first_more start now next i x vs v here lt but r one = record {
      remains = λ zs end more.
          subst (λ (ws : Values). BuildsFirst 0 (types_by f xs) ws start end) (sym (others_assoc vs v zs))
          (r.remains (with_others v zs) end
          (subst (λ (ts : Types). BuildsFirst i ts (with_others v zs) now end) (sym (at i xs x here lt))
          (one_first i (kind_in (head_of (f x))) (types_in (inner_of (f x))) (types_by f (drop (i + 1) xs)) but one more)));
    }

    finished : (start now end : CellEvents) (i : ℕ) (vs : Values) → RemainsFirst start now i vs → BuildsFirst i (types_by f (drop i xs)) NoValue now end → BuildsFirst 0 (types_by f xs) vs start end
    finished start now end i vs r h = subst (λ (ws : Values). BuildsFirst 0 (types_by f xs) ws start end) (others_none vs) (r.remains NoValue end h)

    -- the end of the value comes
    pub first_end : (start now end : CellEvents) (i : ℕ) (vs : Values) → begins_with_leave (left now) ≡ true → RemainsFirst start now i vs → Ends i now end → BuildsFirst 0 (types_by f xs) vs start end
    first_end start now end i vs ends r h = finished start now end i vs r (end_first i (types_by f (drop i xs)) ends h)

    none_left : (i : ℕ) (ys : List X) → length ys ≤ i → types_by f (drop i ys) ≡ NoMore
    none_left zero [] l = refl
    none_left (suc i) [] l = refl
    none_left zero (y ∷ ys) l = absurd (omega (arith, l))
    none_left (suc i) (y ∷ ys) l = none_left i ys (omega (arith, l))

    -- all fields are there
    pub first_over : (start now end : CellEvents) (i : ℕ) (vs : Values) → length xs ≤ i → RemainsFirst start now i vs → Ends i now end → BuildsFirst 0 (types_by f xs) vs start end
    first_over start now end i vs l r h =
        finished start now end i vs r (subst (λ (ts : Types). BuildsFirst i ts NoValue now end) (sym (none_left i xs l)) (over_first i h))

    -- a fault ends it
    pub first_stuck : (start now : CellEvents) (i : ℕ) (vs ys : Values) (e : Fault) → now.fault ≡ Some e → RemainsFirst start now i vs → BuildsFirst 0 (types_by f xs) ys start now
    first_stuck start now i vs ys e is r = other_value ys e is (r.remains NoValue now (stuck NoValue e is))
