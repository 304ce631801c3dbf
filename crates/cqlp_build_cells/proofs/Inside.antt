-- Values, after the first event of each.
use Rattle.std.proofs.Common.{◌≡◌, ℕ, ◌+◌, ◌<◌, ◌^◌, ◌++◌, ◌&&◌, Bool, true, ltb, [], ◌∷◌, take, Some, refl, sym, ap, ◌∙◌, subst, append-nil, arith}
use Rattle.std.proofs.lemmas.Bool.{lt-ltb, ltb-true}
use Rattle.cqlp_kind.specs.declared.kind.Kind.{Kind}
use Rattle.cqlp_kind.specs.declared.kind.Kind.TheVariants as kind
use Rattle.cqlp_kind.specs.Scalars.{ScalarValue, kind_of, scalar_fits}
use Rattle.cqlp_kind.specs.Types.{Types, NoMore, Type_and, first_types, has_no_items, how_many, is_kind}
use Rattle.cqlp_kind.specs.CellStep.{CellEvent, Leaf, Null, Empty, Enter, Leave}
use Rattle.cqlp_cell.specs.Sizes.{is_counted}
use Rattle.cqlp_value.specs.Values.{Values, NoValue, Null_and, Empty_and, Scalar_and, Counted_and, Fields_and, values_in, values_fit, type_copies, has_fields}
use Rattle.cqlp_value.proofs.ValuesWritten.{is_the_kind, kind_is}
use Rattle.cqlp_build_cells.specs.declared.held.CellEvents.{CellEvents}
use Rattle.cqlp_build_cells.specs.declared.step.Step.{Step}
use Rattle.cqlp_build_cells.specs.CellEvents.{Builds, TakesStep, left, emitted_at}
use Rattle.cqlp_build_cells.specs.Said.{AreFirst, Fit, IsFirst, counted_said, fields_said, said_inside, values_said}
use Rattle.cqlp_build_cells.proofs.Said.{first_and_rest, first_emitted, none_fit}
use Rattle.cqlp_build_cells.proofs.Several.{BuildsAll}
use Rattle.cqlp_build_cells.proofs.Steps.{as_builds, both, free, join, nothing_more, pair_builds, step_builds, ◌then◌}

-- a value of this type is built, whose events begin with this one
abbrev pub BuildsInside : (level : ℕ) → CellEvent → Kind → Types → Values → (old new : CellEvents) → Type 0
BuildsInside level e k inner v old new = Builds (said_inside level (Type_and k inner NoMore)) (IsFirst level e (Type_and k inner NoMore)) v old new

-- ---- a value after its first event

pub value_built : (level : ℕ) (s : Step) (k : Kind) (inner : Types) {v : Values} (a b c : CellEvents) → TakesStep level (Some s) a b → BuildsInside level (emitted_at level s) k inner v b c
    → BuildsAll level (Type_and k inner NoMore) v a c
value_built level s k inner {v} a b c t one =
    let ts = Type_and k inner NoMore in
    free (λ w. take 1 (values_said level ts w) ≡ emitted_at level s ∷ [])
    (λ w rest f is. first_emitted level k inner NoMore w rest (left b) (emitted_at level s) f (sym t.1 ∙ is))
    (as_builds (values_said level ts) (IsFirst level (emitted_at level s) ts) (λ (p : Unit {0} × Values). p.1)
    (λ p q. first_and_rest (values_said level ts p.1) (emitted_at level s) q.1.1) (λ p q. q.1) (λ w q. ((tt, w), (refl, q), refl)) (step_builds level s t then one))

-- ---- null, empty and scalars

one_null : (level : ℕ) (k : Kind) (inner : Types) (v : Values) → IsFirst level (Null level) (Type_and k inner NoMore) v → v ≡ Null_and NoValue
one_null level k inner NoValue f = absurd cc
one_null level k inner (Null_and vs) f = ap Null_and (none_fit vs f.0)
one_null level k inner (Empty_and vs) f = absurd cc
one_null level k inner (Scalar_and v vs) f = absurd cc
one_null level k inner (Counted_and j n items vs) f = absurd cc
one_null level k inner (Fields_and j items vs) f = absurd cc

pub null_inside : (level : ℕ) (k : Kind) (inner : Types) (h : CellEvents) → BuildsInside level (Null level) k inner (Null_and NoValue) h h
null_inside level k inner h = nothing_more (Null_and NoValue) h refl (refl, refl) (one_null level k inner)

one_empty : (level : ℕ) (k : Kind) (inner : Types) (v : Values) → IsFirst level (Empty level) (Type_and k inner NoMore) v → v ≡ Empty_and NoValue
one_empty level k inner NoValue f = absurd cc
one_empty level k inner (Null_and vs) f = absurd cc
one_empty level k inner (Empty_and vs) f = ap Empty_and (none_fit vs f.0)
one_empty level k inner (Scalar_and v vs) f = absurd cc
one_empty level k inner (Counted_and j n items vs) f = absurd cc
one_empty level k inner (Fields_and j items vs) f = absurd cc

pub empty_inside : (level : ℕ) (k : Kind) (inner : Types) (h : CellEvents) → BuildsInside level (Empty level) k inner (Empty_and NoValue) h h
empty_inside level k inner h = nothing_more (Empty_and NoValue) h refl (refl, refl) (one_empty level k inner)

one_scalar : (level : ℕ) (x : ScalarValue) (k : Kind) (inner : Types) (v : Values) → IsFirst level (Leaf level x) (Type_and k inner NoMore) v → v ≡ Scalar_and x NoValue
one_scalar level x k inner NoValue f = absurd cc
one_scalar level x k inner (Null_and vs) f = absurd cc
one_scalar level x k inner (Empty_and vs) f = absurd cc
one_scalar level x k inner (Scalar_and v vs) f =
    let none = none_fit vs (both (is_kind (kind_of v) k && scalar_fits v) (values_fit NoMore vs) f.0).1 in
    let is : v ≡ x = cc in
    λ i. Scalar_and (is i) (none i)
one_scalar level x k inner (Counted_and j n items vs) f = absurd cc
one_scalar level x k inner (Fields_and j items vs) f = absurd cc

pub scalar_inside : (level : ℕ) (x : ScalarValue) (k : Kind) (inner : Types) {a b : CellEvents} → Builds {A = Unit {0}} (λ _. []) (λ _. Fit (Type_and k inner NoMore) (Scalar_and x NoValue)) tt a b
    → BuildsInside level (Leaf level x) k inner (Scalar_and x NoValue) a b
scalar_inside level x k inner one =
    let ts = Type_and k inner NoMore in
    as_builds (said_inside level ts) (IsFirst level (Leaf level x) ts) (λ (u : Unit {0}). Scalar_and x NoValue) (λ u q. refl) (λ u q. (q, refl))
    (λ v f. let is = one_scalar level x k inner v f in (tt, subst (Fit ts) is f.0, is)) one

-- ---- lists, sets and maps

counted_no_fields : (k : Kind) → is_counted k ≡ true → has_fields k ≡ true → ⊥
counted_no_fields kind.Tuple c f = absurd cc
counted_no_fields kind.Udt c f = absurd cc
counted_no_fields k c f = absurd cc

enter_kind : (level m : ℕ) (j k : Kind) (n : ℕ) → Enter level j m ∷ [] ≡ Enter level k n ∷ [] → j ≡ k
enter_kind level m j k n e = cc

enter_items : (level m : ℕ) (j k : Kind) (n : ℕ) → Enter level j m ∷ [] ≡ Enter level k n ∷ [] → m ≡ n
enter_items level m j k n e = cc

-- a test of a kind and a count
pub record Tests (t : Bool) (said k : Kind) (P : Type 0) : Type 0 where
  pub holds : t ≡ true → (said ≡ k) × P
  pub back : said ≡ k → P → t ≡ true

module _ (level : ℕ) (said k : Kind) (n : ℕ) (inner : Types) (t : Bool) where
  abbrev T : Types
  T = Type_and k inner NoMore

  module _ (is : Tests t said k (n < 2 ^ 31)) (counted : is_counted k ≡ true) where
    abbrev AreCounted : Unit {0} × Values → Type 0
    AreCounted p = (t ≡ true) × Fit (type_copies n inner) p.1

    counted_on : (p : Unit {0} × Values) → AreCounted p → IsFirst level (Enter level said n) T (Counted_and k n p.1 NoValue)
    counted_on p q =
        let h = is.holds q.0 in
        let K = is_kind k k in
        let fit = values_fit (type_copies n inner) p.1 in (
          join (K && is_counted k && ltb n (2 ^ 31) && fit) true
              (join (K && is_counted k && ltb n (2 ^ 31)) fit
              (join (K && is_counted k) (ltb n (2 ^ 31)) (join K (is_counted k) (kind_is k k refl) counted) (lt-ltb n (2 ^ 31) h.1)) q.1) refl,
          ap (λ (j : Kind). Enter level j n ∷ []) (sym h.0),
        )

    counted_view : (v : Values) → IsFirst level (Enter level said n) T v → (p : Unit {0} × Values) × (AreCounted p) × (v ≡ Counted_and k n p.1 NoValue)
    counted_view NoValue f = absurd cc
    counted_view (Null_and vs) f = absurd cc
    counted_view (Empty_and vs) f = absurd cc
    counted_view (Scalar_and v vs) f = absurd cc
    counted_view (Counted_and j m items vs) f =
        let K = is_kind j k in
        let fit = values_fit (type_copies m inner) items in
        let p = both (K && is_counted k && ltb m (2 ^ 31) && fit) (values_fit NoMore vs) f.0 in
        let q = both (K && is_counted k && ltb m (2 ^ 31)) fit p.0 in
        let r = both (K && is_counted k) (ltb m (2 ^ 31)) q.0 in
        let s = both K (is_counted k) r.0 in
        let same : said ≡ k = sym (enter_kind level m k said n f.1) in
        let many : m ≡ n = enter_items level m k said n f.1 in
        let named : j ≡ k = is_the_kind j k s.0 in
        let none = none_fit vs p.1 in
        let low : m < 2 ^ 31 = ltb-true m (2 ^ 31) r.1 in (
          (tt, items),
          (is.back same (omega (arith, low, many)), subst (λ (x : ℕ). Fit (type_copies x inner) items) many q.1),
          λ i. Counted_and (named i) (many i) items (none i),
        )
    counted_view (Fields_and j items vs) f =
        let own = is_kind j k in
        let fit = values_fit (first_types (values_in items) inner) items in
        let p = both (own && has_fields k && ltb 0 (values_in items) && fit) (values_fit NoMore vs) f.0 in
        let q = both (own && has_fields k && ltb 0 (values_in items)) fit p.0 in
        let r = both (own && has_fields k) (ltb 0 (values_in items)) q.0 in
        absurd (counted_no_fields k counted (both own (has_fields k) r.0).1)

    pub counted_inside : {vs : Values} {a b c : CellEvents} → Builds {A = Unit {0}} (λ _. []) (λ _. t ≡ true) tt a b → Builds (counted_said level inner n) (Fit (type_copies n inner)) vs b c
        → BuildsInside level (Enter level said n) k inner (Counted_and k n vs NoValue) a c
    counted_inside one two =
        as_builds (said_inside level T) (IsFirst level (Enter level said n) T) (λ (p : Unit {0} × Values). Counted_and k n p.1 NoValue) (λ p q. refl) counted_on counted_view (one then two)

  -- ---- tuples and user-defined types

  module _ (is : Tests t said k (n ≡ how_many inner)) (fields : has_fields k ≡ true) where
    abbrev AreFields : (Unit {0} × Values) × Unit {0} → Type 0
    AreFields p = ((t ≡ true) × AreFirst inner p.0.1) × (0 < values_in p.0.1)

    abbrev fielded : (Unit {0} × Values) × Unit {0} → Values
    fielded p = Fields_and k p.0.1 NoValue

    fields_emitted : (p : (Unit {0} × Values) × Unit {0}) → AreFields p → said_inside level T (fielded p) ≡ fields_said level 0 inner p.0.1 ++ []
    fields_emitted p q =
        let same : values_in p.0.1 ≡ 0 + values_in p.0.1 = omega arith in
        ap (λ (m : ℕ). values_said (level + 1) (first_types (values_in p.0.1) inner) p.0.1 ++ Leave level m ∷ []) same ∙ sym (append-nil (fields_said level 0 inner p.0.1))

    fields_on : (p : (Unit {0} × Values) × Unit {0}) → AreFields p → IsFirst level (Enter level said n) T (fielded p)
    fields_on p q =
        let h = is.holds q.0.0 in
        let K = is_kind k k in
        let m = values_in p.0.1 in
        let fit = values_fit (first_types m inner) p.0.1 in (
          join (K && has_fields k && ltb 0 m && fit) true
              (join (K && has_fields k && ltb 0 m) fit (join (K && has_fields k) (ltb 0 m) (join K (has_fields k) (kind_is k k refl) fields) (lt-ltb 0 m q.1)) q.0.1) refl,
          λ i. Enter level ((sym h.0) i) ((sym h.1) i) ∷ [],
        )

    fields_view : (v : Values) → IsFirst level (Enter level said n) T v → (p : (Unit {0} × Values) × Unit {0}) × (AreFields p) × (v ≡ fielded p)
    fields_view NoValue f = absurd cc
    fields_view (Null_and vs) f = absurd cc
    fields_view (Empty_and vs) f = absurd cc
    fields_view (Scalar_and v vs) f = absurd cc
    fields_view (Counted_and j m items vs) f =
        let own = is_kind j k in
        let fit = values_fit (type_copies m inner) items in
        let p = both (own && is_counted k && ltb m (2 ^ 31) && fit) (values_fit NoMore vs) f.0 in
        let q = both (own && is_counted k && ltb m (2 ^ 31)) fit p.0 in
        let r = both (own && is_counted k) (ltb m (2 ^ 31)) q.0 in
        absurd (counted_no_fields k (both own (is_counted k) r.0).1 fields)
    fields_view (Fields_and j items vs) f =
        let own = is_kind j k in
        let fit = values_fit (first_types (values_in items) inner) items in
        let p = both (own && has_fields k && ltb 0 (values_in items) && fit) (values_fit NoMore vs) f.0 in
        let q = both (own && has_fields k && ltb 0 (values_in items)) fit p.0 in
        let r = both (own && has_fields k) (ltb 0 (values_in items)) q.0 in
        let s = both own (has_fields k) r.0 in
        let same : said ≡ k = sym (enter_kind level (how_many inner) k said n f.1) in
        let many : n ≡ how_many inner = sym (enter_items level (how_many inner) k said n f.1) in
        let named : j ≡ k = is_the_kind j k s.0 in
        let none = none_fit vs p.1 in
        (((tt, items), tt), ((is.back same many, q.1), ltb-true 0 (values_in items) r.1), λ i. Fields_and (named i) items (none i))

    pub fields_inside : {vs : Values} {a b c d : CellEvents} → Builds {A = Unit {0}} (λ _. []) (λ _. t ≡ true) tt a b → Builds (fields_said level 0 inner) (AreFirst inner) vs b c
        → Builds {A = Unit {0}} (λ _. []) (λ _. 0 < values_in vs) tt c d → BuildsInside level (Enter level said n) k inner (Fields_and k vs NoValue) a d
    fields_inside one two three =
        as_builds (said_inside level T) (IsFirst level (Enter level said n) T) fielded fields_emitted fields_on fields_view
        (pair_builds (λ (p : Unit {0} × Values) (_ : Unit {0}). 0 < values_in p.1) (one then two) three)

-- ---- scalars alone

no_items_counted : (k : Kind) → has_no_items k ≡ true → is_counted k ≡ true → ⊥
no_items_counted kind.List e f = absurd cc
no_items_counted kind.Map e f = absurd cc
no_items_counted kind.Set e f = absurd cc
no_items_counted k e f = absurd cc

no_items_fields : (k : Kind) → has_no_items k ≡ true → has_fields k ≡ true → ⊥
no_items_fields kind.Tuple e f = absurd cc
no_items_fields kind.Udt e f = absurd cc
no_items_fields k e f = absurd cc

-- no value of a kind without items begins with how many it has
pub no_inside : (level : ℕ) (said k : Kind) (n : ℕ) (inner : Types) (v : Values) → has_no_items k ≡ true → IsFirst level (Enter level said n) (Type_and k inner NoMore) v → ⊥
no_inside level said k n inner NoValue e f = absurd cc
no_inside level said k n inner (Null_and vs) e f = absurd cc
no_inside level said k n inner (Empty_and vs) e f = absurd cc
no_inside level said k n inner (Scalar_and v vs) e f = absurd cc
no_inside level said k n inner (Counted_and j m items vs) e f =
    let own = is_kind j k in
    let fit = values_fit (type_copies m inner) items in
    let p = both (own && is_counted k && ltb m (2 ^ 31) && fit) (values_fit NoMore vs) f.0 in
    let q = both (own && is_counted k && ltb m (2 ^ 31)) fit p.0 in
    let r = both (own && is_counted k) (ltb m (2 ^ 31)) q.0 in
    no_items_counted k e (both own (is_counted k) r.0).1
no_inside level said k n inner (Fields_and j items vs) e f =
    let own = is_kind j k in
    let fit = values_fit (first_types (values_in items) inner) items in
    let p = both (own && has_fields k && ltb 0 (values_in items) && fit) (values_fit NoMore vs) f.0 in
    let q = both (own && has_fields k && ltb 0 (values_in items)) fit p.0 in
    let r = both (own && has_fields k) (ltb 0 (values_in items)) q.0 in
    no_items_fields k e (both own (has_fields k) r.0).1
