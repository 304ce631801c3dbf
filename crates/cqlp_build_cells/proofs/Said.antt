-- The events of values side by side.
use Rattle.std.proofs.Common.{◌≡◌, ℕ, ◌+◌, ◌++◌, ◌&&◌, ◌^◌, false, ltb, List, [], ◌∷◌, take, drop, refl, sym, ap, ◌∙◌, subst, append_assoc}
use Rattle.cqlp_kind.specs.declared.kind.Kind.{Kind}
use Rattle.cqlp_kind.specs.Scalars.{kind_of, scalar_fits}
use Rattle.cqlp_kind.specs.Types.{Types, NoMore, Type_and, followed_by, first_types, how_many, is_kind}
use Rattle.cqlp_kind.specs.CellStep.{CellEvent, Leaf, Null, Empty, Enter, Leave}
use Rattle.cqlp_cell.specs.Sizes.{is_counted}
use Rattle.cqlp_value.specs.Values.{Values, NoValue, Null_and, Empty_and, Scalar_and, Counted_and, Fields_and, values_in, values_fit, type_copies, has_fields}
use Rattle.cqlp_value.proofs.ReadBack.{with_others}
use Rattle.cqlp_build_cells.specs.CellEvents.{begins_with_leave}
use Rattle.cqlp_build_cells.specs.Said.{Fit, values_said}
use Rattle.cqlp_build_cells.proofs.Steps.{both, join}

-- ---- values side by side

pub others_none : (vs : Values) → with_others vs NoValue ≡ vs
others_none NoValue = refl
others_none (Null_and vs) = ap Null_and (others_none vs)
others_none (Empty_and vs) = ap Empty_and (others_none vs)
others_none (Scalar_and v vs) = ap (Scalar_and v) (others_none vs)
others_none (Counted_and k n items vs) = ap (Counted_and k n items) (others_none vs)
others_none (Fields_and k items vs) = ap (Fields_and k items) (others_none vs)

pub others_assoc : (us vs ws : Values) → with_others (with_others us vs) ws ≡ with_others us (with_others vs ws)
others_assoc NoValue vs ws = refl
others_assoc (Null_and us) vs ws = ap Null_and (others_assoc us vs ws)
others_assoc (Empty_and us) vs ws = ap Empty_and (others_assoc us vs ws)
others_assoc (Scalar_and v us) vs ws = ap (Scalar_and v) (others_assoc us vs ws)
others_assoc (Counted_and k n items us) vs ws = ap (Counted_and k n items) (others_assoc us vs ws)
others_assoc (Fields_and k items us) vs ws = ap (Fields_and k items) (others_assoc us vs ws)

-- no value is of no type
pub none_fit : (vs : Values) → Fit NoMore vs → vs ≡ NoValue
none_fit NoValue f = refl
none_fit (Null_and vs) f = absurd cc
none_fit (Empty_and vs) f = absurd cc
none_fit (Scalar_and v vs) f = absurd cc
none_fit (Counted_and k n items vs) f = absurd cc
none_fit (Fields_and k items vs) f = absurd cc

-- values of types side by side are values of the first and others
pub split : (ts us : Types) (vs : Values) → Fit (followed_by ts us) vs → (p : Values × Values) × ((Fit ts p.0) × (Fit us p.1)) × (vs ≡ with_others p.0 p.1)
split NoMore us vs f = ((NoValue, vs), (refl, f), refl)
split (Type_and k inner ts) us NoValue f = absurd cc
split (Type_and k inner ts) us (Null_and vs) f = let r = split ts us vs f in ((Null_and r.0.0, r.0.1), r.1, ap Null_and r.2)
split (Type_and k inner ts) us (Empty_and vs) f = let r = split ts us vs f in ((Empty_and r.0.0, r.0.1), r.1, ap Empty_and r.2)
split (Type_and k inner ts) us (Scalar_and v vs) f =
    let own = is_kind (kind_of v) k && scalar_fits v in
    let p = both own (values_fit (followed_by ts us) vs) f in
    let r = split ts us vs p.1 in
    ((Scalar_and v r.0.0, r.0.1), (join own (values_fit ts r.0.0) p.0 r.1.0, r.1.1), ap (Scalar_and v) r.2)
split (Type_and k inner ts) us (Counted_and j n items vs) f =
    let own = is_kind j k && is_counted k && ltb n (2 ^ 31) && values_fit (type_copies n inner) items in
    let p = both own (values_fit (followed_by ts us) vs) f in
    let r = split ts us vs p.1 in
    ((Counted_and j n items r.0.0, r.0.1), (join own (values_fit ts r.0.0) p.0 r.1.0, r.1.1), ap (Counted_and j n items) r.2)
split (Type_and k inner ts) us (Fields_and j items vs) f =
    let own = is_kind j k && has_fields k && ltb 0 (values_in items) && values_fit (first_types (values_in items) inner) items in
    let p = both own (values_fit (followed_by ts us) vs) f in
    let r = split ts us vs p.1 in
    ((Fields_and j items r.0.0, r.0.1), (join own (values_fit ts r.0.0) p.0 r.1.0, r.1.1), ap (Fields_and j items) r.2)

pub fit_both : (ts us : Types) (vs ws : Values) → Fit ts vs → Fit us ws → Fit (followed_by ts us) (with_others vs ws)
fit_both NoMore us vs ws f g = subst (λ (x : Values). Fit us (with_others x ws)) (sym (none_fit vs f)) g
fit_both (Type_and k inner ts) us NoValue ws f g = absurd cc
fit_both (Type_and k inner ts) us (Null_and vs) ws f g = fit_both ts us vs ws f g
fit_both (Type_and k inner ts) us (Empty_and vs) ws f g = fit_both ts us vs ws f g
fit_both (Type_and k inner ts) us (Scalar_and v vs) ws f g =
    let own = is_kind (kind_of v) k && scalar_fits v in
    let p = both own (values_fit ts vs) f in
    join own (values_fit (followed_by ts us) (with_others vs ws)) p.0 (fit_both ts us vs ws p.1 g)
fit_both (Type_and k inner ts) us (Counted_and j n items vs) ws f g =
    let own = is_kind j k && is_counted k && ltb n (2 ^ 31) && values_fit (type_copies n inner) items in
    let p = both own (values_fit ts vs) f in
    join own (values_fit (followed_by ts us) (with_others vs ws)) p.0 (fit_both ts us vs ws p.1 g)
fit_both (Type_and k inner ts) us (Fields_and j items vs) ws f g =
    let own = is_kind j k && has_fields k && ltb 0 (values_in items) && values_fit (first_types (values_in items) inner) items in
    let p = both own (values_fit ts vs) f in
    join own (values_fit (followed_by ts us) (with_others vs ws)) p.0 (fit_both ts us vs ws p.1 g)

around : (e d : CellEvent) (xs fs bs cs : List CellEvent) → fs ≡ bs ++ cs → e ∷ (xs ++ (d ∷ fs)) ≡ (e ∷ (xs ++ (d ∷ bs))) ++ cs
around e d xs fs bs cs is = ap (λ es. e ∷ (xs ++ (d ∷ es))) is ∙ ap (λ es. e ∷ es) (sym (append_assoc xs (d ∷ bs) cs))

pub said_both : (level : ℕ) (ts us : Types) (vs ws : Values) → Fit ts vs → values_said level (followed_by ts us) (with_others vs ws) ≡ values_said level ts vs ++ values_said level us ws
said_both level NoMore us vs ws f =
    let is = none_fit vs f in
    ap (λ (x : Values). values_said level us (with_others x ws)) is
said_both level (Type_and k inner ts) us NoValue ws f = absurd cc
said_both level (Type_and k inner ts) us (Null_and vs) ws f = ap (λ es. Null level ∷ es) (said_both level ts us vs ws f)
said_both level (Type_and k inner ts) us (Empty_and vs) ws f = ap (λ es. Empty level ∷ es) (said_both level ts us vs ws f)
said_both level (Type_and k inner ts) us (Scalar_and v vs) ws f =
    let p = both (is_kind (kind_of v) k && scalar_fits v) (values_fit ts vs) f in
    ap (λ es. Leaf level v ∷ es) (said_both level ts us vs ws p.1)
said_both level (Type_and k inner ts) us (Counted_and j n items vs) ws f =
    let p = both (is_kind j k && is_counted k && ltb n (2 ^ 31) && values_fit (type_copies n inner) items) (values_fit ts vs) f in
    around (Enter level k n) (Leave level n) (values_said (level + 1) (type_copies n inner) items) _ (values_said level ts vs) (values_said level us ws) (said_both level ts us vs ws p.1)
said_both level (Type_and k inner ts) us (Fields_and j items vs) ws f =
    let p = both (is_kind j k && has_fields k && ltb 0 (values_in items) && values_fit (first_types (values_in items) inner) items) (values_fit ts vs) f in
    around (Enter level k (how_many inner)) (Leave level (values_in items)) (values_said (level + 1) (first_types (values_in items) inner) items) _ (values_said level ts vs) (values_said level us ws) (said_both level ts us vs ws p.1)

-- ---- the first event

-- A value begins with no end of a value.
pub no_leave : (level : ℕ) (k : Kind) (inner ts : Types) (vs : Values) (rest : List CellEvent) → Fit (Type_and k inner ts) vs → begins_with_leave (values_said level (Type_and k inner ts) vs ++ rest) ≡ false
no_leave level k inner ts NoValue rest f = absurd cc
no_leave level k inner ts (Null_and vs) rest f = refl
no_leave level k inner ts (Empty_and vs) rest f = refl
no_leave level k inner ts (Scalar_and v vs) rest f = refl
no_leave level k inner ts (Counted_and j n items vs) rest f = refl
no_leave level k inner ts (Fields_and j items vs) rest f = refl

head_is : (e d : CellEvent) (es ds : List CellEvent) → e ∷ es ≡ d ∷ ds → e ∷ [] ≡ d ∷ []
head_is e d es ds is = ap (take 1) is

-- The event that came first is of the value first.
pub first_emitted : (level : ℕ) (k : Kind) (inner ts : Types) (vs : Values) (rest es : List CellEvent) (e : CellEvent) → Fit (Type_and k inner ts) vs
    → e ∷ es ≡ values_said level (Type_and k inner ts) vs ++ rest → take 1 (values_said level (Type_and k inner ts) vs) ≡ e ∷ []
first_emitted level k inner ts NoValue rest es e f is = absurd cc
first_emitted level k inner ts (Null_and vs) rest es e f is = sym (head_is _ _ _ _ is)
first_emitted level k inner ts (Empty_and vs) rest es e f is = sym (head_is _ _ _ _ is)
first_emitted level k inner ts (Scalar_and v vs) rest es e f is = sym (head_is _ _ _ _ is)
first_emitted level k inner ts (Counted_and j n items vs) rest es e f is = sym (head_is _ _ _ _ is)
first_emitted level k inner ts (Fields_and j items vs) rest es e f is = sym (head_is _ _ _ _ is)

pub first_and_rest : (es : List CellEvent) (e : CellEvent) → take 1 es ≡ e ∷ [] → es ≡ e ∷ drop 1 es
first_and_rest [] e is = absurd cc
first_and_rest (d ∷ es) e is = ap (λ x. x ++ es) is
