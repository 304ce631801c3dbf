-- Values of a caller's types.
use Rattle.std.proofs.Common.{◌≡◌, ℕ, zero, suc, ◌+◌, ◌<◌, ◌^◌, ◌++◌, ◌&&◌, Bool, true, false, ltb, List, [], ◌∷◌, length, Option, Some, None, refl, sym, ap, ◌∙◌, subst, arith}
use Rattle.std.specs.Prelude.{◌==◌}
use Rattle.std.proofs.lemmas.Bool.{eqb-true, eq-eqb, lt-ltb, ltb-true}
use Rattle.std.specs.declared.vec.Vec.{Vec}
use Rattle.std.specs.declared.boxed.Box.{Box}
use Rattle.std.specs.declared.string.String.{String}
use Rattle.std.specs.declared.alloc.Global.{Global}
use Rattle.cqlp_kind.specs.declared.kind.Kind.{Kind}
use Rattle.cqlp_kind.specs.declared.kind.Kind.TheVariants as kind
use Rattle.cqlp_kind.specs.Scalars.{kind_of, scalar_fits}
use Rattle.cqlp_kind.specs.Types.{Types, NoMore, Type_and, first_types, has_no_items, how_many, is_kind}
use Rattle.cqlp_kind.specs.CellStep.{CellEvent, Enter, Leave}
use Rattle.cqlp_cell.specs.Sizes.{is_counted}
use Rattle.cqlp_type.specs.declared.tree.TypeTree.{TypeTree, List as ListTree, Set as SetTree, Map as MapTree, Tuple as TupleTree, Udt as UdtTree}
use Rattle.cqlp_type.specs.Trees.{kind_in, types_in}
use Rattle.cqlp_type.specs.TypeTrees.{head_of, inner_of, tree_of}
use Rattle.cqlp_value.specs.declared.value.Value.{Value, List as ListValue, Map as MapValue, Set as SetValue, Tuple as TupleValue, Udt as UdtValue}
use Rattle.cqlp_value.specs.Measures.{listed_pairs, listed_values, types_by}
use Rattle.cqlp_value.specs.Owned.{value_and, value_of}
use Rattle.cqlp_value.specs.Values.{Values, NoValue, Null_and, Empty_and, Scalar_and, Counted_and, Fields_and, values_in, values_fit, type_copies, has_fields}
use Rattle.cqlp_value.proofs.OwnedLists.{many_values, list_is, set_is, map_is, tuple_is, udt_is}
use Rattle.cqlp_value.proofs.ReadBack.{values_in_after}
use Rattle.cqlp_value.proofs.ValueFits.{tuple_types, udt_types}
use Rattle.cqlp_value.proofs.ValuesWritten.{is_the_kind, kind_is}
use Rattle.cqlp_build_cells.proofs.Types.{and_others}
use Rattle.cqlp_build_cells.specs.declared.held.CellEvents.{CellEvents}
use Rattle.cqlp_build_cells.specs.declared.held.Fault.TheVariants as fault
use Rattle.cqlp_build_cells.specs.declared.step.Step.{Step}
use Rattle.cqlp_build_cells.specs.declared.step.Step.TheVariants as step
use Rattle.cqlp_build_cells.specs.CellEvents.{Builds, HoldsFewer, HoldsNoMore, TakesStep, any, begins_with_leave, first_fault, leaves, left, level_of, emitted_at}
use Rattle.cqlp_build_cells.specs.Said.{AreFirst, Fit, IsFirst, counted_said, fields_said, values_said}
use Rattle.cqlp_build_cells.proofs.Inside.{BuildsInside, Tests, counted_inside, fields_inside, no_inside}
use Rattle.cqlp_build_cells.proofs.Said.{no_leave}
use Rattle.cqlp_build_cells.proofs.Several.{BuildsAll}
use Rattle.cqlp_build_cells.proofs.Steps.{as_builds, as_same, both, join, refused_builds, refused_later, step_builds}

-- the same event in other words
pub as_step : (level : ℕ) (s r : Step) (a b : CellEvents) → s ≡ r → TakesStep level (Some s) a b → TakesStep level (Some r) a b
as_step level s r a b is t = subst (λ (x : Step). TakesStep level (Some x) a b) is t

-- ---- the end of a value

leave_items : (level m n : ℕ) (es ds : List CellEvent) → Leave level m ∷ es ≡ Leave level n ∷ ds → m ≡ n
leave_items level m n es ds e = cc

pub leave_built : (level count : ℕ) (o : Option Step) (a b : CellEvents) → TakesStep level o a b → leaves o count ≡ true → Builds {A = Unit {0}} (λ _. Leave level count ∷ []) any tt a b
leave_built level count None a b t e = absurd cc
leave_built level count (Some (step.Leaf x)) a b t e = absurd cc
leave_built level count (Some step.Null) a b t e = absurd cc
leave_built level count (Some step.Empty) a b t e = absurd cc
leave_built level count (Some (step.Enter k n)) a b t e = absurd cc
leave_built level count (Some (step.Leave n)) a b t e =
    subst (λ (m : ℕ). Builds {A = Unit {0}} (λ _. Leave level m ∷ []) any tt a b) (eqb-true n count e) (step_builds level (step.Leave n) t)

leave_other : (level count : ℕ) (s : Step) (es rest : List CellEvent) → leaves (Some s) count ≡ false → emitted_at level s ∷ es ≡ Leave level count ∷ rest → ⊥
leave_other level count (step.Leaf a) es rest off e = absurd cc
leave_other level count step.Null es rest off e = absurd cc
leave_other level count step.Empty es rest off e = absurd cc
leave_other level count (step.Enter k n) es rest off e = absurd cc
leave_other level count (step.Leave n) es rest off e =
    let d : true ≡ false = sym (eq-eqb n count (leave_items level n count es rest e)) ∙ off in
    absurd cc

pub leave_refused : (level count : ℕ) (o : Option Step) (a b c : CellEvents) → TakesStep level o a b → leaves o count ≡ false → c.fault ≡ first_fault b.fault fault.NoValue
    → Builds {A = Unit {0}} (λ _. Leave level count ∷ []) any tt a c
leave_refused level count None a b c t off f = refused_later tt a b c t.0 f (λ s u rest p e. t.1 s (Leave level count) rest e refl)
leave_refused level count (Some s) a b c t off f =
    refused_later tt a b c (t.2 ∙ sym t.0) f (λ _ u rest p e. leave_other level count s (left b) rest off (sym t.1 ∙ e))

pub fewer_any : (o : Option Step) (a b : CellEvents) → HoldsFewer o a b → HoldsNoMore a b
fewer_any None a b f = f
fewer_any (Some s) a b f = omega (arith, f)

pub refused_fewer : (o : Option Step) (a b c : CellEvents) → HoldsFewer o a b → c ≡ record b { fault = first_fault b.fault fault.NoValue } → HoldsNoMore a c
refused_fewer o a b c f e = subst (λ (h : CellEvents). HoldsNoMore a h) (sym e) (fewer_any o a b f)

-- ---- no value

none_emitted : (level : ℕ) (k : Kind) (inner : Types) (es rest : List CellEvent) (v : Values) → Fit (Type_and k inner NoMore) v → es ≡ values_said level (Type_and k inner NoMore) v ++ rest
    → ((e : CellEvent) (ds : List CellEvent) → es ≡ e ∷ ds → level_of e ≡ level → ⊥) → ⊥
none_emitted level k inner es rest NoValue f is but = absurd cc
none_emitted level k inner es rest (Null_and vs) f is but = but _ _ is refl
none_emitted level k inner es rest (Empty_and vs) f is but = but _ _ is refl
none_emitted level k inner es rest (Scalar_and v vs) f is but = but _ _ is refl
none_emitted level k inner es rest (Counted_and j n items vs) f is but = but _ _ is refl
none_emitted level k inner es rest (Fields_and j items vs) f is but = but _ _ is refl

pub no_step : (level : ℕ) (k : Kind) (inner : Types) (v : Values) (a b c : CellEvents) → TakesStep level None a b → c.fault ≡ first_fault b.fault fault.NoValue → BuildsAll level (Type_and k inner NoMore) v a c
no_step level k inner v a b c t f = refused_later v a b c t.0 f (λ s w rest fit e. none_emitted level k inner (left a) rest w fit e (t.1 s))

pub leave_step : (level : ℕ) (k : Kind) (inner : Types) (n : ℕ) (v : Values) (a b c : CellEvents) → TakesStep level (Some (step.Leave n)) a b → c.fault ≡ first_fault b.fault fault.NoValue
    → BuildsAll level (Type_and k inner NoMore) v a c
leave_step level k inner n v a b c t f =
    refused_later v a b c (t.2 ∙ sym t.0) f (λ s w rest fit e.
    let d : true ≡ false = sym (ap begins_with_leave t.1) ∙ ap begins_with_leave e ∙ no_leave level k inner NoMore w rest fit in
    absurd cc)

pub none_inside : (level : ℕ) (said k : Kind) (n : ℕ) (inner : Types) (v : Values) (a c : CellEvents) → has_no_items k ≡ true → c.fault ≡ first_fault a.fault fault.NoValue → BuildsInside level (Enter level said n) k inner v a c
none_inside level said k n inner v a c e f = refused_builds v a c f (λ w rest q is. no_inside level said k n inner w e q)

-- ---- how many

pub fit_many : (ts : Types) (vs : Values) → Fit ts vs → values_in vs ≡ how_many ts
fit_many NoMore NoValue f = refl
fit_many NoMore (Null_and vs) f = absurd cc
fit_many NoMore (Empty_and vs) f = absurd cc
fit_many NoMore (Scalar_and v vs) f = absurd cc
fit_many NoMore (Counted_and j n items vs) f = absurd cc
fit_many NoMore (Fields_and j items vs) f = absurd cc
fit_many (Type_and k inner ts) NoValue f = absurd cc
fit_many (Type_and k inner ts) (Null_and vs) f = ap suc (fit_many ts vs f)
fit_many (Type_and k inner ts) (Empty_and vs) f = ap suc (fit_many ts vs f)
fit_many (Type_and k inner ts) (Scalar_and v vs) f = ap suc (fit_many ts vs (both (is_kind (kind_of v) k && scalar_fits v) (values_fit ts vs) f).1)
fit_many (Type_and k inner ts) (Counted_and j n items vs) f =
    ap suc (fit_many ts vs (both (is_kind j k && is_counted k && ltb n (2 ^ 31) && values_fit (type_copies n inner) items) (values_fit ts vs) f).1)
fit_many (Type_and k inner ts) (Fields_and j items vs) f =
    ap suc (fit_many ts vs (both (is_kind j k && has_fields k && ltb 0 (values_in items) && values_fit (first_types (values_in items) inner) items) (values_fit ts vs) f).1)

ones : (k : Kind) (inner : Types) (n : ℕ) → how_many (type_copies n (Type_and k inner NoMore)) ≡ n
ones k inner zero = refl
ones k inner (suc n) = ap suc (ones k inner n)

twos : (k j : Kind) (inner other : Types) (n : ℕ) → how_many (type_copies n (Type_and k inner (Type_and j other NoMore))) ≡ n + n
twos k j inner other zero = refl
twos k j inner other (suc n) = omega (arith, twos k j inner other n)

one_more : (v : Value) (vs : Values) → values_in (value_and v vs) ≡ suc (values_in vs)
one_more v vs = omega (arith, many_values (v ∷ []), ap values_in (and_others v NoValue vs), values_in_after (value_of v) vs)

pairs_many : (xs : List (Value × Value)) → values_in (listed_pairs xs) ≡ length xs + length xs
pairs_many [] = refl
pairs_many (x ∷ xs) = omega (arith, one_more x.0 (value_and x.1 (listed_pairs xs)), one_more x.1 (listed_pairs xs), pairs_many xs)

types_many : {X : Type 0} (f : X → TypeTree) (xs : List X) → how_many (types_by f xs) ≡ length xs
types_many f [] = refl
types_many f (x ∷ xs) = ap suc (types_many f xs)

counted_fit : (level : ℕ) (said k : Kind) (n : ℕ) (ts : Types) (vs : Values) → IsFirst level (Enter level said n) (Type_and k ts NoMore) (Counted_and k n vs NoValue) → values_in vs ≡ how_many (type_copies n ts)
counted_fit level said k n ts vs q =
    let own = is_kind k k && is_counted k && ltb n (2 ^ 31) in
    let fit = values_fit (type_copies n ts) vs in
    fit_many (type_copies n ts) vs (both own fit (both (own && fit) true q.0).0).1

-- ---- tests

pub tests_count : (t : Bool) (said k : Kind) (n : ℕ) → t ≡ (is_kind said k && ltb n (2 ^ 31)) → Tests t said k (n < 2 ^ 31)
tests_count t said k n is = record {
  holds = λ e. let p = both (is_kind said k) (ltb n (2 ^ 31)) (sym is ∙ e) in (is_the_kind said k p.0, ltb-true n (2 ^ 31) p.1);
  back = λ e low. is ∙ join (is_kind said k) (ltb n (2 ^ 31)) (kind_is said k e) (lt-ltb n (2 ^ 31) low);
}

pub tests_types : (t : Bool) (said k : Kind) (n m w : ℕ) → t ≡ (is_kind said k && (n == m)) → w ≡ m → Tests t said k (n ≡ w)
tests_types t said k n m w is many = record {
  holds = λ e. let p = both (is_kind said k) (n == m) (sym is ∙ e) in (is_the_kind said k p.0, eqb-true n m p.1 ∙ sym many);
  back = λ e same. is ∙ join (is_kind said k) (n == m) (kind_is said k e) (eq-eqb n m (same ∙ many));
}

-- ---- as a caller owns them

abbrev Checked : Bool → (old new : CellEvents) → Type 0
Checked t old new = Builds {A = Unit {0}} (λ _. []) (λ _. t ≡ true) tt old new

abbrev BuildsOf : (level : ℕ) → CellEvent → TypeTree → Value → (old new : CellEvents) → Type 0
BuildsOf level e t v old new = BuildsInside level e (kind_in (head_of t)) (types_in (inner_of t)) (value_of v) old new

module _ (level : ℕ) (said : Kind) (n : ℕ) (t : Bool) (tree : TypeTree) where
  abbrev Counts : Types → Values → (old new : CellEvents) → Type 0
  Counts ts vs old new = Builds (counted_said level ts n) (Fit (type_copies n ts)) vs old new

  pub list_built : (u : TypeTree) (b : Box TypeTree Global) (v : Vec Value Global) {x y z : CellEvents} → tree ≡ ListTree b → u ≡ b.value → t ≡ (is_kind said kind.List && ltb n (2 ^ 31))
      → Checked t x y → Counts (types_in (tree_of u)) (listed_values v.items) y z → BuildsOf level (Enter level said n) tree (ListValue v) x z
  list_built u b v {x} {y} {z} is same tests checked one =
      let ts = types_in (tree_of u) in
      let vs = listed_values v.items in
      let many : values_in vs ≡ length v.items = many_values v.items in
      let own = as_same (value_of (ListValue v)) (λ q.
      let number : n ≡ length v.items = omega (arith, many, counted_fit level said kind.List n ts vs q, ones (kind_in (head_of u)) (types_in (inner_of u)) n) in
      ap (λ (m : ℕ). Counted_and kind.List m vs NoValue) number ∙ sym (list_is v))
      (counted_inside level said kind.List n ts t (tests_count t said kind.List n tests) refl checked one) in
      subst (λ (w : TypeTree). BuildsOf level (Enter level said n) w (ListValue v) x z) (sym is)
      (subst (λ (w : TypeTree). BuildsInside level (Enter level said n) kind.List (types_in (tree_of w)) (value_of (ListValue v)) x z) same own)

  pub set_built : (u : TypeTree) (b : Box TypeTree Global) (v : Vec Value Global) {x y z : CellEvents} → tree ≡ SetTree b → u ≡ b.value → t ≡ (is_kind said kind.Set && ltb n (2 ^ 31))
      → Checked t x y → Counts (types_in (tree_of u)) (listed_values v.items) y z → BuildsOf level (Enter level said n) tree (SetValue v) x z
  set_built u b v {x} {y} {z} is same tests checked one =
      let ts = types_in (tree_of u) in
      let vs = listed_values v.items in
      let many : values_in vs ≡ length v.items = many_values v.items in
      let own = as_same (value_of (SetValue v)) (λ q.
      let number : n ≡ length v.items = omega (arith, many, counted_fit level said kind.Set n ts vs q, ones (kind_in (head_of u)) (types_in (inner_of u)) n) in
      ap (λ (m : ℕ). Counted_and kind.Set m vs NoValue) number ∙ sym (set_is v))
      (counted_inside level said kind.Set n ts t (tests_count t said kind.Set n tests) refl checked one) in
      subst (λ (w : TypeTree). BuildsOf level (Enter level said n) w (SetValue v) x z) (sym is)
      (subst (λ (w : TypeTree). BuildsInside level (Enter level said n) kind.Set (types_in (tree_of w)) (value_of (SetValue v)) x z) same own)

  pub map_built : (u w : TypeTree) (b d : Box TypeTree Global) (v : Vec (Value × Value) Global) {x y z : CellEvents} → tree ≡ MapTree b d → u ≡ b.value → w ≡ d.value → t ≡ (is_kind said kind.Map && ltb n (2 ^ 31))
      → Checked t x y → Counts (types_by (λ (i : TypeTree). i) (u ∷ w ∷ [])) (listed_pairs v.items) y z → BuildsOf level (Enter level said n) tree (MapValue v) x z
  map_built u w b d v {x} {y} {z} is same also tests checked one =
      let ts = types_by (λ (i : TypeTree). i) (u ∷ w ∷ []) in
      let vs = listed_pairs v.items in
      let own = as_same (value_of (MapValue v)) (λ q.
      let number : n ≡ length v.items =
      omega (arith, pairs_many v.items, counted_fit level said kind.Map n ts vs q, twos (kind_in (head_of u)) (kind_in (head_of w)) (types_in (inner_of u)) (types_in (inner_of w)) n) in
      ap (λ (m : ℕ). Counted_and kind.Map m vs NoValue) number ∙ sym (map_is v))
      (counted_inside level said kind.Map n ts t (tests_count t said kind.Map n tests) refl checked one) in
      subst (λ (o : TypeTree). BuildsOf level (Enter level said n) o (MapValue v) x z) (sym is)
      (subst (λ (o : TypeTree). BuildsInside level (Enter level said n) kind.Map (types_by (λ (i : TypeTree). i) (b.value ∷ o ∷ [])) (value_of (MapValue v)) x z) also
      (subst (λ (o : TypeTree). BuildsInside level (Enter level said n) kind.Map (types_by (λ (i : TypeTree). i) (o ∷ w ∷ [])) (value_of (MapValue v)) x z) same own))

  -- the fields of these types, one at least
  some_fields : (vs : List Value) {s : Bool} {y z : CellEvents} → s ≡ ltb 0 (length vs) → Checked s y z → Builds {A = Unit {0}} (λ _. []) (λ _. 0 < values_in (listed_values vs)) tt y z
  some_fields vs {s} is one =
      as_builds (λ (_ : Unit {0}). []) (λ _. 0 < values_in (listed_values vs)) (λ (u : Unit {0}). u) (λ u p. refl)
      (λ u p. omega (arith, many_values vs, ltb-true 0 (length vs) (sym is ∙ p)))
      (λ u p. (u, is ∙ lt-ltb 0 (length vs) (omega (arith, many_values vs, p)), refl)) one

  abbrev Fields : Types → Values → (old new : CellEvents) → Type 0
  Fields ts vs old new = Builds (fields_said level 0 ts) (AreFirst ts) vs old new

  pub tuple_built : (types : Vec TypeTree Global) (ts : List TypeTree) (v : Vec Value Global) (s : Bool) {x y z o : CellEvents} → tree ≡ TupleTree types → ts ≡ types.items → t ≡ (is_kind said kind.Tuple && (n == length ts))
      → s ≡ ltb 0 (length v.items) → Checked t x y → Fields (types_by (λ (i : TypeTree). i) ts) (listed_values v.items) y z → Checked s z o → BuildsOf level (Enter level said n) tree (TupleValue v) x o
  tuple_built types ts v s {x} {y} {z} {o} is same tests some checked one three =
      let inner = types_by (λ (i : TypeTree). i) ts in
      let whole = fields_inside level said kind.Tuple n inner t (tests_types t said kind.Tuple n (length ts) (how_many inner) tests (types_many (λ (i : TypeTree). i) ts)) refl checked one (some_fields v.items some three) in
      let own = subst (λ (w : Values). BuildsInside level (Enter level said n) kind.Tuple inner w x o) (sym (tuple_is v)) whole in
      let these : inner ≡ types_in (inner_of (TupleTree types)) = ap (types_by (λ (i : TypeTree). i)) same ∙ sym (tuple_types types) in
      subst (λ (w : TypeTree). BuildsOf level (Enter level said n) w (TupleValue v) x o) (sym is)
      (subst (λ (w : Types). BuildsInside level (Enter level said n) kind.Tuple w (value_of (TupleValue v)) x o) these own)

  pub udt_built : (keyspace name : String Global) (fields : Vec (String Global × TypeTree) Global) (fs : List (String Global × TypeTree)) (v : Vec Value Global) (s : Bool) {x y z o : CellEvents} → tree ≡ UdtTree keyspace name fields
      → fs ≡ fields.items → t ≡ (is_kind said kind.Udt && (n == length fs)) → s ≡ ltb 0 (length v.items) → Checked t x y → Fields (types_by (λ (i : String Global × TypeTree). i.1) fs) (listed_values v.items) y z → Checked s z o
      → BuildsOf level (Enter level said n) tree (UdtValue v) x o
  udt_built keyspace name fields fs v s {x} {y} {z} {o} is same tests some checked one three =
      let inner = types_by (λ (i : String Global × TypeTree). i.1) fs in
      let whole = fields_inside level said kind.Udt n inner t (tests_types t said kind.Udt n (length fs) (how_many inner) tests (types_many (λ (i : String Global × TypeTree). i.1) fs)) refl checked one (some_fields v.items some three) in
      let own = subst (λ (w : Values). BuildsInside level (Enter level said n) kind.Udt inner w x o) (sym (udt_is v)) whole in
      let these : inner ≡ types_in (inner_of (UdtTree keyspace name fields)) = ap (types_by (λ (i : String Global × TypeTree). i.1)) same ∙ sym (udt_types keyspace name fields) in
      subst (λ (w : TypeTree). BuildsOf level (Enter level said n) w (UdtValue v) x o) (sym is)
      (subst (λ (w : Types). BuildsInside level (Enter level said n) kind.Udt w (value_of (UdtValue v)) x o) these own)
