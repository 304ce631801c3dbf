-- The events of a whole cell.
use Rattle.std.proofs.Common.{◌≡◌, ℕ, zero, suc, ◌+◌, ◌++◌, ◌&&◌, ◌⊎◌, Bool, true, false, leb, List, [], ◌∷◌, length, map, Some, None, Err, refl, sym, ap, ◌∙◌, append-nil, inl, inr}
use Rattle.std.proofs.lemmas.List.{map-append}
use Rattle.cqlp_note.specs.Limits.{Rules}
use Rattle.cqlp_kind.specs.Scalars.{ScalarValue, content_of}
use Rattle.cqlp_kind.specs.Types.{Types, NoMore, Type_and, first_types, how_many}
use Rattle.cqlp_kind.specs.CellStep.{CellEvent, Leaf, Null, Empty, Enter, Leave, Part}
use Rattle.cqlp_value.specs.Values.{Values, NoValue, Null_and, Empty_and, Scalar_and, Counted_and, Fields_and, values_in, values_size, type_copies, in_parts, part_items, scalar_items, values_items}
use Rattle.cqlp_build_cells.specs.declared.held.CellEvents.{CellEvents}
use Rattle.cqlp_build_cells.specs.declared.held.Fault.{Fault}
use Rattle.cqlp_build_cells.specs.declared.held.Fault.TheVariants as fault
use Rattle.cqlp_build_cells.specs.declared.step.Step.{Step}
use Rattle.cqlp_build_cells.specs.declared.step.Step.TheVariants as step
use Rattle.cqlp_build_cells.specs.Building.{AreEventsOf, AreOfNone, FinishesAs, IsBuiltOf, refusal_of}
use Rattle.cqlp_build_cells.specs.CellEvents.{Builds, left, emitted_by}
use Rattle.cqlp_build_cells.specs.Said.{values_said}
use Rattle.cqlp_build_cells.proofs.Several.{BuildsAll}
use Rattle.cqlp_build_cells.proofs.Steps.{both, join}

-- ---- without parts

abbrev pub is_no_part : CellEvent → Bool
is_no_part (Part level offset c last) = false
is_no_part e = true

abbrev pub have_none : List CellEvent → Bool
have_none [] = true
have_none (e ∷ es) = is_no_part e && have_none es

both_none : (xs ys : List CellEvent) → have_none (xs ++ ys) ≡ true → (have_none xs ≡ true) × (have_none ys ≡ true)
both_none [] ys e = (refl, e)
both_none (x ∷ xs) ys e =
    let p = both (is_no_part x) (have_none (xs ++ ys)) e in
    let r = both_none xs ys p.1 in
    (join (is_no_part x) (have_none xs) p.0 r.0, r.1)

all_none : (xs ys : List CellEvent) → have_none xs ≡ true → have_none ys ≡ true → have_none (xs ++ ys) ≡ true
all_none [] ys p q = q
all_none (x ∷ xs) ys p q =
    let r = both (is_no_part x) (have_none xs) p in
    join (is_no_part x) (have_none (xs ++ ys)) r.0 (all_none xs ys r.1 q)

step_none : (s : ℕ × Step) → is_no_part (emitted_by s) ≡ true
step_none (level, step.Leaf a) = refl
step_none (level, step.Null) = refl
step_none (level, step.Empty) = refl
step_none (level, step.Enter k n) = refl
step_none (level, step.Leave n) = refl

steps_none : (ss : List (ℕ × Step)) → have_none (map emitted_by ss) ≡ true
steps_none [] = refl
steps_none (s ∷ ss) = join (is_no_part (emitted_by s)) (have_none (map emitted_by ss)) (step_none s) (steps_none ss)

-- nor have the values that are said
pub said_none : (level : ℕ) (ts : Types) (vs : Values) → have_none (values_said level ts vs) ≡ true
said_none level NoMore vs = refl
said_none level (Type_and k inner ts) NoValue = refl
said_none level (Type_and k inner ts) (Null_and vs) = said_none level ts vs
said_none level (Type_and k inner ts) (Empty_and vs) = said_none level ts vs
said_none level (Type_and k inner ts) (Scalar_and v vs) = said_none level ts vs
said_none level (Type_and k inner ts) (Counted_and j n items vs) =
    all_none (values_said (level + 1) (type_copies n inner) items) (Leave level n ∷ values_said level ts vs) (said_none (level + 1) (type_copies n inner) items) (said_none level ts vs)
said_none level (Type_and k inner ts) (Fields_and j items vs) =
    all_none (values_said (level + 1) (first_types (values_in items) inner) items) (Leave level (values_in items) ∷ values_said level ts vs) (said_none (level + 1) (first_types (values_in items) inner) items) (said_none level ts vs)

module _ (l : Rules) where
  abbrev emitted : List (ℕ × CellEvent) → List CellEvent
  emitted es = map (λ e. e.1) es

  parts_come : (n level at offset : ℕ) (c : List ℕ) (more : List (ℕ × CellEvent)) → have_none (emitted (part_items l n level at offset c ++ more)) ≡ false
  parts_come zero level at offset c more = refl
  parts_come (suc n) level at offset c more = elim (leb (length c) l.part) as (λ t. leb (length c) l.part ≡ t → have_none (emitted (part_items l (suc n) level at offset c ++ more)) ≡ false) [
    | true ↦ λ e. rw e refl
    | false ↦ λ e. rw e refl
  ] refl

  -- nothing comes in parts, as no limit asks for it, or none came
  abbrev pub NoParts : List (ℕ × CellEvent) → Type 0
  NoParts es = (l.parts ≡ false) ⊎ (have_none (emitted es) ≡ true)

  front : (xs ys : List (ℕ × CellEvent)) → NoParts (xs ++ ys) → NoParts xs
  front xs ys (inl e) = inl e
  front xs ys (inr e) = inr (both_none (emitted xs) (emitted ys) (ap have_none (sym (map-append (λ e. e.1) xs ys)) ∙ e)).0

  back : (xs ys : List (ℕ × CellEvent)) → NoParts (xs ++ ys) → NoParts ys
  back xs ys (inl e) = inl e
  back xs ys (inr e) = inr (both_none (emitted xs) (emitted ys) (ap have_none (sym (map-append (λ e. e.1) xs ys)) ∙ e)).1

  scalar_comes : (level at : ℕ) (v : ScalarValue) (more : List (ℕ × CellEvent)) → NoParts (scalar_items l level at v ++ more) → scalar_items l level at v ≡ (at, Leaf level v) ∷ []
  scalar_comes level at v more off = elim (in_parts l v) as (λ t. in_parts l v ≡ t → scalar_items l level at v ≡ (at, Leaf level v) ∷ []) [
    | true ↦ λ e. absurd (never e off)
    | false ↦ λ e. rw e refl
  ] refl
    where
      never : in_parts l v ≡ true → NoParts (scalar_items l level at v ++ more) → ⊥
      never e (inl none) = let d : false ≡ true = rw none at e in absurd cc
      never e (inr all) =
          let came = rw e at all in
          let d : false ≡ true = sym (parts_come (length (content_of v)) level (at + 4) 0 (content_of v) more) ∙ came in
          absurd cc

  inside : (e d : CellEvent) (at stop : ℕ) (xs ys : List (ℕ × CellEvent)) (fs bs : List CellEvent) → emitted xs ≡ fs → emitted ys ≡ bs → emitted ((at, e) ∷ (xs ++ ((stop, d) ∷ ys))) ≡ e ∷ (fs ++ (d ∷ bs))
  inside e d at stop xs ys fs bs p q = ap (λ es. e ∷ es) (map-append (λ e. e.1) xs ((stop, d) ∷ ys) ∙ (λ i. p i ++ (d ∷ q i)))

  -- the items without parts are what is said
  pub items_said : (level at : ℕ) (ts : Types) (vs : Values) → NoParts (values_items l level at ts vs) → emitted (values_items l level at ts vs) ≡ values_said level ts vs
  items_said level at NoMore vs off = refl
  items_said level at (Type_and k inner ts) NoValue off = refl
  items_said level at (Type_and k inner ts) (Null_and vs) off =
      ap (λ es. Null level ∷ es) (items_said level (at + 4) ts vs (back ((at, Null level) ∷ []) (values_items l level (at + 4) ts vs) off))
  items_said level at (Type_and k inner ts) (Empty_and vs) off =
      ap (λ es. Empty level ∷ es) (items_said level (at + 4) ts vs (back ((at, Empty level) ∷ []) (values_items l level (at + 4) ts vs) off))
  items_said level at (Type_and k inner ts) (Scalar_and v vs) off =
      let next = at + 4 + length (content_of v) in
      let more = values_items l level next ts vs in
      ap (λ es. emitted (es ++ more)) (scalar_comes level at v more off)
      ∙ ap (λ es. Leaf level v ∷ es) (items_said level next ts vs (back (scalar_items l level at v) more off))
  items_said level at (Type_and k inner ts) (Counted_and j n items vs) off =
      let stop = at + 8 + values_size items in
      let xs = values_items l (level + 1) (at + 8) (type_copies n inner) items in
      let ys = values_items l level stop ts vs in
      let rest = back ((at, Enter level k n) ∷ []) (xs ++ ((stop, Leave level n) ∷ ys)) off in
      inside (Enter level k n) (Leave level n) at stop xs ys _ _
      (items_said (level + 1) (at + 8) (type_copies n inner) items (front xs ((stop, Leave level n) ∷ ys) rest))
      (items_said level stop ts vs (back ((stop, Leave level n) ∷ []) ys (back xs ((stop, Leave level n) ∷ ys) rest)))
  items_said level at (Type_and k inner ts) (Fields_and j items vs) off =
      let stop = at + 4 + values_size items in
      let xs = values_items l (level + 1) (at + 4) (first_types (values_in items) inner) items in
      let ys = values_items l level stop ts vs in
      let d = Leave level (values_in items) in
      let rest = back ((at, Enter level k (how_many inner)) ∷ []) (xs ++ ((stop, d) ∷ ys)) off in
      inside (Enter level k (how_many inner)) d at stop xs ys _ _
      (items_said (level + 1) (at + 4) (first_types (values_in items) inner) items (front xs ((stop, d) ∷ ys) rest))
      (items_said level stop ts vs (back ((stop, d) ∷ []) ys (back xs ((stop, d) ∷ ys) rest)))

-- limits without parts
abbrev whole_limits : Rules
whole_limits = record { text = 0; cell = 0; entries = 0; depth = 0; part = 0; types = true; parts = false; lenient = false }

-- ---- the whole cell

pub are_said : (h : CellEvents) (ts : Types) (w : Values) → AreEventsOf (left h) ts w → left h ≡ values_said 0 ts w ++ []
are_said h ts w e =
    let none : have_none (map (λ x. x.1) (values_items e.rules 0 e.at ts w)) ≡ true = ap have_none e.are ∙ steps_none h.items.items in
    sym e.are ∙ items_said e.rules 0 e.at ts w (inr none) ∙ sym (append-nil (values_said 0 ts w))

module _ (ts : Types) (old mid new : CellEvents) (v : Values) (over : Bool) (all : BuildsAll 0 ts v old mid)
    (checked : Builds {A = Unit {0}} (λ _. []) (λ _. over ≡ true) tt mid new) (none : over ≡ true → left mid ≡ []) where
  pub built_whole : new.fault ≡ None → IsBuiltOf (left old) ts v
  built_whole s =
      let m = checked.made s in
      let b = all.made m.0 in
      record {
        are = record {
          rules = whole_limits;
          at = 0;
          are = items_said whole_limits 0 0 ts v (inl refl) ∙ sym (b.1 ∙ ap (λ es. values_said 0 ts v ++ es) (none m.2) ∙ append-nil (values_said 0 ts v));
        };
        fits = b.2;
        only = λ w f e. (all.only m.0 w [] f (are_said old ts w e)).0;
      }

  pub built_none : (left mid ≡ [] → over ≡ true) → old.fault ≡ None → new.fault ≡ Some fault.NoValue → AreOfNone (left old) ts
  built_none back sound r w f e = elim (checked.none r) [
    | inl k ↦ elim (all.none k) [
      | inl j ↦ let d : None ≡ Some fault.NoValue = sym sound ∙ j in absurd cc
      | inr j ↦ j.1 w [] f (are_said old ts w e)
    ]
    | inr k ↦ k.1 tt (left mid) (back (sym (all.only k.0 w [] f (are_said old ts w e)).1)) refl
  ]

  pub built_refused : (left mid ≡ [] → over ≡ true) → old.fault ≡ None → (why : Fault) → new.fault ≡ Some why → FinishesAs (left old) ts (Err (refusal_of why))
  built_refused back sound fault.NoValue r = built_none back sound r
  built_refused back sound fault.NoMemory r = tt
