-- Runs of plain cells: how many events they are, and one more.
use Rattle.std.proofs.Common.{◌≡◌, ℕ, zero, suc, ◌+◌, ◌-◌, ◌/◌, ◌%◌, ◌^◌, ◌<◌, ◌≤◌, ◌++◌, List, [], ◌∷◌, length, drop, get_or, map, true, refl, sym, ap, ◌∙◌, append-nil, append_assoc, arith}
use Rattle.std.specs.Prelude.{◌&&◌, Bool, false}
use Rattle.std.proofs.lemmas.List.{drop_all, drop_more, length-append, length-drop}
use Rattle.cqlp_value.specs.declared.value.Value.{Value}
use Rattle.cqlp_kind.specs.declared.kind.Kind.{Kind}
use Rattle.cqlp_kind.specs.declared.kind.Kind.TheVariants as kind
use Rattle.cqlp_kind.specs.Types.{NoMore, Type_and, followed_by}
use Rattle.cqlp_type.specs.Trees.{types_in}
use Rattle.cqlp_type.specs.TypeTrees.{tree_of}
use Rattle.cqlp_type.specs.declared.tree.TypeTree.{Plain}
use Rattle.cqlp_grammar.specs.Productions.{raw_types}
use Rattle.cqlp_message.specs.Bodies.{column_types}
use Rattle.cqlp_message.specs.Owned.{spec_of}
use Rattle.cqlp_message.specs.declared.response.Spec.{Spec}
use Rattle.cqlp_build.specs.declared.item.Item.{Item}
use Rattle.cqlp_build.specs.declared.item.Item.TheVariants as item
use Rattle.cqlp_build.specs.declared.held_events.HeldEvents.TheInside.{Inside}
use Rattle.cqlp_build.specs.Plain.{cell_item, fits_run, is_of_kind, kind_at, kind_types, run_items, step_of}
use Rattle.cqlp_build.specs.Run.{held_items}
use Rattle.cqlp_build.proofs.Several.{join}

pub run_length : (last at : ℕ) (vs : List Value) → length (run_items last at vs) ≡ length vs
run_length last at [] = refl
run_length last at (v ∷ vs) = ap suc (run_length last (at + 1) vs)

pub held_length : (h : Inside) → length (held_items h) ≡ length h.head.items + (length h.cells.items - h.taken) + length h.tail.items
held_length h =
    let run = run_items h.last h.taken (drop h.taken h.cells.items) in
    omega (arith, length-append (h.head.items ++ run) h.tail.items, length-append h.head.items run, run_length h.last h.taken (drop h.taken h.cells.items), length-drop h.taken h.cells.items)

pub run_append : (last at : ℕ) (vs ws : List Value) → run_items last at (vs ++ ws) ≡ run_items last at vs ++ run_items last (at + length vs) ws
run_append last at [] ws = let same : at ≡ at + 0 = omega arith in ap (λ n. run_items last n ws) same
run_append last at (v ∷ vs) ws =
    let same : at + 1 + length vs ≡ at + suc (length vs) = omega arith in
    ap (λ is. cell_item last at v ∷ is) (run_append last (at + 1) vs ws ∙ ap (λ n. run_items last (at + 1) vs ++ run_items last n ws) same)

-- one more cell of the run
pub run_more : (h : Inside) (items : List Item) (row column : ℕ) (v : Value) → held_items h ≡ items → h.taken ≡ 0 → h.tail.items ≡ []
    → length h.cells.items / (h.last + 1) % 2 ^ 32 ≡ row → length h.cells.items % (h.last + 1) ≡ column
    → (h.head.items ++ run_items h.last h.taken (drop h.taken (h.cells.items ++ v ∷ []))) ++ h.tail.items ≡ items ++ item.Cell row column 0 (step_of v) ∷ []
run_more h items row column v e taken tail r c =
    let cells = h.cells.items in
    let run = run_items h.last 0 cells in
    let cell = item.Cell row column 0 (step_of v) ∷ [] in
    let start : 0 + length cells ≡ length cells = omega arith in
    let is : cell_item h.last (0 + length cells) v ≡ item.Cell row column 0 (step_of v) = ap (λ n. cell_item h.last n v) start ∙ (λ i. item.Cell (r i) (c i) 0 (step_of v)) in
    let more : run_items h.last 0 (cells ++ v ∷ []) ≡ run ++ cell = run_append h.last 0 cells (v ∷ []) ∙ ap (λ x. run ++ x ∷ []) is in
    let before : items ≡ h.head.items ++ run = sym e ∙ (ap (λ n. (h.head.items ++ run_items h.last n (drop n cells)) ++ h.tail.items) taken ∙ (ap (λ t. (h.head.items ++ run) ++ t) tail ∙ append-nil (h.head.items ++ run))) in
    ap (λ n. (h.head.items ++ run_items h.last n (drop n (cells ++ v ∷ []))) ++ h.tail.items) taken
    ∙ (ap (λ t. (h.head.items ++ run_items h.last 0 (cells ++ v ∷ [])) ++ t) tail
    ∙ (append-nil (h.head.items ++ run_items h.last 0 (cells ++ v ∷ []))
    ∙ (ap (λ x. h.head.items ++ x) more ∙ (sym (append_assoc h.head.items run cell) ∙ ap (λ x. x ++ cell) (sym before)))))

-- ---- their kinds

grouped : (a b c : Bool) → (a && (b && c)) ≡ ((a && b) && c)
grouped true b c = refl
grouped false b c = refl

pub fits_append : (last at : ℕ) (kinds : List Kind) (vs ws : List Value) → fits_run last at kinds (vs ++ ws) ≡ (fits_run last at kinds vs && fits_run last (at + length vs) kinds ws)
fits_append last at kinds [] ws = let same : at ≡ at + 0 = omega arith in ap (λ n. fits_run last n kinds ws) same
fits_append last at kinds (v ∷ vs) ws =
    let first = is_of_kind (kind_at kinds (at % (last + 1))) v in
    let same : at + 1 + length vs ≡ at + suc (length vs) = omega arith in
    ap (λ b. first && b) (fits_append last (at + 1) kinds vs ws ∙ ap (λ n. fits_run last (at + 1) kinds vs && fits_run last n kinds ws) same)
    ∙ grouped first (fits_run last (at + 1) kinds vs) (fits_run last (at + suc (length vs)) kinds ws)

-- one more
pub fits_more : (last column : ℕ) (kinds : List Kind) (vs : List Value) (v : Value) → fits_run last 0 kinds vs ≡ true → length vs % (last + 1) ≡ column
    → is_of_kind (kind_at kinds column) v ≡ true → fits_run last 0 kinds (vs ++ v ∷ []) ≡ true
fits_more last column kinds vs v f c k =
    let start : length vs ≡ 0 + length vs = omega arith in
    let is : is_of_kind (kind_at kinds ((0 + length vs) % (last + 1))) v ≡ true = ap (λ n. is_of_kind (kind_at kinds (n % (last + 1))) v) (sym start) ∙ (ap (λ n. is_of_kind (kind_at kinds n) v) c ∙ k) in
    fits_append last 0 kinds vs (v ∷ []) ∙ join (fits_run last 0 kinds vs) (is_of_kind (kind_at kinds ((0 + length vs) % (last + 1))) v && true) f (join (is_of_kind (kind_at kinds ((0 + length vs) % (last + 1))) v) true is refl)

pub no_cells_fit : (last at : ℕ) (kinds : List Kind) (vs : List Value) → vs ≡ [] → fits_run last at kinds vs ≡ true
no_cells_fit last at kinds vs e = ap (fits_run last at kinds) e

-- ---- the columns' types by their kinds

pub raw_kinds : (column n : ℕ) → raw_types n ≡ kind_types [] column n
raw_kinds column zero = refl
raw_kinds column (suc n) = ap (Type_and kind.Raw NoMore) (raw_kinds (column + 1) n)

pub more_kinds : (kinds : List Kind) (specs : List Spec) (column n : ℕ) (s : Spec) → s ≡ get_or specs column s → column < length specs → s.tree ≡ Plain (kind_at kinds column)
    → column_types (map spec_of (drop (column + 1) specs)) ≡ kind_types kinds (column + 1) n → column_types (map spec_of (drop column specs)) ≡ kind_types kinds column (suc n)
more_kinds kinds specs column n s e l tree others =
    let rest = drop (column + 1) specs in
    let split : drop column specs ≡ s ∷ rest = drop_more specs column s l ∙ ap (λ (y : Spec). y ∷ rest) (sym e) in
    ap (λ (xs : List Spec). column_types (map spec_of xs)) split
    ∙ (ap (λ t. followed_by (types_in (tree_of t)) (column_types (map spec_of rest))) tree ∙ ap (Type_and (kind_at kinds column) NoMore) others)

pub all_kinds : (kinds : List Kind) (specs : List Spec) (column : ℕ) → length specs ≤ column → column_types (map spec_of (drop column specs)) ≡ kind_types kinds column 0
all_kinds kinds specs column l = ap (λ (xs : List Spec). column_types (map spec_of xs)) (drop_all column specs l)

-- ---- all that is held

-- the cells of the run alone
pub whole_items : (h : Inside) (items : List Item) → held_items h ≡ items → h.head.items ≡ [] → h.tail.items ≡ [] → h.taken ≡ 0 → items ≡ run_items h.last 0 h.cells.items
whole_items h items e head tail taken =
    let run = run_items h.last h.taken (drop h.taken h.cells.items) in
    sym e ∙ (ap (λ xs. (xs ++ run) ++ h.tail.items) head ∙ (ap (λ xs. run ++ xs) tail ∙ (append-nil run ∙ ap (λ n. run_items h.last n (drop n h.cells.items)) taken)))

-- none
pub emptied : (h : Inside) (cells : List Value) → h.head.items ≡ [] → h.tail.items ≡ [] → h.taken ≡ 0 → cells ≡ []
    → (h.head.items ++ run_items h.last h.taken (drop h.taken cells)) ++ h.tail.items ≡ []
emptied h cells head tail taken none =
    let run = run_items h.last h.taken (drop h.taken cells) in
    ap (λ xs. (xs ++ run) ++ h.tail.items) head
    ∙ (ap (λ xs. run ++ xs) tail ∙ (append-nil run ∙ (ap (λ n. run_items h.last n (drop n cells)) taken ∙ ap (run_items h.last 0) none)))
