-- One more event in the columns of a batch.
use Rattle.std.proofs.Common.{◌≡◌, ◌≢◌, ℕ, zero, suc, ◌+◌, ◌<◌, List, [], ◌∷◌, ◌++◌, length, map, refl, ap, sym, ◌∙◌, arith, add-one, get_or, take, drop, ◌-◌, if◌then◌else◌, ◌%◌}
use Rattle.std.specs.Prelude.{◌≤◌, Option, Some, None, Result, Ok, Err, IsOk, slice_get}
use Rattle.std.proofs.Math.ListN.{set}
use Rattle.std.proofs.lemmas.Bool.{eq-eqb, ne_eqb}
use Rattle.std.proofs.lemmas.List.{append-nil}
use Rattle.std.proofs.lemmas.List.Concat.{flat_map-append}
use Rattle.cqlp_grammar.specs.Events.{Event}
use Rattle.cqlp_columns.specs.declared.columns.BatchLimits.{BatchLimits}
use Rattle.cqlp_columns.specs.declared.columns.TakeError.{TakeError}
use Rattle.cqlp_columns.specs.declared.columns.TakeError.TheVariants.{OutOfOrder}
use Rattle.cqlp_columns.specs.Arrays.{Column, Site, refusal_of, with_cell}
use Rattle.std.proofs.lemmas.List.Sums.{sum_by_push}
use Rattle.std.proofs.Math.Nat.{suc-mod, zero-mod}
use Rattle.cqlp_columns.specs.Batches.{Batch, HasTaken, IsAnswerOf, batch, batch_of, cleared, columns_from, empty_columns, fault_among, fault_at, fault_in, filled, next_after, refusal_among, rows_in, with_cell_at, with_cell_in}
use Rattle.cqlp_columns.specs.Cells.{Cell}
use Rattle.cqlp_columns.specs.Findings.{Nothing, Whole, cell_count, cells_among, cells_at, cells_of, found_in}
use Rattle.cqlp_columns.proofs.Appends.{appended_to}
use Rattle.cqlp_columns.proofs.Ready.{in_turn}

-- ---- the cells of a column

cells_more : (k : ℕ) (es : List Event) (e : Event) → cells_among k (es ++ e ∷ []) ≡ cells_among k es ++ cells_at k (found_in e)
cells_more k es e =
    flat_map-append (λ x. cells_at k (found_in x)) es (e ∷ []) ∙ ap (λ x. cells_among k es ++ x) (append-nil (cells_at k (found_in e)))

no_cell : (k : ℕ) (es : List Event) (e : Event) → found_in e ≡ Nothing → cells_among k (es ++ e ∷ []) ≡ cells_among k es
no_cell k es e f = cells_more k es e ∙ ap (λ x. cells_among k es ++ cells_at k x) f ∙ append-nil (cells_among k es)

its_cell : (k : ℕ) (es : List Event) (e : Event) (c : Cell) → found_in e ≡ Whole k c → cells_among k (es ++ e ∷ []) ≡ cells_among k es ++ c ∷ []
its_cell k es e c f =
    cells_more k es e ∙ ap (λ x. cells_among k es ++ cells_at k x) f
    ∙ ap (λ b. cells_among k es ++ (if b then c ∷ [] else [])) (eq-eqb k k refl)

others_cell : (k j : ℕ) (es : List Event) (e : Event) (c : Cell) → found_in e ≡ Whole k c → k ≢ j → cells_among j (es ++ e ∷ []) ≡ cells_among j es
others_cell k j es e c f apart =
    cells_more j es e ∙ ap (λ x. cells_among j es ++ cells_at j x) f
    ∙ ap (λ b. cells_among j es ++ (if b then c ∷ [] else [])) (ne_eqb k j apart)
    ∙ append-nil (cells_among j es)

-- ---- the columns

pub nothing_more : (l : BatchLimits) (at : ℕ) (ks : List Site) (es : List Event) (e : Event) → found_in e ≡ Nothing → columns_from l at ks (es ++ e ∷ []) ≡ columns_from l at ks es
nothing_more l at [] es e f = refl
nothing_more l at (k ∷ ks) es e f = rw (no_cell at es e f, nothing_more l (at + 1) ks es e f) refl

later : (l : BatchLimits) (at k : ℕ) (ks : List Site) (es : List Event) (e : Event) (c : Cell) → found_in e ≡ Whole k c → k < at → columns_from l at ks (es ++ e ∷ []) ≡ columns_from l at ks es
later l at k [] es e c f h = refl
later l at k (kind ∷ ks) es e c f h =
    let apart : k ≢ at = omega (arith, h) in
    let next : k < at + 1 = omega (arith, h) in
    rw (others_cell k at es e c f apart, later l (at + 1) k ks es e c f next) refl

one_more : (l : BatchLimits) (at j k : ℕ) (ks : List Site) (es : List Event) (e : Event) (c : Cell) → found_in e ≡ Whole k c → k ≡ at + j → with_cell_in j c (columns_from l at ks es) ≡ columns_from l at ks (es ++ e ∷ [])
one_more l at j k [] es e c f h = refl
one_more l at zero k (kind ∷ ks) es e c f h =
    let here : k ≡ at = omega (arith, h) in
    let g : found_in e ≡ Whole at c = f ∙ ap (λ x. Whole x c) here in
    let before : at < at + 1 = omega arith in
    rw (its_cell at es e c g, later l (at + 1) at ks es e c g before) (ap (λ x. x ∷ columns_from l (at + 1) ks es) (appended_to _ _ _ _ (cells_among at es) c))
one_more l at (suc j) k (kind ∷ ks) es e c f h =
    let apart : k ≢ at = omega (arith, h) in
    let next : k ≡ at + 1 + j = omega (arith, h) in
    rw (others_cell k at es e c f apart) (ap (λ x. filled l kind (cells_among at es) ∷ x) (one_more l (at + 1) j k ks es e c f next))

pub cell_more : (l : BatchLimits) (k : ℕ) (ks : List Site) (es : List Event) (e : Event) (c : Cell) → found_in e ≡ Whole k c → with_cell_in k c (columns_from l 0 ks es) ≡ columns_from l 0 ks (es ++ e ∷ [])
cell_more l k ks es e c f =
    let here : k ≡ 0 + k = omega arith in
    one_more l 0 k k ks es e c f here

-- ---- the batch

counted : (es : List Event) (e : Event) → cell_count (es ++ e ∷ []) ≡ cell_count es + cells_of (found_in e)
counted es e = sum_by_push (λ x. cells_of (found_in x)) es e

same_count : (es : List Event) (e : Event) → found_in e ≡ Nothing → cell_count (es ++ e ∷ []) ≡ cell_count es
same_count es e f =
    let z : cells_of (found_in e) ≡ 0 = ap (λ x. cells_of x) f in
    omega (arith, counted es e, z)

one_counted : (es : List Event) (e : Event) (k : ℕ) (c : Cell) → found_in e ≡ Whole k c → cell_count (es ++ e ∷ []) ≡ suc (cell_count es)
one_counted es e k c f =
    let z : cells_of (found_in e) ≡ 1 = ap (λ x. cells_of x) f in
    omega (arith, counted es e, z)

pub batch_nothing : (l : BatchLimits) (ks : List Site) (es : List Event) (e : Event) (b : Batch) → found_in e ≡ Nothing → HasTaken l ks es b → HasTaken l ks (es ++ e ∷ []) b
batch_nothing l ks es e b f h =
    h ∙ ap (λ x. batch l x (cell_count es % length ks)) (sym (nothing_more l 0 ks es e f))
    ∙ ap (λ x. batch l (columns_from l 0 ks (es ++ e ∷ [])) (x % length ks)) (sym (same_count es e f))

as_many : (l : BatchLimits) (at : ℕ) (ks : List Site) (es : List Event) → length (columns_from l at ks es) ≡ length ks
as_many l at [] es = refl
as_many l at (k ∷ ks) es = ap (λ (x : ℕ). suc x) (as_many l (at + 1) ks es)

turned : (l : BatchLimits) (ks : List Site) (es : List Event) (e : Event) (k : ℕ) (c : Cell) → found_in e ≡ Whole k c → k ≡ cell_count es % length ks → next_after k (length (columns_from l 0 ks es)) ≡ cell_count (es ++ e ∷ []) % length ks
turned l ks es e k c f here =
    ap (λ x. (k + 1) % x) (as_many l 0 ks es)
    ∙ ap (λ x. (x + 1) % length ks) here
    ∙ ap (λ x. x % length ks) (add-one (cell_count es % length ks))
    ∙ sym (suc-mod (cell_count es) (length ks))
    ∙ ap (λ x. x % length ks) (sym (one_counted es e k c f))

of_batch :
    (l : BatchLimits) (ks : List Site) (es : List Event) (e : Event) (k : ℕ) (c : Cell)
    → found_in e ≡ Whole k c → fault_at k c (batch_of l ks es) ≡ None → with_cell_at k c (batch_of l ks es) ≡ batch_of l ks (es ++ e ∷ [])
of_batch l ks es e k c f none =
    ap (λ x. batch l x (next_after k (length (columns_from l 0 ks es)))) (cell_more l k ks es e c f)
    ∙ ap (λ x. batch l (columns_from l 0 ks (es ++ e ∷ [])) x) (turned l ks es e k c f (in_turn k c (batch_of l ks es) none))

pub batch_more :
    (l : BatchLimits) (ks : List Site) (es : List Event) (e : Event) (k : ℕ) (c : Cell) (b b' : Batch)
    → found_in e ≡ Whole k c → fault_at k c b ≡ None → b' ≡ with_cell_at k c b → HasTaken l ks es b → HasTaken l ks (es ++ e ∷ []) b'
batch_more l ks es e k c b b' f none new h =
    let t : fault_at k c (batch_of l ks es) ≡ None = ap (λ x. fault_at k c x) (sym h) ∙ none in
    new ∙ ap (λ x. with_cell_at k c x) h ∙ of_batch l ks es e k c f t

-- ---- without rows

pub new_columns : (l : BatchLimits) (at : ℕ) (ks : List Site) → empty_columns l ks ≡ columns_from l at ks []
new_columns l at [] = refl
new_columns l at (k ∷ ks) = ap (λ x. filled l k [] ∷ x) (new_columns l (at + 1) ks)

pub cleared_columns : (l : BatchLimits) (at : ℕ) (ks : List Site) (es : List Event) → map cleared (columns_from l at ks es) ≡ columns_from l at ks []
cleared_columns l at [] es = refl
cleared_columns l at (k ∷ ks) es = ap (λ x. filled l k [] ∷ x) (cleared_columns l (at + 1) ks es)

-- ---- a column at its place

pub set_there :
    (cols : List Column) (k : ℕ) (c : Cell) (d : Column) → k < length cols → set cols k (with_cell c (get_or cols k d)) ≡ with_cell_in k c cols
set_there [] k c d h = refl
set_there (b ∷ cols) zero c d h = refl
set_there (b ∷ cols) (suc k) c d h = ap (λ x. b ∷ x) (set_there cols k c d (omega (arith, h)))

pub fault_there :
    (l : BatchLimits) (cols : List Column) (k : ℕ) (c : Cell) (d : Column) → k < length cols → fault_in l c (get_or cols k d) ≡ fault_among l k c cols
fault_there l [] k c d h = absurd (omega (arith, h))
fault_there l (b ∷ cols) zero c d h = refl
fault_there l (b ∷ cols) (suc k) c d h = fault_there l cols k c d (omega (arith, h))

pub fault_beyond : (l : BatchLimits) (cols : List Column) (k : ℕ) (c : Cell) → length cols ≤ k → Some OutOfOrder ≡ fault_among l k c cols
fault_beyond l [] k c h = refl
fault_beyond l (b ∷ cols) zero c h = absurd (omega (arith, h))
fault_beyond l (b ∷ cols) (suc k) c h = fault_beyond l cols k c (omega (arith, h))

pub refusal_there : (cols : List Column) (k : ℕ) (c : Cell) (d : Column) → k < length cols → refusal_of c (get_or cols k d) ≡ refusal_among k c cols
refusal_there [] k c d h = absurd (omega (arith, h))
refusal_there (b ∷ cols) zero c d h = refl
refusal_there (b ∷ cols) (suc k) c d h = refusal_there cols k c d (omega (arith, h))

pub clear_more :
    (cols : List Column) (n : ℕ) (d : Column) → n < length cols
    → set (map cleared (take n cols) ++ drop n cols) n (cleared (get_or (map cleared (take n cols) ++ drop n cols) n d)) ≡ map cleared (take (suc n) cols) ++ drop (suc n) cols
clear_more [] n d h = absurd (omega (arith, h))
clear_more (b ∷ cols) zero d h = refl
clear_more (b ∷ cols) (suc n) d h = ap (λ x. cleared b ∷ x) (clear_more cols n d (omega (arith, h)))

pub batch_cleared : (l : BatchLimits) (ks : List Site) (es : List Event) (b b' : Batch) → b' ≡ batch b.limits (map cleared b.columns) 0 → HasTaken l ks es b → HasTaken l ks [] b'
batch_cleared l ks es b b' new h =
    new ∙ ap (λ (x : Batch). batch x.limits (map cleared x.columns) 0) h ∙ ap (λ x. batch l x 0) (cleared_columns l 0 ks es)
    ∙ ap (λ x. batch l (columns_from l 0 ks []) x) (sym (none (length ks)))
  where
    none : (n : ℕ) → 0 % n ≡ 0
    none n = zero-mod n

pub batch_new : (l : BatchLimits) (ks : List Site) → HasTaken l ks [] (batch l (empty_columns l ks) 0)
batch_new l ks =
    ap (λ x. batch l x 0) (new_columns l 0 ks) ∙ ap (λ x. batch l (columns_from l 0 ks []) x) (sym (zero-mod (length ks)))

-- ---- the last column

abbrev pub cells_in : Option Column → ℕ
cells_in None = 0
cells_in (Some a) = length a.valid

pub last_rows : (cols : List Column) → cells_in (slice_get cols (length cols - 1)) ≡ rows_in cols
last_rows [] = refl
last_rows (a ∷ []) = refl
last_rows (a ∷ b ∷ cols) = let e : suc (suc (length cols)) - 1 ≡ suc (suc (length cols) - 1) = omega arith in rw e (last_rows (b ∷ cols))

pub answered : (o : Option TakeError) (r : Result (Unit {0}) TakeError) → IsOk r → IsAnswerOf o r → o ≡ None
answered o (Ok u) ok x = x
answered o (Err e) ok x = absurd cc
