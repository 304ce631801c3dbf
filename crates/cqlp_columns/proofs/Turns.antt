-- Whose turn it is in a batch.
use Rattle.std.proofs.Common.{◌≡◌, ◌≢◌, ℕ, zero, suc, ◌+◌, ◌-◌, ◌%◌, ◌<◌, ◌≤◌, ◌^◌, ◌==◌, Bool, ◌&&◌, not, nat_lt, true, false, List, [], ◌∷◌, ◌++◌, length, map, refl, ap, sym, ◌∙◌, arith, add-one, inl, inr, if◌then◌else◌}
use Rattle.std.specs.Prelude.{Option, Some, None, slice_get}
use Rattle.std.proofs.Math.ListN.{set}
use Rattle.std.proofs.Math.Nat.{mod-eq_of_lt, mod-lt, mod_self}
use Rattle.std.proofs.lemmas.Bool.{and_parts, eqb-true, eq-eqb, ne_eqb, cases_lt, false≢true, le-leb, leb-true}
use Rattle.std.proofs.lemmas.List.{length-append}
use Rattle.cqlp_columns.specs.declared.columns.BatchLimits.{BatchLimits}
use Rattle.cqlp_columns.specs.declared.columns.TakeError.{TakeError}
use Rattle.cqlp_columns.specs.declared.columns.TakeError.TheVariants.{Full, OutOfOrder}
use Rattle.cqlp_columns.specs.Arrays.{Column, Site, room_in, with_cell}
use Rattle.cqlp_columns.specs.Batches.{Batch, IsReady, batch, cleared, empty_columns, fault_among, fault_at, has_room, is_full, next_after, rows_in, with_cell_in}
use Rattle.cqlp_columns.specs.Cells.{Cell, cell_bytes, is_valid}
use Rattle.cqlp_columns.specs.Turns.{AreEven, HasRows, IsKept, are_light, fault_out_of_turn, is_light, is_light_at, next_in, no_turn, turn_to}
use Rattle.cqlp_columns.proofs.Ready.{in_turn, none_among, ready_more, there}
use Rattle.cqlp_columns.proofs.Taking.{cells_in, last_rows}

-- ---- turns

taken_turn : (full : Bool) (next turn : ℕ) → turn ≡ (if full then no_turn else next) → turn < 2 ^ 32 → (full ≡ false) × (turn ≡ next)
taken_turn true next turn e h = absurd (omega (arith, e, h))
taken_turn false next turn e h = (refl, e)

by_turn :
    (room : Bool) (next k : ℕ) (f : Option TakeError) → ((next == 0) && not room) ≡ false → k ≡ next
    → f ≡ (if k == next then (if (k == 0) && not room then Some Full else f) else Some OutOfOrder)
by_turn room next k f e here = rw (eq-eqb k next here, ap (λ x. (x == 0) && not room) here ∙ e) refl

pub fault_in_turn :
    (l : BatchLimits) (cols : List Column) (turn : ℕ) (light : Bool) (k : ℕ) (c : Cell)
    → IsKept l cols turn light → k ≡ turn → k < 2 ^ 32 → fault_among l k c cols ≡ fault_at k c (batch l cols (next_in turn))
fault_in_turn l cols turn light k c kept is below =
    let low : turn < 2 ^ 32 = omega (arith, is, below) in
    let open_ = taken_turn (is_full (batch l cols (next_in turn))) (next_in turn) turn kept.due low in
    by_turn (has_room l cols) (next_in turn) k (fault_among l k c cols) open_.0 (is ∙ open_.1)

none_turns : (full : Bool) (next : ℕ) → (if full then no_turn else next) ≢ no_turn → full ≡ false
none_turns true next ne = absurd (ne refl)
none_turns false next ne = refl

out_of :
    (d z same room : Bool) (f : Option TakeError) → (d ≡ true → room ≡ false) → (d ≡ true → same ≡ z) → (d ≡ false → same ≡ false)
    → Some (if d && z then Full else OutOfOrder) ≡ (if same then (if z && not room then Some Full else f) else Some OutOfOrder)
out_of true true same room f r s n = rw (s refl, r refl) refl
out_of true false same room f r s n = rw (s refl) refl
out_of false z same room f r s n = rw (n refl) refl

roomless : (room : Bool) (turn : ℕ) → turn ≡ no_turn → turn ≡ (if (0 == 0) && not room then no_turn else 0) → room ≡ false
roomless true turn e h = absurd (omega (arith, e, h))
roomless false turn e h = refl

at_none : (turn : ℕ) → (turn == no_turn) ≡ true → next_in turn ≡ 0
at_none turn e = rw e refl

at_some : (turn : ℕ) → (turn == no_turn) ≡ false → next_in turn ≡ turn
at_some turn e = rw e refl

pub fault_out :
    (l : BatchLimits) (cols : List Column) (turn : ℕ) (light : Bool) (k : ℕ) (c : Cell)
    → IsKept l cols turn light → k ≢ turn → Some (fault_out_of_turn turn k) ≡ fault_at k c (batch l cols (next_in turn))
fault_out l cols turn light k c kept apart =
    out_of (turn == no_turn) (k == 0) (k == next_in turn) (has_room l cols) (fault_among l k c cols)
    (λ e. roomless (has_room l cols) turn (eqb-true turn no_turn e) (kept.due ∙ ap (λ x. turn_to (batch l cols x)) (at_none turn e)))
    (λ e. ap (λ x. k == x) (at_none turn e))
    (λ e. ap (λ x. k == x) (at_some turn e) ∙ ne_eqb k turn apart)

full_by : (full d : Bool) (turn next : ℕ) → turn ≡ (if full then no_turn else next) → (turn == no_turn) ≡ d → (next ≡ no_turn → ⊥) → d ≡ full
full_by true d turn next e t n = sym t ∙ eq-eqb turn no_turn e
full_by false d turn next e t n = sym t ∙ ne_eqb turn no_turn (λ x. n (sym e ∙ x))

low_next : (turn : ℕ) → next_in turn ≡ no_turn → ⊥
low_next turn e = by (turn == no_turn) refl
  where
    by : (d : Bool) → (turn == no_turn) ≡ d → ⊥
    by true t = absurd (omega (arith, sym (at_none turn t) ∙ e))
    by false t = false≢true (sym t ∙ eq-eqb turn no_turn (sym (at_some turn t) ∙ e))

pub full_turn : (l : BatchLimits) (cols : List Column) (turn : ℕ) (light : Bool) → IsKept l cols turn light → (turn == no_turn) ≡ is_full (batch l cols (next_in turn))
full_turn l cols turn light kept = full_by (is_full (batch l cols (next_in turn))) (turn == no_turn) turn (next_in turn) kept.due refl (low_next turn)

next_of : (full : Bool) (next : ℕ) → next < no_turn → (full ≡ true → next ≡ 0) → next_in (if full then no_turn else next) ≡ next
next_of true next h z = sym (z refl)
next_of false next h z = at_some next (ne_eqb next no_turn (λ e. absurd (omega (arith, e, h))))

pub next_in_to : (b : Batch) → b.next < no_turn → next_in (turn_to b) ≡ b.next
next_in_to b h = next_of (is_full b) b.next h (λ e. eqb-true b.next 0 (and_parts (b.next == 0) (not (has_room b.limits b.columns)) e).0)

-- ---- light columns

and_last : (a b m : Bool) → (m ≡ true → a ≡ true) → (m && b) ≡ ((a && b) && m)
and_last true true true h = refl
and_last true false true h = refl
and_last true true false h = refl
and_last true false false h = refl
and_last false b true h = absurd (false≢true (h refl))
and_last false b false h = refl

and_assoc : (a b m : Bool) → (a && (b && m)) ≡ ((a && b) && m)
and_assoc true b m = refl
and_assoc false b m = refl

lighter : (l : BatchLimits) (c : Cell) (a : Column) → is_light l (with_cell c a) ≡ true → is_light l a ≡ true
lighter l c a h =
    let longer : length (a.values ++ cell_bytes a.layout c) ≡ length a.values + length (cell_bytes a.layout c) = length-append a.values (cell_bytes a.layout c) in
    le-leb (length a.values) l.bytes (omega (arith, longer, leb-true (length (a.values ++ cell_bytes a.layout c)) l.bytes h))

pub light_more :
    (l : BatchLimits) (k : ℕ) (c : Cell) (cols : List Column)
    → are_light l (with_cell_in k c cols) ≡ (are_light l cols && is_light_at l k (with_cell_in k c cols))
light_more l k c [] = refl
light_more l zero c (a ∷ cols) = and_last (is_light l a) (are_light l cols) (is_light l (with_cell c a)) (lighter l c a)
light_more l (suc k) c (a ∷ cols) =
    ap (λ x. is_light l a && x) (light_more l k c cols) ∙ and_assoc (is_light l a) (are_light l cols) (is_light_at l k (with_cell_in k c cols))

pub light_there : (l : BatchLimits) (cols : List Column) (k : ℕ) (a : Column) → k < length cols → is_light l a ≡ is_light_at l k (set cols k a)
light_there l [] k a h = absurd (omega (arith, h))
light_there l (b ∷ cols) zero a h = refl
light_there l (b ∷ cols) (suc k) a h = light_there l cols k a (omega (arith, h))

-- ---- rows

even_more : (r k : ℕ) (c : Cell) (cols : List Column) → HasRows r k cols → HasRows r (suc k) (with_cell_in k c cols)
even_more r k c [] h = tt
even_more r zero c (a ∷ cols) h = (length-append a.valid (is_valid a.layout c ∷ []) ∙ ap (λ x. x + 1) h.0, h.1)
even_more r (suc k) c (a ∷ cols) h = (h.0, even_more r k c cols h.1)

even_end : (r : ℕ) (cols : List Column) → HasRows r (length cols) cols → HasRows (r + 1) 0 cols
even_end r [] h = tt
even_end r (a ∷ cols) h = (h.0, even_end r cols h.1)

pub as_even : (n k : ℕ) (cols : List Column) → n ≡ k → AreEven n cols → AreEven k cols
as_even n k cols e h = rw (sym e) h

pub even_at_end : (n : ℕ) (cols : List Column) → n ≡ length cols → AreEven n cols → AreEven 0 cols
even_at_end n cols e h = let x = as_even n (length cols) cols e h in (x.0 + 1, even_end x.0 cols x.1)

pub even_after : (k : ℕ) (c : Cell) (cols : List Column) → AreEven k cols → AreEven (k + 1) (with_cell_in k c cols)
even_after k c cols h = as_even (suc k) (k + 1) (with_cell_in k c cols) (sym (add-one k)) (h.0, even_more h.0 k c cols h.1)

pub even_next : (k n : ℕ) (cols : List Column) → n ≡ length cols → k < n → AreEven (k + 1) cols → AreEven (next_after k n) cols
even_next k n cols e h even =
    elim (cases_lt (k + 1) n) [
      | inl lt ↦ as_even (k + 1) (next_after k n) cols (sym (mod-eq_of_lt lt)) even
      | inr le ↦ as_even 0 (next_after k n) cols (sym (turned k n h le)) (even_at_end (k + 1) cols (omega (arith, h, le, e)) even)
    ]
  where
    turned : (k n : ℕ) → k < n → n ≤ k + 1 → next_after k n ≡ 0
    turned k n h le = let same : k + 1 ≡ n = omega (arith, h, le) in ap (λ x. x % n) same ∙ mod_self n

room_even :
    (l : BatchLimits) (r : ℕ) (a : Column) (cols : List Column) → HasRows r 0 (a ∷ cols)
    → has_room l (a ∷ cols) ≡ (are_light l (a ∷ cols) && nat_lt (rows_in (a ∷ cols)) l.rows)
room_even l r a [] h = one (nat_lt (length a.valid) l.rows) (is_light l a)
  where
    one : (x y : Bool) → ((x && y) && true) ≡ ((y && true) && x)
    one true true = refl
    one true false = refl
    one false true = refl
    one false false = refl
room_even l r a (b ∷ cols) h =
    let rest = room_even l r b cols h.1 in
    let same : length a.valid ≡ rows_in (b ∷ cols) = h.0 ∙ sym (all_rows r b cols h.1) in
    ap (λ x. room_in l.rows l.bytes a && x) rest
    ∙ ap (λ x. (nat_lt x l.rows && is_light l a) && (are_light l (b ∷ cols) && nat_lt (rows_in (b ∷ cols)) l.rows)) same
    ∙ two (nat_lt (rows_in (b ∷ cols)) l.rows) (is_light l a) (are_light l (b ∷ cols))
  where
    all_rows : (r : ℕ) (b : Column) (cols : List Column) → HasRows r 0 (b ∷ cols) → rows_in (b ∷ cols) ≡ r
    all_rows r b [] h = h.0
    all_rows r b (d ∷ cols) h = all_rows r d cols h.1

    two : (x y z : Bool) → ((x && y) && (z && x)) ≡ ((y && z) && x)
    two true true true = refl
    two true true false = refl
    two true false z = refl
    two false true true = refl
    two false true false = refl
    two false false z = refl

pub first_room :
    (l : BatchLimits) (cols : List Column) (light : Bool) (a : Column) → Some a ≡ slice_get cols (length cols - 1) → light ≡ are_light l cols
    → AreEven 0 cols → (light && nat_lt (length a.valid) l.rows) ≡ has_room l cols
first_room l [] light a e w h = absurd cc
first_room l (b ∷ cols) light a e w h =
    let rows : length a.valid ≡ rows_in (b ∷ cols) = ap (λ x. cells_in x) e ∙ last_rows (b ∷ cols) in
    rw (w, rows) (sym (room_even l h.0 b cols h.1))

pub first_open : (l : BatchLimits) (cols : List Column) → has_room l cols ≡ true → 0 ≡ turn_to (batch l cols 0)
first_open l cols e = rw e refl

pub first_shut : (l : BatchLimits) (cols : List Column) → has_room l cols ≡ false → no_turn ≡ turn_to (batch l cols 0)
first_shut l cols e = rw e refl

-- ---- the turn after a cell

pub turn_end :
    (l : BatchLimits) (cols : List Column) (k n turn : ℕ) → k + 1 ≡ n → n ≡ length cols → turn ≡ turn_to (batch l cols 0)
    → turn ≡ turn_to (batch l cols (next_after k (length cols)))
turn_end l cols k n turn e m t = t ∙ ap (λ x. turn_to (batch l cols x)) (sym (ap (λ x. x % length cols) (e ∙ m) ∙ mod_self (length cols)))

not_first : (n : ℕ) (b : Bool) → 0 < n → (if (n == 0) && b then no_turn else n) ≡ n
not_first n b h = rw (ne_eqb n 0 (λ e. absurd (omega (arith, e, h)))) refl

pub turn_on : (l : BatchLimits) (cols : List Column) (k : ℕ) → k + 1 < length cols → k + 1 ≡ turn_to (batch l cols (next_after k (length cols)))
turn_on l cols k lt =
    sym (ap (λ x. turn_to (batch l cols x)) (mod-eq_of_lt lt) ∙ not_first (k + 1) (not (has_room l cols)) (omega arith))

-- ---- a batch

low_turn : (k n : ℕ) → k < n → n < 2 ^ 64 → next_after k n < no_turn
low_turn k n h low = let x : next_after k n < n = mod-lt (k + 1) (omega (arith, h)) in omega (arith, x, low)

pub as_long : (k : ℕ) (c : Cell) (cols : List Column) → length (with_cell_in k c cols) ≡ length cols
as_long k c [] = refl
as_long zero c (a ∷ cols) = refl
as_long (suc k) c (a ∷ cols) = ap (λ (x : ℕ). suc x) (as_long k c cols)

in_place : (l : BatchLimits) (cols : List Column) (turn k : ℕ) (c : Cell) → fault_at k c (batch l cols (next_in turn)) ≡ None → next_in turn ≡ k
in_place l cols turn k c none = sym (in_turn k c (batch l cols (next_in turn)) none)

pub even_put :
    (l : BatchLimits) (cols : List Column) (turn : ℕ) (light : Bool) (k : ℕ) (c : Cell)
    → IsKept l cols turn light → fault_at k c (batch l cols (next_in turn)) ≡ None → AreEven (k + 1) (with_cell_in k c cols)
even_put l cols turn light k c kept none = even_after k c cols (as_even (next_in turn) k cols (in_place l cols turn k c none) kept.even)

pub light_put :
    (l : BatchLimits) (cols : List Column) (light more : Bool) (k : ℕ) (c : Cell)
    → light ≡ are_light l cols → more ≡ is_light_at l k (with_cell_in k c cols) → (light && more) ≡ are_light l (with_cell_in k c cols)
light_put l cols light more k c w m = rw (w, m) (sym (light_more l k c cols))

pub kept_more :
    (l : BatchLimits) (cols : List Column) (turn : ℕ) (light : Bool) (k : ℕ) (c : Cell) (n turn' : ℕ) (light' : Bool)
    → IsKept l cols turn light → fault_at k c (batch l cols (next_in turn)) ≡ None → n ≡ length cols → n < 2 ^ 64
    → turn' ≡ turn_to (batch l (with_cell_in k c cols) (next_after k n)) → light' ≡ are_light l (with_cell_in k c cols)
    → IsKept l (with_cell_in k c cols) turn' light' × (next_in turn' ≡ next_after k (length cols))
kept_more l cols turn light k c n turn' light' kept none count low due weight =
    let h : k < n = omega (arith, count, there l k c cols (none_among k c (batch l cols (next_in turn)) none)) in
    let next : next_in turn' ≡ next_after k n = ap (λ x. next_in x) due ∙ next_in_to (batch l (with_cell_in k c cols) (next_after k n)) (low_turn k n h low) in
    let turned : next_in turn' ≡ next_after k (length cols) = next ∙ ap (λ x. next_after k x) count in (
      record {
        ready = rw turned (ready_more l cols (next_in turn) k c kept.ready none);
        due = due ∙ ap (λ x. turn_to (batch l (with_cell_in k c cols) x)) (sym next);
        even = as_even (next_after k n) (next_in turn') (with_cell_in k c cols) (sym next)
            (even_next k n (with_cell_in k c cols) (count ∙ sym (as_long k c cols)) h (even_put l cols turn light k c kept none));
        weight = weight;
      },
      turned,
    )

-- ---- without rows

even_new : (l : BatchLimits) (ks : List Site) → HasRows 0 0 (empty_columns l ks)
even_new l [] = tt
even_new l (k ∷ ks) = (refl, even_new l ks)

light_new : (l : BatchLimits) (ks : List Site) → true ≡ are_light l (empty_columns l ks)
light_new l [] = refl
light_new l (k ∷ ks) = rw (le-leb 0 l.bytes (omega arith)) (light_new l ks)

pub light_none : (l : BatchLimits) (ks : List Site) (cols : List Column) → cols ≡ empty_columns l ks → true ≡ are_light l cols
light_none l ks cols e = rw e (light_new l ks)

pub even_none : (l : BatchLimits) (ks : List Site) (cols : List Column) → cols ≡ empty_columns l ks → AreEven 0 cols
even_none l ks cols e = rw e (0, even_new l ks)

even_clear : (cols : List Column) → HasRows 0 0 (map cleared cols)
even_clear [] = tt
even_clear (a ∷ cols) = (refl, even_clear cols)

pub even_cleared : (cols : List Column) → AreEven 0 (map cleared cols)
even_cleared cols = (0, even_clear cols)

pub light_cleared : (l : BatchLimits) (cols : List Column) → true ≡ are_light l (map cleared cols)
light_cleared l [] = refl
light_cleared l (a ∷ cols) = rw (le-leb 0 l.bytes (omega arith)) (light_cleared l cols)

pub first_next : (l : BatchLimits) (cols : List Column) (turn : ℕ) → turn ≡ turn_to (batch l cols 0) → next_in turn ≡ 0
first_next l cols turn e = ap (λ x. next_in x) e ∙ next_in_to (batch l cols 0) (omega arith)

pub kept_first :
    (l : BatchLimits) (cols : List Column) (turn : ℕ) → IsReady l cols 0 → AreEven 0 cols → true ≡ are_light l cols → turn ≡ turn_to (batch l cols 0)
    → IsKept l cols turn true × (next_in turn ≡ 0)
kept_first l cols turn ready even weight due =
    let next : next_in turn ≡ 0 = first_next l cols turn due in (
      record {
        ready = rw next ready;
        due = due ∙ ap (λ x. turn_to (batch l cols x)) (sym next);
        even = as_even 0 (next_in turn) cols (sym next) even;
        weight = weight;
      },
      next,
    )
