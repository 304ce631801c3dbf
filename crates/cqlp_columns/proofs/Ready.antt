-- Room for the cells of a row.
use Rattle.std.proofs.Common.{◌≡◌, ℕ, zero, suc, ◌+◌, ◌%◌, ◌<◌, ◌≤◌, ◌==◌, Bool, ◌&&◌, not, nat_le, nat_lt, true, false, List, [], ◌∷◌, ◌++◌, length, map, refl, ap, sym, ◌∙◌, arith, add-one, take, drop, inl, inr, ◌⊎◌, if◌then◌else◌}
use Rattle.std.specs.Prelude.{Option, Some, None}
use Rattle.std.specs.List.{AllByRecursion}
use Rattle.std.proofs.Math.Nat.{mod-eq_of_lt, mod_self}
use Rattle.std.proofs.lemmas.Bool.{and_from, and_parts, cases_lt, eqb-true, le-leb, leb-true, ltb-false}
use Rattle.std.proofs.lemmas.List.{take_at}
use Rattle.cqlp_columns.specs.declared.columns.BatchLimits.{BatchLimits}
use Rattle.cqlp_columns.specs.declared.columns.TakeError.{TakeError}
use Rattle.cqlp_columns.specs.declared.columns.TakeError.TheVariants.{Full, OutOfOrder, NotOfKind, TooLong}
use Rattle.cqlp_columns.specs.Arrays.{Column, Site, fits, is_long, refusal_of, room_in}
use Rattle.cqlp_columns.specs.Batches.{Batch, IsReady, IsSized, batch, cleared, empty_columns, fault_among, fault_at, fault_in, has_room, next_after, refusal_among, with_cell_in}
use Rattle.cqlp_columns.specs.Cells.{Cell, cell_bytes, is_of}

-- the slice of a vector, which is written back
pub written_back : (new items : List Column) (n : ℕ) → n ≡ length new → take n (new ++ drop (length new) items) ≡ new
written_back new items n long = take_at new (drop (length new) items) n (sym long)

-- ---- what no fault says

passed : (d : Bool) (x : Option TakeError) (y : TakeError) → (if d then x else Some y) ≡ None → (d ≡ true) × (x ≡ None)
passed true x y e = (refl, e)
passed false x y e = absurd cc

barred : (d : Bool) (x : Option TakeError) (y : TakeError) → (if d then Some y else x) ≡ None → (d ≡ false) × (x ≡ None)
barred true x y e = absurd cc
barred false x y e = (refl, e)

pub in_turn : (k : ℕ) (c : Cell) (b : Batch) → fault_at k c b ≡ None → k ≡ b.next
in_turn k c b e = eqb-true k b.next (passed (k == b.next) _ OutOfOrder e).0

pub none_among : (k : ℕ) (c : Cell) (b : Batch) → fault_at k c b ≡ None → fault_among b.limits k c b.columns ≡ None
none_among k c b e = (barred _ _ Full (passed (k == b.next) _ OutOfOrder e).1).1

not_barred : (k : ℕ) (c : Cell) (b : Batch) → fault_at k c b ≡ None → ((k == 0) && not (has_room b.limits b.columns)) ≡ false
not_barred k c b e = (barred _ _ Full (passed (k == b.next) _ OutOfOrder e).1).0

not_not : (d : Bool) → not d ≡ false → d ≡ true
not_not true e = refl
not_not false e = absurd cc

begun : (k : ℕ) (l : BatchLimits) (cols : List Column) → ((k == 0) && not (has_room l cols)) ≡ false → k ≡ 0 → has_room l (drop k cols) ≡ true
begun zero l cols e z = not_not (has_room l cols) e
begun (suc k) l cols e z = absurd (omega (arith, z))

has_room_from : (l : BatchLimits) (cols : List Column) (next k : ℕ) (c : Cell) → IsReady l cols next → fault_at k c (batch l cols next) ≡ None → has_room l (drop k cols) ≡ true
has_room_from l cols next k c r e =
    let here : k ≡ next = in_turn k c (batch l cols next) e in
    elim r.room [
      | inl z ↦ begun k l cols (not_barred k c (batch l cols next) e) (here ∙ z)
      | inr h ↦ ap (λ x. has_room l (drop x cols)) here ∙ h
    ]

-- ---- a column with room

sums : (n v bytes content size : ℕ) → nat_le v bytes ≡ true → size ≡ bytes + content → nat_lt content n ≡ false → nat_le (n + v) size ≡ true
sums n v bytes content size room sized short = le-leb (n + v) size (omega (arith, leb-true v bytes room, sized, ltb-false content n short))

enough :
    (l : BatchLimits) (c : Cell) (a : Column) → room_in l.rows l.bytes a ≡ true → IsSized l a → is_long l.content c a ≡ false → fits c a ≡ true
enough l c a room sized short =
    let parts = and_parts (nat_lt (length a.valid) l.rows) (nat_le (length a.values) l.bytes) room in
    let n = length (cell_bytes a.layout c) in
    and_from (nat_lt (length a.valid) a.rows) (nat_le (n + length a.values) a.size) (ap (λ x. nat_lt (length a.valid) x) sized.0 ∙ parts.0) (sums n (length a.values) l.bytes l.content a.size parts.1 sized.1 short)

takes_in : (l : BatchLimits) (c : Cell) (a : Column) → room_in l.rows l.bytes a ≡ true → IsSized l a → fault_in l c a ≡ None → refusal_of c a ≡ None
takes_in l c a room sized e =
    let kind = passed (is_of a.kind c) _ NotOfKind e in
    let short = barred (is_long l.content c a) None TooLong kind.1 in
    rw (kind.0, enough l c a room sized short.0) refl

-- ---- the column of a number

pub there : (l : BatchLimits) (k : ℕ) (c : Cell) (cols : List Column) → fault_among l k c cols ≡ None → k < length cols
there l k c [] e = absurd cc
there l zero c (a ∷ cols) e = omega arith
there l (suc k) c (a ∷ cols) e = let h : k < length cols = there l k c cols e in omega (arith, h)

takes_among :
    (l : BatchLimits) (k : ℕ) (c : Cell) (cols : List Column)
    → AllByRecursion (IsSized l) cols → has_room l (drop k cols) ≡ true → fault_among l k c cols ≡ None → refusal_among k c cols ≡ None
takes_among l k c [] s r e = absurd cc
takes_among l zero c (a ∷ cols) s r e = takes_in l c a (and_parts (room_in l.rows l.bytes a) (has_room l cols) r).0 s.0 e
takes_among l (suc k) c (a ∷ cols) s r e = takes_among l k c cols s.1 r e

sized_more : (l : BatchLimits) (k : ℕ) (c : Cell) (cols : List Column) → AllByRecursion (IsSized l) cols → AllByRecursion (IsSized l) (with_cell_in k c cols)
sized_more l k c [] s = s
sized_more l zero c (a ∷ cols) s = s
sized_more l (suc k) c (a ∷ cols) s = (s.0, sized_more l k c cols s.1)

room_after : (l : BatchLimits) (k : ℕ) (c : Cell) (cols : List Column) → has_room l (drop k cols) ≡ true → has_room l (drop (suc k) (with_cell_in k c cols)) ≡ true
room_after l k c [] r = refl
room_after l zero c (a ∷ cols) r = (and_parts (room_in l.rows l.bytes a) (has_room l cols) r).1
room_after l (suc k) c (a ∷ cols) r = room_after l k c cols r

next_is : (k n : ℕ) → k < n → (next_after k n ≡ 0) ⊎ (next_after k n ≡ suc k)
next_is k n h =
    elim (cases_lt (k + 1) n) [
      | inl lt ↦ inr (mod-eq_of_lt lt ∙ add-one k)
      | inr le ↦ inl (ap (λ x. x % n) (same k n h le) ∙ mod_self n)
    ]
  where
    same : (k n : ℕ) → k < n → n ≤ k + 1 → k + 1 ≡ n
    same k n h le = omega (arith, h, le)

-- ---- a batch

pub ready_takes : (l : BatchLimits) (cols : List Column) (next k : ℕ) (c : Cell) → IsReady l cols next → fault_at k c (batch l cols next) ≡ None → refusal_among k c cols ≡ None
ready_takes l cols next k c r e = takes_among l k c cols r.sized (has_room_from l cols next k c r e) (none_among k c (batch l cols next) e)

pub ready_more :
    (l : BatchLimits) (cols : List Column) (next k : ℕ) (c : Cell)
    → IsReady l cols next → fault_at k c (batch l cols next) ≡ None → IsReady l (with_cell_in k c cols) (next_after k (length cols))
ready_more l cols next k c r e =
    let room = has_room_from l cols next k c r e in
    record {
      sized = sized_more l k c cols r.sized;
      room = elim (next_is k (length cols) (there l k c cols (none_among k c (batch l cols next) e))) [
        | inl z ↦ inl z
        | inr n ↦ inr (ap (λ x. has_room l (drop x (with_cell_in k c cols))) n ∙ room_after l k c cols room)
      ];
    }

-- ---- without rows

sized_new : (l : BatchLimits) (ks : List Site) → AllByRecursion (IsSized l) (empty_columns l ks)
sized_new l [] = tt
sized_new l (k ∷ ks) = ((refl, refl), sized_new l ks)

pub new_ready : (l : BatchLimits) (ks : List Site) → IsReady l (empty_columns l ks) 0
new_ready l ks = record { sized = sized_new l ks; room = inl refl }

sized_cleared : (l : BatchLimits) (cols : List Column) → AllByRecursion (IsSized l) cols → AllByRecursion (IsSized l) (map cleared cols)
sized_cleared l [] s = s
sized_cleared l (a ∷ cols) s = (s.0, sized_cleared l cols s.1)

pub cleared_ready : (l : BatchLimits) (cols : List Column) (next : ℕ) → IsReady l cols next → IsReady l (map cleared cols) 0
cleared_ready l cols next r = record { sized = sized_cleared l cols r.sized; room = inl refl }
