-- One answer to an event, and where a batch is full.
use Rattle.std.proofs.Common.{◌≡◌, ◌<◌, ◌%◌, ◌==◌, ℕ, zero, suc, ◌+◌, Bool, ◌&&◌, not, nat_lt, nat_le, true, false, List, [], ◌∷◌, ◌++◌, length, ap, sym, ◌∙◌, refl, if◌then◌else◌, arith}
use Rattle.std.specs.Prelude.{Option, Some, None, Result, Ok, Err}
use Rattle.std.proofs.lemmas.Bool.{and_from, and_parts, eqb-true, le-leb, lt-ltb}
use Rattle.cqlp_grammar.specs.Events.{Event}
use Rattle.cqlp_columns.specs.declared.columns.BatchLimits.{BatchLimits}
use Rattle.cqlp_columns.specs.declared.columns.TakeError.{TakeError}
use Rattle.cqlp_columns.specs.declared.columns.TakeError.TheVariants.{Full, OutOfOrder, NotOfKind, TooLong}
use Rattle.cqlp_columns.specs.Arrays.{Column, Site, is_long, room_in}
use Rattle.cqlp_columns.specs.Batches.{Batch, HasTaken, IsAnswerOf, columns_from, fault_among, filled, has_room, refusal_to}
use Rattle.cqlp_columns.specs.Cells.{Cell, is_of}
use Rattle.cqlp_columns.specs.Findings.{Finding, Nothing, Part, Whole, cell_count, found_in}

same_answer : (o p : Option TakeError) (r r' : Result (Unit {0}) TakeError) → o ≡ p → IsAnswerOf o r → IsAnswerOf p r' → r' ≡ r
same_answer o p (Ok u) (Ok v) e x y = refl
same_answer o p (Ok u) (Err f) e x y = cc
same_answer o p (Err f) (Ok v) e x y = cc
same_answer o p (Err f) (Err g) e x y = cc

pub one_answer_of_batch :
    (l : BatchLimits) (kinds : List Site) (es : List Event) (e : Event) (a a' b b' : Batch) (r r' : Result (Unit {0}) TakeError)
    → HasTaken l kinds es a → HasTaken l kinds es a' → IsAnswerOf (refusal_to (found_in e) a) r → IsAnswerOf (refusal_to (found_in e) a') r'
    → HasTaken l kinds (es ++ e ∷ []) b → HasTaken l kinds (es ++ e ∷ []) b' → (r' ≡ r) × (b' ≡ b)
one_answer_of_batch l kinds es e a a' b b' r r' p q x y s t =
    (same_answer (refusal_to (found_in e) a) (refusal_to (found_in e) a') r r' (ap (λ z. refusal_to (found_in e) z) (p ∙ sym q)) x y, t ∙ sym s)

-- ---- where a batch is full

not_full : (d b : Bool) → (if d then (if b then Some TooLong else None) else Some NotOfKind) ≡ Some Full → ⊥
not_full true true e = absurd cc
not_full true false e = absurd cc
not_full false b e = absurd cc

never_full : (l : BatchLimits) (k : ℕ) (c : Cell) (cols : List Column) → fault_among l k c cols ≡ Some Full → ⊥
never_full l k c [] e = absurd cc
never_full l zero c (a ∷ cols) e = not_full (is_of a.kind c) (is_long l.content c a) e
never_full l (suc k) c (a ∷ cols) e = never_full l k c cols e

split : (d b : Bool) (x : Option TakeError) → (if d then (if b then Some Full else x) else Some OutOfOrder) ≡ Some Full → (x ≡ Some Full → ⊥) → (d ≡ true) × (b ≡ true)
split true true x e f = (refl, refl)
split true false x e f = absurd (f e)
split false b x e f = absurd cc

no : (d : Bool) → not d ≡ true → d ≡ false
no true e = absurd cc
no false e = refl

full_begins : (f : Finding) (a : Batch) → refusal_to f a ≡ Some Full → (a.next ≡ 0) × (has_room a.limits a.columns ≡ false)
full_begins Nothing a e = absurd cc
full_begins Part a e = absurd cc
full_begins (Whole k c) a e =
    let s = split (k == a.next) ((k == 0) && not (has_room a.limits a.columns)) (fault_among a.limits k c a.columns) e (never_full a.limits k c a.columns) in
    let t = and_parts (k == 0) (not (has_room a.limits a.columns)) s.1 in
    (sym (eqb-true k a.next s.0) ∙ eqb-true k 0 t.0, no (has_room a.limits a.columns) t.1)

pub full_where_rows_begin :
    (l : BatchLimits) (kinds : List Site) (es : List Event) (e : Event) (a : Batch)
    → HasTaken l kinds es a → refusal_to (found_in e) a ≡ Some Full → (cell_count es % length kinds ≡ 0) × (has_room l a.columns ≡ false)
full_where_rows_begin l kinds es e a h full =
    let f = full_begins (found_in e) a full in
    (sym (ap (λ (x : Batch). x.next) h) ∙ f.0, ap (λ (x : BatchLimits). has_room x a.columns) (sym (ap (λ (x : Batch). x.limits) h)) ∙ f.1)

room_in_none : (l : BatchLimits) (at : ℕ) (kinds : List Site) → 0 < l.rows → has_room l (columns_from l at kinds []) ≡ true
room_in_none l at [] h = refl
room_in_none l at (k ∷ ks) h =
    and_from (room_in l.rows l.bytes (filled l k [])) (has_room l (columns_from l (at + 1) ks []))
    (and_from (nat_lt 0 l.rows) (nat_le 0 l.bytes) (lt-ltb 0 l.rows h) (le-leb 0 l.bytes (omega arith))) (room_in_none l (at + 1) ks h)

pub room_for_one : (l : BatchLimits) (kinds : List Site) (a : Batch) → 0 < l.rows → HasTaken l kinds [] a → has_room l a.columns ≡ true
room_for_one l kinds a h t = ap (λ (x : Batch). has_room l x.columns) t ∙ room_in_none l 0 kinds h
