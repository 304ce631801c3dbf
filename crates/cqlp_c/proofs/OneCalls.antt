-- One answer of calls that make what a handle has, give it, take it back, and describe it.
use Rattle.std.proofs.Common.{◌≡◌, ℕ, Bool, true, false, List, length, nat_lt, refl, ap, sym, ◌∙◌, inl, inr, ◌⊎◌, slice_get}
use Rattle.std.specs.Prelude.{Option, Some, None, Result, Ok, Err}
use Rattle.std.specs.Ptr.{Ptr}
use Rattle.cqlp_kind.specs.declared.kind.Kind.{Kind}
use Rattle.cqlp_type.specs.Table.{Table}
use Rattle.cqlp_note.specs.declared.limits.BadLimits.{BadLimits}
use Rattle.cqlp_note.specs.declared.limits.Limits.{Limits}
use Rattle.cqlp_note.specs.Limits.{first_bad, rules_of, with_lenient}
use Rattle.cqlp_columns.specs.declared.columns.BatchLimits.{BatchLimits}
use Rattle.cqlp_columns.specs.declared.column.MakeError.{MakeError}
use Rattle.cqlp_columns.specs.declared.layout.Layout.{Layout}
use Rattle.cqlp_columns.specs.declared.layout.Layout.TheVariants.{Bits, Fixed, Variable}
use Rattle.cqlp_columns.specs.Arrays.{AreBytes, Column}
use Rattle.cqlp_columns.specs.Batches.{Batch, refusal_of_kinds}
use Rattle.cqlp_decode.specs.declared.given.GiveReason.{GiveReason}
use Rattle.cqlp_decode.specs.Giving.{free_table, last_types, reason_against}
use Rattle.cqlp_decode.specs.Streams.{Decoding, state}
use Rattle.cqlp_c.specs.declared.columns.CqlpColumn.{CqlpColumn}
use Rattle.cqlp_c.specs.declared.numbers.TheConstants as numbers
use Rattle.cqlp_c.specs.CallsLaws.{AreAtStart, AreLeftAlike, AreMadeAlike, IsOneAnswerOfColumnsClear, IsOneAnswerOfColumnsGet}
use Rattle.cqlp_c.specs.CallsLaws.{IsOneAnswerOfColumnsNew, IsOneAnswerOfGive, IsOneAnswerOfHeld, IsOneAnswerOfNew, IsOneAnswerOfTakeGiven}
use Rattle.cqlp_c.specs.CallsLaws.{IsOneAnswerOfTypesOf, LacksMemory}
use Rattle.cqlp_c.specs.Columns.{MakesAnew, MakesBy, MakesOf, Shows, ShowsHeld, ShowsOne, columns_in, kinds_numbered, limits_of}
use Rattle.cqlp_c.specs.Given.{CopiesFrom, GivesBy, GivesHeld, GivesTo, TakesAnew, TakesBy, TakesFrom, TakesHeld, table_in}
use Rattle.cqlp_c.specs.Handle as handle

-- ---- a decoder

one_made :
    (lenient : Bool) (l : Limits) (r : Result Unit BadLimits) (x y : Option Decoding) (a b : ℕ)
    → handle.MakesAnew lenient l r a x → handle.MakesAnew lenient l r b y
    → ((a ≡ b) × ((x ≡ y) ⊎ AreAtStart (with_lenient lenient (rules_of l)) x y)) ⊎ LacksMemory a b
one_made lenient l (Err limit) x y a b p q = inl (p.0 ∙ sym q.0, inl (p.1 ∙ sym q.1))
one_made lenient l (Ok u) x y a b (inl p) q = inr (inl p.0)
one_made lenient l (Ok u) x y a b (inr p) (inl q) = inr (inr q.0)
one_made lenient l (Ok u) x y a b (inr p) (inr q) = inl (p.0 ∙ sym q.0, inr (rw (p.2, q.2) (p.3, q.3)))

pub one_answer_of_new : IsOneAnswerOfNew
one_answer_of_new lenient l (Some d) x y a b p q = inl (p.0 ∙ sym q.0, inl (p.1 ∙ sym q.1))
one_answer_of_new lenient l None x y a b p q = one_made lenient l (first_bad l) x y a b p q

pub one_answer_of_held : IsOneAnswerOfHeld
one_answer_of_held None x y a b was t u p q = (p.0 ∙ sym q.0, p.1 ∙ sym q.1, p.2 ∙ sym q.2)
one_answer_of_held (Some d) x y a b was t u p q =
    (p.0 ∙ sym q.0, p.1 ∙ sym q.1, rw (p.3, q.3, p.4.bytes, q.4.bytes, p.4.entries, q.4.entries, p.4.levels, q.4.levels) refl)

-- ---- types

one_copied :
    (types : Table) (held : Option Table) (was x y : Option (Option Table)) (a b : ℕ)
    → CopiesFrom types held a was x → CopiesFrom types held b was y → ((a ≡ b) × (x ≡ y)) ⊎ LacksMemory a b
one_copied types (Some t) was x y a b p q = inl (p.0 ∙ sym q.0, p.1 ∙ sym q.1)
one_copied types None was x y a b (inl p) q = inr (inl p.0)
one_copied types None was x y a b (inr p) (inl q) = inr (inr q.0)
one_copied types None was x y a b (inr p) (inr q) = inl (p.0 ∙ sym q.0, p.1 ∙ sym q.1)

pub one_answer_of_types_of : IsOneAnswerOfTypesOf
one_answer_of_types_of None d e was x y a b p q = (p.1 ∙ sym q.1, inl (p.0 ∙ sym q.0, p.2 ∙ sym q.2))
one_answer_of_types_of (Some o) d e was x y a b p q = (p.0 ∙ sym q.0, one_copied (last_types (state o)) (table_in was) was x y a b p.1 q.1)

alike_of : (d e : Decoding) → d ≡ e → AreLeftAlike (Some d) (Some e)
alike_of d e h = (ap (λ (x : Decoding). state x) h, rw h refl)

one_given :
    (o : Decoding) (t : Table) (why : Option GiveReason) (d e : Decoding) (x y : Option Table) (a b : ℕ)
    → GivesBy o t why a d x → GivesBy o t why b e y → (a ≡ b) × (x ≡ y) × AreLeftAlike (Some d) (Some e)
one_given o t (Some why) d e x y a b p q = (p.0 ∙ sym q.0, p.2 ∙ sym q.2, alike_of d e (p.1 ∙ sym q.1))
one_given o t None d e x y a b p q =
    (p.0 ∙ sym q.0, p.1.back ∙ sym q.1.back, (p.1.given ∙ sym q.1.given, p.1.levels ∙ sym q.1.levels))

one_given_to :
    (o : Decoding) (was : Option Table) (d e : Decoding) (x y : Option Table) (a b : ℕ)
    → GivesTo o was a d x → GivesTo o was b e y → (a ≡ b) × (x ≡ y) × AreLeftAlike (Some d) (Some e)
one_given_to o None d e x y a b p q = (p.0 ∙ sym q.0, p.2 ∙ sym q.2, alike_of d e (p.1 ∙ sym q.1))
one_given_to o (Some t) d e x y a b p q = one_given o t (reason_against (state o) t.nodes) d e x y a b p q

one_given_held :
    (o : Decoding) (was : Option (Option Table)) (d e : Decoding) (x y : Option (Option Table)) (a b : ℕ)
    → GivesHeld o was a d x → GivesHeld o was b e y → (a ≡ b) × (x ≡ y) × AreLeftAlike (Some d) (Some e)
one_given_held o None d e x y a b p q = (p.0 ∙ sym q.0, p.2 ∙ sym q.2, alike_of d e (p.1 ∙ sym q.1))
one_given_held o (Some held) d e x y a b p q =
    let r = one_given_to o held d e p.0 q.0 a b p.2 q.2 in (r.0, p.1 ∙ ap (λ (z : Option Table). Some z) r.1 ∙ sym q.1, r.2)

pub one_answer_of_give : IsOneAnswerOfGive
one_answer_of_give None d e was x y a b p q = (p.0 ∙ sym q.0, p.2 ∙ sym q.2, rw (p.1, q.1) tt)
one_answer_of_give (Some o) d e was x y a b p q =
    let r = one_given_held o was p.0 q.0 x y a b p.2 q.2 in (r.0, r.1, rw (p.1, q.1) r.2)

one_taken :
    (o : Decoding) (free : Option Table) (d e : Decoding) (x y : Option Table) (a b : ℕ)
    → TakesBy o free a d x → TakesBy o free b e y → (a ≡ b) × (x ≡ y) × AreLeftAlike (Some d) (Some e)
one_taken o None d e x y a b p q =
    (p.0 ∙ sym q.0, p.2 ∙ sym q.2, (p.1.state_is ∙ sym q.1.state_is, p.1.levels ∙ sym q.1.levels))
one_taken o (Some t) d e x y a b p q =
    (p.0 ∙ sym q.0, p.2 ∙ sym q.2, (p.1.left ∙ sym q.1.left, p.1.levels ∙ sym q.1.levels))

one_taken_from :
    (o : Decoding) (was : Option Table) (d e : Decoding) (x y : Option Table) (a b : ℕ)
    → TakesFrom o was a d x → TakesFrom o was b e y → (a ≡ b) × (x ≡ y) × AreLeftAlike (Some d) (Some e)
one_taken_from o (Some t) d e x y a b p q = (p.0 ∙ sym q.0, p.2 ∙ sym q.2, alike_of d e (p.1 ∙ sym q.1))
one_taken_from o None d e x y a b p q = one_taken o (free_table (state o)) d e x y a b p q

abbrev AreTakenAlike : (d e : Decoding) (x y : Option (Option Table)) (a b : ℕ) → Type 0
AreTakenAlike d e x y a b = ((a ≡ b) × (x ≡ y) × AreLeftAlike (Some d) (Some e)) ⊎ LacksMemory a b

one_taken_anew :
    (o : Decoding) (free : Option Table) (d e : Decoding) (x y : Option (Option Table)) (a b : ℕ)
    → TakesAnew o free a d x → TakesAnew o free b e y → AreTakenAlike d e x y a b
one_taken_anew o None d e x y a b p q = by p.0 q.0
  where
    by : (a ≡ numbers.NO_MEMORY) ⊎ (a ≡ numbers.NO_TYPES) → (b ≡ numbers.NO_MEMORY) ⊎ (b ≡ numbers.NO_TYPES) → AreTakenAlike d e x y a b
    by (inl m) n = inr (inl m)
    by (inr m) (inl n) = inr (inr n)
    by (inr m) (inr n) = inl (m ∙ sym n, p.2 ∙ sym q.2, (p.1.state_is ∙ sym q.1.state_is, p.1.levels ∙ sym q.1.levels))
one_taken_anew o (Some t) d e x y a b (inl p) q = inr (inl p.0)
one_taken_anew o (Some t) d e x y a b (inr p) (inl q) = inr (inr q.0)
one_taken_anew o (Some t) d e x y a b (inr p) (inr q) =
    inl (p.0 ∙ sym q.0, p.2 ∙ sym q.2, (p.1.left ∙ sym q.1.left, p.1.levels ∙ sym q.1.levels))

one_taken_held :
    (o : Decoding) (was : Option (Option Table)) (d e : Decoding) (x y : Option (Option Table)) (a b : ℕ)
    → TakesHeld o was a d x → TakesHeld o was b e y → AreTakenAlike d e x y a b
one_taken_held o None d e x y a b p q = one_taken_anew o (free_table (state o)) d e x y a b p q
one_taken_held o (Some held) d e x y a b p q =
    let r = one_taken_from o held d e p.0 q.0 a b p.2 q.2 in inl (r.0, p.1 ∙ ap (λ (z : Option Table). Some z) r.1 ∙ sym q.1, r.2)

pub one_answer_of_take_given : IsOneAnswerOfTakeGiven
one_answer_of_take_given None d e was x y a b p q = inl (p.0 ∙ sym q.0, p.2 ∙ sym q.2, rw (p.1, q.1) tt)
one_answer_of_take_given (Some o) d e was x y a b p q =
    rw (p.1, q.1) (one_taken_held o was p.0 q.0 x y a b p.2 q.2)

-- ---- columns

one_made_by :
    (l : BatchLimits) (ns : List ℕ) (ks : List Kind) → kinds_numbered ns ≡ Some ks → (why : Option MakeError) (x y : Option (Option Batch)) (a b : ℕ)
    → MakesBy l ks why a x → MakesBy l ks why b y → ((a ≡ b) × ((x ≡ y) ⊎ AreMadeAlike l ns x y)) ⊎ LacksMemory a b
one_made_by l ns ks are (Some why) x y a b p q = inl (p.0 ∙ sym q.0, inl (p.1 ∙ sym q.1))
one_made_by l ns ks are None x y a b (inl p) q = inr (inl p.0)
one_made_by l ns ks are None x y a b (inr p) (inl q) = inr (inr q.0)
one_made_by l ns ks are None x y a b (inr p) (inr q) = inl (p.0 ∙ sym q.0, inr (ks, are, rw (p.2, q.2) (p.3, q.3)))

one_made_of :
    (l : BatchLimits) (ns : List ℕ) (found : Option (List Kind)) → kinds_numbered ns ≡ found → (x y : Option (Option Batch)) (a b : ℕ)
    → MakesOf l found a x → MakesOf l found b y → ((a ≡ b) × ((x ≡ y) ⊎ AreMadeAlike l ns x y)) ⊎ LacksMemory a b
one_made_of l ns None are x y a b p q = inl (p.0 ∙ sym q.0, inl (p.1 ∙ sym q.1))
one_made_of l ns (Some ks) are x y a b p q = one_made_by l ns ks are (refusal_of_kinds l ks) x y a b p q

one_made_anew :
    (l : BatchLimits) (ns : List ℕ) (many : Bool) (x y : Option (Option Batch)) (a b : ℕ)
    → MakesAnew many l ns a x → MakesAnew many l ns b y → ((a ≡ b) × ((x ≡ y) ⊎ AreMadeAlike l ns x y)) ⊎ LacksMemory a b
one_made_anew l ns true x y a b p q = inl (p.0 ∙ sym q.0, inl (p.1 ∙ sym q.1))
one_made_anew l ns false x y a b (inl p) q = inr (inl p.0)
one_made_anew l ns false x y a b (inr p) (inl q) = inr (inr q.0)
one_made_anew l ns false x y a b (inr p) (inr q) = one_made_of l ns (kinds_numbered ns) refl x y a b p q

pub one_answer_of_columns_new : IsOneAnswerOfColumnsNew
one_answer_of_columns_new l ns (Some held) x y a b p q = inl (p.0 ∙ sym q.0, inl (p.1 ∙ sym q.1))
one_answer_of_columns_new l ns None x y a b p q = one_made_anew (limits_of l) ns (nat_lt l.columns (length ns)) x y a b p q

one_size : (l : Layout) (values : List ℕ) (truths : List Bool) (u v : List ℕ) → AreBytes l values truths u → AreBytes l values truths v → length u ≡ length v
one_size Bits values truths u v p q = p.length ∙ sym q.length
one_size (Fixed n) values truths u v p q = ap (λ (x : List ℕ). length x) (p ∙ sym q)
one_size Variable values truths u v p q = ap (λ (x : List ℕ). length x) (p ∙ sym q)

abbrev column_at : (values offsets validity empties : Ptr) (size bounds cells kind : ℕ) → CqlpColumn
column_at values offsets validity empties size bounds cells kind = record {
  values = values;
  offsets = offsets;
  validity = validity;
  empties = empties;
  size = size;
  bounds = bounds;
  cells = cells;
  kind = kind;
}

one_column :
    (v v' o o' w w' e e' : Ptr) (n n' m m' k k' i i' : ℕ)
    → v ≡ v' → o ≡ o' → w ≡ w' → e ≡ e' → n ≡ n' → m ≡ m' → k ≡ k' → i ≡ i' → column_at v o w e n m k i ≡ column_at v' o' w' e' n' m' k' i'
one_column v v' o o' w w' e e' n n' m m' k k' i i' a b c d f g h j = rw (a, b, c, d, f, g, h, j) refl

one_shown : (c : Column) (t u : CqlpColumn) → Shows c t → Shows c u → t ≡ u
one_shown c t u p q =
    one_column t.values u.values t.offsets u.offsets t.validity u.validity t.empties u.empties t.size u.size t.bounds u.bounds t.cells u.cells t.kind u.kind
    (p.values ∙ sym q.values) (p.offsets ∙ sym q.offsets) (p.validity ∙ sym q.validity) (p.empties ∙ sym q.empties)
    (p.size.2 ∙ one_size c.layout c.values c.truths p.size.0 q.size.0 p.size.1 q.size.1 ∙ sym q.size.2)
    (p.bounds ∙ sym q.bounds) (p.cells ∙ sym q.cells) (p.kind ∙ sym q.kind)

one_shown_of : (o : Option Column) (a b : ℕ) (was t u : CqlpColumn) → ShowsOne o a was t → ShowsOne o b was u → (a ≡ b) × (t ≡ u)
one_shown_of None a b was t u p q = (p.0 ∙ sym q.0, p.1 ∙ sym q.1)
one_shown_of (Some c) a b was t u p q = (p.0 ∙ sym q.0, one_shown c t u p.1 q.1)

one_shown_in :
    (held : Option Batch) (k a b : ℕ) (was t u : CqlpColumn) → ShowsHeld held k a was t → ShowsHeld held k b was u → (a ≡ b) × (t ≡ u)
one_shown_in None k a b was t u p q = (p.0 ∙ sym q.0, p.1 ∙ sym q.1)
one_shown_in (Some c) k a b was t u p q = one_shown_of (slice_get c.columns k) a b was t u p q

pub one_answer_of_columns_get : IsOneAnswerOfColumnsGet
one_answer_of_columns_get old x y k a b was t u p q =
    let r = one_shown_in (columns_in old) k a b was t u p.1 q.1 in (r.0, p.0 ∙ sym q.0, r.1)

pub one_answer_of_columns_clear : IsOneAnswerOfColumnsClear
one_answer_of_columns_clear None x y a b h p q = (p.0 ∙ sym q.0, p.1 ∙ sym q.1)
one_answer_of_columns_clear (Some None) x y a b h p q =
    (p.2.0 ∙ sym q.2.0, p.1 ∙ ap (λ (z : Option Batch). Some z) (p.2.1 ∙ sym q.2.1) ∙ sym q.1)
one_answer_of_columns_clear (Some (Some c)) x y a b h p q =
    let same : p.2.1 ≡ q.2.1 = p.2.3 h.0 h.1 h.2 ∙ sym (q.2.3 h.0 h.1 h.2) in
    (p.2.0 ∙ sym q.2.0, p.1 ∙ ap (λ (z : Option Batch). Some z) (p.2.2 ∙ ap (λ (z : Batch). Some z) same ∙ sym q.2.2) ∙ sym q.1)
