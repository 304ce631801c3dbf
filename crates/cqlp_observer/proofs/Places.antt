-- Messages in the order of their ids, by their places.
use Rattle.std.proofs.Common.{◌≡◌, ℕ, zero, suc, ◌+◌, ◌<◌, true, false, List, [], ◌∷◌, length, drop, refl, sym, ap, subst, ◌∙◌, arith, Bor, Option, Some, None, IsSome, IfSome, Result, Ok, Err, IfOk, IfErr, ℤ}
use Rattle.std.specs.Prelude.{slice_index_or, slice_set}
use Rattle.std.specs.Option.{option_copied}
use Rattle.std.specs.declared.cmp.Ordering.{Ordering}
use Rattle.std.specs.declared.cmp.Ordering.TheVariants.{Less, Equal, Greater}
use Rattle.std.specs.Ordering.{int_cmp, is_eq, is_lt, ordering_reverse}
use Rattle.std.specs.Cmp.{int_cmp_total}
use Rattle.std.specs.BTreeMap.{is_at}
use Rattle.std.specs.List.{AllByRecursion, insert, remove}
use Rattle.std.specs.List.Sorted.{IsBinarySearchResult, IsSearchInRange, IsSortedBy, IsStrictlySortedBy}
use Rattle.std.specs.Map.{keys_of}
use Rattle.std.proofs.lemmas.List.Sorted.{searchable_from_sorted}
use Rattle.std.proofs.lemmas.Map.Lookups.{exact_signed}
use Rattle.cqlp_observer.specs.declared.message.Message.{Message}
use Rattle.cqlp_observer.specs.Messages.{id_of}
use Rattle.cqlp_observer.specs.Pairings.{IsGap, IsPlace, IsPlaced, Waiting, by_id, under, with_message, without}
use Rattle.cqlp_observer.proofs.Entries.{own_key, sorted_with, sorted_without}

-- ---- ids in their order

abbrev pub IsOrdered : {T : Type 0} → List (Message T) → Type 0
IsOrdered xs = IsStrictlySortedBy int_cmp (keys_of (by_id xs))

all_at : {T : Type 0} (P : ℤ → Type 0) (xs : List (Message T)) (i : ℕ) (d : Message T) → AllByRecursion P (keys_of (by_id xs)) → i < length xs → P (id_of (slice_index_or xs i d))
all_at P [] i d all lt = absurd (omega (arith, lt))
all_at P (x ∷ xs) zero d all lt = all.0
all_at P (x ∷ xs) (suc i) d all lt = all_at P xs i d all.1 (omega (arith, lt))

rises : {T : Type 0} (xs : List (Message T)) (k : ℕ) (d : Message T) → IsOrdered xs → k + 1 < length xs → int_cmp (id_of (slice_index_or xs k d)) (id_of (slice_index_or xs (suc k) d)) ≡ Less
unfolding IsStrictlySortedBy
rises [] k d sorted lt = absurd (omega (arith, lt))
rises (x ∷ xs) zero d sorted lt = all_at (λ y. int_cmp (id_of x) y ≡ Less) xs zero d sorted.0 (omega (arith, lt))
rises (x ∷ xs) (suc k) d sorted lt = rises xs k d sorted.1 (omega (arith, lt))

turned_less : (a b : ℤ) → int_cmp a b ≡ Less → int_cmp b a ≡ Greater
turned_less a b less = int_cmp_total.antisymm b a ∙ ap ordering_reverse less

turned_greater : (a b : ℤ) → int_cmp a b ≡ Greater → int_cmp b a ≡ Less
turned_greater a b greater = int_cmp_total.antisymm b a ∙ ap ordering_reverse greater

sorted_by : {T : Type 0} (xs : List (Message T)) → IsOrdered xs → IsSortedBy (λ a b. is_lt (int_cmp (id_of a) (id_of b))) xs
sorted_by xs sorted k d from lt =
    let back : int_cmp (id_of (slice_index_or xs (suc k) d)) (id_of (slice_index_or xs k d)) ≡ Greater = turned_less (id_of (slice_index_or xs k d)) (id_of (slice_index_or xs (suc k) d)) (rises xs k d sorted lt) in
    let next : suc k ≡ k + 1 = omega arith in
    subst (λ (n : ℕ). is_lt (int_cmp (id_of (slice_index_or xs n d)) (id_of (slice_index_or xs k d))) ≡ false) next (ap (λ (r : Ordering). is_lt r) back)

-- ---- messages by those that wait

messages_in : {T : Type 0} → Waiting T → List (Message T)
messages_in [] = []
messages_in (e ∷ w) = e.1 ∷ messages_in w

own_messages : {T : Type 0} (xs : List (Message T)) → messages_in (by_id xs) ≡ xs
unfolding messages_in
own_messages [] = refl
own_messages {T} (x ∷ xs) = ap (λ (ys : List (Message T)). x ∷ ys) (own_messages xs)

same_messages : {T : Type 0} (xs ys : List (Message T)) → by_id xs ≡ by_id ys → xs ≡ ys
same_messages {T} xs ys same = sym (own_messages xs) ∙ ap (λ (w : Waiting T). messages_in w) same ∙ own_messages ys

pub placed : {T : Type 0} (xs : List (Message T)) (id : ℤ) (r : Result ℕ ℕ) (w : Waiting T) → w ≡ by_id xs → IfOk r (IsPlace id xs) → IfErr r (IsGap id xs) → IsPlaced id w r
placed {T} xs id r w is found none ys same =
    subst (λ (zs : List (Message T)). IfOk r (IsPlace id zs) × IfErr r (IsGap id zs)) (same_messages xs ys (sym is ∙ same)) (found, none)

-- ---- what a binary search says

pub searched : {T : Type 0} (xs : List (Message T)) (id : ℤ) (r : Result ℕ ℕ) → IsOrdered xs → IsSearchInRange r (length xs) → IsBinarySearchResult (λ y. int_cmp (id_of y) id) xs r → IfOk r (IsPlace id xs) × IfErr r (IsGap id xs)
searched xs id (Ok at) sorted within equal = (record { within = within; is = λ d. exact_signed _ id (equal d) }, tt)
searched xs id (Err at) sorted within parted =
    let p = parted (searchable_from_sorted int_cmp_total id_of xs id (sorted_by xs sorted)) in
    (tt, record { within = within; less = λ k d lt. p.0 k d (omega arith) lt; greater = λ k d le lt. p.1 k d le lt })

-- ---- the message under an id

isnt_before : (id k : ℤ) → int_cmp k id ≡ Less → is_at (int_cmp id) k ≡ false
isnt_before id k less = ap (λ (r : Ordering). is_eq r) (turned_less k id less)

isnt_behind : (id k : ℤ) → int_cmp k id ≡ Greater → is_at (int_cmp id) k ≡ false
isnt_behind id k greater = ap (λ (r : Ordering). is_eq r) (turned_greater k id greater)

is_there : (id k : ℤ) → k ≡ id → is_at (int_cmp id) k ≡ true
is_there id k same = subst (λ (i : ℤ). is_at (int_cmp id) i ≡ true) (sym same) (own_key int_cmp_total id)

-- the first of them is before the one at a later place
first_less : {T : Type 0} (x : Message T) (xs : List (Message T)) (id : ℤ) (at : ℕ) → IsOrdered (x ∷ xs) → IsPlace id (x ∷ xs) (suc at) → int_cmp (id_of x) id ≡ Less
unfolding IsStrictlySortedBy
first_less x xs id at sorted p =
    subst (λ (i : ℤ). int_cmp (id_of x) i ≡ Less) (p.is x) (all_at (λ y. int_cmp (id_of x) y ≡ Less) xs at x sorted.0 (omega (arith, p.within)))

later_place : {T : Type 0} (x : Message T) (xs : List (Message T)) (id : ℤ) (at : ℕ) → IsPlace id (x ∷ xs) (suc at) → IsPlace id xs at
later_place x xs id at p = record { within = omega (arith, p.within); is = λ d. p.is d }

all_behind : {T : Type 0} (x : Message T) (xs : List (Message T)) → IsOrdered (x ∷ xs) → AllByRecursion (λ y. int_cmp (id_of x) y ≡ Less) (keys_of (by_id xs))
unfolding IsStrictlySortedBy
all_behind x xs sorted = sorted.0

later_order : {T : Type 0} (x : Message T) (xs : List (Message T)) → IsOrdered (x ∷ xs) → IsOrdered xs
unfolding IsStrictlySortedBy
later_order x xs sorted = sorted.1

pub under_place : {T : Type 0} (xs : List (Message T)) (id : ℤ) (at : ℕ) (m : Message T) → IsOrdered xs → IsPlace id xs at → m ≡ slice_index_or xs at m → under id (by_id xs) ≡ Some m
under_place [] id at m sorted p is = absurd (omega (arith, p.within))
under_place (x ∷ xs) id zero m sorted p is = rw (is_there id (id_of x) (p.is x)) (ap Some (sym is))
under_place (x ∷ xs) id (suc at) m sorted p is =
    rw (isnt_before id (id_of x) (first_less x xs id at sorted p)) (under_place xs id at m (later_order x xs sorted) (later_place x xs id at p) is)

pub got_place : {T : Type 0} (xs : List (Message T)) (id : ℤ) (at : ℕ) (r : Option (Bor (Message T))) → IsOrdered xs → IsPlace id xs at → IsSome r → IfSome r (λ x. x.now ≡ slice_index_or xs at x.now) → option_copied r ≡ under id (by_id xs)
got_place xs id at None sorted p some lookup = absurd (cc some)
got_place xs id at (Some x) sorted p some lookup = sym (under_place xs id at x.now sorted p lookup)

pub without_place : {T : Type 0} (xs : List (Message T)) (id : ℤ) (at : ℕ) → IsOrdered xs → IsPlace id xs at → by_id (remove xs at) ≡ without id (by_id xs)
without_place [] id at sorted p = absurd (omega (arith, p.within))
without_place (x ∷ xs) id zero sorted p = rw (is_there id (id_of x) (p.is x)) refl
without_place {T} (x ∷ xs) id (suc at) sorted p =
    rw (isnt_before id (id_of x) (first_less x xs id at sorted p))
    (ap (λ (w : Waiting T). (id_of x, x) ∷ w) (without_place xs id at (later_order x xs sorted) (later_place x xs id at p)))

pub with_place : {T : Type 0} (xs : List (Message T)) (at : ℕ) (m : Message T) → IsOrdered xs → IsPlace (id_of m) xs at → by_id (slice_set xs at m) ≡ with_message m (by_id xs)
with_place [] at m sorted p = absurd (omega (arith, p.within))
with_place {T} (x ∷ xs) zero m sorted p =
    let same : id_of x ≡ id_of m = p.is x in
    let here : int_cmp (id_of m) (id_of x) ≡ Equal = subst (λ (i : ℤ). int_cmp (id_of m) i ≡ Equal) (sym same) (equal_own (id_of m)) in
    rw here (ap (λ (i : ℤ). (i, m) ∷ by_id xs) (sym same))
  where
    equal_of : (r : Ordering) → is_eq r ≡ true → r ≡ Equal
    equal_of Less e = absurd (cc e)
    equal_of Equal e = refl
    equal_of Greater e = absurd (cc e)

    equal_own : (i : ℤ) → int_cmp i i ≡ Equal
    equal_own i = equal_of (int_cmp i i) (own_key int_cmp_total i)
with_place {T} (x ∷ xs) (suc at) m sorted p =
    rw (turned_less (id_of x) (id_of m) (first_less x xs (id_of m) at sorted p))
    (ap (λ (w : Waiting T). (id_of x, x) ∷ w) (with_place xs at m (later_order x xs sorted) (later_place x xs (id_of m) at p)))

-- one comes in the place of the one under its id
pub instead_of_place : {T : Type 0} (xs : List (Message T)) (at : ℕ) (m : Message T) → IsOrdered xs → IsPlace (id_of m) xs at → by_id (slice_set xs at m) ≡ with_message m (without (id_of m) (by_id xs))
instead_of_place [] at m sorted p = absurd (omega (arith, p.within))
instead_of_place {T} (x ∷ xs) zero m sorted p =
    let same : id_of x ≡ id_of m = p.is x in
    rw (is_there (id_of m) (id_of x) same) (first_with xs (subst (λ (i : ℤ). AllByRecursion (λ y. int_cmp i y ≡ Less) (keys_of (by_id xs))) same (all_behind x xs sorted)))
  where
    first_with : (ys : List (Message T)) → AllByRecursion (λ y. int_cmp (id_of m) y ≡ Less) (keys_of (by_id ys)) → (id_of m, m) ∷ by_id ys ≡ with_message m (by_id ys)
    first_with [] all = refl
    first_with (y ∷ ys) all = rw all.0 refl
instead_of_place {T} (x ∷ xs) (suc at) m sorted p =
    let less = first_less x xs (id_of m) at sorted p in
    rw (isnt_before (id_of m) (id_of x) less, turned_less (id_of x) (id_of m) less)
    (ap (λ (w : Waiting T). (id_of x, x) ∷ w) (instead_of_place xs at m (later_order x xs sorted) (later_place x xs (id_of m) at p)))

-- ---- where none is under an id

later_gap : {T : Type 0} (x : Message T) (xs : List (Message T)) (id : ℤ) (at : ℕ) → IsGap id (x ∷ xs) (suc at) → IsGap id xs at
later_gap x xs id at g = record {
  within = omega (arith, g.within);
  less = λ k d lt. g.less (suc k) d (omega (arith, lt));
  greater = λ k d le lt. g.greater (suc k) d (omega (arith, le)) (omega (arith, lt));
}

gap_behind : {T : Type 0} (x : Message T) (xs : List (Message T)) (id : ℤ) → IsGap id (x ∷ xs) zero → IsGap id xs zero
gap_behind x xs id g = record {
  within = omega arith;
  less = λ k d lt. absurd (omega (arith, lt));
  greater = λ k d le lt. g.greater (suc k) d (omega arith) (omega (arith, lt));
}

pub under_gap : {T : Type 0} (xs : List (Message T)) (id : ℤ) (at : ℕ) → IsGap id xs at → under id (by_id xs) ≡ None
under_gap [] id at g = refl
under_gap (x ∷ xs) id zero g =
    rw (isnt_behind id (id_of x) (g.greater zero x (omega arith) (omega arith))) (under_gap xs id zero (gap_behind x xs id g))
under_gap (x ∷ xs) id (suc at) g =
    rw (isnt_before id (id_of x) (g.less zero x (omega arith))) (under_gap xs id at (later_gap x xs id at g))

pub with_gap : {T : Type 0} (xs : List (Message T)) (at : ℕ) (m : Message T) → IsGap (id_of m) xs at → by_id (insert xs at m) ≡ with_message m (by_id xs)
with_gap [] zero m g = refl
with_gap [] (suc at) m g = absurd (omega (arith, g.within))
with_gap (x ∷ xs) zero m g = rw (turned_greater (id_of x) (id_of m) (g.greater zero x (omega arith) (omega arith))) refl
with_gap {T} (x ∷ xs) (suc at) m g =
    rw (turned_less (id_of x) (id_of m) (g.less zero x (omega arith)))
    (ap (λ (w : Waiting T). (id_of x, x) ∷ w) (with_gap xs at m (later_gap x xs (id_of m) at g)))

-- ---- the order stays

pub ordered_set : {T : Type 0} (xs : List (Message T)) (at : ℕ) (m : Message T) → IsOrdered xs → IsPlace (id_of m) xs at → IsOrdered (slice_set xs at m)
ordered_set {T} xs at m sorted p =
    subst (λ (w : Waiting T). IsStrictlySortedBy int_cmp (keys_of w)) (sym (with_place xs at m sorted p)) (sorted_with int_cmp_total (id_of m) m (by_id xs) sorted)

pub ordered_insert : {T : Type 0} (xs : List (Message T)) (at : ℕ) (m : Message T) → IsOrdered xs → IsGap (id_of m) xs at → IsOrdered (insert xs at m)
ordered_insert {T} xs at m sorted g =
    subst (λ (w : Waiting T). IsStrictlySortedBy int_cmp (keys_of w)) (sym (with_gap xs at m g)) (sorted_with int_cmp_total (id_of m) m (by_id xs) sorted)

pub ordered_remove : {T : Type 0} (xs : List (Message T)) (id : ℤ) (at : ℕ) → IsOrdered xs → IsPlace id xs at → IsOrdered (remove xs at)
ordered_remove {T} xs id at sorted p =
    subst (λ (w : Waiting T). IsStrictlySortedBy int_cmp (keys_of w)) (sym (without_place xs id at sorted p)) (sorted_without int_cmp (is_at (int_cmp id)) (by_id xs) sorted)

pub ordered_none : (T : Type 0) → IsOrdered {T = T} []
unfolding IsStrictlySortedBy
ordered_none T = tt

pub ordered_drop : {T : Type 0} (xs : List (Message T)) → IsOrdered xs → IsOrdered (drop 1 xs)
ordered_drop [] sorted = sorted
ordered_drop (x ∷ xs) sorted = later_order x xs sorted

-- one of several
pub some_of : {T : Type 0} (xs : List (Message T)) (at : ℕ) → at < length xs → Message T
some_of [] at lt = absurd (omega (arith, lt))
some_of (x ∷ xs) at lt = x
