-- Packets that come and leave, in whatever turns.
use Rattle.std.proofs.Common.{◌≡◌, ◌∙◌, ℕ, zero, suc, ◌<◌, ◌≤◌, Bool, true, false, ◌&&◌, cond, List, [], ◌∷◌, ◌++◌, insert, IsPermutation, IsSome, Option, Some, None, ◌==◌, length, unwrap_or, refl, sym, ap, subst, append_assoc, inl, inr, arith}
use Rattle.std.proofs.lemmas.Bool.{cases_lt, ltb-false, ltb-true, lt-ltb}
use Rattle.std.specs.Bool.{⊤}
use Rattle.std.proofs.lemmas.List.Sorted.{IsPermutation-append_right, IsPermutation-insert, IsPermutation-middle, IsPermutation-push_more, IsPermutation-refl, IsPermutation-sym, IsPermutation-trans}
use Rattle.cqlp_packet_order.specs.declared.limits.OrderCounts.{OrderCounts}
use Rattle.cqlp_packet_order.specs.declared.limits.OrderLimits.{OrderLimits}
use Rattle.cqlp_packet_order.specs.Packets.{Packet}
use Rattle.cqlp_packet_order.specs.Orders.{Order, are_later, counted_by, is_late, is_later, is_off, passed_with, place, releasing, without_first}
use Rattle.cqlp_packet_order.specs.Laws.{Ascends, Begins, Comes, HaveTimes, Leaves, NoneBefore, Runs, moment}

-- ---- the first one leaves

pub record WentFirst (o u : Order) (ws : List Packet) (p : Packet) : Type 0 where
  pub first : ws ≡ p ∷ u.waiting
  pub counts : u.counts ≡ o.counts
  pub passed : u.passed ≡ passed_with p.time o.passed

went_first : (o u : Order) (ws : List Packet) (p : Packet) → releasing (Some p) u ≡ without_first o ws → WentFirst o u ws p
went_first o u [] p e = absurd (let none = ap (λ r. r.packet) e in cc)
went_first o u (q ∷ qs) p e =
    let same : p ≡ q = let one = ap (λ r. r.packet) e in cc in
    let after = ap (λ r. r.order) e in
    record {
      first = ap (λ x. x ∷ qs) (sym same) ∙ ap (λ z. p ∷ z) (sym (ap (λ (z : Order). z.waiting) after));
      counts = ap (λ (z : Order). z.counts) after;
      passed = ap (λ (z : Order). z.passed) after ∙ ap (λ (x : Packet). passed_with x.time o.passed) (sym same);
    }

-- ---- nothing is lost or made

pub keeps_all : (limits : OrderLimits) (came left : List Packet) (o : Order) → Runs limits came left o → IsPermutation came (left ++ o.waiting)
keeps_all limits _ _ _ Begins = IsPermutation-refl []
keeps_all limits _ _ _ (Comes {came} {left} {o} r p) =
    let waits = insert o.waiting (place p.time o.waiting) p in
    let placed = IsPermutation-append_right left (p ∷ o.waiting) waits (IsPermutation-insert o.waiting (place p.time o.waiting) p) in
    let front = IsPermutation-sym (left ++ p ∷ o.waiting) (p ∷ (left ++ o.waiting)) (IsPermutation-middle left p o.waiting) in
    IsPermutation-push_more came (left ++ o.waiting) (left ++ waits) p (keeps_all limits came left o r) (IsPermutation-trans (p ∷ (left ++ o.waiting)) (left ++ p ∷ o.waiting) (left ++ waits) front placed)
keeps_all limits _ _ _ (Leaves {came} {left} {o} r p u e) =
    let went = went_first o u o.waiting p e in
    subst (λ z. IsPermutation came z) (ap (λ z. left ++ z) went.first ∙ sym (append_assoc left (p ∷ []) u.waiting)) (keeps_all limits came left o r)

-- ---- order

-- none is of a later time
abbrev pub NoneAfter : (time : ℕ) → List Packet → Type 0
NoneAfter t [] = ⊤
NoneAfter t (p ∷ ps) = (moment p ≤ t) × NoneAfter t ps

-- those that left, and those that wait
pub record Ordered (left : List Packet) (o : Order) : Type 0 where
  pub gone : Ascends left
  pub past : NoneAfter o.passed left
  pub up : Ascends o.waiting
  pub later : NoneBefore o.passed o.waiting
  pub times : HaveTimes o.waiting

after_more : (s t : ℕ) (ps : List Packet) → s ≤ t → NoneAfter s ps → NoneAfter t ps
after_more s t [] le none = tt
after_more s t (p ∷ ps) le (here, rest) = (omega arith, after_more s t ps le rest)

after_last : (t : ℕ) (ps : List Packet) (p : Packet) → NoneAfter t ps → moment p ≤ t → NoneAfter t (ps ++ p ∷ [])
after_last t [] p none le = (le, tt)
after_last t (q ∷ qs) p (here, rest) le = (here, after_last t qs p rest le)

before_more : (s t : ℕ) (ps : List Packet) → s ≤ t → NoneBefore t ps → NoneBefore s ps
before_more s t [] le none = tt
before_more s t (p ∷ ps) le (here, rest) = (omega arith, before_more s t ps le rest)

before_others : (t : ℕ) (ps qs : List Packet) → NoneBefore t ps → NoneBefore t qs → NoneBefore t (ps ++ qs)
before_others t [] qs none more = more
before_others t (p ∷ ps) qs (here, rest) more = (here, before_others t ps qs rest more)

times_front : (ps qs : List Packet) → HaveTimes (ps ++ qs) → HaveTimes ps
times_front [] qs all = tt
times_front (p ∷ ps) qs (here, rest) = (here, times_front ps qs rest)

times_last : (ps : List Packet) (p : Packet) → HaveTimes (ps ++ p ∷ []) → IsSome p.time
times_last [] p (here, rest) = here
times_last (q ∷ qs) p (here, rest) = times_last qs p rest

-- later, or not
later_than : (s t : Option ℕ) (p q : Packet) → p.time ≡ s → q.time ≡ t → is_later s t ≡ true → moment q ≤ moment p
later_than (Some a) (Some b) p q is is' later = let lt = ltb-true b a later in let e : moment p ≡ a = ap (λ z. unwrap_or z 0) is in let f : moment q ≡ b = ap (λ z. unwrap_or z 0) is' in omega arith
later_than None t p q is is' later = absurd (let l = later in cc)
later_than (Some a) None p q is is' later = absurd (let l = later in cc)

not_later : (s t : Option ℕ) (p q : Packet) → p.time ≡ s → q.time ≡ t → IsSome s → IsSome t → is_later s t ≡ false → moment p ≤ moment q
not_later (Some a) (Some b) p q is is' some some' not = let le = ltb-false b a not in let e : moment p ≡ a = ap (λ z. unwrap_or z 0) is in let f : moment q ≡ b = ap (λ z. unwrap_or z 0) is' in omega arith
not_later None t p q is is' some some' not = absurd (let l = some in cc)
not_later (Some a) None p q is is' some some' not = absurd (let l = some' in cc)

is_later_at : (s t : Option ℕ) (p q : Packet) → p.time ≡ s → q.time ≡ t → IsSome s → IsSome t → moment q < moment p → is_later s t ≡ true
is_later_at (Some a) (Some b) p q is is' some some' lt = let e : moment p ≡ a = ap (λ z. unwrap_or z 0) is in let f : moment q ≡ b = ap (λ z. unwrap_or z 0) is' in lt-ltb b a (omega arith)
is_later_at None t p q is is' some some' lt = absurd (let l = some in cc)
is_later_at (Some a) None p q is is' some some' lt = absurd (let l = some' in cc)

both_true : (a b : Bool) → (a && b) ≡ true → (a ≡ true) × (b ≡ true)
both_true true b is = (refl, is)
both_true false b is = absurd (let no = is in cc)

-- where all are later, none is before
later_all : (p : Packet) (ps : List Packet) → are_later p.time ps ≡ true → NoneBefore (moment p) ps
later_all p [] later = tt
later_all p (q ∷ qs) later =
    let both = both_true (is_later q.time p.time) (are_later p.time qs) later in
    (later_than q.time p.time q p refl refl both.0, later_all p qs both.1)

-- where one is later, those behind it are
later_rest : (p : Packet) (t : ℕ) (ps : List Packet) → moment p < t → IsSome p.time → HaveTimes ps → NoneBefore t ps → are_later p.time ps ≡ true
later_rest p t [] lt some times none = refl
later_rest p t (q ∷ qs) lt some (here, others) (later, rest) =
    rw (is_later_at q.time p.time q p refl refl here some (omega arith), later_rest p t qs lt some others rest) refl

before_inserted : (t : ℕ) (ps : List Packet) (n : ℕ) (p : Packet) → t ≤ moment p → NoneBefore t ps → NoneBefore t (insert ps n p)
before_inserted t [] zero p le none = (le, tt)
before_inserted t [] (suc n) p le none = (le, tt)
before_inserted t (q ∷ qs) zero p le none = (le, none)
before_inserted t (q ∷ qs) (suc n) p le (here, rest) = (here, before_inserted t qs n p le rest)

times_inserted : (ps : List Packet) (n : ℕ) (p : Packet) → IsSome p.time → HaveTimes ps → HaveTimes (insert ps n p)
times_inserted [] zero p some all = (some, tt)
times_inserted [] (suc n) p some all = (some, tt)
times_inserted (q ∷ qs) zero p some all = (some, all)
times_inserted (q ∷ qs) (suc n) p some (here, rest) = (here, times_inserted qs n p some rest)

ascends_inserted : (p : Packet) (ps : List Packet) → IsSome p.time → HaveTimes ps → Ascends ps → Ascends (insert ps (place p.time ps) p)
ascends_inserted p [] some times up = (tt, tt)
ascends_inserted p (q ∷ qs) some (here, others) (none, up) = by (are_later p.time (q ∷ qs)) refl (ascends_inserted p qs some others up)
  where
    no_later : are_later p.time (q ∷ qs) ≡ false → (b : Bool) → is_later q.time p.time ≡ b → moment q ≤ moment p
    no_later not false is = not_later q.time p.time q p refl refl here some is
    no_later not true is =
        elim (cases_lt (moment p) (moment q)) [
          | inl lt ↦ absurd (let all = later_rest p (moment q) (q ∷ qs) lt some (here, others) (omega arith, none) in cc)
          | inr le ↦ le
        ]

    by : (b : Bool) → are_later p.time (q ∷ qs) ≡ b → Ascends (insert qs (place p.time qs) p) → Ascends (insert (q ∷ qs) (cond b 0 (suc (place p.time qs))) p)
    by true is rest = (later_all p (q ∷ qs) is, (none, up))
    by false is rest = (before_inserted (moment q) qs (place p.time qs) p (no_later is (is_later q.time p.time) refl) none, rest)

ascends_more : (ps : List Packet) (p : Packet) → Ascends ps → (t : ℕ) → t ≤ moment p → NoneAfter t ps → Ascends (ps ++ p ∷ [])
ascends_more [] p up t le none = (tt, tt)
ascends_more (q ∷ qs) p (none, up) t le (here, rest) = (before_others (moment q) qs (p ∷ []) none (omega arith, tt), ascends_more qs p up t le rest)

ascends_others : (ps qs : List Packet) (t : ℕ) → Ascends ps → NoneAfter t ps → Ascends qs → NoneBefore t qs → Ascends (ps ++ qs)
ascends_others [] qs t up none more later = more
ascends_others (p ∷ ps) qs t (above, up) (here, rest) more later =
    (before_others (moment p) ps qs above (before_more (moment p) t qs here later), ascends_others ps qs t up rest more later)

-- nothing was late
no_late : (late last off : Bool) (c : OrderCounts) → (counted_by late last off c).late ≡ 0 → (counted_by late last off c).out_of_order ≡ 0 → (late ≡ false) × (c.late ≡ 0) × (c.out_of_order ≡ 0)
no_late true last true c none ordered = absurd (omega arith)
no_late true last false c none ordered = absurd (omega arith)
no_late false true off c none ordered = (refl, none, ordered)
no_late false false off c none ordered = (refl, none, ordered)

in_time : (s : Option ℕ) (p : Packet) (passed : ℕ) → p.time ≡ s → IsSome s → is_late passed s ≡ false → passed ≤ moment p
in_time (Some a) p passed is some not = let le = ltb-false a passed not in let e : moment p ≡ a = ap (λ z. unwrap_or z 0) is in omega arith
in_time None p passed is some not = absurd (let l = some in cc)

passed_by : (s : Option ℕ) (p : Packet) (passed : ℕ) → p.time ≡ s → IsSome s → passed ≤ moment p → passed_with s passed ≡ moment p
passed_by (Some a) p passed is some le = let e : moment p ≡ a = ap (λ z. unwrap_or z 0) is in omega arith
passed_by None p passed is some le = absurd (let l = some in cc)

pub ordered : (limits : OrderLimits) (came left : List Packet) (o : Order) → Runs limits came left o → HaveTimes came → o.counts.late ≡ 0 → o.counts.out_of_order ≡ 0 → Ordered left o
ordered limits _ _ _ Begins times none in_order = record { gone = tt; past = tt; up = tt; later = tt; times = tt }
ordered limits _ _ _ (Comes {came} {left} {o} r p) times none in_order =
    let counted = no_late (is_late o.passed p.time) (place p.time o.waiting == length o.waiting) (is_off o.limits) o.counts none in_order in
    let some = times_last came p times in
    let was = ordered limits came left o r (times_front came (p ∷ []) times) counted.1 counted.2 in
    let le = in_time p.time p o.passed refl some counted.0 in
    record {
      gone = was.gone;
      past = was.past;
      up = ascends_inserted p o.waiting some was.times was.up;
      later = before_inserted o.passed o.waiting (place p.time o.waiting) p le was.later;
      times = times_inserted o.waiting (place p.time o.waiting) p some was.times;
    }
ordered limits _ _ _ (Leaves {came} {left} {o} r p u e) times none in_order =
    let went = went_first o u o.waiting p e in
    let was = ordered limits came left o r times (sym (ap (λ (c : OrderCounts). c.late) went.counts) ∙ none) (sym (ap (λ (c : OrderCounts). c.out_of_order) went.counts) ∙ in_order) in
    let up = subst (λ z. Ascends z) went.first was.up in
    let later = subst (λ z. NoneBefore o.passed z) went.first was.later in
    let timed = subst (λ z. HaveTimes z) went.first was.times in
    let at = went.passed ∙ passed_by p.time p o.passed refl timed.0 later.0 in
    record {
      gone = ascends_more left p was.gone o.passed later.0 was.past;
      past = subst (λ z. NoneAfter z (left ++ p ∷ [])) (sym at) (after_last (moment p) left p (after_more o.passed (moment p) left later.0 was.past) (omega arith));
      up = up.1;
      later = subst (λ z. NoneBefore z u.waiting) (sym at) up.0;
      times = timed.1;
    }

pub leaves_in_order : (limits : OrderLimits) (came left : List Packet) (o : Order) → Runs limits came left o → HaveTimes came → o.counts.late ≡ 0 → o.counts.out_of_order ≡ 0 → Ascends (left ++ o.waiting)
leaves_in_order limits came left o r times none in_order =
    let is = ordered limits came left o r times none in_order in
    ascends_others left o.waiting o.passed is.gone is.past is.up is.later
