-- A statement stays known until as many others were named as there are places for.
use Rattle.std.proofs.Common.{inl, inr, ◌≡◌, ◌≤◌, ◌<◌, ◌-◌, ℕ, zero, suc, Bool, true, false, List, [], ◌∷◌, ◌++◌, length, take, refl, sym, ap, subst, ◌∙◌, arith, Some, None}
use Rattle.std.specs.Prelude.{nat_le, ◌||◌, if◌then◌else◌}
use Rattle.std.specs.Str.{bytes_eq}
use Rattle.std.specs.Map.{lookup, lookup_entry, remove_entry}
use Rattle.std.specs.Cmp.Lexicographic.{bytes_decides}
use Rattle.std.proofs.lemmas.Bool.{cases_Bool, le-leb}
use Rattle.cqlp_kind.specs.declared.node.Node.{Node}
use Rattle.cqlp_capture_prepared.specs.Latest.{Latest, in_front, used, without}
use Rattle.cqlp_capture_prepared.specs.Keeping.{types_of}
use Rattle.cqlp_capture_prepared.specs.History.{Heard, Prepared, Executed, Other, after, ids_named, is_named}
use Rattle.cqlp_capture_prepared.specs.Laws.{KeepsTheLatest}
use Rattle.cqlp_capture_prepared.proofs.Lookups.{Apart, apart_removed, cases_Option, found, length_without_one, removed_none, without_none}
use Rattle.cqlp_capture_prepared.proofs.Reported.{one_id}
use Rattle.cqlp_capture_prepared.proofs.Whole.{limit_known}

or_false : (a b : Bool) → a || b ≡ false → (a ≡ false) × (b ≡ false)
or_false true b e = absurd (cc e)
or_false false b e = (refl, e)

or_second : (a b : Bool) → a || b ≡ true → a ≡ false → b ≡ true
or_second true b e f = absurd (cc f)
or_second false b e f = e

second_or : (a b : Bool) → b ≡ true → a || b ≡ true
second_or true b e = refl
second_or false b e = e

first_or : (a b : Bool) → a ≡ true → a || b ≡ true
first_or a b e = rw e refl

same_id : (a b : List ℕ) → a ≡ b → bytes_eq a b ≡ true
same_id a b = (bytes_decides a b).1

turned_id : (a b : List ℕ) → bytes_eq a b ≡ false → bytes_eq b a ≡ false
turned_id a b isnt = elim (cases_Bool (bytes_eq b a)) [
  | inl is ↦ let e = same_id a b (sym (one_id b a is)) in absurd (cc (e, isnt))
  | inr e ↦ e
]

abbrev Entries : Type 0
Entries = List (List ℕ × List Node)

-- ---- entries in front of one

found_behind : (t : List ℕ → Bool) (front rest : Entries) (x : List ℕ × List Node) → lookup t front ≡ None → t x.0 ≡ true → lookup t (front ++ x ∷ rest) ≡ Some x.1
found_behind t [] rest x e is = rw is refl
found_behind t (y ∷ front) rest x e is = elim (cases_Bool (t y.0)) [
  | inl here ↦ absurd (let f = rw here at e in cc f)
  | inr isnt ↦ rw isnt (found_behind t front rest x (rw isnt at e) is)
]

removed_behind : (t : List ℕ → Bool) (front rest : Entries) (x : List ℕ × List Node) → t x.0 ≡ false → (others : Entries) × (remove_entry t (front ++ x ∷ rest) ≡ remove_entry t front ++ x ∷ others)
removed_behind t [] rest x isnt = (remove_entry t rest, rw isnt refl)
removed_behind t (y ∷ front) rest x isnt = elim (cases_Bool (t y.0)) [
  | inl is ↦ (rest, rw is refl)
  | inr not_here ↦
      let r = removed_behind t front rest x isnt in
      (r.0, rw not_here (ap (λ (l : Entries). y ∷ l) r.1))
]

taken_behind : (n : ℕ) (front rest : Entries) (x : List ℕ × List Node) → suc (length front) ≤ n → (others : Entries) × (take n (front ++ x ∷ rest) ≡ front ++ x ∷ others)
taken_behind zero front rest x h = absurd (omega arith)
taken_behind (suc n) [] rest x h = (take n rest, refl)
taken_behind (suc n) (y ∷ front) rest x h =
    let r = taken_behind n front rest x (omega arith) in
    (r.0, ap (λ (l : Entries). y ∷ l) r.1)

-- ---- entries whose ids were named

abbrev AreNamed : (List ℕ → Bool) → Entries → Type 0
AreNamed p [] = Unit {0}
AreNamed p (x ∷ es) = (p x.0 ≡ true) × AreNamed p es

named_more : (p q : List ℕ → Bool) → ((k : List ℕ) → p k ≡ true → q k ≡ true) → (es : Entries) → AreNamed p es → AreNamed q es
named_more p q f [] h = tt
named_more p q f (x ∷ es) h = (f x.0 h.0, named_more p q f es h.1)

named_removed : (p t : List ℕ → Bool) (es : Entries) → AreNamed p es → AreNamed p (remove_entry t es)
named_removed p t [] h = tt
named_removed p t (x ∷ es) h = elim (cases_Bool (t x.0)) [
  | inl is ↦ rw is h.1
  | inr isnt ↦ rw isnt (h.0, named_removed p t es h.1)
]

none_named : (p : List ℕ → Bool) (q : List ℕ) (es : Entries) → AreNamed p es → p q ≡ false → lookup (bytes_eq q) es ≡ None
none_named p q [] h isnt = refl
none_named p q (x ∷ es) h isnt = elim (cases_Bool (bytes_eq q x.0)) [
  | inl is ↦
      let e = subst (λ (k : List ℕ). p k ≡ true) (sym (one_id q x.0 is)) h.0 in
      absurd (cc (e, isnt))
  | inr not_here ↦ rw not_here (none_named p q es h.1 isnt)
]

-- one id more
abbrev or_own : List ℕ → (List ℕ → Bool) → List ℕ → Bool
or_own own p k = bytes_eq k own || p k

named_others : (own : List ℕ) (p : List ℕ → Bool) (es : Entries) → lookup (bytes_eq own) es ≡ None → AreNamed (or_own own p) es → AreNamed p es
named_others own p [] none h = tt
named_others own p (x ∷ es) none h = elim (cases_Bool (bytes_eq own x.0)) [
  | inl is ↦ absurd (let f = rw is at none in cc f)
  | inr isnt ↦ (or_second (bytes_eq x.0 own) (p x.0) h.0 (turned_id own x.0 isnt), named_others own p es (rw isnt at none) h.1)
]

named_without : (own : List ℕ) (p : List ℕ → Bool) (es : Entries) → Apart bytes_eq one_id es → AreNamed (or_own own p) es → AreNamed p (remove_entry (bytes_eq own) es)
named_without own p es apart h = named_others own p (remove_entry (bytes_eq own) es) (removed_none bytes_eq one_id own es apart) (named_removed (or_own own p) (bytes_eq own) es h)

length_without : (t : List ℕ → Bool) (es : Entries) → length es ≤ suc (length (remove_entry t es))
length_without t es = elim (cases_Option (lookup t es)) [
  | inl none ↦ let same = without_none t es none in rw same (omega arith)
  | inr some ↦ let one = length_without_one t es some.0 some.1 in omega arith
]

-- As many as are named are no more than were named.
fewer : (own : List ℕ) (p : List ℕ → Bool) (k : ℕ) → ((es : Entries) → Apart bytes_eq one_id es → AreNamed p es → length es ≤ k) → (es : Entries) → Apart bytes_eq one_id es → AreNamed (or_own own p) es → length es ≤ (if p own then k else suc k)
fewer own p k before es apart h = elim (cases_Bool (p own)) [
  | inl is ↦ rw is (before es apart (named_more (or_own own p) p (named is) es h))
  | inr isnt ↦
      let rest = before (remove_entry (bytes_eq own) es) (apart_removed bytes_eq one_id (bytes_eq own) es apart) (named_without own p es apart h) in
      let long = length_without (bytes_eq own) es in
      rw isnt (omega arith)
]
  where
    named : p own ≡ true → (x : List ℕ) → or_own own p x ≡ true → p x ≡ true
    named is x e = elim (cases_Bool (bytes_eq x own)) [
      | inl here ↦ subst (λ (z : List ℕ). p z ≡ true) (sym (one_id x own here)) is
      | inr other ↦ or_second (bytes_eq x own) (p x) e other
    ]

at_most : (later : List Heard) (es : Entries) → Apart bytes_eq one_id es → AreNamed (λ k. is_named k later) es → length es ≤ ids_named later
at_most [] [] apart h = omega arith
at_most [] (x ∷ es) apart h = absurd (let f = h.0 in cc f)
at_most (Prepared own types ∷ later) es apart h = fewer own (λ k. is_named k later) (ids_named later) (at_most later) es apart h
at_most (Executed stream own ∷ later) es apart h = fewer own (λ k. is_named k later) (ids_named later) (at_most later) es apart h
at_most (Other stream ∷ later) es apart h = at_most later es apart h

-- ---- An entry with these types is behind entries whose ids were named.

record Conforms (q : List ℕ) (t : List Node) (p : List ℕ → Bool) (es : Entries) : Type 0 where
  key : List ℕ
  front : Entries
  rest : Entries
  split : es ≡ front ++ (key, t) ∷ rest
  is : bytes_eq q key ≡ true
  apart : Apart bytes_eq one_id front
  named : AreNamed p front

reported : (q : List ℕ) (t : List Node) (p : List ℕ → Bool) (es : Entries) → Conforms q t p es → p q ≡ false → lookup (bytes_eq q) es ≡ Some t
reported q t p es s isnt = ap (lookup (bytes_eq q)) s.split ∙ found_behind (bytes_eq q) s.front s.rest (s.key, t) (none_named p q s.front s.named isnt) s.is

wider : (q : List ℕ) (t : List Node) (p : List ℕ → Bool) (own : List ℕ) (es : Entries) → Conforms q t p es → Conforms q t (or_own own p) es
wider q t p own es s =
    record { key = s.key; front = s.front; rest = s.rest; split = s.split; is = s.is; apart = s.apart; named = named_more p (or_own own p) (λ z h. second_or (bytes_eq z own) (p z) h) s.front s.named }

abbrev AreFew : (own : List ℕ) (p : List ℕ → Bool) (limit : ℕ) → Type 0
AreFew own p limit = (es : Entries) → Apart bytes_eq one_id es → AreNamed (or_own own p) es → suc (length es) ≤ limit

step : (q : List ℕ) (t : List Node) (p : List ℕ → Bool) (own : List ℕ) (e : List ℕ × List Node) (l : Latest (List ℕ) (List Node)) → AreFew own p l.limit → bytes_eq q own ≡ false → bytes_eq own e.0 ≡ true → Conforms q t p l.entries → Conforms q t (or_own own p) (in_front e (without (bytes_eq own) l)).entries
step q t p own e l few isnt here s =
    let own_is : own ≡ e.0 = one_id own e.0 here in
    let key_isnt : bytes_eq own s.key ≡ false = subst (λ (k : List ℕ). bytes_eq own k ≡ false) (one_id q s.key s.is) (turned_id q own isnt) in
    let removed = removed_behind (bytes_eq own) s.front s.rest (s.key, t) key_isnt in
    let front = remove_entry (bytes_eq own) s.front in
    let none : lookup (bytes_eq e.0) front ≡ None = subst (λ (z : List ℕ). lookup (bytes_eq z) front ≡ None) own_is (removed_none bytes_eq one_id own s.front s.apart) in
    let apart : Apart bytes_eq one_id (e ∷ front) = (none, apart_removed bytes_eq one_id (bytes_eq own) s.front s.apart) in
    let named : AreNamed (or_own own p) (e ∷ front) =
    (first_or (bytes_eq e.0 own) (p e.0) (same_id e.0 own (sym own_is)), named_more p (or_own own p) (λ z h. second_or (bytes_eq z own) (p z) h) front (named_removed p (bytes_eq own) s.front s.named)) in
    let fits = few (e ∷ front) apart named in
    let kept = taken_behind (l.limit - 1) front removed.0 (s.key, t) (omega arith) in
    record {
      key = s.key;
      front = e ∷ front;
      rest = kept.0;
      split = ap (λ (es : Entries). e ∷ es) (ap (λ (es : Entries). take (l.limit - 1) (remove_entry (bytes_eq own) es)) s.split ∙ ap (take (l.limit - 1)) removed.1 ∙ kept.1);
      is = s.is;
      apart = apart;
      named = named;
    }

used_step : (q : List ℕ) (t : List Node) (p : List ℕ → Bool) (own : List ℕ) (l : Latest (List ℕ) (List Node)) → AreFew own p l.limit → bytes_eq q own ≡ false → Conforms q t p l.entries → Conforms q t (or_own own p) (used (bytes_eq own) l).entries
used_step q t p own l few isnt s = elim (cases_Option (lookup_entry (bytes_eq own) l.entries)) [
  | inl none ↦ rw none (wider q t p own l.entries s)
  | inr some ↦ rw some.1 (step q t p own some.0 l few isnt (found (bytes_eq own) l.entries some.0 some.1).0 s)
]

few_named : (n m : ℕ) (own : List ℕ) (later base : List Heard) → (if is_named own later then ids_named later else suc (ids_named later)) < n → AreFew own (λ k. is_named k later) (after n m (later ++ base)).known.limit
few_named n m own later base h es apart named =
    let some = fewer own (λ k. is_named k later) (ids_named later) (at_most later) es apart named in
    subst (λ (k : ℕ). suc (length es) ≤ k) (sym (limit_known n m (later ++ base))) (less some h)
  where
    less : {a b c : ℕ} → a ≤ b → b < c → suc a ≤ c
    less h k = omega arith

-- ---- as long as few others are named

fewer_then : (b : Bool) (k n : ℕ) → (if b then k else suc k) < n → k < n
fewer_then true k n h = h
fewer_then false k n h = omega arith

stays : (n m : ℕ) (base : List Heard) (q : List ℕ) (t : List Node) → Conforms q t (λ k. false) (after n m base).known.entries → (later : List Heard) → is_named q later ≡ false → ids_named later < n → Conforms q t (λ k. is_named k later) (after n m (later ++ base)).known.entries
stays n m base q t s [] isnt few = s
stays n m base q t s (Prepared own types ∷ later) isnt few =
    let apart = or_false (bytes_eq q own) (is_named q later) isnt in
    let rest = stays n m base q t s later apart.1 (fewer_then (is_named own later) (ids_named later) n few) in
    let l = (after n m (later ++ base)).known in
    elim (cases_Bool (nat_le (length own) 64)) [
      | inl short ↦ rw short (step q t (λ k. is_named k later) own (own, types) l (few_named n m own later base few) apart.0 (same_id own own refl) rest)
      | inr long ↦ rw long (wider q t (λ k. is_named k later) own l.entries rest)
    ]
stays n m base q t s (Executed stream own ∷ later) isnt few =
    let apart = or_false (bytes_eq q own) (is_named q later) isnt in
    let rest = stays n m base q t s later apart.1 (fewer_then (is_named own later) (ids_named later) n few) in
    let l = (after n m (later ++ base)).known in
    elim (cases_Bool (nat_le (length own) 64)) [
      | inl short ↦ rw short (used_step q t (λ k. is_named k later) own l (few_named n m own later base few) apart.0 rest)
      | inr long ↦ rw long (wider q t (λ k. is_named k later) own l.entries rest)
    ]
stays n m base q t s (Other stream ∷ later) isnt few = stays n m base q t s later isnt few

-- ---- from the time on at which it is named

or_none : (a : Bool) → a || false ≡ true → a ≡ true
or_none true e = refl
or_none false e = e

none_found : (t : List ℕ → Bool) (es : Entries) → lookup_entry t es ≡ None → lookup t es ≡ None
none_found t [] e = refl
none_found t (x ∷ es) e = elim (cases_Bool (t x.0)) [
  | inl is ↦ absurd (let f = rw is at e in cc f)
  | inr isnt ↦ rw isnt (none_found t es (rw isnt at e))
]

first : (q : List ℕ) (t : List Node) (x : List ℕ × List Node) (rest : Entries) → bytes_eq q x.0 ≡ true → lookup (bytes_eq q) (x ∷ rest) ≡ Some t → Conforms q t (λ k. false) (x ∷ rest)
first q t x rest is e =
    let f : Some x.1 ≡ Some t = rw is at e in
    let same : x.1 ≡ t = cc f in
    record { key = x.0; front = []; rest = rest; split = ap (λ (u : List Node). (x.0, u) ∷ rest) same; is = is; apart = tt; named = tt }

begins : (n m : ℕ) (h : Heard) (before : List Heard) (q : List ℕ) (t : List Node) → nat_le (length q) 64 ≡ true → is_named q (h ∷ []) ≡ true → types_of q (after n m (h ∷ before)) ≡ Some t → Conforms q t (λ k. false) (after n m (h ∷ before)).known.entries
begins n m (Prepared own types) before q t few named e =
    let is = or_none (bytes_eq q own) named in
    let short : nat_le (length own) 64 ≡ true = subst (λ (z : List ℕ). nat_le (length z) 64 ≡ true) (one_id q own is) few in
    let l = (after n m before).known in
    rw short (first q t (own, types) (take (l.limit - 1) (remove_entry (bytes_eq own) l.entries)) is (rw short at e))
begins n m (Executed stream own) before q t few named e =
    let is = or_none (bytes_eq q own) named in
    let q_is = one_id q own is in
    let short : nat_le (length own) 64 ≡ true = subst (λ (z : List ℕ). nat_le (length z) 64 ≡ true) q_is few in
    let l = (after n m before).known in
    let reported = rw short at e in
    elim (cases_Option (lookup_entry (bytes_eq own) l.entries)) [
      | inl none ↦
          let nothing : lookup (bytes_eq q) l.entries ≡ None = subst (λ (z : List ℕ). lookup (bytes_eq z) l.entries ≡ None) (sym q_is) (none_found (bytes_eq own) l.entries none) in
          let something : lookup (bytes_eq q) l.entries ≡ Some t = rw none at reported in
          absurd (cc (nothing, something))
      | inr some ↦
          let x = some.0 in
          let here : bytes_eq q x.0 ≡ true = same_id q x.0 (q_is ∙ one_id own x.0 (found (bytes_eq own) l.entries x some.1).0) in
          rw (short, some.1) (first q t x (take (l.limit - 1) (remove_entry (bytes_eq own) l.entries)) here (rw some.1 at reported))
    ]
begins n m (Other stream) before q t few named e = absurd (cc named)

pub keeps : KeepsTheLatest
keeps n m before h later q t few named e isnt least =
    let short : nat_le (length q) 64 ≡ true = le-leb (length q) 64 few in
    reported q t (λ k. is_named k later) (after n m (later ++ h ∷ before)).known.entries (stays n m (h ∷ before) q t (begins n m h before q t short named e) later isnt least) isnt
