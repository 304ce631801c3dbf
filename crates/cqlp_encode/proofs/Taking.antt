-- Bytes that are taken after others.
use Rattle.std.proofs.Common.{◌≡◌, ◌≢◌, ◌==◌, ◌&&◌, ◌≤◌, ◌<◌, ◌+◌, ◌-◌, ◌*◌, ◌^◌, ℕ, Bool, true, false, List, [], ◌∷◌, ◌++◌, length, take, drop, min, nat_lt, refl, sym, ◌∙◌, ap, subst, append_assoc, append-nil, get_or, inl, inr, arith}
use Rattle.std.proofs.lemmas.List.{take-append-drop, length-append, length-drop, length-take-le, take_more, take_all}
use Rattle.std.proofs.lemmas.Bool.{cases_lt, lt-ltb, le-ltb}
use Rattle.std.proofs.lemmas.Bool.Decides.{nat_tests}
use Rattle.std.proofs.lemmas.Grind.{common_steps, flat_map-append}
use Rattle.std.specs.List.{flat_map}
use Rattle.cqlp_note.specs.Streams.{counted}
use Rattle.cqlp_note.specs.Outputs.{Output}
use Rattle.std.specs.Io.KnownBytes.{Appends}
use Rattle.cqlp_note.proofs.Appended.{appends_then}
use Rattle.cqlp_encode.specs.Encoding.{Continued}
use Rattle.cqlp_encode.proofs.Continuing.{drop_both, rest_taken, stops_alike}
use Rattle.cqlp_encode.specs.Progress.{FewCalls, Flushes, PassesOn, Start, Progress, HasTaken, HasTakenWith, Puts}

-- the same with other bytes that wait
abbrev pub waiting_for : Progress → List ℕ → Progress
waiting_for p waiting = record { output = p.output; calls = p.calls; waiting = waiting; taken = p.taken; skip = p.skip; failed = p.failed; lender = p.lender }

longer : (xs ys : List ℕ) → xs ≢ [] → xs ++ ys ≢ []
longer [] ys some = λ e. some refl
longer (x ∷ xs) ys some = λ e. absurd cc

-- what waits does not count after a fault
pub after_fault : (spare spare' : ℕ) (start : Start) (all more waiting : List ℕ) (p : Progress) → p.failed ≡ true → HasTakenWith spare start all p → HasTakenWith spare' start (all ++ more) (waiting_for p waiting)
after_fault spare spare' start all more waiting p failed t = record {
  sent = t.sent;
  left = t.left ++ more;
  whole = ap (λ (x : List ℕ). x ++ more) t.whole ∙ append_assoc t.sent t.left more;
  given = t.given;
  count = t.count;
  skip = t.skip;
  passed = t.passed;
  failures = t.failures;
  waits = λ e. absurd cc;
  lost = λ e. longer t.left more (t.lost failed);
  calls = t.calls;
  dense = λ e. absurd cc;
}

pub kept : (spare spare' : ℕ) (start : Start) (all more : List ℕ) (p : Progress) → spare ≤ spare' → HasTakenWith spare start all p → HasTakenWith spare' start (all ++ more) (waiting_for p (p.waiting ++ more))
kept spare spare' start all more p le t = record {
  sent = t.sent;
  left = t.left ++ more;
  whole = ap (λ (x : List ℕ). x ++ more) t.whole ∙ append_assoc t.sent t.left more;
  given = t.given;
  count = t.count;
  skip = t.skip;
  passed = t.passed;
  failures = t.failures;
  waits = λ e. ap (λ (x : List ℕ). x ++ more) (t.waits e);
  lost = λ e. longer t.left more (t.lost e);
  calls = t.calls;
  dense = λ e. omega (arith, t.dense e, le);
}

-- with more to spare
pub wider : (spare spare' : ℕ) (start : Start) (all : List ℕ) (p : Progress) → spare ≤ spare' → HasTakenWith spare start all p → HasTakenWith spare' start all p
wider spare spare' start all p le t = record {
  sent = t.sent;
  left = t.left;
  whole = t.whole;
  given = t.given;
  count = t.count;
  skip = t.skip;
  passed = t.passed;
  failures = t.failures;
  waits = t.waits;
  lost = t.lost;
  calls = t.calls;
  dense = λ e. omega (arith, t.dense e, le);
}

pub puts_then : (a b c : Progress) (x y : List ℕ) → Puts a x b → Puts b y c → Puts a (x ++ y) c
puts_then a b c x y first second = record {
  taken = λ start all t. subst (λ (z : List ℕ). HasTaken start z c) (append_assoc all x y) (second.taken start (all ++ x) (first.taken start all t));
  lender = second.lender ∙ first.lender;
}

drop_some : (n : ℕ) (xs : List ℕ) → n < length xs → drop n xs ≢ []
drop_some n xs lt e =
    let long : length (drop n xs) ≡ length xs - n = length-drop n xs in
    let none : length (drop n xs) ≡ 0 = ap (length {A = ℕ}) e in
    absurd (omega (arith, long, none))

drop_none : (n : ℕ) (xs : List ℕ) → length xs ≤ n → drop n xs ≡ []
drop_none n [] le = grind (arith, common_steps)
drop_none n (x ∷ xs) le = grind (arith, common_steps)

-- ---- calls

all_taken : (skip n len : ℕ) → skip < len → n ≡ len → (nat_lt skip len && (n == len)) ≡ true
all_taken skip n len less all = grind (arith, nat_tests)

some_not_taken : (skip n len : ℕ) → n < len → (nat_lt skip len && (n == len)) ≡ false
some_not_taken skip n len less = grind (arith, nat_tests)

none_to_take : (skip n len : ℕ) → len ≤ skip → (nat_lt skip len && (n == len)) ≡ false
none_to_take skip n len less = grind (arith, nat_tests)

-- the calls behind an offer of `len` bytes of which n were taken
calls_after : (first calls calls' sent before skip n len spare spare' : ℕ) → FewCalls (sent - before) first calls → 256 * calls ≤ 256 * first + (sent - before) + spare + 256 → skip ≡ before - sent → n ≤ len → 256 + spare ≤ len + spare' → spare' ≤ 256
    → calls' ≡ counted (nat_lt skip len && (n == len)) calls
    → FewCalls ((sent + n) - before) first calls' × (len ≤ n → 256 * calls' ≤ 256 * first + ((sent + n) - before) + spare' + 256)
calls_after first calls calls' sent before skip n len spare spare' few dense left bound room small is = elim (cases_lt n len) [
  | inl lt ↦
      let same : calls' ≡ calls = is ∙ ap (λ (b : Bool). counted b calls) (some_not_taken skip n len lt) in
      (record { some = omega (arith, few.some, same); few = omega (arith, few.few, same) }, λ all. absurd (omega (arith, lt, all)))
  | inr all ↦ elim (cases_lt skip len) [
    | inl lt ↦
        let one : calls' ≡ counted true calls = is ∙ ap (λ (b : Bool). counted b calls) (all_taken skip n len lt (omega (arith, all, bound))) in
        let up : calls' ≤ calls + 1 = omega (arith, one) in
        let more : 256 * calls' ≤ 256 * first + ((sent + n) - before) + spare' + 256 = omega (arith, few.some, dense, up, left, lt, all, bound, room) in
        (record { some = omega (arith, few.some, up, left, lt, all); few = omega (arith, more, small) }, λ e. more)
    | inr none ↦
        let same : calls' ≡ calls = is ∙ ap (λ (b : Bool). counted b calls) (none_to_take skip n len none) in
        (record { some = omega (arith, few.some, same); few = omega (arith, few.few, same) }, λ e. omega (arith, few.some, dense, same, left, none, all, bound, room))
  ]
]

-- all that waits and these bytes are offered to a target that has not failed
pub offered : (spare spare' : ℕ) (start : Start) (o : Output) (calls : ℕ) (all more : List ℕ) (n : ℕ) (p : Progress) → p.failed ≡ false → 256 + spare ≤ length (p.waiting ++ more) + spare' → spare' ≤ 256 → HasTakenWith spare start all p → Continued p.skip p.output (p.waiting ++ more) n o
    → calls ≡ counted (nat_lt p.skip (length (p.waiting ++ more)) && (n == length (p.waiting ++ more))) p.calls
    → HasTakenWith spare' start (all ++ more) (record { output = o; calls = calls; waiting = []; taken = min (p.taken + n) (2 ^ 64 - 1); skip = p.skip - n; failed = nat_lt n (length (p.waiting ++ more)); lender = p.lender })
offered spare spare' start o calls all more n p sound room small t r is =
    let bytes : List ℕ = p.waiting ++ more in
    let parted : (sent : List ℕ) (n : ℕ) → p.skip ≡ start.skip - length sent → drop start.skip (sent ++ take n bytes) ≡ drop start.skip sent ++ take (n - p.skip) (drop p.skip bytes) = λ sent n e. drop_both start.skip sent (take n bytes) ∙ ap (λ (x : List ℕ). drop start.skip sent ++ x) (ap (λ (k : ℕ). drop k (take n bytes)) (sym e) ∙ sym (rest_taken p.skip n bytes)) in
    let long : length (t.sent ++ take n bytes) ≡ length t.sent + n = omega (arith, length-append t.sent (take n bytes), length-take-le n bytes r.bound) in
    let after = calls_after start.calls p.calls calls (length t.sent) start.skip p.skip n (length bytes) spare spare' t.calls (t.dense sound) t.skip r.bound room small is in
    record {
      sent = t.sent ++ take n bytes;
      left = drop n bytes;
      whole = ap (λ (x : List ℕ). x ++ more) t.whole ∙ append_assoc t.sent t.left more ∙ rw (t.waits sound) (ap (λ (x : List ℕ). t.sent ++ x) (sym (take-append-drop n bytes)) ∙ sym (append_assoc t.sent (take n bytes) (drop n bytes)));
      given = subst (λ (x : List ℕ). Appends start.output.given o.given x) (sym (parted t.sent n t.skip)) (appends_then start.output.given p.output.given o.given (drop start.skip t.sent) (take (n - p.skip) (drop p.skip bytes)) t.given r.offered.given);
      count = omega (arith, long, t.count);
      skip = omega (arith, long, t.skip);
      passed = λ e. elim (cases_lt n (length bytes)) [
        | inl lt ↦ omega (arith, long, t.skip, r.from, lt)
        | inr le ↦ let both : false ≡ true = sym (le-ltb n (length bytes) le) ∙ e in absurd cc
      ];
      failures = r.offered.failures ∙ ap (λ (k : ℕ). counted (nat_lt (n - p.skip) k) p.output.failures) (length-drop p.skip bytes) ∙ ap (λ (b : Bool). counted b p.output.failures) (stops_alike p.skip n (length bytes) r.from) ∙ ap (counted (nat_lt n (length bytes))) (t.failures ∙ ap (λ (b : Bool). counted b start.output.failures) sound);
      waits = λ e. elim (cases_lt n (length bytes)) [
        | inl lt ↦ let both : false ≡ true = sym e ∙ lt-ltb n (length bytes) lt in absurd cc
        | inr le ↦ drop_none n bytes le
      ];
      lost = λ e. elim (cases_lt n (length bytes)) [
        | inl lt ↦ drop_some n bytes lt
        | inr le ↦ let both : false ≡ true = sym (le-ltb n (length bytes) le) ∙ e in absurd cc
      ];
      calls = subst (λ (m : ℕ). FewCalls (m - start.skip) start.calls calls) (sym long) after.0;
      dense = λ e. elim (cases_lt n (length bytes)) [
        | inl lt ↦ let both : false ≡ true = sym e ∙ lt-ltb n (length bytes) lt in absurd cc
        | inr le ↦ subst (λ (m : ℕ). 256 * calls ≤ 256 * start.calls + (m - start.skip) + spare' + 256) (sym long) (after.1 le)
      ];
    }

-- ---- as calls leave it

abbrev progress : Output → (calls : ℕ) → (waiting : List ℕ) → (taken skip : ℕ) → (failed : Bool) → (lender : ℕ) → Progress
progress o calls waiting taken skip failed lender = record { output = o; calls = calls; waiting = waiting; taken = taken; skip = skip; failed = failed; lender = lender }

-- the bytes that wait, k many, were offered
pub flushes : (o o' : Output) (calls calls' : ℕ) (waiting : List ℕ) (taken taken' skip skip' n k lender : ℕ) (failed : Bool) → failed ≡ false → k ≡ length waiting → taken' ≡ min (taken + n) (2 ^ 64 - 1) → skip' ≡ skip - n → Continued skip o waiting n o'
    → calls' ≡ counted (nat_lt skip (length waiting) && (n == length waiting)) calls
    → Flushes (progress o calls waiting taken skip failed lender) (progress o' calls' [] taken' skip' (nat_lt n k) lender)
flushes o o' calls calls' waiting taken taken' skip skip' n k lender failed sound long more less r is =
    let old = progress o calls waiting taken skip failed lender in
    let same : waiting ++ [] ≡ waiting = append-nil waiting in
    let spare = length waiting - 256 in
    let spare' = 256 - length waiting in
    record {
      taken = λ start all t.
          let whole = offered spare spare' start o' calls' all [] n old sound (rw same (omega arith)) (omega arith) t.so (rw same r) (rw same is) in
          let after = progress o' calls' [] (min (taken + n) (2 ^ 64 - 1)) (skip - n) (nat_lt n (length waiting)) lender in
          rw (long, more, less) (subst (λ (x : List ℕ). HasTakenWith spare' start x after) (append-nil all) (subst (λ (w : List ℕ). HasTakenWith spare' start (all ++ []) (progress o' calls' [] (min (taken + n) (2 ^ 64 - 1)) (skip - n) (nat_lt n (length w)) lender)) same whole));
      lender = refl;
      empty = refl;
    }

-- these bytes were offered, where nothing waited
pub passes : (o o' : Output) (calls calls' : ℕ) (waiting waiting' bytes : List ℕ) (taken taken' skip skip' n lender : ℕ) (failed : Bool) → failed ≡ false → waiting ≡ [] → waiting' ≡ [] → 512 < length bytes → taken' ≡ min (taken + n) (2 ^ 64 - 1) → skip' ≡ skip - n → Continued skip o bytes n o'
    → calls' ≡ counted (nat_lt skip (length bytes) && (n == length bytes)) calls
    → PassesOn (progress o calls waiting taken skip failed lender) bytes (progress o' calls' waiting' taken' skip' (nat_lt n (length bytes)) lender)
passes o o' calls calls' waiting waiting' bytes taken taken' skip skip' n lender failed sound none none' many more less r is =
    rw (none, none', more, less) (record { taken = λ start all t. record { so = offered 256 0 start o' calls' all bytes n (progress o calls [] taken skip failed lender) sound (omega arith) (omega arith) t r is }; lender = refl })

-- nothing was offered, after a fault
pub drops : (p : Progress) (bytes waiting : List ℕ) → p.failed ≡ true → PassesOn p bytes (waiting_for p waiting)
drops p bytes waiting failed = record { taken = λ start all t. record { so = after_fault _ _ start all bytes waiting p failed t }; lender = refl }

pub drops_waiting : (p : Progress) → p.failed ≡ true → Flushes p (waiting_for p [])
drops_waiting p failed = record {
  taken = λ start all t. subst (λ (x : List ℕ). HasTakenWith (256 - length p.waiting) start x (waiting_for p [])) (append-nil all) (after_fault _ _ start all [] [] p failed t.so);
  lender = refl;
  empty = refl;
}

pub keeps : (p : Progress) (bytes : List ℕ) → Puts p bytes (waiting_for p (p.waiting ++ bytes))
keeps p bytes = record { taken = λ start all t. record { so = kept _ _ start all bytes p (omega (arith, length-append p.waiting bytes)) t.so }; lender = refl }

-- ---- what waited was passed on first

pub flushed_then : (a b c : Progress) (bytes : List ℕ) → Flushes a b → PassesOn b bytes c → Puts a bytes c
flushed_then a b c bytes first second = record {
  taken = λ start all t. second.taken start all (wider _ 256 start all b (omega arith) (first.taken start all t));
  lender = second.lender ∙ first.lender;
}

pub flushed_keeps : (a b c : Progress) (bytes : List ℕ) → Flushes a b → 512 < length a.waiting + length bytes → c ≡ waiting_for b (b.waiting ++ bytes) → Puts a bytes c
flushed_keeps a b c bytes first many is =
    let long : length (b.waiting ++ bytes) ≡ length bytes = ap (λ (w : List ℕ). length (w ++ bytes)) first.empty in
    rw is (record {
      taken = λ start all t. record { so = kept _ _ start all bytes b (omega (arith, long, many)) (first.taken start all t) };
      lender = first.lender;
    })

pub flushed_many : (a b : Progress) → Flushes a b → 256 < length a.waiting → Puts a [] b
flushed_many a b first many = record {
  taken = λ start all t. subst (λ (x : List ℕ). HasTaken start x b) (sym (append-nil all)) (record { so = wider _ _ start all b (omega (arith, many)) (first.taken start all t) });
  lender = first.lender;
}

-- ---- items one after the other

pub puts_nil : (a : Progress) → Puts a [] a
puts_nil a = record { taken = λ start all t. subst (λ (z : List ℕ). HasTaken start z a) (sym (append-nil all)) t; lender = refl }

module _ {X : Type 0} (bytes : X → List ℕ) where
  -- one item more
  pub puts_item : (xs : List X) (i : ℕ) (x : X) {a b c : Progress} → x ≡ get_or xs i x → i < length xs → Puts a (flat_map bytes (take i xs)) b → Puts b (bytes x) c → Puts a (flat_map bytes (take (i + 1) xs)) c
  puts_item xs i x {a} {b} {c} e l s t =
      let more : take (i + 1) xs ≡ take i xs ++ x ∷ [] = take_more xs i x l ∙ ap (λ (y : X). take i xs ++ y ∷ []) (sym e) in
      let one : flat_map bytes (x ∷ []) ≡ bytes x = append-nil (bytes x) in
      rw (more, flat_map-append, one) (puts_then a b c _ _ s t)

  pub puts_all : (xs : List X) (i : ℕ) {a b : Progress} → length xs ≤ i → Puts a (flat_map bytes (take i xs)) b → Puts a (flat_map bytes xs) b
  puts_all xs i l s = rw take_all at s
