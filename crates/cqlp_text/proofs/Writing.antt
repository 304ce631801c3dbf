-- Writing one text after another.
use Rattle.std.proofs.Common.{◌≡◌, nat_lt, ℕ, ◌+◌, Bool, ◌<◌, drop, true, List, [], ◌∷◌, ◌++◌, length, take, Option, Some, None, IsSome, Result, Ok, Err, IsErr, refl, sym, ◌∙◌, ap, subst, append_assoc, append-nil, arith, length-drop, ◌≤◌}
use Rattle.std.proofs.lemmas.Grind.{common_steps}
use Rattle.std.proofs.lemmas.List.{take-append-drop}
use Rattle.std.proofs.lemmas.Bool.{lt-ltb, le-ltb}
use Rattle.std.specs.Io.KnownBytes.{Appends, append_known}
use Rattle.cqlp_note.specs.Streams.{counted}
use Rattle.cqlp_grammar.specs.declared.sink.SinkFault.{SinkFault}
use Rattle.cqlp_text.specs.Outputs.{WritesText, output}
use Rattle.cqlp_text.specs.Written.{Written, PassesOn, Receives, BreaksOff, Writes, bare}

passed_then : (a b c : Written) (x y left : List ℕ) → PassesOn a x b.waiting b.given → PassesOn b y left c.given → PassesOn a (x ++ y) left c.given
passed_then a b c x y left first second text given =
    let p = first text given in
    let q = second (text ++ p.0) p.1 in
    (p.0 ++ q.0, q.1 ∙ ap (λ t. Some t) (append_assoc text p.0 q.0), append_assoc p.0 q.0 left ∙ ap (λ t. p.0 ++ t) q.2 ∙ sym (append_assoc p.0 b.waiting y) ∙ ap (λ t. t ++ y) p.2 ∙ append_assoc a.waiting x y)

-- known bytes after one text and another
pub known_then : (given : Option (List ℕ)) (x y : List ℕ) → append_known (append_known given x) y ≡ append_known given (x ++ y)
known_then None x y = refl
known_then (Some t) x y = ap (λ k. Some k) (append_assoc t x y)

-- nothing more
pub takes_nothing : (w : Written) → Receives w [] w
takes_nothing w = record {
  passed = λ text given. ([], given ∙ ap (λ t. Some t) (sym (append-nil text)), sym (append-nil w.waiting));
  failures = refl;
  lender = refl;
}

-- a text that waits
pub kept : (w : Written) (x : List ℕ) → Receives w x (record w { waiting = w.waiting ++ x })
kept w x = record {
  passed = λ text given. ([], given ∙ ap (λ t. Some t) (sym (append-nil text)), refl);
  failures = refl;
  lender = refl;
}

pub takes_then_takes : (a b c : Written) (x y : List ℕ) → Receives a x b → Receives b y c → Receives a (x ++ y) c
takes_then_takes a b c x y first second = record {
  passed = passed_then a b c x y c.waiting first.passed second.passed;
  failures = second.failures ∙ first.failures;
  lender = second.lender ∙ first.lender;
}

pub takes_then_breaks : (a b c : Written) (x y : List ℕ) → Receives a x b → BreaksOff b y c → BreaksOff a (x ++ y) c
takes_then_breaks a b c x y first second = record {
  lost = second.lost;
  later = second.later;
  passed = passed_then a b c x y (second.lost ∷ second.later) first.passed second.passed;
  failures = second.failures ∙ ap (counted true) first.failures;
  waiting = second.waiting;
  lender = second.lender ∙ first.lender;
}

-- a fault within a text is one within a longer text
pub breaks_in_more : (a b : Written) (x y : List ℕ) → BreaksOff a x b → BreaksOff a (x ++ y) b
breaks_in_more a b x y broken = record {
  lost = broken.lost;
  later = broken.later ++ y;
  passed = λ text given. let p = broken.passed text given in (p.0, p.1, sym (append_assoc p.0 (broken.lost ∷ broken.later) y) ∙ ap (λ t. t ++ y) p.2 ∙ append_assoc a.waiting x y);
  failures = broken.failures;
  waiting = broken.waiting;
  lender = broken.lender;
}

-- ---- a target takes the first bytes

pub known_grown : (old new : Option (List ℕ)) (text more : List ℕ) → Appends old new more → old ≡ Some text → new ≡ Some (text ++ more)
known_grown None new text more grows known = cc
known_grown (Some xs) None text more grows known = absurd grows
known_grown (Some xs) (Some ys) text more grows known = let e : xs ≡ text = cc in ap (λ t. Some t) (grows ∙ ap (λ t. t ++ more) e)

pub first_and_rest : (xs : List ℕ) → 0 < length xs → (x : ℕ) × (rest : List ℕ) × (xs ≡ x ∷ rest)
first_and_rest [] some = absurd (omega arith)
first_and_rest (x ∷ xs) some = (x, xs, refl)

-- a target that failed before the end
pub breaks_at : (old new : Option (List ℕ)) (f f' n : ℕ) (bytes : List ℕ) → n < length bytes → Appends old new (take n bytes) → f' ≡ counted (nat_lt n (length bytes)) f → BreaksOff (bare old f) bytes (bare new f')
breaks_at old new f f' n bytes short grows failed =
    let left = first_and_rest (drop n bytes) (simp length-drop (omega arith)) in
    record {
      lost = left.0;
      later = left.1;
      passed = λ text known. (take n bytes, known_grown old new text (take n bytes) grows known, ap (λ t. take n bytes ++ t) (sym left.2) ∙ take-append-drop n bytes);
      failures = failed ∙ ap (λ (t : Bool). counted t f) (lt-ltb n (length bytes) short);
      waiting = refl;
      lender = refl;
    }

-- a target that took all
pub takes_at : (old new : Option (List ℕ)) (f f' n : ℕ) (bytes : List ℕ) → n ≤ length bytes → length bytes ≤ n → Appends old new (take n bytes) → f' ≡ counted (nat_lt n (length bytes)) f → Receives (bare old f) bytes (bare new f')
takes_at old new f f' n bytes within all grows same =
    let whole : take n bytes ≡ bytes = grind (arith, common_steps) in
    record {
      passed = λ text known. (bytes, known_grown old new text bytes (subst (λ (t : List ℕ). Appends old new t) whole grows) known, append-nil bytes);
      failures = same ∙ ap (λ (t : Bool). counted t f) (le-ltb n (length bytes) all);
      lender = refl;
    }

-- ---- a text in parts

-- A writer that was at `start` has taken a text but for what is left of it.
pub record Progress (start : Written) (text left : List ℕ) (now : Written) : Type 0 where
  pub front : List ℕ
  pub split : front ++ left ≡ text
  pub takes : Receives start front now

pub progress_starts : (w : Written) (text : List ℕ) → Progress w text text w
progress_starts w text = record { front = []; split = refl; takes = takes_nothing w }

pub progress_goes_on : {a b c : Written} {text left x : List ℕ} (later : List ℕ) → Progress a text left b → left ≡ x ++ later → Receives b x c → Progress a text later c
progress_goes_on {a} {b} {c} {text} {left} {x} later here parts takes = record {
  front = here.front ++ x;
  split = append_assoc here.front x later ∙ ap (λ t. here.front ++ t) (sym parts) ∙ here.split;
  takes = takes_then_takes a b c here.front x here.takes takes;
}

pub progress_ends : {a b : Written} {text left : List ℕ} → Progress a text left b → left ≡ [] → Receives a text b
progress_ends {a} {b} {text} {left} here none =
    subst (λ (t : List ℕ). Receives a t b) (sym (append-nil here.front) ∙ ap (λ t. here.front ++ t) (sym none) ∙ here.split) here.takes

pub progress_breaks : {a b c : Written} {text left x : List ℕ} (later : List ℕ) → Progress a text left b → left ≡ x ++ later → BreaksOff b x c → BreaksOff a text c
progress_breaks {a} {b} {c} {text} {left} {x} later here parts breaks =
    subst (λ (t : List ℕ). BreaksOff a t c) (append_assoc here.front x later ∙ ap (λ t. here.front ++ t) (sym parts) ∙ here.split)
    (breaks_in_more a c (here.front ++ x) later (takes_then_breaks a b c here.front x here.takes breaks))

-- a `?` that ends the function
pub progress_stops : {a b c : Written} {text left x : List ℕ} (later : List ℕ) (r : Result (Unit {0}) SinkFault) → IsErr r → Progress a text left b → left ≡ x ++ later → BreaksOff b x c → Writes a text r c
progress_stops later (Ok u) stops here parts breaks = cc
progress_stops later (Err e) stops here parts breaks = progress_breaks later here parts breaks

-- the last part
pub progress_writes : {a b : Written} (c : Written) {text left : List ℕ} (r : Result (Unit {0}) SinkFault) → Progress a text left b → Writes b left r c → Writes a text r c
progress_writes {a} {b} c {text} {left} (Ok u) here writes = progress_ends (progress_goes_on [] here (sym (append-nil left)) writes) refl
progress_writes {a} {b} c {text} {left} (Err e) here writes = progress_breaks [] here (sym (append-nil left)) writes

-- the last part, with nothing after it
pub progress_last : {a b : Written} (c : Written) {text left : List ℕ} (x : List ℕ) (r : Result (Unit {0}) SinkFault) → Progress a text left b → left ≡ x ++ [] → Writes b x r c → Writes a text r c
progress_last {a} {b} c {text} {left} x r here is writes = progress_writes c r here (subst (λ (t : List ℕ). Writes b t r c) (sym (is ∙ append-nil x)) writes)

-- what was kept after some of a text
pub keeps_then : (a b c : Written) (x : List ℕ) → Receives a [] b → c ≡ record b { waiting = b.waiting ++ x } → Receives a x c
keeps_then a b c x none same = rw same (takes_then_takes a b (record b { waiting = b.waiting ++ x }) [] x none (kept b x))

pub room_left : (xs : List ℕ) (len n room : ℕ) → len ≤ room → length xs ≡ room → length (take len xs) + n ≤ room → len + n ≤ length xs
room_left xs len n room within size some = grind (arith, common_steps)

pub front_of : (xs ys : List ℕ) (k : ℕ) → length xs ≡ k → take k (xs ++ ys) ≡ xs
front_of xs ys k long = grind (arith, common_steps)

-- what waited is passed on, and nothing waits
pub passes_waiting : (given given' : Option (List ℕ)) (f f' lender : ℕ) (waiting none : List ℕ) (r : Result (Unit {0}) SinkFault) → none ≡ [] → Writes (bare given f) waiting r (bare given' f') → Writes (record { given = given; failures = f; waiting = waiting; lender = lender }) [] r (record { given = given'; failures = f'; waiting = none; lender = lender })
passes_waiting given given' f f' lender waiting none (Ok u) empty takes = record {
  passed = λ text known. let p = takes.passed text known in (p.0, p.1, ap (λ t. p.0 ++ t) empty ∙ p.2 ∙ sym (append-nil waiting));
  failures = takes.failures;
  lender = refl;
}
passes_waiting given given' f f' lender waiting none (Err e) empty breaks = record {
  lost = breaks.lost;
  later = breaks.later;
  passed = λ text known. let p = breaks.passed text known in (p.0, p.1, p.2 ∙ sym (append-nil waiting));
  failures = breaks.failures;
  waiting = empty;
  lender = refl;
}

-- a text is passed on where nothing waits
pub passes_direct : (given given' : Option (List ℕ)) (f f' lender : ℕ) (none bytes : List ℕ) (r : Result (Unit {0}) SinkFault) → none ≡ [] → Writes (bare given f) bytes r (bare given' f') → Writes (record { given = given; failures = f; waiting = none; lender = lender }) bytes r (record { given = given'; failures = f'; waiting = none; lender = lender })
passes_direct given given' f f' lender none bytes (Ok u) empty takes = record {
  passed = λ text known. let p = takes.passed text known in (p.0, p.1, ap (λ t. p.0 ++ t) empty ∙ p.2 ∙ ap (λ t. t ++ bytes) (sym empty));
  failures = takes.failures;
  lender = refl;
}
passes_direct given given' f f' lender none bytes (Err e) empty breaks = record {
  lost = breaks.lost;
  later = breaks.later;
  passed = λ text known. let p = breaks.passed text known in (p.0, p.1, p.2 ∙ ap (λ t. t ++ bytes) (sym empty));
  failures = breaks.failures;
  waiting = empty;
  lender = refl;
}

writes_lender : (a b : Written) (text : List ℕ) (r : Result (Unit {0}) SinkFault) → Writes a text r b → b.lender ≡ a.lender
writes_lender a b text (Ok u) takes = takes.lender
writes_lender a b text (Err e) breaks = breaks.lender

pub known_text : (a b : Written) (given given' : Option (List ℕ)) (f f' lender : ℕ) (text : List ℕ) (r : Result (Unit {0}) SinkFault) → a ≡ record (bare given f) { lender = lender } → bare given' f' ≡ record b { waiting = []; lender = 0 } → b.waiting ≡ [] → Writes a text r b → IsSome given → WritesText (output given f) text r (output given' f')
known_text a b None given' f f' lender text r starts ends empty writes known = cc
known_text a b (Some t) given' f f' lender text (Ok u) starts ends empty takes known =
    let p = takes.passed t (ap (λ w. w.given) starts) in
    let all : p.0 ≡ text = sym (append-nil p.0) ∙ ap (λ k. p.0 ++ k) (sym empty) ∙ p.2 ∙ ap (λ w. w.waiting ++ text) starts in
    let grown : given' ≡ Some (t ++ text) = ap (λ w. w.given) ends ∙ p.1 ∙ ap (λ k. Some (t ++ k)) all in
    let same : f' ≡ f = ap (λ w. w.failures) ends ∙ takes.failures ∙ ap (λ w. w.failures) starts in
    ap (λ k. output k f') grown ∙ ap (λ n. output (Some (t ++ text)) n) same
known_text a b (Some t) given' f f' lender text (Err e) starts ends empty breaks known =
    let p = breaks.passed t (ap (λ w. w.given) starts) in
    record {
      sent = p.0;
      lost = breaks.lost;
      later = breaks.later;
      split = p.2 ∙ ap (λ w. w.waiting ++ text) starts;
      given = ap (λ w. w.given) ends ∙ p.1;
      failures = ap (λ w. w.failures) ends ∙ breaks.failures ∙ ap (λ w. counted true w.failures) starts;
    }

-- a text was written through a borrow of a target, nothing waits, and the target ends as the borrow does
pub writes_text : {X : Type 0} (given : X → Option (List ℕ)) (failures : X → ℕ) (first last end : X) (a b : Written) (lender : ℕ) (text : List ℕ) (r : Result (Unit {0}) SinkFault) → a ≡ record (bare (given first) (failures first)) { lender = lender } → bare (given last) (failures last) ≡ record b { waiting = []; lender = 0 } → b.waiting ≡ [] → Writes a text r b → (b.lender ≡ lender → end ≡ last) → IsSome (given first) → WritesText (output (given first) (failures first)) text r (output (given end) (failures end))
writes_text given failures first last end a b lender text r starts ends empty writes is_last known =
    let e = is_last (writes_lender a b text r writes ∙ ap (λ w. w.lender) starts) in
    rw e (known_text a b (given first) (given last) (failures first) (failures last) lender text r starts ends empty writes known)
