-- Bytes are read one after the other, and those of a content at once.
use Rattle.std.proofs.Common.{◌≡◌, ℕ, suc, ◌+◌, ◌-◌, ◌<◌, ◌≤◌, Bool, true, false, cond, List, [], ◌∷◌, ◌++◌, length, take, drop, refl, sym, ap, subst, ◌∙◌, arith}
use Rattle.std.specs.Prelude.{nat_lt, slice_index}
use Rattle.std.proofs.lemmas.Bool.{lt-ltb}
use Rattle.std.proofs.lemmas.List.{take-append-drop}
use Rattle.cqlp_observer_facts.specs.declared.due.Due.{Due}
use Rattle.cqlp_observer_facts.specs.declared.due.Due.TheVariants as due
use Rattle.cqlp_observer_facts.specs.declared.reader.FactsReader.{FactsReader}
use Rattle.cqlp_observer_facts.specs.Due.{is_idle, is_opening}
use Rattle.cqlp_observer_facts.specs.Laws.{ReadsPieces}
use Rattle.cqlp_observer_facts.specs.Reading.{after_byte, before, is_announced, is_before, passed, read, taken}

pub read_pieces : (xs ys : List ℕ) (s : FactsReader) → read (xs ++ ys) s ≡ read ys (read xs s)
read_pieces [] ys s = refl
read_pieces (x ∷ xs) ys s = read_pieces xs ys (after_byte x s)

pub before_pieces : (xs ys : List ℕ) (s : FactsReader) → before (xs ++ ys) s ≡ before xs s + before ys (read xs s)
before_pieces [] ys s = omega arith
before_pieces (x ∷ xs) ys s =
    let later : before (xs ++ ys) (after_byte x s) ≡ before xs (after_byte x s) + before ys (read xs (after_byte x s)) = before_pieces xs ys (after_byte x s) in
    let here : ℕ = cond (is_before s) 1 0 in
    let P : ℕ → Type 0 = λ n. here + n ≡ here + before xs (after_byte x s) + before ys (read xs (after_byte x s)) in
    subst P (sym later) (omega arith)

pub reads_pieces : ReadsPieces
reads_pieces xs ys s = (read_pieces xs ys s, before_pieces xs ys s)

-- ---- bytes that are passed over

abbrev with_passing : ℕ → FactsReader → FactsReader
with_passing n s = record { flags = s.flags; opcode = s.opcode; due = s.due; front = s.front; passing = n; facts = s.facts }

passes_one : (x : ℕ) (s : FactsReader) → nat_lt 0 s.passing ≡ true → after_byte x s ≡ passed 1 s
unfolding after_byte
passes_one x s some = rw some refl

pub read_passing : (xs : List ℕ) (s : FactsReader) → length xs ≤ s.passing → read xs s ≡ passed (length xs) s
read_passing [] s le =
    let e : s.passing ≡ s.passing - 0 = omega arith in
    ap (λ (n : ℕ). with_passing n s) e
read_passing (x ∷ xs) s le =
    let some : nat_lt 0 s.passing ≡ true = lt-ltb 0 s.passing (omega arith) in
    let fewer : s.passing - 1 - length xs ≡ s.passing - length (x ∷ xs) = omega arith in
    let fits : length xs ≤ s.passing - 1 = omega arith in
    ap (λ (t : FactsReader). read xs t) (passes_one x s some)
    ∙ read_passing xs (passed 1 s) fits
    ∙ ap (λ (n : ℕ). with_passing n s) fewer

-- whether the content of a field before the one that is due lies before the message proper
abbrev pub lies : Due → Bool
lies d = cond (is_announced d) true (is_opening d)

lies_before : (s : FactsReader) → nat_lt 0 s.passing ≡ true → is_before s ≡ lies s.due
lies_before s some = rw some refl

none_of : (c : Bool) → ◌≡◌ {A = ℕ} 0 (cond c 0 0)
none_of true = refl
none_of false = refl

one_more : (c : Bool) (n : ℕ) → cond c 1 0 + cond c n 0 ≡ cond c (suc n) 0
one_more true n = omega arith
one_more false n = omega arith

pub before_passing : (xs : List ℕ) (s : FactsReader) → length xs ≤ s.passing → before xs s ≡ cond (lies s.due) (length xs) 0
before_passing [] s le = none_of (lies s.due)
before_passing (x ∷ xs) s le =
    let some : nat_lt 0 s.passing ≡ true = lt-ltb 0 s.passing (omega arith) in
    let fits : length xs ≤ s.passing - 1 = omega arith in
    ap (λ (c : Bool). cond c 1 0 + before xs (after_byte x s)) (lies_before s some)
    ∙ ap (λ (t : FactsReader). cond (lies s.due) 1 0 + before xs t) (passes_one x s some)
    ∙ ap (λ (n : ℕ). cond (lies s.due) 1 0 + n) (before_passing xs (passed 1 s) fits)
    ∙ one_more (lies s.due) (length xs)

pub before_content : (xs : List ℕ) (s : FactsReader) → length xs ≤ s.passing → 0 < s.passing → before xs s ≡ cond (is_before s) (length xs) 0
before_content xs s le lt =
    before_passing xs s le ∙ ap (λ (c : Bool). cond c (length xs) 0) (sym (lies_before s (lt-ltb 0 s.passing lt)))

-- ---- where no field is due

stays_idle : (x : ℕ) (s : FactsReader) → s.passing ≡ 0 → is_idle s.due ≡ true → after_byte x s ≡ s
unfolding after_byte
stays_idle x s none idle = rw (none, idle) refl

pub read_idle : (xs : List ℕ) (s : FactsReader) → s.passing ≡ 0 → is_idle s.due ≡ true → read xs s ≡ s
read_idle [] s none idle = refl
read_idle (x ∷ xs) s none idle = ap (λ (t : FactsReader). read xs t) (stays_idle x s none idle) ∙ read_idle xs s none idle

not_announced : (d : Due) → is_idle d ≡ true → is_announced d ≡ false
not_announced (due.Announced f) idle = absurd (cc idle)
not_announced due.QueryText idle = refl
not_announced due.StatementId idle = refl
not_announced (due.Query f) idle = refl
not_announced (due.Batch f) idle = refl
not_announced due.ErrorCode idle = refl
not_announced due.ResultKind idle = refl
not_announced (due.Rows f) idle = refl
not_announced due.Unread idle = refl
not_announced due.Over idle = refl

idle_message : (s : FactsReader) → s.passing ≡ 0 → is_idle s.due ≡ true → is_before s ≡ false
idle_message s none idle = rw (not_announced s.due idle, none) refl

before_nothing : (xs : List ℕ) (s : FactsReader) → s.passing ≡ 0 → is_idle s.due ≡ true → before xs s ≡ 0
before_nothing [] s none idle = refl
before_nothing (x ∷ xs) s none idle =
    ap (λ (c : Bool). cond c 1 0 + before xs (after_byte x s)) (idle_message s none idle)
    ∙ ap (λ (t : FactsReader). 0 + before xs t) (stays_idle x s none idle)
    ∙ ap (λ (n : ℕ). 0 + n) (before_nothing xs s none idle)

pub before_idle : (xs : List ℕ) (s : FactsReader) → s.passing ≡ 0 → is_idle s.due ≡ true → before xs s ≡ cond (is_before s) (length xs) 0
before_idle xs s none idle =
    before_nothing xs s none idle ∙ ap (λ (c : Bool). cond c (length xs) 0) (sym (idle_message s none idle))

-- ---- one byte of a field

takes_one : (x : ℕ) (s : FactsReader) → s.passing ≡ 0 → is_idle s.due ≡ false → after_byte x s ≡ taken x s
unfolding after_byte
takes_one x s none busy = rw (none, busy) refl

pub read_one : (b : List ℕ) (s : FactsReader) → 1 ≤ length b → s.passing ≡ 0 → is_idle s.due ≡ false → read (take 1 b) s ≡ taken (slice_index b 0) s
read_one [] s long none busy = absurd (omega arith)
read_one (x ∷ b) s long none busy = takes_one x s none busy

-- ---- the rest of a piece

pub read_rest : (n : ℕ) (b : List ℕ) (s : FactsReader) → read (drop n b) (read (take n b) s) ≡ read b s
read_rest n b s = sym (read_pieces (take n b) (drop n b) s) ∙ ap (λ (r : List ℕ). read r s) (take-append-drop n b)

pub before_rest : (n : ℕ) (b : List ℕ) (s : FactsReader) → before (take n b) s + before (drop n b) (read (take n b) s) ≡ before b s
before_rest n b s = sym (before_pieces (take n b) (drop n b) s) ∙ ap (λ (r : List ℕ). before r s) (take-append-drop n b)
