-- Two answers of one call are the same, and so are the states that they leave.
use Rattle.std.proofs.Common.{◌≡◌, ℕ, ◌+◌, ◌≤◌, Bool, true, false, List, [], ◌++◌, length, take, drop, Result, Ok, Err, refl, sym, ap, ◌∙◌, inl, inr, arith}
use Rattle.std.specs.Prelude.{◌↔◌, IsTrue, Option, Some, None, IfOk}
use Rattle.std.specs.Io.KnownBytes.{ReadConsumes, WriteAppends}
use Rattle.std.proofs.lemmas.List.{take_at, drop_at, length-take-le}
use Rattle.std.proofs.lemmas.Bool.{cases_lt}
use Rattle.cqlp_note.specs.declared.header.Header.{Header}
use Rattle.cqlp_note.specs.declared.refusal.Reason.{Reason}
use Rattle.cqlp_note.specs.declared.refusal.Refusal.{Refusal}
use Rattle.cqlp_note.specs.declared.streams.IoFault.{IoFault}
use Rattle.cqlp_note.specs.declared.advance.Push.{Push}
use Rattle.cqlp_note.specs.declared.advance.Push.TheVariants as push
use Rattle.cqlp_note.specs.declared.advance.FieldAdvance.{FieldAdvance}
use Rattle.cqlp_note.specs.declared.advance.FieldAdvance.TheVariants as taken
use Rattle.cqlp_note.specs.Reader.{Said, More, Bad, Got, says}
use Rattle.cqlp_note.specs.Field.{FieldValue}
use Rattle.cqlp_note.specs.Head.{reader_of}
use Rattle.cqlp_note.specs.Partial.{FieldState, Ends, Waits, Advances, Pushes, going_on, ended, content_bytes}
use Rattle.cqlp_note.specs.Field.{content_length}
use Rattle.cqlp_note.specs.Heading.{Headed}
use Rattle.cqlp_note.specs.Laws.{moved, IsSameField, IsSamePush, IsSameTaken, AfterCall, IsRead, IsWritten}
use Rattle.cqlp_note.proofs.Runs.{same_got}

-- what is refused, at which field, and what is left
abbrev Fails : FieldState → List ℕ → Refusal → FieldState → Type 0
Fails old input r new = (r.at ≡ old.field.at) × (says (reader_of old.field) 0 (old.seen ++ input) ≡ Bad r.why) × (new ≡ ended old [])

module _ (p q : FieldState) (input : List ℕ) (same : IsSameField p q) where
  said : says (reader_of p.field) 0 (p.seen ++ input) ≡ says (reader_of q.field) 0 (q.seen ++ input)
  said = rw (same.field, same.seen) refl

  same_ended : (c d : List ℕ) → c ≡ d → moved (ended p c) q.buffer ≡ ended q d
  same_ended c d e = λ i. record { room = same.room i; under_way = false; field = same.field i; seen = []; content = e i; buffer = q.buffer }

  same_going_on : (c d : List ℕ) → c ≡ d → moved (going_on p (p.seen ++ input) c) q.buffer ≡ going_on q (q.seen ++ input) d
  same_going_on c d e = λ i. record { room = same.room i; under_way = true; field = same.field i; seen = same.seen i ++ input; content = e i; buffer = q.buffer }

  both_wait : (m n : ℕ) (new_p new_q : FieldState) → Waits p input m new_p → Waits q input n new_q → (m ≡ n) × (moved new_p q.buffer ≡ new_q)
  both_wait m n new_p new_q a b =
      let kept : new_p.content ≡ new_q.content = a.kept ∙ (rw (same.field, same.seen) (sym b.kept)) in
      (a.all ∙ sym b.all, ap (λ x. moved x q.buffer) a.under_way ∙ same_going_on _ _ kept ∙ sym b.under_way)

  module _ (m n : ℕ) (v w : FieldValue) (new_p new_q : FieldState) (a : Ends p input m v new_p) (b : Ends q input n w new_q) where
    both : (v ≡ w) × (length p.seen + m ≡ length q.seen + n)
    both = same_got v w _ _ (sym a.is ∙ said ∙ b.is)

    same_used : m ≡ n
    same_used = omega (arith, both.1, ap length same.seen)

    same_content : new_p.content ≡ new_q.content
    same_content = elim (cases_lt m (content_length v)) [
      | inl lt ↦ a.kept lt ∙ ap content_bytes both.0 ∙ sym (b.kept (rw (← same_used, ← both.0) lt))
      | inr le ↦ a.lent le ∙ sym (b.lent (rw (← same_used, ← both.0) le))
    ]

    both_end : (m ≡ n) × (v ≡ w) × (moved new_p q.buffer ≡ new_q)
    both_end = (same_used, both.0, ap (λ x. moved x q.buffer) a.idle ∙ same_ended _ _ same_content ∙ sym b.idle)

  both_fail : (r s : Refusal) (new_p new_q : FieldState) → Fails p input r new_p → Fails q input s new_q → (r ≡ s) × (moved new_p q.buffer ≡ new_q)
  both_fail r s new_p new_q a b =
      let bad : ◌≡◌ {A = Said FieldValue Reason} (Bad r.why) (Bad s.why) = sym a.1 ∙ said ∙ b.1 in
      let why : r.why ≡ s.why = cc in
      let at : r.at ≡ s.at = a.0 ∙ ap (λ w. w.at) same.field ∙ sym b.0 in
      (λ i. record { at = at i; why = why i }, ap (λ x. moved x q.buffer) a.2 ∙ same_ended [] [] refl ∙ sym b.2)

  more_or_got : (v : FieldValue) (k : ℕ) → says (reader_of p.field) 0 (p.seen ++ input) ≡ More → says (reader_of q.field) 0 (q.seen ++ input) ≡ Got v k → ⊥
  more_or_got v k a b = let no : ◌≡◌ {A = Said FieldValue Reason} More (Got v k) = sym a ∙ said ∙ b in cc

  more_or_bad : (why : Reason) → says (reader_of p.field) 0 (p.seen ++ input) ≡ More → says (reader_of q.field) 0 (q.seen ++ input) ≡ Bad why → ⊥
  more_or_bad why a b = let no : ◌≡◌ {A = Said FieldValue Reason} More (Bad why) = sym a ∙ said ∙ b in cc

  got_or_more : (v : FieldValue) (k : ℕ) → says (reader_of p.field) 0 (p.seen ++ input) ≡ Got v k → says (reader_of q.field) 0 (q.seen ++ input) ≡ More → ⊥
  got_or_more v k a b = let no : ◌≡◌ {A = Said FieldValue Reason} (Got v k) More = sym a ∙ said ∙ b in cc

  got_or_bad : (v : FieldValue) (k : ℕ) (why : Reason) → says (reader_of p.field) 0 (p.seen ++ input) ≡ Got v k → says (reader_of q.field) 0 (q.seen ++ input) ≡ Bad why → ⊥
  got_or_bad v k why a b = let no : ◌≡◌ {A = Said FieldValue Reason} (Got v k) (Bad why) = sym a ∙ said ∙ b in cc

  bad_or_more : (why : Reason) → says (reader_of p.field) 0 (p.seen ++ input) ≡ Bad why → says (reader_of q.field) 0 (q.seen ++ input) ≡ More → ⊥
  bad_or_more why a b = let no : ◌≡◌ {A = Said FieldValue Reason} (Bad why) More = sym a ∙ said ∙ b in cc

  bad_or_got : (why : Reason) (v : FieldValue) (k : ℕ) → says (reader_of p.field) 0 (p.seen ++ input) ≡ Bad why → says (reader_of q.field) 0 (q.seen ++ input) ≡ Got v k → ⊥
  bad_or_got why v k a b = let no : ◌≡◌ {A = Said FieldValue Reason} (Bad why) (Got v k) = sym a ∙ said ∙ b in cc

  pub one_push : (a b : Push) (new_p new_q : FieldState) → Pushes p input a new_p → Pushes q input b new_q → IsSamePush a b × (moved new_p q.buffer ≡ new_q)
  one_push (push.More m) (push.More n) new_p new_q a b = both_wait m n new_p new_q a b
  one_push (push.More m) (push.Got n w) new_p new_q a b = absurd (more_or_got _ _ a.is b.is)
  one_push (push.More m) (push.Refused s) new_p new_q a b = absurd (more_or_bad _ a.is b.1)
  one_push (push.Got m v) (push.More n) new_p new_q a b = absurd (got_or_more _ _ a.is b.is)
  one_push (push.Got m v) (push.Got n w) new_p new_q a b = let e = both_end m n _ _ new_p new_q a b in ((e.0, e.1), e.2)
  one_push (push.Got m v) (push.Refused s) new_p new_q a b = absurd (got_or_bad _ _ _ a.is b.1)
  one_push (push.Refused r) (push.More n) new_p new_q a b = absurd (bad_or_more _ a.1 b.is)
  one_push (push.Refused r) (push.Got n w) new_p new_q a b = absurd (bad_or_got _ _ _ a.1 b.is)
  one_push (push.Refused r) (push.Refused s) new_p new_q a b = both_fail r s new_p new_q a b

  pub one_taken : (a b : FieldAdvance) (new_p new_q : FieldState) → Advances p input a new_p → Advances q input b new_q → IsSameTaken input a new_p b new_q × (moved new_p q.buffer ≡ new_q)
  one_taken (taken.More m) (taken.More n) new_p new_q a b = both_wait m n new_p new_q a b
  one_taken (taken.More m) (taken.Got n j) new_p new_q a b = absurd (more_or_got _ _ a.is b.0.is)
  one_taken (taken.More m) (taken.Refused s) new_p new_q a b = absurd (more_or_bad _ a.is b.1)
  one_taken (taken.Got m i) (taken.More n) new_p new_q a b = absurd (got_or_more _ _ a.0.is b.is)
  one_taken (taken.Got m i) (taken.Got n j) new_p new_q a b = let e = both_end m n _ _ new_p new_q a.0 b.0 in ((e.0, e.1), e.2)
  one_taken (taken.Got m i) (taken.Refused s) new_p new_q a b = absurd (got_or_bad _ _ _ a.0.is b.1)
  one_taken (taken.Refused r) (taken.More n) new_p new_q a b = absurd (bad_or_more _ a.1 b.is)
  one_taken (taken.Refused r) (taken.Got n j) new_p new_q a b = absurd (bad_or_got _ _ _ a.1 b.0.is)
  one_taken (taken.Refused r) (taken.Refused s) new_p new_q a b = both_fail r s new_p new_q a b

-- ---- headers

module _ (at : ℕ) (bytes : List ℕ) where
  pub one_header : (a b : Result Header Refusal) → Headed at bytes a → Headed at bytes b → a ≡ b
  one_header (Ok h) (Ok k) a b =
      let both : ◌≡◌ {A = Result Header (ℕ × Reason)} (Ok h) (Ok k) = sym a.0 ∙ b.0 in
      let same : h ≡ k = cc in
      ap (λ (x : Header). Ok x) same
  one_header (Ok h) (Err s) a b = let no : ◌≡◌ {A = Result Header (ℕ × Reason)} (Ok h) (Err b.0) = sym a.0 ∙ b.1 in absurd cc
  one_header (Err r) (Ok k) a b = let no : ◌≡◌ {A = Result Header (ℕ × Reason)} (Err a.0) (Ok k) = sym a.1 ∙ b.0 in absurd cc
  one_header (Err r) (Err s) a b =
      let both : ◌≡◌ {A = Result Header (ℕ × Reason)} (Err a.0) (Err b.0) = sym a.1 ∙ b.1 in
      let fault : a.0 ≡ b.0 = cc in
      let place : r.at ≡ s.at = a.2 ∙ ap (λ (e : ℕ × Reason). at + e.0) fault ∙ sym b.2 in
      let why : r.why ≡ s.why = a.3 ∙ ap (λ (e : ℕ × Reason). e.1) fault ∙ sym b.3 in
      λ i. Err (record { at = place i; why = why i })

pub one_bool : (P : Type 0) (a b : Bool) → (IsTrue a ↔ P) → (IsTrue b ↔ P) → a ≡ b
one_bool P true true x y = refl
one_bool P true false x y = sym (y.1 (x.0 refl))
one_bool P false true x y = x.1 (y.0 refl)
one_bool P false false x y = refl

-- ---- readers and writers

same_cut : (xs bs cs ys zs : List ℕ) (n : ℕ) → length bs ≡ n → length cs ≡ n → xs ≡ bs ++ ys → xs ≡ cs ++ zs → (ys ≡ zs) × (bs ≡ cs)
same_cut xs bs cs ys zs n long_b long_c b c =
    let front : bs ++ ys ≡ cs ++ zs = sym b ∙ c in (
      sym (drop_at bs ys n long_b) ∙ ap (drop n) front ∙ drop_at cs zs n long_c,
      sym (take_at bs ys n long_b) ∙ ap (take n) front ∙ take_at cs zs n long_c,
    )

module _ (given : List ℕ) (failed : ℕ) where
  read_bytes : (answer : Result ℕ IoFault) (new_a new_b : Option (List ℕ)) (buffer_a buffer_b : List ℕ)
      → IfOk answer (λ n. n ≤ length buffer_a) → IfOk answer (λ n. n ≤ length buffer_b)
      → ReadConsumes (Some given) new_a answer buffer_a → ReadConsumes (Some given) new_b answer buffer_b → (new_a ≡ new_b) × IfOk answer (λ n. take n buffer_a ≡ take n buffer_b)
  read_bytes (Ok n) (Some ys) (Some zs) buffer_a buffer_b le_a le_b a b =
      let e = same_cut given (take n buffer_a) (take n buffer_b) ys zs n (length-take-le n buffer_a le_a) (length-take-le n buffer_b le_b) a.0 b.0 in
      (ap (λ (x : List ℕ). Some x) e.0, e.1)
  read_bytes (Ok n) None new_b buffer_a buffer_b le_a le_b a b = absurd a.0
  read_bytes (Ok n) (Some ys) None buffer_a buffer_b le_a le_b a b = absurd b.0
  read_bytes (Err e) (Some ys) (Some zs) buffer_a buffer_b le_a le_b a b = (ap (λ (x : List ℕ). Some x) (a ∙ sym b), tt)
  read_bytes (Err e) None new_b buffer_a buffer_b le_a le_b a b = absurd a
  read_bytes (Err e) (Some ys) None buffer_a buffer_b le_a le_b a b = absurd b

  pub one_read : (answer : Result ℕ IoFault) (a b : AfterCall) → IsRead given failed answer a → IsRead given failed answer b → (a.bytes ≡ b.bytes) × (a.failures ≡ b.failures) × IfOk answer (λ n. take n a.buffer ≡ take n b.buffer)
  one_read answer a b x y =
      let e = read_bytes answer a.bytes b.bytes a.buffer b.buffer x.bound y.bound x.bytes y.bytes in
      (e.0, x.failures ∙ sym y.failures, e.1)

  written_bytes : (answer : Result ℕ IoFault) (new_a new_b : Option (List ℕ)) (buffer : List ℕ) → WriteAppends (Some given) new_a answer buffer → WriteAppends (Some given) new_b answer buffer → new_a ≡ new_b
  written_bytes (Ok n) (Some ys) (Some zs) buffer a b = ap (λ (x : List ℕ). Some x) (a ∙ sym b)
  written_bytes (Ok n) None new_b buffer a b = absurd a
  written_bytes (Ok n) (Some ys) None buffer a b = absurd b
  written_bytes (Err e) (Some ys) (Some zs) buffer a b = ap (λ (x : List ℕ). Some x) (a ∙ sym b)
  written_bytes (Err e) None new_b buffer a b = absurd a
  written_bytes (Err e) (Some ys) None buffer a b = absurd b

  pub one_write : (answer : Result ℕ IoFault) (a b : AfterCall) → a.buffer ≡ b.buffer → IsWritten given failed answer a → IsWritten given failed answer b → (a.bytes ≡ b.bytes) × (a.failures ≡ b.failures)
  one_write answer a b same x y =
      (written_bytes answer a.bytes b.bytes b.buffer (rw same at x.bytes) y.bytes, x.failures ∙ rw same (sym y.failures))
