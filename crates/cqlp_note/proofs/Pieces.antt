-- What is said of a field goes on over pieces.
use Rattle.std.proofs.Common.{◌≡◌, ℕ, ◌+◌, ◌-◌, ◌<◌, ◌≤◌, true, false, List, [], ◌∷◌, ◌++◌, length, take, drop, Result, Ok, Err, Some, None, refl, ap, ◌∙◌, inl, inr, append_assoc, arith}
use Rattle.std.proofs.lemmas.Bool.{cases_lt, lt-ltb, le-ltb}
use Rattle.std.proofs.lemmas.List.{take-append-le, drop-append-le, length-append, length-drop, length-take, length-take-le, take-append-drop, take_all, append-nil}
use Rattle.std.proofs.Math.Seq.{take-append-add, drop-append-add}
use Rattle.cqlp_note.specs.declared.refusal.Reason.TheVariants.{BadUtf8}
use Rattle.cqlp_note.specs.declared.head.Wanted.{Wanted}
use Rattle.cqlp_note.specs.declared.head.ContentForm.{ContentForm}
use Rattle.cqlp_note.specs.declared.head.ContentForm.TheVariants as form
use Rattle.cqlp_note.specs.declared.head.Head.{Head}
use Rattle.cqlp_note.specs.declared.head.Head.TheVariants as head
use Rattle.cqlp_note.specs.declared.head.Stop.{Stop}
use Rattle.cqlp_note.specs.declared.head.Stop.TheVariants as stop
use Rattle.cqlp_note.specs.Reader.{Said, Reader, Gives, Refuses, Takes, Idles, More, Bad, Got, says}
use Rattle.cqlp_note.specs.Field.{FieldValue}
use Rattle.cqlp_note.specs.declared.prim.Primitive.{Primitive}
use Rattle.cqlp_note.specs.declared.prim.Primitive.TheVariants as prim
use Rattle.cqlp_note.specs.declared.prim.BoundValue.TheVariants as bound
use Rattle.cqlp_note.specs.Head.{fixed_of, made, reader_of, value_of, HasNoContent, Determines}
use Rattle.cqlp_note.specs.declared.advance.FieldStage.{FieldStage}
use Rattle.cqlp_note.specs.declared.advance.FieldStage.TheVariants as stage
use Rattle.cqlp_note.specs.Partial.{HasContent, LeadsToContent, accepts, content_value, content_bytes, is_under_way, seen_of}
use Rattle.cqlp_note.specs.Field.{content_length, content_of}
use Rattle.cqlp_note.proofs.Fronts.{fixed_short, fixed_taken}

-- what a front determines, it determines whatever follows, if nothing follows one that is wanting
determines_on : (w : Wanted) (xs ys : List ℕ) (determined : Result Head Stop) → (length xs < 24 → ys ≡ []) → Determines w (reader_of w) 0 xs determined → Determines w (reader_of w) 0 (xs ++ ys) determined
determines_on w xs ys (Ok (head.Whole used v)) none h = (omega (arith, length-append xs ys, h.0), λ t. rw (append_assoc xs ys t) (h.1 (ys ++ t)), h.2)
determines_on w xs ys (Ok (head.Content behind len f)) none h =
    let front : behind - 0 ≤ length xs = omega (arith, h.2) in
    (h.0, omega arith, omega (arith, length-append xs ys, h.2), h.3, λ t. rw (append_assoc xs ys t, drop-append-le (behind - 0) xs ys front, append_assoc (drop (behind - 0) xs) ys t) (h.4 (ys ++ t)))
determines_on w xs ys (Err stop.Wanting) none h = rw (none (omega (arith, h.0, (fixed_short w.notation).1)), append-nil xs) h
determines_on w xs ys (Err (stop.Refused why)) none h = λ t. rw (append_assoc xs ys t) (h (ys ++ t))

length_none : (zs : List ℕ) → length zs ≡ 0 → zs ≡ []
length_none [] e = refl
length_none (z ∷ zs) e = absurd (omega arith)

no_more : (n : ℕ) (ys : List ℕ) → length ys ≤ n → drop n ys ≡ []
no_more n ys le = length_none (drop n ys) (omega (arith, length-drop n ys))

pub determines_pieces : (w : Wanted) (front input : List ℕ) (determined : Result Head Stop) → Determines w (reader_of w) 0 (front ++ take (24 - length front) input) determined → Determines w (reader_of w) 0 (front ++ input) determined
determines_pieces w front input determined h =
    let n = 24 - length front in
    let none : length (front ++ take n input) < 24 → drop n input ≡ [] = λ lt. elim (cases_lt (length input) n) [
      | inl short ↦ no_more n input (omega arith)
      | inr long ↦ absurd (omega (arith, length-append front (take n input), length-take-le n input long))
    ] in
    let all : (front ++ take n input) ++ drop n input ≡ front ++ input = append_assoc front (take n input) (drop n input) ∙ ap (λ (x : List ℕ). front ++ x) (take-append-drop n input) in
    rw all at (determines_on w (front ++ take n input) (drop n input) determined none h)

-- a value is given after the bytes taken
got_from : {A F : Type 0} (r : Reader A F) (taken : ℕ) (bytes : List ℕ) (v : A) (k : ℕ) → says r taken bytes ≡ Got v k → taken ≤ k
got_from (Gives w) taken bytes v k g = let e : taken ≡ k = cc in omega arith
got_from (Refuses why) taken bytes v k g = absurd cc
got_from Idles taken bytes v k g = absurd cc
got_from (Takes n next) taken bytes v k g = elim (cases_lt (length bytes) n) [
  | inl lt ↦ let no : ◌≡◌ {A = Said _ _} More (Got v k) = rw (lt-ltb _ _ lt) at g in absurd cc
  | inr le ↦ omega (arith, got_from (next (take n bytes)) (taken + n) (drop n bytes) v k (rw (le-ltb _ _ le) at g))
]

-- a value is given after all bytes that did not make one
pub got_beyond : {A F : Type 0} (r : Reader A F) (taken : ℕ) (bytes t : List ℕ) (v : A) (k : ℕ) → says r taken bytes ≡ More → says r taken (bytes ++ t) ≡ Got v k → taken + length bytes ≤ k
got_beyond (Gives w) taken bytes t v k m g = absurd cc
got_beyond (Refuses why) taken bytes t v k m g = absurd cc
got_beyond Idles taken bytes t v k m g = absurd cc
got_beyond (Takes n next) taken bytes t v k m g = elim (cases_lt (length bytes) n) [
  | inl lt ↦ elim (cases_lt (length (bytes ++ t)) n) [
    | inl less ↦ let no : ◌≡◌ {A = Said _ _} More (Got v k) = rw (lt-ltb _ _ less) at g in absurd cc
    | inr le ↦ omega (arith, got_from (next (take n (bytes ++ t))) (taken + n) (drop n (bytes ++ t)) v k (rw (le-ltb _ _ le) at g))
  ]
  | inr le ↦
      let enough : n ≤ length (bytes ++ t) = omega (arith, length-append bytes t) in
      let later = got_beyond (next (take n bytes)) (taken + n) (drop n bytes) t v k (rw (le-ltb _ _ le) at m) (rw (le-ltb _ _ enough, take-append-le n bytes t le, drop-append-le n bytes t le) at g) in
      omega (arith, later, length-drop n bytes)
]

-- ---- contents

gives : (f : ContentForm) (c : List ℕ) (k : ℕ) (rest : List ℕ) → accepts f c ≡ true → says (made f c) k rest ≡ Got (content_value f c) k
gives form.Text c k rest t = rw t
gives form.Bytes c k rest t = refl
gives form.Bound c k rest t = refl

refuses : (f : ContentForm) (c : List ℕ) (k : ℕ) (rest : List ℕ) → accepts f c ≡ false → says (made f c) k rest ≡ Bad BadUtf8
refuses form.Text c k rest t = rw t
refuses form.Bytes c k rest t = absurd cc
refuses form.Bound c k rest t = absurd cc

module _ (f : ContentForm) (len k : ℕ) (rest : List ℕ) where
  pub content_waits : length rest < len → says (Takes len (made f)) k rest ≡ More
  content_waits lt = rw (lt-ltb _ _ lt)

  pub content_got : len ≤ length rest → accepts f (take len rest) ≡ true → says (Takes len (made f)) k rest ≡ Got (content_value f (take len rest)) (k + len)
  content_got le t = rw (le-ltb _ _ le) (gives f (take len rest) _ _ t)

  pub content_bad : len ≤ length rest → accepts f (take len rest) ≡ false → says (Takes len (made f)) k rest ≡ Bad BadUtf8
  content_bad le t = rw (le-ltb _ _ le) (refuses f (take len rest) _ _ t)

-- what is said after a front, where a content of len bytes comes
module _ (w : Wanted) (seen input : List ℕ) (start len : ℕ) (f : ContentForm) (determined : (t : List ℕ) → says (reader_of w) 0 ((seen ++ input) ++ t) ≡ says (Takes len (made f)) (length seen + start) (drop start input ++ t)) where
  determined_now : says (reader_of w) 0 (seen ++ input) ≡ says (Takes len (made f)) (length seen + start) (drop start input)
  determined_now = rw (append-nil (seen ++ input), append-nil (drop start input)) at (determined [])

  pub whole_waits : length (drop start input) < len → says (reader_of w) 0 (seen ++ input) ≡ More
  whole_waits lt = determined_now ∙ content_waits f len _ _ lt

  pub whole_got : len ≤ length (drop start input) → accepts f (take len (drop start input)) ≡ true → says (reader_of w) 0 (seen ++ input) ≡ Got (content_value f (take len (drop start input))) (length seen + (start + len))
  whole_got le t =
      let count : (length seen + start) + len ≡ length seen + (start + len) = omega arith in
      rw (← count) (determined_now ∙ content_got f len (length seen + start) _ le t)

  pub whole_bad : len ≤ length (drop start input) → accepts f (take len (drop start input)) ≡ false → says (reader_of w) 0 (seen ++ input) ≡ Bad BadUtf8
  whole_bad le t = determined_now ∙ content_bad f len _ _ le t

pub seen_is_front : (s : FieldStage) (front content : List ℕ) → is_under_way s ≡ true → content ≡ [] → seen_of s front content ≡ front
seen_is_front stage.Idle front content u e = absurd cc
seen_is_front stage.Front front content u e = refl
seen_is_front (stage.Content len f) front content u e = rw (e, append-nil front) refl

-- the front of a split content and the rest of the input
pub split_all : (front input : List ℕ) (start : ℕ) → start ≤ length input → length front + start ≤ 24 → (front ++ take (24 - length front) (take start input)) ++ drop start input ≡ front ++ input
split_all front input start le short =
    let size : length (take start input) ≡ start = length-take-le start input le in
    let all : take (24 - length front) (take start input) ≡ take start input = take_all (24 - length front) (take start input) (omega arith) in
    rw (all, append_assoc front (take start input) (drop start input), take-append-drop start input) refl

-- so the content goes on after that front
pub split_goes_on : (w : Wanted) (seen input : List ℕ) (start len : ℕ) (f : ContentForm) (front content : List ℕ)
    → ((t : List ℕ) → says (reader_of w) 0 ((seen ++ input) ++ t) ≡ says (Takes len (made f)) (length seen + start) (drop start input ++ t))
    → start ≤ length input → length seen + start ≤ 24 → front ≡ seen ++ take (24 - length seen) (take start input) → content ≡ drop start input
    → (t : List ℕ) → says (reader_of w) 0 ((front ++ content) ++ t) ≡ says (Takes len (made f)) (length front) (content ++ t)
split_goes_on w seen input start len f front content determined le short is rest t =
    let all : front ++ content ≡ seen ++ input = rw (is, rest) (split_all seen input start le short) in
    let size : length (take start input) ≡ start = length-take-le start input le in
    let whole : take (24 - length seen) (take start input) ≡ take start input = take_all (24 - length seen) (take start input) (omega arith) in
    let long : length front ≡ length seen + start = rw (is, whole) (omega (arith, length-append seen (take start input))) in
    rw (all, long, rest) (determined t)

pub front_fits : (front input : List ℕ) (start : ℕ) → start ≤ length input → length front + start ≤ 24 → length (front ++ take (24 - length front) (take start input)) ≤ 24
front_fits front input start le short =
    let size : length (take start input) ≡ start = length-take-le start input le in
    let all : take (24 - length front) (take start input) ≡ take start input = take_all (24 - length front) (take start input) (omega arith) in
    rw all (omega (arith, length-append front (take start input)))

-- ---- what the buffer holds of a field that goes on

pub kept_first : (front input : List ℕ) (start n : ℕ) → length front + start ≡ n → drop start input ≡ drop n (front ++ input)
kept_first front input start n is = rw (← is, drop-append-add front input start) refl

-- a value that has no content
pub no_content : (v : Primitive) → HasNoContent v → content_length (value_of v) ≡ 0
no_content (prim.Byte n) none = refl
no_content (prim.Short n) none = refl
no_content (prim.Int z) none = refl
no_content (prim.Long z) none = refl
no_content (prim.Uuid c) none = refl
no_content (prim.Count n) none = refl
no_content (prim.Text s) none = absurd none
no_content (prim.Bytes None) none = refl
no_content (prim.Bytes (Some c)) none = absurd none
no_content (prim.Bound bound.Null) none = refl
no_content (prim.Bound bound.Unset) none = refl
no_content (prim.Bound (bound.Bytes c)) none = absurd none
no_content (prim.Inet a z) none = refl

pub same_content : (f : ContentForm) (c : List ℕ) → c ≡ content_bytes (content_value f c)
same_content form.Text c = refl
same_content form.Bytes c = refl
same_content form.Bound c = refl

-- ---- after a front that came before

module _ (w : Wanted) (front input : List ℕ) where
  pub whole_beyond : (v : FieldValue) (k : ℕ) → (0 < length front → says (reader_of w) 0 front ≡ More) → ((t : List ℕ) → says (reader_of w) 0 ((front ++ input) ++ t) ≡ Got v k) → length front ≤ k
  whole_beyond v k more determined =
      let now : says (reader_of w) 0 (front ++ input) ≡ Got v k = rw (append-nil (front ++ input)) at (determined []) in
      elim (cases_lt 0 (length front)) [
        | inl lt ↦ omega (arith, got_beyond (reader_of w) 0 front input v k (more lt) now)
        | inr le ↦ omega arith
      ]

  pub whole_now : (v : FieldValue) (k : ℕ) → length front ≤ k → ((t : List ℕ) → says (reader_of w) 0 ((front ++ input) ++ t) ≡ Got v k) → says (reader_of w) 0 (front ++ input) ≡ Got v (length front + (k - length front))
  whole_now v k le determined =
      let count : length front + (k - length front) ≡ k = omega arith in
      rw count (rw (append-nil (front ++ input)) at (determined []))

  pub content_front : (behind len : ℕ) (f : ContentForm) → length front ≤ behind
      → ((t : List ℕ) → says (reader_of w) 0 ((front ++ input) ++ t) ≡ says (Takes len (made f)) behind (drop (behind - 0) (front ++ input) ++ t))
      → (t : List ℕ) → says (reader_of w) 0 ((front ++ input) ++ t) ≡ says (Takes len (made f)) (length front + (behind - length front)) (drop (behind - length front) input ++ t)
  content_front behind len f le determined t =
      let count : length front + (behind - length front) ≡ behind = omega arith in
      let zero : behind - 0 ≡ length front + (behind - length front) = omega arith in
      rw count (rw (zero, drop-append-add front input (behind - length front)) at (determined t))

-- ---- contents in pieces

module _ (w : Wanted) (front content input : List ℕ) (len : ℕ) (f : ContentForm) (determined : (t : List ℕ) → says (reader_of w) 0 ((front ++ content) ++ t) ≡ says (Takes len (made f)) (length front) (content ++ t)) (less : length content < len) (enough : len - length content ≤ length input) where
  pub gathered_len : length (content ++ take (len - length content) input) ≡ len
  gathered_len = omega (arith, length-append content (take (len - length content) input), length-take-le (len - length content) input enough)

  gathered_is : take len (content ++ input) ≡ content ++ take (len - length content) input
  gathered_is =
      let count : length content + (len - length content) ≡ len = omega arith in
      rw count at (take-append-add content input (len - length content))

  gathered_used : length front + len ≡ length (front ++ content) + (len - length content)
  gathered_used = omega (arith, length-append front content)

  pub gathered_got : accepts f (content ++ take (len - length content) input) ≡ true → says (reader_of w) 0 ((front ++ content) ++ input) ≡ Got (content_value f (content ++ take (len - length content) input)) (length (front ++ content) + (len - length content))
  gathered_got t =
      let all : len ≤ length (content ++ input) = omega (arith, length-append content input) in
      let got = content_got f len (length front) (content ++ input) all (rw gathered_is t) in
      rw (← gathered_used, ← gathered_is) (determined input ∙ got)

  pub gathered_bad : accepts f (content ++ take (len - length content) input) ≡ false → says (reader_of w) 0 ((front ++ content) ++ input) ≡ Bad BadUtf8
  gathered_bad t =
      let all : len ≤ length (content ++ input) = omega (arith, length-append content input) in
      determined input ∙ content_bad f len (length front) (content ++ input) all (rw gathered_is t)

pub content_size : (f : ContentForm) (c : List ℕ) → content_length (content_value f c) ≡ length c
content_size form.Text c = refl
content_size form.Bytes c = refl
content_size form.Bound c = refl

-- a content that lies whole in the bytes used is not in the buffer
pub whole_lent : (f : ContentForm) (len start : ℕ) (rest buffer : List ℕ) → start + len < content_length (content_value f (take len rest)) → buffer ≡ content_bytes (content_value f (take len rest))
whole_lent f len start rest buffer lt = absurd (omega (arith, rw content_size at lt, length-take len rest))

-- a content that lies whole in the bytes
pub content_is : (w : Wanted) (bytes : List ℕ) (start len : ℕ) (f : ContentForm) → LeadsToContent w.notation bytes start len f → HasContent w bytes start len f
    → says (reader_of w) 0 bytes ≡ Got (content_value f (take len (drop start bytes))) (start + len)
unfolding content_of
content_is w bytes start len f leads has =
    let n = w.notation in
    let leads_on = rw leads.1 at (leads.2 w.limit w.room) in
    let fixed : fixed_of n ≤ w.room = omega (arith, leads.1, has.1) in
    let long : fixed_of n ≤ length bytes = omega (arith, leads.1, has.2) in
    let now = rw (append-nil bytes, append-nil (drop (fixed_of n) bytes), leads_on, ← leads.1) at (fixed_taken n w.limit w.room bytes fixed long []) in
    let enough : len ≤ length (drop start bytes) = omega (arith, has.2, length-drop start bytes) in
    now ∙ rw (le-ltb w.room (start + len) has.1, le-ltb w.limit len has.0) (content_got f len start (drop start bytes) enough has.3)

-- what `&input[start..]` is
pub rest_is : (input : List ℕ) (start : ℕ) → take (length input - start) (drop start input) ≡ drop start input
rest_is input start = take_all (length input - start) (drop start input) (omega (arith, length-drop start input))

-- what the reading of a content out of pieces rests on
pub ruleset of_contents = (whole_bad, seen_is_front, split_goes_on, rest_is, front_fits)
