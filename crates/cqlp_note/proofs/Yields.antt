-- Readers made of readers.
use Rattle.std.proofs.Common.{◌≡◌, ℕ, ◌+◌, ◌-◌, ◌≤◌, cond, eqb, ltb, ◌||◌, List, [], ◌++◌, length, take, drop, refl, sym, ap, ◌∙◌, inl, inr, append_assoc, arith}
use Rattle.std.specs.Int.{Width, w8, w16, w32, w64, from_be_bytes}
use Rattle.std.specs.Str.{is_utf8}
use Rattle.std.proofs.Math.Seq.{take-append-add}
use Rattle.std.proofs.lemmas.Bool.{cases_lt, lt-ltb, le-ltb, ltb-false}
use Rattle.std.proofs.lemmas.List.{append-nil, take_at, drop_at, length-append, length-take-le, take-append-drop, drop-drop}
use Rattle.cqlp_note.specs.declared.field.Notation.{Notation}
use Rattle.cqlp_note.specs.declared.field.Notation.TheVariants as notation
use Rattle.cqlp_note.specs.declared.refusal.Reason.{Reason}
use Rattle.cqlp_note.specs.declared.refusal.Reason.TheVariants.{Overrun, TooLong}
use Rattle.cqlp_note.specs.Reader.{Said, More, Got, Bad, Reader, Gives, Refuses, Takes, Idles, says, number_of}
use Rattle.cqlp_note.specs.Field.{FieldValue, FieldReader, content_of, field_of, is_negative, text_of}
use Rattle.cqlp_note.specs.Step.{Emitted, Step, map_step, after_field}
use Rattle.cqlp_note.proofs.Readers.{Always, says_always}
use Rattle.cqlp_note.proofs.Fields.{either_always}

-- A reader takes all of these bytes and gives this value.
abbrev pub Yields : {A F : Type 0} → Reader A F → A → List ℕ → Type 0
Yields (Gives w) v b = (w ≡ v) × (b ≡ [])
Yields (Refuses why) v b = ⊥
Yields Idles v b = ⊥
Yields (Takes n next) v b = (c : List ℕ) × (more : List ℕ) × (length c ≡ n) × (b ≡ c ++ more) × Yields (next c) v more

pub yields_says : {A F : Type 0} (r : Reader A F) (taken : ℕ) (v : A) (b rest : List ℕ) → Yields r v b → says r taken (b ++ rest) ≡ Got v (taken + length b)
yields_says (Gives w) taken v b rest y =
    let none : taken + length b ≡ taken = rw y.1 (omega arith) in
    rw (none, y.0)
yields_says (Refuses why) taken v b rest y = absurd y
yields_says Idles taken v b rest y = absurd y
yields_says (Takes n next) taken v b rest y =
    let is : b ++ rest ≡ y.0 ++ (y.1 ++ rest) = rw (y.3, append_assoc) in
    let enough : n ≤ length (b ++ rest) = rw is (omega (arith, length-append y.0 (y.1 ++ rest), y.2)) in
    let count : taken + length b ≡ (taken + n) + length y.1 = rw y.3 (omega (arith, length-append y.0 y.1, y.2)) in
    rw (le-ltb _ _ enough, is, take_at y.0 (y.1 ++ rest) n y.2, drop_at y.0 (y.1 ++ rest) n y.2, count) (yields_says (next y.0) (taken + n) v y.1 rest y.4)

pub says_yields : {A F : Type 0} (r : Reader A F) (taken : ℕ) (v : A) (k : ℕ) (bytes : List ℕ) → says r taken bytes ≡ Got v k
    → (b : List ℕ) × (rest : List ℕ) × (bytes ≡ b ++ rest) × (k ≡ taken + length b) × Yields r v b
says_yields (Gives w) taken v k bytes s = let e : taken ≡ k = cc in ([], bytes, refl, omega arith, (cc, refl))
says_yields (Refuses why) taken v k bytes s = absurd cc
says_yields Idles taken v k bytes s = absurd cc
says_yields (Takes n next) taken v k bytes s = elim (cases_lt (length bytes) n) [
  | inl lt ↦ let no : ◌≡◌ {A = Said _ _} More (Got v k) = rw (lt-ltb _ _ lt) at s in absurd cc
  | inr le ↦
      let long : length (take n bytes) ≡ n = length-take-le n bytes le in
      let y = says_yields (next (take n bytes)) (taken + n) v k (drop n bytes) (rw (le-ltb _ _ le) at s) in
      let is : bytes ≡ (take n bytes ++ y.0) ++ y.1 = sym (take-append-drop n bytes) ∙ ap (λ (x : List ℕ). take n bytes ++ x) y.2 ∙ sym (append_assoc (take n bytes) y.0 y.1) in
      (take n bytes ++ y.0, y.1, is, omega (arith, y.3, length-append (take n bytes) y.0), (take n bytes, y.0, long, refl, y.4))
]

abbrev pub map_said : {E P F Q : Type 0} → (E → F) → (P → Q) → Said (Emitted E P) (ℕ × Reason) → Said (Emitted F Q) (ℕ × Reason)
map_said f g More = More
map_said f g (Bad fault) = Bad fault
map_said f g (Got x k) = Got (record { at = x.at; event = f x.event; after = λ used. g (x.after used) }) k

pub says_map : {E P F Q : Type 0} (f : E → F) (g : P → Q) (r : Step E P) (taken : ℕ) (bytes : List ℕ) → says (map_step f g r) taken bytes ≡ map_said f g (says r taken bytes)
says_map f g (Gives x) taken bytes = refl
says_map f g (Refuses why) taken bytes = refl
says_map f g Idles taken bytes = refl
says_map f g (Takes n next) taken bytes = elim (cases_lt (length bytes) n) [
  | inl lt ↦ rw (lt-ltb _ _ lt)
  | inr le ↦ rw (le-ltb _ _ le) (says_map f g (next (take n bytes)) (taken + n) (drop n bytes))
]

-- Once a field is got, what follows it goes by what is after it.
pub after_got : {E P : Type 0} (at : ℕ) (r : FieldReader) (next : FieldValue → Step E P) (taken : ℕ) (bytes : List ℕ) (v : FieldValue) (k : ℕ) → says r taken bytes ≡ Got v k
    → (taken ≤ k) × (says (after_field at r next) taken bytes ≡ says (next v) k (drop (k - taken) bytes))
after_got at (Gives w) next taken bytes v k s =
    let a : w ≡ v = cc in
    let b : taken ≡ k = cc in
    let none : k - taken ≡ 0 = omega arith in
    (omega arith, rw (none, a, b))
after_got at (Refuses why) next taken bytes v k s = absurd cc
after_got at Idles next taken bytes v k s = absurd cc
after_got at (Takes n f) next taken bytes v k s = elim (cases_lt (length bytes) n) [
  | inl lt ↦ let no : ◌≡◌ {A = Said FieldValue Reason} More (Got v k) = rw (lt-ltb _ _ lt) at s in absurd cc
  | inr le ↦
      let later = after_got at (f (take n bytes)) next (taken + n) (drop n bytes) v k (rw (le-ltb _ _ le) at s) in
      let both : n + (k - (taken + n)) ≡ k - taken = omega (arith, later.0) in
      (omega (arith, later.0), rw (le-ltb _ _ le) (later.1 ∙ rw (drop-drop (k - (taken + n)) n bytes, both)))
]

-- While a field waits, what follows it waits; and a fault of the field is one of the whole, at its first byte.
pub after_more : {E P : Type 0} (at : ℕ) (r : FieldReader) (next : FieldValue → Step E P) (taken : ℕ) (bytes : List ℕ) → says r taken bytes ≡ More → says (after_field at r next) taken bytes ≡ More
after_more at (Gives w) next taken bytes s = absurd cc
after_more at (Refuses why) next taken bytes s = absurd cc
after_more at Idles next taken bytes s = refl
after_more at (Takes n f) next taken bytes s = elim (cases_lt (length bytes) n) [
  | inl lt ↦ rw (lt-ltb _ _ lt) refl
  | inr le ↦ rw (le-ltb _ _ le) (after_more at (f (take n bytes)) next (taken + n) (drop n bytes) (rw (le-ltb _ _ le) at s))
]

pub after_bad : {E P : Type 0} (at : ℕ) (r : FieldReader) (next : FieldValue → Step E P) (taken : ℕ) (bytes : List ℕ) (why : Reason) → says r taken bytes ≡ Bad why → says (after_field at r next) taken bytes ≡ Bad (at, why)
after_bad at (Gives w) next taken bytes why s = absurd cc
after_bad at (Refuses what) next taken bytes why s = let e : what ≡ why = cc in rw e refl
after_bad at Idles next taken bytes why s = absurd cc
after_bad at (Takes n f) next taken bytes why s = elim (cases_lt (length bytes) n) [
  | inl lt ↦ let no : ◌≡◌ {A = Said FieldValue Reason} More (Bad why) = rw (lt-ltb _ _ lt) at s in absurd cc
  | inr le ↦ rw (le-ltb _ _ le) (after_bad at (f (take n bytes)) next (taken + n) (drop n bytes) why (rw (le-ltb _ _ le) at s))
]

yields_all : {A F : Type 0} (r : Reader A F) (v : A) (k : ℕ) (bytes b : List ℕ) → bytes ≡ b ++ [] → k ≡ 0 + length b → Yields r v b → says r 0 bytes ≡ Got v k
yields_all r v k bytes b same long y = rw (same, long) (yields_says r 0 v b [] y)

-- only the bytes that a value takes matter
pub says_exact : {A F : Type 0} (r : Reader A F) (b input : List ℕ) (v : A) (used : ℕ) → says r 0 (b ++ input) ≡ Got v (length b + used) → says r 0 (b ++ take used input) ≡ Got v (length b + used)
says_exact r b input v used s =
    let y = says_yields r 0 v (length b + used) (b ++ input) s in
    let long : length y.0 ≡ length b + used = omega (arith, y.3) in
    let same : b ++ take used input ≡ y.0 ++ [] = sym (take-append-add b input used) ∙ ap (λ (x : List ℕ). take (length b + used) x) y.2 ∙ take_at y.0 y.1 (length b + used) long ∙ sym (append-nil y.0) in
    yields_all r v (length b + used) (b ++ take used input) y.0 same y.3 y.4

pub emitted_is : {E P : Type 0} (x : Emitted E P) (at : ℕ) (e : E) → x.at ≡ at → x.event ≡ e → x ≡ record { at = at; event = e; after = x.after }
emitted_is x at e p q = λ i. record { at = p i; event = q i; after = x.after }

-- no more bytes than the container has
abbrev Inside : (room : ℕ) → FieldValue → List ℕ → Type 0
Inside room v bytes = length bytes ≤ room

module _ (room : ℕ) where
  number_inside : (n : ℕ) (w : Width) (f : ℕ → FieldReader) → ((m : ℕ) (c : List ℕ) → length c ≡ n → n ≤ room → Always (Inside room) (f m) c) → Always (Inside room) (number_of Overrun n w room f) []
  unfolding number_of
  number_inside n w f p = either_always (Inside room) [] (ltb room n) (Refuses Overrun) (Takes n (λ b. f (from_be_bytes w b))) (λ _. tt) (λ t c long. p (from_be_bytes w c) c long (omega (arith, ltb-false _ _ t)))

  content_inside : (k n limit : ℕ) (head : List ℕ) (f : List ℕ → FieldReader) → length head ≡ k → ((c b : List ℕ) → length b ≤ room → Always (Inside room) (f c) b) → Always (Inside room) (content_of k n limit room f) head
  unfolding content_of
  content_inside k n limit head f long p =
      either_always (Inside room) head (ltb room (k + n)) (Refuses Overrun) (cond (ltb limit n) (Refuses TooLong) (Takes n f)) (λ _. tt) (λ t.
      either_always (Inside room) head (ltb limit n) (Refuses TooLong) (Takes n f) (λ _. tt) (λ _ c size. p c (head ++ c) (omega (arith, ltb-false _ _ t, length-append head c, long, size))))

  number_alone : (n : ℕ) (w : Width) (f : ℕ → FieldValue) → Always (Inside room) (number_of Overrun n w room (λ m. Gives (f m))) []
  number_alone n w f = number_inside n w (λ m. Gives (f m)) (λ m c long le. omega arith)

  text_inside : (c b : List ℕ) → length b ≤ room → Always (Inside room) (text_of c) b
  text_inside c b le = either_always (Inside room) b (is_utf8 c) _ _ (λ _. le) (λ _. tt)

  field_inside : (n : Notation) (limit : ℕ) → Always (Inside room) (field_of n limit room) []
  unfolding field_of
  field_inside notation.Byte limit = number_alone 1 w8 _
  field_inside notation.Short limit = number_alone 2 w16 _
  field_inside notation.Int limit = number_alone 4 w32 _
  field_inside notation.Long limit = number_alone 8 w64 _
  field_inside notation.Uuid limit = either_always (Inside room) [] (ltb room 16) _ _ (λ _. tt) (λ t c long. omega (arith, ltb-false _ _ t))
  field_inside notation.Count16 limit = number_alone 2 w16 _
  field_inside notation.Count32 limit = number_inside 4 w32 _ (λ m c long le. either_always (Inside room) c (is_negative m) _ _ (λ _. tt) (λ _. omega arith))
  field_inside notation.Text16 limit = number_inside 2 w16 _ (λ m c long le. content_inside 2 m limit c _ long text_inside)
  field_inside notation.Text32 limit = number_inside 4 w32 _ (λ m c long le. either_always (Inside room) c (is_negative m) _ _ (λ _. tt) (λ _. content_inside 4 m limit c _ long text_inside))
  field_inside notation.Bytes16 limit = number_inside 2 w16 _ (λ m c long le. content_inside 2 m limit c _ long (λ _ _ fits. fits))
  field_inside notation.Bytes32 limit = number_inside 4 w32 _ (λ m c long le. either_always (Inside room) c (is_negative m) _ _ (λ _. omega arith) (λ _. content_inside 4 m limit c _ long (λ _ _ fits. fits)))
  field_inside notation.Bound limit = number_inside 4 w32 _ (λ m c long le.
      either_always (Inside room) c (eqb m 0xFFFFFFFF) _ _ (λ _. omega arith) (λ _.
      either_always (Inside room) c (eqb m 0xFFFFFFFE) _ _ (λ _. omega arith) (λ _.
      either_always (Inside room) c (is_negative m) _ _ (λ _. tt) (λ _. content_inside 4 m limit c _ long (λ _ _ fits. fits)))))
  field_inside notation.Inet limit = number_inside 1 w8 _ (λ m c long le.
      either_always (Inside room) c (eqb m 4 || eqb m 16) _ _ (λ _.
      either_always (Inside room) c (ltb room (m + 5)) _ _ (λ _. tt) (λ t a la b lb. omega (arith, ltb-false _ _ t, length-append (c ++ a) b, length-append c a))) (λ _. tt))
  field_inside (notation.Content n) limit = content_inside 0 n limit [] _ refl (λ _ _ fits. fits)

-- A field ends within its container.
pub got_inside : (n : Notation) (limit room : ℕ) (bytes : List ℕ) (v : FieldValue) (k : ℕ) → says (field_of n limit room) 0 bytes ≡ Got v k → k ≤ length bytes → k ≤ room
got_inside n limit room bytes v k s le =
    let r = says_always (Inside room) (field_of n limit room) [] bytes v k (field_inside room n limit) s in
    let long : length (take k bytes) ≡ k = length-take-le k bytes le in
    let within : length (take k bytes) ≤ room = let none : k - length {A = ℕ} [] ≡ k = omega arith in rw none at r.1 in
    omega arith
