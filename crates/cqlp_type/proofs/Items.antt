-- What is said of an option's next item, by what is said of the field that it is.
use Rattle.std.proofs.Common.{◌≡◌, ℕ, ◌+◌, ◌-◌, ◌≤◌, Bool, true, false, cond, ltb, List, [], ◌∷◌, ◌++◌, length, take, drop, refl, inl, inr, arith}
use Rattle.std.specs.Int.{w16, from_be_bytes}
use Rattle.std.specs.Str.{is_utf8}
use Rattle.std.proofs.lemmas.Bool.{cases_lt, lt-ltb, le-ltb, ltb-false}
use Rattle.std.proofs.lemmas.List.{length-drop}
use Rattle.cqlp_note.specs.declared.field.Notation.TheVariants as notation
use Rattle.cqlp_note.specs.declared.field.Field.{Field}
use Rattle.cqlp_note.specs.declared.field.Field.TheVariants as field
use Rattle.cqlp_note.specs.declared.refusal.Reason.{Reason}
use Rattle.cqlp_note.specs.declared.refusal.Reason.TheVariants.{Overrun}
use Rattle.cqlp_note.specs.Reader.{Said, More, Bad, Got, Reader, Gives, Refuses, Takes, Idles, says, number_of}
use Rattle.cqlp_note.specs.Field.{FieldValue, Short, Count, FieldReader, field_of, content_of, text_of}
use Rattle.cqlp_note.specs.Step.{Emit, Emitted}
use Rattle.cqlp_note.specs.Limits.{Rules, limit_of}
use Rattle.cqlp_note.specs.Heading.{beside_number}
use Rattle.cqlp_note.proofs.Yields.{says_yields, after_more, after_bad, after_got}
use Rattle.cqlp_kind.specs.Types.{kinds}
use Rattle.cqlp_kind.specs.TypeStep.{TypeSymbol, Option_at, Text_of, Fields_of, Whole, TypeEvent, IsField, TypePlace, symbol_copies, inner_symbols, with_arity, settled, type_place, kind_or_lenient, option_step, count_in, type_step_at}
use Rattle.cqlp_type.specs.Remaining.{short_in, item_step}
use Rattle.cqlp_type.specs.Progress.{notation_of}

-- ---- a [short], and what goes by its number

module _ {A F : Type 0} (fault : F) (limit room : ℕ) (next : ℕ → Reader A F) (bytes : List ℕ) where
  pub short_more : says (field_of notation.Short limit room) 0 bytes ≡ More → says (number_of fault 2 w16 room next) 0 bytes ≡ More
  unfolding field_of number_of
  short_more s = elim (cases_lt room 2) [
    | inl lt ↦ let no : ◌≡◌ {A = Said FieldValue Reason} (Bad Overrun) More = rw (lt-ltb _ _ lt) at s in absurd cc
    | inr le ↦ elim (cases_lt (length bytes) 2) [
      | inl few ↦ rw (le-ltb _ _ le, lt-ltb _ _ few) refl
      | inr enough ↦ let no : ◌≡◌ {A = Said FieldValue Reason} (Got (Short (from_be_bytes w16 (take 2 bytes))) 2) More = rw (le-ltb _ _ le, le-ltb _ _ enough) at s in absurd cc
    ]
  ]

  pub short_bad : (why : Reason) → says (field_of notation.Short limit room) 0 bytes ≡ Bad why → (why ≡ Overrun) × (says (number_of fault 2 w16 room next) 0 bytes ≡ Bad fault)
  unfolding field_of number_of
  short_bad why s = elim (cases_lt room 2) [
    | inl lt ↦ let e : ◌≡◌ {A = Said FieldValue Reason} (Bad Overrun) (Bad why) = rw (lt-ltb _ _ lt) at s in (cc, rw (lt-ltb _ _ lt) refl)
    | inr le ↦ elim (cases_lt (length bytes) 2) [
      | inl few ↦ let no : ◌≡◌ {A = Said FieldValue Reason} More (Bad why) = rw (le-ltb _ _ le, lt-ltb _ _ few) at s in absurd cc
      | inr enough ↦ let no : ◌≡◌ {A = Said FieldValue Reason} (Got (Short (from_be_bytes w16 (take 2 bytes))) 2) (Bad why) = rw (le-ltb _ _ le, le-ltb _ _ enough) at s in absurd cc
    ]
  ]

  pub short_got : (v : FieldValue) (k : ℕ) → says (field_of notation.Short limit room) 0 bytes ≡ Got v k → (v ≡ Short (short_in v)) × (k ≡ 2) × (says (number_of fault 2 w16 room next) 0 bytes ≡ says (next (short_in v)) k (drop k bytes))
  unfolding field_of number_of
  short_got v k s = elim (cases_lt room 2) [
    | inl lt ↦ let no : ◌≡◌ {A = Said FieldValue Reason} (Bad Overrun) (Got v k) = rw (lt-ltb _ _ lt) at s in absurd cc
    | inr le ↦ elim (cases_lt (length bytes) 2) [
      | inl few ↦ let no : ◌≡◌ {A = Said FieldValue Reason} More (Got v k) = rw (le-ltb _ _ le, lt-ltb _ _ few) at s in absurd cc
      | inr enough ↦
          let e : ◌≡◌ {A = Said FieldValue Reason} (Got (Short (from_be_bytes w16 (take 2 bytes))) 2) (Got v k) = rw (le-ltb _ _ le, le-ltb _ _ enough) at s in
          let is : Short (from_be_bytes w16 (take 2 bytes)) ≡ v = cc in
          let two : 2 ≡ k = cc in
          rw (← is, ← two) (refl, refl, rw (le-ltb _ _ le, le-ltb _ _ enough) refl)
    ]
  ]

-- ---- an item

module _ (l : Rules) (p : TypePlace) (bytes : List ℕ) where
  abbrev reader : TypeSymbol → FieldReader
  reader s = field_of (notation_of s) (limit_of l (notation_of s)) (p.stop - p.offset)

  -- it is read
  abbrev pub IsRead : List TypeSymbol → Type 0
  IsRead [] = ⊥
  IsRead (Whole i ∷ ss) = ⊥
  IsRead (s ∷ ss) = Unit {0}

  abbrev pub field_says : List TypeSymbol → Said FieldValue Reason
  field_says [] = More
  field_says (s ∷ ss) = says (reader s) 0 bytes

  abbrev counted : (named : Bool) (depth : ℕ) (rest : List TypeSymbol) (v : FieldValue) → Reader (Emitted TypeEvent TypePlace) (ℕ × Reason)
  counted named depth rest v = Emit p.offset (IsField field.Fields v) (type_place p (settled (symbol_copies (count_in v) (inner_symbols named depth) ++ rest) (with_arity (count_in v) p.nodes)))

  abbrev text : (f : Field) (rest : List TypeSymbol) (v : FieldValue) → Reader (Emitted TypeEvent TypePlace) (ℕ × Reason)
  text f rest v = Emit p.offset (IsField f v) (type_place p (settled rest p.nodes))

  abbrev room : ℕ
  room = p.stop - p.offset

  pub item_waits : (ss : List TypeSymbol) → IsRead ss → field_says ss ≡ More → says (type_step_at l p ss) 0 bytes ≡ More
  unfolding field_of number_of
  item_waits [] r s = absurd r
  item_waits (Option_at depth ∷ rest) r s = short_more (p.offset, Overrun) 0 room (λ n. option_step l depth rest p (kind_or_lenient (beside_number n kinds) l.lenient)) bytes s
  item_waits (Text_of f ∷ rest) r s = after_more p.offset (field_of notation.Text16 l.text room) (text f rest) 0 bytes s
  item_waits (Fields_of named depth ∷ rest) r s = after_more p.offset (field_of notation.Count16 0 room) (counted named depth rest) 0 bytes (short_more Overrun 0 room (λ n. Gives (Count n)) bytes s)
  item_waits (Whole i ∷ rest) r s = absurd r

  pub item_fails : (ss : List TypeSymbol) (why : Reason) → IsRead ss → field_says ss ≡ Bad why → says (type_step_at l p ss) 0 bytes ≡ Bad (p.offset, why)
  unfolding field_of number_of
  item_fails [] why r s = absurd r
  item_fails (Option_at depth ∷ rest) why r s = let b = short_bad (p.offset, Overrun) 0 room (λ n. option_step l depth rest p (kind_or_lenient (beside_number n kinds) l.lenient)) bytes why s in rw b.0 b.1
  item_fails (Text_of f ∷ rest) why r s = after_bad p.offset (field_of notation.Text16 l.text room) (text f rest) 0 bytes why s
  item_fails (Fields_of named depth ∷ rest) why r s = let b = short_bad Overrun 0 room (λ n. Gives (Count n)) bytes why s in after_bad p.offset (field_of notation.Count16 0 room) (counted named depth rest) 0 bytes why (rw b.0 b.1)
  item_fails (Whole i ∷ rest) why r s = absurd r

  pub item_gives : (ss : List TypeSymbol) (v : FieldValue) (k : ℕ) → IsRead ss → field_says ss ≡ Got v k → says (type_step_at l p ss) 0 bytes ≡ says (item_step l p ss v) k (drop k bytes)
  unfolding field_of number_of
  item_gives [] v k r s = absurd r
  item_gives (Option_at depth ∷ rest) v k r s = (short_got (p.offset, Overrun) 0 room (λ n. option_step l depth rest p (kind_or_lenient (beside_number n kinds) l.lenient)) bytes v k s).2
  item_gives (Text_of f ∷ rest) v k r s = (after_got p.offset (field_of notation.Text16 l.text room) (text f rest) 0 bytes v k s).1
  item_gives (Fields_of named depth ∷ rest) v k r s =
      let g = short_got Overrun 0 room (λ n. Gives (Count n)) bytes v k s in
      (after_got p.offset (field_of notation.Count16 0 room) (counted named depth rest) 0 bytes (Count (short_in v)) k g.2).1
  item_gives (Whole i ∷ rest) v k r s = absurd r

-- ---- an item and its container

module _ (room : ℕ) where
  -- no byte past the container is waited for
  abbrev Holds : {A F : Type 0} → Reader A F → (taken : ℕ) → Type 0
  Holds (Gives v) taken = Unit {0}
  Holds (Refuses why) taken = Unit {0}
  Holds (Takes n next) taken = (taken + n ≤ room) × ((c : List ℕ) → Holds (next c) (taken + n))
  Holds Idles taken = ⊥

  holds_waiting : {A F : Type 0} (r : Reader A F) (taken : ℕ) (bytes : List ℕ) → Holds r taken → says r taken bytes ≡ More → taken + length bytes ≤ room
  holds_waiting (Gives v) taken bytes h s = absurd cc
  holds_waiting (Refuses why) taken bytes h s = absurd cc
  holds_waiting Idles taken bytes h s = absurd h
  holds_waiting (Takes n next) taken bytes h s = elim (cases_lt (length bytes) n) [
    | inl lt ↦ omega (arith, h.0)
    | inr le ↦ omega (arith, holds_waiting (next (take n bytes)) (taken + n) (drop n bytes) (h.1 (take n bytes)) (rw (le-ltb _ _ le) at s), length-drop n bytes)
  ]

  either_holds : {A F : Type 0} (taken : ℕ) (t : Bool) (a b : Reader A F) → (t ≡ true → Holds a taken) → (t ≡ false → Holds b taken) → Holds (cond t a b) taken
  either_holds taken true a b p q = p refl
  either_holds taken false a b p q = q refl

  text_holds : (limit n : ℕ) → Holds (content_of 2 n limit room text_of) 2
  unfolding content_of
  text_holds limit n = either_holds 2 (ltb room (2 + n)) _ _ (λ _. tt) (λ t. either_holds 2 (ltb limit n) _ _ (λ _. tt) (λ _. (omega (arith, ltb-false _ _ t), λ c. either_holds (2 + n) (is_utf8 c) _ _ (λ _. tt) (λ _. tt))))

  item_holds : (s : TypeSymbol) (limit : ℕ) → Holds (field_of (notation_of s) limit room) 0
  unfolding field_of number_of
  item_holds (Text_of f) limit = either_holds 0 (ltb room 2) _ _ (λ _. tt) (λ t. (omega (arith, ltb-false _ _ t), λ c. text_holds limit (from_be_bytes w16 c)))
  item_holds s limit = either_holds 0 (ltb room 2) _ _ (λ _. tt) (λ t. (omega (arith, ltb-false _ _ t), λ c. tt))

  pub waiting_inside : (s : TypeSymbol) (limit : ℕ) (bytes : List ℕ) → says (field_of (notation_of s) limit room) 0 bytes ≡ More → length bytes ≤ room
  waiting_inside s limit bytes w = omega (arith, holds_waiting (field_of (notation_of s) limit room) 0 bytes (item_holds s limit) w)

-- an item has two bytes at least
abbrev Two : {A F : Type 0} → Reader A F → Type 0
Two (Gives v) = ⊥
Two (Refuses why) = Unit {0}
Two (Takes n next) = 2 ≤ n
Two Idles = Unit {0}

two_taken : {A F : Type 0} (r : Reader A F) (bytes : List ℕ) (v : A) (k : ℕ) → Two r → says r 0 bytes ≡ Got v k → 2 ≤ k
two_taken (Gives w) bytes v k t s = absurd t
two_taken (Refuses why) bytes v k t s = absurd cc
two_taken Idles bytes v k t s = absurd cc
two_taken (Takes n next) bytes v k t s = elim (cases_lt (length bytes) n) [
  | inl lt ↦ let no : ◌≡◌ {A = Said _ _} More (Got v k) = rw (lt-ltb _ _ lt) at s in absurd cc
  | inr le ↦ omega (arith, (says_yields (next (take n bytes)) (0 + n) v k (drop n bytes) (rw (le-ltb _ _ le) at s)).3)
]

either_two : {A F : Type 0} (t : Bool) (a b : Reader A F) → Two a → Two b → Two (cond t a b)
either_two true a b p q = p
either_two false a b p q = q

item_two : (s : TypeSymbol) (limit room : ℕ) → Two (field_of (notation_of s) limit room)
unfolding field_of number_of
item_two (Text_of f) limit room = either_two (ltb room 2) _ _ tt (omega arith)
item_two s limit room = either_two (ltb room 2) _ _ tt (omega arith)

pub item_size : (s : TypeSymbol) (limit room : ℕ) (bytes : List ℕ) (v : FieldValue) (k : ℕ) → says (field_of (notation_of s) limit room) 0 bytes ≡ Got v k → 2 ≤ k
item_size s limit room bytes v k g = two_taken (field_of (notation_of s) limit room) bytes v k (item_two s limit room) g
