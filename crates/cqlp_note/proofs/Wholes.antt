-- Fields that lie whole at the front of the input.
use Rattle.std.proofs.Common.{◌≡◌, ℕ, ◌+◌, ◌-◌, ◌≤◌, ◌==◌, ◌||◌, ◌^◌, if◌then◌else◌, true, false, List, [], length, take, drop, Option, Some, None, refl, sym, ◌∙◌, inl, inr, arith}
use Rattle.std.specs.Int.{w8, w32, from_be_bytes}
use Rattle.std.proofs.lemmas.Bool.{cases_lt, lt-ltb, le-ltb}
use Rattle.std.proofs.lemmas.List.{append-nil, length-drop}
use Rattle.cqlp_note.specs.declared.field.Notation.{Notation}
use Rattle.cqlp_note.specs.declared.field.Notation.TheVariants as notation
use Rattle.cqlp_note.specs.declared.refusal.Reason.TheVariants.{Overrun, TooLong, BadUtf8, BadCount, BadInet, BadValueLength}
use Rattle.cqlp_note.specs.declared.prim.BoundValue.{BoundValue}
use Rattle.cqlp_note.specs.declared.prim.BoundValue.TheVariants as bound
use Rattle.cqlp_note.specs.declared.head.Wanted.{Wanted}
use Rattle.cqlp_note.specs.declared.head.ContentForm.{ContentForm}
use Rattle.cqlp_note.specs.declared.whole.WholeField.{WholeField}
use Rattle.cqlp_note.specs.Reader.{Said, Gives, Refuses, Takes, More, Bad, Got, says}
use Rattle.cqlp_note.specs.Field.{FieldReader, FieldValue, Count, Bytes, Bound, Null, Unset, content_of, field_of, is_negative}
use Rattle.cqlp_note.specs.Head.{after_fixed, fixed_of, made, value_of}
use Rattle.cqlp_note.specs.Partial.{accepts, HasContent, HasNoLength, IsContentHead, IsNoPlain, IsPlainFront, LeadsToContent, bare_value}
use Rattle.cqlp_note.specs.Laws.{AreSameFrontFields}
use Rattle.cqlp_note.specs.Whole.{IsFrontField, IsLeft, SaysField}
use Rattle.cqlp_note.proofs.Fronts.{fixed_overruns, fixed_taken, fixed_wanting, natural_some, plain_is}
use Rattle.cqlp_note.proofs.Pieces.{content_bad, content_waits}

-- a field that is said has its fixed part there, and the rest goes by that
module _ (n : Notation) (limit room : ℕ) (input : List ℕ) (used : ℕ) (v : FieldValue) (got : says (field_of n limit room) 0 input ≡ Got v used) where
  pub got_in_room : fixed_of n ≤ room
  got_in_room = elim (cases_lt room (fixed_of n)) [
    | inl lt ↦ let no : ◌≡◌ {A = Said _ _} (Bad Overrun) (Got v used) = rw (fixed_overruns n limit room input lt) at got in absurd cc
    | inr le ↦ le
  ]

  pub got_there : fixed_of n ≤ length input
  got_there = elim (cases_lt (length input) (fixed_of n)) [
    | inl lt ↦ let no : ◌≡◌ {A = Said _ _} More (Got v used) = rw (fixed_wanting n limit room input got_in_room lt) at got in absurd cc
    | inr le ↦ le
  ]

  pub got_after_fixed : says (after_fixed n limit room (take (fixed_of n) input)) (fixed_of n) (drop (fixed_of n) input) ≡ Got v used
  got_after_fixed =
      let all = rw (append-nil input, append-nil (drop (fixed_of n) input)) at (fixed_taken n limit room input got_in_room got_there []) in
      rw all at got

-- a field that is said, of a notation whose fixed part leads to a content, has that content
pub got_content : (w : Wanted) (input : List ℕ) (start len : ℕ) (f : ContentForm) (used : ℕ) (v : FieldValue) → LeadsToContent w.notation input start len f
    → SaysField w.notation w.limit w.room input used v → HasContent w input start len f
unfolding content_of
got_content w input start len f used v leads said =
    let after = got_after_fixed w.notation w.limit w.room input used v said.is in
    let there = got_there w.notation w.limit w.room input used v said.is in
    let goes : says (content_of start len w.limit w.room (made f)) start (drop start input) ≡ Got v used = rw (leads.2 w.limit w.room) at (rw (← leads.1) at after) in
    elim (cases_lt w.room (start + len)) [
      | inl lt ↦ let no : ◌≡◌ {A = Said _ _} (Bad Overrun) (Got v used) = rw (lt-ltb _ _ lt) at goes in absurd cc
      | inr fits ↦ elim (cases_lt w.limit len) [
        | inl lt ↦ let no : ◌≡◌ {A = Said _ _} (Bad TooLong) (Got v used) = rw (le-ltb _ _ fits, lt-ltb _ _ lt) at goes in absurd cc
        | inr small ↦
            let takes : says (Takes len (made f)) start (drop start input) ≡ Got v used = rw (le-ltb _ _ fits, le-ltb _ _ small) at goes in
            elim (cases_lt (length (drop start input)) len) [
              | inl lt ↦ let no : ◌≡◌ {A = Said _ _} More (Got v used) = sym (content_waits f len start _ lt) ∙ takes in absurd cc
              | inr long ↦ elim (accepts f (take len (drop start input))) as (λ t. accepts f (take len (drop start input)) ≡ t → HasContent w input start len f) [
                | true ↦ λ is. (small, fits, omega (arith, length-drop start input, long, rw (← leads.1) at there), is)
                | false ↦ λ is. let no : ◌≡◌ {A = Said _ _} (Bad BadUtf8) (Got v used) = sym (content_bad f len start _ long is) ∙ takes in absurd cc
              ] refl
            ]
      ]
    ]

-- A fixed part by which no content begins is all of the field, or refused.
ends_plain : (n : Notation) (limit room : ℕ) (c : List ℕ) (taken : ℕ) (rest : List ℕ) (used : ℕ) (v : FieldValue) → ¬ (IsLeft n) → HasNoLength n c
    → ((u : FieldValue) → ¬ (after_fixed n limit room c ≡ Gives u)) → says (after_fixed n limit room c) taken rest ≡ Got v used → ⊥
ends_plain notation.Byte limit room c taken rest used v whole none plain got = plain _ refl
ends_plain notation.Short limit room c taken rest used v whole none plain got = plain _ refl
ends_plain notation.Int limit room c taken rest used v whole none plain got = plain _ refl
ends_plain notation.Long limit room c taken rest used v whole none plain got = plain _ refl
ends_plain notation.Uuid limit room c taken rest used v whole none plain got = plain _ refl
ends_plain notation.Count16 limit room c taken rest used v whole none plain got = plain _ refl
ends_plain notation.Count32 limit room c taken rest used v whole none plain got =
    elim (is_negative (from_be_bytes w32 c)) as (λ t. is_negative (from_be_bytes w32 c) ≡ t → ⊥) [
      | true ↦ λ is. let bad : ◌≡◌ {A = Said _ _} (Bad BadCount) (Got v used) = rw is at got in absurd cc
      | false ↦ λ is. plain (Count (from_be_bytes w32 c)) (rw is refl)
    ] refl
ends_plain notation.Text16 limit room c taken rest used v whole none plain got = none
ends_plain notation.Text32 limit room c taken rest used v whole none plain got =
    let bad : ◌≡◌ {A = Said _ _} (Bad BadCount) (Got v used) = rw none at got in absurd cc
ends_plain notation.Bytes16 limit room c taken rest used v whole none plain got = none
ends_plain notation.Bytes32 limit room c taken rest used v whole none plain got = plain (Bytes None) (rw none refl)
ends_plain notation.Bound limit room c taken rest used v whole none plain got =
    elim (from_be_bytes w32 c == (2 ^ 32 - 1)) as (λ t. (from_be_bytes w32 c == (2 ^ 32 - 1)) ≡ t → ⊥) [
      | true ↦ λ null. plain (Bound Null) (rw null refl)
      | false ↦ λ known. elim (from_be_bytes w32 c == (2 ^ 32 - 2)) as (λ t. (from_be_bytes w32 c == (2 ^ 32 - 2)) ≡ t → ⊥) [
        | true ↦ λ unset. plain (Bound Unset) (rw (known, unset) refl)
        | false ↦ λ set. let bad : ◌≡◌ {A = Said _ _} (Bad BadValueLength) (Got v used) = rw (known, set, none) at got in absurd cc
      ] refl
    ] refl
ends_plain notation.Inet limit room c taken rest used v whole none plain got = whole tt
ends_plain (notation.Content n) limit room c taken rest used v whole none plain got = whole tt

-- after a length comes a content, or a refusal
pub never_gives : (k n limit room : ℕ) (next : List ℕ → FieldReader) (v : FieldValue) → ¬ (content_of k n limit room next ≡ Gives v)
unfolding content_of
never_gives k n limit room next v gives = elim (cases_lt room (k + n)) [
  | inl lt ↦ let bad : ◌≡◌ {A = FieldReader} (Refuses Overrun) (Gives v) = rw (lt-ltb _ _ lt) at gives in absurd cc
  | inr fits ↦ elim (cases_lt limit n) [
    | inl lt ↦ let bad : ◌≡◌ {A = FieldReader} (Refuses TooLong) (Gives v) = rw (le-ltb _ _ fits, lt-ltb _ _ lt) at gives in absurd cc
    | inr small ↦ let bad : ◌≡◌ {A = FieldReader} (Takes n next) (Gives v) = rw (le-ltb _ _ fits, le-ltb _ _ small) at gives in absurd cc
  ]
]

-- the notations of contents that are not null, and of addresses
abbrev pub IsLong : Notation → Type 0
IsLong notation.Text16 = Unit {0}
IsLong notation.Text32 = Unit {0}
IsLong notation.Bytes16 = Unit {0}
IsLong notation.Inet = Unit {0}
IsLong (notation.Content n) = Unit {0}
IsLong n = ⊥

-- a length that is not negative does not end a field
pub known_never : (bytes : List ℕ) (m : ℕ) → Some m ≡ (let n = from_be_bytes w32 (take 4 bytes) in if is_negative n then None else Some n) → IsNoPlain notation.Bytes32 bytes
known_never bytes m is limit room v gives =
    let known = (natural_some (from_be_bytes w32 (take 4 bytes)) m is).0 in
    never_gives 4 _ limit room _ v (rw known at gives)

-- nor does a [value] that is neither null nor not set
pub value_never : (bytes : List ℕ) → bare_value (from_be_bytes w32 (take 4 bytes)) ≡ None → IsNoPlain notation.Bound bytes
value_never bytes none limit room v gives =
    let n = from_be_bytes w32 (take 4 bytes) in
    elim (n == (2 ^ 32 - 1)) as (λ t. (n == (2 ^ 32 - 1)) ≡ t → ⊥) [
      | true ↦ λ null. let some : ◌≡◌ {A = Option BoundValue} (Some bound.Null) None = rw null at none in absurd cc
      | false ↦ λ known. elim (n == (2 ^ 32 - 2)) as (λ t. (n == (2 ^ 32 - 2)) ≡ t → ⊥) [
        | true ↦ λ unset. let some : ◌≡◌ {A = Option BoundValue} (Some bound.Unset) None = rw (known, unset) at none in absurd cc
        | false ↦ λ set. elim (is_negative n) as (λ t. is_negative n ≡ t → ⊥) [
          | true ↦ λ is. let bad : ◌≡◌ {A = FieldReader} (Refuses BadValueLength) (Gives v) = rw (known, set, is) at gives in absurd cc
          | false ↦ λ is. never_gives 4 n limit room _ v (rw (known, set, is) at gives)
        ] refl
      ] refl
    ] refl

-- no such field ends with its fixed part
pub no_plain : (n : Notation) (bytes : List ℕ) → IsLong n → IsNoPlain n bytes
no_plain notation.Text16 bytes long limit room v gives = never_gives 2 _ limit room _ v gives
no_plain notation.Text32 bytes long limit room v gives =
    let n = from_be_bytes w32 (take 4 bytes) in
    elim (is_negative n) as (λ t. is_negative n ≡ t → ⊥) [
      | true ↦ λ is. let bad : ◌≡◌ {A = FieldReader} (Refuses BadCount) (Gives v) = rw is at gives in absurd cc
      | false ↦ λ is. never_gives 4 n limit room _ v (rw is at gives)
    ] refl
no_plain notation.Bytes16 bytes long limit room v gives = never_gives 2 _ limit room _ v gives
no_plain notation.Inet bytes long limit room v gives =
    let n = from_be_bytes w8 (take 1 bytes) in
    elim ((n == 4) || (n == 16)) as (λ t. ((n == 4) || (n == 16)) ≡ t → ⊥) [
      | true ↦ λ is. elim (cases_lt room (n + 5)) [
        | inl lt ↦ let bad : ◌≡◌ {A = FieldReader} (Refuses Overrun) (Gives v) = rw (is, lt-ltb _ _ lt) at gives in absurd cc
        | inr le ↦ let more : ◌≡◌ {A = FieldReader} (Takes n _) (Gives v) = rw (is, le-ltb _ _ le) at gives in absurd cc
      ]
      | false ↦ λ is. let bad : ◌≡◌ {A = FieldReader} (Refuses BadInet) (Gives v) = rw is at gives in absurd cc
    ] refl
no_plain (notation.Content n) bytes long limit room v gives = never_gives 0 n limit room _ v gives
no_plain notation.Byte bytes long limit room v gives = long
no_plain notation.Short bytes long limit room v gives = long
no_plain notation.Int bytes long limit room v gives = long
no_plain notation.Long bytes long limit room v gives = long
no_plain notation.Uuid bytes long limit room v gives = long
no_plain notation.Count16 bytes long limit room v gives = long
no_plain notation.Count32 bytes long limit room v gives = long
no_plain notation.Bytes32 bytes long limit room v gives = long
no_plain notation.Bound bytes long limit room v gives = long

-- no field is said where none ends with its fixed part and no content begins after it
pub none_said : (w : Wanted) (input : List ℕ) → IsContentHead w.notation input None → IsPlainFront w input None → IsFrontField w.notation w.limit w.room input None
none_said w input none plain whole used v said =
    let room = got_in_room w.notation w.limit w.room input used v said.is in
    let there = got_there w.notation w.limit w.room input used v said.is in
    let after = got_after_fixed w.notation w.limit w.room input used v said.is in
    ends_plain w.notation w.limit w.room (take (fixed_of w.notation) input) (fixed_of w.notation) (drop (fixed_of w.notation) input) used v whole (none there) (plain room there w.limit w.room) after

-- a field that ends with its fixed part
pub plain_said : (w : Wanted) (input : List ℕ) (o : Option WholeField) → IsContentHead w.notation input None → IsPlainFront w input o → IsFrontField w.notation w.limit w.room input o
plain_said w input None none p = none_said w input none p
plain_said w input (Some f) none p = record { is = plain_is w input f.used f.value p; within = p.2 }

pub one_front : (n : Notation) (limit room : ℕ) (input : List ℕ) (a b : Option WholeField) → ¬ (IsLeft n) → IsFrontField n limit room input a → IsFrontField n limit room input b → AreSameFrontFields a b
one_front n limit room input None None whole x y = tt
one_front n limit room input None (Some g) whole x y = x whole g.used (value_of g.value) y
one_front n limit room input (Some f) None whole x y = y whole f.used (value_of f.value) x
one_front n limit room input (Some f) (Some g) whole x y =
    let both : ◌≡◌ {A = Said FieldValue _} (Got (value_of f.value) f.used) (Got (value_of g.value) g.used) = sym x.is ∙ y.is in
    (cc, cc)
