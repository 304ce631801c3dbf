-- What a `Partial` says of an [int].
use Rattle.std.proofs.Common.{◌≡◌, ℕ, ◌<◌, ◌≤◌, ◌^◌, List, ◌++◌, length, take, refl, sym, ap, ◌∙◌, inl, inr, arith}
use Rattle.std.proofs.lemmas.Bool.{cases_lt, lt-ltb, le-ltb}
use Rattle.std.proofs.lemmas.Int.{of_z-to_z}
use Rattle.std.proofs.lemmas.List.{drop_all}
use Rattle.std.specs.Int.{w32, from_be_bytes, cast_unsigned}
use Rattle.cqlp_note.specs.declared.refusal.Reason.{Reason}
use Rattle.cqlp_note.specs.Reader.{Said, More, Bad, Got, Gives, Takes, says, number_of}
use Rattle.cqlp_note.specs.Field.{FieldValue, Int, field_of, signed}
use Rattle.cqlp_note.specs.Head.{reader_of}
use Rattle.cqlp_note.specs.Partial.{FieldState, begun, Ends, Waits}
use Rattle.cqlp_cell.specs.Numbers.{int_wanted, int_in, IsUnsigned, WantsNumber, IsCounted}

-- the number that the first four bytes are
abbrev pub first_number : List ℕ → ℕ
first_number x = from_be_bytes w32 (take 4 x)

module _ (at room : ℕ) (x : List ℕ) (enough : 4 ≤ room) where
  int_read : says (reader_of (int_wanted at room)) 0 x ≡ says (Takes 4 (λ c. Gives (Int (signed (from_be_bytes w32 c))))) 0 x
  unfolding field_of number_of
  int_read = rw (le-ltb room 4 enough) refl

  pub int_short : length x < 4 → says (reader_of (int_wanted at room)) 0 x ≡ More
  int_short lt = int_read ∙ rw (lt-ltb (length x) 4 lt) refl

  int_whole : 4 ≤ length x → says (reader_of (int_wanted at room)) 0 x ≡ Got (Int (signed (first_number x))) 4
  int_whole le = int_read ∙ rw (le-ltb (length x) 4 le) refl

  pub int_waits : says (reader_of (int_wanted at room)) 0 x ≡ More → length x < 4
  int_waits m = elim (cases_lt (length x) 4) [
    | inl lt ↦ lt
    | inr le ↦ let no : ◌≡◌ {A = Said FieldValue Reason} More (Got (Int (signed (first_number x))) 4) = sym m ∙ int_whole le in absurd cc
  ]

  pub int_got : (v : FieldValue) (k : ℕ) → says (reader_of (int_wanted at room)) 0 x ≡ Got v k → (4 ≤ length x) × (v ≡ Int (signed (first_number x))) × (k ≡ 4)
  int_got v k g = elim (cases_lt (length x) 4) [
    | inl lt ↦ let no : ◌≡◌ {A = Said FieldValue Reason} More (Got v k) = sym (int_short lt) ∙ g in absurd cc
    | inr le ↦ let same : ◌≡◌ {A = Said FieldValue Reason} (Got v k) (Got (Int (signed (first_number x))) 4) = sym g ∙ int_whole le in (le, cc, cc)
  ]

  pub int_never : (why : Reason) → says (reader_of (int_wanted at room)) 0 x ≡ Bad why → ⊥
  int_never why b = elim (cases_lt (length x) 4) [
    | inl lt ↦ let no : ◌≡◌ {A = Said FieldValue Reason} More (Bad why) = sym (int_short lt) ∙ b in absurd cc
    | inr le ↦ let no : ◌≡◌ {A = Said FieldValue Reason} (Got (Int (signed (first_number x))) 4) (Bad why) = sym (int_whole le) ∙ b in absurd cc
  ]

pub unsigned_is : (m : ℕ) → IsUnsigned m (cast_unsigned w32 (signed m))
unsigned_is m = (λ lt. of_z-to_z w32 m (omega arith), λ le. rw (le-ltb m (2 ^ 31) le) (omega arith))

-- a number below 2 ^ 32 is the same without a sign
pub unsigned_same : (m n : ℕ) → n ≡ m → IsUnsigned m n
unsigned_same m n e = (λ _. e, λ le. omega arith)

-- an [int] that goes on
module _ (at room : ℕ) (old new : FieldState) (input : List ℕ) (used : ℕ) (enough : 4 ≤ room) (field : old.field ≡ int_wanted at room) where
  pub more_wanted : Waits old input used new → WantsNumber at room (old.seen ++ input) old new
  more_wanted w = record {
    short = int_waits at room (old.seen ++ input) enough (rw field at w.is);
    enough = enough;
    under_way = rw w.under_way refl;
    field = rw w.under_way field;
    seen = rw w.under_way refl;
    empty = rw field at w.kept ∙ drop_all 4 (old.seen ++ input) (omega (arith, int_waits at room (old.seen ++ input) enough (rw field at w.is)));
    longest = rw w.under_way refl;
  }

  pub is_number : (v : FieldValue) → Ends old input used v new → v ≡ Int (int_in v)
  is_number v e =
      let got = int_got at room (old.seen ++ input) enough v _ (rw field at e.is) in
      rw got.1 refl

  pub all_counted : (v : FieldValue) (n : ℕ) → Ends old input used v new → n ≡ cast_unsigned w32 (int_in v) → IsCounted room 0 old.seen (old.seen ++ input) input used n old new
  all_counted v n e is =
      let got = int_got at room (old.seen ++ input) enough v _ (rw field at e.is) in
      record {
        after = omega arith;
        within = e.within;
        count = omega (arith, got.2);
        whole = got.0;
        enough = enough;
        is = rw (is ∙ ap (λ (x : FieldValue). cast_unsigned w32 (int_in x)) got.1) (unsigned_is (first_number (old.seen ++ input)));
        idle = rw e.idle refl;
        longest = rw e.idle refl;
      }

  pub none_refused : (why : Reason) → says (reader_of old.field) 0 (old.seen ++ input) ≡ Bad why → ⊥
  none_refused why b = int_never at room (old.seen ++ input) enough why (rw field at b)

-- an [int] that begins
module _ (at room : ℕ) (old mid new : FieldState) (input : List ℕ) (enough : 4 ≤ room) (fresh : mid ≡ begun old (int_wanted at room)) where
  fresh_field : mid.field ≡ int_wanted at room
  fresh_field = rw fresh refl

  fresh_seen : mid.seen ++ input ≡ input
  fresh_seen = rw fresh refl

  pub begun_wanted : (used : ℕ) → Waits mid input used new → WantsNumber at room input old new
  begun_wanted used w =
      let h : WantsNumber at room (mid.seen ++ input) mid new = more_wanted at room mid new input used enough fresh_field w in
      record {
        short = rw fresh_seen at h.short;
        enough = enough;
        under_way = h.under_way;
        field = h.field;
        seen = h.seen ∙ fresh_seen;
        empty = h.empty;
        longest = h.longest ∙ rw fresh refl;
      }

  pub begun_whole : (v : FieldValue) (used : ℕ) → Ends mid input used v new → 4 ≤ length input
  begun_whole v used e =
      let got = int_got at room (mid.seen ++ input) enough v _ (rw fresh_field at e.is) in
      rw fresh_seen at got.0

  pub begun_refused : (why : Reason) → says (reader_of mid.field) 0 (mid.seen ++ input) ≡ Bad why → ⊥
  begun_refused why b = none_refused at room mid new input 0 enough fresh_field why b
