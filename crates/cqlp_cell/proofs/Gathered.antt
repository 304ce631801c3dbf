-- What a `Partial` says of a content.
use Rattle.std.proofs.Common.{◌≡◌, ℕ, ◌+◌, ◌-◌, ◌<◌, ◌≤◌, Bool, true, false, List, [], ◌++◌, length, take, drop, Some, refl, sym, ap, ◌∙◌, inl, inr, arith}
use Rattle.std.proofs.lemmas.Bool.{cases_lt, lt-ltb, le-ltb}
use Rattle.std.proofs.Math.Seq.{take-append-add}
use Rattle.std.proofs.lemmas.List.{length-take-le}
use Rattle.cqlp_note.specs.declared.field.Notation.TheVariants as notation
use Rattle.cqlp_note.specs.declared.refusal.Reason.{Reason}
use Rattle.cqlp_note.specs.Reader.{Said, More, Bad, Got, Gives, Takes, says}
use Rattle.cqlp_note.specs.Field.{FieldValue, Bytes, field_of, content_of}
use Rattle.cqlp_note.specs.Head.{reader_of}
use Rattle.cqlp_note.specs.declared.advance.FieldOutline.{FieldOutline}
use Rattle.cqlp_note.specs.Partial.{FieldState, begun, Ends, Waits, CanLend, content_bytes, item_value}
use Rattle.cqlp_cell.specs.declared.gather.Found.{Found}
use Rattle.cqlp_cell.specs.Gathering.{content_wanted, IsGathering, seen_before, Wants, Finds}

module _ (len at : ℕ) (x : List ℕ) where
  content_read : says (reader_of (content_wanted len at)) 0 x ≡ says (Takes len (λ c. Gives (Bytes (Some c)))) 0 x
  unfolding field_of content_of
  content_read = rw (le-ltb len (0 + len) (omega arith), le-ltb len len (omega arith)) refl

  pub content_short : length x < len → says (reader_of (content_wanted len at)) 0 x ≡ More
  content_short lt = content_read ∙ rw (lt-ltb (length x) len lt) refl

  content_whole : len ≤ length x → says (reader_of (content_wanted len at)) 0 x ≡ Got (Bytes (Some (take len x))) len
  content_whole le = let none : 0 + len ≡ len = omega arith in content_read ∙ rw (le-ltb (length x) len le, none) refl

  pub content_waits : says (reader_of (content_wanted len at)) 0 x ≡ More → length x < len
  content_waits m = elim (cases_lt (length x) len) [
    | inl lt ↦ lt
    | inr le ↦ let no : ◌≡◌ {A = Said FieldValue Reason} More (Got (Bytes (Some (take len x))) len) = sym m ∙ content_whole le in absurd cc
  ]

  pub content_got : (v : FieldValue) (k : ℕ) → says (reader_of (content_wanted len at)) 0 x ≡ Got v k → (len ≤ length x) × (v ≡ Bytes (Some (take len x))) × (k ≡ len)
  content_got v k g = elim (cases_lt (length x) len) [
    | inl lt ↦ let no : ◌≡◌ {A = Said FieldValue Reason} More (Got v k) = sym (content_short lt) ∙ g in absurd cc
    | inr le ↦ let same : ◌≡◌ {A = Said FieldValue Reason} (Got v k) (Got (Bytes (Some (take len x))) len) = sym g ∙ content_whole le in (le, cc, cc)
  ]

  pub content_never : (why : Reason) → says (reader_of (content_wanted len at)) 0 x ≡ Bad why → ⊥
  content_never why b = elim (cases_lt (length x) len) [
    | inl lt ↦ let no : ◌≡◌ {A = Said FieldValue Reason} More (Bad why) = sym (content_short lt) ∙ b in absurd cc
    | inr le ↦ let no : ◌≡◌ {A = Said FieldValue Reason} (Got (Bytes (Some (take len x))) len) (Bad why) = sym (content_whole le) ∙ b in absurd cc
  ]

-- a content that goes on
module _ (len at : ℕ) (old new : FieldState) (input : List ℕ) (used : ℕ) (field : old.field ≡ content_wanted len at) where
  pub more_wanted : Waits old input used new → Wants len at (old.seen ++ input) old new
  more_wanted w = record {
    short = content_waits len at (old.seen ++ input) (rw field at w.is);
    under_way = rw w.under_way refl;
    field = rw w.under_way field;
    seen = rw w.under_way refl;
    kept = rw field at w.kept;
    room = rw w.under_way refl;
  }

  pub all_found : (i : FieldOutline) → Ends old input used (item_value i input new.content) new → CanLend i input new.content → Finds len 0 old.seen (old.seen ++ input) input (record { used = used; content = i }) old new
  all_found i e there =
      let got = content_got len at (old.seen ++ input) _ _ (rw field at e.is) in
      record {
        after = omega arith;
        within = e.within;
        count = omega (arith, got.2);
        enough = got.0;
        can_lend = there;
        is = got.1;
        idle = rw e.idle refl;
        room = rw e.idle refl;
        lent = λ le. e.lent (rw got.1 (omega (arith, length-take-le len (old.seen ++ input) got.0)));
        kept = λ lt. e.kept (rw got.1 (omega (arith, length-take-le len (old.seen ++ input) got.0))) ∙ ap content_bytes got.1;
      }

  pub none_refused : (why : Reason) → says (reader_of old.field) 0 (old.seen ++ input) ≡ Bad why → ⊥
  none_refused why b = content_never len at (old.seen ++ input) why (rw field at b)

-- a content that begins
module _ (len at room : ℕ) (old mid new : FieldState) (input : List ℕ) (exact : room ≡ len) (fresh : mid ≡ begun old (record { notation = notation.Content len; limit = len; at = at; room = room })) where
  fresh_field : mid.field ≡ content_wanted len at
  fresh_field = rw (fresh, exact) refl

  fresh_seen : mid.seen ++ input ≡ input
  fresh_seen = rw fresh refl

  pub begun_wanted : (used : ℕ) → Waits mid input used new → Wants len at input old new
  begun_wanted used w =
      let h : Wants len at (mid.seen ++ input) mid new = more_wanted len at mid new input used fresh_field w in
      record {
        short = rw fresh_seen at h.short;
        under_way = h.under_way;
        field = h.field;
        seen = h.seen ∙ fresh_seen;
        kept = h.kept ∙ fresh_seen;
        room = h.room ∙ rw fresh refl;
      }

  pub begun_whole : (v : FieldValue) (used : ℕ) → Ends mid input used v new → len ≤ length input
  begun_whole v used e =
      let got = content_got len at (mid.seen ++ input) v _ (rw fresh_field at e.is) in
      rw fresh_seen at got.0

  pub begun_refused : (why : Reason) → says (reader_of mid.field) 0 (mid.seen ++ input) ≡ Bad why → ⊥
  begun_refused why b = none_refused len at mid new input 0 fresh_field why b

-- a content of no bytes, which empties the buffer
module _ (old mid new : FieldState) (fresh : mid ≡ begun old (record { notation = notation.Content 0; limit = 0; at = 0; room = 0 - 0 })) where
  pub emptied : (v : FieldValue) (used : ℕ) → Ends mid [] used v new → new.content ≡ []
  emptied v used e =
      let got = content_got 0 0 (mid.seen ++ []) v _ (rw (fresh_field 0 0 (0 - 0) old mid new [] refl fresh) at e.is) in
      e.lent (rw got.1 (omega arith))

  pub emptied_waits : (used : ℕ) → Waits mid [] used new → ⊥
  emptied_waits used w = let h = more_wanted 0 0 mid new [] used (fresh_field 0 0 (0 - 0) old mid new [] refl fresh) w in omega (arith, h.short)

  pub emptied_refused : (why : Reason) → says (reader_of mid.field) 0 (mid.seen ++ []) ≡ Bad why → ⊥
  emptied_refused why b = none_refused 0 0 mid new [] 0 (fresh_field 0 0 (0 - 0) old mid new [] refl fresh) why b

-- A content that is whole, and not in the input, was begun before; then it is what had come of it and the bytes used.
pub gathered_is : (begun : Bool) (n at start : ℕ) (p q : FieldState) (input : List ℕ) (f : Found) → IsGathering begun n at start p → Finds n start (seen_before begun p) (seen_before begun p ++ drop start input) input f p q
    → f.used < n → (p.under_way ≡ true) × (q.content ≡ p.seen ++ take f.used input)
gathered_is true n at start p q input f h found lt =
    let count : n ≡ length p.seen + f.used = omega (arith, found.count, h.2) in
    (h.0, found.kept lt ∙ rw (h.2, count) (take-append-add p.seen input f.used))
gathered_is false n at start p q input f h found lt = absurd (omega (arith, found.count, found.after, lt))
