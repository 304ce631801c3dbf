-- What a field gives, its bytes spell.
use Rattle.std.proofs.Common.{◌≡◌, ℕ, ◌+◌, ◌<◌, ◌≤◌, ◌^◌, Bool, true, false, ◌||◌, cond, ltb, eqb, List, [], ◌++◌, length, refl, ◌∙◌, inl, inr, arith}
use Rattle.std.specs.Int.{Width, w8, w16, w32, w64, from_be_bytes}
use Rattle.std.specs.Str.{is_utf8}
use Rattle.std.proofs.lemmas.Bool.{ltb-true, ltb-false, eqb-true, or_cases}
use Rattle.cqlp_note.specs.declared.field.Notation.{Notation}
use Rattle.cqlp_note.specs.declared.field.Notation.TheVariants as notation
use Rattle.cqlp_note.specs.declared.refusal.Reason.TheVariants.{Overrun, TooLong, BadInet}
use Rattle.cqlp_note.specs.Reader.{Reader, Gives, Refuses, Takes, number_of, fits}
use Rattle.cqlp_note.specs.Field.{FieldValue, Inet, address_of, FieldReader, field_of, content_of, is_negative, signed}
use Rattle.cqlp_note.specs.Spelling.{IsNumber, Counted, IsInet, Spells}
use Rattle.cqlp_note.proofs.Readers.{Always}

pub either_always : {A F : Type 0} (P : A → List ℕ → Type 0) (before : List ℕ) (t : Bool) (a b : Reader A F) → (t ≡ true → Always P a before) → (t ≡ false → Always P b before) → Always P (cond t a b) before
either_always P before true a b p q = p refl
either_always P before false a b p q = q refl

module _ (P : FieldValue → List ℕ → Type 0) (room : ℕ) where
  number_always : (n : ℕ) (w : Width) (f : ℕ → FieldReader) → ((m : ℕ) (c : List ℕ) → IsNumber n w m c → Always P (f m) c) → Always P (number_of Overrun n w room f) []
  unfolding number_of
  number_always n w f p = either_always P [] (ltb room n) (Refuses Overrun) (Takes n (λ b. f (from_be_bytes w b))) (λ _. tt) (λ _ c long. p (from_be_bytes w c) c (record { long = long; is = refl }))

  content_always : (k n limit : ℕ) (w : Width) (head : List ℕ) (f : List ℕ → FieldReader) → IsNumber k w n head → ((c b : List ℕ) → length c ≡ n → Counted k w c b → Always P (f c) b) → Always P (content_of k n limit room f) head
  unfolding content_of
  content_always k n limit w head f h p =
      either_always P head (ltb room (k + n)) (Refuses Overrun) (cond (ltb limit n) (Refuses TooLong) (Takes n f)) (λ _. tt) (λ _.
      either_always P head (ltb limit n) (Refuses TooLong) (Takes n f) (λ _. tt) (λ _ c long. p c (head ++ c) long (record { head = head; counts = rw long h; parts = refl })))

  bare_always : (n limit : ℕ) (f : List ℕ → FieldReader) → ((c : List ℕ) → length c ≡ n → Always P (f c) c) → Always P (content_of 0 n limit room f) []
  unfolding content_of
  bare_always n limit f p =
      either_always P [] (ltb room (0 + n)) (Refuses Overrun) (cond (ltb limit n) (Refuses TooLong) (Takes n f)) (λ _. tt) (λ _.
      either_always P [] (ltb limit n) (Refuses TooLong) (Takes n f) (λ _. tt) (λ _ c long. p c long))

below : (n : ℕ) → is_negative n ≡ false → n < 2 ^ 31
below n t = omega (arith, ltb-false _ _ t)

above : (n : ℕ) → is_negative n ≡ true → 2 ^ 31 ≤ n
above n t = omega (arith, ltb-true _ _ t)

abbrev pub inet_of : (n room : ℕ) → FieldReader
inet_of n room = cond (eqb n 4 || eqb n 16) (fits Overrun room (n + 5) (Takes n (λ a. Takes 4 (λ b. Gives (Inet (address_of n a) (signed (from_be_bytes w32 b))))))) (Refuses BadInet)

inet_spells : (n room : ℕ) (head : List ℕ) → IsNumber 1 w8 n head → Always (Spells notation.Inet) (inet_of n room) head
unfolding Spells
inet_spells n room head h = either_always (Spells notation.Inet) head (eqb n 4 || eqb n 16) _ _ (λ e. either_always (Spells notation.Inet) head (ltb room (n + 5)) _ _ (λ _. tt) (λ _ a la b lb.
    let parts : IsInet a ((head ++ a) ++ b) (from_be_bytes w32 b) = record { head = head; tail = b; counts = rw la h; ends = record { long = lb; is = refl }; parts = refl } in
    elim (or_cases _ _ e) [
      | inl x ↦ let is : n ≡ 4 = eqb-true _ _ x in rw is (from_be_bytes w32 b, parts, la ∙ is, refl)
      | inr x ↦ let is : n ≡ 16 = eqb-true _ _ x in rw is (from_be_bytes w32 b, parts, la ∙ is, refl)
    ])) (λ _. tt)

pub field_spells : (n : Notation) (limit room : ℕ) → Always (Spells n) (field_of n limit room) []
unfolding field_of Spells
field_spells notation.Byte limit room = number_always (Spells notation.Byte) room 1 w8 _ (λ n b h. h)
field_spells notation.Short limit room = number_always (Spells notation.Short) room 2 w16 _ (λ n b h. h)
field_spells notation.Int limit room = number_always (Spells notation.Int) room 4 w32 _ (λ n b h. (n, h, refl))
field_spells notation.Long limit room = number_always (Spells notation.Long) room 8 w64 _ (λ n b h. (n, h, refl))
field_spells notation.Count16 limit room = number_always (Spells notation.Count16) room 2 w16 _ (λ n b h. h)
field_spells notation.Count32 limit room = number_always (Spells notation.Count32) room 4 w32 _ (λ n b h. either_always (Spells notation.Count32) b (is_negative n) _ _ (λ _. tt) (λ t. (h, below n t)))
field_spells notation.Text16 limit room = number_always (Spells notation.Text16) room 2 w16 _ (λ n b h. content_always (Spells notation.Text16) room 2 n limit w16 b _ h (λ c all long s. either_always (Spells notation.Text16) all (is_utf8 c) _ _ (λ u. (s, u)) (λ _. tt)))
field_spells notation.Bytes32 limit room = number_always (Spells notation.Bytes32) room 4 w32 _ (λ n b h. either_always (Spells notation.Bytes32) b (is_negative n) _ _ (λ t. (n, h, above n t)) (λ t. content_always (Spells notation.Bytes32) room 4 n limit w32 b _ h (λ c all long s. (s, rw long (below n t)))))
field_spells notation.Uuid limit room = either_always (Spells notation.Uuid) [] (ltb room 16) _ _ (λ _. tt) (λ _ c long. (long, refl))
field_spells notation.Text32 limit room = number_always (Spells notation.Text32) room 4 w32 _ (λ n b h. either_always (Spells notation.Text32) b (is_negative n) _ _ (λ _. tt) (λ t.
    content_always (Spells notation.Text32) room 4 n limit w32 b _ h (λ c all long s. either_always (Spells notation.Text32) all (is_utf8 c) _ _ (λ u. (s, rw long (below n t), u)) (λ _. tt))))
field_spells notation.Bytes16 limit room = number_always (Spells notation.Bytes16) room 2 w16 _ (λ n b h. content_always (Spells notation.Bytes16) room 2 n limit w16 b _ h (λ c all long s. s))
field_spells notation.Bound limit room = number_always (Spells notation.Bound) room 4 w32 _ (λ n b h.
    either_always (Spells notation.Bound) b (eqb n 0xFFFFFFFF) _ _ (λ e. rw (eqb-true _ _ e) at h) (λ _.
    either_always (Spells notation.Bound) b (eqb n 0xFFFFFFFE) _ _ (λ e. rw (eqb-true _ _ e) at h) (λ _.
    either_always (Spells notation.Bound) b (is_negative n) _ _ (λ _. tt) (λ t. content_always (Spells notation.Bound) room 4 n limit w32 b _ h (λ c all long s. (s, rw long (below n t)))))))
field_spells notation.Inet limit room = number_always (Spells notation.Inet) room 1 w8 _ (λ n b h. inet_spells n room b h)
field_spells (notation.Content m) limit room = bare_always (Spells (notation.Content m)) room m limit _ (λ c long. (long, refl))
