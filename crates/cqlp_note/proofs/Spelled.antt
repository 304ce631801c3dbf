-- What spells a field, its reader takes, in each notation.
use Rattle.std.proofs.Common.{◌≡◌, ◌⊎◌, ℕ, ℤ, append_assoc, ◌+◌, ◌-◌, ◌<◌, ◌≤◌, ◌^◌, ◌||◌, List, [], ◌++◌, length, Some, None, refl, sym, ap, ◌∙◌, eqb, ltb, arith, true, false, inl, inr}
use Rattle.std.specs.Int.{Width, w8, w16, w32, w64}
use Rattle.std.proofs.lemmas.Bool.{le-ltb, lt-ltb, ne_eqb}
use Rattle.std.proofs.lemmas.List.{length-append, append-nil}
use Rattle.cqlp_note.specs.declared.field.Notation.{Notation}
use Rattle.cqlp_note.specs.declared.field.Notation.TheVariants as notation
use Rattle.cqlp_note.specs.declared.prim.Address.TheVariants as address
use Rattle.cqlp_note.specs.declared.prim.Address.{Address}
use Rattle.cqlp_note.specs.declared.refusal.Reason.TheVariants.{Overrun}
use Rattle.cqlp_note.specs.Reader.{Reader, Gives, number_of}
use Rattle.cqlp_note.specs.Field.{FieldValue, Byte, Short, Int, Long, Uuid, Count, Text, Bytes, Bound, Inet, Null, Unset, Known, FieldReader, content_of, field_of, text_of, address_of, signed}
use Rattle.cqlp_note.specs.Field.{content_length}
use Rattle.cqlp_note.specs.Spelling.{IsNumber, Counted, IsInet, Spells}
use Rattle.cqlp_note.proofs.Fields.{inet_of}
use Rattle.cqlp_note.proofs.Yields.{Yields}

pub number_yields : {A F : Type 0} (fault : F) (n : ℕ) (w : Width) (room m : ℕ) (f : ℕ → Reader A F) (v : A) (head more : List ℕ) → IsNumber n w m head → n ≤ room → Yields (f m) v more → Yields (number_of fault n w room f) v (head ++ more)
unfolding number_of
number_yields fault n w room m f v head more h le y = rw (le-ltb _ _ le) (head, more, h.long, refl, rw h.is y)

pub alone_yields : {A F : Type 0} (fault : F) (n : ℕ) (w : Width) (room m : ℕ) (f : ℕ → Reader A F) (v : A) (b : List ℕ) → IsNumber n w m b → n ≤ room → Yields (f m) v [] → Yields (number_of fault n w room f) v b
alone_yields fault n w room m f v b h le y = rw (append-nil b) at (number_yields fault n w room m f v b [] h le y)

content_yields : (k limit room : ℕ) (f : List ℕ → FieldReader) (v : FieldValue) (c : List ℕ) → k + length c ≤ room → length c ≤ limit → Yields (f c) v [] → Yields (content_of k (length c) limit room f) v c
unfolding content_of
content_yields k limit room f v c le fits y = rw (le-ltb _ _ le, le-ltb _ _ fits) (c, [], refl, sym (append-nil c), y)

pub counted_size : (n : ℕ) (w : Width) (c b : List ℕ) → Counted n w c b → length b ≡ n + length c
counted_size n w c b s = omega (arith, s.counts.long, length-append s.head c, ap length s.parts)

-- a length of n bytes, which a test lets pass to its content
counted_yields : (n : ℕ) (w : Width) (limit room : ℕ) (g : ℕ → FieldReader) (f : List ℕ → FieldReader) (v : FieldValue) (c b : List ℕ) → Counted n w c b → length c ≤ limit → length b ≤ room
    → g (length c) ≡ content_of n (length c) limit room f → Yields (f c) v [] → Yields (number_of Overrun n w room g) v b
counted_yields n w limit room g f v c b s fits le is y =
    let size : length b ≡ n + length c = counted_size n w c b s in
    let inside : n + length c ≤ room = omega arith in
    let small : n ≤ room = omega arith in
    rw s.parts (number_yields Overrun n w room (length c) g v s.head c s.counts small (rw is (content_yields n limit room f v c inside fits y)))

pub positive : (n : ℕ) → n < 2 ^ 31 → ltb (2 ^ 31 - 1) n ≡ false
positive n lt = le-ltb _ _ (omega arith)

inet_size : (n : ℕ) → (n ≡ 4) ⊎ (n ≡ 16) → (eqb n 4 || eqb n 16) ≡ true
inet_size n (inl e) = rw e
inet_size n (inr e) = rw e

inet_yields : (n : ℕ) (a : List ℕ) (room port : ℕ) (x : Address) (z : ℤ) (b : List ℕ) → IsInet a b port → length a ≡ n → (n ≡ 4) ⊎ (n ≡ 16) → address_of n a ≡ x → z ≡ signed port → length b ≤ room
    → Yields (number_of Overrun 1 w8 room (λ n. inet_of n room)) (Inet x z) b
inet_yields n a room port x z b s long size is at le =
    let total : length b ≡ n + 5 = omega (arith, s.counts.long, s.ends.long, long, ap length s.parts, length-append (s.head ++ a) s.tail, length-append s.head a) in
    let whole : b ≡ s.head ++ (a ++ s.tail) = s.parts ∙ append_assoc s.head a s.tail in
    let one : 1 ≤ room = omega arith in
    let all : n + 5 ≤ room = omega arith in
    let counts : IsNumber 1 w8 n s.head = rw long at s.counts in
    rw whole (number_yields Overrun 1 w8 room n (λ n. inet_of n room) (Inet x z) s.head (a ++ s.tail) counts one
    (rw (inet_size n size, le-ltb room (n + 5) all) (a, s.tail, long, refl, (s.tail, [], s.ends.long, sym (append-nil s.tail), (rw (is, s.ends.is, at) refl, refl)))))

pub field_yields : (n : Notation) (v : FieldValue) (limit room : ℕ) (b : List ℕ) → Spells n v b → content_length v ≤ limit → length b ≤ room → Yields (field_of n limit room) v b
unfolding field_of Spells
field_yields notation.Byte (Byte n) limit room b s fits le = alone_yields Overrun 1 w8 room n _ (Byte n) b s (omega (arith, s.long)) (refl, refl)
field_yields notation.Short (Short n) limit room b s fits le = alone_yields Overrun 2 w16 room n _ (Short n) b s (omega (arith, s.long)) (refl, refl)
field_yields notation.Int (Int z) limit room b s fits le = alone_yields Overrun 4 w32 room s.0 _ (Int z) b s.1 (omega (arith, s.1.long)) (ap Int (sym s.2), refl)
field_yields notation.Long (Long z) limit room b s fits le = alone_yields Overrun 8 w64 room s.0 _ (Long z) b s.1 (omega (arith, s.1.long)) (ap Long (sym s.2), refl)
field_yields notation.Uuid (Uuid c) limit room b s fits le = rw (le-ltb room 16 (omega (arith, s.0))) (b, [], s.0, sym (append-nil b), (ap Uuid s.1, refl))
field_yields notation.Count16 (Count n) limit room b s fits le = alone_yields Overrun 2 w16 room n _ (Count n) b s (omega (arith, s.long)) (refl, refl)
field_yields notation.Count32 (Count n) limit room b s fits le = alone_yields Overrun 4 w32 room n _ (Count n) b s.0 (omega (arith, s.0.long)) (rw (positive n s.1) (refl, refl))
field_yields notation.Text16 (Text t) limit room b s fits le = counted_yields 2 w16 limit room _ _ (Text t) t b s.0 fits le refl (rw s.1 (refl, refl))
field_yields notation.Text32 (Text t) limit room b s fits le = counted_yields 4 w32 limit room _ text_of (Text t) t b s.0 fits le (rw (positive (length t) s.1)) (rw s.2 (refl, refl))
field_yields notation.Bytes16 (Bytes (Some c)) limit room b s fits le = counted_yields 2 w16 limit room _ _ (Bytes (Some c)) c b s fits le refl (refl, refl)
field_yields notation.Bytes32 (Bytes None) limit room b s fits le = alone_yields Overrun 4 w32 room s.0 _ (Bytes None) b s.1 (omega (arith, s.1.long)) (rw (lt-ltb (2 ^ 31 - 1) s.0 (omega (arith, s.2))) (refl, refl))
field_yields notation.Bytes32 (Bytes (Some c)) limit room b s fits le = counted_yields 4 w32 limit room _ (λ x. Gives (Bytes (Some x))) (Bytes (Some c)) c b s.0 fits le (rw (positive (length c) s.1)) (refl, refl)
field_yields notation.Bound (Bound Null) limit room b s fits le = alone_yields Overrun 4 w32 room (2 ^ 32 - 1) _ (Bound Null) b s (omega (arith, s.long)) (refl, refl)
field_yields notation.Bound (Bound Unset) limit room b s fits le = alone_yields Overrun 4 w32 room (2 ^ 32 - 2) _ (Bound Unset) b s (omega (arith, s.long)) (refl, refl)
field_yields notation.Bound (Bound (Known c)) limit room b s fits le =
    counted_yields 4 w32 limit room _ (λ x. Gives (Bound (Known x))) (Bound (Known c)) c b s.0 fits le (rw (ne_eqb (length c) (2 ^ 32 - 1) (λ e. omega (arith, s.1)), ne_eqb (length c) (2 ^ 32 - 2) (λ e. omega (arith, s.1)), positive (length c) s.1)) (refl, refl)
field_yields notation.Inet (Inet (address.V4 a) z) limit room b s fits le = inet_yields 4 a room s.0 (address.V4 a) z b s.1 s.2 (inl refl) refl s.3 le
field_yields notation.Inet (Inet (address.V6 a) z) limit room b s fits le = inet_yields 16 a room s.0 (address.V6 a) z b s.1 s.2 (inr refl) refl s.3 le
field_yields (notation.Content n) (Bytes (Some c)) limit room b s fits le =
    let size : length c ≡ n = ap length (sym s.1) ∙ s.0 in
    let inside : 0 + length c ≤ room = omega (arith, s.0) in
    rw (← size, s.1) (content_yields 0 limit room _ (Bytes (Some c)) c inside fits (refl, refl))
field_yields n v limit room b s fits le = absurd s
