-- Every field begins with its fixed part.
use Rattle.std.proofs.Common.{◌≡◌, ℕ, ◌+◌, ◌-◌, ◌^◌, ◌<◌, ◌≤◌, true, false, if◌then◌else◌, List, [], ◌++◌, Option, Some, None, length, take, drop, zero-add, add_comm, Result, Ok, Err, refl, ◌∙◌, lit≤, lit<, arith}
use Rattle.std.specs.Int.{w32, from_be_bytes}
use Rattle.std.proofs.lemmas.Bool.{lt-ltb, le-ltb, ltb-false, ne_eqb}
use Rattle.std.proofs.lemmas.List.{take-append-le, drop-append-le, length-append, length-drop, drop-drop, append-nil}
use Rattle.cqlp_note.specs.declared.field.Notation.{Notation}
use Rattle.cqlp_note.specs.declared.field.Notation.TheVariants as notation
use Rattle.cqlp_note.specs.declared.refusal.Reason.TheVariants.{Overrun}
use Rattle.cqlp_note.specs.declared.prim.Primitive.{Primitive}
use Rattle.cqlp_note.specs.Partial.{IsPlain}
use Rattle.cqlp_note.specs.Reader.{Gives, Takes, More, Bad, Got, says, fits, number_of}
use Rattle.cqlp_note.specs.Field.{Inet, field_of, content_of, inet_of, is_negative, signed, address_of}
use Rattle.cqlp_note.specs.Head.{fixed_of, after_fixed, front_of, made, reader_of, value_of, Determines}
use Rattle.cqlp_note.specs.declared.head.Wanted.{Wanted}
use Rattle.cqlp_note.specs.declared.head.ContentForm.TheVariants as form
use Rattle.cqlp_note.specs.declared.head.Head.{Head}
use Rattle.cqlp_note.specs.declared.head.Head.TheVariants as head
use Rattle.cqlp_note.specs.declared.head.Stop.{Stop}
use Rattle.cqlp_note.specs.declared.head.Stop.TheVariants as stop

fixed_first : (n : Notation) (limit room : ℕ) (bytes : List ℕ)
    → says (field_of n limit room) 0 bytes ≡ says (fits Overrun room (fixed_of n) (Takes (fixed_of n) (after_fixed n limit room))) 0 bytes
unfolding field_of number_of
fixed_first notation.Byte limit room bytes = refl
fixed_first notation.Short limit room bytes = refl
fixed_first notation.Int limit room bytes = refl
fixed_first notation.Long limit room bytes = refl
fixed_first notation.Uuid limit room bytes = refl
fixed_first notation.Count16 limit room bytes = refl
fixed_first notation.Count32 limit room bytes = refl
fixed_first notation.Text16 limit room bytes = refl
fixed_first notation.Text32 limit room bytes = refl
fixed_first notation.Bytes16 limit room bytes = refl
fixed_first notation.Bytes32 limit room bytes = refl
fixed_first notation.Bound limit room bytes = refl
fixed_first notation.Inet limit room bytes = refl
fixed_first (notation.Content n) limit room bytes = rw (le-ltb room 0 (omega arith), le-ltb (length bytes) 0 (omega arith)) refl

module _ (n : Notation) (limit room : ℕ) (bytes : List ℕ) where
  pub fixed_overruns : room < fixed_of n → says (field_of n limit room) 0 bytes ≡ Bad Overrun
  fixed_overruns lt = rw (fixed_first n limit room bytes, lt-ltb _ _ lt)

  pub fixed_wanting : fixed_of n ≤ room → length bytes < fixed_of n → says (field_of n limit room) 0 bytes ≡ More
  fixed_wanting le lt = rw (fixed_first n limit room bytes, le-ltb _ _ le, lt-ltb _ _ lt)

  pub fixed_taken : fixed_of n ≤ room → fixed_of n ≤ length bytes → (t : List ℕ)
      → says (field_of n limit room) 0 (bytes ++ t) ≡ says (after_fixed n limit room (take (fixed_of n) bytes)) (fixed_of n) (drop (fixed_of n) bytes ++ t)
  fixed_taken le long t =
      let enough : fixed_of n ≤ length (bytes ++ t) = omega (arith, length-append bytes t) in
      rw (fixed_first n limit room (bytes ++ t), le-ltb _ _ le, le-ltb _ _ enough, take-append-le _ bytes t long, drop-append-le _ bytes t long, zero-add)

-- what the bytes after the fixed part determine, they determine of the field
pub fixed_determines : (w : Wanted) (bytes : List ℕ) (r : Result Head Stop) → fixed_of w.notation ≤ w.room → fixed_of w.notation ≤ length bytes
    → Determines w (after_fixed w.notation w.limit w.room (take (fixed_of w.notation) bytes)) (fixed_of w.notation) (drop (fixed_of w.notation) bytes) r → Determines w (reader_of w) 0 bytes r
fixed_determines w bytes (Ok (head.Whole used v)) le long h =
    (omega (arith, length-drop (fixed_of w.notation) bytes, h.0), λ t. fixed_taken w.notation w.limit w.room bytes le long t ∙ h.1 t, h.2)
fixed_determines w bytes (Ok (head.Content behind len f)) le long h =
    let n = fixed_of w.notation in
    let count : (behind - n) + n ≡ behind = omega (arith, h.1) in
    let none : behind - 0 ≡ behind = omega arith in
    let same : drop (behind - n) (drop n bytes) ≡ drop (behind - 0) bytes = rw (drop-drop (behind - n) n bytes, add_comm n (behind - n), count, none) refl in
    (h.0, omega arith, omega (arith, length-drop n bytes, h.2), h.3, λ t. rw same at (fixed_taken w.notation w.limit w.room bytes le long t ∙ h.4 t))
fixed_determines w bytes (Err stop.Wanting) le long h =
    let all = rw (append-nil bytes, append-nil (drop (fixed_of w.notation) bytes)) at (fixed_taken w.notation w.limit w.room bytes le long []) in
    (omega (arith, length-drop (fixed_of w.notation) bytes, h.0), all ∙ h.1)
fixed_determines w bytes (Err (stop.Refused why)) le long h = λ t. fixed_taken w.notation w.limit w.room bytes le long t ∙ h t

-- a field that is no more than its fixed part
pub plain_is : (w : Wanted) (bytes : List ℕ) (used : ℕ) (v : Primitive) → IsPlain w bytes used v → says (reader_of w) 0 bytes ≡ Got (value_of v) used
plain_is w bytes used v p =
    let n = w.notation in
    let gives : after_fixed n w.limit w.room (take (fixed_of n) bytes) ≡ Gives (value_of v) = rw p.0 at p.4 in
    let now = rw (append-nil bytes, append-nil (drop (fixed_of n) bytes), gives) at (fixed_taken n w.limit w.room bytes (rw p.0 at p.1) (rw p.0 at p.2) []) in
    rw p.0 now

-- a front is short
pub fixed_short : (n : Notation) → (fixed_of n ≤ front_of n) × (front_of n < 24)
fixed_short notation.Byte = (lit≤ tt, lit< tt)
fixed_short notation.Short = (lit≤ tt, lit< tt)
fixed_short notation.Int = (lit≤ tt, lit< tt)
fixed_short notation.Long = (lit≤ tt, lit< tt)
fixed_short notation.Uuid = (lit≤ tt, lit< tt)
fixed_short notation.Count16 = (lit≤ tt, lit< tt)
fixed_short notation.Count32 = (lit≤ tt, lit< tt)
fixed_short notation.Text16 = (lit≤ tt, lit< tt)
fixed_short notation.Text32 = (lit≤ tt, lit< tt)
fixed_short notation.Bytes16 = (lit≤ tt, lit< tt)
fixed_short notation.Bytes32 = (lit≤ tt, lit< tt)
fixed_short notation.Bound = (lit≤ tt, lit< tt)
fixed_short notation.Inet = (lit≤ tt, lit< tt)
fixed_short (notation.Content n) = (lit≤ tt, lit< tt)

-- an address and a port
pub inet_taken : (n room : ℕ) (rest t : List ℕ) → n + 5 ≤ room → n + 4 ≤ length rest
    → says (inet_of n room) 1 (rest ++ t) ≡ Got (Inet (address_of n (take n rest)) (signed (from_be_bytes w32 (take 4 (drop n rest))))) (n + 5)
inet_taken n room rest t fit long =
    let first : n ≤ length (rest ++ t) = omega (arith, length-append rest t) in
    let short : n ≤ length rest = omega arith in
    let left : 4 ≤ length (drop n rest) = omega (arith, length-drop n rest) in
    let second : 4 ≤ length (drop n rest ++ t) = omega (arith, length-append (drop n rest) t) in
    let count : 1 + n + 4 ≡ n + 5 = omega arith in
    rw (le-ltb room (n + 5) fit, le-ltb _ _ first, take-append-le n rest t short, drop-append-le n rest t short, le-ltb _ _ second, take-append-le 4 (drop n rest) t left, count) refl

-- a length that is not negative is neither null nor not set
pub bound_known : (limit room : ℕ) (c : List ℕ) → is_negative (from_be_bytes w32 c) ≡ false → after_fixed notation.Bound limit room c ≡ content_of 4 (from_be_bytes w32 c) limit room (made form.Bound)
bound_known limit room c t =
    let low : from_be_bytes w32 c < 2 ^ 31 = omega (arith, ltb-false _ _ t) in
    rw (ne_eqb (from_be_bytes w32 c) (2 ^ 32 - 1) (omega arith), ne_eqb (from_be_bytes w32 c) (2 ^ 32 - 2) (omega arith), t) refl

-- a length that is not negative
pub natural_some : (n m : ℕ) → Some m ≡ (if is_negative n then None else Some n) → (is_negative n ≡ false) × (n ≡ m)
natural_some n m e = elim (is_negative n) as (λ t. is_negative n ≡ t → (t ≡ false) × (n ≡ m)) [
  | true ↦ λ is. let no : ◌≡◌ {A = Option ℕ} (Some m) None = rw is at e in absurd cc
  | false ↦ λ is. let some : ◌≡◌ {A = Option ℕ} (Some m) (Some n) = rw is at e in (refl, cc)
] refl

-- what the front of a field determines by its first bytes
pub ruleset of_first_bytes = (fixed_overruns, fixed_wanting, fixed_short, fixed_determines)
