-- A header is read from its bytes, and its bytes are those that it was read from.
use Rattle.std.proofs.Common.{◌≡◌, ℕ, ◌+◌, ◌*◌, ◌<◌, ◌≤◌, ◌^◌, ℤ, Bool, true, false, ◌||◌, cond, eqb, ltb, List, [], ◌∷◌, ◌++◌, length, take, drop, get_or, suc, zero, refl, sym, ap, ◌∙◌, arith, lit<, inl, inr, of_z, Fits, SFits}
use Rattle.std.specs.Prelude.{Option, Some, None, Result, Ok, Err, slice_index}
use Rattle.std.specs.Int.{w16, w32, from_be_bytes, to_be_bytes, cast_signed}
use Rattle.std.proofs.Math.Facts.{to_z-of_z, of_z-to_z, Fits-of_z}
use Rattle.std.proofs.lemmas.Bool.{ltb-false, eqb-true, or_cases}
use Rattle.std.proofs.lemmas.Nat.{from_be_bytes-to_be_bytes_2, from_be_bytes-to_be_bytes_4, be_bytes_2, be_bytes_4}
use Rattle.cqlp_note.specs.declared.opcode.Opcode.{Opcode}
use Rattle.cqlp_note.specs.declared.opcode.Opcode.TheVariants as opcode
use Rattle.cqlp_note.specs.declared.header.Header.{Header}
use Rattle.cqlp_note.specs.declared.refusal.Reason.{Reason}
use Rattle.cqlp_note.specs.declared.refusal.Reason.TheVariants.{BadVersion, Compressed, BadDirection, BadLength}
use Rattle.cqlp_note.specs.Heading.{IsLawful, has, heading, heading_of, header_bytes, beside_number, opcodes, code_of, answers, same}
use Rattle.cqlp_note.proofs.Headings.{by_opcode, good_header}

stream_fits : (z : ℤ) → SFits w16 z → of_z w16 z < 2 ^ 16
stream_fits z fits = omega (arith, Fits-of_z {w = w16} fits)

code_conforms : (o : Opcode) → beside_number (code_of o) opcodes ≡ Some o
code_conforms opcode.Error = refl
code_conforms opcode.Startup = refl
code_conforms opcode.Ready = refl
code_conforms opcode.Authenticate = refl
code_conforms opcode.Options = refl
code_conforms opcode.Supported = refl
code_conforms opcode.Query = refl
code_conforms opcode.Result = refl
code_conforms opcode.Prepare = refl
code_conforms opcode.Execute = refl
code_conforms opcode.Register = refl
code_conforms opcode.Event = refl
code_conforms opcode.Batch = refl
code_conforms opcode.AuthChallenge = refl
code_conforms opcode.AuthResponse = refl
code_conforms opcode.AuthSuccess = refl

same_self : (b : Bool) → same b b ≡ true
same_self true = refl
same_self false = refl

by_direction : (response : Bool) (flags n : ℕ) (z : ℤ) (o : Opcode) → has flags 1 ≡ false → answers o ≡ response → n ≤ 268435456 → SFits w16 z
    → heading (header_bytes (record { response = response; flags = flags; stream = z; opcode = o; length = n })) ≡ Ok (record { response = response; flags = flags; stream = z; opcode = o; length = n })
by_direction true flags n z o plain direction bounded fits =
    let b : List ℕ = header_bytes (record { response = true; flags = flags; stream = z; opcode = o; length = n }) in
    by_opcode b refl plain ∙ ap (λ (x : Option Opcode). heading_of true b x) (code_conforms o)
    ∙ good_header true b o (rw direction refl) n (of_z w16 z) (from_be_bytes-to_be_bytes_4 n (omega arith)) (from_be_bytes-to_be_bytes_2 (of_z w16 z) (stream_fits z fits)) bounded
    ∙ ap (λ (k : ℤ). Ok (record { response = true; flags = flags; stream = k; opcode = o; length = n })) (to_z-of_z {w = w16} fits)
by_direction false flags n z o plain direction bounded fits =
    let b : List ℕ = header_bytes (record { response = false; flags = flags; stream = z; opcode = o; length = n }) in
    by_opcode b refl plain ∙ ap (λ (x : Option Opcode). heading_of false b x) (code_conforms o)
    ∙ good_header false b o (rw direction refl) n (of_z w16 z) (from_be_bytes-to_be_bytes_4 n (omega arith)) (from_be_bytes-to_be_bytes_2 (of_z w16 z) (stream_fits z fits)) bounded
    ∙ ap (λ (k : ℤ). Ok (record { response = false; flags = flags; stream = k; opcode = o; length = n })) (to_z-of_z {w = w16} fits)

-- A lawful header is read from its bytes.
pub written_is_read : (h : Header) → IsLawful h → SFits w16 h.stream → heading (header_bytes h) ≡ Ok h
written_is_read h lawful fits = by_direction h.response h.flags h.length h.stream h.opcode lawful.plain lawful.direction lawful.bounded fits

-- ---- back

Conform : List (ℕ × Opcode) → Type 0
Conform [] = Unit {0}
Conform (entry ∷ table) = (code_of entry.1 ≡ entry.0) × Conform table

conforms : (t : Bool) (n : ℕ) (e : ℕ × Opcode) (rest : Option Opcode) (o : Opcode) → eqb n e.0 ≡ t → code_of e.1 ≡ e.0 → (rest ≡ Some o → code_of o ≡ n) → cond t (Some e.1) rest ≡ Some o → code_of o ≡ n
conforms true n e rest o is code later found = let same : e.1 ≡ o = cc in rw (← same) (code ∙ sym (eqb-true _ _ is))
conforms false n e rest o is code later found = later found

code_found : (n : ℕ) (table : List (ℕ × Opcode)) (o : Opcode) → Conform table → beside_number n table ≡ Some o → code_of o ≡ n
unfolding Conform
code_found n [] o all found = absurd cc
code_found n (entry ∷ table) o all found = conforms (eqb n entry.0) n entry (beside_number n table) o refl all.0 (code_found n table o all.1) found

opcodes_conform : Conform opcodes
unfolding Conform
opcodes_conform = (refl, (refl, (refl, (refl, (refl, (refl, (refl, (refl, (refl, (refl, (refl, (refl, (refl, (refl, (refl, (refl, tt))))))))))))))))

same_true : (a b : Bool) → same a b ≡ true → a ≡ b
same_true true b s = sym s
same_true false true s = absurd cc
same_true false false s = refl

-- what a header that was read says of its bytes
record Known (b : List ℕ) (h : Header) : Type 0 where
  version : ((eqb (slice_index b 0) 4) || (eqb (slice_index b 0) 132)) ≡ true
  plain : has (slice_index b 1) 1 ≡ false
  opcode : beside_number (slice_index b 4) opcodes ≡ Some h.opcode
  direction : answers h.opcode ≡ h.response
  bounded : h.length ≤ 268435456
  response : h.response ≡ eqb (slice_index b 0) 132
  flags : h.flags ≡ slice_index b 1
  stream : h.stream ≡ cast_signed w16 (from_be_bytes w16 (take 2 (drop 2 b)))
  long : h.length ≡ from_be_bytes w32 (take 4 (drop 5 b))

chosen : {A E : Type 0} (t : Bool) (x : Result A E) (e : E) (v : A) → cond t x (Err e) ≡ Ok v → (t ≡ true) × (x ≡ Ok v)
chosen true x e v s = (refl, s)
chosen false x e v s = absurd cc

passed : {A E : Type 0} (t : Bool) (x : Result A E) (e : E) (v : A) → cond t (Err e) x ≡ Ok v → (t ≡ false) × (x ≡ Ok v)
passed true x e v s = absurd cc
passed false x e v s = (refl, s)

same_ok : {A E : Type 0} (x y : A) → ◌≡◌ {A = Result A E} (Ok x) (Ok y) → x ≡ y
same_ok x y s = cc

bytes_2 : (a b : ℕ) → a < 256 → b < 256 → (i : ℕ) → get_or (a ∷ b ∷ []) i 0 < 256
bytes_2 a b p q zero = p
bytes_2 a b p q (suc zero) = q
bytes_2 a b p q (suc (suc i)) = lit< tt

bytes_4 : (a b c d : ℕ) → a < 256 → b < 256 → c < 256 → d < 256 → (i : ℕ) → get_or (a ∷ b ∷ c ∷ d ∷ []) i 0 < 256
bytes_4 a b c d p q r s zero = p
bytes_4 a b c d p q r s (suc zero) = q
bytes_4 a b c d p q r s (suc (suc i)) = bytes_2 c d r s i

nine : {v flags code b0 b1 b4 : ℕ} {stream long xs ys : List ℕ} → v ≡ b0 → flags ≡ b1 → stream ≡ xs → code ≡ b4 → long ≡ ys → (v ∷ flags ∷ stream) ++ (code ∷ long) ≡ (b0 ∷ b1 ∷ xs) ++ (b4 ∷ ys)
nine a b c d e = cc

known_by : (b : List ℕ) (h : Header) (o : Option Opcode) → beside_number (slice_index b 4) opcodes ≡ o → ((eqb (slice_index b 0) 4) || (eqb (slice_index b 0) 132)) ≡ true → has (slice_index b 1) 1 ≡ false
    → heading_of (eqb (slice_index b 0) 132) b o ≡ Ok h → Known b h
known_by b h None is version plain s = absurd cc
known_by b h (Some o) is version plain s =
    let n = from_be_bytes w32 (take 4 (drop 5 b)) in
    let direction = chosen (same (answers o) (eqb (slice_index b 0) 132)) _ (4, BadDirection) h s in
    let bounded = passed (ltb 268435456 n) _ (5, BadLength) h direction.1 in
    let all = same_ok {E = ℕ × Reason} _ h bounded.1 in
    rw (← all) (record {
      version = version;
      plain = plain;
      opcode = is;
      direction = same_true _ _ direction.0;
      bounded = omega (arith, ltb-false _ _ bounded.0);
      response = refl;
      flags = refl;
      stream = refl;
      long = refl;
    })

known : (b : List ℕ) (h : Header) → heading b ≡ Ok h → Known b h
unfolding heading
known b h s =
    let version = chosen ((eqb (slice_index b 0) 4) || (eqb (slice_index b 0) 132)) _ (0, BadVersion) h s in
    let plain = passed (has (slice_index b 1) 1) _ (1, Compressed) h version.1 in
    known_by b h (beside_number (slice_index b 4) opcodes) refl version.0 plain.0 plain.1

version_is : (b0 : ℕ) (response t : Bool) → ((eqb b0 4) || t) ≡ true → response ≡ t → eqb b0 132 ≡ t → cond response 132 4 ≡ b0
version_is b0 response true version is at = rw is (sym (eqb-true _ _ at))
version_is b0 response false version is at = rw is (elim (or_cases _ _ version) [ inl x ↦ sym (eqb-true _ _ x) | inr y ↦ absurd cc ])

-- A header that is read is lawful, and its bytes are those that it was read from.
pub read_is_lawful : (b : List ℕ) (h : Header) → heading b ≡ Ok h → IsLawful h
read_is_lawful b h s = let k = known b h s in record { plain = rw k.flags k.plain; direction = k.direction; bounded = k.bounded }

pub read_is_written : (b : List ℕ) (h : Header) → length b ≡ 9 → ((i : ℕ) → i < 9 → get_or b i 0 < 256) → heading b ≡ Ok h → header_bytes h ≡ b
read_is_written [] h e bytes s = absurd (omega (arith, e))
read_is_written (b0 ∷ []) h e bytes s = absurd (omega (arith, e))
read_is_written (b0 ∷ b1 ∷ []) h e bytes s = absurd (omega (arith, e))
read_is_written (b0 ∷ b1 ∷ b2 ∷ []) h e bytes s = absurd (omega (arith, e))
read_is_written (b0 ∷ b1 ∷ b2 ∷ b3 ∷ []) h e bytes s = absurd (omega (arith, e))
read_is_written (b0 ∷ b1 ∷ b2 ∷ b3 ∷ b4 ∷ []) h e bytes s = absurd (omega (arith, e))
read_is_written (b0 ∷ b1 ∷ b2 ∷ b3 ∷ b4 ∷ b5 ∷ []) h e bytes s = absurd (omega (arith, e))
read_is_written (b0 ∷ b1 ∷ b2 ∷ b3 ∷ b4 ∷ b5 ∷ b6 ∷ []) h e bytes s = absurd (omega (arith, e))
read_is_written (b0 ∷ b1 ∷ b2 ∷ b3 ∷ b4 ∷ b5 ∷ b6 ∷ b7 ∷ []) h e bytes s = absurd (omega (arith, e))
read_is_written (b0 ∷ b1 ∷ b2 ∷ b3 ∷ b4 ∷ b5 ∷ b6 ∷ b7 ∷ b8 ∷ x ∷ rest) h e bytes s = absurd (omega (arith, e))
read_is_written (b0 ∷ b1 ∷ b2 ∷ b3 ∷ b4 ∷ b5 ∷ b6 ∷ b7 ∷ b8 ∷ []) h e bytes s =
    let k = known (b0 ∷ b1 ∷ b2 ∷ b3 ∷ b4 ∷ b5 ∷ b6 ∷ b7 ∷ b8 ∷ []) h s in
    let version : cond h.response 132 4 ≡ b0 = version_is b0 h.response (eqb b0 132) k.version k.response refl in
    let high : b2 < 256 = bytes 2 (lit< tt) in
    let low : b3 < 256 = bytes 3 (lit< tt) in
    let id : Fits w16 (b2 * 256 + b3) = omega arith in
    let bits : of_z w16 h.stream ≡ b2 * 256 + b3 = ap (λ (z : ℤ). of_z w16 z) k.stream ∙ of_z-to_z {w = w16} id in
    let stream : to_be_bytes w16 (of_z w16 h.stream) ≡ b2 ∷ b3 ∷ [] = be_bytes_2 (b2 ∷ b3 ∷ []) _ refl (bytes_2 b2 b3 high low) bits in
    let long : to_be_bytes w32 h.length ≡ b5 ∷ b6 ∷ b7 ∷ b8 ∷ [] = be_bytes_4 (b5 ∷ b6 ∷ b7 ∷ b8 ∷ []) _ refl (bytes_4 b5 b6 b7 b8 (bytes 5 (lit< tt)) (bytes 6 (lit< tt)) (bytes 7 (lit< tt)) (bytes 8 (lit< tt))) k.long in
    let code : code_of h.opcode ≡ b4 = code_found b4 opcodes h.opcode opcodes_conform k.opcode in
    nine version k.flags stream code long
