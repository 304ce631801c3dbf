-- Readers that refuse by no limit.
use Rattle.std.proofs.Common.{◌≡◌, ℕ, ◌+◌, Bool, true, false, ◌||◌, eqb, ltb, cond, List, length, take, drop, Option, Some, None, Ok, Err, refl, sym, inl, inr}
use Rattle.std.specs.Int.{Width, w8, w16, w32, w64, from_be_bytes}
use Rattle.std.proofs.lemmas.Bool.{cases_lt, lt-ltb, le-ltb}
use Rattle.cqlp_note.specs.declared.field.Field.{Field}
use Rattle.cqlp_note.specs.declared.field.Notation.{Notation}
use Rattle.cqlp_note.specs.declared.field.Notation.TheVariants as notation
use Rattle.cqlp_note.specs.declared.opcode.Opcode.{Opcode}
use Rattle.cqlp_note.specs.declared.header.Header.{Header}
use Rattle.cqlp_note.specs.declared.refusal.Reason.{Reason}
use Rattle.cqlp_note.specs.declared.refusal.Reason.TheVariants.{Overrun, BadVersion, Compressed, BadOpcode, BadDirection, BadLength, BadBatchKind, BadBatchFlags}
use Rattle.cqlp_note.specs.Reader.{Said, More, Bad, Got, Reader, Gives, Refuses, Takes, Idles, says, number_of}
use Rattle.cqlp_note.specs.Field.{FieldValue, FieldReader, field_of, is_negative, text_of}
use Rattle.cqlp_note.specs.Step.{Step, after_field}
use Rattle.cqlp_note.specs.Heading.{Heading, heading, heading_of, has}
use Rattle.std.specs.Str.{is_utf8}
use Rattle.cqlp_kind.specs.declared.kind.Kind.{Kind}
use Rattle.cqlp_kind.specs.declared.kind.Kind.TheVariants as kind
use Rattle.cqlp_kind.specs.Types.{Types}
use Rattle.cqlp_kind.specs.Scalars.{ScalarValue, fault_of}
use Rattle.cqlp_kind.specs.CellStep.{CellSymbol, CellPlace, leaf_step, close_step, counted_step}
use Rattle.cqlp_grammar.specs.declared.grammar.Role.{Role}
use Rattle.cqlp_grammar.specs.declared.grammar.Role.TheVariants as role
use Rattle.cqlp_grammar.specs.Productions.{Symbol, number_in, fault_in}
use Rattle.cqlp_laws.specs.Limits.{IsOfLimit}
use Rattle.cqlp_decode.specs.Reading.{Place, header_step, value_step}

abbrev pub AtLimit : ℕ × Reason → Type 0
AtLimit fault = IsOfLimit fault.1

-- what is said is no refusal of this kind
abbrev pub IsClean : {A F : Type 0} → (F → Type 0) → Said A F → Type 0
IsClean L More = Unit {0}
IsClean L (Got v k) = Unit {0}
IsClean L (Bad why) = L why → ⊥

-- a reader that has none
abbrev pub NeverBy : {A F : Type 0} → (F → Type 0) → Reader A F → Type 0
NeverBy L (Gives v) = Unit {0}
NeverBy L Idles = Unit {0}
NeverBy L (Refuses why) = L why → ⊥
NeverBy L (Takes n next) = (c : List ℕ) → NeverBy L (next c)

module _ {A F : Type 0} (L : F → Type 0) where
  pub clean_says : (r : Reader A F) (taken : ℕ) (bytes : List ℕ) → NeverBy L r → IsClean L (says r taken bytes)
  clean_says (Gives v) taken bytes never = tt
  clean_says Idles taken bytes never = tt
  clean_says (Refuses why) taken bytes never = never
  clean_says (Takes n next) taken bytes never = elim (cases_lt (length bytes) n) [
    | inl lt ↦ rw (lt-ltb _ _ lt) tt
    | inr le ↦ rw (le-ltb _ _ le) (clean_says (next (take n bytes)) (taken + n) (drop n bytes) (never (take n bytes)))
  ]

  pub either_never : (t : Bool) (a b : Reader A F) → NeverBy L a → NeverBy L b → NeverBy L (cond t a b)
  either_never true a b h k = h
  either_never false a b h k = k

  pub number_never : (fault : F) (k : ℕ) (w : Width) (room : ℕ) (next : ℕ → Reader A F) → (L fault → ⊥) → ((n : ℕ) → NeverBy L (next n)) → NeverBy L (number_of fault k w room next)
  unfolding number_of
  number_never fault k w room next plain never = either_never (ltb room k) (Refuses fault) (Takes k (λ b. next (from_be_bytes w b))) plain (λ c. never (from_be_bytes w c))

pub after_never : {E P : Type 0} (at : ℕ) (r : FieldReader) (next : FieldValue → Step E P) → NeverBy IsOfLimit r → ((v : FieldValue) → NeverBy AtLimit (next v)) → NeverBy AtLimit (after_field at r next)
after_never at (Gives v) next never later = later v
after_never at Idles next never later = tt
after_never at (Refuses why) next never later = never
after_never at (Takes n f) next never later = λ c. after_never at (f c) next (never c) later

-- ---- fields that have no limit

pub text_never : (c : List ℕ) → NeverBy IsOfLimit (text_of c)
text_never c = either_never IsOfLimit (is_utf8 c) _ _ tt (λ e. e)

module _ (limit room : ℕ) where
  abbrev HasNone : Notation → Type 0
  HasNone n = NeverBy IsOfLimit (field_of n limit room)

  pub byte_never : HasNone notation.Byte
  unfolding field_of
  byte_never = number_never IsOfLimit _ 1 w8 room _ (λ e. e) (λ n. tt)

  pub short_never : HasNone notation.Short
  unfolding field_of
  short_never = number_never IsOfLimit _ 2 w16 room _ (λ e. e) (λ n. tt)

  pub int_never : HasNone notation.Int
  unfolding field_of
  int_never = number_never IsOfLimit _ 4 w32 room _ (λ e. e) (λ n. tt)

  pub long_never : HasNone notation.Long
  unfolding field_of
  long_never = number_never IsOfLimit _ 8 w64 room _ (λ e. e) (λ n. tt)

  pub uuid_never : HasNone notation.Uuid
  unfolding field_of
  uuid_never = either_never IsOfLimit (ltb room 16) _ _ (λ e. e) (λ c. tt)

  pub count_never : HasNone notation.Count16
  unfolding field_of
  count_never = number_never IsOfLimit _ 2 w16 room _ (λ e. e) (λ n. tt)

  pub wide_count_never : HasNone notation.Count32
  unfolding field_of
  wide_count_never = number_never IsOfLimit _ 4 w32 room _ (λ e. e) (λ n. either_never IsOfLimit (is_negative n) _ _ (λ e. e) tt)

  pub inet_never : HasNone notation.Inet
  unfolding field_of
  inet_never = number_never IsOfLimit _ 1 w8 room _ (λ e. e) (λ n. either_never IsOfLimit (eqb n 4 || eqb n 16) _ _ (either_never IsOfLimit (ltb room (n + 5)) _ _ (λ e. e) (λ c d. tt)) (λ e. e))

-- ---- reasons that are no limit's

pub scalar_fault : (k : Kind) → IsOfLimit (fault_of k) → ⊥
scalar_fault kind.Varchar e = e
scalar_fault k e = e

abbrev IsPlain : Option Reason → Type 0
IsPlain None = Unit {0}
IsPlain (Some why) = IsOfLimit why → ⊥

plain_if : (t : Bool) (o : Option Reason) → IsPlain o → IsPlain (cond t o None)
plain_if true o plain = plain
plain_if false o plain = tt

pub role_fault : (r : Role) (v : FieldValue) → IsPlain (fault_in r v)
role_fault role.EntryKind v = plain_if (ltb 1 (number_in v)) (Some BadBatchKind) (λ e. e)
role_fault role.BatchFlags v = plain_if (has (number_in v) 0x4F) (Some BadBatchFlags) (λ e. e)
role_fault r v = tt

pub record IsPlainHeading (h : Heading) : Type 0 where
  pub plain : (e : ℕ × Reason) → h ≡ Err e → IsOfLimit e.1 → ⊥

plain_either : (t : Bool) (a b : Heading) → IsPlainHeading a → IsPlainHeading b → IsPlainHeading (cond t a b)
plain_either true a b h k = h
plain_either false a b h k = k

header_plain : (h : Header) → IsPlainHeading (Ok h)
header_plain h = record { plain = λ e is limit. absurd cc }

same_fault : (x y : ℕ × Reason) → ◌≡◌ {A = Heading} (Err x) (Err y) → x ≡ y
same_fault x y is = cc

fault_plain : (k : ℕ) (why : Reason) → (IsOfLimit why → ⊥) → IsPlainHeading (Err (k, why))
fault_plain k why plain = record { plain = λ e is limit. let one : e ≡ (k, why) = sym (same_fault (k, why) e is) in plain (rw one at limit) }

heading_of_plain : (response : Bool) (b : List ℕ) (o : Option Opcode) → IsPlainHeading (heading_of response b o)
heading_of_plain response b None = fault_plain 4 BadOpcode (λ e. e)
heading_of_plain response b (Some o) = plain_either _ _ _ (plain_either _ _ _ (fault_plain 5 BadLength (λ e. e)) (header_plain _)) (fault_plain 4 BadDirection (λ e. e))

pub heading_plain : (b : List ℕ) → IsPlainHeading (heading b)
unfolding heading
heading_plain b = plain_either _ _ _ (plain_either _ _ _ (fault_plain 1 Compressed (λ e. e)) (heading_of_plain _ b _)) (fault_plain 0 BadVersion (λ e. e))

-- ---- steps

module _ (p : CellPlace) (rest : List CellSymbol) (level : ℕ) where
  pub leaf_never : (k : Kind) (o : Option ScalarValue) → NeverBy AtLimit (leaf_step p rest level k o)
  leaf_never k None = scalar_fault k
  leaf_never k (Some v) = tt

  pub close_never : (stop taken : ℕ) → NeverBy AtLimit (close_step p rest level stop taken)
  close_never stop taken = either_never AtLimit (ltb p.offset stop) _ _ (λ e. e) tt

  pub counted_never : (k : Kind) (inner : Types) (n : ℕ) → NeverBy AtLimit (counted_step p rest level k inner n)
  counted_never k inner n = number_never AtLimit (p.offset + 4, Overrun) 4 w32 n _ (λ e. e) (λ count. either_never AtLimit (is_negative count) _ _ (λ e. e) tt)

pub header_never : (p : Place) (h : Heading) → IsPlainHeading h → NeverBy AtLimit (header_step p h)
header_never p (Err e) plain = plain.plain e refl
header_never p (Ok h) plain = tt

value_plain : (types : Bool) (p : Place) (f : Field) (r : Role) (rest : List Symbol) (v : FieldValue) (o : Option Reason) → IsPlain o → NeverBy AtLimit (value_step types p f r rest v o)
value_plain types p f r rest v None plain = tt
value_plain types p f r rest v (Some why) plain = plain

pub value_never : (types : Bool) (p : Place) (f : Field) (r : Role) (rest : List Symbol) (v : FieldValue) → NeverBy AtLimit (value_step types p f r rest v (fault_in r v))
value_never types p f r rest v = value_plain types p f r rest v (fault_in r v) (role_fault r v)
