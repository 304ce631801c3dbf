-- Values that fit are spelled by the bytes that are written of them, and values that bytes spell fit.
use Rattle.std.proofs.Common.{◌≡◌, ◌≢◌, ℕ, suc, ◌<◌, ◌^◌, ◌&&◌, true, eqb, ltb, cond, List, [], ◌++◌, length, refl, sym, ap, ◌∙◌, subst, arith, lit<}
use Rattle.std.specs.Prelude.{Option, Some, None}
use Rattle.std.proofs.lemmas.Bool.{ltb-true, eqb-true, eq-eqb, lt-ltb}
use Rattle.std.proofs.lemmas.List.{length-append}
use Rattle.cqlp_note.specs.declared.field.Notation.TheVariants as notation
use Rattle.cqlp_note.specs.Field.{Bytes, Count}
use Rattle.cqlp_note.specs.Heading.{beside_number}
use Rattle.cqlp_note.specs.Spelling.{Spells, field_bytes}
use Rattle.cqlp_note.proofs.Small.{Small, small_front, small_back}
use Rattle.cqlp_note.proofs.WrittenFields.{field_written}
use Rattle.cqlp_kind.specs.declared.kind.Kind.{Kind}
use Rattle.cqlp_kind.specs.declared.kind.Kind.TheVariants as kind
use Rattle.cqlp_kind.specs.Types.{Types, NoMore, Type_and, first_types, kinds, id_of, is_kind}
use Rattle.cqlp_kind.specs.Scalars.{kind_of, content_of, scalar_fits}
use Rattle.cqlp_cell.specs.Sizes.{is_counted}
use Rattle.cqlp_value.specs.Values.{Values, NoValue, Null_and, Empty_and, Scalar_and, Counted_and, Fields_and, values_in, type_copies, has_fields, IsBytes, IsScalar, ValuesSpell, ValueSpells, values_size, values_bytes, values_fit, value_fits, AreInRange}
use Rattle.cqlp_value.proofs.ScalarsWritten.{both_true, scalar_written, scalar_read_fits}

-- ---- kinds

abbrev kind_at : ℕ → Option Kind
kind_at n = cond (eqb n 0x10000) (Some kind.Raw) (beside_number n kinds)

kind_conforms : (k : Kind) → kind_at (id_of k) ≡ Some k
kind_conforms kind.Custom = refl
kind_conforms kind.Ascii = refl
kind_conforms kind.Bigint = refl
kind_conforms kind.Blob = refl
kind_conforms kind.Boolean = refl
kind_conforms kind.Counter = refl
kind_conforms kind.Decimal = refl
kind_conforms kind.Double = refl
kind_conforms kind.Float = refl
kind_conforms kind.Int = refl
kind_conforms kind.Timestamp = refl
kind_conforms kind.Uuid = refl
kind_conforms kind.Varchar = refl
kind_conforms kind.Varint = refl
kind_conforms kind.Timeuuid = refl
kind_conforms kind.Inet = refl
kind_conforms kind.Date = refl
kind_conforms kind.Time = refl
kind_conforms kind.Smallint = refl
kind_conforms kind.Tinyint = refl
kind_conforms kind.List = refl
kind_conforms kind.Map = refl
kind_conforms kind.Set = refl
kind_conforms kind.Udt = refl
kind_conforms kind.Tuple = refl
kind_conforms kind.Raw = refl

pub is_the_kind : (j k : Kind) → is_kind j k ≡ true → j ≡ k
is_the_kind j k t =
    let same : Some j ≡ Some k = sym (kind_conforms j) ∙ ap kind_at (eqb-true (id_of j) (id_of k) t) ∙ kind_conforms k in
    cc

pub kind_is : (j k : Kind) → j ≡ k → is_kind j k ≡ true
kind_is j k e = eq-eqb (id_of j) (id_of k) (ap id_of e)

-- ---- the fields of values

pub null_spelled : IsBytes None (field_bytes notation.Bytes32 (Bytes None))
null_spelled = field_written notation.Bytes32 (Bytes None) tt refl refl

pub bytes_spelled : (c : List ℕ) → length c < 2 ^ 31 → IsBytes (Some c) (field_bytes notation.Bytes32 (Bytes (Some c)))
bytes_spelled c low = field_written notation.Bytes32 (Bytes (Some c)) tt refl (lt-ltb (length c) (2 ^ 31) low)

pub count_spelled : (n : ℕ) → n < 2 ^ 31 → Spells notation.Count32 (Count n) (field_bytes notation.Count32 (Count n))
count_spelled n low = field_written notation.Count32 (Count n) tt (lt-ltb n (2 ^ 31) low) refl

count_small : (n : ℕ) (b : List ℕ) → Spells notation.Count32 (Count n) b → n < 2 ^ 31
unfolding Spells
count_small n b s = s.1

-- ---- bytes in bytes

small_content : (c b : List ℕ) → IsBytes (Some c) b → Small b → Small c
unfolding Spells
small_content c b s all = small_back b s.0.head c s.0.parts all

-- ---- what is written

-- It has as many bytes as its size says.
pub written_size : (vs : Values) → length (values_bytes vs) ≡ values_size vs
written_size NoValue = refl
written_size (Null_and vs) = omega (arith, written_size vs)
written_size (Empty_and vs) = omega (arith, written_size vs)
written_size (Scalar_and v vs) = omega (arith, length-append (content_of v) (values_bytes vs), written_size vs)
written_size (Counted_and k n items vs) = omega (arith, length-append (values_bytes items) (values_bytes vs), written_size items, written_size vs)
written_size (Fields_and k items vs) = omega (arith, length-append (values_bytes items) (values_bytes vs), written_size items, written_size vs)

some_size : (vs : Values) → 0 < values_in vs → 0 < values_size vs
some_size NoValue lt = omega arith
some_size (Null_and vs) lt = omega arith
some_size (Empty_and vs) lt = omega arith
some_size (Scalar_and v vs) lt = omega arith
some_size (Counted_and k n items vs) lt = omega arith
some_size (Fields_and k items vs) lt = omega arith

-- Values that fit are spelled by what is written of them.
pub values_written : (ts : Types) (vs : Values) → AreInRange vs → values_fit ts vs ≡ true → values_size vs < 2 ^ 31 → ValuesSpell ts vs (values_bytes vs)
values_written NoMore NoValue r fits low = refl
values_written (Type_and k inner ts) (Null_and vs) r fits low =
    record { front = field_bytes notation.Bytes32 (Bytes None); back = values_bytes vs; whole = refl; this = null_spelled; that = values_written ts vs r fits (omega arith) }
values_written (Type_and k inner ts) (Empty_and vs) r fits low =
    record { front = field_bytes notation.Bytes32 (Bytes (Some [])); back = values_bytes vs; whole = refl; this = bytes_spelled [] (lit< tt); that = values_written ts vs r fits (omega arith) }
values_written (Type_and k inner ts) (Scalar_and v vs) r fits low =
    let c = content_of v in
    let a = both_true (is_kind (kind_of v) k && scalar_fits v) (values_fit ts vs) fits in
    let b = both_true (is_kind (kind_of v) k) (scalar_fits v) a.0 in
    let is : IsScalar k v c = subst (λ (j : Kind). IsScalar j v c) (is_the_kind (kind_of v) k b.0) (scalar_written v r.0 b.1) in
    (c, is, record { front = field_bytes notation.Bytes32 (Bytes (Some c)); back = values_bytes vs; whole = refl; this = bytes_spelled c (omega arith); that = values_written ts vs r.1 a.1 (omega arith) })
values_written (Type_and k inner ts) (Counted_and j n items vs) r fits low =
    let a = both_true (is_kind j k && is_counted k && ltb n (2 ^ 31) && values_fit (type_copies n inner) items) (values_fit ts vs) fits in
    let b = both_true (is_kind j k && is_counted k && ltb n (2 ^ 31)) (values_fit (type_copies n inner) items) a.0 in
    let d = both_true (is_kind j k && is_counted k) (ltb n (2 ^ 31)) b.0 in
    let e = both_true (is_kind j k) (is_counted k) d.0 in
    let count = field_bytes notation.Count32 (Count n) in
    let c = count ++ values_bytes items in (
      is_the_kind j k e.0,
      e.1,
      c,
      record { front = count; back = values_bytes items; whole = refl; this = count_spelled n (ltb-true n (2 ^ 31) d.1); that = values_written (type_copies n inner) items r.0 b.1 (omega arith) },
      record { front = field_bytes notation.Bytes32 (Bytes (Some c)); back = values_bytes vs; whole = refl; this = bytes_spelled c (omega (arith, written_size items)); that = values_written ts vs r.1 a.1 (omega arith) },
    )
values_written (Type_and k inner ts) (Fields_and j items vs) r fits low =
    let its = first_types (values_in items) inner in
    let a = both_true (is_kind j k && has_fields k && ltb 0 (values_in items) && values_fit its items) (values_fit ts vs) fits in
    let b = both_true (is_kind j k && has_fields k && ltb 0 (values_in items)) (values_fit its items) a.0 in
    let d = both_true (is_kind j k && has_fields k) (ltb 0 (values_in items)) b.0 in
    let e = both_true (is_kind j k) (has_fields k) d.0 in
    let c = values_bytes items in
    let ne : c ≢ [] = λ none. omega (arith, written_size items, some_size items (ltb-true 0 (values_in items) d.1), ap length none) in (
      is_the_kind j k e.0,
      e.1,
      c,
      ne,
      values_written its items r.0 b.1 (omega arith),
      record { front = field_bytes notation.Bytes32 (Bytes (Some c)); back = values_bytes vs; whole = refl; this = bytes_spelled c (omega (arith, written_size items)); that = values_written ts vs r.1 a.1 (omega arith) },
    )
values_written ts vs r fits low = absurd cc

pub value_written : (k : Kind) (inner : Types) (v : Values) → AreInRange v → value_fits k inner v ≡ true → values_size v < 2 ^ 31 → ValueSpells k inner v (values_bytes v) × (length (values_bytes v) ≡ values_size v)
value_written k inner v r fits low = (values_written (Type_and k inner NoMore) v r fits low, written_size v)

-- ---- what is spelled

some_items : (items : Values) (inner : Types) (c : List ℕ) → c ≢ [] → ValuesSpell (first_types (values_in items) inner) items c → ltb 0 (values_in items) ≡ true
some_items NoValue inner c ne s = absurd (ne s)
some_items (Null_and vs) inner c ne s = lt-ltb 0 (suc (values_in vs)) (omega arith)
some_items (Empty_and vs) inner c ne s = lt-ltb 0 (suc (values_in vs)) (omega arith)
some_items (Scalar_and v vs) inner c ne s = lt-ltb 0 (suc (values_in vs)) (omega arith)
some_items (Counted_and k n items vs) inner c ne s = lt-ltb 0 (suc (values_in vs)) (omega arith)
some_items (Fields_and k items vs) inner c ne s = lt-ltb 0 (suc (values_in vs)) (omega arith)

-- Values that bytes spell fit, and are in range.
pub spelled_fit : (ts : Types) (vs : Values) (b : List ℕ) → ValuesSpell ts vs b → Small b → (values_fit ts vs ≡ true) × AreInRange vs
spelled_fit NoMore NoValue b s all = (refl, tt)
spelled_fit (Type_and k inner ts) (Null_and vs) b s all = spelled_fit ts vs s.back s.that (small_back b s.front s.back s.whole all)
spelled_fit (Type_and k inner ts) (Empty_and vs) b s all = spelled_fit ts vs s.back s.that (small_back b s.front s.back s.whole all)
spelled_fit (Type_and k inner ts) (Scalar_and v vs) b s all =
    let m = s.2 in
    let this = scalar_read_fits k v s.0 (small_content s.0 m.front m.this (small_front b m.front m.back m.whole all)) s.1 in
    let rest = spelled_fit ts vs m.back m.that (small_back b m.front m.back m.whole all) in
    (rw (kind_is (kind_of v) k this.0, this.1) rest.0, (this.2, rest.1))
spelled_fit (Type_and k inner ts) (Counted_and j n items vs) b s all =
    let c = s.3 in
    let m = s.4 in
    let inside = small_content s.2 m.front m.this (small_front b m.front m.back m.whole all) in
    let these = spelled_fit (type_copies n inner) items c.back c.that (small_back s.2 c.front c.back c.whole inside) in
    let rest = spelled_fit ts vs m.back m.that (small_back b m.front m.back m.whole all) in
    (rw (kind_is j k s.0, s.1, lt-ltb n (2 ^ 31) (count_small n c.front c.this), these.0) rest.0, (these.1, rest.1))
spelled_fit (Type_and k inner ts) (Fields_and j items vs) b s all =
    let m = s.5 in
    let inside = small_content s.2 m.front m.this (small_front b m.front m.back m.whole all) in
    let these = spelled_fit (first_types (values_in items) inner) items s.2 s.4 inside in
    let rest = spelled_fit ts vs m.back m.that (small_back b m.front m.back m.whole all) in
    (rw (kind_is j k s.0, s.1, some_items items inner s.2 s.3 s.4, these.0) rest.0, (these.1, rest.1))
spelled_fit ts vs b s all = absurd s

pub value_spelled_fits : (k : Kind) (inner : Types) (v : Values) (b : List ℕ) → ValueSpells k inner v b → Small b → (value_fits k inner v ≡ true) × AreInRange v
value_spelled_fits k inner v b s all = spelled_fit (Type_and k inner NoMore) v b s all
