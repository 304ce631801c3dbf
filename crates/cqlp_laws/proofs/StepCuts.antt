-- A step within limits is the step within wider ones, unless what begins there exceeds a limit: then it refuses.
use Rattle.std.proofs.Common.{◌≡◌, ℕ, ◌+◌, ◌-◌, ◌<◌, ◌≤◌, ◌^◌, Bool, true, false, eqb, ltb, leb, cond, List, [], ◌∷◌, length, drop, Option, Some, None, refl, sym, ap, ◌∙◌, inl, inr, arith}
use Rattle.std.specs.Int.{Width, w16, w32, from_be_bytes}
use Rattle.std.proofs.lemmas.Bool.{cases_lt, lt-ltb, le-ltb, lt-leb, le-leb, ltb-true, ltb-false, leb-true, eqb-true}
use Rattle.cqlp_note.specs.declared.field.Notation.{Notation}
use Rattle.cqlp_note.specs.declared.field.Notation.TheVariants as notation
use Rattle.cqlp_note.specs.declared.refusal.Reason.{Reason}
use Rattle.cqlp_note.specs.declared.refusal.Reason.TheVariants.{Overrun, BadCount, BadValueLength, TooLong, TooDeep, TooMany, StreamTooLong}
use Rattle.cqlp_note.specs.Reader.{Said, More, Bad, Got, Reader, Gives, Refuses, Takes, says, number_of}
use Rattle.cqlp_note.specs.Field.{FieldValue, FieldReader, Null, Unset, Known, Bytes, Bound, field_of, content_of, is_negative, text_of}
use Rattle.cqlp_note.specs.Step.{Emitted, Step, after_field, map_step}
use Rattle.cqlp_note.specs.Limits.{Rules, limit_of}
use Rattle.cqlp_note.specs.Heading.{heading, beside_number}
use Rattle.cqlp_note.proofs.Yields.{map_said, says_map, after_got, after_more, after_bad}
use Rattle.cqlp_kind.specs.declared.kind.Kind.{Kind}
use Rattle.cqlp_kind.specs.declared.kind.Kind.TheVariants as kind
use Rattle.cqlp_kind.specs.Types.{Types, NoMore, Type_and, kinds, has_no_items}
use Rattle.cqlp_kind.specs.TypeStep.{TypeSymbol, TypePlace, Option_at, Text_of, Fields_of, Whole, option_step, type_step_at, kind_or_lenient}
use Rattle.cqlp_kind.specs.Scalars.{size_or_lenient, scalar_or_lenient}
use Rattle.cqlp_kind.specs.CellStep.{CellSymbol, Value_of, Items_of, Close_of, Content_from, CellPlace, leaf_step, part_step, scalar_step, content_step, value_step, cell_step_at, lenient_excess}
use Rattle.cqlp_grammar.specs.Productions.{Symbol, Stream, In, In_type, Cell_due, In_cell, Extra}
use Rattle.cqlp_laws.specs.Excess.{with_limits, first_number, IsLong16, IsLong32, IsLongField, comes_in_parts, IsLongValue, IsLongInCell, IsOption, IsOver, ExceedsInType, ExceedsAt}
use Rattle.cqlp_laws.specs.Limits.{IsOfLimit}
use Rattle.cqlp_laws.proofs.Refusals.{AtLimit, IsClean, NeverBy, clean_says, either_never, after_never, text_never, byte_never, short_never, int_never, long_never, uuid_never, count_never, wide_count_never, inet_never, leaf_never, close_never, counted_never, header_never, value_never, heading_plain}
use Rattle.cqlp_decode.specs.Reading.{Place, settled, type_event, cell_event, place_of_types, place_of_cells, header_step, step_at}

-- ---- readers

-- One reader says what another does, which is no refusal by a limit, and nothing exceeds a limit; or it refuses what does.
pub data Cut {A F : Type 0} (L E : F → Type 0) (d e : Said A F) : Type 0 where
  same : d ≡ e → IsClean L d → ((why : F) → E why → ⊥) → Cut L E d e
  stops : (why : F) → E why → d ≡ Bad why → Cut L E d e

module _ {A F : Type 0} (L E : F → Type 0) (taken : ℕ) (bytes : List ℕ) where
  abbrev Cuts : Reader A F → Reader A F → Type 0
  Cuts r s = Cut L E (says r taken bytes) (says s taken bytes)

  alike : (r : Reader A F) → NeverBy L r → ((why : F) → E why → ⊥) → Cuts r r
  alike r never none = same refl (clean_says L r taken bytes never) none

  either_cut : (t : Bool) (a b c d : Reader A F) → (t ≡ true → Cuts a c) → (t ≡ false → Cuts b d) → Cuts (cond t a b) (cond t c d)
  either_cut true a b c d h k = h refl
  either_cut false a b c d h k = k refl

  -- a limit on n
  limit_cut : (m wide n : ℕ) (why : F) (r s : Reader A F) → m ≤ wide → (m < n → E why) → (n ≤ m → Cuts r s) → Cuts (cond (ltb m n) (Refuses why) r) (cond (ltb wide n) (Refuses why) s)
  limit_cut m wide n why r s le over within = elim (cases_lt m n) [
    | inl lt ↦ stops why (over lt) (rw (lt-ltb m n lt) refl)
    | inr ge ↦ rw (le-ltb m n ge, le-ltb wide n (omega (arith, le, ge))) (within ge)
  ]

  -- a limit that n stays below
  room_cut : (m wide n : ℕ) (why : F) (r s : Reader A F) → m ≤ wide → (m ≤ n → E why) → (n < m → Cuts r s) → Cuts (cond (leb m n) (Refuses why) r) (cond (leb wide n) (Refuses why) s)
  room_cut m wide n why r s le over within = elim (cases_lt n m) [
    | inl lt ↦ rw (lt-leb m n lt, lt-leb wide n (omega (arith, le, lt))) (within lt)
    | inr ge ↦ stops why (over ge) (rw (le-leb m n ge) refl)
  ]

  -- what goes by a number of k bytes
  number_cut : (fault : F) (k : ℕ) (w : Width) (room : ℕ) (next later : ℕ → Reader A F) → (L fault → ⊥) → ((why : F) → E why → (k ≤ room) × (k ≤ length bytes))
      → (k ≤ room → k ≤ length bytes → Cut L E (says (next (first_number k w bytes)) (taken + k) (drop k bytes)) (says (later (first_number k w bytes)) (taken + k) (drop k bytes)))
      → Cuts (number_of fault k w room next) (number_of fault k w room later)
  unfolding number_of
  number_cut fault k w room next later plain needs cut =
      either_cut (ltb room k) (Refuses fault) (Takes k (λ b. next (from_be_bytes w b))) (Refuses fault) (Takes k (λ b. later (from_be_bytes w b)))
      (λ t. same refl plain (λ why e. absurd (omega (arith, (needs why e).0, ltb-true _ _ t))))
      (λ t. elim (cases_lt (length bytes) k) [
        | inl lt ↦ rw (lt-ltb _ _ lt) (same refl tt (λ why e. absurd (omega (arith, (needs why e).1, lt))))
        | inr le ↦ rw (le-ltb _ _ le) (cut (ltb-false _ _ t) le)
      ])

pub got_is_not_bad : {A F : Type 0} (v : A) (k : ℕ) (why : F) → Got v k ≡ Bad why → ⊥
got_is_not_bad v k why is = cc

-- What is got within the limits is got within wider ones.
pub also_got : {A F : Type 0} (L E : F → Type 0) (d e : Said A F) (v : A) (k : ℕ) → Cut L E d e → d ≡ Got v k → e ≡ Got v k
also_got L E d e v k (same eq clean none) got = sym eq ∙ got
also_got L E d e v k (stops why x bad) got = absurd (got_is_not_bad v k why (sym got ∙ bad))

same_bad : {A F : Type 0} (x y : F) → ◌≡◌ {A = Said A F} (Bad x) (Bad y) → x ≡ y
same_bad x y is = cc

-- What a limit refuses exceeds it.
pub refused_exceeds : {A F : Type 0} (L E : F → Type 0) (d e : Said A F) (why : F) → Cut L E d e → d ≡ Bad why → L why → E why
refused_exceeds L E d e why (same eq clean none) bad limit = absurd ((rw bad at clean) limit)
refused_exceeds L E d e why (stops f x is) bad limit = let one : f ≡ why = same_bad f why (sym is ∙ bad) in rw one at x

-- ---- fields

module _ (E : Reason → Type 0) (taken : ℕ) (bytes : List ℕ) (m wide room : ℕ) (le : m ≤ wide) where
  content_cut : (k n : ℕ) (next : List ℕ → FieldReader) → ((c : List ℕ) → NeverBy IsOfLimit (next c)) → (k + n ≤ room → m < n → E TooLong) → ((how : Reason) → E how → (k + n ≤ room) × (m < n))
      → Cuts IsOfLimit E taken bytes (content_of k n m room next) (content_of k n wide room next)
  unfolding content_of
  content_cut k n next never over back =
      either_cut IsOfLimit E taken bytes (ltb room (k + n)) _ _ _ _
      (λ t. same refl (λ e. e) (λ how e. absurd (omega (arith, (back how e).0, ltb-true _ _ t))))
      (λ t. limit_cut IsOfLimit E taken bytes m wide n TooLong _ _ le (λ lt. over (ltb-false _ _ t) lt) (λ ge. alike IsOfLimit E taken bytes (Takes n next) never (λ how e. absurd (omega (arith, (back how e).1, ge)))))

module _ (bytes : List ℕ) (m wide room : ℕ) (le : m ≤ wide) (next : List ℕ → FieldReader) (never : (c : List ℕ) → NeverBy IsOfLimit (next c)) where
  abbrev Long16 : Reason → Type 0
  Long16 why = (why ≡ TooLong) × IsLong16 m room bytes

  abbrev Long32 : Reason → Type 0
  Long32 why = (why ≡ TooLong) × IsLong32 m room bytes

  short_cut : Cuts IsOfLimit Long16 0 bytes (number_of Overrun 2 w16 room (λ n. content_of 2 n m room next)) (number_of Overrun 2 w16 room (λ n. content_of 2 n wide room next))
  short_cut =
      number_cut IsOfLimit Long16 0 bytes Overrun 2 w16 room (λ n. content_of 2 n m room next) (λ n. content_of 2 n wide room next) (λ e. e) (λ how e. (omega (arith, e.1.fits), e.1.came)) (λ fits came.
      content_cut Long16 2 (drop 2 bytes) m wide room le 2 (first_number 2 w16 bytes) next never (λ fit lt. (refl, record { came = came; fits = fit; long = lt })) (λ how e. (e.1.fits, e.1.long)))

  -- a length of four bytes, which may be negative
  module _ (none : FieldReader) (plain : NeverBy IsOfLimit none) where
    signed_cut : 4 ≤ length bytes
        → Cuts IsOfLimit Long32 4 (drop 4 bytes) (cond (is_negative (first_number 4 w32 bytes)) none (content_of 4 (first_number 4 w32 bytes) m room next)) (cond (is_negative (first_number 4 w32 bytes)) none (content_of 4 (first_number 4 w32 bytes) wide room next))
    signed_cut came =
        let n = first_number 4 w32 bytes in
        either_cut IsOfLimit Long32 4 (drop 4 bytes) (is_negative n) _ _ _ _ (λ t. alike IsOfLimit Long32 4 (drop 4 bytes) none plain (λ how e. absurd (omega (arith, ltb-true _ _ t, e.1.0)))) (λ t.
        content_cut Long32 4 (drop 4 bytes) m wide room le 4 n next never (λ fit lt. (refl, (omega (arith, ltb-false _ _ t), record { came = came; fits = fit; long = lt }))) (λ how e. (e.1.1.fits, e.1.1.long)))

    int_cut : Cuts IsOfLimit Long32 0 bytes (number_of Overrun 4 w32 room (λ n. cond (is_negative n) none (content_of 4 n m room next))) (number_of Overrun 4 w32 room (λ n. cond (is_negative n) none (content_of 4 n wide room next)))
    int_cut =
        number_cut IsOfLimit Long32 0 bytes Overrun 4 w32 room (λ n. cond (is_negative n) none (content_of 4 n m room next)) (λ n. cond (is_negative n) none (content_of 4 n wide room next)) (λ e. e) (λ how e. (omega (arith, e.1.1.fits), e.1.1.came)) (λ fits came.
        signed_cut came)

-- a field's reason is reported at its first byte
abbrev pub AtFirst : (at : ℕ) → (Reason → Type 0) → ℕ × Reason → Type 0
AtFirst at E fault = (fault.0 ≡ at) × E fault.1

module _ {P Q : Type 0} (at : ℕ) (r s : FieldReader) (next : FieldValue → Step P Q) (bytes : List ℕ) where
  after_same : (d : Said FieldValue Reason) → says r 0 bytes ≡ d → says s 0 bytes ≡ d → says (after_field at r next) 0 bytes ≡ says (after_field at s next) 0 bytes
  after_same More a b = after_more at r next 0 bytes a ∙ sym (after_more at s next 0 bytes b)
  after_same (Bad why) a b = after_bad at r next 0 bytes why a ∙ sym (after_bad at s next 0 bytes why b)
  after_same (Got v k) a b = (after_got at r next 0 bytes v k a).1 ∙ sym (after_got at s next 0 bytes v k b).1

  after_clean : (d : Said FieldValue Reason) → says r 0 bytes ≡ d → IsClean IsOfLimit d → ((v : FieldValue) → NeverBy AtLimit (next v)) → IsClean AtLimit (says (after_field at r next) 0 bytes)
  after_clean More a clean never = rw (after_more at r next 0 bytes a) tt
  after_clean (Bad why) a clean never = rw (after_bad at r next 0 bytes why a) clean
  after_clean (Got v k) a clean never = rw ((after_got at r next 0 bytes v k a).1) (clean_says AtLimit (next v) k (drop (k - 0) bytes) (never v))

  after_cut : (E : Reason → Type 0) → ((v : FieldValue) → NeverBy AtLimit (next v)) → Cuts IsOfLimit E 0 bytes r s → Cuts AtLimit (AtFirst at E) 0 bytes (after_field at r next) (after_field at s next)
  after_cut E never (same eq clean none) = same (after_same (says s 0 bytes) eq refl) (after_clean (says r 0 bytes) refl clean never) (λ f e. none f.1 e.1)
  after_cut E never (stops why e bad) = stops (at, why) (refl, e) (after_bad at r next 0 bytes why bad)

module _ {P Q P' Q' : Type 0} (E : ℕ × Reason → Type 0) (f : P → P') (g : Q → Q') where
  map_clean : (d : Said (Emitted P Q) (ℕ × Reason)) → IsClean AtLimit d → IsClean AtLimit (map_said f g d)
  map_clean More clean = tt
  map_clean (Got x k) clean = tt
  map_clean (Bad why) clean = clean

  said_cut : (d e : Said (Emitted P Q) (ℕ × Reason)) → Cut AtLimit E d e → Cut AtLimit E (map_said f g d) (map_said f g e)
  said_cut d e (same eq clean none) = same (ap (map_said f g) eq) (map_clean d clean) none
  said_cut d e (stops why x bad) = stops why x (ap (map_said f g) bad)

  map_cut : (r s : Step P Q) (bytes : List ℕ) → Cuts AtLimit E 0 bytes r s → Cuts AtLimit E 0 bytes (map_step f g r) (map_step f g s)
  map_cut r s bytes cut = rw (says_map f g r 0 bytes, says_map f g s 0 bytes) (said_cut (says r 0 bytes) (says s 0 bytes) cut)

-- an option within its limits is not over them
not_over : (l : Rules) (depth n : ℕ) (why : Reason) → depth ≤ l.depth → n < l.entries → IsOver l depth n why → ⊥
not_over l depth n TooDeep a b over = omega (arith, a, over)
not_over l depth n TooMany a b over = omega (arith, b, over.1)
not_over l depth n why a b over = over

-- ---- steps

module _ (l : Rules) (text cell entries depth : ℕ) (texts : l.text ≤ text) (cells : l.cell ≤ cell) (nodes : l.entries ≤ entries) (levels : l.depth ≤ depth) where
  abbrev wide : Rules
  wide = with_limits l text cell entries depth

  module _ (room : ℕ) (bytes : List ℕ) where
    abbrev LongField : Notation → Reason → Type 0
    LongField n why = (why ≡ TooLong) × IsLongField l n room bytes

    abbrev FieldCut : Notation → Type 0
    FieldCut n = Cuts IsOfLimit (LongField n) 0 bytes (field_of n (limit_of l n) room) (field_of n (limit_of wide n) room)

    module _ (came : 4 ≤ length bytes) (next : List ℕ → FieldReader) (never : (c : List ℕ) → NeverBy IsOfLimit (next c)) where
      abbrev bound_of : (limit n : ℕ) → FieldReader
      bound_of limit n = cond (eqb n (2 ^ 32 - 1)) (Gives (Bound Null)) (cond (eqb n (2 ^ 32 - 2)) (Gives (Bound Unset)) (cond (is_negative n) (Refuses BadValueLength) (content_of 4 n limit room next)))

      bound_cut : Cuts IsOfLimit (LongField notation.Bound) 4 (drop 4 bytes) (bound_of l.cell (first_number 4 w32 bytes)) (bound_of cell (first_number 4 w32 bytes))
      bound_cut =
          let n = first_number 4 w32 bytes in
          let E = LongField notation.Bound in
          either_cut IsOfLimit E 4 (drop 4 bytes) (eqb n (2 ^ 32 - 1)) _ _ _ _ (λ t. same refl tt (λ how e. absurd (omega (arith, eqb-true _ _ t, e.1.0)))) (λ _.
          either_cut IsOfLimit E 4 (drop 4 bytes) (eqb n (2 ^ 32 - 2)) _ _ _ _ (λ t. same refl tt (λ how e. absurd (omega (arith, eqb-true _ _ t, e.1.0)))) (λ _.
          signed_cut bytes l.cell cell room cells next never (Refuses BadValueLength) (λ e. e) came))

    field_cut : (n : Notation) → FieldCut n
    unfolding field_of
    field_cut notation.Byte = same refl (clean_says IsOfLimit _ 0 bytes (byte_never 0 room)) (λ how e. e.1)
    field_cut notation.Short = same refl (clean_says IsOfLimit _ 0 bytes (short_never 0 room)) (λ how e. e.1)
    field_cut notation.Int = same refl (clean_says IsOfLimit _ 0 bytes (int_never 0 room)) (λ how e. e.1)
    field_cut notation.Long = same refl (clean_says IsOfLimit _ 0 bytes (long_never 0 room)) (λ how e. e.1)
    field_cut notation.Uuid = same refl (clean_says IsOfLimit _ 0 bytes (uuid_never 0 room)) (λ how e. e.1)
    field_cut notation.Count16 = same refl (clean_says IsOfLimit _ 0 bytes (count_never 0 room)) (λ how e. e.1)
    field_cut notation.Count32 = same refl (clean_says IsOfLimit _ 0 bytes (wide_count_never 0 room)) (λ how e. e.1)
    field_cut notation.Text16 = short_cut bytes l.text text room texts text_of text_never
    field_cut notation.Text32 = int_cut bytes l.text text room texts text_of text_never (Refuses BadCount) (λ e. e)
    field_cut notation.Bytes16 = short_cut bytes l.cell cell room cells (λ c. Gives (Bytes (Some c))) (λ c. tt)
    field_cut notation.Bytes32 = int_cut bytes l.cell cell room cells (λ c. Gives (Bytes (Some c))) (λ c. tt) (Gives (Bytes None)) tt
    field_cut notation.Bound = number_cut IsOfLimit (LongField notation.Bound) 0 bytes Overrun 4 w32 room _ _ (λ e. e) (λ how e. (omega (arith, e.1.1.fits), e.1.1.came)) (λ fits came. bound_cut came (λ c. Gives (Bound (Known c))) (λ c. tt))
    field_cut notation.Inet = same refl (clean_says IsOfLimit _ 0 bytes (inet_never 0 room)) (λ how e. e.1)
    field_cut (notation.Content n) = content_cut (LongField (notation.Content n)) 0 bytes l.cell cell room cells 0 n (λ c. Gives (Bytes (Some c))) (λ c. tt) (λ fit lt. (refl, (omega (arith, fit), lt))) (λ how e. (omega (arith, e.1.0), e.1.1))

  -- ---- type options

  module _ (p : TypePlace) (bytes : List ℕ) where
    abbrev InType : List TypeSymbol → ℕ × Reason → Type 0
    InType ss = AtFirst p.offset (ExceedsInType l (p.stop - p.offset) (length p.nodes) ss bytes)

    option_cut : (d : ℕ) (rest : List TypeSymbol) (o : Option Kind) → kind_or_lenient (beside_number (first_number 2 w16 bytes) kinds) l.lenient ≡ o → 2 ≤ p.stop - p.offset → 2 ≤ length bytes → Cuts AtLimit (InType (Option_at d ∷ rest)) 2 (drop 2 bytes) (option_step l d rest p o) (option_step wide d rest p o)
    option_cut d rest None is fits came = same refl (λ e. e) (λ f e. let no : None ≡ Some e.1.0.kind = sym is ∙ e.1.0.known in absurd cc)
    option_cut d rest (Some k) is fits came =
        let E = InType (Option_at d ∷ rest) in
        let it : IsOption l (p.stop - p.offset) bytes = record { came = came; fits = fits; kind = k; known = is } in
        limit_cut AtLimit E 2 (drop 2 bytes) l.depth depth d (p.offset, TooDeep) _ _ levels (λ lt. (refl, (it, lt))) (λ deep.
        room_cut AtLimit E 2 (drop 2 bytes) l.entries entries (length p.nodes) (p.offset, TooMany) _ _ nodes (λ full. (refl, (it, (deep, full)))) (λ some.
        same refl tt (λ f e. not_over l d (length p.nodes) f.1 deep some e.1.1)))

    type_cut : (ss : List TypeSymbol) → Cuts AtLimit (InType ss) 0 bytes (type_step_at l p ss) (type_step_at wide p ss)
    type_cut [] = same refl tt (λ f e. e.1)
    type_cut (Option_at d ∷ rest) =
        number_cut AtLimit (InType (Option_at d ∷ rest)) 0 bytes (p.offset, Overrun) 2 w16 (p.stop - p.offset) (λ n. option_step l d rest p (kind_or_lenient (beside_number n kinds) l.lenient)) (λ n. option_step wide d rest p (kind_or_lenient (beside_number n kinds) l.lenient))
        (λ e. e) (λ f e. (e.1.0.fits, e.1.0.came)) (λ fits came. option_cut d rest (kind_or_lenient (beside_number (first_number 2 w16 bytes) kinds) l.lenient) refl fits came)
    type_cut (Text_of f ∷ rest) = after_cut p.offset (field_of notation.Text16 l.text (p.stop - p.offset)) (field_of notation.Text16 text (p.stop - p.offset)) _ bytes (LongField (p.stop - p.offset) bytes notation.Text16) (λ v. tt) (field_cut (p.stop - p.offset) bytes notation.Text16)
    type_cut (Fields_of named d ∷ rest) = same refl (clean_says AtLimit _ 0 bytes (after_never p.offset (field_of notation.Count16 0 (p.stop - p.offset)) _ (count_never 0 (p.stop - p.offset)) (λ v. tt))) (λ f e. e.1)
    type_cut (Whole i ∷ rest) = same refl tt (λ f e. e.1)

  -- ---- cells

  module _ (p : CellPlace) (room : ℕ) (bytes : List ℕ) where
    abbrev LongValue : Kind → ℕ × Reason → Type 0
    LongValue k = AtFirst p.offset (λ why. (why ≡ TooLong) × IsLongValue l k room bytes)

    module _ (rest : List CellSymbol) (level : ℕ) where
      scalar_cut : (k : Kind) → has_no_items k ≡ true → 4 ≤ length bytes → first_number 4 w32 bytes < 2 ^ 31 → 4 + first_number 4 w32 bytes ≤ room
          → Cuts AtLimit (LongValue k) 4 (drop 4 bytes) (scalar_step l p rest level k (first_number 4 w32 bytes)) (scalar_step wide p rest level k (first_number 4 w32 bytes))
      scalar_cut k scalar came low fit =
          let n = first_number 4 w32 bytes in
          let E = LongValue k in
          either_cut AtLimit E 4 (drop 4 bytes) (size_or_lenient l.lenient k n) _ _ _ _ (λ ok.
          either_cut AtLimit E 4 (drop 4 bytes) (comes_in_parts l k n) _ _ _ _ (λ t. same refl (clean_says AtLimit (part_step l p rest level 4 0 n) 4 (drop 4 bytes) (λ c. tt)) (λ f e. let no : true ≡ false = sym t ∙ e.1.1.whole in absurd cc)) (λ one.
          limit_cut AtLimit E 4 (drop 4 bytes) l.cell cell n (p.offset, TooLong) _ _ cells (λ lt. (refl, (refl, record { scalar = scalar; content = (low, record { came = came; fits = fit; long = lt }); allowed = ok; whole = one }))) (λ ge.
          same refl (clean_says AtLimit (Takes n (λ c. leaf_step p rest level k (scalar_or_lenient l.lenient k c))) 4 (drop 4 bytes) (λ c. leaf_never p rest level k (scalar_or_lenient l.lenient k c))) (λ f e. absurd (omega (arith, ge, e.1.1.content.1.long))))))
          (λ t. same refl (λ e. e) (λ f e. let no : true ≡ false = sym e.1.1.allowed ∙ t in absurd cc))

      no_scalar : (k : Kind) → has_no_items k ≡ false → (f : ℕ × Reason) → LongValue k f → ⊥
      no_scalar k is f e = let no : true ≡ false = sym e.1.1.scalar ∙ is in absurd cc

      sized_cut : (k : Kind) (inner : Types) → 4 ≤ length bytes → first_number 4 w32 bytes < 2 ^ 31 → 4 + first_number 4 w32 bytes ≤ room
          → Cuts AtLimit (LongValue k) 4 (drop 4 bytes) (content_step l p rest level k inner (first_number 4 w32 bytes)) (content_step wide p rest level k inner (first_number 4 w32 bytes))
      sized_cut kind.List inner came low fit = same refl (clean_says AtLimit _ 4 (drop 4 bytes) (counted_never p rest level kind.List inner (first_number 4 w32 bytes))) (no_scalar kind.List refl)
      sized_cut kind.Set inner came low fit = same refl (clean_says AtLimit _ 4 (drop 4 bytes) (counted_never p rest level kind.Set inner (first_number 4 w32 bytes))) (no_scalar kind.Set refl)
      sized_cut kind.Map inner came low fit = same refl (clean_says AtLimit _ 4 (drop 4 bytes) (counted_never p rest level kind.Map inner (first_number 4 w32 bytes))) (no_scalar kind.Map refl)
      sized_cut kind.Udt inner came low fit = same refl tt (no_scalar kind.Udt refl)
      sized_cut kind.Tuple inner came low fit = same refl tt (no_scalar kind.Tuple refl)
      sized_cut k inner came low fit = scalar_cut k refl came low fit

      value_cut : (k : Kind) (inner : Types) → Cuts AtLimit (LongValue k) 0 bytes (value_step l p rest k inner level room) (value_step wide p rest k inner level room)
      value_cut k inner =
          let n = first_number 4 w32 bytes in
          let E = LongValue k in
          number_cut AtLimit E 0 bytes (p.offset, Overrun) 4 w32 room _ _ (λ e. e) (λ f e. (omega (arith, e.1.1.content.1.fits), e.1.1.content.1.came)) (λ fits came.
          either_cut AtLimit E 4 (drop 4 bytes) (is_negative n) _ _ _ _ (λ t. same refl tt (λ f e. absurd (omega (arith, ltb-true _ _ t, e.1.1.content.0)))) (λ low.
          either_cut AtLimit E 4 (drop 4 bytes) (eqb n 0) _ _ _ _ (λ t. same refl tt (λ f e. absurd (omega (arith, eqb-true _ _ t, e.1.1.content.1.long)))) (λ _.
          either_cut AtLimit E 4 (drop 4 bytes) (ltb room (4 + n)) _ _ _ _ (λ t. same refl (λ e. e) (λ f e. absurd (omega (arith, ltb-true _ _ t, e.1.1.content.1.fits)))) (λ fit.
          sized_cut k inner came (omega (arith, ltb-false _ _ low)) (ltb-false _ _ fit)))))

  module _ (p : CellPlace) (bytes : List ℕ) where
    abbrev InCell : List CellSymbol → ℕ × Reason → Type 0
    InCell ss = AtFirst p.offset (λ why. (why ≡ TooLong) × IsLongInCell l p.offset ss bytes)

    cell_cut : (ss : List CellSymbol) → Cuts AtLimit (InCell ss) 0 bytes (cell_step_at l p ss) (cell_step_at wide p ss)
    cell_cut [] = same refl tt (λ f e. e.1.1)
    cell_cut (Value_of k inner level stop ∷ rest) = value_cut p (stop - p.offset) bytes rest level k inner
    cell_cut (Items_of NoMore level stop taken ∷ rest) =
        either_cut AtLimit (InCell (Items_of NoMore level stop taken ∷ rest)) 0 bytes (lenient_excess l (stop - p.offset)) _ _ _ _
        (λ _. same refl (clean_says AtLimit (part_step l p (Items_of NoMore level stop taken ∷ rest) (level + 1) 0 0 (stop - p.offset)) 0 bytes (λ c. tt)) (λ f e. e.1.1))
        (λ _. same refl (clean_says AtLimit _ 0 bytes (close_never p rest level stop taken)) (λ f e. e.1.1))
    cell_cut (Items_of (Type_and k inner others) level stop taken ∷ rest) =
        either_cut AtLimit (InCell (Items_of (Type_and k inner others) level stop taken ∷ rest)) 0 bytes (leb stop p.offset) _ _ _ _
        (λ t. same refl (clean_says AtLimit _ 0 bytes (close_never p rest level stop taken)) (λ f e. absurd (omega (arith, leb-true _ _ t, e.1.1.content.1.fits))))
        (λ _. value_cut p (stop - p.offset) bytes (Items_of others level stop (taken + 1) ∷ rest) (level + 1) k inner)
    cell_cut (Close_of level stop taken ∷ rest) = same refl (clean_says AtLimit _ 0 bytes (close_never p rest level stop taken)) (λ f e. e.1.1)
    cell_cut (Content_from level offset total ∷ rest) = same refl (clean_says AtLimit (part_step l p rest level 0 offset total) 0 bytes (λ c. tt)) (λ f e. e.1.1)

  -- ---- a stream

  -- A step within the limits says what one within wider limits says, unless what begins there exceeds a limit.
  pub step_cut : (p : Place) (bytes : List ℕ) (ss : List Symbol) → Cuts AtLimit (AtFirst p.offset (ExceedsAt l p ss bytes)) 0 bytes (step_at l (settled p) ss) (step_at wide (settled p) ss)
  step_cut p bytes [] = same refl tt (λ f e. e.1)
  step_cut p bytes (Stream ∷ rest) = same refl (clean_says AtLimit _ 0 bytes (either_never AtLimit (ltb (2 ^ 63) p.offset) (Refuses (p.offset, StreamTooLong)) (Takes 9 (λ b. header_step (settled p) (heading b))) (λ e. e) (λ b. header_never (settled p) (heading b) (heading_plain b)))) (λ f e. e.1)
  step_cut p bytes (In f n r ∷ rest) = after_cut p.offset (field_of n (limit_of l n) (p.stop - p.offset)) (field_of n (limit_of wide n) (p.stop - p.offset)) _ bytes (LongField (p.stop - p.offset) bytes n) (λ v. value_never l.types (settled p) f r rest v) (field_cut (p.stop - p.offset) bytes n)
  step_cut p bytes (In_type ts ∷ rest) =
      let q : TypePlace = record { offset = p.offset; stop = p.stop; symbols = ts; nodes = p.nodes } in
      map_cut (InType q bytes ts) type_event (place_of_types (settled p) rest) (type_step_at l q ts) (type_step_at wide q ts) bytes (type_cut q bytes ts)
  step_cut p bytes (Cell_due row column k inner ∷ rest) =
      let cs = Value_of k inner 0 p.stop ∷ [] in
      let q : CellPlace = record { offset = p.offset; symbols = cs } in
      map_cut (InCell q bytes cs) (cell_event row column) (place_of_cells row column (settled p) rest) (cell_step_at l q cs) (cell_step_at wide q cs) bytes (cell_cut q bytes cs)
  step_cut p bytes (In_cell row column cs ∷ rest) =
      let q : CellPlace = record { offset = p.offset; symbols = cs } in
      map_cut (InCell q bytes cs) (cell_event row column) (place_of_cells row column (settled p) rest) (cell_step_at l q cs) (cell_step_at wide q cs) bytes (cell_cut q bytes cs)
  step_cut p bytes (Extra ∷ rest) = same refl (clean_says AtLimit (step_at l (settled p) (Extra ∷ rest)) 0 bytes (λ c. tt)) (λ f e. e.1)

-- ---- reasons

one_over : (l : Rules) (depth n : ℕ) (why how : Reason) → IsOver l depth n why → IsOver l depth n how → how ≡ why
one_over l depth n TooDeep TooDeep a b = refl
one_over l depth n TooDeep TooMany a b = absurd (omega (arith, a, b.0))
one_over l depth n TooDeep how a b = absurd b
one_over l depth n TooMany TooDeep a b = absurd (omega (arith, b, a.0))
one_over l depth n TooMany TooMany a b = refl
one_over l depth n TooMany how a b = absurd b
one_over l depth n why how a b = absurd a

one_in_type : (l : Rules) (room n : ℕ) (bytes : List ℕ) (ss : List TypeSymbol) (why how : Reason) → ExceedsInType l room n ss bytes why → ExceedsInType l room n ss bytes how → how ≡ why
one_in_type l room n bytes [] why how a b = absurd a
one_in_type l room n bytes (Option_at d ∷ rest) why how a b = one_over l d n why how a.1 b.1
one_in_type l room n bytes (Text_of f ∷ rest) why how a b = b.0 ∙ sym a.0
one_in_type l room n bytes (Fields_of named d ∷ rest) why how a b = absurd a
one_in_type l room n bytes (Whole i ∷ rest) why how a b = absurd a

-- What exceeds a limit exceeds one.
pub one_excess : (l : Rules) (p : Place) (bytes : List ℕ) (ss : List Symbol) (why how : Reason) → ExceedsAt l p ss bytes why → ExceedsAt l p ss bytes how → how ≡ why
one_excess l p bytes [] why how a b = absurd a
one_excess l p bytes (Stream ∷ rest) why how a b = absurd a
one_excess l p bytes (In f n r ∷ rest) why how a b = b.0 ∙ sym a.0
one_excess l p bytes (In_type ts ∷ rest) why how a b = one_in_type l (p.stop - p.offset) (length p.nodes) bytes ts why how a b
one_excess l p bytes (Cell_due row column k inner ∷ rest) why how a b = b.0 ∙ sym a.0
one_excess l p bytes (In_cell row column cs ∷ rest) why how a b = b.0 ∙ sym a.0
one_excess l p bytes (Extra ∷ rest) why how a b = absurd a

over_of_limit : (l : Rules) (depth n : ℕ) (why : Reason) → IsOver l depth n why → IsOfLimit why
over_of_limit l depth n TooDeep a = tt
over_of_limit l depth n TooMany a = tt
over_of_limit l depth n why a = absurd a

too_long : (why : Reason) → why ≡ TooLong → IsOfLimit why
too_long why is = rw is tt

in_type_of_limit : (l : Rules) (room n : ℕ) (bytes : List ℕ) (ss : List TypeSymbol) (why : Reason) → ExceedsInType l room n ss bytes why → IsOfLimit why
in_type_of_limit l room n bytes [] why a = absurd a
in_type_of_limit l room n bytes (Option_at d ∷ rest) why a = over_of_limit l d n why a.1
in_type_of_limit l room n bytes (Text_of f ∷ rest) why a = too_long why a.0
in_type_of_limit l room n bytes (Fields_of named d ∷ rest) why a = absurd a
in_type_of_limit l room n bytes (Whole i ∷ rest) why a = absurd a

pub excess_of_limit : (l : Rules) (p : Place) (bytes : List ℕ) (ss : List Symbol) (why : Reason) → ExceedsAt l p ss bytes why → IsOfLimit why
excess_of_limit l p bytes [] why a = absurd a
excess_of_limit l p bytes (Stream ∷ rest) why a = absurd a
excess_of_limit l p bytes (In f n r ∷ rest) why a = too_long why a.0
excess_of_limit l p bytes (In_type ts ∷ rest) why a = in_type_of_limit l (p.stop - p.offset) (length p.nodes) bytes ts why a
excess_of_limit l p bytes (Cell_due row column k inner ∷ rest) why a = too_long why a.0
excess_of_limit l p bytes (In_cell row column cs ∷ rest) why a = too_long why a.0
excess_of_limit l p bytes (Extra ∷ rest) why a = absurd a
