-- What a lenient reading of a cell says, beside one that is not.
use Rattle.std.proofs.Common.{◌≡◌, ℕ, ◌+◌, ◌-◌, Bool, true, false, ◌&&◌, cond, eqb, ltb, leb, List, [], ◌∷◌, length, take, drop, Option, Some, None, is_some, refl, ◌∙◌, inl, inr, arith}
use Rattle.std.specs.Int.{w32, from_be_bytes}
use Rattle.std.proofs.lemmas.Bool.{cases_lt, lt-ltb, le-ltb}
use Rattle.std.proofs.lemmas.List.{length-take-le}
use Rattle.cqlp_note.specs.declared.refusal.Reason.TheVariants.{BadSize, ExtraInValue}
use Rattle.cqlp_note.specs.Reader.{says, Takes, number_of}
use Rattle.cqlp_note.specs.Field.{is_negative}
use Rattle.cqlp_note.specs.Step.{Step}
use Rattle.cqlp_note.specs.Limits.{Rules, with_lenient}
use Rattle.cqlp_kind.specs.declared.kind.Kind.{Kind}
use Rattle.cqlp_kind.specs.declared.kind.Kind.TheVariants as kind
use Rattle.cqlp_kind.specs.Types.{Types, NoMore, Type_and, has_id}
use Rattle.cqlp_kind.specs.Scalars.{ScalarValue, Raw, only_if, allows_size, scalar_of, fault_of, or_raw, scalar_or_raw}
use Rattle.cqlp_kind.specs.CellStep.{CellSymbol, Value_of, Items_of, Close_of, Content_from, CellEvent, CellPlace, is_opaque, lenient_excess, leaf_step, scalar_step, content_step, sized_step, value_step, items_step, cell_step_at}
use Rattle.cqlp_cell.specs.Lenient.{IsOfContent, GoesOn, LenientGoesOn, RawIsNoneOfItsType}
use Rattle.cqlp_cell.proofs.Further.{reads_when}

-- ---- readers

module _ (taken : ℕ) (bytes : List ℕ) where
  abbrev Goes : Step CellEvent CellPlace → Step CellEvent CellPlace → Type 0
  Goes r s = GoesOn (says r taken bytes) (says s taken bytes)

  either_goes : (t : Bool) (a b c d : Step CellEvent CellPlace) → Goes a c → Goes b d → Goes (cond t a b) (cond t c d)
  either_goes true a b c d h k = h
  either_goes false a b c d h k = k

  takes_goes : (n : ℕ) (f g : List ℕ → Step CellEvent CellPlace) → ((c : List ℕ) → length c ≡ n → GoesOn (says (f c) (taken + n) (drop n bytes)) (says (g c) (taken + n) (drop n bytes))) → Goes (Takes n f) (Takes n g)
  takes_goes n f g h = elim (cases_lt (length bytes) n) [
    | inl lt ↦ rw (lt-ltb _ _ lt) (inl refl)
    | inr le ↦ rw (le-ltb _ _ le) (h (take n bytes) (length-take-le n bytes le))
  ]

-- ---- scalars

of_content : (k : Kind) → IsOfContent (fault_of k)
of_content kind.Varchar = tt
of_content k = tt

module _ (l : Rules) (p : CellPlace) (rest : List CellSymbol) where
  abbrev strict : Rules
  strict = with_lenient false l

  abbrev lenient : Rules
  lenient = with_lenient true l

  leaf_goes : (level : ℕ) (k : Kind) (c : List ℕ) (o : Option ScalarValue) (taken : ℕ) (bytes : List ℕ) → allows_size k (length c) ≡ true → scalar_of k c ≡ o → GoesOn (says (leaf_step p rest level k o) taken bytes) (says (leaf_step p rest level k (Some (scalar_or_raw k c))) taken bytes)
  leaf_goes level k c None taken bytes a e = inr (p.offset, fault_of k, refl, of_content k)
  leaf_goes level k c (Some v) taken bytes a e = inl (rw (a, e) refl)

  sized_goes : (level : ℕ) (k : Kind) (n taken : ℕ) (bytes : List ℕ) (t : Bool) → allows_size k n ≡ t → Goes taken bytes (scalar_step strict p rest level k n) (scalar_step lenient p rest level k n)
  sized_goes level k n taken bytes true a =
      rw a (either_goes taken bytes (l.parts && is_opaque k && ltb l.part n) _ _ _ _ (inl refl)
      (either_goes taken bytes (ltb l.cell n) _ _ _ _ (inl refl)
      (takes_goes taken bytes n (λ c. leaf_step p rest level k (scalar_of k c)) (λ c. leaf_step p rest level k (Some (scalar_or_raw k c))) (λ c long. leaf_goes level k c (scalar_of k c) (taken + n) (drop n bytes) (rw long a) refl))))
  sized_goes level k n taken bytes false a = rw a (inr (p.offset, BadSize, refl, tt))

  scalar_goes : (level : ℕ) (k : Kind) (n taken : ℕ) (bytes : List ℕ) → Goes taken bytes (scalar_step strict p rest level k n) (scalar_step lenient p rest level k n)
  scalar_goes level k n taken bytes = sized_goes level k n taken bytes (allows_size k n) refl

  content_goes : (level : ℕ) (k : Kind) (inner : Types) (n taken : ℕ) (bytes : List ℕ) → Goes taken bytes (content_step strict p rest level k inner n) (content_step lenient p rest level k inner n)
  content_goes level kind.List inner n taken bytes = inl refl
  content_goes level kind.Set inner n taken bytes = inl refl
  content_goes level kind.Map inner n taken bytes = inl refl
  content_goes level kind.Udt inner n taken bytes = inl refl
  content_goes level kind.Tuple inner n taken bytes = inl refl
  content_goes level k inner n taken bytes = scalar_goes level k n taken bytes

  -- ---- values

  length_goes : (k : Kind) (inner : Types) (level room n taken : ℕ) (bytes : List ℕ) → Goes taken bytes (sized_step strict p rest k inner level room n) (sized_step lenient p rest k inner level room n)
  length_goes k inner level room n taken bytes =
      either_goes taken bytes (is_negative n) _ _ _ _ (inl refl)
      (either_goes taken bytes (eqb n 0) _ _ _ _ (inl refl)
      (either_goes taken bytes (ltb room (4 + n)) _ _ _ _ (inl refl) (content_goes level k inner n taken bytes)))

  value_goes : (k : Kind) (inner : Types) (level room : ℕ) (bytes : List ℕ) → Goes 0 bytes (value_step strict p rest k inner level room) (value_step lenient p rest k inner level room)
  unfolding number_of
  value_goes k inner level room bytes =
      either_goes 0 bytes (ltb room 4) _ _ _ _ (inl refl)
      (takes_goes 0 bytes 4 (λ b. sized_step strict p rest k inner level room (from_be_bytes w32 b)) (λ b. sized_step lenient p rest k inner level room (from_be_bytes w32 b)) (λ c long. length_goes k inner level room (from_be_bytes w32 c) (0 + 4) (drop 4 bytes)))

module _ (l : Rules) (p : CellPlace) (bytes : List ℕ) where
  -- where bytes are read on behind the last field, they are refused by a caller who is not lenient
  further_goes : (level stop taken : ℕ) (rest : List CellSymbol) (t : Bool) → lenient_excess (with_lenient true l) (stop - p.offset) ≡ t → Goes 0 bytes (items_step (with_lenient false l) p NoMore level stop taken rest) (items_step (with_lenient true l) p NoMore level stop taken rest)
  further_goes level stop taken rest true e =
      let some = (reads_when (with_lenient true l) (stop - p.offset) e).2 in
      rw (e, lt-ltb p.offset stop (omega (arith, some))) (inr (p.offset, ExtraInValue, refl, tt))
  further_goes level stop taken rest false e = rw e (inl refl)

  items_goes : (ts : Types) (level stop taken : ℕ) (rest : List CellSymbol) → Goes 0 bytes (items_step (with_lenient false l) p ts level stop taken rest) (items_step (with_lenient true l) p ts level stop taken rest)
  items_goes NoMore level stop taken rest = further_goes level stop taken rest (lenient_excess (with_lenient true l) (stop - p.offset)) refl
  items_goes (Type_and k inner others) level stop taken rest =
      either_goes 0 bytes (leb stop p.offset) _ _ _ _ (inl refl) (value_goes l p (Items_of others level stop (taken + 1) ∷ rest) k inner (level + 1) (stop - p.offset) bytes)

  step_goes : (ss : List CellSymbol) → Goes 0 bytes (cell_step_at (with_lenient false l) p ss) (cell_step_at (with_lenient true l) p ss)
  step_goes [] = inl refl
  step_goes (Value_of k inner level stop ∷ rest) = value_goes l p rest k inner level (stop - p.offset) bytes
  step_goes (Items_of ts level stop taken ∷ rest) = items_goes ts level stop taken rest
  step_goes (Close_of level stop taken ∷ rest) = inl refl
  step_goes (Content_from level offset total ∷ rest) = inl refl

pub goes_on : LenientGoesOn
goes_on l p bytes = step_goes l p bytes p.symbols

-- ---- raw bytes

only_raw : (b : Bool) (w : ScalarValue) (raw : List ℕ) → (w ≡ Raw raw → ⊥) → only_if b w ≡ Some (Raw raw) → ⊥
only_raw true w raw other e = other cc
only_raw false w raw other e = absurd cc

-- no type that has an id has raw scalars
never_raw : (k : Kind) (c raw : List ℕ) → has_id k ≡ true → scalar_of k c ≡ Some (Raw raw) → ⊥
unfolding scalar_of
never_raw kind.Ascii c raw h e = only_raw _ _ raw (λ x. absurd cc) e
never_raw kind.Varchar c raw h e = only_raw _ _ raw (λ x. absurd cc) e
never_raw kind.Timeuuid c raw h e = only_raw _ _ raw (λ x. absurd cc) e
never_raw kind.Time c raw h e = only_raw _ _ raw (λ x. absurd cc) e
never_raw kind.Raw c raw h e = absurd cc
never_raw kind.Custom c raw h e = absurd cc
never_raw kind.Bigint c raw h e = absurd cc
never_raw kind.Blob c raw h e = absurd cc
never_raw kind.Boolean c raw h e = absurd cc
never_raw kind.Counter c raw h e = absurd cc
never_raw kind.Decimal c raw h e = absurd cc
never_raw kind.Double c raw h e = absurd cc
never_raw kind.Float c raw h e = absurd cc
never_raw kind.Int c raw h e = absurd cc
never_raw kind.Timestamp c raw h e = absurd cc
never_raw kind.Uuid c raw h e = absurd cc
never_raw kind.Varint c raw h e = absurd cc
never_raw kind.Inet c raw h e = absurd cc
never_raw kind.Date c raw h e = absurd cc
never_raw kind.Smallint c raw h e = absurd cc
never_raw kind.Tinyint c raw h e = absurd cc
never_raw kind.List c raw h e = absurd cc
never_raw kind.Map c raw h e = absurd cc
never_raw kind.Set c raw h e = absurd cc
never_raw kind.Udt c raw h e = absurd cc
never_raw kind.Tuple c raw h e = absurd cc

same_raw : (c raw : List ℕ) → ◌≡◌ {A = Option ScalarValue} (Some (Raw c)) (Some (Raw raw)) → raw ≡ c
same_raw c raw e = cc

raw_when : (b : Bool) (o : Option ScalarValue) (k : Kind) (c raw : List ℕ) → has_id k ≡ true → scalar_of k c ≡ o → ◌≡◌ {A = Option ScalarValue} (Some (cond b (or_raw o c) (Raw c))) (Some (Raw raw)) → (raw ≡ c) × ((b && is_some o) ≡ false)
raw_when true None k c raw h is e = (same_raw c raw e, refl)
raw_when true (Some w) k c raw h is e = absurd (never_raw k c raw h (is ∙ e))
raw_when false o k c raw h is e = (same_raw c raw e, refl)

pub raw_is_none : RawIsNoneOfItsType
raw_is_none false k c raw h e = absurd (never_raw k c raw h e)
raw_is_none true k c raw h e = let x = raw_when (allows_size k (length c)) (scalar_of k c) k c raw h refl e in (refl, x.0, x.1)
