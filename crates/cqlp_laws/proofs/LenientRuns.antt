-- What a lenient reading of a stream says, beside one that is not.
use Rattle.std.proofs.Common.{◌≡◌, ℕ, ◌-◌, Bool, true, false, cond, ltb, List, [], ◌∷◌, ◌++◌, length, take, drop, Option, Some, None, refl, sym, ap, ◌∙◌, inl, inr, ◌⊎◌, append-nil, arith}
use Rattle.std.specs.Int.{w16, from_be_bytes}
use Rattle.std.proofs.lemmas.Bool.{cases_lt, lt-ltb, le-ltb}
use Rattle.cqlp_note.specs.declared.field.Notation.{Notation}
use Rattle.cqlp_note.specs.declared.field.Notation.TheVariants as notation
use Rattle.cqlp_note.specs.declared.refusal.Reason.{Reason}
use Rattle.cqlp_note.specs.declared.refusal.Reason.TheVariants.{BadType}
use Rattle.cqlp_note.specs.Reader.{Said, Bad, Takes, says, number_of}
use Rattle.cqlp_note.specs.Reader as reader
use Rattle.cqlp_note.specs.Step.{Emitted, Step, map_step}
use Rattle.cqlp_note.specs.Limits.{Rules, with_lenient, limit_of}
use Rattle.cqlp_note.specs.Heading.{beside_number}
use Rattle.cqlp_note.proofs.Runs.{runs_compare}
use Rattle.cqlp_note.proofs.Yields.{map_said, says_map}
use Rattle.cqlp_kind.specs.declared.kind.Kind.{Kind}
use Rattle.cqlp_kind.specs.Types.{kinds}
use Rattle.cqlp_kind.specs.TypeStep.{TypeSymbol, TypePlace, Option_at, Text_of, Fields_of, Whole, kind_or_lenient, option_step, type_step_at}
use Rattle.cqlp_kind.specs.CellStep.{CellPlace, Value_of, cell_step}
use Rattle.cqlp_cell.specs.Lenient.{GoesOn, GoesOnWhere, IsOfContent}
use Rattle.cqlp_cell.proofs.Lenient.{goes_on}
use Rattle.cqlp_grammar.specs.Productions.{Symbol, Stream, In, In_type, Cell_due, In_cell, Extra}
use Rattle.cqlp_decode.specs.Reading.{Event, Place, Gifts, start_with, Reads, Says, Verdict, Ends, settled, step, step_at, type_event, cell_event, place_of_types, place_of_cells}
use Rattle.cqlp_laws.specs.Lenient.{IsPassed, IsCutByContent, LenientOnlyGoesOn}
use Rattle.cqlp_laws.proofs.Whole.{no_step, says_once}
use Rattle.cqlp_laws.proofs.StepCuts.{got_is_not_bad}
use Rattle.cqlp_laws.proofs.Cuts.{refused_by}

passed : (why : Reason) → IsOfContent why → IsPassed why
passed BadType h = tt
passed why h = h

passes : {A : Type 0} (d e : Said A (ℕ × Reason)) → GoesOn d e → GoesOnWhere IsPassed d e
passes d e (inl same) = inl same
passes d e (inr bad) = inr (bad.0, bad.1, bad.2, passed bad.1 bad.3)

-- ---- type options

module _ {E P : Type 0} (taken : ℕ) (bytes : List ℕ) where
  abbrev Passes : Step E P → Step E P → Type 0
  Passes r s = GoesOnWhere IsPassed (says r taken bytes) (says s taken bytes)

  either_passes : (t : Bool) (a b c d : Step E P) → Passes a c → Passes b d → Passes (cond t a b) (cond t c d)
  either_passes true a b c d h k = h
  either_passes false a b c d h k = k

  takes_passes : (n : ℕ) (f g : List ℕ → Step E P) → ((c : List ℕ) (k : ℕ) (b : List ℕ) → GoesOnWhere IsPassed (says (f c) k b) (says (g c) k b)) → Passes (Takes n f) (Takes n g)
  takes_passes n f g h = elim (cases_lt (length bytes) n) [
    | inl lt ↦ rw (lt-ltb _ _ lt) (inl refl)
    | inr le ↦ rw (le-ltb _ _ le) (h (take n bytes) _ (drop n bytes))
  ]

module _ (l : Rules) (p : TypePlace) where
  option_passes : (d : ℕ) (rest : List TypeSymbol) (o : Option Kind) (k : ℕ) (b : List ℕ) → GoesOnWhere IsPassed (says (option_step (with_lenient false l) d rest p (kind_or_lenient o false)) k b) (says (option_step (with_lenient true l) d rest p (kind_or_lenient o true)) k b)
  option_passes d rest None k b = inr (p.offset, BadType, refl, tt)
  option_passes d rest (Some j) k b = inl refl

  type_passes : (ts : List TypeSymbol) (bytes : List ℕ) → GoesOnWhere IsPassed (says (type_step_at (with_lenient false l) p ts) 0 bytes) (says (type_step_at (with_lenient true l) p ts) 0 bytes)
  unfolding number_of
  type_passes [] bytes = inl refl
  type_passes (Option_at d ∷ rest) bytes =
      either_passes 0 bytes (ltb (p.stop - p.offset) 2) _ _ _ _ (inl refl)
      (takes_passes 0 bytes 2 (λ c. option_step (with_lenient false l) d rest p (kind_or_lenient (beside_number (from_be_bytes w16 c) kinds) false)) (λ c. option_step (with_lenient true l) d rest p (kind_or_lenient (beside_number (from_be_bytes w16 c) kinds) true))
      (λ c k b. option_passes d rest (beside_number (from_be_bytes w16 c) kinds) k b))
  type_passes (Text_of f ∷ rest) bytes = inl refl
  type_passes (Fields_of named d ∷ rest) bytes = inl refl
  type_passes (Whole i ∷ rest) bytes = inl refl

limit_alike : (l : Rules) (n : Notation) → limit_of (with_lenient true l) n ≡ limit_of (with_lenient false l) n
limit_alike l notation.Text16 = refl
limit_alike l notation.Text32 = refl
limit_alike l notation.Bytes16 = refl
limit_alike l notation.Bytes32 = refl
limit_alike l notation.Bound = refl
limit_alike l (notation.Content n) = refl
limit_alike l n = refl

-- ---- a stream

said_goes : {E P F Q : Type 0} (f : E → F) (g : P → Q) (d e : Said (Emitted E P) (ℕ × Reason)) → GoesOnWhere IsPassed d e → GoesOnWhere IsPassed (map_said f g d) (map_said f g e)
said_goes f g d e (inl same) = inl (ap (map_said f g) same)
said_goes f g d e (inr bad) = inr (bad.0, bad.1, ap (map_said f g) bad.2, bad.3)

map_goes : {E P F Q : Type 0} (f : E → F) (g : P → Q) (r s : Step E P) (bytes : List ℕ) → GoesOnWhere IsPassed (says r 0 bytes) (says s 0 bytes) → GoesOnWhere IsPassed (says (map_step f g r) 0 bytes) (says (map_step f g s) 0 bytes)
map_goes f g r s bytes h = rw (says_map f g r 0 bytes, says_map f g s 0 bytes) (said_goes f g (says r 0 bytes) (says s 0 bytes) h)

module _ (l : Rules) where
  abbrev strict : Rules
  strict = with_lenient false l

  abbrev lenient : Rules
  lenient = with_lenient true l

  step_goes : (p : Place) (bytes : List ℕ) (ss : List Symbol) → GoesOnWhere IsPassed (says (step_at strict p ss) 0 bytes) (says (step_at lenient p ss) 0 bytes)
  step_goes p bytes [] = inl refl
  step_goes p bytes (Stream ∷ rest) = inl refl
  step_goes p bytes (In f n r ∷ rest) = inl (rw (limit_alike l n) refl)
  step_goes p bytes (In_type ts ∷ rest) =
      let q : TypePlace = record { offset = p.offset; stop = p.stop; symbols = ts; nodes = p.nodes } in
      map_goes type_event (place_of_types p rest) (type_step_at strict q ts) (type_step_at lenient q ts) bytes (type_passes l q ts bytes)
  step_goes p bytes (Cell_due row column k inner ∷ rest) =
      let q : CellPlace = record { offset = p.offset; symbols = Value_of k inner 0 p.stop ∷ [] } in
      map_goes (cell_event row column) (place_of_cells row column p rest) (cell_step strict q) (cell_step lenient q) bytes (passes _ _ (goes_on l q bytes))
  step_goes p bytes (In_cell row column cs ∷ rest) =
      let q : CellPlace = record { offset = p.offset; symbols = cs } in
      map_goes (cell_event row column) (place_of_cells row column p rest) (cell_step strict q) (cell_step lenient q) bytes (passes _ _ (goes_on l q bytes))
  step_goes p bytes (Extra ∷ rest) = inl refl

  abbrev GoesAt : Place → List ℕ → Type 0
  GoesAt p rest = GoesOnWhere IsPassed (says (step strict p) 0 rest) (says (step lenient p) 0 rest)

  goes_at : (p : Place) (rest : List ℕ) → GoesAt p rest
  goes_at p rest = step_goes (settled p) rest p.symbols

  got_too : {A : Type 0} (d e : Said A (ℕ × Reason)) (v : A) (k : ℕ) → GoesOnWhere IsPassed d e → d ≡ reader.Got v k → e ≡ reader.Got v k
  got_too d e v k (inl same) got = same ∙ got
  got_too d e v k (inr bad) got = absurd (got_is_not_bad v k (bad.0, bad.1) (sym got ∙ bad.2))

  reads_too : (es : List (ℕ × Event)) (p q : Place) (bytes rest : List ℕ) → Reads strict p bytes es q rest → Reads lenient p bytes es q rest
  reads_too [] p q bytes rest r = r
  reads_too (e ∷ es) p q bytes rest r = (r.0, r.1, got_too _ _ _ r.0 (goes_at p bytes) r.2, reads_too es (r.1 r.0) q (drop r.0 bytes) rest r.3)

  module _ (gifts : Gifts) (bytes : List ℕ) (es fs : List (ℕ × Event)) (v w : Verdict) (p : Place) (rest : List ℕ) (read : Reads lenient (start_with gifts) bytes es p rest) (ends : Ends (says (step strict p) 0 rest) v) (b : Says lenient (start_with gifts) bytes fs w) where
    goes_by : GoesAt p rest → ((fs ≡ es) × (w ≡ v)) ⊎ IsCutByContent fs es v
    goes_by (inl same) = inl (says_once lenient (start_with gifts) bytes es fs v w (p, rest, read, rw same ends) b)
    goes_by (inr bad) = elim (cases_lt (length fs) (length es)) [
      | inl lt ↦
          let c = runs_compare (step lenient) (start_with gifts) b.0 p bytes b.1 rest fs es b.2 read (omega arith) in
          let none = no_step lenient b.0 p b.1 rest w c.0 b.3 c.2 in
          absurd (omega (arith, lt, ap length (c.1 ∙ ap (λ (x : List (ℕ × Event)). fs ++ x) none ∙ append-nil fs)))
      | inr le ↦
          let c = runs_compare (step lenient) (start_with gifts) p b.0 bytes rest b.1 es fs read b.2 le in
          inr (c.0, bad.0, bad.1, c.1, refused_by (bad.0, bad.1) v (rw bad.2 at ends), bad.3)
    ]

pub only_goes_on : LenientOnlyGoesOn
only_goes_on l gifts bytes es fs v w a b = goes_by l gifts bytes es fs v w a.0 a.1 (reads_too l es (start_with gifts) a.0 bytes a.1 a.2) a.3 b (goes_at l a.0 a.1)
