-- One answer of `read_value` meets its clause, and it reads back what is written.
use Rattle.std.proofs.Common.{◌≡◌, ℕ, ◌+◌, ◌<◌, ◌^◌, true, false, ltb, List, [], ◌∷◌, ◌++◌, length, Option, Some, None, Result, Ok, Err, refl, sym, ap, ◌∙◌, subst, inl, inr, arith}
use Rattle.std.specs.List.{All}
use Rattle.std.proofs.lemmas.Bool.{cases_lt, le-ltb}
use Rattle.std.proofs.lemmas.List.{length-append}
use Rattle.std.specs.Prelude.{MatchResult}
use Rattle.cqlp_note.specs.declared.refusal.Refusal.{Refusal}
use Rattle.cqlp_note.specs.declared.refusal.Reason.{Reason}
use Rattle.cqlp_note.specs.Limits.{Rules}
use Rattle.cqlp_note.specs.Reader.{Said, More, Bad, Got, says}
use Rattle.cqlp_note.specs.Step.{Emitted, Runs}
use Rattle.cqlp_note.proofs.Runs.{runs_compare, runs_then}
use Rattle.cqlp_kind.specs.declared.kind.Kind.{Kind}
use Rattle.cqlp_kind.specs.declared.kind.Kind.TheVariants as kind
use Rattle.cqlp_kind.specs.Types.{Types, NoMore, Type_and}
use Rattle.cqlp_kind.specs.CellStep.{CellEvent, CellPlace, CellSymbol, Close_of, Leave, cell_step, place_after}
use Rattle.cqlp_type.specs.declared.tree.TypeTree.{TypeTree}
use Rattle.cqlp_type.specs.Trees.{kind_in, types_in}
use Rattle.cqlp_type.specs.TypeTrees.{head_of, inner_of}
use Rattle.cqlp_value.specs.declared.value.Value.{Value}
use Rattle.cqlp_value.specs.Owned.{cell_type, value_of}
use Rattle.cqlp_value.specs.Values.{AreInRange, AreWithin, ValueSpells, Values, NoValue, Null_and, Empty_and, Scalar_and, Counted_and, Fields_and, ValuesSpell, type_copies, values_bytes, values_fit, values_items, values_size}
use Rattle.cqlp_value.proofs.OneValue.{one_spelled}
use Rattle.cqlp_value.proofs.ReadBack.{Events, spelled_size}
use Rattle.cqlp_value.proofs.SpelledRead.{all_read}
use Rattle.cqlp_value.proofs.ValuesWritten.{value_spelled_fits, value_written}
use Rattle.cqlp_read_value.specs.declared.error.ReadError.{ReadError}
use Rattle.cqlp_read_value.specs.declared.error.ReadError.TheVariants as error
use Rattle.cqlp_read_value.proofs.Refusals.{take_before, take_neither}
use Rattle.cqlp_read_value.specs.Reading.{IsRefused, Reads, ReadsAll, WantsMemory, is_formed, take_memory, whole_rules, whole_value}
use Rattle.cqlp_read_value.specs.Laws.{AreSame, OneAnswerOfReadValue, ReadIsWritten, UnownedIsRead, WrittenIsRead, owns_memory}

-- nothing comes of it
abbrev IsStuck : Said (Emitted CellEvent CellPlace) (ℕ × Reason) → Type 0
IsStuck (Got x k) = ⊥
IsStuck More = Unit {0}
IsStuck (Bad fault) = Unit {0}

stuck_at : (s r : Said (Emitted CellEvent CellPlace) (ℕ × Reason)) → s ≡ r → IsStuck r → IsStuck s
stuck_at s r e h = subst IsStuck (sym e) h

module _ (l : Rules) where
  abbrev Stuck : CellPlace → List ℕ → Type 0
  Stuck p b = IsStuck (says (cell_step l p) 0 b)

  no_more : (q there : CellPlace) (left : List ℕ) (more : Events) (m n : ℕ) → Stuck q [] → Runs (cell_step l) q [] more there left → n ≡ m + length more → m < n → ⊥
  no_more q there left [] m n stuck r e lt = omega (arith, e, lt)
  no_more q there left (x ∷ more) m n stuck r e lt = subst IsStuck r.2 stuck

  goes_on : (q q' : CellPlace) (left left' : List ℕ) (more : Events) → Stuck q left → Runs (cell_step l) q left more q' left' → (q' ≡ q) × (left' ≡ left)
  goes_on q q' left left' [] stuck r = (r.0, r.1)
  goes_on q q' left left' (e ∷ more) stuck r = absurd (subst IsStuck r.2 stuck)

  -- runs from one place end where one place is stuck
  stuck_once : (p q q' : CellPlace) (b left left' : List ℕ) (es es' : Events) → Runs (cell_step l) p b es q left → Runs (cell_step l) p b es' q' left' → Stuck q left → Stuck q' left' → (q' ≡ q) × (left' ≡ left)
  stuck_once p q q' b left left' es es' a c s t = elim (cases_lt (length es') (length es)) [
    | inl lt ↦
        let r = runs_compare (cell_step l) p q' q b left' left es' es c a (omega arith) in
        let same = goes_on q' q left' left r.0 t r.2 in
        (sym same.0, sym same.1)
    | inr le ↦
        let r = runs_compare (cell_step l) p q q' b left left' es es' a c le in
        goes_on q q' left left' r.0 s r.2
  ]

  same_fault : (r s : Refusal) → ◌≡◌ {A = Said (Emitted CellEvent CellPlace) (ℕ × Reason)} (Bad (r.at, r.why)) (Bad (s.at, s.why)) → r ≡ s
  same_fault r s e =
      let both : ◌≡◌ {A = ℕ × Reason} (r.at, r.why) (s.at, s.why) = cc in
      let at : r.at ≡ s.at = ap (λ (x : ℕ × Reason). x.0) both in
      let why : r.why ≡ s.why = ap (λ (x : ℕ × Reason). x.1) both in
      λ i. record { at = at i; why = why i }

  refused_once : (p : CellPlace) (b : List ℕ) (r s : Refusal) → IsRefused l p b r → IsRefused l p b s → r ≡ s
  refused_once p b r s a c =
      let same = stuck_once p a.there c.there b a.left c.left a.events c.events a.runs c.runs (stuck_at _ _ a.refused tt) (stuck_at _ _ c.refused tt) in
      let places = same.0 in
      let bytes = same.1 in
      same_fault r s (sym a.refused ∙ sym (λ i. says (cell_step l (places i)) 0 (bytes i)) ∙ c.refused)

  abbrev done : List ℕ → CellPlace
  done b = record { offset = 0 + length b + 0; symbols = [] }

  abbrev whole_events : Kind → Types → Values → List ℕ → Events
  whole_events k inner v b = values_items l 0 0 (Type_and k inner NoMore) v ++ (0 + length b, Leave 0 1) ∷ []

  -- what spells a value is read to its end
  whole_run : (k : Kind) (inner : Types) (v : Values) (b : List ℕ) → ValueSpells k inner v b → AreWithin l v → Runs (cell_step l) (whole_value (Type_and k inner NoMore) (length b)) b (whole_events k inner v b) (done b) []
  whole_run k inner v b spelled within =
      let close : List CellSymbol = Close_of 0 (length b) 1 ∷ [] in
      let start = whole_value (Type_and k inner NoMore) (length b) in
      let read = (all_read l v within).values (Type_and k inner NoMore) b spelled 0 0 (length b) close (omega arith) in
      let q : CellPlace = record { offset = 0 + length b; symbols = close } in
      let none : ltb (0 + length b) (length b) ≡ false = le-ltb (0 + length b) (length b) (omega arith) in
      let last : Runs (cell_step l) q [] ((0 + length b, Leave 0 1) ∷ []) (done b) [] = (0, place_after q [] [], rw none refl, (refl, refl)) in
      runs_then (cell_step l) start q (done b) b [] [] _ ((0 + length b, Leave 0 1) ∷ []) read last

  -- what spells a value is not refused
  never_refused : (k : Kind) (inner : Types) (v : Values) (b : List ℕ) (r : Refusal) → ValueSpells k inner v b → AreWithin l v → IsRefused l (whole_value (Type_and k inner NoMore) (length b)) b r → ⊥
  never_refused k inner v b r spelled within refused =
      let start = whole_value (Type_and k inner NoMore) (length b) in
      let whole = whole_run k inner v b spelled within in
      let same = stuck_once start (done b) refused.there b [] refused.left (whole_events k inner v b) refused.events whole refused.runs tt (stuck_at _ _ refused.refused tt) in
      let places = same.0 in
      let bytes = same.1 in
      let no : ◌≡◌ {A = Said (Emitted CellEvent CellPlace) (ℕ × Reason)} More (Bad (r.at, r.why)) = sym (λ i. says (cell_step l (places i)) 0 (bytes i)) ∙ refused.refused in
      absurd cc

  -- what is emitted on the way to the end is emitted of the value
  emitted_before : (p q there : CellPlace) (b left : List ℕ) (all es : Events) → Runs (cell_step l) p b all q [] → Runs (cell_step l) p b es there left → Stuck q [] → take_memory es ≡ true → take_memory all ≡ true
  emitted_before p q there b left all es a c stuck takes = elim (cases_lt (length all) (length es)) [
    | inl lt ↦
        let r = runs_compare (cell_step l) p q there b [] left all es a c (omega arith) in
        absurd (no_more q there left r.0 (length all) (length es) stuck r.2 (ap length r.1 ∙ length-append all r.0) lt)
    | inr le ↦
        let r = runs_compare (cell_step l) p there q b left [] es all c a le in
        subst (λ (x : Events). take_memory x ≡ true) (sym r.1) (take_before es r.0 takes)
  ]

  no_items : (level at : ℕ) (ts : Types) → take_memory (values_items l level at ts NoValue) ≡ false
  no_items level at NoMore = refl
  no_items level at (Type_and k inner ts) = refl

  emits_none : (k : Kind) (inner : Types) (v : Values) (b : List ℕ) → l.parts ≡ false → owns_memory v ≡ false → ValueSpells k inner v b → take_memory (whole_events k inner v b) ≡ false
  emits_none k inner NoValue b whole e s = absurd s
  emits_none k inner (Null_and vs) b whole e s = refl
  emits_none k inner (Empty_and vs) b whole e s = refl
  emits_none k inner (Scalar_and v vs) b whole e s = rw (whole, e) refl
  emits_none k inner (Counted_and j n NoValue vs) b whole e s =
      take_neither (values_items l 1 8 (type_copies n inner) NoValue ++ (8, Leave 0 n) ∷ []) ((0 + length b, Leave 0 1) ∷ []) (take_neither (values_items l 1 8 (type_copies n inner) NoValue) ((8, Leave 0 n) ∷ []) (no_items 1 8 (type_copies n inner)) refl) refl
  emits_none k inner (Fields_and j NoValue vs) b whole e s = refl
  emits_none k inner v b whole e s = absurd cc

  wants_some : (k : Kind) (inner : Types) (v : Values) (b : List ℕ) → l.parts ≡ false → owns_memory v ≡ false → ValueSpells k inner v b → AreWithin l v → WantsMemory l (whole_value (Type_and k inner NoMore) (length b)) b → ⊥
  wants_some k inner v b whole e spelled within h =
      let emitted = emitted_before (whole_value (Type_and k inner NoMore) (length b)) (done b) h.there b h.left (whole_events k inner v b) h.events (whole_run k inner v b spelled within) h.runs tt h.takes in
      let both = sym emitted ∙ emits_none k inner v b whole e spelled in
      absurd cc

  one_whole : (k : Kind) (inner : Types) (b : List ℕ) (r s : Result Value ReadError) → let ts = Type_and k inner NoMore in ReadsAll l ts b r → ReadsAll l ts b s → AreSame r s
  one_whole k inner b (Ok v) (Ok w) a c = one_spelled k inner (value_of v) (value_of w) b a.0 c.0
  one_whole k inner b (Ok v) (Err (error.Refused s)) a c = absurd (never_refused k inner (value_of v) b s a.0 a.1 c)
  one_whole k inner b (Ok v) (Err error.NoMemory) a c = tt
  one_whole k inner b (Ok v) (Err error.Unformed) a c = absurd c
  one_whole k inner b (Err (error.Refused r)) (Ok w) a c = absurd (never_refused k inner (value_of w) b r c.0 c.1 a)
  one_whole k inner b (Err (error.Refused r)) (Err (error.Refused s)) a c = refused_once _ b r s a c
  one_whole k inner b (Err (error.Refused r)) (Err error.NoMemory) a c = tt
  one_whole k inner b (Err (error.Refused r)) (Err error.Unformed) a c = absurd c
  one_whole k inner b (Err error.NoMemory) s a c = tt
  one_whole k inner b (Err error.Unformed) s a c = absurd a

  one_typed : (t : Option TypeTree) (b : List ℕ) (r s : Result Value ReadError) → ReadsAll l (cell_type t) b r → ReadsAll l (cell_type t) b s → AreSame r s
  one_typed None b r s a c = one_whole kind.Raw NoMore b r s a c
  one_typed (Some t) b r s a c = one_whole (kind_in (head_of t)) (types_in (inner_of t)) b r s a c

  never_both : (t : Option TypeTree) → is_formed t ≡ true → is_formed t ≡ false → ⊥
  never_both t a c = let both = sym a ∙ c in absurd cc

  one_read : (t : Option TypeTree) (b : List ℕ) (r s : Result Value ReadError) → Reads l t b r → Reads l t b s → AreSame r s
  one_read t b (Ok v) (Ok w) a c = one_typed t b (Ok v) (Ok w) a.1 c.1
  one_read t b (Ok v) (Err (error.Refused s)) a c = one_typed t b (Ok v) (Err (error.Refused s)) a.1 c.1
  one_read t b (Ok v) (Err error.NoMemory) a c = tt
  one_read t b (Ok v) (Err error.Unformed) a c = absurd (never_both t a.0 c)
  one_read t b (Err (error.Refused r)) (Ok w) a c = one_typed t b (Err (error.Refused r)) (Ok w) a.1 c.1
  one_read t b (Err (error.Refused r)) (Err (error.Refused s)) a c = one_typed t b (Err (error.Refused r)) (Err (error.Refused s)) a.1 c.1
  one_read t b (Err (error.Refused r)) (Err error.NoMemory) a c = tt
  one_read t b (Err (error.Refused r)) (Err error.Unformed) a c = absurd (never_both t a.0 c)
  one_read t b (Err error.NoMemory) s a c = tt
  one_read t b (Err error.Unformed) (Ok w) a c = absurd (never_both t c.0 a)
  one_read t b (Err error.Unformed) (Err (error.Refused s)) a c = absurd (never_both t c.0 a)
  one_read t b (Err error.Unformed) (Err error.NoMemory) a c = tt
  one_read t b (Err error.Unformed) (Err error.Unformed) a c = tt

unowned_whole : (l : Rules) (k : Kind) (inner : Types) (v : Value) (b : List ℕ) (r : Result Value ReadError) → let ts = Type_and k inner NoMore in l.parts ≡ false → owns_memory (value_of v) ≡ false → ReadsAll l ts b (Ok v) → ReadsAll l ts b r → MatchResult r (λ w. value_of w ≡ value_of v) (λ _. ⊥)
unowned_whole l k inner v b (Ok w) whole e a c = one_whole l k inner b (Ok w) (Ok v) c a
unowned_whole l k inner v b (Err (error.Refused s)) whole e a c = never_refused l k inner (value_of v) b s a.0 a.1 c
unowned_whole l k inner v b (Err error.NoMemory) whole e a c = wants_some l k inner (value_of v) b whole e a.0 a.1 c
unowned_whole l k inner v b (Err error.Unformed) whole e a c = c

unowned_typed : (l : Rules) (t : Option TypeTree) (v : Value) (b : List ℕ) (r : Result Value ReadError) → l.parts ≡ false → owns_memory (value_of v) ≡ false → ReadsAll l (cell_type t) b (Ok v) → ReadsAll l (cell_type t) b r → MatchResult r (λ w. value_of w ≡ value_of v) (λ _. ⊥)
unowned_typed l None v b r whole e a c = unowned_whole l kind.Raw NoMore v b r whole e a c
unowned_typed l (Some t) v b r whole e a c = unowned_whole l (kind_in (head_of t)) (types_in (inner_of t)) v b r whole e a c

pub unowned_read : UnownedIsRead
unowned_read l t v b (Ok w) e a c = unowned_typed (whole_rules l) t v b (Ok w) refl e a.1 c.1
unowned_read l t v b (Err (error.Refused s)) e a c = unowned_typed (whole_rules l) t v b (Err (error.Refused s)) refl e a.1 c.1
unowned_read l t v b (Err error.NoMemory) e a c = unowned_typed (whole_rules l) t v b (Err error.NoMemory) refl e a.1 c.1
unowned_read l t v b (Err error.Unformed) e a c = never_both (whole_rules l) t a.0 c

pub one_answer : OneAnswerOfReadValue
one_answer l t b r s a c = one_read l t b r s a c

spelled : (t : Option TypeTree) (v : Values) → AreInRange v → values_fit (cell_type t) v ≡ true → values_size v < 2 ^ 31 → ValuesSpell (cell_type t) v (values_bytes v)
spelled None v range fits lt = (value_written kind.Raw NoMore v range fits lt).0
spelled (Some t) v range fits lt = (value_written (kind_in (head_of t)) (types_in (inner_of t)) v range fits lt).0

pub written_read : WrittenIsRead
written_read l t v r formed fits range within lt read = one_read l t (values_bytes (value_of v)) r (Ok v) read (formed, (spelled t (value_of v) range fits lt, within))

fitting : (t : Option TypeTree) (v : Values) (b : List ℕ) → ValuesSpell (cell_type t) v b → All (λ x. x < 256) b → (values_fit (cell_type t) v ≡ true) × AreInRange v
fitting None v b s bytes = value_spelled_fits kind.Raw NoMore v b s bytes
fitting (Some t) v b s bytes = value_spelled_fits (kind_in (head_of t)) (types_in (inner_of t)) v b s bytes

pub read_written : ReadIsWritten
read_written l t v b read bytes lt =
    let s = read.1.0 in
    let fits = fitting t (value_of v) b s bytes in
    let size : values_size (value_of v) ≡ length b = sym (spelled_size (cell_type t) (value_of v) b s) in
    (fits.0, size, spelled t (value_of v) fits.1 fits.0 (omega arith))
