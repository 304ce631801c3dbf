-- A scalar that lies whole at the front of the input.
use Rattle.std.proofs.Common.{◌≡◌, ◌≢◌, ℕ, ◌+◌, ◌-◌, ◌^◌, ◌<◌, ◌≤◌, Bool, true, false, ◌&&◌, cond, ltb, eqb, min, is_some, List, [], length, take, drop, refl, sym, ap, ◌∙◌, arith}
use Rattle.std.specs.Prelude.{Option, Some, None, Result, Ok, Err}
use Rattle.std.specs.Option.{ok_or}
use Rattle.std.specs.Int.{w32, from_be_bytes}
use Rattle.std.proofs.lemmas.Bool.{le-ltb, ltb-false, eqb-false}
use Rattle.std.proofs.lemmas.List.{length-drop}
use Rattle.cqlp_note.specs.declared.refusal.Reason.{Reason}
use Rattle.cqlp_note.specs.Reader.{Said, More, Got, says, number_of}
use Rattle.cqlp_note.specs.Field.{is_negative}
use Rattle.cqlp_note.specs.Step.{Emitted, Step}
use Rattle.cqlp_note.specs.Limits.{Rules}
use Rattle.cqlp_kind.specs.declared.kind.Kind.{Kind}
use Rattle.cqlp_kind.specs.declared.kind.Kind.TheVariants as kind
use Rattle.cqlp_kind.specs.Types.{NoMore, has_no_items}
use Rattle.cqlp_cell.specs.declared.size.Sized.TheVariants as size
use Rattle.cqlp_kind.specs.Scalars.{ScalarValue, allows_size, scalar_of, fault_of, size_or_lenient, scalar_or_lenient}
use Rattle.cqlp_kind.specs.CellStep.{CellEvent, Leaf, CellPlace, is_opaque, leaf_step, part_step, counted_step, scalar_step, content_step, sized_step, value_step}
use Rattle.cqlp_kind.specs.Contents.{scalar_in}
use Rattle.cqlp_cell.specs.Fronts.{SaysScalar}
use Rattle.cqlp_cell.proofs.Sizing.{scalar_content_is, short_is, fitting_is}

-- a content that is a scalar has an allowed size
scalar_or : (o : Option ScalarValue) (v : ScalarValue) (why : Reason) → ◌≡◌ {A = Result ScalarValue Reason} (Ok v) (ok_or o why) → o ≡ Some v
scalar_or None v why e = absurd cc
scalar_or (Some w) v why e = cc

scalar_when : (b : Bool) (k : Kind) (c : List ℕ) (v : ScalarValue) → allows_size k (length c) ≡ b → ◌≡◌ {A = Result ScalarValue Reason} (Ok v) (scalar_in k c) → (b ≡ true) × (scalar_of k c ≡ Some v)
scalar_when true k c v allows e = (refl, scalar_or (scalar_of k c) v (fault_of k) (rw allows at e))
scalar_when false k c v allows e = let no = rw allows at e in absurd cc

pub scalar_is : (k : Kind) (c : List ℕ) (v : ScalarValue) → ◌≡◌ {A = Result ScalarValue Reason} (Ok v) (scalar_in k c) → (allows_size k (length c) ≡ true) × (scalar_of k c ≡ Some v)
scalar_is k c v e = scalar_when (allows_size k (length c)) k c v refl e

module _ (l : Rules) (k : Kind) (room n : ℕ) (input : List ℕ) (v : ScalarValue) (part : l.part ≡ l.cell) (number : n ≡ from_be_bytes w32 (take 4 input)) (some : n ≢ 0) (low : n < 2 ^ 31) (short : n ≤ l.cell) (enough : 4 + n ≤ room) (there : 4 + n ≤ length input) (kind : has_no_items k ≡ true)
    (allows : size_or_lenient l.lenient k n ≡ true) (is : scalar_or_lenient l.lenient k (take n (drop 4 input)) ≡ Some v) where
  pub says_scalar : SaysScalar l k room input (4 + n) v
  unfolding number_of
  says_scalar =
      let sized = fitting_is l k room n (size.Scalar n) low some enough (short_is l k n kind part allows short) in
      let fits : 4 ≤ room = omega arith in
      let first : 4 ≤ length input = omega arith in
      let left : n ≤ length (drop 4 input) = omega (arith, length-drop 4 input) in
      record {
        is = λ p rest inner level. rw (le-ltb _ _ fits, le-ltb _ _ first, ← number, sized.is p rest inner level, le-ltb _ _ left, is) refl;
        within = there;
        inside = enough;
        some = omega arith;
      }

-- ---- what a scalar at the front says of the bytes

abbrev StepAnswer : Type 0
StepAnswer = Said (Emitted CellEvent CellPlace) (ℕ × Reason)

abbrev is_leaf : CellEvent → Bool
is_leaf (Leaf level v) = true
is_leaf e = false

abbrev emits_leaf : StepAnswer → Bool
emits_leaf (Got x used) = is_leaf x.event
emits_leaf d = false

module _ (taken : ℕ) (bytes : List ℕ) where
  abbrev leads : Step CellEvent CellPlace → Bool
  leads s = emits_leaf (says s taken bytes)

  else_leads : (b : Bool) (x y : Step CellEvent CellPlace) → leads (cond b x y) ≡ true → leads x ≡ false → (b ≡ false) × (leads y ≡ true)
  else_leads true x y h never = absurd cc
  else_leads false x y h never = (refl, h)

  then_leads : (b : Bool) (x y : Step CellEvent CellPlace) → leads (cond b x y) ≡ true → leads y ≡ false → (b ≡ true) × (leads x ≡ true)
  then_leads true x y h never = (refl, h)
  then_leads false x y h never = absurd cc

  neither_leads : (b : Bool) (x y : Step CellEvent CellPlace) → leads x ≡ false → leads y ≡ false → leads (cond b x y) ≡ false
  neither_leads true x y p q = p
  neither_leads false x y p q = q

waits_or : (b : Bool) (d : StepAnswer) → emits_leaf (cond b More d) ≡ true → (b ≡ false) × (emits_leaf d ≡ true)
waits_or true d h = absurd cc
waits_or false d h = (refl, h)

never_waits_or : (b : Bool) (d : StepAnswer) → emits_leaf d ≡ false → emits_leaf (cond b More d) ≡ false
never_waits_or true d h = refl
never_waits_or false d h = h

module _ (l : Rules) (p : CellPlace) (taken : ℕ) (bytes : List ℕ) where
  part_leads : (n : ℕ) → leads taken bytes (part_step l p [] 0 4 0 n) ≡ false
  part_leads n = never_waits_or (ltb (length bytes) (min l.part (n - 0))) _ refl

  counted_leads : (k : Kind) (n : ℕ) → leads taken bytes (counted_step p [] 0 k NoMore n) ≡ false
  unfolding number_of
  counted_leads k n =
      let c = from_be_bytes w32 (take 4 bytes) in
      neither_leads taken bytes (ltb n 4) _ _ refl (never_waits_or (ltb (length bytes) 4) _ (neither_leads (taken + 4) (drop 4 bytes) (is_negative c) _ _ refl refl))

  scalar_kind : (k : Kind) (n : ℕ) → leads taken bytes (content_step l p [] 0 k NoMore n) ≡ true → has_no_items k ≡ true
  scalar_kind kind.List n h = let no : true ≡ false = sym h ∙ counted_leads kind.List n in absurd cc
  scalar_kind kind.Set n h = let no : true ≡ false = sym h ∙ counted_leads kind.Set n in absurd cc
  scalar_kind kind.Map n h = let no : true ≡ false = sym h ∙ counted_leads kind.Map n in absurd cc
  scalar_kind kind.Udt n h = absurd cc
  scalar_kind kind.Tuple n h = absurd cc
  scalar_kind k n h = refl

leaf_is : (p : CellPlace) (k : Kind) (o : Option ScalarValue) (taken : ℕ) (bytes : List ℕ) → emits_leaf (says (leaf_step p [] 0 k o) taken bytes) ≡ true → is_some o ≡ true
leaf_is p k None taken bytes h = absurd cc
leaf_is p k (Some v) taken bytes h = refl

not_err : (o : Option ScalarValue) (why fault : Reason) → is_some o ≡ true → ◌≡◌ {A = Result ScalarValue Reason} (Err why) (ok_or o fault) → ⊥
not_err None why fault some e = absurd cc
not_err (Some v) why fault some e = absurd cc

-- a content that is a scalar is not refused
pub never_refused : (k : Kind) (c : List ℕ) (why : Reason) → allows_size k (length c) ≡ true → is_some (scalar_of k c) ≡ true → ◌≡◌ {A = Result ScalarValue Reason} (Err why) (scalar_in k c) → ⊥
never_refused k c why allows some e = not_err (scalar_of k c) why (fault_of k) some (rw allows at e)

-- What the function tests, where a scalar lies at the front.
pub record IsThere (l : Rules) (k : Kind) (room n : ℕ) (input : List ℕ) : Type 0 where
  pub first : 4 ≤ length input
  pub low : n < 2 ^ 31
  pub some : n ≢ 0
  pub enough : 4 + n ≤ room
  pub kind : has_no_items k ≡ true
  pub allows : size_or_lenient l.lenient k n ≡ true
  pub short : n ≤ l.cell
  pub there : 4 + n ≤ length input
  pub is : is_some (scalar_or_lenient l.lenient k (take n (drop 4 input))) ≡ true

module _ (l : Rules) (k : Kind) (room used : ℕ) (input : List ℕ) (v : ScalarValue) (h : SaysScalar l k room input used v) where
  abbrev start : CellPlace
  start = record { offset = 0; symbols = [] }

  abbrev n : ℕ
  n = from_be_bytes w32 (take 4 input)

  abbrev rest : List ℕ
  rest = drop 4 input

  leaf : emits_leaf (says (value_step l start [] k NoMore 0 room) 0 input) ≡ true
  leaf = ap emits_leaf (h.is start [] NoMore 0)

  sized : (4 ≤ room) × (4 ≤ length input) × (emits_leaf (says (sized_step l start [] k NoMore 0 room n) 4 rest) ≡ true)
  unfolding number_of
  sized =
      let a = else_leads 0 input (ltb room 4) _ _ leaf refl in
      let b = waits_or (ltb (length input) 4) _ a.1 in
      (ltb-false room 4 a.0, ltb-false (length input) 4 b.0, b.1)

  content : (is_negative n ≡ false) × (eqb n 0 ≡ false) × (4 + n ≤ room) × (emits_leaf (says (content_step l start [] 0 k NoMore n) 4 rest) ≡ true)
  content =
      let a = else_leads 4 rest (is_negative n) _ _ sized.2 refl in
      let b = else_leads 4 rest (eqb n 0) _ _ a.1 refl in
      let c = else_leads 4 rest (ltb room (4 + n)) _ _ b.1 refl in
      (a.0, b.0, ltb-false room (4 + n) c.0, c.1)

  pub front_there : IsThere l k room n input
  front_there =
      let kind = scalar_kind l start 4 rest k n content.3 in
      let scalar : emits_leaf (says (scalar_step l start [] 0 k n) 4 rest) ≡ true = rw (scalar_content_is l start [] 0 k NoMore n kind) at content.3 in
      let a = then_leads 4 rest (size_or_lenient l.lenient k n) _ _ scalar refl in
      let b = else_leads 4 rest (l.parts && is_opaque k && ltb l.part n) _ _ a.1 (part_leads l start 4 rest n) in
      let c = else_leads 4 rest (ltb l.cell n) _ _ b.1 refl in
      let d = waits_or (ltb (length rest) n) _ c.1 in
      let left : n ≤ length rest = ltb-false (length rest) n d.0 in
      record {
        first = sized.1;
        low = omega (arith, ltb-false (2 ^ 31 - 1) n content.0);
        some = eqb-false n 0 content.1;
        enough = content.2;
        kind = kind;
        allows = a.0;
        short = ltb-false l.cell n c.0;
        there = omega (arith, length-drop 4 input, sized.1);
        is = leaf_is start k (scalar_or_lenient l.lenient k (take n rest)) _ _ d.1;
      }

-- ---- the scalar that it is

abbrev leaf_in : CellEvent → Option ScalarValue
leaf_in (Leaf level v) = Some v
leaf_in e = None

abbrev emitted_leaf : StepAnswer → Option ScalarValue
emitted_leaf (Got x used) = leaf_in x.event
emitted_leaf d = None

abbrev emitted_used : StepAnswer → ℕ
emitted_used (Got x used) = used
emitted_used d = 0

module _ (l : Rules) (k : Kind) (room used : ℕ) (input : List ℕ) (v : ScalarValue) (same : l.part ≡ l.cell) (h : SaysScalar l k room input used v) where
  abbrev content_long : ℕ
  content_long = from_be_bytes w32 (take 4 input)

  abbrev content_of : List ℕ
  content_of = take content_long (drop 4 input)

  front_by : (o : Option ScalarValue) → scalar_or_lenient l.lenient k content_of ≡ o → is_some o ≡ true → (used ≡ 4 + content_long) × (scalar_or_lenient l.lenient k content_of ≡ Some v)
  front_by None e t = absurd cc
  front_by (Some w) e t =
      let t = front_there l k room used input v h in
      let s = says_scalar l k room content_long input w same refl t.some t.low t.short t.enough t.there t.kind t.allows e in
      let begin : CellPlace = record { offset = 0; symbols = [] } in
      let both = sym (h.is begin [] NoMore 0) ∙ s.is begin [] NoMore 0 in
      let is : ◌≡◌ {A = Option ScalarValue} (Some v) (Some w) = ap emitted_leaf both in
      (ap emitted_used both, e ∙ sym is)

  -- all that the bytes say of it
  pub front_is : IsThere l k room content_long input × (used ≡ 4 + content_long) × (scalar_or_lenient l.lenient k content_of ≡ Some v)
  front_is =
      let t = front_there l k room used input v h in
      let leaf = front_by (scalar_or_lenient l.lenient k content_of) refl t.is in
      (t, leaf.0, leaf.1)
