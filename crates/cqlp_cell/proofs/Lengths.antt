-- The length of a value.
use Rattle.std.proofs.Common.{◌≡◌, ℕ, ◌+◌, ◌-◌, ◌^◌, ◌<◌, ◌≤◌, true, false, List, ◌++◌, length, take, drop, Some, refl, sym, ◌∙◌, arith, inl, inr, lt-ltb, le-ltb}
use Rattle.std.specs.Int.{w32, from_be_bytes}
use Rattle.std.proofs.lemmas.Bool.{cases_lt}
use Rattle.std.proofs.lemmas.List.{length-take-le, take-append-drop}
use Rattle.std.proofs.Math.Seq.{drop-append-add}
use Rattle.cqlp_note.specs.declared.refusal.Reason.TheVariants.{Overrun}
use Rattle.cqlp_note.specs.Reader.{More, Bad, says, number_of}
use Rattle.cqlp_note.specs.Partial.{FieldState}
use Rattle.cqlp_kind.specs.declared.node.Node.{Node}
use Rattle.cqlp_cell.specs.declared.advance.CellOutline.{CellOutline}
use Rattle.cqlp_cell.specs.declared.advance.CellOutline.TheVariants as outline
use Rattle.cqlp_cell.specs.declared.advance.CellAdvance.{CellAdvance}
use Rattle.cqlp_cell.specs.declared.advance.CellAdvance.TheVariants as advance
use Rattle.cqlp_cell.specs.declared.progress.Arrived.{Arrived}
use Rattle.cqlp_cell.specs.declared.progress.Arrived.TheVariants as arrived
use Rattle.cqlp_cell.specs.declared.progress.CellDue.TheVariants as due
use Rattle.cqlp_cell.specs.Numbers.{IsUnsigned, WantsNumber, IsCounted}
use Rattle.cqlp_cell.specs.Progress.{CellState, ended, due_of, Conforms}
use Rattle.cqlp_cell.specs.Coming.{room_of, ValueDue}
use Rattle.cqlp_cell.specs.Reading.{StepAnswer, step_says, sized_of, IsKept, Waits, Fails, Settles, LengthCame, AreBytes, HaveCome}
use Rattle.cqlp_cell.proofs.Coming.{value_due}

-- what a call does, it does where the same is said in other words
pub settles_as : (nodes : List Node) (old : CellState) (p : FieldState) (input : List ℕ) (said said' : StepAnswer) (base base' : ℕ) (W W' : Arrived → List ℕ → Type 0) (a : CellAdvance) (new : CellState) (q : FieldState)
    → said ≡ said' → base ≡ base' → ((u : Arrived) (seen : List ℕ) → W u seen → W' u seen) → Settles nodes old p input said base W a new q → Settles nodes old p input said' base' W' a new q
settles_as nodes old p input said said' base base' W W' (advance.More used) new q e f g h = (rw e at h.0, g new.arrived q.seen h.1)
settles_as nodes old p input said said' base base' W W' (advance.Item at used i) new q e f g h = rw (e, f) at h
settles_as nodes old p input said said' base base' W W' advance.Done new q e f g h = h
settles_as nodes old p input said said' base base' W W' (advance.Refused r) new q e f g h = rw e at h

-- the number that the first four bytes are
abbrev first_number : List ℕ → ℕ
first_number x = from_be_bytes w32 (take 4 x)

module _ (nodes : List Node) (d : CellState) (due : ValueDue nodes d) (x : List ℕ) where
  pub length_overrun : room_of nodes d < 4 → step_says nodes d x ≡ Bad (d.offset, Overrun)
  unfolding step_says number_of
  length_overrun lt = rw (due.step, lt-ltb (room_of nodes d) 4 lt) refl

  pub length_short : 4 ≤ room_of nodes d → length x < 4 → step_says nodes d x ≡ More
  unfolding step_says number_of
  length_short le lt = rw (due.step, le-ltb (room_of nodes d) 4 le, lt-ltb (length x) 4 lt) refl

  pub length_whole : 4 ≤ room_of nodes d → 4 ≤ length x → step_says nodes d x ≡ says (sized_of nodes d (first_number x)) 4 (drop 4 x)
  unfolding step_says sized_of number_of
  length_whole le long = rw (due.step, le-ltb (room_of nodes d) 4 le, le-ltb (length x) 4 long) refl

-- a length with its sign bit is null, whichever it is
pub same_number : (nodes : List Node) (d : CellState) (m n : ℕ) → IsUnsigned m n → sized_of nodes d m ≡ sized_of nodes d n
unfolding sized_of
same_number nodes d m n h = elim (cases_lt m (2 ^ 31)) [
  | inl lt ↦ rw (h.0 lt) refl
  | inr le ↦ rw (lt-ltb (2 ^ 31 - 1) m (omega arith), lt-ltb (2 ^ 31 - 1) n (omega (arith, h.1 le))) refl
]

-- the bytes of a length, and those after it
pub come_behind : (n : ℕ) (bytes rest : List ℕ) (u : Arrived) (seen : List ℕ) → AreBytes (Some n) rest bytes → LengthCame n rest u seen → HaveCome bytes u seen
come_behind n bytes rest arrived.Nothing seen h b = absurd cc
come_behind n bytes rest arrived.Length seen h b = absurd cc
come_behind n bytes rest (arrived.Scalar m) seen h b = let e : m ≡ n = cc in rw (e, b.1) h
come_behind n bytes rest (arrived.Counted m) seen h b = let e : m ≡ n = cc in rw (e, b.1) h
come_behind n bytes rest (arrived.First m) seen h b = let e : m ≡ n = cc in rw (e, b.1) h
come_behind n bytes rest arrived.Later seen h b = absurd cc

-- what follows a length that is whole
module _ (nodes : List Node) (old : CellState) (p mid : FieldState) (seen input : List ℕ) (used n : ℕ) (conforms : Conforms nodes old) (v : due_of old ≡ due.Value) (found : IsCounted (room_of nodes old) 0 seen (seen ++ input) input used n p mid) where
  abbrev m : ℕ
  m = first_number (seen ++ input)

  behind_is : drop 4 (seen ++ input) ≡ drop used input
  behind_is =
      let e : 4 ≡ length seen + used = omega (arith, found.count) in
      rw e (drop-append-add seen input used)

  number_low : n < 2 ^ 31 → m ≡ n
  number_low lt = elim (cases_lt m (2 ^ 31)) [
    | inl low ↦ sym (found.is.0 low)
    | inr le ↦ absurd (omega (arith, found.is.1 le))
  ]

  whole_bytes : n < 2 ^ 31 → AreBytes (Some n) (drop used input) (seen ++ input)
  whole_bytes lt = (take 4 (seen ++ input), length-take-le 4 (seen ++ input) found.whole, number_low lt, rw behind_is at (sym (take-append-drop 4 (seen ++ input))))

  pub length_settles : (a : CellAdvance) (new : CellState) (q : FieldState) → Settles nodes old mid input (says (sized_of nodes old n) 4 (drop used input)) ((4 - used) + 0) (LengthCame n (drop used input)) a new q
      → Settles nodes old mid input (step_says nodes old (seen ++ input)) (length seen) (HaveCome (seen ++ input)) a new q
  length_settles a new q h =
      let due = value_due nodes old conforms v in
      let said : says (sized_of nodes old n) 4 (drop used input) ≡ step_says nodes old (seen ++ input) = sym (length_whole nodes old due (seen ++ input) found.enough found.whole ∙ rw (same_number nodes old m n found.is, behind_is) refl) in
      let base : (4 - used) + 0 ≡ length seen = omega (arith, found.count) in
      settles_as nodes old mid input _ _ _ _ _ _ a new q said base (λ u s b. come_behind n (seen ++ input) (drop used input) u s (whole_bytes b.2) b) h

-- a length that goes on
pub length_waits : (nodes : List Node) (old : CellState) (p q : FieldState) (input bytes : List ℕ) → Conforms nodes old → due_of old ≡ due.Value → old.rules.cell ≤ p.room → WantsNumber old.offset (room_of nodes old) bytes p q
    → Waits nodes old p input (step_says nodes old bytes) (length input) (record old { arrived = arrived.Length }) q × HaveCome bytes arrived.Length q.seen
length_waits nodes old p q input bytes conforms v longest wants = (
  record {
    all = refl;
    is = length_short nodes old (value_due nodes old conforms v) bytes wants.enough wants.short;
    same = refl;
    under_way = wants.under_way;
    kept = wants.empty;
    joined = record { longest = rw wants.longest longest; under_way = (v, (wants.under_way, wants.field, wants.enough, refl, rw wants.seen wants.short)) };
    longest = wants.longest;
  },
  sym wants.seen,
)

pub length_fails : (nodes : List Node) (old new : CellState) (p q : FieldState) (bytes : List ℕ) → Conforms nodes old → due_of old ≡ due.Value → room_of nodes old < 4 → new ≡ ended old → q.under_way ≡ false → q.room ≡ p.room
    → Fails nodes old p (step_says nodes old bytes) (record { at = old.offset; why = Overrun }) new q
length_fails nodes old new p q bytes conforms v lt goes idle room = record { is = length_overrun nodes old (value_due nodes old conforms v) bytes lt; ends = goes; idle = idle; longest = room }

still_kept : (nodes : List Node) (i : CellOutline) (p mid : FieldState) (input buffer : List ℕ) (used : ℕ) → mid.under_way ≡ false → IsKept nodes i mid input buffer used → IsKept nodes i p input buffer used
still_kept nodes (outline.Leaf level k c) p mid input buffer used idle h = λ lt. let no : true ≡ false = sym (h lt).0 ∙ idle in absurd cc
still_kept nodes (outline.Part level offset c last) p mid input buffer used idle h = λ lt. let no : true ≡ false = sym (h lt).0 ∙ idle in absurd cc
still_kept nodes (outline.Null level) p mid input buffer used idle h = tt
still_kept nodes (outline.Empty level) p mid input buffer used idle h = tt
still_kept nodes (outline.Enter level k n) p mid input buffer used idle h = tt
still_kept nodes (outline.Leave level n) p mid input buffer used idle h = tt

-- where a call begins with no field under way, it may as well have begun with another `Partial` of the same room
pub settles_from : (nodes : List Node) (old : CellState) (p mid : FieldState) (input : List ℕ) (said : StepAnswer) (base : ℕ) (W : Arrived → List ℕ → Type 0) (a : CellAdvance) (new : CellState) (q : FieldState)
    → mid.room ≡ p.room → mid.under_way ≡ false → Settles nodes old mid input said base W a new q → Settles nodes old p input said base W a new q
settles_from nodes old p mid input said base W (advance.More used) new q e idle h = (record { all = h.0.all; is = h.0.is; same = h.0.same; under_way = h.0.under_way; joined = h.0.joined; kept = h.0.kept; longest = h.0.longest ∙ e }, h.1)
settles_from nodes old p mid input said base W (advance.Item at used i) new q e idle h = record {
  within = h.within;
  emits = h.emits;
  can_lend = h.can_lend;
  lent = h.lent;
  kept = still_kept nodes i p mid input q.content used idle h.kept;
  held = h.held;
  rules = h.rules;
  stop = h.stop;
  conforms = h.conforms;
  onward = h.onward;
  goes_after = h.goes_after;
  pays = h.pays;
  goes_on = h.goes_on;
  fresh = h.fresh;
  idle = h.idle;
  longest = h.longest ∙ e;
}
settles_from nodes old p mid input said base W advance.Done new q e idle h = h
settles_from nodes old p mid input said base W (advance.Refused r) new q e idle h = record { is = h.is; ends = h.ends; idle = h.idle; longest = h.longest ∙ e }
