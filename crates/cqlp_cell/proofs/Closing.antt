-- The end of a value, and what goes on.
use Rattle.std.proofs.Common.{◌≡◌, ◌≢◌, ℕ, ◌+◌, ◌^◌, ◌<◌, ◌≤◌, true, false, List, [], ◌∷◌, ◌++◌, length, take, drop, Some, refl, sym, ap, ◌∙◌, append_assoc, arith, lt-ltb, le-ltb}
use Rattle.std.specs.Int.{w32, from_be_bytes}
use Rattle.std.proofs.lemmas.List.{length-append, take_at, drop_at}
use Rattle.cqlp_note.specs.declared.refusal.Reason.TheVariants.{ExtraInValue}
use Rattle.cqlp_note.specs.Reader.{says}
use Rattle.cqlp_note.specs.Partial.{FieldState}
use Rattle.cqlp_kind.specs.declared.node.Node.{Node}
use Rattle.cqlp_cell.specs.declared.advance.CellAdvance.{CellAdvance}
use Rattle.cqlp_cell.specs.declared.advance.CellAdvance.TheVariants as advance
use Rattle.cqlp_cell.specs.declared.advance.CellOutline.TheVariants as outline
use Rattle.cqlp_cell.specs.declared.open_values.OpenValue.{OpenValue}
use Rattle.cqlp_cell.specs.declared.progress.NextInCell.TheVariants as next
use Rattle.cqlp_cell.specs.declared.progress.Arrived.{Arrived}
use Rattle.cqlp_cell.specs.declared.progress.Arrived.TheVariants as arrived
use Rattle.cqlp_cell.specs.declared.progress.CellDue.{CellDue}
use Rattle.cqlp_cell.specs.declared.progress.CellDue.TheVariants as due
use Rattle.cqlp_kind.specs.CellStep.{Leave, place_after}
use Rattle.cqlp_cell.specs.OpenValues.{but_last}
use Rattle.cqlp_cell.specs.Progress.{CellState, ended, is_some_next, all_open_symbols, place, is_over, due_of, has_further, AreOpen, last_stop, Conforms}
use Rattle.cqlp_cell.specs.Coming.{room_of}
use Rattle.cqlp_cell.specs.Reading.{StepAnswer, step_says, sized_of, Hands, Fails, Settles, Moves, Answers, LengthCame, AreBytes, HaveCome}
use Rattle.cqlp_cell.proofs.Nesting.{but_last_is}
use Rattle.cqlp_cell.proofs.Opened.{Inmost, close_next}
use Rattle.cqlp_cell.proofs.Coming.{value_due, close_items, close_is}
use Rattle.cqlp_cell.proofs.Further.{past_further}
use Rattle.cqlp_cell.proofs.Lengths.{length_whole, come_behind, settles_as}

-- ---- the end of the innermost value

-- with fewer values open
module _ (nodes : List Node) (d : CellState) (front : List OpenValue) (items : d.next ≡ next.Items) where
  fewer_conform : AreOpen nodes d.rules 0 d.stop front → d.offset ≤ last_stop d.stop front → d.stop < 2 ^ 64 → Conforms nodes (record d { open_values = front })
  fewer_conform a le bounded = record { open_conform = a; within = rw items (omega arith); next_conforms = rw items tt; bounded = bounded }

  fewer_place : record { offset = d.offset + 0; symbols = all_open_symbols nodes 0 front } ≡ place nodes (record d { open_values = front })
  fewer_place = let zero : d.offset + 0 ≡ d.offset = omega arith in rw (items, zero) refl

module _ (nodes : List Node) (d : CellState) (o : OpenValue) (p : FieldState) (input : List ℕ) (conforms : Conforms nodes d) (v : due_of d ≡ due.Close o) (idle : p.under_way ≡ false) where
  its_items : d.next ≡ next.Items
  its_items = close_items d o v

  closing : Inmost nodes d o × (is_over o d.offset ≡ true)
  closing = close_next nodes d conforms its_items o v

  pub close_fails : (new : CellState) → has_further d.rules o d.offset ≡ false → d.offset < o.stop → new ≡ ended d → Fails nodes d p (step_says nodes d input) (record { at = d.offset; why = ExtraInValue }) new p
  unfolding step_says
  close_fails new shut lt goes = record {
    is = rw (close_is nodes d its_items o closing.0 closing.1 shut, lt-ltb d.offset o.stop lt) refl;
    ends = goes;
    idle = idle;
    longest = refl;
  }

  pub close_hands : (new : CellState) (level : ℕ) → d.arrived ≡ arrived.Nothing → o.stop ≤ d.offset → new ≡ record d { open_values = but_last d.open_values } → level ≡ length (but_last d.open_values)
      → Hands nodes d p input (step_says nodes d input) 0 d.offset 0 (outline.Leave level o.items) new p
  unfolding step_says
  close_hands new level fresh le goes at =
      let m = closing.0 in
      let long : length d.open_values ≡ length m.front + 1 = ap length m.is ∙ length-append m.front (o ∷ []) in
      let front : but_last d.open_values ≡ m.front = ap but_last m.is ∙ but_last_is m.front o in
      rw (goes, at, front) (record {
        within = omega arith;
        emits = record {
          x = record { at = d.offset; event = Leave (length m.front) o.items; after = place_after (place nodes d) (all_open_symbols nodes 0 m.front) [] };
          is = rw (close_is nodes d its_items o m closing.1 (past_further d.rules o d.offset le), le-ltb d.offset o.stop le) refl;
          offset = refl;
          event = refl;
          after = fewer_place nodes d m.front its_items;
        };
        can_lend = tt;
        lent = tt;
        kept = tt;
        held = tt;
        rules = refl;
        stop = refl;
        onward = omega arith;
        goes_after = rw its_items tt;
        pays = omega (arith, long);
        conforms = fewer_conform nodes d m.front its_items m.innermost.around (omega (arith, m.inside, m.innermost.within)) conforms.bounded;
        goes_on = ap is_some_next its_items;
        fresh = fresh;
        idle = idle;
        longest = refl;
      })

-- ---- what goes on

module _ (nodes : List Node) (old : CellState) (p : FieldState) (input : List ℕ) (n : ℕ) (conforms : Conforms nodes old) (v : due_of old ≡ due.Value) (room : 4 ≤ room_of nodes old) where
  -- after a length that came before
  pub resumed : (b : List ℕ) (a : CellAdvance) (new : CellState) (q : FieldState) → AreBytes (Some n) p.seen b
      → Settles nodes old p input (says (sized_of nodes old n) 4 (p.seen ++ input)) (4 + length p.seen) (LengthCame n (p.seen ++ input)) a new q
      → Settles nodes old p input (step_says nodes old (b ++ input)) (length b) (HaveCome (b ++ input)) a new q
  resumed b a new q h s =
      let due = value_due nodes old conforms v in
      let all : b ++ input ≡ h.0 ++ (p.seen ++ input) = rw h.3 (append_assoc h.0 p.seen input) in
      let front : take 4 (b ++ input) ≡ h.0 = rw all (take_at h.0 (p.seen ++ input) 4 h.1) in
      let behind : drop 4 (b ++ input) ≡ p.seen ++ input = rw all (drop_at h.0 (p.seen ++ input) 4 h.1) in
      let long : 4 ≤ length (b ++ input) = rw all (omega (arith, length-append h.0 (p.seen ++ input), h.1)) in
      let number : from_be_bytes w32 (take 4 (b ++ input)) ≡ n = rw front h.2 in
      let said : says (sized_of nodes old n) 4 (p.seen ++ input) ≡ step_says nodes old (b ++ input) = sym (length_whole nodes old due (b ++ input) room long ∙ rw (number, behind) refl) in
      let base : 4 + length p.seen ≡ length b = rw h.3 (omega (arith, length-append h.0 p.seen, h.1)) in
      settles_as nodes old p input _ _ _ _ _ _ a new q said base (λ u seen w. come_behind n (b ++ input) (p.seen ++ input) u seen (h.0, h.1, h.2, all) w) s

-- a call that settles does not end the cell
pub moves_by : (nodes : List Node) (old : CellState) (p : FieldState) (input : List ℕ) (said : StepAnswer) (base : ℕ) (W : Arrived → List ℕ → Type 0) (a : CellAdvance) (new : CellState) (q : FieldState) → Settles nodes old p input said base W a new q
    → ((b : List ℕ) → HaveCome b old.arrived p.seen → Settles nodes old p input (step_says nodes old (b ++ input)) (length b) (HaveCome (b ++ input)) a new q) → Moves nodes old p input a new q
moves_by nodes old p input said base W (advance.More used) new q h f = f
moves_by nodes old p input said base W (advance.Item at used i) new q h f = f
moves_by nodes old p input said base W advance.Done new q h f = absurd h
moves_by nodes old p input said base W (advance.Refused r) new q h f = f

-- where nothing had come
pub moves_afresh : (nodes : List Node) (old : CellState) (p : FieldState) (input : List ℕ) (a : CellAdvance) (new : CellState) (q : FieldState) → old.arrived ≡ arrived.Nothing → Settles nodes old p input (step_says nodes old input) 0 (HaveCome input) a new q → Moves nodes old p input a new q
moves_afresh nodes old p input a new q fresh h = moves_by nodes old p input _ _ _ a new q h (λ b come. let none : b ≡ [] = rw fresh at come in rw none h)

-- such a call has not been asked to end it
pub settles_answers : (nodes : List Node) (old : CellState) (p : FieldState) (input : List ℕ) (said : StepAnswer) (base : ℕ) (W : Arrived → List ℕ → Type 0) (a : CellAdvance) (new : CellState) (q : FieldState) → Settles nodes old p input said base W a new q → due_of old ≢ due.Nothing → Answers old input a
settles_answers nodes old p input said base W (advance.More used) new q h some = (h.0.all, some)
settles_answers nodes old p input said base W (advance.Item at used i) new q h some = (h.within, some)
settles_answers nodes old p input said base W advance.Done new q h some = absurd h
settles_answers nodes old p input said base W (advance.Refused r) new q h some = some

pub value_some : (d : CellState) → due_of d ≡ due.Value → due_of d ≢ due.Nothing
value_some d v n = let no : ◌≡◌ {A = CellDue} due.Value due.Nothing = sym v ∙ n in absurd cc

pub close_some : (d : CellState) (o : OpenValue) → due_of d ≡ due.Close o → due_of d ≢ due.Nothing
close_some d o v n = let no : ◌≡◌ {A = CellDue} (due.Close o) due.Nothing = sym v ∙ n in absurd cc

pub part_some : (d : CellState) (offset total : ℕ) → due_of d ≡ due.Part offset total → due_of d ≢ due.Nothing
part_some d offset total v n = let no : ◌≡◌ {A = CellDue} (due.Part offset total) due.Nothing = sym v ∙ n in absurd cc

pub later_some : (d : CellState) (offset total : ℕ) → d.next ≡ next.Part offset total → due_of d ≢ due.Nothing
later_some d offset total e = part_some d offset total (rw e refl)
