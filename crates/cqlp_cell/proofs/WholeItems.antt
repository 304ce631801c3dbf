-- An item that lies whole at the front of the input.
use Rattle.std.proofs.Common.{◌≡◌, ℕ, ◌+◌, ◌-◌, ◌^◌, ◌<◌, ◌≤◌, false, true, List, [], ◌∷◌, ◌++◌, length, take, drop, refl, ap, ◌∙◌, arith}
use Rattle.std.specs.Int.{w32, from_be_bytes}
use Rattle.std.proofs.lemmas.List.{length-append, length-drop, length-take-le, take_all}
use Rattle.cqlp_note.specs.declared.head.ContentForm.TheVariants as form
use Rattle.cqlp_note.specs.declared.advance.ContentPlace.TheVariants as lies
use Rattle.cqlp_note.specs.declared.advance.FieldOutline.TheVariants as item
use Rattle.cqlp_note.specs.Reader.{says}
use Rattle.cqlp_note.specs.Step.{Step}
use Rattle.cqlp_note.specs.Limits.{with_lenient}
use Rattle.cqlp_note.specs.Partial.{FieldState}
use Rattle.cqlp_kind.specs.declared.node.Node.{Node}
use Rattle.cqlp_kind.specs.Scalars.{ScalarValue}
use Rattle.cqlp_kind.specs.CellStep.{CellEvent, CellPlace, Leaf, place_after}
use Rattle.cqlp_cell.specs.declared.advance.CellAdvance.TheVariants as advance
use Rattle.cqlp_cell.specs.declared.advance.CellOutline.{CellOutline}
use Rattle.cqlp_cell.specs.declared.advance.CellOutline.TheVariants as outline
use Rattle.cqlp_cell.specs.declared.open_values.OpenValue.{OpenValue}
use Rattle.cqlp_cell.specs.declared.size.Sized.TheVariants as size
use Rattle.cqlp_cell.specs.declared.progress.CellDue.TheVariants as due
use Rattle.cqlp_cell.specs.declared.progress.NextInCell.TheVariants as next
use Rattle.cqlp_cell.specs.declared.progress.Arrived.TheVariants as arrived
use Rattle.cqlp_cell.specs.Fronts.{SaysScalar}
use Rattle.cqlp_cell.specs.Items.{event_at}
use Rattle.cqlp_cell.specs.Numbers.{IsCounted}
use Rattle.cqlp_cell.specs.OpenValues.{but_last, with_last}
use Rattle.cqlp_cell.specs.Progress.{CellState, place, due_value, open_after, state_after, rest_of, due_of, is_over, Conforms}
use Rattle.cqlp_cell.specs.Coming.{inner_of, room_of}
use Rattle.cqlp_cell.specs.Reading.{step_says, sized_of, Decided, Hands, EntersCounted, EntersFields}
use Rattle.cqlp_cell.specs.Pushing.{done_by, is_done}
use Rattle.cqlp_cell.specs.Whole.{IsWhole, Leaves}
use Rattle.cqlp_cell.specs.declared.level.Level.{Level}
use Rattle.cqlp_cell.specs.declared.whole.BarePart.TheVariants as bare
use Rattle.cqlp_cell.specs.Levels.{IsInLevel, with_level}
use Rattle.cqlp_cell.proofs.Levels.{due_here, with_only}
use Rattle.cqlp_cell.proofs.Opened.{value_next}
use Rattle.cqlp_cell.proofs.Coming.{value_due}
use Rattle.cqlp_cell.proofs.Handing.{moved_conforms}
use Rattle.cqlp_cell.proofs.Closing.{close_hands, moves_afresh}
use Rattle.cqlp_cell.proofs.Lengths.{length_settles}
use Rattle.cqlp_cell.proofs.Settling.{null_hands, empty_hands, fields_hands}
use Rattle.cqlp_cell.proofs.Counting.{count_hands}
use Rattle.cqlp_cell.proofs.Fronts.{front_is}

module _ (nodes : List Node) (d : CellState) (input : List ℕ) (at used : ℕ) (i : CellOutline) (new : CellState) where
  whole : d.arrived ≡ arrived.Nothing → ((p : FieldState) → p.under_way ≡ false → p.content ≡ [] → Hands nodes d p input (step_says nodes d input) 0 at used i new p) → IsWhole nodes d input at used i new
  whole fresh hands = record {
    fresh = fresh;
    moves = λ p joined empty. moves_afresh nodes d p input (advance.Item at used i) new p fresh (hands p (rw fresh at joined.under_way) empty);
  }

-- all from here on
pub rest_all : (k : ℕ) (xs : List ℕ) → take (length xs - k) (drop k xs) ≡ drop k xs
rest_all k xs = take_all _ _ (omega (arith, length-drop k xs))

-- the number that the first four bytes are
abbrev front_number : List ℕ → ℕ
front_number x = from_be_bytes w32 (take 4 x)

-- ---- a scalar

none_over : (os : List OpenValue) → 0 < length os → done_by next.Items os ≡ false
none_over [] some = absurd (omega (arith, some))
none_over (o ∷ os) some = refl

module _ (nodes : List Node) (d : CellState) (input : List ℕ) (used : ℕ) (v : ScalarValue) (conforms : Conforms nodes d) (fresh : d.arrived ≡ arrived.Nothing) (items : d.next ≡ next.Items) (now : due_of d ≡ due.Value) (same : d.rules.part ≡ d.rules.cell)
    (front : SaysScalar d.rules (due_value nodes d).kind (room_of nodes d) input used v) (typed : SaysScalar (with_lenient false d.rules) (due_value nodes d).kind (room_of nodes d) input used v) where
  abbrev long : ℕ
  long = front_number input

  pub scalar_outline : CellOutline
  scalar_outline = outline.Leaf (length d.open_values) (due_value nodes d).kind (item.Content form.Bytes (lies.InInput 4 long))

  pub scalar_is : (buffer : List ℕ) → event_at scalar_outline input buffer ≡ Leaf (length d.open_values) v
  unfolding scalar_outline
  scalar_is buffer =
      let f = front_is (with_lenient false d.rules) (due_value nodes d).kind (room_of nodes d) used input v same typed in
      rw f.2 refl

  scalar_hands : (p : FieldState) → p.under_way ≡ false → p.content ≡ [] → Hands nodes d p input (step_says nodes d input) 0 d.offset used scalar_outline (state_after nodes d used) p
  unfolding scalar_outline step_says
  scalar_hands p idle empty =
      let f = front_is (with_lenient false d.rules) (due_value nodes d).kind (room_of nodes d) used input v same typed in
      let v' = value_due nodes d conforms now in
      let count : 0 + used ≡ used = omega arith in
      let left : long ≤ length (drop 4 input) = omega (arith, f.0.there, length-drop 4 input) in
      let size : length (take long (drop 4 input)) ≡ long = length-take-le long (drop 4 input) left in
      record {
        within = front.within;
        emits = rw count (record {
          x = record { at = d.offset; event = Leaf (length d.open_values) v; after = place_after (place nodes d) (rest_of nodes d) [] };
          is = ap (λ (s : Step CellEvent CellPlace). says s 0 input) v'.step ∙ front.is (place nodes d) (rest_of nodes d) (inner_of nodes (due_value nodes d)) (length d.open_values);
          offset = refl;
          event = rw f.2 refl;
          after = refl;
        });
        can_lend = (((f.0.there, refl), refl), rw size f.0.allows, f.0.is);
        lent = λ le. empty;
        kept = λ lt. absurd (omega (arith, size, f.1, rw size at lt));
        held = λ lt. absurd (omega (arith, size, f.1, rw size at lt));
        rules = refl;
        stop = refl;
        conforms = moved_conforms nodes d used conforms v' (omega (arith, front.inside, v'.inside));
        onward = rw count refl;
        goes_after = tt;
        pays = omega (arith, v'.level, front.some);
        goes_on = refl;
        fresh = refl;
        idle = idle;
        longest = refl;
      }

  pub scalar_whole : (new : CellState) → new ≡ state_after nodes d used → IsWhole nodes d input d.offset used scalar_outline new × (is_done new ≡ false)
  scalar_whole new goes =
      let v' = value_due nodes d conforms now in
      let next = value_next nodes d conforms items now in
      let some : length d.open_values ≡ length next.1.front + 1 = ap length next.1.is ∙ length-append next.1.front (next.0 ∷ []) in
      rw goes (whole nodes d input d.offset used scalar_outline (state_after nodes d used) fresh scalar_hands, none_over (open_after nodes d) (omega (arith, some, v'.level)))

  pub scalar_place : d.offset + used < 2 ^ 64
  scalar_place = let v' = value_due nodes d conforms now in omega (arith, front.inside, v'.inside, v'.bounded)

-- ---- the end of the innermost value

pub leave_whole : (nodes : List Node) (d : CellState) (o : OpenValue) (input : List ℕ) (new : CellState) (level : ℕ) → Conforms nodes d → due_of d ≡ due.Close o → d.arrived ≡ arrived.Nothing → o.stop ≤ d.offset → new ≡ record d { open_values = but_last d.open_values } → level ≡ length (but_last d.open_values)
    → IsWhole nodes d input d.offset 0 (outline.Leave level o.items) new
leave_whole nodes d o input new level conforms now fresh le goes at = whole nodes d input d.offset 0 (outline.Leave level o.items) new fresh (λ p idle _. close_hands nodes d o p input conforms now idle new level fresh le goes at)

-- the same of the cell itself, whose level is in a caller's hands
pub left_whole : (nodes : List Node) (d : CellState) (l : Level) → IsInLevel d l → length d.open_values ≡ 1 → is_over l.value l.offset ≡ true → l.value.stop ≤ l.offset → Conforms nodes (with_level d l)
    → Leaves nodes (with_level d l) (record { at = l.offset; used = 0; part = bare.Leave 0 l.value.items }) (record d { offset = l.offset; open_values = [] })
left_whole nodes d l here one over le conforms =
    let only = with_only d.open_values l.value one in
    let now : due_of (with_level d l) ≡ due.Close l.value = rw over at (due_here nodes d l here) in
    let new : CellState = record d { offset = l.offset; open_values = [] } in
    let goes : new ≡ record (with_level d l) { open_values = but_last (with_last l.value d.open_values) } = rw only refl in
    let at : 0 ≡ length (but_last (with_last l.value d.open_values)) = rw only refl in
    (λ input. leave_whole nodes (with_level d l) l.value input new 0 conforms now here.fresh le goes at, rw here.items refl)

-- ---- a value without a content, or the beginning of one with items

module _ (nodes : List Node) (d new : CellState) (n : ℕ) (input : List ℕ) (conforms : Conforms nodes d) (fresh : d.arrived ≡ arrived.Nothing) (now : due_of d ≡ due.Value) (room : 4 ≤ room_of nodes d) (within : 4 ≤ length input) (number : n ≡ front_number input) where
  counted : (p : FieldState) → p.under_way ≡ false → IsCounted (room_of nodes d) 0 [] ([] ++ input) input 4 n p p
  counted p idle = record {
    after = omega arith;
    within = within;
    count = omega arith;
    whole = within;
    enough = room;
    is = (λ lt. number, λ le. rw number le);
    idle = idle;
    longest = refl;
  }

  behind : (used : ℕ) (i : CellOutline) → ((p : FieldState) → p.under_way ≡ false → Hands nodes d p input (says (sized_of nodes d n) 4 (drop 4 input)) 0 d.offset used i new p) → IsWhole nodes d input d.offset used i new
  behind used i hands = whole nodes d input d.offset used i new fresh (λ p idle _. length_settles nodes d p p [] input 4 n conforms now (counted p idle) (advance.Item d.offset used i) new p (hands p idle))

  pub null_whole : (level : ℕ) → Decided nodes d n size.Null → level ≡ length d.open_values → new ≡ state_after nodes d 4 → IsWhole nodes d input d.offset 4 (outline.Null level) new
  null_whole level h at goes = behind 4 (outline.Null level) (λ p idle. null_hands nodes d new n 4 p p input conforms now room within (omega arith) (omega arith) idle refl level h at goes)

  pub empty_whole : (level : ℕ) → Decided nodes d n size.Empty → level ≡ length d.open_values → new ≡ state_after nodes d 4 → IsWhole nodes d input d.offset 4 (outline.Empty level) new
  empty_whole level h at goes = behind 4 (outline.Empty level) (λ p idle. empty_hands nodes d new n 4 p p input conforms now room within (omega arith) (omega arith) idle refl level h at goes)

  pub fields_whole : Decided nodes d n (size.Fields n) → (due_value nodes d).arity < 2 ^ 16 → EntersFields nodes d n new → IsWhole nodes d input d.offset 4 (outline.Enter (length d.open_values) (due_value nodes d).kind (due_value nodes d).arity) new
  fields_whole h low enters = behind 4 (outline.Enter (length d.open_values) (due_value nodes d).kind (due_value nodes d).arity) (λ p idle. fields_hands nodes d new n 4 p p input conforms now room within (omega arith) (omega arith) idle refl h low enters)

  pub counted_whole : (count : ℕ) → Decided nodes d n (size.Counted n) → 4 ≤ n → 8 ≤ length input → count ≡ front_number (drop 4 input) → count < 2 ^ 31 → EntersCounted nodes d n count new
      → IsWhole nodes d input d.offset 8 (outline.Enter (length d.open_values) (due_value nodes d).kind count) new
  counted_whole count h enough far is low enters =
      let left : 4 ≤ length (drop 4 input) = omega (arith, length-drop 4 input) in
      let found : (p : FieldState) → p.under_way ≡ false → IsCounted n 4 [] ([] ++ drop 4 input) input 8 count p p = λ p idle. record {
        after = omega arith;
        within = far;
        count = omega arith;
        whole = left;
        enough = enough;
        is = (λ lt. is, λ le. rw is le);
        idle = idle;
        longest = refl;
      } in
      behind 8 (outline.Enter (length d.open_values) (due_value nodes d).kind count) (λ p idle. count_hands nodes d new n 4 8 count p p [] input h (omega arith) (omega arith) (found p idle) conforms now low enters)
