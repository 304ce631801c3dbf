-- What a push leads to.
use Rattle.std.proofs.Common.{◌≡◌, ◌≢◌, ℕ, ◌+◌, ◌^◌, ◌<◌, ◌≤◌, Bool, true, false, not, List, [], ◌∷◌, ◌++◌, length, take, drop, Option, Some, None, is_some, refl, sym, ap, ◌∙◌, arith}
use Rattle.std.specs.Int.{w32, to_be_bytes}
use Rattle.std.proofs.lemmas.Nat.{from_be_bytes-to_be_bytes_4}
use Rattle.std.proofs.lemmas.List.{length-append, length-take-le, drop_all}
use Rattle.cqlp_note.specs.declared.refusal.Refusal.{Refusal}
use Rattle.cqlp_note.specs.Reader.{Got, says}
use Rattle.cqlp_note.specs.Step.{Emitted, Runs}
use Rattle.cqlp_note.specs.Limits.{Rules}
use Rattle.cqlp_note.specs.Partial.{FieldState}
use Rattle.cqlp_note.proofs.Runs.{runs_then, runs_stay}
use Rattle.cqlp_note.proofs.Yields.{says_exact, emitted_is}
use Rattle.cqlp_kind.specs.declared.kind.Kind.{Kind}
use Rattle.cqlp_kind.specs.declared.node.Node.{Node}
use Rattle.cqlp_cell.specs.declared.item.CellItem.{CellItem}
use Rattle.cqlp_cell.specs.declared.advance.CellOutline.{CellOutline}
use Rattle.cqlp_cell.specs.declared.advance.CellOutline.TheVariants as outline
use Rattle.cqlp_cell.specs.declared.advance.CellAdvance.TheVariants as advance
use Rattle.cqlp_cell.specs.declared.item.CellPush.TheVariants as push
use Rattle.cqlp_cell.specs.declared.open_values.OpenValue.{OpenValue}
use Rattle.cqlp_cell.specs.declared.progress.NextInCell.{NextInCell}
use Rattle.cqlp_cell.specs.declared.progress.NextInCell.TheVariants as next
use Rattle.cqlp_cell.specs.declared.progress.Arrived.{Arrived}
use Rattle.cqlp_cell.specs.declared.progress.Arrived.TheVariants as arrived
use Rattle.cqlp_cell.specs.declared.progress.CellDue.TheVariants as due
use Rattle.cqlp_kind.specs.CellStep.{CellEvent, Null, Empty, Enter, Leave, CellPlace, cell_step}
use Rattle.cqlp_kind.specs.Scalars.{ScalarValue, allows_size, scalar_of}
use Rattle.cqlp_cell.specs.Items.{CanLend, content_at, content_length, event_at, event_of, leaf_event}
use Rattle.cqlp_cell.specs.OpenValues.{last_open}
use Rattle.cqlp_cell.specs.Progress.{CellState, ended, is_some_next, is_under_way, symbols_for, place, close_if, is_over, due_in, due_for, due_of, Conforms}
use Rattle.cqlp_cell.specs.Reading.{StepAnswer, step_says, Joined, UnderBy, AreBytes, HaveCome, IsLent, IsKept, Moves, Empties, has_content}
use Rattle.cqlp_cell.specs.Pushing.{is_done, done_by, Continues, Keeps, Pushes}
use Rattle.cqlp_cell.proofs.ScalarSizes.{scalar_sized}

-- some bytes have come, whichever
number_bytes : (n : ℕ) (seen : List ℕ) → n < 2 ^ 31 → (b : List ℕ) × AreBytes (Some n) seen b
number_bytes n seen low = (to_be_bytes w32 n ++ seen, (to_be_bytes w32 n, refl, from_be_bytes-to_be_bytes_4 n (omega arith), refl))

come_by : (nodes : List Node) (d : CellState) (p : FieldState) (u : Arrived) → UnderBy nodes d p u → (b : List ℕ) × HaveCome b u p.seen
come_by nodes d p arrived.Nothing h = ([], refl)
come_by nodes d p arrived.Length h = (p.seen, refl)
come_by nodes d p (arrived.Scalar n) h = number_bytes n p.seen h.2.fits.1
come_by nodes d p (arrived.Counted n) h = number_bytes n p.seen h.2.fits.1
come_by nodes d p (arrived.First n) h = number_bytes n p.seen h.2.fits.1
come_by nodes d p arrived.Later h = (p.seen, refl)

pub some_come : (nodes : List Node) (d : CellState) (p : FieldState) → Joined nodes d p → (b : List ℕ) × HaveCome b d.arrived p.seen
some_come nodes d p j = come_by nodes d p d.arrived j.under_way

-- only one list of bytes has come, or the step says the same of each
pub answer_is : (nodes : List Node) (d : CellState) (bytes : List ℕ) → step_says nodes d bytes ≡ says (cell_step d.rules (place nodes d)) 0 bytes
unfolding step_says
answer_is nodes d bytes = refl

abbrev step_answer : Rules → CellPlace → List ℕ → StepAnswer
step_answer l p bytes = says (cell_step l p) 0 bytes

-- ---- whether something is left

some_due : (b : Bool) (o : OpenValue) → close_if b o ≢ due.Nothing
some_due true o e = absurd cc
some_due false o e = absurd cc

some_last : (offset : ℕ) (o : OpenValue) (os : List OpenValue) → due_in offset (last_open (o ∷ os)) ≢ due.Nothing
some_last offset o [] e = some_due (is_over o offset) o e
some_last offset o (q ∷ os) e = some_last offset q os e

done_when : (n : NextInCell) (offset : ℕ) (os : List OpenValue) → is_some_next n ≡ true → due_for offset os n ≡ due.Nothing → done_by n os ≡ true
done_when next.Nothing offset os u e = absurd cc
done_when (next.Cell _) offset os u e = absurd cc
done_when next.Items offset [] u e = refl
done_when next.Items offset (o ∷ os) u e = absurd (some_last offset o os e)
done_when (next.Part start total) offset os u e = absurd cc

not_done_when : (n : NextInCell) (offset : ℕ) (os : List OpenValue) → due_for offset os n ≢ due.Nothing → done_by n os ≡ false
not_done_when next.Nothing offset os e = absurd (e refl)
not_done_when (next.Cell _) offset os e = refl
not_done_when next.Items offset [] e = absurd (e refl)
not_done_when next.Items offset (o ∷ os) e = refl
not_done_when (next.Part start total) offset os e = refl

pub is_over_done : (d : CellState) → is_under_way d ≡ true → due_of d ≡ due.Nothing → is_done d ≡ true
is_over_done d u e = done_when d.next d.offset d.open_values u e

pub is_not_done : (d : CellState) → due_of d ≢ due.Nothing → is_done d ≡ false
is_not_done d e = not_done_when d.next d.offset d.open_values e

none_left : (nodes : List Node) (stop offset : ℕ) (n : NextInCell) (os : List OpenValue) → due_for offset os n ≡ due.Nothing → symbols_for nodes stop os n ≡ []
none_left nodes stop offset next.Nothing os e = refl
none_left nodes stop offset (next.Cell _) os e = absurd cc
none_left nodes stop offset next.Items [] e = refl
none_left nodes stop offset next.Items (o ∷ os) e = absurd (some_last offset o os e)
none_left nodes stop offset (next.Part start total) os e = absurd cc

-- ---- runs

-- one more step of a run
run_more : (l : Rules) (start p q : CellPlace) (s b t : List ℕ) (es : List (ℕ × CellEvent)) (at : ℕ) (e : CellEvent) (x : Emitted CellEvent CellPlace) → Runs (cell_step l) start s es p b
    → says (cell_step l p) 0 (b ++ t) ≡ Got x (length b + length t) → x.at ≡ at → x.event ≡ e → x.after (length b + length t) ≡ q → Runs (cell_step l) start (s ++ t) (es ++ (at, e) ∷ []) q []
run_more l start p q s b t es at e x run said a w after =
    let k = length b + length t in
    let none : drop k (b ++ t) ≡ [] = drop_all k (b ++ t) (omega (arith, length-append b t)) in
    runs_then (cell_step l) start p q (s ++ t) (b ++ t) [] es ((at, e) ∷ []) (runs_stay (cell_step l) start s t es p b run) (k, x.after, said ∙ ap (λ (z : Emitted CellEvent CellPlace). Got z k) (emitted_is x at e a w), (sym after, sym none))

-- ---- the buffer

leaf_length : (level : ℕ) (k : Kind) (content : List ℕ) (o : Option ScalarValue) → scalar_of k content ≡ o → is_some o ≡ true → allows_size k (length content) ≡ true → content_length (leaf_event level o) ≡ length content
leaf_length level k content None is some allowed = absurd cc
leaf_length level k content (Some v) is some allowed = sym (scalar_sized k content v allowed is)

module _ (nodes : List Node) (p q : FieldState) (input : List ℕ) (used : ℕ) where
  leaf_keeps : (level : ℕ) (k : Kind) (content : List ℕ) (o : Option ScalarValue) → scalar_of k content ≡ o → is_some o ≡ true → allows_size k (length content) ≡ true → (length content ≤ used → q.content ≡ [])
      → (used < length content → (p.under_way ≡ true) × (q.content ≡ p.seen ++ take used input)) → Keeps p input used (leaf_event level o) q
  leaf_keeps level k content o is some allowed lent kept =
      let long = leaf_length level k content o is some allowed in
      record { lent = λ le. lent (rw long at le); kept = λ lt. kept (rw long at lt) }

  bare_keeps : (e : CellEvent) → content_length e ≡ 0 → q.content ≡ [] → Keeps p input used e q
  bare_keeps e none empty = record { lent = λ le. empty; kept = λ lt. let no : used < 0 = rw none at lt in absurd (omega arith) }

  pub keeps : (i : CellOutline) → CanLend i input q.content → IsLent nodes i input q.content used → IsKept nodes i p input q.content used → (not (has_content i) ≡ true → q.content ≡ []) → Keeps p input used (event_at i input q.content) q
  keeps (outline.Leaf level k c) can lent kept none = leaf_keeps level k (content_at c input q.content) (scalar_of k (content_at c input q.content)) refl can.2 can.1 lent kept
  keeps (outline.Part level offset c last) can lent kept none = record { lent = lent; kept = kept }
  keeps (outline.Null level) can lent kept none = bare_keeps (Null level) refl (none refl)
  keeps (outline.Empty level) can lent kept none = bare_keeps (Empty level) refl (none refl)
  keeps (outline.Enter level k n) can lent kept none = bare_keeps (Enter level k n) refl (none refl)
  keeps (outline.Leave level n) can lent kept none = bare_keeps (Leave level n) refl (none refl)

-- as far as the types go, it does not matter how much has come
pub conforms_under : (nodes : List Node) (d : CellState) (u : Arrived) → Conforms nodes d → Conforms nodes (record d { arrived = u })
conforms_under nodes d u s = record { open_conform = s.open_conform; within = s.within; next_conforms = s.next_conforms; bounded = s.bounded }

module _ (nodes : List Node) (old : CellState) (p : FieldState) (input : List ℕ) (new : CellState) (q : FieldState) (under_way : is_under_way old ≡ true) (conforms : Conforms nodes old) (joined : Joined nodes old p) where
  came : (b : List ℕ) × HaveCome b old.arrived p.seen
  came = some_come nodes old p joined

  pub more_pushes : (used : ℕ) → Moves nodes old p input (advance.More used) new q → Pushes nodes old p input (push.More used) new q × Continues nodes old (push.More used) new
  more_pushes used m =
      let h = m came.0 came.1 in
      let same = h.0.same in
      let rules : new.rules ≡ old.rules = ap (λ (d : CellState). d.rules) same in
      let here : place nodes new ≡ place nodes old = ap (place nodes) same in (
        record {
          leads = λ start s es after.
              let w = m after.pending after.come in (
                record { pending = after.pending ++ input; runs = rw (rules, here) (runs_stay (cell_step old.rules) start s input es (place nodes old) after.pending after.runs); come = w.1 },
                (λ i. step_answer (rules i) (here i) (after.pending ++ input)) ∙ sym (answer_is nodes old (after.pending ++ input)) ∙ w.0.is,
              );
          serves = (h.0.joined, h.0.under_way, h.0.kept);
          longest = h.0.longest;
        },
        (ap is_under_way same ∙ under_way, rules, rw same (conforms_under nodes old new.arrived conforms)),
      )

  pub item_lends : (at used : ℕ) (i : CellOutline) → Moves nodes old p input (advance.Item at used i) new q → CanLend i input q.content
  item_lends at used i m = (m came.0 came.1).can_lend

  pub item_pushes : (at used : ℕ) (i : CellOutline) (e : CellItem) → event_of e ≡ event_at i input q.content → Moves nodes old p input (advance.Item at used i) new q → Empties (advance.Item at used i) q
      → Pushes nodes old p input (push.Item at used e) new q × Continues nodes old (push.Item at used e) new
  item_pushes at used i e is m empties =
      let h = m came.0 came.1 in (
        record {
          leads = λ start s es after.
              let w = m after.pending after.come in
              let g = w.emits in
              let bytes = take used input in
              let long : length bytes ≡ used = length-take-le used input w.within in
              let exact = says_exact (cell_step old.rules (place nodes old)) after.pending input g.x used (sym (answer_is nodes old (after.pending ++ input)) ∙ g.is) in
              record {
                pending = [];
                runs = rw w.rules (run_more old.rules start (place nodes old) (place nodes new) s after.pending bytes es at (event_of e) g.x after.runs (rw long exact) g.offset (g.event ∙ sym is) (rw long g.after));
                come = rw w.fresh refl;
              };
          serves = (
            record { longest = rw (h.rules, h.longest) joined.longest; under_way = rw h.fresh h.idle },
            h.fresh,
            rw is (keeps nodes p q input used i h.can_lend h.lent h.kept empties),
          );
          longest = h.longest;
        },
        (h.goes_on, h.rules, h.conforms, h.pays),
      )

  pub done_pushes : Moves nodes old p input advance.Done new q → Pushes nodes old p input push.Done new q × (new ≡ ended old)
  done_pushes m =
      let idle : p.under_way ≡ false = rw m.1 at joined.under_way in (
        record {
          leads = λ start s es after.
              let none : after.pending ≡ [] = rw m.1 at after.come in
              (rw none at after.runs, none_left nodes old.stop old.offset old.next old.open_values m.0);
          serves = (m.3, rw m.3 idle);
          longest = rw m.3 refl;
        },
        m.2,
      )

  pub refused_pushes : (r : Refusal) → Moves nodes old p input (advance.Refused r) new q → Empties (advance.Refused r) q → Pushes nodes old p input (push.Refused r) new q × (new ≡ ended old)
  refused_pushes r m empties =
      let h = m came.0 came.1 in (
        record {
          leads = λ start s es after.
              let w = m after.pending after.come in
              (after.pending ++ input, runs_stay (cell_step old.rules) start s input es (place nodes old) after.pending after.runs, sym (answer_is nodes old (after.pending ++ input)) ∙ w.is);
          serves = (h.idle, empties refl);
          longest = h.longest;
        },
        h.ends,
      )
