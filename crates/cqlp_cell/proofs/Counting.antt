-- A list, a set or a map, whose length has come.
use Rattle.std.proofs.Common.{◌≡◌, ℕ, ◌+◌, ◌-◌, ◌^◌, ◌<◌, ◌≤◌, List, [], ◌∷◌, ◌++◌, length, take, drop, refl, sym, ap, ◌∙◌, arith, inl, inr, lt-ltb, le-ltb}
use Rattle.std.specs.Int.{w32, from_be_bytes}
use Rattle.std.proofs.lemmas.Bool.{cases_lt}
use Rattle.std.proofs.lemmas.List.{length-append}
use Rattle.cqlp_note.specs.declared.refusal.Reason.TheVariants.{Overrun, BadCount}
use Rattle.cqlp_note.specs.Reader.{More, Bad, says, number_of}
use Rattle.cqlp_note.specs.Partial.{FieldState}
use Rattle.cqlp_kind.specs.declared.node.Node.{Node}
use Rattle.cqlp_cell.specs.declared.advance.CellOutline.TheVariants as outline
use Rattle.cqlp_cell.specs.declared.size.Sized.TheVariants as size
use Rattle.cqlp_cell.specs.declared.progress.Arrived.TheVariants as arrived
use Rattle.cqlp_cell.specs.declared.progress.CellDue.TheVariants as due
use Rattle.cqlp_kind.specs.CellStep.{CellSymbol, Close_of, Enter, cell_copies, values_of, place_after}
use Rattle.cqlp_cell.specs.Numbers.{WantsNumber, IsCounted}
use Rattle.cqlp_cell.specs.Progress.{CellState, ended, place, due_value, open_after, state_after, rest_of, due_of, Conforms}
use Rattle.cqlp_cell.specs.Coming.{inner_of}
use Rattle.cqlp_cell.specs.Reading.{counted_open, entered, sized_of, Decided, Emits, Hands, Waits, Fails, LengthCame, EntersCounted}
use Rattle.cqlp_cell.proofs.Coming.{value_due}
use Rattle.cqlp_cell.proofs.Handing.{same_decided}
use Rattle.cqlp_cell.proofs.Entering.{counted_due, counted_inner, counted_symbols, entered_symbols}

-- the number that the first four bytes are
abbrev count_in : List ℕ → ℕ
count_in x = from_be_bytes w32 (take 4 x)

module _ (nodes : List Node) (d : CellState) (n : ℕ) (decided : Decided nodes d n (size.Counted n)) (x : List ℕ) where
  pub counted_overrun : n < 4 → says (sized_of nodes d n) 4 x ≡ Bad (d.offset + 4, Overrun)
  unfolding number_of
  counted_overrun lt = rw (decided.is, lt-ltb n 4 lt) refl

  pub counted_short : 4 ≤ n → length x < 4 → says (sized_of nodes d n) 4 x ≡ More
  unfolding number_of
  counted_short le lt = rw (decided.is, le-ltb n 4 le, lt-ltb (length x) 4 lt) refl

  pub counted_negative : 4 ≤ n → 4 ≤ length x → 2 ^ 31 ≤ count_in x → says (sized_of nodes d n) 4 x ≡ Bad (d.offset + 4, BadCount)
  unfolding number_of
  counted_negative le long high = rw (decided.is, le-ltb n 4 le, le-ltb (length x) 4 long, lt-ltb (2 ^ 31 - 1) (count_in x) (omega arith)) refl

  pub counted_got : Conforms nodes d → due_of d ≡ due.Value → 4 ≤ n → 4 ≤ length x → count_in x < 2 ^ 31
      → Emits nodes (says (sized_of nodes d n) 4 x) d.offset 8 (Enter (length d.open_values) (due_value nodes d).kind (count_in x)) (entered (state_after nodes d 8) (counted_open nodes (due_value nodes d) (d.offset + 4 + n) (count_in x)))
  unfolding number_of
  counted_got s v le long low =
      let due = counted_due nodes d n (count_in x) s v decided in
      let inner = counted_inner nodes d n (count_in x) s v decided in
      let symbols = counted_symbols nodes d.rules (length d.open_values) (due_value nodes d) (d.offset + 4 + n) (count_in x) _ decided.can.1 inner.formed inner.conforms in
      record {
        x = record { at = d.offset; event = Enter (length d.open_values) (due_value nodes d).kind (count_in x); after = place_after (place nodes d) (rest_of nodes d) (cell_copies (count_in x) (values_of (inner_of nodes (due_value nodes d)) (length d.open_values + 1) (d.offset + 4 + n)) ++ Close_of (length d.open_values) (d.offset + 4 + n) (count_in x) ∷ []) };
        is = rw (decided.is, le-ltb n 4 le, le-ltb (length x) 4 long, le-ltb (2 ^ 31 - 1) (count_in x) (omega arith)) refl;
        offset = refl;
        event = refl;
        after = ap (λ (ss : List CellSymbol). record { offset = d.offset + 8; symbols = ss }) (ap (λ (ss : List CellSymbol). ss ++ rest_of nodes d) symbols ∙ sym (entered_symbols nodes d 8 (counted_open nodes (due_value nodes d) (d.offset + 4 + n) (count_in x)) due));
      }

-- the count goes on
pub count_waits : (nodes : List Node) (old : CellState) (n : ℕ) (p q : FieldState) (input bytes : List ℕ) → due_of old ≡ due.Value → Decided nodes old n (size.Counted n) → old.rules.cell ≤ p.room → WantsNumber (old.offset + 4) n bytes p q
    → Waits nodes old p input (says (sized_of nodes old n) 4 bytes) (length input) (record old { arrived = arrived.Counted n }) q × LengthCame n bytes (arrived.Counted n) q.seen
count_waits nodes old n p q input bytes v decided longest wants = (
  record {
    all = refl;
    is = counted_short nodes old n decided bytes wants.enough wants.short;
    same = refl;
    under_way = wants.under_way;
    kept = wants.empty;
    joined = record { longest = rw wants.longest longest; under_way = (v, (wants.under_way, wants.field, wants.enough, refl, rw wants.seen wants.short), same_decided nodes old (arrived.Counted n) n (size.Counted n) decided) };
    longest = wants.longest;
  },
  (refl, wants.seen, decided.fits.1),
)

-- the count is whole
module _ (nodes : List Node) (old new : CellState) (n start used count : ℕ) (p q : FieldState) (seen input : List ℕ) (decided : Decided nodes old n (size.Counted n)) (front : start ≤ 4)
    (some : length seen < start + 4) (found : IsCounted n start seen (seen ++ drop start input) input used count p q) where
  abbrev bytes : List ℕ
  bytes = seen ++ drop start input

  pub count_fails : 2 ^ 31 ≤ count → new ≡ ended old → Fails nodes old p (says (sized_of nodes old n) 4 bytes) (record { at = old.offset + 4; why = BadCount }) new q
  count_fails high goes =
      let more : 2 ^ 31 ≤ count_in bytes = elim (cases_lt (count_in bytes) (2 ^ 31)) [
        | inl lt ↦ absurd (omega (arith, found.is.0 lt))
        | inr le ↦ le
      ] in
      record { is = counted_negative nodes old n decided bytes found.enough found.whole more; ends = goes; idle = found.idle; longest = found.longest }

  pub count_hands : Conforms nodes old → due_of old ≡ due.Value → count < 2 ^ 31 → EntersCounted nodes old n count new
      → Hands nodes old p input (says (sized_of nodes old n) 4 bytes) ((4 - start) + length seen) old.offset used (outline.Enter (length old.open_values) (due_value nodes old).kind count) new q
  count_hands conforms v low enters =
      let less : count_in bytes < 2 ^ 31 = elim (cases_lt (count_in bytes) (2 ^ 31)) [
        | inl lt ↦ lt
        | inr le ↦ absurd (omega (arith, found.is.1 le))
      ] in
      let same : count ≡ count_in bytes = found.is.0 less in
      let got = counted_got nodes old n decided bytes conforms v found.enough found.whole less in
      let total : ((4 - start) + length seen) + used ≡ 8 = omega (arith, found.count, found.after) in
      let due = value_due nodes old conforms v in
      let o = counted_open nodes (due_value nodes old) (old.offset + 4 + n) count in
      record {
        within = found.within;
        emits = rw (enters.0, same, total) got;
        can_lend = tt;
        lent = tt;
        kept = tt;
        held = tt;
        rules = rw enters.0 refl;
        stop = rw enters.0 refl;
        conforms = enters.1;
        onward = rw (enters.0, total) refl;
        goes_after = rw enters.0 tt;
        pays = rw enters.0 (omega (arith, due.level, length-append (open_after nodes old) (o ∷ []), found.count, found.after, some));
        goes_on = rw enters.0 refl;
        fresh = rw enters.0 refl;
        idle = found.idle;
        longest = found.longest;
      }
