-- The bytes behind the last field of a value, which a lenient caller reads on.
use Rattle.std.proofs.Common.{◌≡◌, ℕ, ◌+◌, ◌-◌, ◌^◌, ◌<◌, ◌≤◌, Bool, true, false, ◌&&◌, ltb, eqb, leb, List, [], ◌∷◌, ◌++◌, length, Some, refl, sym, ap, subst, ◌∙◌, inl, inr, arith}
use Rattle.std.proofs.lemmas.Bool.{eqb-true, leb-true, ltb-true, or_cases}
use Rattle.std.proofs.lemmas.List.{length-append}
use Rattle.cqlp_note.specs.Reader.{says}
use Rattle.cqlp_note.specs.Limits.{Rules}
use Rattle.cqlp_note.specs.Partial.{FieldState}
use Rattle.cqlp_kind.specs.declared.node.Node.{Node}
use Rattle.cqlp_kind.specs.Types.{NoMore}
use Rattle.cqlp_kind.specs.CellStep.{Items_of, cell_step, cell_step_at, part_step, lenient_excess}
use Rattle.cqlp_cell.specs.declared.advance.CellAdvance.{CellAdvance}
use Rattle.cqlp_cell.specs.declared.advance.CellAdvance.TheVariants as advance
use Rattle.cqlp_cell.specs.declared.advance.CellOutline.{CellOutline}
use Rattle.cqlp_cell.specs.declared.open_values.OpenValue.{OpenValue}
use Rattle.cqlp_cell.specs.declared.open_values.Order.{Order}
use Rattle.cqlp_cell.specs.declared.open_values.Order.TheVariants as order
use Rattle.cqlp_cell.specs.declared.progress.NextInCell.{NextInCell}
use Rattle.cqlp_cell.specs.declared.progress.NextInCell.TheVariants as next
use Rattle.cqlp_cell.specs.declared.progress.Arrived.{Arrived}
use Rattle.cqlp_cell.specs.declared.progress.Arrived.TheVariants as arrived
use Rattle.cqlp_cell.specs.declared.progress.CellDue.{CellDue}
use Rattle.cqlp_cell.specs.declared.progress.CellDue.TheVariants as due
use Rattle.cqlp_note.specs.declared.refusal.Refusal.{Refusal}
use Rattle.cqlp_cell.specs.OpenValues.{last_open}
use Rattle.cqlp_cell.specs.Progress.{CellState, left_of, all_open_symbols, place, is_over, over_by, due_of, further_by, has_further, Conforms}
use Rattle.cqlp_cell.specs.Reading.{step_says, Hands, Waits, Fails, Settles, Joined, UnderBy, HaveCome}
use Rattle.cqlp_cell.proofs.Nesting.{last_is}
use Rattle.cqlp_cell.proofs.Opened.{last_stop_is, levels_symbols_is, Inmost, close_next}
use Rattle.cqlp_cell.proofs.Coming.{no_types, close_items}

-- ---- where bytes are read on

both : (a b : Bool) → (a && b) ≡ true → (a ≡ true) × (b ≡ true)
both true b e = (refl, e)
both false b e = absurd cc

-- so many bytes are read on by a lenient caller alone, in parts of some byte each, and are some
pub reads_when : (l : Rules) (left : ℕ) → lenient_excess l left ≡ true → (l.lenient ≡ true) × (0 < l.part) × (0 < left) × (left < 2 ^ 32)
reads_when l left e =
    let a = both (l.lenient && ltb 0 l.part && ltb 0 left) (ltb left (2 ^ 32)) e in
    let b = both (l.lenient && ltb 0 l.part) (ltb 0 left) a.0 in
    let c = both l.lenient (ltb 0 l.part) b.0 in
    (c.0, ltb-true _ _ c.1, ltb-true _ _ b.1, ltb-true _ _ a.1)

further_is_of : (l : Rules) (left : ℕ) (k : Order) → further_by l left k ≡ true → (k ≡ order.Fields) × (lenient_excess l left ≡ true)
further_is_of l left order.Fields e = (refl, e)
further_is_of l left order.Elements e = absurd cc
further_is_of l left order.Keys e = absurd cc
further_is_of l left order.Values e = absurd cc

-- none are left where a value has ended
none_shut : (a b c : Bool) → (a && b && false && c) ≡ false
none_shut true true c = refl
none_shut true false c = refl
none_shut false b c = refl

pub past_reads : (l : Rules) (left : ℕ) → left ≡ 0 → lenient_excess l left ≡ false
past_reads l left e = rw e (none_shut l.lenient (ltb 0 l.part) (ltb 0 (2 ^ 32)))

past_by : (l : Rules) (left : ℕ) (k : Order) → left ≡ 0 → further_by l left k ≡ false
past_by l left order.Fields e = past_reads l left e
past_by l left order.Elements e = refl
past_by l left order.Keys e = refl
past_by l left order.Values e = refl

pub past_further : (l : Rules) (o : OpenValue) (offset : ℕ) → o.stop ≤ offset → has_further l o offset ≡ false
past_further l o offset le = past_by l (o.stop - offset) o.order (omega arith)

-- ---- the first of their parts

abbrev pub back_in : CellState → CellState
back_in new = record new { next = next.Items }

-- where a part is waited for, what is read next is what it was
abbrev pub after_part : CellAdvance → CellState → CellState
after_part (advance.More used) new = back_in new
after_part a new = new

pub after_other : (a : CellAdvance) (new : CellState) → ((used : ℕ) → a ≡ advance.More used → ⊥) → after_part a new ≡ new
after_other (advance.More used) new other = absurd (other used refl)
after_other (advance.Item at used i) new other = refl
after_other advance.Done new other = refl
after_other (advance.Refused r) new other = refl

-- what is still to be read where no field of the innermost value is left
fields_over : (nodes : List Node) (d : CellState) → d.next ≡ next.Items → (o : OpenValue) (m : Inmost nodes d o) → o.order ≡ order.Fields → o.left ≡ 0 → (place nodes d).symbols ≡ Items_of NoMore (length m.front) o.stop o.items ∷ all_open_symbols nodes 0 m.front
fields_over nodes d items o m fields none =
    let e : 0 + length m.front ≡ length m.front = omega arith in
    let now : (place nodes d).symbols ≡ left_of nodes (length m.front) o o.order ++ all_open_symbols nodes 0 m.front = rw (items, m.is, levels_symbols_is nodes 0 m.front o, e) refl in
    now ∙ ap (λ (k : Order). left_of nodes (length m.front) o k ++ all_open_symbols nodes 0 m.front) fields ∙ rw (none, no_types nodes o.node) refl

-- what the open values are, where they are read on
open_symbols_are : (nodes : List Node) (d : CellState) → d.next ≡ next.Items → (place nodes d).symbols ≡ all_open_symbols nodes 0 d.open_values
open_symbols_are nodes d items = rw items refl

module _ (nodes : List Node) (d : CellState) (o : OpenValue) (conforms : Conforms nodes d) (v : due_of d ≡ due.Close o) where
  items : d.next ≡ next.Items
  items = close_items d o v

  pub closing : Inmost nodes d o × (is_over o d.offset ≡ true)
  closing = close_next nodes d conforms items o v

  pub close_inside : d.offset ≤ o.stop
  close_inside = omega (arith, closing.0.inside)

  pub close_last : last_open d.open_values ≡ Some o
  close_last = ap last_open closing.0.is ∙ last_is closing.0.front o

  module _ (further : has_further d.rules o d.offset ≡ true) where
    abbrev left : ℕ
    left = o.stop - d.offset

    fields : (o.order ≡ order.Fields) × (lenient_excess d.rules left ≡ true)
    fields = further_is_of d.rules left o.order further

    pub some_left : (0 < d.rules.part) × (0 < left) × (left < 2 ^ 32)
    some_left = let r = reads_when d.rules left fields.1 in (r.1, r.2, r.3)

    none_left : o.left ≡ 0
    none_left =
        let over : over_by o d.offset order.Fields ≡ true = ap (λ (k : Order). over_by o d.offset k) (sym fields.0) ∙ closing.1 in
        elim (or_cases (eqb o.left 0) (leb o.stop d.offset) over) [
          | inl none ↦ eqb-true o.left 0 none
          | inr past ↦ absurd (omega (arith, leb-true _ _ past, some_left.1))
        ]

    abbrev front : List OpenValue
    front = closing.0.front

    -- what is still to be read begins with the end of the fields
    pub further_symbols : (place nodes d).symbols ≡ Items_of NoMore (length front) o.stop o.items ∷ all_open_symbols nodes 0 front
    further_symbols = fields_over nodes d items o closing.0 fields.0 none_left

    -- the same where these bytes are a content that is read
    abbrev pub at_part : CellState
    at_part = record d { next = next.Part 0 left }

    pub inner_symbols : all_open_symbols nodes 0 d.open_values ≡ Items_of NoMore (length front) o.stop o.items ∷ all_open_symbols nodes 0 front
    inner_symbols = sym (open_symbols_are nodes d items) ∙ further_symbols

    step_is : cell_step d.rules (place nodes d) ≡ cell_step d.rules (place nodes at_part)
    step_is =
        let level : length d.open_values ≡ length front + 1 = ap length closing.0.is ∙ length-append front (o ∷ []) in
        let here : cell_step d.rules (place nodes d) ≡ part_step d.rules (place nodes d) (Items_of NoMore (length front) o.stop o.items ∷ all_open_symbols nodes 0 front) (length front + 1) 0 0 left = ap (cell_step_at d.rules (place nodes d)) further_symbols ∙ rw fields.1 refl in
        here ∙ (λ i. part_step d.rules (place nodes d) (sym inner_symbols i) (sym level i) 0 0 left)

    pub said_is : (x : List ℕ) → step_says nodes at_part x ≡ step_says nodes d x
    unfolding step_says
    said_is x = ap (λ (r : _). says r 0 x) (sym step_is)

    pub part_conforms : d.rules.part ≡ d.rules.cell → Conforms nodes at_part
    part_conforms same =
        let m = closing.0 in
        record {
          open_conform = conforms.open_conform;
          within = rw (m.is, last_stop_is d.stop front o) (omega (arith, m.inside));
          next_conforms = (some_left.1, rw same at some_left.0);
          bounded = conforms.bounded;
        }

    -- ---- and what a call makes of it

    module _ (p q : FieldState) (input bytes : List ℕ) (base : ℕ) where
      hands_back : (at used : ℕ) (i : CellOutline) (new : CellState) → Hands nodes at_part p input (step_says nodes at_part bytes) base at used i new q → Hands nodes d p input (step_says nodes d bytes) base at used i new q
      hands_back at used i new h = record {
        within = h.within;
        emits = rw (said_is bytes) at h.emits;
        can_lend = h.can_lend;
        lent = h.lent;
        kept = h.kept;
        held = h.held;
        rules = h.rules;
        stop = h.stop;
        conforms = h.conforms;
        onward = h.onward;
        goes_after = h.goes_after;
        pays = h.pays;
        goes_on = h.goes_on;
        fresh = h.fresh;
        idle = h.idle;
        longest = h.longest;
      }

      fails_back : (r : Refusal) (new : CellState) → Fails nodes at_part p (step_says nodes at_part bytes) r new q → Fails nodes d p (step_says nodes d bytes) r new q
      fails_back r new f = record { is = sym (said_is bytes) ∙ f.is; ends = f.ends; idle = f.idle; longest = f.longest }

      under_back : (u : Arrived) → q.under_way ≡ true → UnderBy nodes (record at_part { arrived = u }) q u → UnderBy nodes (record d { arrived = u }) q u
      under_back arrived.Nothing busy h = let no : ◌≡◌ {A = Bool} true false = sym busy ∙ h in absurd cc
      under_back arrived.Length busy h = let no : ◌≡◌ {A = CellDue} (due.Part 0 left) due.Value = h.0 in absurd cc
      under_back (arrived.Scalar n) busy h = let no : ◌≡◌ {A = CellDue} (due.Part 0 left) due.Value = h.0 in absurd cc
      under_back (arrived.Counted n) busy h = let no : ◌≡◌ {A = CellDue} (due.Part 0 left) due.Value = h.0 in absurd cc
      under_back (arrived.First n) busy h = let no : ◌≡◌ {A = CellDue} (due.Part 0 left) due.Value = h.0 in absurd cc
      under_back arrived.Later busy h =
          let here : due_of (record d { next = next.Items }) ≡ due.Close o = rw items at v in
          rw (items, close_last) (here, further, h)

      waits_back : (used : ℕ) (new : CellState) → Waits nodes at_part p input (step_says nodes at_part bytes) used new q → Waits nodes d p input (step_says nodes d bytes) used (back_in new) q
      waits_back used new w =
          let under = subst (λ (z : CellState). UnderBy nodes z q new.arrived) w.same w.joined.under_way in
          let same : back_in new ≡ record d { arrived = new.arrived } = ap back_in w.same ∙ ap (λ (n : NextInCell). record d { next = n; arrived = new.arrived }) (sym items) in
          let longest : d.rules.cell ≤ q.room = subst (λ (z : CellState). z.rules.cell ≤ q.room) w.same w.joined.longest in
          let joined : Joined nodes (record d { arrived = new.arrived }) q = record { longest = longest; under_way = under_back new.arrived w.under_way under } in
          record {
            all = w.all;
            is = sym (said_is bytes) ∙ w.is;
            same = same;
            under_way = w.under_way;
            joined = subst (λ (z : CellState). Joined nodes z q) (sym same) joined;
            kept = w.kept;
            longest = w.longest;
          }

      pub further_settles : (a : CellAdvance) (new : CellState) → Settles nodes at_part p input (step_says nodes at_part bytes) base (HaveCome bytes) a new q → Settles nodes d p input (step_says nodes d bytes) base (HaveCome bytes) a (after_part a new) q
      further_settles (advance.More used) new s = (waits_back used new s.0, s.1)
      further_settles (advance.Item at used i) new s = hands_back at used i new s
      further_settles advance.Done new s = absurd s
      further_settles (advance.Refused r) new s = fails_back r new s
