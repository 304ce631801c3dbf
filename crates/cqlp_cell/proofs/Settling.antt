-- What the length of a value decides.
use Rattle.std.proofs.Common.{◌≡◌, ℕ, ◌+◌, ◌-◌, ◌*◌, ◌^◌, ◌<◌, ◌≤◌, false, List, [], ◌∷◌, ◌++◌, length, drop, refl, sym, ap, arith}
use Rattle.std.proofs.lemmas.List.{length-append}
use Rattle.cqlp_note.specs.declared.refusal.Reason.{Reason}
use Rattle.cqlp_note.specs.Reader.{says}
use Rattle.cqlp_note.specs.Partial.{FieldState}
use Rattle.cqlp_kind.specs.declared.node.Node.{Node}
use Rattle.cqlp_cell.specs.declared.advance.CellOutline.TheVariants as outline
use Rattle.cqlp_cell.specs.declared.size.Sized.{Sized}
use Rattle.cqlp_cell.specs.declared.size.Sized.TheVariants as size
use Rattle.cqlp_cell.specs.declared.progress.CellDue.TheVariants as due
use Rattle.cqlp_cell.specs.declared.progress.DueValue.{DueValue}
use Rattle.cqlp_kind.specs.CellStep.{CellSymbol, Null, Empty, Enter, Items_of, place_after}
use Rattle.cqlp_cell.specs.Sizes.{IsSized}
use Rattle.cqlp_cell.specs.Progress.{CellState, ended, place, due_value, open_after, state_after, rest_of, due_of, Conforms}
use Rattle.cqlp_cell.specs.Coming.{inner_of, room_of}
use Rattle.cqlp_cell.specs.Reading.{fields_open, sized_of, Decided, Emits, Hands, Fails, EntersFields}
use Rattle.cqlp_cell.proofs.Coming.{value_due}
use Rattle.cqlp_cell.proofs.Handing.{moved_conforms}
use Rattle.cqlp_cell.proofs.Entering.{fields_due, fields_inner, entered_symbols}

-- what a value is by its length, it is where the reader is
pub is_decided : (nodes : List Node) (d : CellState) (n : ℕ) (s : Sized) → IsSized d.rules (due_value nodes d).kind (room_of nodes d) n s → Decided nodes d n s
unfolding sized_of
is_decided nodes d n s h = record { is = h.is (place nodes d) (rest_of nodes d) (inner_of nodes (due_value nodes d)) (length d.open_values); can = h.can; fits = h.fits }

pub value_decided : (nodes : List Node) (d : CellState) (v : DueValue) (n : ℕ) (s : Sized) → v ≡ due_value nodes d → IsSized d.rules v.kind (v.stop - d.offset) n s → Decided nodes d n s
value_decided nodes d v n s e h = is_decided nodes d n s (rw e at h)

-- ---- what a length alone decides

module _ (nodes : List Node) (d : CellState) (n : ℕ) (x : List ℕ) where
  pub refused_fails : (why : Reason) (p q : FieldState) (new : CellState) → Decided nodes d n (size.Refused why) → new ≡ ended d → q.under_way ≡ false → q.room ≡ p.room → Fails nodes d p (says (sized_of nodes d n) 4 x) (record { at = d.offset; why = why }) new q
  refused_fails why p q new h goes idle room = record { is = rw h.is refl; ends = goes; idle = idle; longest = room }

  null_got : Decided nodes d n size.Null → Emits nodes (says (sized_of nodes d n) 4 x) d.offset 4 (Null (length d.open_values)) (state_after nodes d 4)
  null_got h = record {
    x = record { at = d.offset; event = Null (length d.open_values); after = place_after (place nodes d) (rest_of nodes d) [] };
    is = rw h.is refl;
    offset = refl;
    event = refl;
    after = refl;
  }

  empty_got : Decided nodes d n size.Empty → Emits nodes (says (sized_of nodes d n) 4 x) d.offset 4 (Empty (length d.open_values)) (state_after nodes d 4)
  empty_got h = record {
    x = record { at = d.offset; event = Empty (length d.open_values); after = place_after (place nodes d) (rest_of nodes d) [] };
    is = rw h.is refl;
    offset = refl;
    event = refl;
    after = refl;
  }

module _ (nodes : List Node) (d new : CellState) (n start : ℕ) (p q : FieldState) (input : List ℕ) (s : Conforms nodes d) (v : due_of d ≡ due.Value) (room : 4 ≤ room_of nodes d) (within : start ≤ length input) (front : start ≤ 4) (some : 0 < start)
    (idle : q.under_way ≡ false) (longest : q.room ≡ p.room) where
  abbrev said_of : List ℕ
  said_of = [] ++ drop start input

  abbrev base : ℕ
  base = (4 - start) + length {A = ℕ} []

  count : base + start ≡ 4
  count = omega arith

  pays : length (open_after nodes d) < length d.open_values + 2 * start
  pays = let due = value_due nodes d s v in omega (arith, due.level, some)

  stays : Conforms nodes (state_after nodes d 4)
  stays = let due = value_due nodes d s v in moved_conforms nodes d 4 s due (omega (arith, due.inside))

  pub null_hands : (level : ℕ) → Decided nodes d n size.Null → level ≡ length d.open_values → new ≡ state_after nodes d 4 → Hands nodes d p input (says (sized_of nodes d n) 4 said_of) base d.offset start (outline.Null level) new q
  null_hands level h at goes = rw (goes, at) (record {
    within = within;
    emits = rw count (null_got nodes d n said_of h);
    can_lend = tt;
    lent = tt;
    kept = tt;
    held = tt;
    rules = refl;
    stop = refl;
    conforms = stays;
    onward = rw count refl;
    goes_after = tt;
    pays = pays;
    goes_on = refl;
    fresh = refl;
    idle = idle;
    longest = longest;
  })

  pub empty_hands : (level : ℕ) → Decided nodes d n size.Empty → level ≡ length d.open_values → new ≡ state_after nodes d 4 → Hands nodes d p input (says (sized_of nodes d n) 4 said_of) base d.offset start (outline.Empty level) new q
  empty_hands level h at goes = rw (goes, at) (record {
    within = within;
    emits = rw count (empty_got nodes d n said_of h);
    can_lend = tt;
    lent = tt;
    kept = tt;
    held = tt;
    rules = refl;
    stop = refl;
    conforms = stays;
    onward = rw count refl;
    goes_after = tt;
    pays = pays;
    goes_on = refl;
    fresh = refl;
    idle = idle;
    longest = longest;
  })

  pub fields_hands : Decided nodes d n (size.Fields n) → (due_value nodes d).arity < 2 ^ 16 → EntersFields nodes d n new → Hands nodes d p input (says (sized_of nodes d n) 4 said_of) base d.offset start (outline.Enter (length d.open_values) (due_value nodes d).kind (due_value nodes d).arity) new q
  fields_hands h low enters =
      let inner = fields_inner nodes d n s v h low in
      let due = fields_due nodes d n s v h low in
      let o = fields_open (due_value nodes d) (d.offset + 4 + n) in
      rw enters.0 (record {
        within = within;
        emits = rw count (record {
          x = record { at = d.offset; event = Enter (length d.open_values) (due_value nodes d).kind (due_value nodes d).arity; after = place_after (place nodes d) (rest_of nodes d) (Items_of (inner_of nodes (due_value nodes d)) (length d.open_values) (d.offset + 4 + n) 0 ∷ []) };
          is = rw (h.is, inner.conforms.many) refl;
          offset = refl;
          event = refl;
          after = ap (λ (ss : List CellSymbol). record { offset = d.offset + 4; symbols = ss }) (sym (entered_symbols nodes d 4 o due));
        });
        can_lend = tt;
        lent = tt;
        kept = tt;
        held = tt;
        rules = refl;
        stop = refl;
        conforms = rw enters.0 at enters.1;
        onward = rw count refl;
        goes_after = tt;
        pays = omega (arith, length-append (open_after nodes d) (o ∷ []), pays);
        goes_on = refl;
        fresh = refl;
        idle = idle;
        longest = longest;
      })
