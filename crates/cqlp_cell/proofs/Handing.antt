-- What a step says, where the length of a value has come.
use Rattle.std.proofs.Common.{◌≡◌, ℕ, ◌+◌, ◌-◌, ◌<◌, ◌≤◌, true, List, ◌++◌, length, take, drop, is_some, Option, Some, None, refl, sym, ap, ◌∙◌, arith, lt-ltb, le-ltb}
use Rattle.std.proofs.lemmas.List.{length-take-le}
use Rattle.cqlp_note.specs.Reader.{More, Got, says}
use Rattle.cqlp_note.specs.Step.{Emitted}
use Rattle.cqlp_note.specs.Partial.{FieldState}
use Rattle.cqlp_kind.specs.declared.kind.Kind.{Kind}
use Rattle.cqlp_kind.specs.declared.node.Node.{Node}
use Rattle.cqlp_cell.specs.declared.gather.Found.{Found}
use Rattle.cqlp_cell.specs.declared.advance.CellOutline.TheVariants as outline
use Rattle.cqlp_cell.specs.declared.size.Sized.{Sized}
use Rattle.cqlp_cell.specs.declared.size.Sized.TheVariants as size
use Rattle.cqlp_cell.specs.declared.progress.Arrived.{Arrived}
use Rattle.cqlp_cell.specs.declared.progress.Arrived.TheVariants as arrived
use Rattle.cqlp_cell.specs.declared.progress.CellDue.TheVariants as due
use Rattle.cqlp_kind.specs.Scalars.{ScalarValue, scalar_of, scalar_or_lenient, fault_of}
use Rattle.cqlp_kind.specs.CellStep.{CellSymbol, CellEvent, CellPlace, leaf_step}
use Rattle.cqlp_cell.specs.Contents.{IsReadAs}
use Rattle.cqlp_cell.specs.Items.{content_at, leaf_event}
use Rattle.cqlp_cell.specs.Gathering.{Wants, Finds}
use Rattle.cqlp_cell.specs.Progress.{CellState, ended, place, due_value, state_after, rest_of, due_of, Conforms}
use Rattle.cqlp_cell.specs.Coming.{ValueDue}
use Rattle.cqlp_cell.specs.Reading.{sized_of, Decided, Emits, Hands, Waits, Fails, LengthCame}
use Rattle.cqlp_cell.proofs.Coming.{value_due}

-- after the value that comes next, as far as the one around it goes
pub moved_conforms : (nodes : List Node) (d : CellState) (size : ℕ) → Conforms nodes d → ValueDue nodes d → d.offset + size ≤ (due_value nodes d).stop → Conforms nodes (state_after nodes d size)
moved_conforms nodes d size s v le = record { open_conform = v.after; within = rw v.ends (omega arith); next_conforms = tt; bounded = s.bounded }

-- ---- scalars

leaf_known : (p : CellPlace) (rest : List CellSymbol) (level : ℕ) (k : Kind) (o : Option ScalarValue) (taken : ℕ) (bytes : List ℕ) → is_some o ≡ true
    → (x : Emitted CellEvent CellPlace) × (says (leaf_step p rest level k o) taken bytes ≡ Got x taken) × (x.at ≡ p.offset) × (x.event ≡ leaf_event level o) × (x.after taken ≡ record { offset = p.offset + taken; symbols = rest })
leaf_known p rest level k (Some v) taken bytes t = (_, refl, refl, refl, refl)
leaf_known p rest level k None taken bytes t = absurd cc

-- how much of it has come changes no step
module _ (nodes : List Node) (d : CellState) (u : Arrived) where
  pub same_sized : (n : ℕ) → sized_of nodes (record d { arrived = u }) n ≡ sized_of nodes d n
  unfolding sized_of
  same_sized n = refl

  pub same_decided : (n : ℕ) (s : Sized) → Decided nodes d n s → Decided nodes (record d { arrived = u }) n s
  same_decided n s h = record { is = same_sized n ∙ h.is; can = h.can; fits = h.fits }

module _ (nodes : List Node) (d : CellState) (n : ℕ) (decided : Decided nodes d n (size.Scalar n)) (x : List ℕ) where
  abbrev its_kind : Kind
  its_kind = (due_value nodes d).kind

  pub scalar_short : length x < n → says (sized_of nodes d n) 4 x ≡ More
  scalar_short lt = rw (decided.is, lt-ltb (length x) n lt) refl

  abbrev read : Option ScalarValue
  read = scalar_or_lenient d.rules.lenient its_kind (take n x)

  pub scalar_got : n ≤ length x → is_some read ≡ true → Emits nodes (says (sized_of nodes d n) 4 x) d.offset (4 + n) (leaf_event (length d.open_values) read) (state_after nodes d (4 + n))
  scalar_got le t =
      let k = leaf_known (place nodes d) (rest_of nodes d) (length d.open_values) its_kind read (4 + n) (drop n x) t in
      record {
        x = k.0;
        is = rw (decided.is, le-ltb (length x) n le) k.1;
        offset = k.2;
        event = k.3;
        after = k.4;
      }

-- a scalar that is whole
module _ (nodes : List Node) (old new : CellState) (n start : ℕ) (p q : FieldState) (seen input : List ℕ) (f : Found) (conforms : Conforms nodes old) (v : due_of old ≡ due.Value) (decided : Decided nodes old n (size.Scalar n)) (front : start ≤ 4)
    (some : length seen < start + n) (found : Finds n start seen (seen ++ drop start input) input f p q) (kept : f.used < n → (p.under_way ≡ true) × (q.content ≡ p.seen ++ take f.used input)) where
  abbrev bytes : List ℕ
  bytes = seen ++ drop start input

  abbrev kind : Kind
  kind = (due_value nodes old).kind

  content_is : content_at f.content input q.content ≡ take n bytes
  content_is = rw found.is refl

  pub leaf_hands : (k : Kind) (level : ℕ) → level ≡ length old.open_values → IsReadAs old.rules.lenient kind (content_at f.content input q.content) (Some k) → new ≡ state_after nodes old (4 + n)
      → Hands nodes old p input (says (sized_of nodes old n) 4 bytes) ((4 - start) + length seen) old.offset f.used (outline.Leaf level k f.content) new q
  leaf_hands k level at known goes =
      let is : scalar_of k (content_at f.content input q.content) ≡ scalar_or_lenient old.rules.lenient kind (take n bytes) = known.2 ∙ ap (scalar_or_lenient old.rules.lenient kind) content_is in
      let got = scalar_got nodes old n decided bytes found.enough (rw is at known.1) in
      let count : ((4 - start) + length seen) + f.used ≡ 4 + n = omega (arith, found.count, found.after) in
      let size : length (take n bytes) ≡ n = length-take-le n bytes found.enough in
      let due = value_due nodes old conforms v in
      rw (goes, at) (record {
        within = found.within;
        emits = rw (count, is) got;
        can_lend = ((found.can_lend, rw found.is refl), known.0, known.1);
        lent = λ le. found.lent (rw (content_is, size) at le);
        kept = λ lt. kept (rw (content_is, size) at lt);
        held = λ lt. found.kept (rw (content_is, size) at lt) ∙ sym content_is;
        rules = refl;
        stop = refl;
        conforms = moved_conforms nodes old (4 + n) conforms due (omega (arith, decided.fits.0, due.inside));
        onward = rw count refl;
        goes_after = tt;
        pays = omega (arith, due.level, found.count, found.after, some);
        goes_on = refl;
        fresh = refl;
        idle = found.idle;
        longest = found.room;
      })

  -- one that the type refuses
  pub leaf_fails : IsReadAs old.rules.lenient kind (content_at f.content input q.content) None → new ≡ ended old → Fails nodes old p (says (sized_of nodes old n) 4 bytes) (record { at = old.offset; why = fault_of kind }) new q
  leaf_fails refused goes =
      let none : scalar_or_lenient old.rules.lenient kind (take n bytes) ≡ None = rw content_is at refused in
      record { is = rw (decided.is, le-ltb (length bytes) n found.enough, none) refl; ends = goes; idle = found.idle; longest = found.room }

-- a scalar that goes on
pub scalar_waits : (nodes : List Node) (old : CellState) (n : ℕ) (p q : FieldState) (input bytes : List ℕ) → due_of old ≡ due.Value → Decided nodes old n (size.Scalar n) → old.rules.cell ≤ p.room → Wants n (old.offset + 4) bytes p q
    → Waits nodes old p input (says (sized_of nodes old n) 4 bytes) (length input) (record old { arrived = arrived.Scalar n }) q × LengthCame n bytes (arrived.Scalar n) q.seen
scalar_waits nodes old n p q input bytes v decided longest wants = (
  record {
    all = refl;
    is = scalar_short nodes old n decided bytes wants.short;
    same = refl;
    under_way = wants.under_way;
    kept = wants.kept ∙ sym wants.seen;
    joined = record { longest = rw wants.room longest; under_way = (v, (wants.under_way, wants.field, refl, rw wants.seen wants.short), same_decided nodes old (arrived.Scalar n) n (size.Scalar n) decided) };
    longest = wants.room;
  },
  (refl, wants.seen, decided.fits.1),
)
