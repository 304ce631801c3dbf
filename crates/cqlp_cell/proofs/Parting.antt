-- A long scalar in parts.
use Rattle.std.proofs.Common.{◌≡◌, ℕ, ◌+◌, ◌-◌, ◌^◌, ◌<◌, ◌≤◌, Bool, true, false, leb, List, [], ◌∷◌, ◌++◌, length, take, drop, min, refl, sym, ◌∙◌, arith, lt-ltb, le-ltb, cond}
use Rattle.std.proofs.lemmas.Bool.{leb-true, leb-false, lt-leb}
use Rattle.std.proofs.lemmas.List.{length-take-le}
use Rattle.cqlp_note.specs.Reader.{More, says}
use Rattle.cqlp_note.specs.Partial.{FieldState}
use Rattle.cqlp_kind.specs.declared.node.Node.{Node}
use Rattle.cqlp_cell.specs.declared.gather.Found.{Found}
use Rattle.cqlp_cell.specs.declared.advance.CellOutline.TheVariants as outline
use Rattle.cqlp_cell.specs.declared.size.Sized.TheVariants as size
use Rattle.cqlp_cell.specs.declared.progress.NextInCell.TheVariants as next
use Rattle.cqlp_cell.specs.declared.progress.Arrived.TheVariants as arrived
use Rattle.cqlp_cell.specs.declared.progress.CellDue.TheVariants as due
use Rattle.cqlp_kind.specs.CellStep.{Content_from, Part, place_after}
use Rattle.cqlp_cell.specs.Items.{content_at}
use Rattle.cqlp_cell.specs.Gathering.{IsGathering, seen_before, Wants, Finds}
use Rattle.cqlp_cell.specs.Progress.{CellState, is_some_next, all_open_symbols, place, state_after, rest_of, due_of, last_stop, Conforms}
use Rattle.cqlp_cell.specs.Reading.{step_says, sized_of, Decided, part_size, next_after, IsAfterItem, Emits, Hands, Waits, LengthCame, HaveCome}
use Rattle.cqlp_cell.proofs.Opened.{last_stop_le}
use Rattle.cqlp_cell.proofs.Coming.{value_due, part_is}
use Rattle.cqlp_cell.proofs.Handing.{same_decided}

-- ---- the first part

module _ (nodes : List Node) (d : CellState) (same : d.rules.part ≡ d.rules.cell) (total : ℕ) (decided : Decided nodes d total (size.Parts total)) where
  first_size : min d.rules.cell (total - 0) ≡ d.rules.cell
  first_size = omega (arith, decided.can.1)

  first_more : leb (total - 0) d.rules.cell ≡ false
  first_more = lt-leb (total - 0) d.rules.cell (omega (arith, decided.can.1))

  pub first_room : Conforms nodes d → due_of d ≡ due.Value → d.offset + 4 + total < 2 ^ 64
  first_room s v = let due = value_due nodes d s v in omega (arith, decided.fits.0, due.inside, due.bounded)

  pub first_short : (x : List ℕ) → length x < d.rules.cell → says (sized_of nodes d total) 4 x ≡ More
  first_short x lt = rw (decided.is, same, first_size, lt-ltb (length x) d.rules.cell lt) refl

  abbrev first_read : CellState
  first_read = record (state_after nodes d (4 + d.rules.cell)) { next = next.Part d.rules.cell total }

  first_got : (x : List ℕ) → Conforms nodes d → due_of d ≡ due.Value → d.rules.cell ≤ length x → Emits nodes (says (sized_of nodes d total) 4 x) (d.offset + 4) (4 + d.rules.cell) (Part (length d.open_values) 0 (take d.rules.cell x) false) first_read
  first_got x s v le =
      let due = value_due nodes d s v in
      let start : 0 + d.rules.cell ≡ d.rules.cell = omega arith in
      record {
        x = record { at = d.offset + 4; event = Part (length d.open_values) 0 (take d.rules.cell x) false; after = place_after (place nodes d) (rest_of nodes d) (Content_from (length d.open_values) d.rules.cell total ∷ []) };
        is = rw (decided.is, same, first_size, first_more, start, le-ltb (length x) d.rules.cell le) refl;
        offset = refl;
        event = refl;
        after = rw due.level refl;
      }

  first_conforms : Conforms nodes d → due_of d ≡ due.Value → 0 < d.rules.cell → Conforms nodes first_read
  first_conforms s v some =
      let due = value_due nodes d s v in
      record { open_conform = due.after; within = rw due.ends (omega (arith, decided.fits.0, due.inside, decided.can.1)); next_conforms = (decided.can.1, some); bounded = s.bounded }

  pub first_waits : (p q : FieldState) (input bytes : List ℕ) → due_of d ≡ due.Value → d.rules.cell ≤ p.room → Wants d.rules.cell (d.offset + 4) bytes p q
      → Waits nodes d p input (says (sized_of nodes d total) 4 bytes) (length input) (record d { arrived = arrived.First total }) q × LengthCame total bytes (arrived.First total) q.seen
  first_waits p q input bytes v longest wants = (
    record {
      all = refl;
      is = first_short bytes wants.short;
      same = refl;
      under_way = wants.under_way;
      kept = wants.kept ∙ sym wants.seen;
      joined = record { longest = rw wants.room longest; under_way = (v, (wants.under_way, wants.field, refl, rw wants.seen wants.short), same_decided nodes d (arrived.First total) total (size.Parts total) decided) };
      longest = wants.room;
    },
    (refl, wants.seen, decided.fits.1),
  )

  pub first_hands : (start : ℕ) (p q : FieldState) (seen input : List ℕ) (f : Found) (new : CellState) (level : ℕ) → Conforms nodes d → due_of d ≡ due.Value → 0 < d.rules.cell → start ≤ 4 → length seen < start + d.rules.cell → Finds d.rules.cell start seen (seen ++ drop start input) input f p q
      → (f.used < d.rules.cell → (p.under_way ≡ true) × (q.content ≡ p.seen ++ take f.used input)) → new ≡ first_read → level ≡ length d.open_values
      → Hands nodes d p input (says (sized_of nodes d total) 4 (seen ++ drop start input)) ((4 - start) + length seen) (d.offset + 4) f.used (outline.Part level 0 f.content false) new q
  first_hands start p q seen input f new level s v some front more found kept goes at =
      let got = first_got (seen ++ drop start input) s v found.enough in
      let there : content_at f.content input q.content ≡ take d.rules.cell (seen ++ drop start input) = rw found.is refl in
      let count : ((4 - start) + length seen) + f.used ≡ 4 + d.rules.cell = omega (arith, found.count, found.after) in
      let size = length-take-le d.rules.cell (seen ++ drop start input) found.enough in
      let due = value_due nodes d s v in
      rw (goes, at) (record {
        within = found.within;
        emits = rw (count, there) got;
        can_lend = (found.can_lend, rw found.is refl);
        lent = λ le. found.lent (rw (there, size) at le);
        kept = λ lt. kept (rw (there, size) at lt);
        held = λ lt. found.kept (rw (there, size) at lt) ∙ sym there;
        rules = refl;
        stop = refl;
        conforms = first_conforms s v some;
        onward = rw count refl;
        goes_after = tt;
        pays = omega (arith, due.level, found.count, found.after, more);
        goes_on = refl;
        fresh = refl;
        idle = found.idle;
        longest = found.room;
      })

-- ---- a later part

module _ (nodes : List Node) (d : CellState) (same : d.rules.part ≡ d.rules.cell) (offset total : ℕ) (here : d.next ≡ next.Part offset total) (conforms : Conforms nodes d) where
  part_conforms : (offset < total) × (0 < d.rules.cell)
  part_conforms = rw here at conforms.next_conforms

  part_within : d.offset + (total - offset) ≤ last_stop d.stop d.open_values
  part_within = rw here at conforms.within

  pub part_room : d.offset + (total - offset) < 2 ^ 64
  part_room = omega (arith, part_within, last_stop_le nodes d.rules 0 d.stop d.open_values conforms.open_conform, conforms.bounded)

  abbrev its_size : ℕ
  its_size = part_size d offset total

  abbrev is_last : Bool
  is_last = leb (total - offset) d.rules.cell

  abbrev part_read : CellState
  part_read = record d { offset = d.offset + its_size; next = next_after is_last (offset + its_size) total; arrived = arrived.Nothing }

  later_short : (x : List ℕ) → length x < its_size → step_says nodes d x ≡ More
  unfolding step_says
  later_short x lt = rw (part_is nodes d offset total here, same, lt-ltb (length x) its_size lt) refl

  place_next : (last : Bool) → record { offset = d.offset + its_size; symbols = (cond last [] (Content_from (length d.open_values) (offset + its_size) total ∷ [])) ++ all_open_symbols nodes 0 d.open_values }
      ≡ place nodes (record d { offset = d.offset + its_size; next = next_after last (offset + its_size) total; arrived = arrived.Nothing })
  place_next true = refl
  place_next false = refl

  later_got : (x : List ℕ) → its_size ≤ length x → Emits nodes (step_says nodes d x) d.offset its_size (Part (length d.open_values) offset (take its_size x) is_last) part_read
  unfolding step_says
  later_got x le =
      let zero : 0 + its_size ≡ its_size = omega arith in
      record {
        x = record { at = d.offset + 0; event = Part (length d.open_values) offset (take its_size x) is_last; after = place_after (place nodes d) (all_open_symbols nodes 0 d.open_values) (cond is_last [] (Content_from (length d.open_values) (offset + its_size) total ∷ [])) };
        is = rw (part_is nodes d offset total here, same, le-ltb (length x) its_size le, zero) refl;
        offset = omega arith;
        event = refl;
        after = place_next is_last;
      }

  next_conform : (last : Bool) → is_last ≡ last → Conforms nodes (record d { offset = d.offset + its_size; next = next_after last (offset + its_size) total; arrived = arrived.Nothing })
  next_conform true e =
      let le : total - offset ≤ d.rules.cell = leb-true _ _ e in
      record { open_conform = conforms.open_conform; within = omega (arith, part_within); next_conforms = tt; bounded = conforms.bounded }
  next_conform false e =
      let lt : d.rules.cell < total - offset = leb-false _ _ e in
      record { open_conform = conforms.open_conform; within = omega (arith, part_within); next_conforms = (omega (arith, part_conforms.0), part_conforms.1); bounded = conforms.bounded }

  pub later_waits : (p q : FieldState) (input bytes : List ℕ) → d.rules.cell ≤ p.room → Wants its_size d.offset bytes p q
      → Waits nodes d p input (step_says nodes d bytes) (length input) (record d { arrived = arrived.Later }) q × HaveCome bytes arrived.Later q.seen
  later_waits p q input bytes longest wants = (
    record {
      all = refl;
      is = later_short bytes wants.short;
      same = refl;
      under_way = wants.under_way;
      kept = wants.kept ∙ sym wants.seen;
      joined = record { longest = rw wants.room longest; under_way = rw here (wants.under_way, wants.field, refl, rw wants.seen wants.short) };
      longest = wants.room;
    },
    sym wants.seen,
  )

  is_next : (last : Bool) → IsAfterItem (next_after last (offset + its_size) total)
  is_next true = tt
  is_next false = tt

  -- some bytes of it are still wanted
  pub still_wanted : (begun : Bool) (p : FieldState) → IsGathering begun its_size d.offset 0 p → length (seen_before begun p) < its_size
  still_wanted true p h = h.3
  still_wanted false p h = omega (arith, part_conforms)

  goes_on_next : (last : Bool) → is_some_next (next_after last (offset + its_size) total) ≡ true
  goes_on_next true = refl
  goes_on_next false = refl

  pub later_hands : (p q : FieldState) (seen input : List ℕ) (f : Found) (new : CellState) (level : ℕ) (last : Bool) → length seen < its_size → Finds its_size 0 seen (seen ++ input) input f p q
      → (f.used < its_size → (p.under_way ≡ true) × (q.content ≡ p.seen ++ take f.used input)) → last ≡ is_last → new ≡ record d { offset = d.offset + its_size; next = next_after last (offset + its_size) total; arrived = arrived.Nothing } → level ≡ length d.open_values
      → Hands nodes d p input (step_says nodes d (seen ++ input)) (length seen) d.offset f.used (outline.Part level offset f.content last) new q
  later_hands p q seen input f new level last more found kept ends goes at =
      let got = later_got (seen ++ input) found.enough in
      let there : content_at f.content input q.content ≡ take its_size (seen ++ input) = rw found.is refl in
      let count : length seen + f.used ≡ its_size = omega (arith, found.count) in
      let size = length-take-le its_size (seen ++ input) found.enough in
      rw (goes, at, ends) (record {
        within = found.within;
        emits = rw (count, there) got;
        can_lend = (found.can_lend, rw found.is refl);
        lent = λ le. found.lent (rw (there, size) at le);
        kept = λ lt. kept (rw (there, size) at lt);
        held = λ lt. found.kept (rw (there, size) at lt) ∙ sym there;
        rules = refl;
        stop = refl;
        conforms = next_conform is_last refl;
        onward = rw count refl;
        goes_after = is_next is_last;
        pays = omega (arith, found.count, more);
        goes_on = goes_on_next is_last;
        fresh = refl;
        idle = found.idle;
        longest = found.room;
      })
