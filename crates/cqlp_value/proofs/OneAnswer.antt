-- What a call says of a cell, and what it leaves, are decided by what the step says of the bytes that have come.
use Rattle.std.proofs.Common.{◌≡◌, ℕ, zero, suc, ◌+◌, ◌-◌, ◌<◌, Bool, true, false, ◌&&◌, List, [], ◌∷◌, ◌++◌, length, take, drop, Option, Some, None, refl, sym, ap, ◌∙◌, append_assoc, arith, inl, inr, cond, ltb, lt-ltb, le-ltb}
use Rattle.std.proofs.lemmas.Bool.{cases_lt}
use Rattle.std.proofs.lemmas.List.{drop_all, drop_at, length-append, length-drop, length-take-le, take-append-drop}
use Rattle.cqlp_note.specs.declared.refusal.Reason.{Reason}
use Rattle.cqlp_note.specs.declared.refusal.Refusal.{Refusal}
use Rattle.cqlp_note.specs.Reader.{Said, Got, Bad, says}
use Rattle.cqlp_note.specs.Reader as reader
use Rattle.cqlp_note.specs.Step.{Emitted, Step, Runs}
use Rattle.cqlp_note.specs.Limits.{Rules}
use Rattle.cqlp_note.specs.Partial.{FieldState}
use Rattle.cqlp_note.proofs.Readers.{says_stays}
use Rattle.cqlp_note.proofs.Runs.{stays_got, same_got, runs_stay}
use Rattle.cqlp_kind.specs.declared.node.Node.{Node}
use Rattle.cqlp_kind.specs.declared.kind.Kind.{Kind}
use Rattle.cqlp_kind.specs.declared.kind.Kind.TheVariants as kind
use Rattle.cqlp_kind.specs.Types.{Types, NoMore, Type_and, has_no_items}
use Rattle.cqlp_cell.specs.declared.advance.CellAdvance.{CellAdvance}
use Rattle.cqlp_cell.specs.declared.advance.CellAdvance.TheVariants as advance
use Rattle.cqlp_cell.specs.declared.item.CellPush.{CellPush}
use Rattle.cqlp_cell.specs.declared.item.CellPush.TheVariants as push
use Rattle.cqlp_cell.specs.declared.open_values.OpenValue.{OpenValue}
use Rattle.cqlp_cell.specs.declared.open_values.Order.{Order}
use Rattle.cqlp_cell.specs.declared.open_values.Order.TheVariants as order
use Rattle.cqlp_cell.specs.declared.progress.NextInCell.{NextInCell}
use Rattle.cqlp_cell.specs.declared.progress.NextInCell.TheVariants as next
use Rattle.cqlp_cell.specs.declared.progress.Arrived.{Arrived}
use Rattle.cqlp_cell.specs.declared.progress.Arrived.TheVariants as arrived
use Rattle.cqlp_kind.specs.CellStep.{CellSymbol, Value_of, Items_of, Close_of, Content_from, CellEvent, CellPlace, cell_copies, values_of, cell_step}
use Rattle.cqlp_cell.specs.Items.{content_length, event_at, event_of}
use Rattle.cqlp_cell.specs.Sizes.{is_counted}
use Rattle.cqlp_type.specs.Forests.{types_at}
use Rattle.cqlp_cell.specs.Progress.{CellState, value_symbols, left_of, open_symbols, all_open_symbols, symbols_for, cell_symbols, place, due_value, is_under_way, is_some_next, ended, NextConforms, Conforms}
use Rattle.cqlp_cell.specs.OpenValues.{last_open}
use Rattle.cqlp_cell.specs.Reading.{gathered, Joined, UnderBy, FurtherUnder, PartUnder, HaveCome, Answers, Empties, Moves}
use Rattle.cqlp_cell.specs.Pushing.{After, Continues, Keeps, Pushes, Uses, is_done, done_by}
use Rattle.cqlp_value.specs.Laws.{Answer, More, FieldOutline, Done, Refused, push_answer, advance_answer, Call, Seen, seen, LeaveAlike, IsPush, IsAdvance, AreAlike}
use Rattle.cqlp_cell.proofs.Coming.{first_kind, one_value, value_first_is}
use Rattle.cqlp_cell.proofs.Leading.{keeps, answer_is, conforms_under, is_over_done, is_not_done}
use Rattle.cqlp_cell.proofs.Further.{inner_symbols}
use Rattle.cqlp_cell.proofs.Leavings.{stop_is}

-- ---- runs with the same events

module _ {E P : Type 0} (step : P → Step E P) where
  -- they end at the same place, before the same bytes
  run_same : (p q q' : P) (bytes rest rest' : List ℕ) (es : List (ℕ × E)) → Runs step p bytes es q rest → Runs step p bytes es q' rest' → (q' ≡ q) × (rest' ≡ rest)
  run_same p q q' bytes rest rest' [] a b = (b.0 ∙ sym a.0, b.1 ∙ sym a.1)
  run_same p q q' bytes rest rest' (e ∷ es) a b =
      let same = same_got _ _ _ _ (sym b.2 ∙ a.2) in
      let mid : b.1 ≡ a.1 = ap (λ (x : Emitted E P). x.after) same.0 in
      run_same (a.1 a.0) q q' (drop a.0 bytes) rest rest' es a.3 (rw (same.1, mid) at b.3)

  -- one with another event goes on where the first ends
  run_next : (p q q' : P) (bytes rest rest' : List ℕ) (es : List (ℕ × E)) (f : ℕ × E) → Runs step p bytes es q rest → Runs step p bytes (es ++ f ∷ []) q' rest' → Runs step q rest (f ∷ []) q' rest'
  run_next p q q' bytes rest rest' [] f a b = rw (a.0, a.1) b
  run_next p q q' bytes rest rest' (e ∷ es) f a b =
      let same = same_got _ _ _ _ (sym b.2 ∙ a.2) in
      let mid : b.1 ≡ a.1 = ap (λ (x : Emitted E P). x.after) same.0 in
      run_next (a.1 a.0) q q' (drop a.0 bytes) rest rest' es f a.3 (rw (same.1, mid) at b.3)

-- ---- what is left, by the symbols

abbrev is_none : List CellSymbol → Bool
is_none [] = true
is_none (s ∷ ss) = false

-- each value that is open has one symbol that ends it
abbrev ends_one : CellSymbol → ℕ
ends_one (Value_of k inner level stop) = 0
ends_one (Content_from level offset total) = 0
ends_one (Items_of ts level stop taken) = 1
ends_one (Close_of level stop taken) = 1

abbrev endings : List CellSymbol → ℕ
endings [] = 0
endings (s ∷ ss) = ends_one s + endings ss

endings-append : (xs ys : List CellSymbol) → endings (xs ++ ys) ≡ endings xs + endings ys
endings-append [] ys = omega arith
endings-append (x ∷ xs) ys = omega (arith, endings-append xs ys)

endings_values : (ts : Types) (level stop : ℕ) → endings (values_of ts level stop) ≡ 0
endings_values NoMore level stop = refl
endings_values (Type_and k inner others) level stop = omega (arith, endings_values others level stop)

endings_copies : (n : ℕ) (xs : List CellSymbol) → endings xs ≡ 0 → endings (cell_copies n xs) ≡ 0
endings_copies zero xs e = refl
endings_copies (suc n) xs e = omega (arith, endings-append xs (cell_copies n xs), endings_copies n xs e)

none_behind : (xs ys : List CellSymbol) → is_none ys ≡ false → is_none (xs ++ ys) ≡ false
none_behind [] ys e = e
none_behind (x ∷ xs) ys e = refl

module _ (nodes : List Node) where
  two_values : (node other level stop : ℕ) → endings (value_symbols nodes node level stop ++ value_symbols nodes other level stop) ≡ 0
  two_values node other level stop = endings-append (value_symbols nodes node level stop) (value_symbols nodes other level stop) ∙ rw (endings_values (types_at nodes node 1) level stop, endings_values (types_at nodes other 1) level stop) refl

  endings_open : (level : ℕ) (o : OpenValue) (k : Order) → endings (left_of nodes level o k) ≡ 1
  endings_open level o order.Elements =
      let these = value_symbols nodes o.node (level + 1) o.stop in
      omega (arith, endings-append (cell_copies o.left these) (Close_of level o.stop o.items ∷ []), endings_copies o.left these (endings_values (types_at nodes o.node 1) (level + 1) o.stop))
  endings_open level o order.Keys =
      let these = value_symbols nodes o.node (level + 1) o.stop ++ value_symbols nodes o.other (level + 1) o.stop in
      omega (arith, endings-append (cell_copies o.left these) (Close_of level o.stop o.items ∷ []), endings_copies o.left these (two_values o.node o.other (level + 1) o.stop))
  endings_open level o order.Values =
      let one = value_symbols nodes o.node (level + 1) o.stop in
      let these = value_symbols nodes o.other (level + 1) o.stop ++ value_symbols nodes o.node (level + 1) o.stop in
      omega (arith, endings-append one (cell_copies o.left these ++ Close_of level o.stop o.items ∷ []), endings_values (types_at nodes o.node 1) (level + 1) o.stop, endings-append (cell_copies o.left these) (Close_of level o.stop o.items ∷ []), endings_copies o.left these (two_values o.other o.node (level + 1) o.stop))
  endings_open level o order.Fields = refl

  endings_levels : (level : ℕ) (os : List OpenValue) → endings (all_open_symbols nodes level os) ≡ length os
  endings_levels level [] = refl
  endings_levels level (o ∷ os) = omega (arith, endings-append (all_open_symbols nodes (level + 1) os) (open_symbols nodes level o), endings_levels (level + 1) os, endings_open level o o.order)

  endings_cell : (node : Option ℕ) (stop : ℕ) → endings (cell_symbols nodes node stop) ≡ 0
  endings_cell None stop = refl
  endings_cell (Some node) stop = endings_values (types_at nodes node 1) 0 stop

  some_open : (level : ℕ) (o : OpenValue) (k : Order) → is_none (left_of nodes level o k) ≡ false
  some_open level o order.Elements = none_behind (cell_copies o.left (value_symbols nodes o.node (level + 1) o.stop)) (Close_of level o.stop o.items ∷ []) refl
  some_open level o order.Keys = none_behind (cell_copies o.left (value_symbols nodes o.node (level + 1) o.stop ++ value_symbols nodes o.other (level + 1) o.stop)) (Close_of level o.stop o.items ∷ []) refl
  some_open level o order.Values =
      let these = value_symbols nodes o.other (level + 1) o.stop ++ value_symbols nodes o.node (level + 1) o.stop in
      none_behind (value_symbols nodes o.node (level + 1) o.stop) (cell_copies o.left these ++ Close_of level o.stop o.items ∷ []) (none_behind (cell_copies o.left these) (Close_of level o.stop o.items ∷ []) refl)
  some_open level o order.Fields = refl

  module _ (l : Rules) (stop : ℕ) where
    endings_by : (n : NextInCell) (os : List OpenValue) → NextConforms nodes l os n → endings (symbols_for nodes stop os n) ≡ length os
    endings_by next.Nothing os h = rw h refl
    endings_by (next.Cell node) os h = rw h.0 (endings_cell node stop)
    endings_by next.Items os h = endings_levels 0 os
    endings_by (next.Part offset total) os h = omega (arith, endings_levels 0 os)

    done_in : (n : NextInCell) (os : List OpenValue) → NextConforms nodes l os n → done_by n os ≡ (is_some_next n && is_none (symbols_for nodes stop os n))
    done_in next.Nothing os h = refl
    done_in (next.Cell None) os h = refl
    done_in (next.Cell (Some node)) os h = rw (one_value nodes node l.depth 0 stop h.1) refl
    done_in next.Items [] h = refl
    done_in next.Items (o ∷ os) h = sym (none_behind (all_open_symbols nodes 1 os) (open_symbols nodes 0 o) (some_open 0 o o.order))
    done_in (next.Part offset total) os h = refl

  levels_are : (d : CellState) → Conforms nodes d → length d.open_values ≡ endings (place nodes d).symbols
  levels_are d s = sym (endings_by d.rules d.stop d.next d.open_values s.next_conforms)

  done_are : (d : CellState) → Conforms nodes d → is_done d ≡ (is_under_way d && is_none (place nodes d).symbols)
  done_are d s = done_in d.rules d.stop d.next d.open_values s.next_conforms

  ended_conforms : (d : CellState) → Conforms nodes d → Conforms nodes (ended d)
  ended_conforms d s = record { open_conform = tt; within = omega (arith, stop_is nodes d s); next_conforms = refl; bounded = s.bounded }

-- ---- what has come of an item, by its bytes

-- the bytes that its field has had, after the length if that has come
abbrev field_bytes : Option Kind → List ℕ → List ℕ
field_bytes None b = b
field_bytes (Some k) b = cond (ltb (length b) 4) b (drop 4 b)

-- and those that the buffer holds
abbrev buffer_bytes : Option Kind → List ℕ → List ℕ
buffer_bytes None b = b
buffer_bytes (Some k) b = cond (is_counted k) [] (drop 4 b)

either_none : (b : Bool) → ◌≡◌ {A = List ℕ} (cond b [] []) []
either_none true = refl
either_none false = refl

not_counted : (k : Kind) → has_no_items k ≡ true → is_counted k ≡ false
not_counted kind.List e = absurd cc
not_counted kind.Set e = absurd cc
not_counted kind.Map e = absurd cc
not_counted k e = refl

-- after a length
behind_length : (head seen : List ℕ) → length head ≡ 4 → (ltb (length (head ++ seen)) 4 ≡ false) × (drop 4 (head ++ seen) ≡ seen)
behind_length head seen long = (le-ltb (length (head ++ seen)) 4 (omega (arith, length-append head seen)), drop_at head seen 4 long)

module _ (nodes : List Node) (d : CellState) (p : FieldState) (conforms : Conforms nodes d) (b : List ℕ) where
  abbrev first : Option Kind
  first = first_kind (place nodes d).symbols

  abbrev AreCome : Arrived → Type 0
  AreCome u = (p.seen ≡ field_bytes first b) × (gathered u p.seen ≡ buffer_bytes first b)

  further_first : (o : Option OpenValue) → FurtherUnder nodes d p o → first_kind (all_open_symbols nodes 0 d.open_values) ≡ None
  further_first None h = absurd h
  further_first (Some o) h = ap first_kind (inner_symbols nodes d o conforms h.0 h.1)

  part_first : (n : NextInCell) → PartUnder nodes d p n → first_kind (symbols_for nodes d.stop d.open_values n) ≡ None
  part_first next.Nothing h = absurd h
  part_first (next.Cell _) h = absurd h
  part_first next.Items h = further_first (last_open d.open_values) h
  part_first (next.Part offset total) h = refl

  known_come : (head : List ℕ) (k : Kind) (t : Bool) → length head ≡ 4 → b ≡ head ++ p.seen → first ≡ Some k → is_counted k ≡ t → (p.seen ≡ field_bytes first b) × (cond t [] p.seen ≡ buffer_bytes first b)
  known_come head k t long is kind counted =
      let rest = behind_length head p.seen long in
      (rw (kind, is, rest.0, rest.1) refl, rw (kind, is, counted, rest.1) refl)

  come_in : (u : Arrived) → UnderBy nodes d p u → p.under_way ≡ true → HaveCome b u p.seen → AreCome u
  come_in arrived.Nothing h busy come = let no : ◌≡◌ {A = Bool} true false = sym busy ∙ h in absurd cc
  come_in arrived.Length h busy come =
      let short : length p.seen < 4 = h.1.4 in (
        rw (value_first_is nodes d conforms h.0, come, lt-ltb (length p.seen) 4 short) refl,
        rw (value_first_is nodes d conforms h.0, come, drop_all 4 p.seen (omega arith)) (sym (either_none (is_counted (due_value nodes d).kind))),
      )
  come_in (arrived.Scalar n) h busy come = known_come come.0 (due_value nodes d).kind false come.1 come.3 (value_first_is nodes d conforms h.0) (not_counted (due_value nodes d).kind h.2.can.2)
  come_in (arrived.Counted n) h busy come = known_come come.0 (due_value nodes d).kind true come.1 come.3 (value_first_is nodes d conforms h.0) h.2.can.1
  come_in (arrived.First n) h busy come = known_come come.0 (due_value nodes d).kind false come.1 come.3 (value_first_is nodes d conforms h.0) (not_counted (due_value nodes d).kind h.2.can.3)
  come_in arrived.Later h busy come = rw (part_first d.next h, come) (refl, refl)

-- ---- what is decided

pub record Outcome : Type 0 where
  pub answer : Answer
  pub under_way : Bool
  pub place : CellPlace
  pub come : List ℕ
  pub field : Bool
  pub bytes : List ℕ
  pub buffer : List ℕ

-- what the buffer holds after an item with a content of n bytes, of which these had come before
abbrev left_by : (n used : ℕ) → (seen input : List ℕ) → List ℕ
left_by n used seen input = cond (ltb used n) (seen ++ take used input) []

-- the same place, with nothing left
abbrev ended_at : CellPlace → CellPlace
ended_at p = record { offset = p.offset; symbols = [] }

abbrev StepAnswer : Type 0
StepAnswer = Said (Emitted CellEvent CellPlace) (ℕ × Reason)

abbrev decided_by : List CellSymbol → StepAnswer → CellPlace → (came input held : List ℕ) → Outcome
decided_by [] d p came input held = record { answer = Done; under_way = false; place = ended_at p; come = []; field = false; bytes = []; buffer = held }
decided_by (s ∷ ss) reader.More p came input held = record { answer = More (length input); under_way = true; place = p; come = came ++ input; field = true; bytes = field_bytes (first_kind p.symbols) (came ++ input); buffer = buffer_bytes (first_kind p.symbols) (came ++ input) }
decided_by (s ∷ ss) (Bad f) p came input held = record { answer = Refused (record { at = f.0; why = f.1 }); under_way = false; place = ended_at p; come = []; field = false; bytes = []; buffer = [] }
decided_by (s ∷ ss) (Got x k) p came input held =
    record { answer = FieldOutline x.at (k - length came) x.event; under_way = true; place = x.after k; come = []; field = false; bytes = []; buffer = left_by (content_length x.event) (k - length came) (field_bytes (first_kind p.symbols) came) input }

abbrev decided : Rules → CellPlace → (came input held : List ℕ) → Outcome
decided l p came input held = decided_by p.symbols (says (cell_step l p) 0 (came ++ input)) p came input held

module _ (p : CellPlace) (came input held : List ℕ) where
  decided_done : (ss : List CellSymbol) (d : StepAnswer) → is_none ss ≡ true → decided_by ss d p came input held ≡ record { answer = Done; under_way = false; place = ended_at p; come = []; field = false; bytes = []; buffer = held }
  decided_done [] d e = refl
  decided_done (s ∷ ss) d e = absurd cc

  decided_more : (ss : List CellSymbol) (d : StepAnswer) → is_none ss ≡ false → d ≡ reader.More
      → decided_by ss d p came input held ≡ record { answer = More (length input); under_way = true; place = p; come = came ++ input; field = true; bytes = field_bytes (first_kind p.symbols) (came ++ input); buffer = buffer_bytes (first_kind p.symbols) (came ++ input) }
  decided_more [] d e said = absurd cc
  decided_more (s ∷ ss) d e said = rw said refl

  decided_bad : (ss : List CellSymbol) (d : StepAnswer) (r : Refusal) → is_none ss ≡ false → d ≡ Bad (r.at, r.why) → decided_by ss d p came input held ≡ record { answer = Refused r; under_way = false; place = ended_at p; come = []; field = false; bytes = []; buffer = [] }
  decided_bad [] d r e said = absurd cc
  decided_bad (s ∷ ss) d r e said = rw said refl

  decided_item : (ss : List CellSymbol) (d : StepAnswer) (x : Emitted CellEvent CellPlace) (used : ℕ) → is_none ss ≡ false → d ≡ Got x (length came + used)
      → decided_by ss d p came input held
      ≡ record { answer = FieldOutline x.at used x.event; under_way = true; place = x.after (length came + used); come = []; field = false; bytes = []; buffer = left_by (content_length x.event) used (field_bytes (first_kind p.symbols) came) input }
  decided_item [] d x used e said = absurd cc
  decided_item (s ∷ ss) d x used e said = let less : (length came + used) - length came ≡ used = omega arith in rw (said, less) refl

-- ---- what meets it

module _ (nodes : List Node) where
  -- An answer, and what it leaves, are what is decided.
  pub record Meets (l : Rules) (most : ℕ) (o : Outcome) (x : Answer) (new : CellState) (q : FieldState) : Type 0 where
    pub answer : x ≡ o.answer
    pub under_way : is_under_way new ≡ o.under_way
    pub place : place nodes new ≡ o.place
    pub come : HaveCome o.come new.arrived q.seen
    pub field : q.under_way ≡ o.field
    pub bytes : cond q.under_way q.seen [] ≡ o.bytes
    pub buffer : q.content ≡ o.buffer
    pub conforms : Conforms nodes new
    pub rules : new.rules ≡ l
    pub room : q.room ≡ most

  -- what later calls see then
  abbrev seen_by : (l : Rules) (room : ℕ) → Outcome → Seen nodes
  seen_by l room o = record {
    rules = l;
    under_way = o.under_way;
    done = o.under_way && is_none o.place.symbols;
    place = o.place;
    levels = endings o.place.symbols;
    field = o.field;
    bytes = o.bytes;
    room = room;
    buffer = o.buffer;
  }

  module _ (l : Rules) (room : ℕ) (o : Outcome) where
    meets_seen : (x : Answer) (new : CellState) (q : FieldState) → Meets l room o x new q → seen nodes new q ≡ seen_by l room o
    meets_seen x new q m =
        let done : is_done new ≡ (o.under_way && is_none o.place.symbols) = done_are nodes new m.conforms ∙ (λ i. m.under_way i && is_none ((m.place i).symbols)) in
        let levels : length new.open_values ≡ endings o.place.symbols = levels_are nodes new m.conforms ∙ (λ i. endings ((m.place i).symbols)) in
        λ i. record { rules = m.rules i; under_way = m.under_way i; done = done i; place = m.place i; levels = levels i; field = m.field i; bytes = m.bytes i; room = m.room i; buffer = m.buffer i }

  both_meet : {X : Type 0} (l : Rules) (room : ℕ) (o : Outcome) (x y : Answer) (c d : Call X) → Meets l room o x c.reader' c.partial' → Meets l room o y d.reader' d.partial' → (x ≡ y) × LeaveAlike nodes c d
  both_meet l room o x y c d m n = (
    m.answer ∙ sym n.answer,
    record { same = meets_seen l room o x c.reader' c.partial' m ∙ sym (meets_seen l room o y d.reader' d.partial' n); come = o.come; this = m.come; that = n.come },
  )

  -- ---- a call

  module _ (old : CellState) (p : FieldState) (under_way : is_under_way old ≡ true) (conforms : Conforms nodes old) (joined : Joined nodes old p) (b input : List ℕ) (come : HaveCome b old.arrived p.seen) where
    abbrev outcome : Outcome
    outcome = decided old.rules (place nodes old) b input p.content

    abbrev here : CellPlace
    here = place nodes old

    abbrev said : StepAnswer
    said = says (cell_step old.rules here) 0 (b ++ input)

    some_left : is_done old ≡ false → is_none here.symbols ≡ false
    some_left e =
        let is : is_done old ≡ (true && is_none here.symbols) = rw under_way at (done_are nodes old conforms) in
        sym is ∙ e

    none_left : is_done old ≡ true → is_none here.symbols ≡ true
    none_left e =
        let is : is_done old ≡ (true && is_none here.symbols) = rw under_way at (done_are nodes old conforms) in
        sym is ∙ e

    module _ (new : CellState) (q : FieldState) where
      done_meets : is_done old ≡ true → new ≡ ended old → q.under_way ≡ false → q.content ≡ p.content → q.room ≡ p.room → Meets old.rules p.room outcome Done new q
      done_meets done goes idle same room =
          rw (decided_done here b input p.content here.symbols said (none_left done), goes) (record { answer = refl; under_way = refl; place = refl; come = refl; field = idle; bytes = rw idle refl; buffer = same; conforms = ended_conforms nodes old conforms; rules = refl; room = room })

      bad_meets : (r : Refusal) → is_done old ≡ false → said ≡ Bad (r.at, r.why) → new ≡ ended old → q.under_way ≡ false → q.content ≡ [] → q.room ≡ p.room → Meets old.rules p.room outcome (Refused r) new q
      bad_meets r more is goes idle empty room =
          rw (decided_bad here b input p.content here.symbols said r (some_left more) is, goes) (record { answer = refl; under_way = refl; place = refl; come = refl; field = idle; bytes = rw idle refl; buffer = empty; conforms = ended_conforms nodes old conforms; rules = refl; room = room })

      more_meets : (used : ℕ) → used ≡ length input → is_done old ≡ false → said ≡ reader.More → is_under_way new ≡ true → place nodes new ≡ here → HaveCome (b ++ input) new.arrived q.seen → q.under_way ≡ true → Joined nodes new q → q.content ≡ gathered new.arrived q.seen → Conforms nodes new
          → new.rules ≡ old.rules → q.room ≡ p.room → Meets old.rules p.room outcome (More used) new q
      more_meets used all more is going at came field j kept s rules room =
          let come = come_in nodes new q s (b ++ input) new.arrived j.under_way field came in
          let symbols : first_kind (place nodes new).symbols ≡ first_kind here.symbols = ap (λ (z : CellPlace). first_kind z.symbols) at in
          rw (decided_more here b input p.content here.symbols said (some_left more) is)
          (record {
            answer = ap More all;
            under_way = going;
            place = at;
            come = came;
            field = field;
            bytes = rw field (come.0 ∙ ap (λ (z : Option Kind). field_bytes z (b ++ input)) symbols);
            buffer = kept ∙ come.1 ∙ ap (λ (z : Option Kind). buffer_bytes z (b ++ input)) symbols;
            conforms = s;
            rules = rules;
            room = room;
          })

      kept_is : (used : ℕ) (e : CellEvent) → Keeps p input used e q → q.content ≡ left_by (content_length e) used (field_bytes (first_kind here.symbols) b) input
      kept_is used e k = elim (cases_lt used (content_length e)) [
        | inl lt ↦
            let h = k.kept lt in
            let come = come_in nodes old p conforms b old.arrived joined.under_way h.0 come in
            rw (lt-ltb used (content_length e) lt) (h.1 ∙ ap (λ (z : List ℕ). z ++ take used input) come.0)
        | inr le ↦ rw (le-ltb used (content_length e) le) (k.lent le)
      ]

      item_meets : (at used : ℕ) (e : CellEvent) (x : Emitted CellEvent CellPlace) → is_done old ≡ false → said ≡ Got x (length b + used) → x.at ≡ at → x.event ≡ e → x.after (length b + used) ≡ place nodes new → is_under_way new ≡ true
          → new.arrived ≡ arrived.Nothing → q.under_way ≡ false → Keeps p input used e q → Conforms nodes new → new.rules ≡ old.rules → q.room ≡ p.room → Meets old.rules p.room outcome (FieldOutline at used e) new q
      item_meets at used e x more is begins event after going fresh idle keeps s rules room =
          rw (decided_item here b input p.content here.symbols said x used (some_left more) is)
          (record {
            answer = λ i. FieldOutline (sym begins i) used (sym event i);
            under_way = going;
            place = sym after;
            come = rw fresh refl;
            field = idle;
            bytes = rw idle refl;
            buffer = kept_is used e keeps ∙ ap (λ (z : CellEvent). left_by (content_length z) used (field_bytes (first_kind here.symbols) b) input) (sym event);
            conforms = s;
            rules = rules;
            room = room;
          })

      -- ---- advance

      advance_meets : (a : CellAdvance) → Moves nodes old p input a new q → Answers old input a → Empties a q → Meets old.rules p.room outcome (advance_answer input q.content a) new q
      advance_meets (advance.More used) m a empty =
          let w = m b come in
          let same = w.0.same in
          more_meets used w.0.all (is_not_done old a.1) (sym (answer_is nodes old (b ++ input)) ∙ w.0.is) (ap is_under_way same ∙ under_way) (ap (place nodes) same) w.1 w.0.under_way w.0.joined w.0.kept (rw same (conforms_under nodes old new.arrived conforms)) (ap (λ (d : CellState). d.rules) same) w.0.longest
      advance_meets (advance.Item at used i) m a empty =
          let h = m b come in
          item_meets at used (event_at i input q.content) h.emits.x (is_not_done old a.1) (sym (answer_is nodes old (b ++ input)) ∙ h.emits.is) h.emits.offset h.emits.event h.emits.after h.goes_on h.fresh h.idle (keeps nodes p q input used i h.can_lend h.lent h.kept empty) h.conforms h.rules h.longest
      advance_meets advance.Done m a empty =
          let idle : p.under_way ≡ false = rw m.1 at joined.under_way in
          done_meets (is_over_done old under_way m.0) m.2 (rw m.3 idle) (ap (λ (z : FieldState). z.content) m.3) (ap (λ (z : FieldState). z.room) m.3)
      advance_meets (advance.Refused r) m a empty =
          let f = m b come in
          bad_meets r (is_not_done old a) (sym (answer_is nodes old (b ++ input)) ∙ f.is) f.ends f.idle (empty refl) f.longest

      -- ---- push

      module _ (start : CellPlace) (s : List ℕ) (es : List (ℕ × CellEvent)) (run : Runs (cell_step old.rules) start s es here b) where
        abbrev after : After nodes start old p s es
        after = record { pending = b; runs = run; come = come }

        push_meets : (x : CellPush) → Uses old input x → Continues nodes old x new → Pushes nodes old p input x new q → Meets old.rules p.room outcome (push_answer x) new q
        push_meets (push.More used) u k h =
            let g = h.leads start s es after in
            let ran : Runs (cell_step old.rules) start (s ++ input) es (place nodes new) g.0.pending = rw k.1 at g.0.runs in
            let same = run_same (cell_step old.rules) start here (place nodes new) (s ++ input) (b ++ input) g.0.pending es (runs_stay (cell_step old.rules) start s input es here b run) ran in
            let is : says (cell_step old.rules (place nodes new)) 0 g.0.pending ≡ reader.More = rw k.1 at g.1 in
            more_meets used u.0 u.1 ((λ i. says (cell_step old.rules (sym same.0 i)) 0 (sym same.1 i)) ∙ is) k.0 same.0 (rw same.1 at g.0.come) h.serves.1 h.serves.0 h.serves.2 k.2 k.1 h.longest
        push_meets (push.Item at used e) u k h =
            let g = h.leads start s es after in
            let fresh = h.serves.1 in
            let none : g.pending ≡ [] = rw fresh at g.come in
            let t = take used input in
            let long : length t ≡ used = length-take-le used input u.0 in
            let ran : Runs (cell_step old.rules) start (s ++ t) (es ++ (at, event_of e) ∷ []) (place nodes new) [] = rw (k.1, none) at g.runs in
            let one = run_next (cell_step old.rules) start here (place nodes new) (s ++ t) (b ++ t) [] es (at, event_of e) (runs_stay (cell_step old.rules) start s t es here b run) ran in
            let x : Emitted CellEvent CellPlace = record { at = at; event = event_of e; after = one.1 } in
            let stays = stays_got x one.0 (says_stays (cell_step old.rules here) 0 (b ++ t) (drop used input)) one.2 in
            let all : (b ++ t) ++ drop used input ≡ b ++ input = append_assoc b t (drop used input) ∙ ap (λ (z : List ℕ). b ++ z) (take-append-drop used input) in
            let whole : one.0 ≡ length b + used = omega (arith, stays.1, ap length one.3.1, length-drop one.0 (b ++ t), length-append b t, long) in
            item_meets at used (event_of e) x u.1 (rw (all, whole) at stays.0) refl refl (rw whole at (sym one.3.0)) k.0 fresh (rw fresh at h.serves.0.under_way) h.serves.2 k.2 k.1 h.longest
        push_meets push.Done u k h = done_meets u k h.serves.1 (ap (λ (z : FieldState). z.content) h.serves.0) h.longest
        push_meets (push.Refused r) u k h =
            let g = h.leads start s es after in
            let same = run_same (cell_step old.rules) start here here (s ++ input) (b ++ input) g.0 es (runs_stay (cell_step old.rules) start s input es here b run) g.1 in
            bad_meets r u (ap (λ (z : List ℕ). says (cell_step old.rules here) 0 z) (sym same.1) ∙ g.2) k h.serves.0 h.serves.1 h.longest

  -- ---- two calls

  moved_to : (l l' : Rules) (n n' : ℕ) (at at' : CellPlace) (b b' held held' input : List ℕ) (x : Answer) (new : CellState) (q : FieldState) → l ≡ l' → n ≡ n' → at ≡ at' → b ≡ b' → held ≡ held' → Meets l n (decided l at b input held) x new q → Meets l' n' (decided l' at' b' input held') x new q
  moved_to l l' n n' at at' b b' held held' input x new q el en ea eb eh m = rw (← el, ← en, ← ea, ← eb, ← eh) m

  -- after the same bytes and events, two readers are at the same place, and the same bytes have come
  alike_place : {X : Type 0} (start : CellPlace) (s : List ℕ) (es : List (ℕ × CellEvent)) (c d : Call X) (a : AreAlike nodes start s es c d) → (place nodes d.reader ≡ place nodes c.reader) × (a.that.pending ≡ a.this.pending)
  alike_place start s es c d a =
      run_same (cell_step c.reader.rules) start (place nodes c.reader) (place nodes d.reader) s a.this.pending a.that.pending es a.this.runs (rw (sym a.rules) at a.that.runs)

pub one_push : (nodes : List Node) (start : CellPlace) (s : List ℕ) (es : List (ℕ × CellEvent)) (input : List ℕ) (c d : Call CellPush)
    → AreAlike nodes start s es c d → IsPush nodes input c → IsPush nodes input d → (push_answer c.answer ≡ push_answer d.answer) × LeaveAlike nodes c d
one_push nodes start s es input c d a m n =
    let same = alike_place nodes start s es c d a in
    let this = push_meets nodes c.reader c.partial m.0.under_way m.0.conforms m.0.joined a.this.pending input a.this.come c.reader' c.partial' start s es a.this.runs c.answer m.1 m.2 m.3 in
    let that = push_meets nodes d.reader d.partial n.0.under_way n.0.conforms n.0.joined a.that.pending input a.that.come d.reader' d.partial' start s es a.that.runs d.answer n.1 n.2 n.3 in
    both_meet nodes c.reader.rules c.partial.room _ _ _ c d this (moved_to nodes _ _ _ _ _ _ _ _ _ _ input (push_answer d.answer) d.reader' d.partial' (sym a.rules) (sym a.room) same.0 same.1 (sym a.buffer) that)

pub one_advance : (nodes : List Node) (start : CellPlace) (s : List ℕ) (es : List (ℕ × CellEvent)) (input : List ℕ) (c d : Call CellAdvance)
    → AreAlike nodes start s es c d → IsAdvance nodes input c → IsAdvance nodes input d → (advance_answer input c.partial'.content c.answer ≡ advance_answer input d.partial'.content d.answer) × LeaveAlike nodes c d
one_advance nodes start s es input c d a m n =
    let same = alike_place nodes start s es c d a in
    let this = advance_meets nodes c.reader c.partial m.0.under_way m.0.conforms m.0.joined a.this.pending input a.this.come c.reader' c.partial' c.answer m.1 m.2 m.3 in
    let that = advance_meets nodes d.reader d.partial n.0.under_way n.0.conforms n.0.joined a.that.pending input a.that.come d.reader' d.partial' d.answer n.1 n.2 n.3 in
    both_meet nodes c.reader.rules c.partial.room _ _ _ c d this (moved_to nodes _ _ _ _ _ _ _ _ _ _ input (advance_answer input d.partial'.content d.answer) d.reader' d.partial' (sym a.rules) (sym a.room) same.0 same.1 (sym a.buffer) that)
