-- One step of a field.
use Rattle.std.proofs.Common.{◌≡◌, ℕ, ◌+◌, ◌-◌, ◌<◌, ◌≤◌, List, [], ◌∷◌, ◌++◌, length, take, drop, refl, sym, ap, ◌∙◌, inl, inr, arith, length-append}
use Rattle.std.specs.Prelude.{Option, Some, None, Bool, false}
use Rattle.std.proofs.lemmas.Bool.{cases_lt, lt-ltb, le-ltb}
use Rattle.std.proofs.lemmas.List.{append-nil}
use Rattle.cqlp_note.specs.declared.refusal.Reason.{Reason}
use Rattle.cqlp_note.specs.declared.field.Notation.{Notation}
use Rattle.cqlp_note.specs.declared.advance.FieldOutline.{FieldOutline}
use Rattle.cqlp_note.specs.Reader.{Said, Reader, More, Bad, Got, Gives as GivesNow, Refuses, Takes, Idles, says}
use Rattle.cqlp_note.specs.Field.{FieldValue, field_of}
use Rattle.cqlp_note.specs.Step.{Emitted, after_field}
use Rattle.cqlp_note.specs.Head.{reader_of, fixed_of, after_fixed}
use Rattle.cqlp_note.specs.Limits.{rules_asked, limit_of}
use Rattle.cqlp_note.specs.Partial.{FieldState, item_value, CanLend, Ends}
use Rattle.cqlp_note.specs.Partial as partial
use Rattle.cqlp_note.proofs.Yields.{after_more, after_bad, after_got, got_inside, says_exact}
use Rattle.cqlp_note.proofs.Fronts.{fixed_overruns, fixed_wanting, fixed_taken}
use Rattle.cqlp_kind.specs.Types.{Types}
use Rattle.cqlp_type.specs.Table.{Table}
use Rattle.cqlp_type.specs.Progress as type
use Rattle.cqlp_kind.specs.declared.node.Node.{Node}
use Rattle.cqlp_cell.specs.Progress as value
use Rattle.cqlp_cell.specs.Progress.{is_under_way}
use Rattle.cqlp_type.specs.Forests.{Forest}
use Rattle.cqlp_type.proofs.Columns.{forest_none}
use Rattle.cqlp_grammar.specs.declared.grammar.Role.{Role}
use Rattle.cqlp_grammar.specs.declared.grammar.Role.TheVariants as role
use Rattle.cqlp_grammar.specs.Productions.{Symbol, following, fault_in}
use Rattle.cqlp_grammar.specs.declared.productions.Want.{Want}
use Rattle.cqlp_grammar.specs.declared.productions.Expected.TheVariants as due
use Rattle.cqlp_decode.specs.declared.progress.StreamStage.TheVariants as stage
use Rattle.cqlp_decode.specs.declared.progress.StreamProgress.{StreamProgress}
use Rattle.cqlp_decode.specs.declared.advance.EventAdvance.TheVariants as advance
use Rattle.cqlp_decode.specs.declared.advance.EventOutline.TheVariants as what
use Rattle.cqlp_grammar.specs.Upcoming.{wanted}
use Rattle.cqlp_decode.specs.Reading as reading
use Rattle.cqlp_decode.specs.Reading.{Given, Place, value_step, types_for, nodes_after, given_after}
use Rattle.cqlp_decode.specs.Pages.{given_of}
use Rattle.cqlp_decode.specs.Progress.{IsPending, PartsState, parts, state_of, place_at, offset_at, symbols_at, rest_of, came_of, said, Gives, Waits, Moves, IsAsked, IsWanted, IsBounded, IsQuiet, HasParts, IsConsistent, asked, Starts}
use Rattle.cqlp_decode.proofs.Steps.{begun, one_due, offset_is, fresh_stage, fresh_table, starts_uses}

-- ---- fields

-- a value takes the bytes before it, and more
got_from : {A F : Type 0} (r : Reader A F) (taken : ℕ) (bytes : List ℕ) (v : A) (k : ℕ) → says r taken bytes ≡ Got v k → taken ≤ k
got_from (GivesNow w) taken bytes v k g = let e : taken ≡ k = cc in omega arith
got_from (Refuses why) taken bytes v k g = absurd cc
got_from Idles taken bytes v k g = absurd cc
got_from (Takes n next) taken bytes v k g = elim (cases_lt (length bytes) n) [
  | inl lt ↦ let no : ◌≡◌ {A = Said _ _} More (Got v k) = rw (lt-ltb _ _ lt) at g in absurd cc
  | inr le ↦ omega (arith, got_from (next (take n bytes)) (taken + n) (drop n bytes) v k (rw (le-ltb _ _ le) at g))
]

module _ (n : Notation) (limit room : ℕ) (bytes : List ℕ) (v : FieldValue) (k : ℕ) (got : says (field_of n limit room) 0 bytes ≡ Got v k) where
  has_room : fixed_of n ≤ room
  has_room = elim (cases_lt room (fixed_of n)) [
    | inl lt ↦ let no : ◌≡◌ {A = Said FieldValue Reason} (Got v k) (Bad _) = sym got ∙ fixed_overruns n limit room bytes lt in absurd cc
    | inr le ↦ le
  ]

  has_fixed : fixed_of n ≤ length bytes
  has_fixed = elim (cases_lt (length bytes) (fixed_of n)) [
    | inl lt ↦ let no : ◌≡◌ {A = Said FieldValue Reason} (Got v k) More = sym got ∙ fixed_wanting n limit room bytes has_room lt in absurd cc
    | inr le ↦ le
  ]

  -- a field takes its fixed part
  pub fixed_got : fixed_of n ≤ k
  fixed_got = got_from (after_fixed n limit room (take (fixed_of n) bytes)) (fixed_of n) (drop (fixed_of n) bytes ++ []) v k (sym (rw (append-nil bytes) at (fixed_taken n limit room bytes has_room has_fixed [])) ∙ got)

-- bytes that were not enough are more with those that end the field
pub used_some : {A F : Type 0} (r : Reader A F) (seen input : List ℕ) (v : A) (used : ℕ) → says r 0 seen ≡ More → says r 0 (seen ++ input) ≡ Got v (length seen + used) → 0 < used
used_some r seen input v used more got = elim (cases_lt 0 used) [
  | inl lt ↦ lt
  | inr le ↦
      let none : used ≡ 0 = omega arith in
      let now : says r 0 seen ≡ Got v (length seen + 0) = rw (none, append-nil seen) at (says_exact r seen input v used got) in
      let no : ◌≡◌ {A = Said _ _} More (Got v (length seen + 0)) = sym more ∙ now in
      absurd cc
]

-- what is read of a field that is wanted
module _ (s : StreamProgress) (q : PartsState) (w : Want) (here : s.stage ≡ stage.Field w) (bytes : List ℕ) where
  abbrev rest : List Symbol
  rest = rest_of s.upcoming

  abbrev held : Given
  held = given_of s.given_use q.given

  abbrev types : Types
  types = types_for s.limits.types w.role q.table.nodes held

  abbrev next_step : FieldValue → Reader (Emitted reading.Event Place) (ℕ × Reason)
  next_step v = value_step s.limits.types (place_at s.offset s.stop (wanted (due.Field w) ∷ rest) q.table.nodes held) w.field w.role rest v (fault_in w.role v)

  answer_is : said (state_of s q) bytes ≡ says (after_field s.offset (reader_of (asked s w)) next_step) 0 bytes
  answer_is = rw here refl

  field_waits : says (reader_of (asked s w)) 0 bytes ≡ More → said (state_of s q) bytes ≡ More
  field_waits m = answer_is ∙ after_more s.offset _ next_step 0 bytes m

  field_fails : (why : Reason) → says (reader_of (asked s w)) 0 bytes ≡ Bad why → said (state_of s q) bytes ≡ Bad (s.offset, why)
  field_fails why m = answer_is ∙ after_bad s.offset _ next_step 0 bytes why m

  field_faults : (v : FieldValue) (k : ℕ) (why : Reason) → says (reader_of (asked s w)) 0 bytes ≡ Got v k → fault_in w.role v ≡ Some why → said (state_of s q) bytes ≡ Bad (s.offset, why)
  field_faults v k why m fault = answer_is ∙ (after_got s.offset (reader_of (asked s w)) next_step 0 bytes v k m).1 ∙ rw fault refl

  abbrev behind_field : ℕ → FieldValue → Place
  behind_field k v = place_at (s.offset + k) s.stop (following types w.role v ++ rest) (nodes_after w.role q.table.nodes) (given_after w.role held)

  pub field_gives : (v : FieldValue) (k : ℕ) → says (reader_of (asked s w)) 0 bytes ≡ Got v k → fault_in w.role v ≡ None → Gives (state_of s q) bytes s.offset (reading.Holds w.field v) k (behind_field k v)
  field_gives v k m fine =
      let x : Emitted reading.Event Place = record { at = s.offset; event = reading.Holds w.field v; after = λ used. record { offset = s.offset + used; stop = s.stop; symbols = following types w.role v ++ rest; nodes = nodes_after w.role q.table.nodes; given = given_after w.role held; gifts = [] } } in
      (x, answer_is ∙ (after_got s.offset (reader_of (asked s w)) next_step 0 bytes v k m).1 ∙ rw fine refl, refl, refl, refl)

-- what a piece of input makes of a field that is wanted, and was begun
module _ (s : StreamProgress) (old p : FieldState) (r : type.TypeState) (d : value.CellState) (t : Table) (g : Option Table) (w : Want) (input : List ℕ) (here : s.stage ≡ stage.Field w) (a : IsAsked s old p w) where
  abbrev before : PartsState
  before = parts old r d t g

  pending_is : (b : List ℕ) → IsPending (state_of s before).pending b → b ≡ p.seen
  pending_is b is = let e : b ≡ came_of old = rw here at is in e ∙ sym a.seen

  pub piece_waits : (new : FieldState) (used : ℕ) → partial.Waits p input used new → Waits (state_of s before) input used (state_of s (parts new r d t g))
  piece_waits new used m = record {
    all = m.all;
    place = rw here refl;
    frame = refl;
    waits = λ b is.
        let seen : came_of new ≡ p.seen ++ input = rw m.under_way refl in
        (rw (pending_is b is) (field_waits s before w here (p.seen ++ input) (rw a.field at m.is)), rw (here, seen) (ap (λ (x : List ℕ). x ++ input) (pending_is b is)));
  }

  pub piece_fails : (why : Reason) → says (reader_of p.field) 0 (p.seen ++ input) ≡ Bad why → (b : List ℕ) → IsPending (state_of s before).pending b → said (state_of s before) (b ++ input) ≡ Bad (s.offset, why)
  piece_fails why m b is = rw (pending_is b is) (field_fails s before w here (p.seen ++ input) why (rw a.field at m))

  module _ (new : FieldState) (used : ℕ) (v : FieldValue) (m : Ends p input used v new) where
    pub piece_faults : (why : Reason) → fault_in w.role v ≡ Some why → (b : List ℕ) → IsPending (state_of s before).pending b → said (state_of s before) (b ++ input) ≡ Bad (s.offset, why)
    piece_faults why fault b is = rw (pending_is b is) (field_faults s before w here (p.seen ++ input) v (length p.seen + used) why (rw a.field at m.is) fault)

    pub piece_hands : (e : StreamProgress) (t' : Table) (i : FieldOutline) → v ≡ item_value i input new.content → CanLend i input new.content → fault_in w.role v ≡ None → IsWanted s old w
        → e.offset ≡ s.offset + (length p.seen + used) → e.stop ≡ s.stop → e.frame ≡ s.frame → e.came ≡ 0 → Starts e (parts new r d t' g) e.stage → t'.nodes ≡ nodes_after w.role t.nodes → given_of e.given_use g ≡ given_after w.role (given_of s.given_use g)
        → symbols_at e.stage (parts new r d t' g) e.upcoming ≡ following (types_for s.limits.types w.role t.nodes (given_of s.given_use g)) w.role v ++ rest_of s.upcoming
        → Moves (state_of s before) input (advance.Event s.offset used (what.Holds w.field i)) (state_of e (parts new r d t' g))
    piece_hands e t' i is there fine law at stop frame none start nodes given symbols =
        let q : PartsState = parts new r d t' g in
        let offset : offset_at e.stage e.offset q ≡ s.offset + (length p.seen + used) = offset_is e e.stage q start ∙ at in (
          there,
          record {
            within = m.within;
            begun = begun e e.stage e.header e.came q start none (ap (λ (z : FieldState). z.under_way) m.idle);
            frame = frame;
            lent = rw (← is) m.lent;
            kept = rw (← is) m.kept;
            gives = λ b pending.
                let x = field_gives s before w here (p.seen ++ input) v (length p.seen + used) (rw a.field at m.is) fine in
                rw (pending_is b pending, ← is) (x.0, x.1, x.2, x.3, x.4 ∙ (λ j. place_at (sym offset j) (sym stop j) (sym symbols j) (sym nodes j) (sym given j)));
            gifts = refl;
            offset = λ b pending. rw (pending_is b pending, offset, here) refl;
            due = one_due e e.stage q start;
            pays = rw (here, one_due e e.stage q start) (omega (arith, some));
          },
        )
      where
        some : 0 < used
        some = elim (cases_lt 0 (length (came_of old))) [
          | inl lt ↦ used_some (reader_of (asked s w)) p.seen input v used (rw a.seen (law.waits lt)) (rw a.field at m.is)
          | inr le ↦
              let fixed = fixed_got w.notation (limit_of (rules_asked s.limits) w.notation) (s.stop - s.offset) (p.seen ++ input) v (length p.seen + used) (rw a.field at m.is) in
              let none : length p.seen ≡ 0 = rw a.seen (omega arith) in
              omega (arith, fixed, law.read)
        ]

-- the same, where types do not matter
module _ (s : StreamProgress) (old p : FieldState) (w : Want) (input : List ℕ) (a : IsAsked s old p w) (new : FieldState) where
  pub piece_inside : (used : ℕ) (v : FieldValue) → Ends p input used v new → s.offset ≤ s.stop → s.offset + (length p.seen + used) ≤ s.stop
  piece_inside used v m inside =
      let r = got_inside w.notation (limit_of (rules_asked s.limits) w.notation) (s.stop - s.offset) (p.seen ++ input) v (length p.seen + used) (rw a.field at m.is) (omega (arith, m.within, length-append p.seen input)) in
      omega (arith, r)

-- ---- where a message goes on after a field

-- metadata begins with no types; else they stay
pub metadata_forest : (r : Role) (nodes : List Node) (depth : ℕ) → Forest nodes 0 depth → Forest (nodes_after r nodes) 0 depth
metadata_forest (role.MetaFlags rows) nodes depth f = forest_none depth
metadata_forest role.PreparedFlags nodes depth f = forest_none depth
metadata_forest r nodes depth f = f

-- what follows a field goes by the types before it
pub following_there : (r : Role) (v : FieldValue) (types : Bool) (held : Given) (nodes after : List Node) (rest : List Symbol) → after ≡ nodes_after r nodes
    → following (types_for types r after held) r v ++ rest ≡ following (types_for types r nodes held) r v ++ rest
following_there (role.PageRows flags columns) v types held nodes after rest e = rw e refl
following_there r v types held nodes after rest e = refl

module _ (s e : StreamProgress) (q : PartsState) (p : FieldState) (r : type.TypeState) (d : value.CellState) (t : Table) (n : ℕ) (law : IsConsistent s q) (offset : e.offset ≡ s.offset + n) (inside : s.offset + n ≤ s.stop) (stop : e.stop ≡ s.stop) (limits : e.limits ≡ s.limits) (header : e.header ≡ s.header) (came : e.came ≡ 0)
    (room : p.room ≡ q.partial.room) (idle : p.under_way ≡ false) (rules : r.rules ≡ q.types.rules) (types : r.under_way ≡ false) (cells : d.rules ≡ q.cells.rules) (idle_cells : is_under_way d ≡ false) (table : t.room ≡ q.table.room) (forest : Forest t.nodes 0 s.limits.depth) (starts : Starts e (parts p r d t q.given) e.stage) (quiet : IsQuiet (parts p r d t q.given)) where
  pub goes_on_lawful : IsConsistent e (parts p r d t q.given)
  goes_on_lawful =
      let z : PartsState = parts p r d t q.given in
      let bounded : IsBounded e = record { long = ap (λ (h : List ℕ). length h) header ∙ law.bounded.long; inside = omega (arith, law.bounded.inside); size = omega (arith, law.bounded.size); bound = omega (arith, law.bounded.bound) } in
      let parts : HasParts e z = rw limits (record { room = room ∙ law.parts.room; rules = rules ∙ law.parts.rules; cells = cells ∙ law.parts.cells; table = table ∙ law.parts.table; few = law.parts.few }) in
      record {
        bounded = bounded;
        parts = parts;
        stage = fresh_stage e z e.stage starts (record { field = idle; types = types; cells = idle_cells }) came;
        quiet = quiet;
        table = λ none. fresh_table e z e.stage starts (rw limits forest);
        given = rw limits law.given;
        uses = starts_uses e z e.stage starts;
      }
