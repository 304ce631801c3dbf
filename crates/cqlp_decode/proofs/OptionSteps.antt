-- One step of a type option.
use Rattle.std.proofs.Common.{◌≡◌, ℕ, ◌+◌, ◌-◌, ◌<◌, ◌≤◌, false, ltb, leb, List, [], ◌∷◌, ◌++◌, length, take, refl, sym, ap, subst, ◌∙◌, inl, inr, arith}
use Rattle.std.specs.Prelude.{Option, Some, None}
use Rattle.std.specs.Int.{w16, from_be_bytes}
use Rattle.std.proofs.lemmas.Bool.{cases_lt}
use Rattle.cqlp_note.specs.declared.refusal.Reason.{Reason}
use Rattle.cqlp_note.specs.declared.refusal.Reason.TheVariants.{Overrun}
use Rattle.cqlp_note.specs.Reader.{Bad, Got, Gives as GivesNow, Refuses, Takes, Idles, says, number_of}
use Rattle.cqlp_note.specs.Field.{FieldValue, FieldReader, field_of}
use Rattle.cqlp_note.specs.declared.field.Notation.TheVariants as notation
use Rattle.cqlp_note.specs.declared.field.Field.TheVariants as field
use Rattle.cqlp_note.specs.Step.{Emitted, Step, Emit, after_field}
use Rattle.cqlp_note.specs.Limits.{Rules, rules_asked}
use Rattle.cqlp_note.specs.Heading.{beside_number}
use Rattle.cqlp_note.specs.Partial.{FieldState}
use Rattle.cqlp_note.proofs.Readers.{Always, says_always}
use Rattle.cqlp_note.proofs.Fields.{either_always}
use Rattle.cqlp_note.proofs.Yields.{map_said, says_map}
use Rattle.cqlp_kind.specs.declared.kind.Kind.{Kind}
use Rattle.cqlp_type.specs.declared.advance.TypeOutline.{TypeOutline}
use Rattle.cqlp_kind.specs.Types.{kinds}
use Rattle.cqlp_type.specs.Pushing.{ReadsInto}
use Rattle.cqlp_kind.specs.TypeStep.{TypeSymbol, TypeEvent, IsNode, IsField, TypePlace, Option_at, Text_of, Fields_of, Whole, kind_or_lenient, option_step, type_step_at, type_step, type_place, settled, symbol_copies, inner_symbols, with_arity, count_in}
use Rattle.cqlp_type.specs.Table.{Table}
use Rattle.cqlp_type.specs.Progress as type
use Rattle.cqlp_type.specs.Progress.{place_of, pending}
use Rattle.cqlp_type.specs.Remaining as part
use Rattle.cqlp_grammar.specs.Productions.{Symbol, In_type}
use Rattle.cqlp_decode.specs.declared.progress.StreamStage.TheVariants as stage
use Rattle.cqlp_decode.specs.declared.progress.StreamProgress.{StreamProgress}
use Rattle.cqlp_decode.specs.declared.advance.EventAdvance.TheVariants as advance
use Rattle.cqlp_decode.specs.declared.advance.EventOutline.TheVariants as what
use Rattle.cqlp_decode.specs.Reading.{Place, type_event, types_left, place_of_types}
use Rattle.cqlp_decode.specs.Pages.{given_of}
use Rattle.cqlp_decode.specs.Progress.{IsPending, PartsState, parts, state_of, place_at, offset_at, symbols_at, rest_of, said, Gives, Waits, Moves, IsLent, IsHeld, due_after, frame_after, ends_due, HasRoom, IsOption, OptionWaits, OptionRuns, IsConsistent, StageHolds, TableHolds}
use Rattle.cqlp_decode.specs.declared.progress.StreamStage.{StreamStage}
use Rattle.cqlp_decode.proofs.Steps.{starts_bare, begun_bare, one_due_bare, offset_is_bare}
use Rattle.cqlp_decode.proofs.FieldSteps.{used_some, goes_on_lawful}
use Rattle.cqlp_type.proofs.Pushes.{option_begun, option_waited, option_handed, option_over}
use Rattle.cqlp_type.specs.Forests.{Forest}
use Rattle.cqlp_cell.specs.Progress.{is_under_way}
use Rattle.cqlp_type.proofs.Columns.{forest_more}

-- ---- the table that an option is read into

pub option_reads : (l : Rules) (q : PartsState) → OptionRuns l q → ReadsInto q.types q.partial q.table
option_reads l q r = record {
  start = r.begun;
  first = r.first;
  before = record { types = r.before.types; formed = r.before.formed; are = r.before.are };
  bytes = r.bytes;
  items = r.items;
  after = r.runs;
}

-- ---- the place after a step is as far on as it takes bytes

abbrev IsForward : (offset : ℕ) → Emitted TypeEvent TypePlace → List ℕ → Type 0
IsForward offset x b = (u : ℕ) → (x.after u).offset ≡ offset + u

field_forward : (offset at : ℕ) (r : FieldReader) (next : FieldValue → Step TypeEvent TypePlace) (before : List ℕ) → ((v : FieldValue) (b : List ℕ) → Always (IsForward offset) (next v) b) → Always (IsForward offset) (after_field at r next) before
field_forward offset at (GivesNow v) next before f = f v before
field_forward offset at (Refuses why) next before f = tt
field_forward offset at Idles next before f = tt
field_forward offset at (Takes n g) next before f = λ c long. field_forward offset at (g c) next (before ++ c) f

option_forward : (l : Rules) (depth : ℕ) (rest : List TypeSymbol) (p : TypePlace) (o : Option Kind) (b : List ℕ) → Always (IsForward p.offset) (option_step l depth rest p o) b
option_forward l depth rest p None b = tt
option_forward l depth rest p (Some k) b =
    either_always (IsForward p.offset) b (ltb l.depth depth) _ _ (λ _. tt) (λ _.
    either_always (IsForward p.offset) b (leb l.entries (length p.nodes)) _ _ (λ _. tt) (λ _ u. refl))

step_forward : (l : Rules) (p : TypePlace) (ss : List TypeSymbol) → Always (IsForward p.offset) (type_step_at l p ss) []
unfolding number_of
step_forward l p [] = tt
step_forward l p (Option_at depth ∷ rest) =
    let next : List ℕ → Step TypeEvent TypePlace = λ b. option_step l depth rest p (kind_or_lenient (beside_number (from_be_bytes w16 b) kinds) l.lenient) in
    either_always (IsForward p.offset) [] (ltb (p.stop - p.offset) 2) (Refuses (p.offset, Overrun)) (Takes 2 next) (λ _. tt) (λ _ c long. option_forward l depth rest p (kind_or_lenient (beside_number (from_be_bytes w16 c) kinds) l.lenient) c)
step_forward l p (Text_of f ∷ rest) =
    let next : FieldValue → Step TypeEvent TypePlace = λ v. Emit p.offset (IsField f v) (type_place p (settled rest p.nodes)) in
    field_forward p.offset p.offset (field_of notation.Text16 l.text (p.stop - p.offset)) next [] (λ v b u. refl)
step_forward l p (Fields_of named depth ∷ rest) =
    let next : FieldValue → Step TypeEvent TypePlace = λ v. Emit p.offset (IsField field.Fields v) (type_place p (settled (symbol_copies (count_in v) (inner_symbols named depth) ++ rest) (with_arity (count_in v) p.nodes))) in
    field_forward p.offset p.offset (field_of notation.Count16 0 (p.stop - p.offset)) next [] (λ v b u. refl)
step_forward l p (Whole i ∷ rest) = tt

goes_forward : (l : Rules) (p : TypePlace) (bytes : List ℕ) (x : Emitted TypeEvent TypePlace) (k : ℕ) → says (type_step l p) 0 bytes ≡ Got x k → (x.after k).offset ≡ p.offset + k
goes_forward l p bytes x k s = (says_always (IsForward p.offset) (type_step l p) [] bytes x k (step_forward l p p.symbols) s).1 k

-- ---- one step

-- what is left of an option is still read
left_some : (ss : List TypeSymbol) (rest : List Symbol) → (ss ≡ [] → ⊥) → types_left ss ++ rest ≡ In_type ss ∷ rest
left_some [] rest some = absurd (some refl)
left_some (s ∷ ss) rest some = refl

-- an event of an option is no end
no_end : (e : TypeEvent) → due_after (type_event e) ≡ 1
no_end (IsNode k) = refl
no_end (IsField f v) = refl

same_frame : (frame at : ℕ) (e : TypeEvent) → frame_after frame at (type_event e) ≡ frame
same_frame frame at (IsNode k) = refl
same_frame frame at (IsField f v) = refl

is_lent : (e : TypeEvent) (used : ℕ) (content : List ℕ) → (type.text_length e ≤ used → content ≡ []) → IsLent (type_event e) used content
is_lent (IsNode k) used content h = tt
is_lent (IsField f v) used content h = h

is_kept : (e : TypeEvent) (used : ℕ) (content : List ℕ) → (used < type.text_length e → content ≡ type.text_bytes e) → IsHeld (type_event e) used content
is_kept (IsNode k) used content h = λ _. tt
is_kept (IsField f v) used content h = h

module _ (s : StreamProgress) (q : PartsState) (here : s.stage ≡ stage.InType) (o : IsOption s q.partial q.types) (rules : q.types.rules ≡ rules_asked s.limits) where
  abbrev rest : List Symbol
  rest = rest_of s.upcoming

  abbrev conforms : Place
  conforms = place_at q.types.offset s.stop (In_type q.types.symbols ∷ rest) q.table.nodes (given_of s.given_use q.given)

  answer_is : (bytes : List ℕ) → said (state_of s q) bytes ≡ map_said type_event (place_of_types conforms rest) (type.step_says q.types q.table.nodes bytes)
  answer_is bytes = rw (here, ← rules, ← o.stop) (says_map type_event (place_of_types (place_at q.types.offset q.types.stop (In_type q.types.symbols ∷ rest) q.table.nodes (given_of s.given_use q.given)) rest) (type_step q.types.rules (place_of q.types q.table.nodes)) 0 bytes)

  pending_is : (b : List ℕ) → IsPending (state_of s q).pending b → b ≡ pending q.types q.partial
  pending_is b is = rw here at is

  pub option_waits : (input : List ℕ) (used : ℕ) (r' : type.TypeState) (p' : FieldState) (t' : Table) → type.Waits q.types q.partial q.table input used r' p' t' → Waits (state_of s q) input used (state_of s (parts p' r' q.cells t' q.given))
  option_waits input used r' p' t' m =
      let offset : r'.offset ≡ q.types.offset = ap (λ (z : type.TypeState). z.offset) m.reader in
      let symbols : r'.symbols ≡ q.types.symbols = ap (λ (z : type.TypeState). z.symbols) m.reader in
      record {
        all = m.all;
        place = rw (here, m.table) (λ j. place_at (offset j) s.stop (In_type (symbols j) ∷ rest) q.table.nodes (given_of s.given_use q.given));
        frame = refl;
        waits = λ b is. (rw (pending_is b is) (answer_is (pending q.types q.partial ++ input) ∙ ap (λ z. map_said type_event (place_of_types conforms rest) z) m.is), rw (here, pending_is b is) (sym m.pending));
      }

  pub option_fails : (input : List ℕ) (at : ℕ) (why : Reason) → type.step_says q.types q.table.nodes (pending q.types q.partial ++ input) ≡ Bad (at, why) → (b : List ℕ) → IsPending (state_of s q).pending b → said (state_of s q) (b ++ input) ≡ Bad (at, why)
  option_fails input at why m b is = rw (pending_is b is) (answer_is (pending q.types q.partial ++ input) ∙ ap (λ z. map_said type_event (place_of_types conforms rest) z) m)

  module _ (input : List ℕ) (at used : ℕ) (x : TypeOutline) (r' : type.TypeState) (p' : FieldState) (t' : Table) (m : type.Ends q.types q.partial q.table input at used x r' p' t') (waits : OptionWaits q) where
    abbrev bytes : List ℕ
    bytes = pending q.types q.partial ++ input

    abbrev taken : ℕ
    taken = length (pending q.types q.partial) + used

    some : 0 < used
    some = elim (cases_lt 0 (length (pending q.types q.partial))) [
      | inl lt ↦ used_some (type_step q.types.rules (place_of q.types q.table.nodes)) (pending q.types q.partial) input m.step used (waits lt) m.is
      | inr le ↦
          let on : r'.offset ≡ q.types.offset + taken = sym (ap (λ (z : TypePlace). z.offset) m.after) ∙ goes_forward q.types.rules (place_of q.types q.table.nodes) bytes m.step taken m.is in
          omega (arith, on, m.forward)
    ]

    pub option_on : r'.offset ≡ q.types.offset + taken
    option_on = sym (ap (λ (z : TypePlace). z.offset) m.after) ∙ goes_forward q.types.rules (place_of q.types q.table.nodes) bytes m.step taken m.is

    option_gives : Gives (state_of s q) bytes at (type_event (part.event_at x input p'.content)) taken (place_of_types conforms rest (place_of r' t'.nodes))
    option_gives = (
      record { at = m.step.at; event = type_event m.step.event; after = λ u. place_of_types conforms rest (m.step.after u) },
      answer_is bytes ∙ ap (λ z. map_said type_event (place_of_types conforms rest) z) m.is,
      m.place,
      ap type_event m.event,
      ap (λ (z : TypePlace). place_of_types conforms rest z) m.after,
    )

    -- the place that the decoder is at then
    module _ (e : StreamProgress) (q' : PartsState) (content : q'.partial.content ≡ p'.content) (nodes : q'.table.nodes ≡ t'.nodes) (offset : offset_at e.stage e.offset q' ≡ r'.offset) (stop : e.stop ≡ s.stop) (frame : e.frame ≡ s.frame)
        (symbols : symbols_at e.stage q' e.upcoming ≡ types_left r'.symbols ++ rest) (fresh : IsPending (state_of e q').pending []) (one : ends_due (symbols_at e.stage q' e.upcoming) ≡ 1) (cells : q'.cells ≡ q.cells) (given : given_of e.given_use q'.given ≡ given_of s.given_use q.given) where
      pub option_hands : Moves (state_of s q) input (advance.Event at used (what.Option x)) (state_of e q')
      option_hands = (
        rw content m.can_lend,
        record {
          within = m.within;
          begun = fresh;
          frame = frame ∙ sym (same_frame s.frame at (part.event_at x input q'.partial.content));
          lent = is_lent (part.event_at x input q'.partial.content) used q'.partial.content (rw content m.lent);
          kept = is_kept (part.event_at x input q'.partial.content) used q'.partial.content (rw content m.held);
          gives = λ b is.
              let g = option_gives in
              let stopped : r'.stop ≡ s.stop = ap (λ (z : type.TypeState). z.stop) m.reader ∙ o.stop in
              rw (pending_is b is) (g.0, g.1, g.2, g.3 ∙ ap (λ (z : List ℕ). type_event (part.event_at x input z)) (sym content), g.4 ∙ (λ j. place_at (sym offset j) ((stopped ∙ sym stop) j) (sym symbols j) (sym nodes j) (sym given j)));
          gifts = refl;
          offset = λ b is. rw (pending_is b is, offset, here) option_on;
          due = one ∙ sym (no_end (part.event_at x input q'.partial.content));
          pays = rw (here, one, cells) (omega (arith, some));
        },
      )

    -- the reader of the option, after a part of it
    began : r'.begun ≡ false
    began = ap (λ (z : type.TypeState). z.begun) m.reader

    none_pending : pending r' p' ≡ []
    none_pending = rw began refl

    -- the option goes on
    pub still_hands : (r'.symbols ≡ [] → ⊥) → Moves (state_of s q) input (advance.Event at used (what.Option x)) (state_of s (parts p' r' q.cells t' q.given))
    still_hands more = option_hands s (parts p' r' q.cells t' q.given) refl refl (rw here refl) refl refl (rw here (sym (left_some r'.symbols rest more))) (rw (here, none_pending) refl) (rw here refl) refl refl

    -- the option is whole
    module _ (whole : r'.symbols ≡ []) (e : StreamProgress) (r'' : type.TypeState) (offset : e.offset ≡ r'.offset) (stop : e.stop ≡ s.stop) (frame : e.frame ≡ s.frame) (came : e.came ≡ 0) (symbols : (z : PartsState) → symbols_at e.stage z e.upcoming ≡ rest)
        (room : HasRoom e.stage e.upcoming) (same_use : e.given_use ≡ s.given_use) where
      pub ended_hands : Moves (state_of s q) input (advance.Event at used (what.Option x)) (state_of e (parts p' r'' q.cells t' q.given))
      ended_hands =
          let z : PartsState = parts p' r'' q.cells t' q.given in
          option_hands e z refl refl (offset_is_bare e.stage e.offset z e.upcoming room ∙ offset) stop frame (rw whole (symbols z)) (begun_bare e.stage e.upcoming e.header e.came z room came (m.shared.same ∙ began)) (one_due_bare e.stage z e.upcoming room) refl (λ j. given_of (same_use j) q.given)

  -- ---- what holds of the decoder then

  stage_there : (z : PartsState) → StageHolds s z stage.InType → StageHolds s z s.stage
  stage_there z h = subst (λ (t : StreamStage). StageHolds s z t) (sym here) h

  table_there : (z : PartsState) → OptionRuns (rules_asked s.limits) z → TableHolds (rules_asked s.limits) z s.stage
  table_there z h = subst (λ (t : StreamStage). TableHolds (rules_asked s.limits) z t) (sym here) h

  module _ (law : IsConsistent s q) (unrefused : s.refusal ≡ None) where
    run : OptionRuns (rules_asked s.limits) q
    run = rw here at (law.table unrefused)

    idle_cells : is_under_way q.cells ≡ false
    idle_cells = let stage = rw here at law.stage in stage.2

    pub option_more_lawful : (input : List ℕ) (used : ℕ) (r' : type.TypeState) (p' : FieldState) (t' : Table) → type.Waits q.types q.partial q.table input used r' p' t' → IsConsistent s (parts p' r' q.cells t' q.given)
    option_more_lawful input used r' p' t' m =
        let z : PartsState = parts p' r' q.cells t' q.given in
        let same = m.reader in
        let rules : r'.rules ≡ q.types.rules = ap (λ (x : type.TypeState). x.rules) same in
        let place : place_of r' t'.nodes ≡ place_of q.types q.table.nodes = rw (same, m.table) refl in
        record {
          bounded = law.bounded;
          parts = record { room = m.room ∙ law.parts.room; rules = rules ∙ law.parts.rules; cells = law.parts.cells; table = rw m.table law.parts.table; few = law.parts.few };
          stage = stage_there z (
            record {
              under_way = ap (λ (x : type.TypeState). x.under_way) same ∙ o.under_way;
              some = λ none. o.some (sym (ap (λ (x : type.TypeState). x.symbols) same) ∙ none);
              shared = m.shared;
              stop = ap (λ (x : type.TypeState). x.stop) same ∙ o.stop;
              after = omega (arith, o.after, ap (λ (x : type.TypeState). x.offset) same);
              inside = omega (arith, o.inside, ap (λ (x : type.TypeState). x.offset) same);
              came = o.came;
            },
            λ some. (λ i. says (type_step (rules i) (place i)) 0 (m.pending i)) ∙ m.is,
            idle_cells,
          );
          quiet = record { types = λ idle. let busy = ap (λ (x : type.TypeState). x.under_way) same ∙ o.under_way in cc; cells = law.quiet.cells };
          table = λ none. table_there z (record { begun = run.begun; first = run.first; before = run.before; bytes = run.bytes ++ input; items = run.items; runs = option_waited q.types q.partial q.table input r' p' t' used m run.begun run.bytes run.items run.runs });
          given = law.given;
          uses = law.uses;
        }

    module _ (input : List ℕ) (at used : ℕ) (x : TypeOutline) (r' : type.TypeState) (p' : FieldState) (t' : Table) (m : type.Ends q.types q.partial q.table input at used x r' p' t') (inside : r'.offset ≤ s.stop) where
      pub option_still_lawful : (r'.symbols ≡ [] → ⊥) → IsConsistent s (parts p' r' q.cells t' q.given)
      option_still_lawful some =
          let z : PartsState = parts p' r' q.cells t' q.given in
          let same = m.reader in
          let begun : r'.begun ≡ false = ap (λ (y : type.TypeState). y.begun) same in
          record {
            bounded = law.bounded;
            parts = record { room = m.room ∙ law.parts.room; rules = ap (λ (y : type.TypeState). y.rules) same ∙ law.parts.rules; cells = law.parts.cells; table = m.table ∙ law.parts.table; few = law.parts.few };
            stage = stage_there z (
              record { under_way = ap (λ (y : type.TypeState). y.under_way) same; some = some; shared = m.shared; stop = ap (λ (y : type.TypeState). y.stop) same ∙ o.stop; after = omega (arith, o.after, m.forward); inside = inside; came = o.came },
              λ long. let none : length (pending r' p') ≡ 0 = rw begun refl in absurd (omega arith),
              idle_cells,
            );
            quiet = record { types = λ idle. let busy = ap (λ (y : type.TypeState). y.under_way) same in cc; cells = law.quiet.cells };
            table = λ none. table_there z (record {
              begun = run.begun;
              first = run.first;
              before = run.before;
              bytes = run.bytes ++ take used input;
              items = run.items ++ (at, part.event_at x input p'.content) ∷ [];
              runs = option_handed q.types q.partial q.table input r' p' t' at used x m run.begun run.bytes run.items run.runs;
            });
            given = law.given;
            uses = law.uses;
          }

      pub option_ended_lawful : r'.symbols ≡ [] → (e : StreamProgress) (r'' : type.TypeState) → r'' ≡ type.stopped r' → e.offset ≡ r'.offset → e.stop ≡ s.stop → e.limits ≡ s.limits → e.header ≡ s.header → e.came ≡ s.came → HasRoom e.stage e.upcoming → IsConsistent e (parts p' r'' q.cells t' q.given)
      option_ended_lawful whole e r'' over offset stop limits header came room =
          let same = m.reader in
          let rules : r'.rules ≡ rules_asked s.limits = ap (λ (y : type.TypeState). y.rules) same ∙ law.parts.rules in
          let begun : r'.begun ≡ false = ap (λ (y : type.TypeState). y.begun) same in
          let is = option_over run.begun 1 r' p' t' (run.bytes ++ take used input) (run.items ++ (at, part.event_at x input p'.content) ∷ []) run.first (option_handed q.types q.partial q.table input r' p' t' at used x m run.begun run.bytes run.items run.runs) whole begun in
          let forest : Forest t'.nodes 0 s.limits.depth = forest_more (rules_asked s.limits) run.begun.offset run.begun.nodes (run.bytes ++ take used input) (run.items ++ (at, part.event_at x input p'.content) ∷ []) t'.nodes run.before (rw rules at is) in
          goes_on_lawful s e q p' r'' q.cells t' (r'.offset - s.offset) law (omega (arith, offset, o.after, m.forward)) (omega (arith, inside, o.after, m.forward)) stop limits header (came ∙ o.came)
          m.room (m.shared.same ∙ begun) (rw over (ap (λ (y : type.TypeState). y.rules) same)) (rw over refl) refl idle_cells m.table forest (starts_bare e (parts p' r'' q.cells t' q.given) e.stage room) (record { types = λ idle. rw over refl; cells = law.quiet.cells })

-- ---- an option begins

module _ (s : StreamProgress) (q : PartsState) (here : s.stage ≡ stage.BeforeType) where
  pub option_begun_same : state_of (record s { stage = stage.InType }) (parts q.partial (type.started q.types s.offset s.stop) q.cells q.table q.given) ≡ state_of s q
  option_begun_same = rw here refl

  pub option_begun_lawful : IsConsistent s q → s.refusal ≡ None → IsConsistent (record s { stage = stage.InType }) (parts q.partial (type.started q.types s.offset s.stop) q.cells q.table q.given)
  option_begun_lawful law unrefused =
      let idle = rw here at law.stage in
      let forest : Forest q.table.nodes 0 s.limits.depth = rw here at (law.table unrefused) in
      record {
        bounded = record { long = law.bounded.long; inside = law.bounded.inside; size = law.bounded.size; bound = law.bounded.bound };
        parts = record { room = law.parts.room; rules = law.parts.rules; cells = law.parts.cells; table = law.parts.table; few = law.parts.few };
        stage = (
          record {
            under_way = refl;
            some = λ none. cc;
            shared = record { room = rw (law.parts.rules, law.parts.room) (omega arith); same = idle.0.field; item = λ begun. absurd cc; taken = λ begun. absurd cc };
            stop = refl;
            after = omega arith;
            inside = law.bounded.inside;
            came = idle.1;
          },
          λ long. absurd (omega arith),
          idle.0.cells,
        );
        quiet = record { types = λ idle. cc; cells = law.quiet.cells };
        table = λ none. record {
          begun = record { offset = s.offset; stop = s.stop; symbols = Option_at 1 ∷ []; nodes = q.table.nodes };
          first = refl;
          before = forest;
          bytes = [];
          items = [];
          runs = option_begun q.types q.partial q.table s.offset s.stop;
        };
        given = law.given;
        uses = tt;
      }
