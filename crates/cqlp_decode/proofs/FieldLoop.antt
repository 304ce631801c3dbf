-- The loop over headers, fields and ends of frames.
use Rattle.std.proofs.Common.{◌≡◌, ℕ, ◌+◌, ◌-◌, ◌^◌, ◌≤◌, List, [], ◌++◌, length, take, zero-add, refl, sym, ap, subst, ◌∙◌, arith}
use Rattle.std.specs.Prelude.{Bool, None, Ok, false}
use Rattle.cqlp_note.specs.declared.header.Header.{Header}
use Rattle.cqlp_note.specs.Heading.{heading}
use Rattle.cqlp_note.specs.Field.{FieldValue}
use Rattle.cqlp_note.specs.Limits.{limit_of, rules_asked}
use Rattle.cqlp_note.specs.Whole.{SaysField}
use Rattle.cqlp_note.proofs.Yields.{got_inside}
use Rattle.cqlp_grammar.specs.declared.grammar.Role.TheVariants as role
use Rattle.cqlp_grammar.specs.declared.productions.Want.{Want}
use Rattle.cqlp_grammar.specs.Upcoming.{room_after}
use Rattle.cqlp_type.specs.Table.{Table}
use Rattle.cqlp_type.specs.Forests.{Forest}
use Rattle.cqlp_grammar.specs.Productions.{Symbol, fault_in, following, message}
use Rattle.cqlp_kind.specs.declared.node.Node.{Node}
use Rattle.cqlp_grammar.specs.declared.grammar.Role.{Role}
use Rattle.cqlp_decode.specs.declared.progress.StreamStage.{StreamStage}
use Rattle.cqlp_decode.specs.declared.progress.StreamStage.TheVariants as stage
use Rattle.cqlp_decode.specs.declared.progress.StreamProgress.{StreamProgress}
use Rattle.cqlp_decode.specs.Reading as reading
use Rattle.cqlp_decode.specs.Reading.{Event, Gifts, Given, types_for, nodes_after, given_after}
use Rattle.cqlp_decode.specs.Pages.{given_of}
use Rattle.cqlp_decode.specs.Progress.{StreamState, PartsState, Gives, GoesOnAfter, Hands, HasRoom, Starts, IsConsistent, IsIdle, IsPending, StageHolds, came_of, parts, place_at, rest_of, state_of, symbols_at}
use Rattle.cqlp_decode.specs.Items.{TakesOne}
use Rattle.cqlp_decode.proofs.Steps.{begun, begun_bare, header_hands, offset_is, offset_is_bare, one_due, one_due_bare, starts_bare}
use Rattle.cqlp_decode.proofs.Within.{none_kept}
use Rattle.cqlp_decode.proofs.FieldSteps.{field_gives, fixed_got, following_there, goes_on_lawful, metadata_forest}

-- an event was taken
pub takes_one : (old new : StreamState) (input : List ℕ) (at used : ℕ) (e emitted : Event) → Hands old input at used e new → e ≡ emitted → new.refusal ≡ old.refusal → new.rules ≡ old.rules → new.given ≡ old.given → (Holds : ℕ → Event → Type 0) → Holds at emitted → TakesOne old input used Holds new
takes_one old new input at used e emitted hands is refusal rules given Holds holds = record {
  at = at;
  event = emitted;
  takes = (refusal, rules, given, subst (λ (z : Event). Hands old input at used z new) is hands);
  holds = holds;
}

-- a header that lies whole in the input
module _ (s : StreamProgress) (q : PartsState) (input : List ℕ) (here : s.stage ≡ stage.Header) (early : s.offset ≤ 2 ^ 63) (long : length s.header ≡ 9) (none : s.came ≡ 0) (enough : 9 ≤ length input) where
  pub header_takes : (new : StreamProgress) (h : Header) → heading (take 9 input) ≡ Ok h → new.offset ≡ s.offset + 9 → new.stop ≡ s.offset + 9 + h.length → symbols_at new.stage q new.upcoming ≡ message h
      → HasRoom new.stage new.upcoming → new.frame ≡ s.frame → new.came ≡ 0 → new.given_use ≡ s.given_use → IsIdle q → Hands (state_of s q) input s.offset 9 (reading.Frame h) (state_of new q)
  header_takes new h is at stop symbols room frame came same_use idle =
      let nine : take s.came s.header ++ take (9 - s.came) input ≡ take 9 input = rw none refl in
      let moves = header_hands s q input here early long (omega arith) (omega arith) new h (ap heading nine ∙ is) at stop symbols room frame came same_use idle in
      subst (λ (k : ℕ). Hands (state_of s q) input s.offset (9 - k) (reading.Frame h) (state_of new q)) none moves.1

-- nothing follows from a field that is alone
place_alone : (r : Role) → r ≡ role.Alone → (offset stop : ℕ) (types : Bool) (nodes : List Node) (held : Given) (v : FieldValue) (rest : List Symbol) → place_at offset stop (following (types_for types r nodes held) r v ++ rest) (nodes_after r nodes) (given_after r held) ≡ place_at offset stop rest nodes held
place_alone r alone offset stop types nodes held v rest = rw alone refl

fault_alone : (r : Role) → r ≡ role.Alone → (v : FieldValue) → fault_in r v ≡ None
fault_alone r alone v = rw alone refl

-- a field that lies whole in the input, from whose value nothing follows
module _ (s : StreamProgress) (q : PartsState) (w : Want) (here : s.stage ≡ stage.Field w) (alone : w.role ≡ role.Alone) (law : IsConsistent s q) (unrefused : s.refusal ≡ None) (idle : q.partial.under_way ≡ false) (empty : q.partial.content ≡ []) (input : List ℕ) (used : ℕ) (v : FieldValue)
    (says : SaysField w.notation (limit_of (rules_asked s.limits) w.notation) (s.stop - s.offset) input used v) where
  stage_is : StageHolds s q (stage.Field w)
  stage_is = subst (λ (t : StreamStage). StageHolds s q t) here law.stage

  pub alone_inside : s.offset + used ≤ s.stop
  alone_inside = let r = got_inside w.notation (limit_of (rules_asked s.limits) w.notation) (s.stop - s.offset) input v used says.is says.within in omega (arith, r, law.bounded.inside)

  module _ (e : StreamProgress) (is : e ≡ record s { offset = s.offset + used; stage = e.stage; upcoming = e.upcoming }) (symbols : symbols_at e.stage q e.upcoming ≡ rest_of s.upcoming) (room : HasRoom e.stage e.upcoming) where
    came : e.came ≡ 0
    came = ap (λ (z : StreamProgress). z.came) is ∙ stage_is.0.came

    offset : e.offset ≡ s.offset + used
    offset = ap (λ (z : StreamProgress). z.offset) is

    same_parts : parts q.partial q.types q.cells q.table q.given ≡ q
    same_parts = refl

    pub alone_lawful : IsConsistent e q
    alone_lawful = goes_on_lawful s e q q.partial q.types q.cells q.table used law offset alone_inside (ap (λ (z : StreamProgress). z.stop) is) (ap (λ (z : StreamProgress). z.limits) is) (ap (λ (z : StreamProgress). z.header) is) came
        refl idle refl stage_is.1 refl stage_is.2 refl (rw here at (law.table unrefused)) (starts_bare e q e.stage room) (record { types = law.quiet.types; cells = law.quiet.cells })

    abbrev held : Given
    held = given_of s.given_use q.given

    there : (state_of e q).place.offset ≡ s.offset + used
    there = offset_is_bare e.stage e.offset q e.upcoming room ∙ offset

    pub alone_hands : Hands (state_of s q) input s.offset used (reading.Holds w.field v) (state_of e q)
    alone_hands =
        let nothing : came_of q.partial ≡ [] = rw idle refl in
        let none : (b : List ℕ) → IsPending (state_of s q).pending b → b ≡ [] = λ b pending. rw here at pending ∙ nothing in
        let x = field_gives s q w here input v used says.is (fault_alone w.role alone v) in
        let place : place_at (s.offset + used) s.stop (rest_of s.upcoming) q.table.nodes held ≡ (state_of e q).place = λ j. place_at (sym there j) (sym (ap (λ (z : StreamProgress). z.stop) is) j) (sym symbols j) q.table.nodes (given_of (sym (ap (λ (z : StreamProgress). z.given_use) is) j) q.given) in
        let fixed = fixed_got w.notation (limit_of (rules_asked s.limits) w.notation) (s.stop - s.offset) input v used says.is in
        let g : Gives (state_of s q) input s.offset (reading.Holds w.field v) used (state_of e q).place = (x.0, x.1, x.2, x.3, x.4 ∙ place_alone w.role alone (s.offset + used) s.stop s.limits.types q.table.nodes held v (rest_of s.upcoming) ∙ place) in
        record {
          within = says.within;
          begun = begun_bare e.stage e.upcoming e.header e.came q room came idle;
          frame = ap (λ (z : StreamProgress). z.frame) is;
          lent = λ _. empty;
          kept = none_kept (state_of s q) input s.offset used (reading.Holds w.field v) (state_of e q).place q.partial.content g;
          gives = λ b pending. rw (none b pending, zero-add) g;
          gifts = refl;
          offset = λ b pending. rw (none b pending, zero-add, there, here) refl;
          due = one_due_bare e.stage q e.upcoming room;
          pays = rw (here, one_due_bare e.stage q e.upcoming room) (omega (arith, fixed, stage_is.0.read));
        }

    module _ (Holds : ℕ → Event → Type 0) (emitted : Holds s.offset (reading.Holds w.field v)) where
      pub alone_takes : TakesOne (state_of s q) input used Holds (state_of e q)
      alone_takes = takes_one (state_of s q) (state_of e q) input s.offset used (reading.Holds w.field v) (reading.Holds w.field v) alone_hands refl (ap (λ (z : StreamProgress). z.refusal) is) (ap (λ (z : StreamProgress). rules_asked z.limits) is) refl Holds emitted

-- a field that lies whole in the input
module _ (s : StreamProgress) (q : PartsState) (w : Want) (here : s.stage ≡ stage.Field w) (law : IsConsistent s q) (unrefused : s.refusal ≡ None) (idle : q.partial.under_way ≡ false) (empty : q.partial.content ≡ []) (input : List ℕ) (used : ℕ) (v : FieldValue)
    (says : SaysField w.notation (limit_of (rules_asked s.limits) w.notation) (s.stop - s.offset) input used v) where
  field_is : StageHolds s q (stage.Field w)
  field_is = subst (λ (t : StreamStage). StageHolds s q t) here law.stage

  pub whole_room : length s.upcoming + room_after w.role ≤ 16
  whole_room = field_is.0.room

  pub whole_forest : Forest q.table.nodes 0 s.limits.depth
  whole_forest = rw here at (law.table unrefused)

  pub whole_inside : s.offset + used ≤ s.stop
  whole_inside = let r = got_inside w.notation (limit_of (rules_asked s.limits) w.notation) (s.stop - s.offset) input v used says.is says.within in omega (arith, r, law.bounded.inside)

  module _ (t : Table) (e : StreamProgress) (table : t ≡ record { nodes = nodes_after w.role q.table.nodes; room = q.table.room }) (is : e ≡ record s { offset = s.offset + used; stage = e.stage; upcoming = e.upcoming; given_use = e.given_use })
      (goes : GoesOnAfter (record s { offset = s.offset + used }) e t.nodes q.given w.role v) (given : given_of e.given_use q.given ≡ given_after w.role (given_of s.given_use q.given)) where
    abbrev beside : PartsState
    beside = parts q.partial q.types q.cells t q.given

    none_came : e.came ≡ 0
    none_came = ap (λ (z : StreamProgress). z.came) is ∙ field_is.0.came

    reached : e.offset ≡ s.offset + used
    reached = ap (λ (z : StreamProgress). z.offset) is

    starts : Starts e beside e.stage
    starts = (goes beside refl refl).1

    nodes : t.nodes ≡ nodes_after w.role q.table.nodes
    nodes = ap (λ (z : Table). z.nodes) table

    pub whole_lawful : IsConsistent e beside
    whole_lawful = goes_on_lawful s e q q.partial q.types q.cells t used law reached whole_inside (ap (λ (z : StreamProgress). z.stop) is) (ap (λ (z : StreamProgress). z.limits) is) (ap (λ (z : StreamProgress). z.header) is) none_came
        refl idle refl field_is.1 refl field_is.2 (ap (λ (z : Table). z.room) table) (rw nodes (metadata_forest w.role q.table.nodes s.limits.depth whole_forest)) starts (record { types = law.quiet.types; cells = law.quiet.cells })

    abbrev held_then : Given
    held_then = given_of s.given_use q.given

    reached_there : (state_of e beside).place.offset ≡ s.offset + used
    reached_there = offset_is e e.stage beside starts ∙ reached

    symbols_there : symbols_at e.stage beside e.upcoming ≡ following (types_for s.limits.types w.role q.table.nodes held_then) w.role v ++ rest_of s.upcoming
    symbols_there = (goes beside refl refl).0 ∙ following_there w.role v s.limits.types held_then q.table.nodes t.nodes (rest_of s.upcoming) nodes

    pub whole_hands : fault_in w.role v ≡ None → Hands (state_of s q) input s.offset used (reading.Holds w.field v) (state_of e beside)
    whole_hands fine =
        let nothing : came_of q.partial ≡ [] = rw idle refl in
        let none : (b : List ℕ) → IsPending (state_of s q).pending b → b ≡ [] = λ b pending. rw here at pending ∙ nothing in
        let x = field_gives s q w here input v used says.is fine in
        let fixed = fixed_got w.notation (limit_of (rules_asked s.limits) w.notation) (s.stop - s.offset) input v used says.is in
        let g : Gives (state_of s q) input s.offset (reading.Holds w.field v) used (state_of e beside).place = (x.0, x.1, x.2, x.3, x.4 ∙ (λ j. place_at (sym reached_there j) (sym (ap (λ (z : StreamProgress). z.stop) is) j) (sym symbols_there j) (sym nodes j) (sym given j))) in
        record {
          within = says.within;
          begun = begun e e.stage e.header e.came beside starts none_came idle;
          frame = ap (λ (z : StreamProgress). z.frame) is;
          lent = λ _. empty;
          kept = none_kept (state_of s q) input s.offset used (reading.Holds w.field v) (state_of e beside).place q.partial.content g;
          gives = λ b pending. rw (none b pending, zero-add) g;
          gifts = refl;
          offset = λ b pending. rw (none b pending, zero-add, reached_there, here) refl;
          due = one_due e e.stage beside starts;
          pays = rw (here, one_due e e.stage beside starts) (omega (arith, fixed, field_is.0.read));
        }

    pub whole_takes : fault_in w.role v ≡ None → (Holds : ℕ → Event → Type 0) → Holds s.offset (reading.Holds w.field v) → TakesOne (state_of s q) input used Holds (state_of e beside)
    whole_takes fine Holds emitted = takes_one (state_of s q) (state_of e beside) input s.offset used (reading.Holds w.field v) (reading.Holds w.field v) (whole_hands fine) refl (ap (λ (z : StreamProgress). z.refusal) is) (ap (λ (z : StreamProgress). rules_asked z.limits) is) refl Holds emitted
