-- Results that are prepared statements, as the values that are made of their kind and their parts.
use Rattle.std.proofs.Common.{◌≡◌, ℤ, pos, ◌++◌, ◌⊎◌, List, [], ◌∷◌, true, false, refl, sym, ap, ◌∙◌, inl, inr}
use Rattle.cqlp_note.specs.declared.field.Field.TheVariants as field
use Rattle.cqlp_note.specs.declared.opcode.Opcode.TheVariants as opcode
use Rattle.cqlp_note.specs.Field as note
use Rattle.cqlp_grammar.specs.Codes as code
use Rattle.cqlp_grammar.specs.Events.{Event, Holds}
use Rattle.std.specs.List.{list_all}
use Rattle.std.proofs.lemmas.Bool.{eq-eqb, eqb-true}
use Rattle.cqlp_message.specs.Agreement.{bits, has_its_cells, is_no_result, prepared_agrees}
use Rattle.cqlp_message.specs.Parts.{cell_fits}
use Rattle.cqlp_message.specs.Bodies as body
use Rattle.cqlp_message.specs.FrameValues.{Message, Void, SetKeyspace, Rows, Prepared, Change, UnknownResult, Page, PreparedStatement}
use Rattle.cqlp_build.specs.declared.held.FrameEvents.{FrameEvents}
use Rattle.cqlp_build.specs.FrameEvents.{Builds, IsRefused, IsSound, any, left}
use Rattle.cqlp_build.specs.Productions.{BuildsMessage, IsOf, IsPage, cells_parts}
use Rattle.cqlp_build.specs.Emitted.{emitted}
use Rattle.cqlp_build.specs.Types.{is_built_statement}
use Rattle.cqlp_build.proofs.MetadataParts.{IsStatement}
use Rattle.cqlp_build.proofs.Several.{both, join}
use Rattle.cqlp_build.proofs.Steps.{AreNone}

abbrev kind_event : ℤ → Event
kind_event z = Holds field.ResultKind (note.Int z)

-- a result begins with its kind
begins : (m : Message) → IsOf opcode.Result m → (z : ℤ) × (es : List Event) × (emitted (body.message_parts m) ≡ kind_event z ∷ es)
begins Void i = (pos code.void, _, refl)
begins (SetKeyspace k) i = (pos code.set_keyspace, _, refl)
begins (Rows p) i = (pos code.rows, _, refl)
begins (Prepared p) i = (pos code.prepared, _, refl)
begins (Change c) i = (pos code.schema_change, _, refl)
begins (UnknownResult k) i = (k, _, refl)
begins m i = let o = i.opcode in absurd cc

-- a result of this kind is a prepared statement
by_kind : (m : Message) (es rest : List Event) → IsOf opcode.Result m → kind_event (pos code.prepared) ∷ es ≡ emitted (body.message_parts m) ++ rest
    → (p : PreparedStatement) × (IsStatement p) × (m ≡ Prepared p) × (es ≡ emitted (body.prepared_parts p) ++ rest)
by_kind (Prepared p) es rest i e = (p, join (prepared_agrees p) (is_built_statement p) i.agrees i.built, refl, cc)
by_kind Void es rest i e = absurd cc
by_kind (SetKeyspace k) es rest i e = absurd cc
by_kind (Change c) es rest i e = absurd cc
by_kind (Rows p) es rest i e = absurd cc
by_kind (UnknownResult k) es rest i e =
    let same : k ≡ pos code.prepared = cc in
    let off : true ≡ false = sym i.agrees ∙ ap (λ z. is_no_result (bits z)) same in
    absurd cc
by_kind m es rest i e = let o = i.opcode in absurd cc

module _ {z : ℤ} {p : PreparedStatement} {a b c : FrameEvents} (is : z ≡ pos code.prepared) (one : Builds (λ y. kind_event y ∷ []) any z a b) (two : Builds (λ s. emitted (body.prepared_parts s)) IsStatement p b c) where
  first : IsSound b → left a ≡ kind_event (pos code.prepared) ∷ left b
  first s = (one.made s).1 ∙ ap (λ y. kind_event y ∷ left b) is

  only_one : IsSound c → (m : Message) (rest : List Event) → IsOf opcode.Result m → left a ≡ emitted (body.message_parts m) ++ rest → (m ≡ Prepared p) × (rest ≡ left c)
  only_one s m rest i e =
      let k = by_kind m (left b) rest i (sym (first (two.made s).0) ∙ e) in
      let o = two.only s k.0 rest k.1 k.3 in
      (k.2 ∙ ap Prepared o.0, o.1)

  none_one : IsRefused b ⊎ AreNone (λ s. emitted (body.prepared_parts s)) IsStatement b → IsRefused a ⊎ AreNone (λ m. emitted (body.message_parts m)) (IsOf opcode.Result) a
  none_one (inl r) =
      elim (one.none r) [
        | inl h ↦ inl h
        | inr h ↦ inr (h.0, λ m rest i e. let g = begins m i in h.1 g.0 (g.1 ++ rest) refl (e ∙ ap (λ es. es ++ rest) g.2))
      ]
  none_one (inr n) =
      inr ((one.made n.0).0, λ m rest i e. let k = by_kind m (left b) rest i (sym (first n.0) ∙ e) in n.1 k.0 rest k.1 k.3)

  pub prepared_builds : BuildsMessage opcode.Result (Prepared p) a c
  prepared_builds = record {
    made = λ s.
        let m = two.made s in
        let q = both (prepared_agrees p) (is_built_statement p) m.2 in
        ((one.made m.0).0, first m.0 ∙ ap (λ es. kind_event (pos code.prepared) ∷ es) m.1, record { opcode = refl; agrees = q.0; built = q.1; cells = refl });
    only = only_one;
    none = λ s. none_one (two.none s);
  }

-- ---- pages

-- a result of this kind is a page
page_by_kind : (m : Message) (es rest : List Event) → IsOf opcode.Result m → kind_event (pos code.rows) ∷ es ≡ emitted (body.message_parts m) ++ rest
    → (p : Page) × (IsPage p) × (m ≡ Rows p) × (es ≡ emitted (body.page_parts p) ++ rest)
page_by_kind (Rows p) es rest i e =
    let c = both (has_its_cells (Rows p)) (list_all cell_fits (cells_parts p.meta p.rows p.cells)) i.cells in
    (p, (i.agrees, i.built, (eqb-true _ _ c.0, c.1)), refl, cc)
page_by_kind Void es rest i e = absurd cc
page_by_kind (SetKeyspace k) es rest i e = absurd cc
page_by_kind (Change c) es rest i e = absurd cc
page_by_kind (Prepared p) es rest i e = absurd cc
page_by_kind (UnknownResult k) es rest i e =
    let same : k ≡ pos code.rows = cc in
    let off : true ≡ false = sym i.agrees ∙ ap (λ z. is_no_result (bits z)) same in
    absurd cc
page_by_kind m es rest i e = let o = i.opcode in absurd cc

module _ {z : ℤ} {p : Page} {a b c : FrameEvents} (is : z ≡ pos code.rows) (one : Builds (λ y. kind_event y ∷ []) any z a b) (two : Builds (λ s. emitted (body.page_parts s)) IsPage p b c) where
  page_first : IsSound b → left a ≡ kind_event (pos code.rows) ∷ left b
  page_first s = (one.made s).1 ∙ ap (λ y. kind_event y ∷ left b) is

  only_page : IsSound c → (m : Message) (rest : List Event) → IsOf opcode.Result m → left a ≡ emitted (body.message_parts m) ++ rest → (m ≡ Rows p) × (rest ≡ left c)
  only_page s m rest i e =
      let k = page_by_kind m (left b) rest i (sym (page_first (two.made s).0) ∙ e) in
      let o = two.only s k.0 rest k.1 k.3 in
      (k.2 ∙ ap Rows o.0, o.1)

  no_page : IsRefused b ⊎ AreNone (λ s. emitted (body.page_parts s)) IsPage b → IsRefused a ⊎ AreNone (λ m. emitted (body.message_parts m)) (IsOf opcode.Result) a
  no_page (inl r) =
      elim (one.none r) [
        | inl h ↦ inl h
        | inr h ↦ inr (h.0, λ m rest i e. let g = begins m i in h.1 g.0 (g.1 ++ rest) refl (e ∙ ap (λ es. es ++ rest) g.2))
      ]
  no_page (inr n) =
      inr ((one.made n.0).0, λ m rest i e. let k = page_by_kind m (left b) rest i (sym (page_first n.0) ∙ e) in n.1 k.0 rest k.1 k.3)

  pub page_builds : BuildsMessage opcode.Result (Rows p) a c
  page_builds = record {
    made = λ s.
        let m = two.made s in
        let cells = m.2.2 in (
          (one.made m.0).0,
          page_first m.0 ∙ ap (λ es. kind_event (pos code.rows) ∷ es) m.1,
          record {
            opcode = refl;
            agrees = m.2.0;
            built = m.2.1;
            cells = join (has_its_cells (Rows p)) (list_all cell_fits (cells_parts p.meta p.rows p.cells)) (eq-eqb _ _ cells.0) cells.1;
          },
        );
    only = only_page;
    none = λ s. no_page (two.none s);
  }
