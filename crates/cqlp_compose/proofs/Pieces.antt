-- Pieces of a page.
use Rattle.std.proofs.Common.{◌≡◌, ℕ, List, [], ◌∷◌, ◌++◌, map, false, None, refl, sym, ap, ◌∙◌, subst, append_assoc, append-nil}
use Rattle.cqlp_grammar.specs.Events.{Event, cell_event}
use Rattle.cqlp_message.specs.Owned.{frame_of}
use Rattle.cqlp_message.specs.Pages.{page_unfit_of}
use Rattle.cqlp_message.specs.declared.frame.Frame.{Frame as OwnedFrame}
use Rattle.cqlp_build_cells.specs.declared.builder.CellLimits.{CellLimits}
use Rattle.cqlp_kind.specs.CellStep.{CellEvent}
use Rattle.cqlp_compose.specs.declared.place.PageProgress.{PageProgress}
use Rattle.cqlp_build_cells.specs.Building.{ends_cell}
use Rattle.cqlp_compose.specs.Cells.{CellsState, begun, next_column, next_row, within}
use Rattle.cqlp_compose.specs.PageLaws.{ArePieces, IsPiece, TakesAll, all_bytes, all_events}
use Rattle.cqlp_compose.proofs.Steps.{IsWithin, Conforms, goes_between, takes_within}

module _ (f : OwnedFrame) (n : ℕ) (begins : page_unfit_of (frame_of f) n ≡ None) where
  all_within : (es before : List Event) (bytes : List ℕ) (old new : CellsState) → IsWithin f n before bytes old → TakesAll old es new → IsWithin f n (before ++ es) bytes new
  all_within [] before bytes old new w t = subst (λ (x : List Event). IsWithin f n x bytes new) (sym (append-nil before)) (rw t w)
  all_within (e ∷ es) before bytes old new w t =
      subst (λ (x : List Event). IsWithin f n x bytes new) (append_assoc before (e ∷ []) es)
      (all_within es (before ++ e ∷ []) bytes t.0 new (takes_within f n begins before bytes old e t.0 w t.1) t.2)

  all_between : (es : List Event) (old new : CellsState) → (old.cut ≡ false → old.under.events ≡ []) → TakesAll old es new → new.cut ≡ false → new.under.events ≡ []
  all_between [] old new b t = rw t b
  all_between (e ∷ es) old new b t = all_between es t.0 new (goes_between (ends_cell e) (within old t.1.1) t.0 t.1.3) t.2

  at_begin : (es : List Event) (bytes : List ℕ) (p : PageProgress) (limits : CellLimits) → Conforms (frame_of f) n es bytes p → IsWithin f n es bytes (begun f p limits)
  at_begin es bytes p limits s = record {
    frame = refl;
    before = es;
    events = sym (append-nil es);
    whole = refl;
    conforms = subst (λ (b : List ℕ). Conforms (frame_of f) n es b p) (sym (append-nil bytes)) s;
  }

  at_end : (es : List Event) (bytes : List ℕ) (s : CellsState) → IsWithin f n es bytes s → s.under.events ≡ [] → Conforms (frame_of f) n es (bytes ++ s.bytes) s.place
  at_end es bytes s w none =
      let same : es ≡ w.before = w.events ∙ ap (λ (cs : List CellEvent). w.before ++ map (cell_event (next_row s) (next_column s)) cs) none ∙ append-nil w.before in
      subst (λ (x : List Event). Conforms (frame_of f) n x (bytes ++ s.bytes) s.place) (sym same) w.conforms

  piece_conforms : (es bytes_es : List Event) (bytes : List ℕ) (old : PageProgress) (more : List ℕ) (new : PageProgress) → Conforms (frame_of f) n es bytes old → IsPiece f old bytes_es more new → Conforms (frame_of f) n (es ++ bytes_es) (bytes ++ more) new
  piece_conforms es came bytes old more new s p =
      let w = all_within came es bytes (begun f old p.limits) p.end (at_begin es bytes old p.limits s) p.taken in
      let none = all_between came (begun f old p.limits) p.end (λ e. refl) p.taken p.given.0 in
      let e = at_end (es ++ came) bytes p.end w none in
      subst (λ (x : PageProgress). Conforms (frame_of f) n (es ++ came) (bytes ++ more) x) (sym (p.place ∙ p.given.1))
      (subst (λ (b : List ℕ). Conforms (frame_of f) n (es ++ came) (bytes ++ b) p.end.place) (sym (p.bytes_are ∙ p.given.2)) e)

  pub pieces_conform : (ps : List (List Event × List ℕ)) (es : List Event) (bytes : List ℕ) (old new : PageProgress) → Conforms (frame_of f) n es bytes old → ArePieces f old ps new → Conforms (frame_of f) n (es ++ all_events ps) (bytes ++ all_bytes ps) new
  pieces_conform [] es bytes old new s a =
      subst (λ (x : List Event). Conforms (frame_of f) n x (bytes ++ []) new) (sym (append-nil es))
      (subst (λ (b : List ℕ). Conforms (frame_of f) n es b new) (sym (append-nil bytes)) (rw a s))
  pieces_conform (p ∷ ps) es bytes old new s a =
      let one = piece_conforms es p.0 bytes old p.1 a.0 s a.1 in
      let more = pieces_conform ps (es ++ p.0) (bytes ++ p.1) a.0 new one a.2 in
      subst (λ (x : List Event). Conforms (frame_of f) n x (bytes ++ all_bytes (p ∷ ps)) new) (append_assoc es p.0 (all_events ps))
      (subst (λ (b : List ℕ). Conforms (frame_of f) n ((es ++ p.0) ++ all_events ps) b new) (append_assoc bytes p.1 (all_bytes ps)) more)
