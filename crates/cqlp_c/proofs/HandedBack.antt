-- A frame that is handed back is read as it was.
use Rattle.std.proofs.Common.{◌≡◌, ℕ, suc, ◌++◌, List, [], ◌∷◌, refl, sym, ap, ◌∙◌, subst, append-nil, append_assoc, true, Ok, Option, Some, None}
use Rattle.std.specs.Prelude.{Result, map}
use Rattle.std.specs.List.{AllByRecursion, flat_map}
use Rattle.cqlp_note.specs.declared.header.Header.{Header}
use Rattle.cqlp_grammar.specs.Events.{Event, Frame, Holds, Node_of, Cell_at, Leave, End}
use Rattle.cqlp_build.specs.declared.error.BuildError.{BuildError}
use Rattle.cqlp_build.specs.Building.{is_inner}
use Rattle.cqlp_compose.specs.Composing.{ComposerState, refusal_of, start, with_next}
use Rattle.cqlp_c.specs.declared.encode.Stopped.{Stopped}
use Rattle.cqlp_c.specs.declared.event.CqlpEvent.{CqlpEvent}
use Rattle.cqlp_c.specs.EncodeLaws.{AreWritten, CanBeWritten, IsReadAs, after_events}
use Rattle.cqlp_c.specs.Encoding.{IsWritten, IsEncoded, Taken, after_all, longest, on_from, unless}
use Rattle.cqlp_c.specs.Events.{content_of}
use Rattle.cqlp_c.specs.FromCLaws.{kept}
use Rattle.cqlp_c.proofs.AllWritten.{reads_back}
use Rattle.cqlp_c.proofs.ReadBackAll.{all_back}

abbrev Inner : List Event → Type 0
Inner es = AllByRecursion (λ e. is_inner e ≡ true) es

inner_kept : (e : Event) → is_inner e ≡ true → kept e ≡ e
inner_kept (Frame h) i = absurd cc
inner_kept (Holds f v) i = refl
inner_kept (Node_of k) i = refl
inner_kept (Cell_at row column c) i = refl
inner_kept (Leave level items) i = refl
inner_kept (End extra) i = absurd cc

all_kept : (fields : List Event) (extra : ℕ) → Inner fields → map kept (fields ++ End extra ∷ []) ≡ fields ++ End 0 ∷ []
all_kept [] extra i = refl
all_kept (e ∷ es) extra i = ap (λ (d : Event). d ∷ map kept (es ++ End extra ∷ [])) (inner_kept e i.0) ∙ ap (λ (fs : List Event). e ∷ fs) (all_kept es extra i.1)

next_events : (s : ComposerState) (e : Event) → is_inner e ≡ true → (with_next s e).frame.events ≡ s.frame.events ++ e ∷ []
next_events s (Frame h) i = absurd cc
next_events s (Holds f v) i = refl
next_events s (Node_of k) i = refl
next_events s (Cell_at row column c) i = refl
next_events s (Leave level items) i = refl
next_events s (End extra) i = absurd cc

went_on : (n : ℕ) (o : Option BuildError) (t : Taken) (f : Taken → Result Taken Stopped) (k : Taken) → on_from n (unless o t) f ≡ Ok k → f t ≡ Ok k
went_on n None t f k e = e
went_on n (Some why) t f k e = absurd cc

-- where all are taken, and the last is an end, the others are the events of the frame
taken_are : (n : ℕ) (s : ComposerState) (rest : List ℕ) (fields : List Event) (k : Taken) → Inner fields → after_events n (s, rest) (fields ++ End 0 ∷ []) ≡ Ok k → k.0.frame.events ≡ s.frame.events ++ fields
taken_are n s rest [] k i e =
    let last : Ok (with_next s (End 0), rest) ≡ Ok k = went_on n (refusal_of s (End 0)) (with_next s (End 0), rest) (λ u. Ok u) k e in
    let same : (with_next s (End 0), rest) ≡ k = cc in
    ap (λ (t : Taken). t.0.frame.events) (sym same) ∙ sym (append-nil s.frame.events)
taken_are n s rest (e ∷ es) k i t =
    let next = with_next s e in
    taken_are (suc n) next rest es k i.1 (went_on n (refusal_of s e) (next, rest) (λ u. after_events (suc n) u (es ++ End 0 ∷ [])) k t)
    ∙ ap (λ (fs : List Event). fs ++ es) (next_events s e i.0) ∙ append_assoc s.frame.events (e ∷ []) es

module _ (h : Header) (fields : List Event) (extra : ℕ) (cs : List CqlpEvent) (bytes : List ℕ) where
  abbrev all : List Event
  all = Frame h ∷ fields ++ End extra ∷ []

  abbrev first : Header
  first = record h { length = 0 }

  frame_events : (s : ComposerState) → Inner fields → after_events 0 (start longest, []) (map kept all) ≡ Ok (s, []) → s.frame.events ≡ Frame first ∷ fields
  frame_events s i e =
      let begun = with_next (start longest) (Frame first) in
      let written : after_events 0 (start longest, []) (Frame first ∷ (fields ++ End 0 ∷ [])) ≡ Ok (s, []) = ap (λ (fs : List Event). after_events 0 (start longest, []) (Frame first ∷ fs)) (sym (all_kept fields extra i)) ∙ e in
      taken_are 1 begun [] fields (s, []) i (went_on 0 (refusal_of (start longest) (Frame first)) (begun, []) (λ u. after_events 1 u (fields ++ End 0 ∷ [])) (s, []) written)

  pub handed_back : Inner fields → CanBeWritten all → AreWritten cs all → IsEncoded cs (flat_map content_of all) bytes → IsReadAs h fields bytes
  handed_back i can are x =
      let back : after_events 0 (start longest, []) (map kept all) ≡ Ok (x.0, []) =
      sym (all_back all cs 0 (start longest) [] can are) ∙ ap (λ (b : List ℕ). after_all 0 (start longest, b) cs) (append-nil (flat_map content_of all)) ∙ x.1
      in
      let w = reads_back first fields bytes (subst (λ (es : List Event). IsWritten es bytes) (frame_events x.0 i back) x.2) in
      record { size = w.size; frame = w.frame; are = w.are; said = w.said }
