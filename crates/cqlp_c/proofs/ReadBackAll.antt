-- What C gets of events, read back one after the other.
use Rattle.std.proofs.Common.{◌≡◌, ℕ, suc, List, [], ◌∷◌, ◌++◌, drop, refl, ap, ◌∙◌, append_assoc, Ok, Option, Some, None}
use Rattle.std.specs.Prelude.{Result, map}
use Rattle.std.specs.List.{flat_map}
use Rattle.cqlp_grammar.specs.Events.{Event}
use Rattle.cqlp_build.specs.declared.error.BuildError.{BuildError}
use Rattle.cqlp_compose.specs.Composing.{ComposerState, refusal_of, with_next}
use Rattle.cqlp_c.specs.declared.encode.Stopped.{Stopped}
use Rattle.cqlp_c.specs.declared.encode.Unencoded.{Unencoded}
use Rattle.cqlp_c.specs.declared.event.CqlpEvent.{CqlpEvent}
use Rattle.cqlp_c.specs.declared.from_c.BadEvent.{BadEvent}
use Rattle.cqlp_c.specs.EncodeLaws.{AreWritten, CanBeWritten, after_events}
use Rattle.cqlp_c.specs.Encoding.{Taken, after_all, after_one, on_from, unless, with_c_event}
use Rattle.cqlp_c.specs.Events.{content_of}
use Rattle.cqlp_c.specs.FromC.{content_len, event_from_c}
use Rattle.cqlp_c.specs.FromCLaws.{kept}
use Rattle.cqlp_c.proofs.ReadBack.{read_back}

-- one event before the contents of others
one_back : (s : ComposerState) (c : CqlpEvent) (e : Event) (contents others : List ℕ) → (event_from_c c (contents ++ others) ≡ Ok e) → drop (content_len c) (contents ++ others) ≡ others
    → after_one (s, contents ++ others) c ≡ unless (refusal_of s e) (with_next s e, others)
one_back s c e contents others written rest =
    ap (λ (r : Result Event BadEvent). with_c_event s r (drop (content_len c) (contents ++ others))) written
    ∙ ap (λ (b : List ℕ). unless (refusal_of s e) (with_next s e, b)) rest

-- the others go on in one way
on_one : (n : ℕ) (s : ComposerState) (rest others : List ℕ) (refused : Option BuildError) (f g : Taken → Result Taken Stopped) → f (s, rest) ≡ g (s, others)
    → on_from n (unless refused (s, rest)) f ≡ on_from n (unless refused (s, others)) g
on_one n s rest others None f g e = e
on_one n s rest others (Some why) f g e = refl

pub all_back : (es : List Event) (cs : List CqlpEvent) (n : ℕ) (s : ComposerState) (others : List ℕ) → CanBeWritten es → AreWritten cs es
    → after_all n (s, flat_map content_of es ++ others) cs ≡ after_events n (s, others) (map kept es)
all_back [] [] n s others can are = refl
all_back [] (c ∷ cs) n s others can are = absurd are
all_back (e ∷ es) [] n s others can are = absurd are
all_back (e ∷ es) (c ∷ cs) n s others can are =
    let rest = flat_map content_of es ++ others in
    let apart : flat_map content_of (e ∷ es) ++ others ≡ content_of e ++ rest = append_assoc (content_of e) (flat_map content_of es) others in
    let back = read_back e can.0 can.1 are.0.0 c rest are.0.1 in
    let next = with_next s (kept e) in
    ap (λ (b : List ℕ). after_all n (s, b) (c ∷ cs)) apart
    ∙ ap (λ (r : Result Taken Unencoded). on_from n r (λ u. after_all (suc n) u cs)) (one_back s c (kept e) (content_of e) rest back.0 back.1)
    ∙ on_one n next rest others (refusal_of s (kept e)) (λ u. after_all (suc n) u cs) (λ u. after_events (suc n) u (map kept es)) (all_back es cs (suc n) next others can.2 are.1)
