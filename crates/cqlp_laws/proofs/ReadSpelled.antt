-- What is read is spelled, where parts that come of a header's symbols are those of a frame value.
use Rattle.std.proofs.Common.{◌≡◌, ℕ, true, ◌+◌, ◌-◌, ◌<◌, ◌^◌, List, [], ◌∷◌, ◌++◌, length, take, drop, refl, sym, subst, append_assoc, arith}
use Rattle.std.specs.Prelude.{All, FitsSigned}
use Rattle.std.specs.Int.{w16}
use Rattle.std.proofs.lemmas.List.{length-append, take_at, drop_at}
use Rattle.std.proofs.lemmas.List.Elements.{All-take, All-drop}
use Rattle.cqlp_note.specs.declared.header.Header.{Header}
use Rattle.cqlp_note.specs.Heading.{IsLawful, header_bytes}
use Rattle.cqlp_note.specs.Limits.{Rules}
use Rattle.cqlp_kind.specs.Types.{Types}
use Rattle.cqlp_message.specs.FrameValues.{FrameValue}
use Rattle.cqlp_grammar.specs.Events.{Event, Frame, End}
use Rattle.cqlp_message.specs.Parts.{Part, PartsSpell, PartsWithin, parts_size, parts_events}
use Rattle.cqlp_grammar.specs.Productions.{message}
use Rattle.cqlp_message.specs.Frames.{FrameSpells, FrameIsInRange, IsWithin, Flat}
use Rattle.cqlp_message.proofs.Derives.{Derives}
use Rattle.cqlp_decode.specs.Reading.{Says, start_with}
use Rattle.cqlp_laws.specs.ReadFrames.{IsOfFrame, ReadIsSpelled, ReadIsSpelledWithGifts}
use Rattle.cqlp_message.proofs.Sizes.{parts_long}
use Rattle.cqlp_laws.proofs.FramesBack.{IsReadFrame, frame_back}
use Rattle.cqlp_laws.proofs.PlainRuns.{nothing_in_use}

-- What comes of a header with these parts: a frame value.
pub record IsFrame (l : Rules) (h : Header) (ps : List Part) (body extra : List ℕ) : Type 0 where
  pub frame : FrameValue
  pub spelled : FrameSpells frame (length extra) (header_bytes h ++ (body ++ extra))
  pub within : IsWithin l frame
  pub range : FrameIsInRange frame
  pub events : (at q x : ℕ) (middle : List (ℕ × Event)) → h.length ≡ parts_size ps + x → q ≡ (at + 9) + h.length → middle ≡ parts_events l (at + 9) ps → (at, Frame h) ∷ middle ++ (q, End x) ∷ [] ≡ Flat l at frame x

-- Parts that come of a lawful header's symbols, and are spelled, are those of a frame value.
abbrev pub AreOfFrames : Rules → Type 0
AreOfFrames l =
    (h : Header) (ps : List Part) (described : Types) (body extra : List ℕ) → IsLawful h → h.flags < 2 ^ 8 → FitsSigned w16 h.stream → All (λ b. b < 256) body → PartsSpell ps body → PartsWithin l ps → Derives l ps (message h) described
    → h.length ≡ length (body ++ extra) → IsFrame l h ps body extra

counted : (n x size : ℕ) (body extra : List ℕ) → n ≡ length (body ++ extra) → length body ≡ size → length extra ≡ x → n ≡ size + x
counted n x size body extra long inside more = omega (arith, length-append body extra)

small_body : (bytes head body extra : List ℕ) (p n : ℕ) → All (λ b. b < 256) bytes → take n (drop p bytes) ≡ head ++ (body ++ extra) → All (λ b. b < 256) body
small_body bytes head body extra p n small is =
    let Small : ℕ → Type 0 = λ b. b < 256 in
    let all : All Small (head ++ (body ++ extra)) = subst (λ (z : List ℕ). All Small z) is (All-take Small n (drop p bytes) (All-drop Small p bytes small)) in
    let rest : All Small (body ++ extra) = subst (λ (z : List ℕ). All Small z) (drop_at head (body ++ extra) (length head) refl) (All-drop Small (length head) (head ++ (body ++ extra)) all) in
    subst (λ (z : List ℕ). All Small z) (take_at body extra (length body) refl) (All-take Small (length body) (body ++ extra) rest)

in_line : (a b : List (ℕ × Event)) (e : ℕ × Event) (d : List (ℕ × Event)) → (a ++ (b ++ e ∷ [])) ++ d ≡ (a ++ b) ++ e ∷ d
in_line a b e d = simp append_assoc

module _ (l : Rules) (on : l.types ≡ true) (framed : AreOfFrames l) (bytes : List ℕ) (small : All (λ b. b < 256) bytes) (middle : List (ℕ × Event)) (p q x : ℕ) (h : Header) (r : IsReadFrame l bytes p h q x middle) where
  framed_by : IsFrame l h r.parts r.body r.extra → IsOfFrame l (take (q - p) (drop p bytes)) p x ((p, Frame h) ∷ middle ++ (q, End x) ∷ [])
  framed_by f = record {
    frame = f.frame;
    spelled = subst (λ (n : ℕ). FrameSpells f.frame n (take (q - p) (drop p bytes))) r.more (subst (λ (z : List ℕ). FrameSpells f.frame (length r.extra) z) (sym r.bytes) f.spelled);
    within = f.within;
    range = f.range;
    events = f.events p q x middle (counted h.length x (parts_size r.parts) r.body r.extra r.long (parts_long r.parts r.body r.spelled) r.more) r.ends r.events;
  }

  of_frame : IsOfFrame l (take (q - p) (drop p bytes)) p x ((p, Frame h) ∷ middle ++ (q, End x) ∷ [])
  of_frame = framed_by (framed h r.parts r.described r.body r.extra r.lawful r.flags r.stream (small_body bytes (header_bytes h) r.body r.extra p (q - p) small r.bytes) r.spelled r.limits r.derives r.long)

pub read_with_gifts : ((l : Rules) → l.types ≡ true → AreOfFrames l) → ReadIsSpelledWithGifts
read_with_gifts framed l gifts bytes before middle after p q x h v on strict small inner said none =
    of_frame l on (framed l on) bytes small middle p q x h
    (frame_back l gifts bytes before middle after p q x h v on strict small (subst (λ (es : List (ℕ × Event)). Says l (start_with gifts) bytes es v) (in_line before ((p, Frame h) ∷ middle) (q, End x) after) said) none inner)

pub read_is_spelled : ((l : Rules) → l.types ≡ true → AreOfFrames l) → ReadIsSpelled
read_is_spelled framed l bytes before middle after p q x h v on strict small inner said =
    read_with_gifts framed l [] bytes before middle after p q x h v on strict small inner said (nothing_in_use l bytes before ((p, Frame h) ∷ middle ++ (q, End x) ∷ []))
