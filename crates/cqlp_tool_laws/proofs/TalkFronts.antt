-- Fronts of what a stream says, and the messages that they hold.
use Rattle.std.proofs.Common.{◌≡◌, ℕ, ◌+◌, ◌*◌, ◌≤◌, ◌^◌, ◌⊎◌, ltb, Bool, true, false, List, [], ◌∷◌, ◌++◌, length, refl, sym, ap, subst, ◌∙◌, append_assoc, inl, inr, arith}
use Rattle.std.specs.Prelude.{if◌then◌else◌}
use Rattle.std.proofs.lemmas.Bool.{cases_lt}
use Rattle.std.proofs.lemmas.List.{append-nil, append_cancel_left, length-append}
use Rattle.cqlp_note.specs.declared.header.Header.{Header}
use Rattle.cqlp_note.specs.declared.refusal.Reason.{Reason}
use Rattle.cqlp_note.specs.Limits.{Rules}
use Rattle.cqlp_note.specs.Reader.{Bad, Takes, says}
use Rattle.cqlp_note.proofs.Readers.{says_stays}
use Rattle.cqlp_note.proofs.Runs.{runs_compare, runs_stay, stays_bad}
use Rattle.cqlp_grammar.specs.Events as model
use Rattle.cqlp_grammar.specs.Events.{Event, Frame, End}
use Rattle.cqlp_decode.specs.Reading.{Place, Verdict, Refused, Reads, Says, header_step, settled, start, step, step_at}
use Rattle.cqlp_loop.specs.Hearing.{Hearing, idle, amid, with_event, with_events}
use Rattle.cqlp_laws.proofs.Whole.{is_bad, says_once}
use Rattle.cqlp_laws.proofs.OneAnswer.{no_further}
use Rattle.cqlp_laws.proofs.RunsBack.{passed, taken}
use Rattle.cqlp_note.proofs.Yields.{Yields}
use Rattle.cqlp_note.specs.Step.{Emitted}
use Rattle.cqlp_note.specs.Heading.{Heading, heading}
use Rattle.cqlp_note.specs.declared.refusal.Reason.TheVariants.{StreamTooLong}
use Rattle.cqlp_grammar.specs.Productions.{Symbol, Stream}
use Rattle.cqlp_decode.specs.Progress.{ends_due}
use Rattle.std.specs.Prelude.{Ok, Err}
use Rattle.cqlp_loop.proofs.Seeking.{events_then}

-- ---- hearings

abbrev hearing : Bool → List Header → Hearing
hearing b hs = record { under_way = b; headers = hs }

-- how far a hearing has come: each header is a step, and so is each end
abbrev pub progress : Hearing → ℕ
progress x = 2 * length x.headers + (if x.under_way then 0 else 1)

-- with these headers before those that were heard
abbrev pub behind : List Header → Hearing → Hearing
behind hs x = record { under_way = x.under_way; headers = hs ++ x.headers }

behind_frame : (hs xs : List Header) (b : Bool) (f : Header) → with_event (behind hs (hearing b xs)) (Frame f) ≡ behind hs (with_event (hearing b xs) (Frame f))
behind_frame hs xs true f = refl
behind_frame hs xs false f = ap (λ (z : List Header). amid z) (append_assoc hs xs (f ∷ []))

behind_event : (hs : List Header) (x : Hearing) (e : Event) → with_event (behind hs x) e ≡ behind hs (with_event x e)
behind_event hs x (Frame f) = behind_frame hs x.headers x.under_way f
behind_event hs x (End n) = refl
behind_event hs x (model.Holds f v) = refl
behind_event hs x (model.Node_of k) = refl
behind_event hs x (model.Cell_at r c y) = refl
behind_event hs x (model.Leave l i) = refl

pub behind_events : (hs : List Header) (x : Hearing) (es : List (ℕ × Event)) → with_events (behind hs x) es ≡ behind hs (with_events x es)
behind_events hs x [] = refl
behind_events hs x (e ∷ es) = ap (λ (y : Hearing). with_events y es) (behind_event hs x e.1) ∙ behind_events hs (with_event x e.1) es

-- one hearing goes on from another
pub record Follows (x y : Hearing) : Type 0 where
  pub more : List Header
  pub headers : y.headers ≡ x.headers ++ more
  pub order : progress x ≤ progress y

follows_self : (x : Hearing) → Follows x x
follows_self x = record { more = []; headers = sym (append-nil x.headers); order = omega arith }

follows_then : (x y z : Hearing) → Follows x y → Follows y z → Follows x z
follows_then x y z a b = record {
  more = a.more ++ b.more;
  headers = b.headers ∙ ap (λ (h : List Header). h ++ b.more) a.headers ∙ append_assoc x.headers a.more b.more;
  order = omega (arith, a.order, b.order);
}

follows_frame : (xs : List Header) (b : Bool) (f : Header) → Follows (hearing b xs) (with_event (hearing b xs) (Frame f))
follows_frame xs true f = follows_self (hearing true xs)
follows_frame xs false f = record { more = f ∷ []; headers = refl; order = omega (arith, length-append xs (f ∷ [])) }

follows_end : (xs : List Header) (b : Bool) → Follows (hearing b xs) (idle xs)
follows_end xs true = record { more = []; headers = sym (append-nil xs); order = omega arith }
follows_end xs false = follows_self (idle xs)

follows_event : (x : Hearing) (e : Event) → Follows x (with_event x e)
follows_event x (Frame f) = follows_frame x.headers x.under_way f
follows_event x (End n) = follows_end x.headers x.under_way
follows_event x (model.Holds f v) = follows_self x
follows_event x (model.Node_of k) = follows_self x
follows_event x (model.Cell_at r c y) = follows_self x
follows_event x (model.Leave l i) = follows_self x

follows_events : (x : Hearing) (es : List (ℕ × Event)) → Follows x (with_events x es)
follows_events x [] = follows_self x
follows_events x (e ∷ es) = follows_then x (with_event x e.1) (with_events (with_event x e.1) es) (follows_event x e.1) (follows_events (with_event x e.1) es)

first_of_cons : (h h' : Header) (more : List Header) → h' ∷ [] ≡ h ∷ more → h' ≡ h
first_of_cons h h' more same = cc

-- the header after these is one
pub same_header : (hs : List Header) (h h' : Header) (b b' : Bool) → Follows (hearing b (hs ++ h ∷ [])) (hearing b' (hs ++ h' ∷ [])) → h' ≡ h
same_header hs h h' b b' f = first_of_cons h h' f.more (append_cancel_left hs (h' ∷ []) (h ∷ f.more) (f.headers ∙ append_assoc hs (h ∷ []) f.more))

-- once a message is whole it is not under way, and not still to come
pub whole_not_amid : (hs : List Header) (h h' : Header) → Follows (idle (hs ++ h ∷ [])) (amid (hs ++ h' ∷ [])) → ⊥
whole_not_amid hs h h' f = omega (arith, f.order, length-append hs (h ∷ []), length-append hs (h' ∷ []))

pub whole_not_before : (hs : List Header) (h : Header) → Follows (idle (hs ++ h ∷ [])) (idle (hs ++ [])) → ⊥
whole_not_before hs h f = omega (arith, f.order, length-append hs (h ∷ []), length-append hs [])

pub begun_not_before : (hs : List Header) (h : Header) → Follows (amid (hs ++ h ∷ [])) (idle (hs ++ [])) → ⊥
begun_not_before hs h f = omega (arith, f.order, length-append hs (h ∷ []), length-append hs [])

-- ---- fronts

module _ (l : Rules) (xs : List ℕ) where
  -- some front of the events of the stream, and what they hold
  pub record Reported (x : Hearing) : Type 0 where
    pub events : List (ℕ × Event)
    pub place : Place
    pub rest : List ℕ
    pub read : Reads l start xs events place rest
    pub heard : with_events (idle []) events ≡ x

  -- all events of the stream, with this verdict, and what they hold
  pub record Ended (v : Verdict) (x : Hearing) : Type 0 where
    pub events : List (ℕ × Event)
    pub says : Says l start xs events v
    pub heard : with_events (idle []) events ≡ x

  goes_on : (x y : Hearing) (es fs more : List (ℕ × Event)) → with_events (idle []) es ≡ x → with_events (idle []) fs ≡ y → fs ≡ es ++ more → Follows x y
  goes_on x y es fs more here there same =
      let z = with_events (idle []) es in
      let to : with_events z more ≡ y = sym (events_then (idle []) es more) ∙ sym (ap (λ (w : List (ℕ × Event)). with_events (idle []) w) same) ∙ there in
      subst (λ (w : Hearing). Follows w y) here (subst (λ (w : Hearing). Follows z w) to (follows_events z more))

  front : (x y : Hearing) (a : Reported x) (b : Reported y) → length a.events ≤ length b.events → Follows x y
  front x y a b le =
      let r = runs_compare (step l) start a.place b.place xs a.rest b.rest a.events b.events a.read b.read le in
      goes_on x y a.events b.events r.0 a.heard b.heard r.1

  -- of two fronts one goes on from the other
  pub either : (x y : Hearing) → Reported x → Reported y → Follows x y ⊎ Follows y x
  either x y a b = elim (cases_lt (length a.events) (length b.events)) [
    | inl lt ↦ inl (front x y a b (omega arith))
    | inr le ↦ inr (front y x b a le)
  ]

  -- all events go on from each front
  pub within : (v : Verdict) (x y : Hearing) → Reported x → Ended v y → Follows x y
  within v x y a b =
      let le = no_further [] l xs b.events a.events v a.place a.rest b.says a.read in
      front x y a (record { events = b.events; place = b.says.0; rest = b.says.1; read = b.says.2; heard = b.heard }) le

  pub one_verdict : (v w : Verdict) (x y : Hearing) → Ended v x → Ended w y → w ≡ v
  one_verdict v w x y a b = (says_once l start xs a.events b.events v w a.says b.says).1

-- ---- between frames

header_only : (p : Place) (x : Emitted Event Place) (d : Heading) (b : List ℕ) → Yields (header_step p d) x b → (h : Header) × (x.event ≡ Frame h)
header_only p x (Ok h) b y = (h, sym (ap (λ (z : Emitted Event Place). z.event) y.0))
header_only p x (Err e) b y = absurd y

-- where no frame's end is due, a header comes next
stream_only : (l : Rules) (p : Place) (x : Emitted Event Place) (ss : List Symbol) (b : List ℕ) → ends_due ss ≡ 0 → Yields (step_at l p ss) x b → (h : Header) × (x.event ≡ Frame h)
stream_only l p x [] b none y = absurd y
stream_only l p x (Stream ∷ rest) b none y = let t = passed (ltb (2 ^ 63) p.offset) (p.offset, StreamTooLong) (Takes 9 (λ c. header_step p (heading c))) x b y in header_only p x (heading t.1.0) t.1.1 t.1.4
stream_only l p x (s ∷ rest) b none y = absurd cc

next_is_header : (l : Rules) (p q : Place) (b left : List ℕ) (e : ℕ × Event) (es : List (ℕ × Event)) → ends_due p.symbols ≡ 0 → Reads l p b (e ∷ es) q left → (h : Header) × (e.1 ≡ Frame h)
next_is_header l p q b left e es none run =
    let x : Emitted Event Place = record { at = e.0; event = e.1; after = run.1 } in
    let t = taken (step l p) x run.0 b run.2 in
    stream_only l (settled p) x p.symbols t.front none t.yields

-- so from between two frames no event leaves the hearing as it is
none_between : (l : Rules) (p q : Place) (b left : List ℕ) (hs : List Header) (es : List (ℕ × Event)) → ends_due p.symbols ≡ 0 → Reads l p b es q left → with_events (idle hs) es ≡ idle hs → es ≡ []
none_between l p q b left hs [] none run same = refl
none_between l p q b left hs (e ∷ es) none run same =
    let h = next_is_header l p q b left e es none run in
    let first : with_event (idle hs) e.1 ≡ amid (hs ++ h.0 ∷ []) = ap (λ (z : Event). with_event (idle hs) z) h.1 in
    let f : Follows (amid (hs ++ h.0 ∷ [])) (idle hs) = subst (λ (z : Hearing). Follows (amid (hs ++ h.0 ∷ [])) z) (ap (λ (z : Hearing). with_events z es) (sym first) ∙ same) (follows_events (amid (hs ++ h.0 ∷ [])) es) in
    absurd (omega (arith, f.order, length-append hs (h.0 ∷ [])))

-- A stream's front that ends between two frames, in which just these messages came, is one.
between_after : (l : Rules) (xs : List ℕ) (p q : Place) (rest rest' : List ℕ) (es fs : List (ℕ × Event)) (hs : List Header) → ends_due p.symbols ≡ 0 → Reads l start xs es p rest → Reads l start xs fs q rest' → with_events (idle []) es ≡ idle hs → with_events (idle []) fs ≡ idle hs → length es ≤ length fs → rest' ≡ rest
between_after l xs p q rest rest' es fs hs none x y here there le =
    let r = runs_compare (step l) start p q xs rest rest' es fs x y le in
    let same : with_events (idle hs) r.0 ≡ idle hs = ap (λ (z : Hearing). with_events z r.0) (sym here) ∙ sym (events_then (idle []) es r.0) ∙ sym (ap (λ (w : List (ℕ × Event)). with_events (idle []) w) r.1) ∙ there in
    (rw (none_between l p q rest rest' hs r.0 none r.2 same) at r.2).1

pub one_between : (l : Rules) (xs : List ℕ) (p q : Place) (rest rest' : List ℕ) (es fs : List (ℕ × Event)) (hs : List Header) → ends_due p.symbols ≡ 0 → ends_due q.symbols ≡ 0 → Reads l start xs es p rest → Reads l start xs fs q rest' → with_events (idle []) es ≡ idle hs → with_events (idle []) fs ≡ idle hs → rest' ≡ rest
one_between l xs p q rest rest' es fs hs none none' x y here there = elim (cases_lt (length es) (length fs)) [
  | inl lt ↦ between_after l xs p q rest rest' es fs hs none x y here there (omega arith)
  | inr le ↦ sym (between_after l xs q p rest' rest fs es hs none' y x there here le)
]

-- a refusal stays, whatever bytes follow
pub refused_on : (l : Rules) (p : Place) (bytes t : List ℕ) (es : List (ℕ × Event)) (k : ℕ) (why : Reason) → Says l p bytes es (Refused k why) → Says l p (bytes ++ t) es (Refused k why)
refused_on l p bytes t es k why a =
    let bad : says (step l a.0) 0 a.1 ≡ Bad (k, why) = is_bad (says (step l a.0) 0 a.1) k why a.3 in
    let still : says (step l a.0) 0 (a.1 ++ t) ≡ Bad (k, why) = stays_bad (k, why) (says_stays (step l a.0) 0 a.1 t) bad in
    (a.0, a.1 ++ t, runs_stay (step l) p bytes t es a.0 a.1 a.2, rw still refl)
