-- What an observer sees of messages.
use Rattle.std.proofs.Common.{inl, inr, ◌≡◌, ◌≢◌, Bool, true, false, not, List, [], ◌∷◌, ◌++◌, refl, sym, ap, subst, ◌∙◌, Option, None, ℤ}
use Rattle.std.specs.Prelude.{find, map, ◌&&◌}
use Rattle.std.proofs.lemmas.Bool.{cases_Bool}
use Rattle.cqlp_note.specs.declared.opcode.Opcode.{Opcode}
use Rattle.cqlp_note.specs.declared.opcode.Opcode.TheVariants as opcode
use Rattle.cqlp_session.specs.Signal as signal
use Rattle.cqlp_session.specs.Signal.{Signal, signal_of}
use Rattle.cqlp_session.specs.World.{Request, event_message, request_message}
use Rattle.cqlp_session.proofs.Under.{int_eq_other}
use Rattle.cqlp_observer.specs.declared.message.Frame.{Frame}
use Rattle.cqlp_observer.specs.declared.message.Message.{Message as Seen}
use Rattle.cqlp_observer.specs.Messages.{id_of, is_event, is_of_event, is_request, is_under}
use Rattle.cqlp_observer_laws.proofs.Lists.{Apart, id_is, without}
use Rattle.cqlp_observer_laws.specs.Honest.{IsView, Said, asked, viewed}

abbrev pub Views : Type 0
Views = List (Seen (Option Request))

abbrev pub shown : (Said → Frame) → Request → Seen (Option Request)
shown view r = viewed view (asked (request_message r))

pub response_seen : (view : Said → Frame) → IsView view → (m : Said) → (view m).header.response ≡ m.seen.response
response_seen view is m = ap (λ (s : Signal). s.response) (is m)

pub id_seen : (view : Said → Frame) → IsView view → (m : Said) → id_of (viewed view m) ≡ m.seen.stream
id_seen view is m = ap (λ (s : Signal). s.stream) (is m)

opcode_seen : (view : Said → Frame) → IsView view → (m : Said) → (view m).header.opcode ≡ m.seen.opcode
opcode_seen view is m = ap (λ (s : Signal). s.opcode) (is m)

pub request_seen : (view : Said → Frame) → IsView view → (m : Said) → m.seen.response ≡ false → is_request (viewed view m) ≡ true
request_seen view is m e = ap not (response_seen view is m ∙ e)

pub reply_seen : (view : Said → Frame) → IsView view → (m : Said) → m.seen.response ≡ true → is_request (viewed view m) ≡ false
reply_seen view is m e = ap not (response_seen view is m ∙ e)

pub event_seen : (view : Said → Frame) → IsView view → (m : Said) → m.seen ≡ event_message.seen → is_event (viewed view m) ≡ true
event_seen view is m e =
    let response = response_seen view is m ∙ ap (λ (s : Signal). s.response) e in
    let kind = opcode_seen view is m ∙ ap (λ (s : Signal). s.opcode) e in
    let id = id_seen view is m ∙ ap (λ (s : Signal). s.stream) e in
    rw (response, kind, id) refl

same_event : (o : Opcode) → is_of_event o ≡ signal.is_event o
same_event opcode.Event = refl
same_event o = refl

third_false : (a b c : Bool) → b ≡ false → (a && b) && c ≡ false
third_false true b c e = rw e refl
third_false false b c e = refl

pub no_event_seen : (view : Said → Frame) → IsView view → (m : Said) → signal.is_event m.seen.opcode ≡ false → is_event (viewed view m) ≡ false
no_event_seen view is m e = third_false _ _ _ (ap is_of_event (opcode_seen view is m) ∙ same_event m.seen.opcode ∙ e)

event_of : (response event negative : Bool) → not response ≡ true → (response && event) && negative ≡ false
event_of true event negative e = absurd (cc e)
event_of false event negative e = refl

pub request_is_no_event : {T : Type 0} (m : Seen T) → is_request m ≡ true → is_event m ≡ false
request_is_no_event m is = event_of _ _ _ is

-- ---- lists

pub map_push : {X Y : Type 0} (f : X → Y) (xs : List X) (x : X) → map f (xs ++ x ∷ []) ≡ map f xs ++ f x ∷ []
map_push f [] x = refl
map_push {X} {Y} f (y ∷ xs) x = ap (λ (r : List Y). f y ∷ r) (map_push f xs x)

-- one that is under another id is no less found without those under this one
pub find_without : {T : Type 0} (id other : ℤ) (ms : List (Seen T)) → other ≢ id → find (is_under other) (without id ms) ≡ find (is_under other) ms
find_without id other [] ne = refl
find_without id other (m ∷ ms) ne = elim (cases_Bool (is_under id m)) [
  | inl is ↦
      let apart : is_under other m ≡ false = int_eq_other (id_of m) other (λ e. ne (sym e ∙ id_is id m is)) in
      rw (is, apart) refl
  | inr isnt ↦ elim (cases_Bool (is_under other m)) [
    | inl here ↦ rw (isnt, here) refl
    | inr not_here ↦ rw (isnt, not_here) (find_without id other ms ne)
  ]
]

pub none_without : {T : Type 0} (id : ℤ) (ms : List (Seen T)) → Apart ms → find (is_under id) (without id ms) ≡ None
none_without id [] h = refl
none_without id (m ∷ ms) h = elim (cases_Bool (is_under id m)) [
  | inl is ↦ rw is (subst (λ (i : ℤ). find (is_under i) ms ≡ None) (id_is id m is) h.0)
  | inr isnt ↦ rw (isnt, isnt) (none_without id ms h.1)
]
