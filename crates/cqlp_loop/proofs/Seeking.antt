-- What the bytes of a piece lead to, event by event.
use Rattle.std.proofs.Common.{◌≡◌, ℕ, ◌+◌, Bool, false, List, [], ◌∷◌, ◌++◌, take, drop, refl, ap, subst, ◌∙◌, append_assoc}
use Rattle.std.specs.Prelude.{Option, Some, None, if◌then◌else◌}
use Rattle.std.proofs.lemmas.List.{append-nil, take-append-drop}
use Rattle.cqlp_note.specs.declared.header.Header.{Header}
use Rattle.cqlp_note.specs.declared.refusal.Refusal.{Refusal}
use Rattle.cqlp_grammar.specs.declared.event.Event as handed_out
use Rattle.cqlp_grammar.specs.Events as model
use Rattle.cqlp_grammar.specs.Events.{Event, Frame, End, event_of}
use Rattle.cqlp_decode.specs.declared.step.Step.TheVariants as steps
use Rattle.cqlp_decode.specs.Reading.{Verdict, Waits, Refused}
use Rattle.cqlp_decode.specs.Progress.{StreamState}
use Rattle.cqlp_decode.specs.Streams.{AfterBy, Goes, LeadsOn, Conforms, open_after, open_from}
use Rattle.cqlp_decode.proofs.Gets.{take_two}
use Rattle.cqlp_loop.specs.declared.inbox.Edge.{Edge}
use Rattle.cqlp_loop.specs.declared.inbox.Edge.TheVariants.{Begin, Finish}
use Rattle.cqlp_loop.specs.declared.inbox.Mark.{Mark}
use Rattle.cqlp_loop.specs.declared.inbox.Mark.TheVariants as mark
use Rattle.cqlp_loop.specs.Hearing.{Hearing, with_event, with_events}
use Rattle.cqlp_loop.specs.Inboxes.{Emits, SaysAll, Stops, mark_of, awaiting, past, due_at, IsAt}

pub events_then : (h : Hearing) (es fs : List (ℕ × Event)) → with_events h (es ++ fs) ≡ with_events (with_events h es) fs
events_then h [] fs = refl
events_then h (e ∷ es) fs = events_then (with_event h e.1) es fs

-- an event that is not waited for
skipped : (edge : Edge) (e : Event) (hs : List Header) → mark_of edge e ≡ None → with_event (awaiting edge hs) e ≡ awaiting edge hs
skipped Begin (Frame h) hs is = absurd cc
skipped Begin (End n) hs is = refl
skipped Begin (model.Holds f v) hs is = refl
skipped Begin (model.Node_of k) hs is = refl
skipped Begin (model.Cell_at r c x) hs is = refl
skipped Begin (model.Leave l i) hs is = refl
skipped Finish (Frame h) hs is = refl
skipped Finish (End n) hs is = absurd cc
skipped Finish (model.Holds f v) hs is = refl
skipped Finish (model.Node_of k) hs is = refl
skipped Finish (model.Cell_at r c x) hs is = refl
skipped Finish (model.Leave l i) hs is = refl

-- the one that is waited for
passed : (edge : Edge) (e : Event) (m : Mark) (hs : List Header) → mark_of edge e ≡ Some m → with_event (awaiting edge hs) e ≡ past m hs
passed Begin (Frame h) m hs is = let same : m ≡ mark.Head h = cc in rw same refl
passed Begin (End n) m hs is = absurd cc
passed Begin (model.Holds f v) m hs is = absurd cc
passed Begin (model.Node_of k) m hs is = absurd cc
passed Begin (model.Cell_at r c x) m hs is = absurd cc
passed Begin (model.Leave l i) m hs is = absurd cc
passed Finish (Frame h) m hs is = absurd cc
passed Finish (End n) m hs is = let same : m ≡ mark.Tail = cc in rw same refl
passed Finish (model.Holds f v) m hs is = absurd cc
passed Finish (model.Node_of k) m hs is = absurd cc
passed Finish (model.Cell_at r c x) m hs is = absurd cc
passed Finish (model.Leave l i) m hs is = absurd cc

pub is_at : (edge : Edge) (e : Event) (m : Mark) → mark_of edge e ≡ Some m → IsAt edge m
is_at Begin (Frame h) m is = let same : m ≡ mark.Head h = cc in rw same tt
is_at Begin (End n) m is = absurd cc
is_at Begin (model.Holds f v) m is = absurd cc
is_at Begin (model.Node_of k) m is = absurd cc
is_at Begin (model.Cell_at r c x) m is = absurd cc
is_at Begin (model.Leave l i) m is = absurd cc
is_at Finish (Frame h) m is = absurd cc
is_at Finish (End n) m is = let same : m ≡ mark.Tail = cc in rw same tt
is_at Finish (model.Holds f v) m is = absurd cc
is_at Finish (model.Node_of k) m is = absurd cc
is_at Finish (model.Cell_at r c x) m is = absurd cc
is_at Finish (model.Leave l i) m is = absurd cc

-- what is due after the mark
due_is : (edge : Edge) (e : Event) (m : Mark) → mark_of edge e ≡ Some m → (if open_after e then 1 else 0) ≡ due_at m
due_is Begin (Frame h) m is = let same : m ≡ mark.Head h = cc in rw same refl
due_is Begin (End n) m is = absurd cc
due_is Begin (model.Holds f v) m is = absurd cc
due_is Begin (model.Node_of k) m is = absurd cc
due_is Begin (model.Cell_at r c x) m is = absurd cc
due_is Begin (model.Leave l i) m is = absurd cc
due_is Finish (Frame h) m is = absurd cc
due_is Finish (End n) m is = let same : m ≡ mark.Tail = cc in rw same refl
due_is Finish (model.Holds f v) m is = absurd cc
due_is Finish (model.Node_of k) m is = absurd cc
due_is Finish (model.Cell_at r c x) m is = absurd cc
due_is Finish (model.Leave l i) m is = absurd cc

-- a frame is open, by the last event
open_last : (b : Bool) (es : List (ℕ × Event)) (e : ℕ × Event) → open_from b (es ++ e ∷ []) ≡ open_after e.1
open_last b [] e = refl
open_last b (x ∷ es) e = open_last (open_after x.1) es e

pub emits_none : (d : StreamState) (h : Hearing) → Emits d [] d h h
emits_none d h = record { more = []; leads = λ s es a. rw (append-nil s, append-nil es) a; heard = refl; rules = refl }

pub emits_then : (old mid new : StreamState) (a b : List ℕ) (x y z : Hearing) → Emits old a mid x y → Emits mid b new y z → Emits old (a ++ b) new x z
emits_then old mid new a b x y z p q = record {
  more = p.more ++ q.more;
  leads = λ s es at. rw (← (append_assoc s a b), ← (append_assoc es p.more q.more)) (q.leads (s ++ a) (es ++ p.more) (p.leads s es at));
  heard = events_then x p.more q.more ∙ ap (λ (h : Hearing). with_events h q.more) p.heard ∙ q.heard;
  rules = q.rules ∙ p.rules;
}

-- after some bytes were used, what all bytes after them say
pub says_then : (old mid : StreamState) (a b : List ℕ) (v : Verdict) (x y z : Hearing) → Emits old a mid x y → SaysAll mid b v y z → SaysAll old (a ++ b) v x z
says_then old mid a b v x y z p q = record {
  more = p.more ++ q.more;
  says = λ s es at. rw (append_assoc s a b, append_assoc es p.more q.more, p.rules) at (q.says (s ++ a) (es ++ p.more) (p.leads s es at));
  heard = events_then x p.more q.more ∙ ap (λ (h : Hearing). with_events h q.more) p.heard ∙ q.heard;
}

-- one event
emits_event : (old new : StreamState) (input : List ℕ) (at used : ℕ) (e : handed_out.Event) (h : Hearing) → Goes old (steps.Event at used e) new → LeadsOn old input (steps.Event at used e) new → Emits old (take used input) new h (with_event h (event_of e))
emits_event old new input at used e h goes leads = record {
  more = (at, event_of e) ∷ [];
  leads = λ s es a. (goes.3, (leads [] s es a.1).3);
  heard = refl;
  rules = goes.2;
}

-- all of a piece is used
more_emits : (old new : StreamState) (input : List ℕ) (used : ℕ) (h : Hearing) → Goes old (steps.More used) new → LeadsOn old input (steps.More used) new → Emits old input new h h
more_emits old new input used h goes leads = record {
  more = [];
  leads = λ s es a. (goes.1, rw (append-nil es) ((leads [] s es a.1).2));
  heard = refl;
  rules = goes.0;
}

more_says : (old new : StreamState) (input : List ℕ) (used : ℕ) (h : Hearing) → Goes old (steps.More used) new → LeadsOn old input (steps.More used) new → SaysAll old input Waits h h
more_says old new input used h goes leads = record {
  more = [];
  says = λ s es a. rw (append-nil es) (rw goes.0 at ((leads [] s es a.1).3));
  heard = refl;
}

refused_says : (old new : StreamState) (input : List ℕ) (r : Refusal) (h : Hearing) → LeadsOn old input (steps.Refused r) new → SaysAll old input (Refused r.at r.why) h h
refused_says old new input r h leads = record {
  more = [];
  says = λ s es a. rw (append-nil es) (rw a.0 at ((leads [] s es a.1).2));
  heard = refl;
}

module _ (old mid new : StreamState) (piece : List ℕ) (used : ℕ) (edge : Edge) (hs : List Header) (so_far : Emits old (take used piece) mid (awaiting edge hs) (awaiting edge hs)) where
  joined : (at taken : ℕ) (e : handed_out.Event) → Goes mid (steps.Event at taken e) new → LeadsOn mid (drop used piece) (steps.Event at taken e) new → Emits old (take (used + taken) piece) new (awaiting edge hs) (with_event (awaiting edge hs) (event_of e))
  joined at taken e goes leads = rw (take_two used taken piece) (emits_then old mid new _ _ _ _ _ so_far (emits_event mid new (drop used piece) at taken e _ goes leads))

  pub emits_skipped : (at taken : ℕ) (e : handed_out.Event) → Goes mid (steps.Event at taken e) new → LeadsOn mid (drop used piece) (steps.Event at taken e) new → mark_of edge (event_of e) ≡ None → Emits old (take (used + taken) piece) new (awaiting edge hs) (awaiting edge hs)
  emits_skipped at taken e goes leads is = rw (skipped edge (event_of e) hs is) at (joined at taken e goes leads)

  pub emits_mark : (at taken : ℕ) (e : handed_out.Event) (m : Mark) → Goes mid (steps.Event at taken e) new → LeadsOn mid (drop used piece) (steps.Event at taken e) new → mark_of edge (event_of e) ≡ Some m → Emits old (take (used + taken) piece) new (awaiting edge hs) (past m hs)
  emits_mark at taken e m goes leads is = rw (passed edge (event_of e) m hs is) at (joined at taken e goes leads)

  pub stops_mark : (at taken : ℕ) (e : handed_out.Event) (m : Mark) → LeadsOn mid (drop used piece) (steps.Event at taken e) new → mark_of edge (event_of e) ≡ Some m → Stops old m new
  stops_mark at taken e m leads is s es emitted_before =
      let there = so_far.leads s es emitted_before in
      let next = leads [] (s ++ take used piece) (es ++ so_far.more) there.1 in
      let events = es ++ so_far.more ++ (at, event_of e) ∷ [] in
      let bytes = s ++ take used piece ++ take taken (drop used piece) in
      let conforms : Conforms [] new bytes events = subst (λ (o : Option Refusal). AfterBy o [] new bytes events) next.1 next.3 in
      (next.2, conforms.due ∙ ap (λ (b : Bool). if b then 1 else 0) (open_last false (es ++ so_far.more) (at, event_of e)) ∙ due_is edge (event_of e) m is)

  whole : take used piece ++ drop used piece ≡ piece
  whole = take-append-drop used piece

  pub emits_more : (taken : ℕ) → Goes mid (steps.More taken) new → LeadsOn mid (drop used piece) (steps.More taken) new → Emits old piece new (awaiting edge hs) (awaiting edge hs)
  emits_more taken goes leads = rw whole at (emits_then old mid new (take used piece) (drop used piece) _ _ _ so_far (more_emits mid new (drop used piece) taken _ goes leads))

  pub says_more : (taken : ℕ) → Goes mid (steps.More taken) new → LeadsOn mid (drop used piece) (steps.More taken) new → SaysAll old piece Waits (awaiting edge hs) (awaiting edge hs)
  says_more taken goes leads = rw whole at (says_then old mid (take used piece) (drop used piece) _ _ _ _ so_far (more_says mid new (drop used piece) taken _ goes leads))

  pub says_refused : (r : Refusal) → LeadsOn mid (drop used piece) (steps.Refused r) new → SaysAll old piece (Refused r.at r.why) (awaiting edge hs) (awaiting edge hs)
  says_refused r leads = rw whole at (says_then old mid (take used piece) (drop used piece) _ _ _ _ so_far (refused_says mid new (drop used piece) r _ leads))
