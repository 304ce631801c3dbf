-- What a world says of its next steps.
use Rattle.std.proofs.Common.{◌≡◌, ◌≢◌, Bool, true, false, List, [], ◌∷◌, Option, Some, None, Ok, Err, Result, cond, refl, ap, ◌∙◌, sym, subst}
use Rattle.std.specs.Prelude.{All, IfOk, IsOk}
use Rattle.std.proofs.lemmas.List.Elements.{All-from_recursion}
use Rattle.std.specs.List.{AllByRecursion}
use Rattle.cqlp_note.specs.declared.opcode.Opcode.TheVariants as opcode
use Rattle.cqlp_session.specs.declared.kind.RequestKind.{RequestKind}
use Rattle.cqlp_session.specs.declared.streams.OpenRequest.{OpenRequest}
use Rattle.cqlp_session.specs.declared.ticket.Ticket.{Ticket}
use Rattle.cqlp_session.specs.declared.ticket.Reply.{Reply}
use Rattle.cqlp_session.specs.declared.ticket.Reply.TheVariants as reply
use Rattle.cqlp_session.specs.declared.ticket.Stray.{Stray}
use Rattle.cqlp_session.specs.declared.ticket.BeginError.{BeginError}
use Rattle.cqlp_session.specs.Signal.{Signal, is_event}
use Rattle.cqlp_session.specs.Client.{ClientCore, reply_to, replied, ticket_for}
use Rattle.cqlp_session.specs.World.{World, Request, Message, delivered_down, event_message}
use Rattle.cqlp_session.specs.Pairing.{EventsChangeNothing, HaveOtherIds, HaveOtherNumbers, IdsAreApart, IfNext, IsEventAlone, IsReplyAbout, RepliesArePaired}
use Rattle.cqlp_session.proofs.Under.{all_pairs, each_weaker}
use Rattle.cqlp_session.proofs.Paired.{IsComing, IsComingAs, IsPaired, known_apart, no_event, reply_reported, ticket_found}

-- ---- the next reply

event_reported : (c : ClientCore) (s : Signal) → s ≡ event_message.seen → reply_to c s ≡ Ok reply.ServerEvent
event_reported c s e = ap (reply_to c) e

about : (s : Signal) (o : OpenRequest) (r : Request) (cancelled : Bool) → s.stream ≡ r.ticket.id → o.number ≡ r.ticket.number → o.kind ≡ r.kind
    → (let ticket : Ticket = record { id = s.stream; number = o.number } in IsReplyAbout (Some r) (Ok (cond cancelled (reply.Dropped ticket) (reply.Answer ticket o.kind))))
about s o r true id number kind = λ i. record { id = sym id i; number = sym number i }
about s o r false id number kind = λ i. Some (record { ticket = record { id = sym id i; number = sym number i }; kind = sym kind i })

reply_about : (c : ClientCore) (s : Signal) (tag : Option Request) → IsComingAs c.slots s tag → IsReplyAbout tag (reply_to c s)
reply_about c s None h = subst (IsReplyAbout None) (sym (event_reported c s h)) refl
reply_about c s (Some r) h =
    subst (IsReplyAbout (Some r)) (sym (reply_reported c s r h)) (about s h.known.entry r h.known.entry.cancelled h.stream h.known.number h.known.kind)

next_reply : (w : World) (ms : List (Message (Option Request))) → AllByRecursion (IsComing w.client.slots) ms → IfNext ms (λ m. IsReplyAbout m.tag (reply_to w.client m.seen))
next_reply w [] h = tt
next_reply w (m ∷ rest) h = reply_about w.client m.seen m.tag h.0

pub replies_paired : (w : World) → IsPaired w → RepliesArePaired w
replies_paired w p = next_reply w w.down p.down

-- ---- the next event

event_alone : (w : World) (m : Message (Option Request)) (rest : List (Message (Option Request))) (tag : Option Request) → w.down ≡ m ∷ rest → IsComingAs w.client.slots m.seen tag → m.seen.opcode ≡ opcode.Event → IsEventAlone w m
event_alone w m rest None e h event = record {
  reported = event_reported w.client m.seen h;
  client = ap (λ d. (delivered_down w d).client) e ∙ ap (λ s. replied w.client s (reply_to w.client s)) h;
  server = ap (λ d. (delivered_down w d).server) e;
}
event_alone w m rest (Some r) e h event = absurd (cc (ap is_event event, no_event r.kind m.seen.opcode h.fits))

next_event : (w : World) (ms : List (Message (Option Request))) → w.down ≡ ms → AllByRecursion (IsComing w.client.slots) ms → IfNext ms (λ m. m.seen.opcode ≡ opcode.Event → IsEventAlone w m)
next_event w [] e h = tt
next_event w (m ∷ rest) e h = event_alone w m rest m.tag e h.0

pub events_alone : (w : World) → IsPaired w → EventsChangeNothing w
events_alone w p = next_event w w.down refl p.down

-- ---- the next ticket

next_ticket : (w : World) (k : RequestKind) (o : Result Ticket BeginError) → IsPaired w → ticket_for w.client k ≡ o → IfOk o (λ t. All (λ r. r.ticket.id ≢ t.id) w.waiting)
next_ticket w k (Ok t) p e =
    let free = ticket_found w.client k t e in
    All-from_recursion (λ r. r.ticket.id ≢ t.id) w.waiting (each_weaker _ _ w.waiting (λ r h. known_apart w.client.slots t.id r free.free h) p.waiting)
next_ticket w k (Err x) p e = tt

pub ids_apart : (w : World) → IsPaired w → IdsAreApart w
ids_apart w p = record {
  waiting = all_pairs HaveOtherIds w.waiting p.waiting_apart;
  numbers = all_pairs HaveOtherNumbers w.waiting p.numbers_apart;
  serving = all_pairs HaveOtherIds w.serving p.serving_apart;
  next = λ k. next_ticket w k (ticket_for w.client k) p refl;
}

-- ---- no reply is refused

reply_taken : (c : ClientCore) (s : Signal) (tag : Option Request) → IsComingAs c.slots s tag → IsOk (reply_to c s)
reply_taken c s None h = subst (λ (r : Result Reply Stray). IsOk r) (sym (event_reported c s h)) refl
reply_taken c s (Some r) h = subst (λ (r : Result Reply Stray). IsOk r) (sym (reply_reported c s r h)) refl

next_taken : (w : World) (ms : List (Message (Option Request))) → AllByRecursion (IsComing w.client.slots) ms → IfNext ms (λ m. IsOk (reply_to w.client m.seen))
next_taken w [] h = tt
next_taken w (m ∷ rest) h = reply_taken w.client m.seen m.tag h.0

pub replies_taken : (w : World) → IsPaired w → IfNext w.down (λ m. IsOk (reply_to w.client m.seen))
replies_taken w p = next_taken w w.down p.down
