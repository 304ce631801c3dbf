-- Two cores over two wires give back the values that they were given.
use Rattle.std.proofs.Common.{◌≡◌, ℕ, List, [], ◌∷◌, Option, Some, None, Ok, Err, Result, refl, ap, ◌∙◌, sym, subst, ℤ}
use Rattle.std.specs.Prelude.{IfOk, IsSomeAnd}
use Rattle.cqlp_note.specs.declared.opcode.Opcode.{Opcode}
use Rattle.cqlp_session.specs.declared.kind.RequestKind.{RequestKind}
use Rattle.cqlp_session.specs.declared.server.AnswerError.{AnswerError}
use Rattle.cqlp_session.specs.declared.server.ServerRefusal.{ServerRefusal}
use Rattle.cqlp_session.specs.declared.ticket.BeginError.{BeginError}
use Rattle.cqlp_session.specs.declared.ticket.Reply.{Reply}
use Rattle.cqlp_session.specs.declared.ticket.Reply.TheVariants as reply
use Rattle.cqlp_session.specs.declared.ticket.Stray.{Stray}
use Rattle.cqlp_session.specs.declared.ticket.Ticket.{Ticket}
use Rattle.cqlp_session.specs.Carriage.{Carriage, HaveOtherTickets, IsGivenUnder, IsReturned, Begin, Cancel, Reply_to}
use Rattle.cqlp_session.specs.CarryingWorld.{Answer, CarryingStep, CarryingWorld, Deliver_down, Deliver_up, IsAnswerWith, IsReplyWith, IsValueOf, Push, Send, ValuesArePaired, ValuesArePairedAfterAnySteps, carries_on, client_after, run_carrying, start_carrying}
use Rattle.cqlp_session.specs.CarryingWorld as step
use Rattle.cqlp_session.specs.Client.{ClientCore, begun, reply_to, ticket_for}
use Rattle.cqlp_session.specs.Pairing.{IfNext, IsReplyAbout}
use Rattle.cqlp_session.specs.Server.{ServerCore, accept_of, accepted, answer_of, answered}
use Rattle.cqlp_session.specs.Service.{Acceptance}
use Rattle.cqlp_session.specs.Slots.{under}
use Rattle.cqlp_session.specs.World.{Message, Request, World, delivered_down, delivered_up, happens, last_under, responded, sent, taken_in}
use Rattle.cqlp_session.specs.World as plain
use Rattle.cqlp_session.proofs.Carriages.{Carries, carries_after, carries_empty, returned_for}
use Rattle.cqlp_session.proofs.Paired.{IsPaired, answer_found, paired_happens, start_paired}
use Rattle.cqlp_session.proofs.Sentences.{replies_paired}
use Rattle.cqlp_session.proofs.Services.{Serves, serves_accepted, serves_answered, serves_new}
use Rattle.cqlp_session.proofs.Under.{all_pairs}

-- a client's core with what it carries and was given
abbrev pub client_part : {T U : Type 0} → CarryingWorld T U → Carriage T
client_part w = record { client = record { core = w.cores.client; carried = w.client_carries }; given = w.given }

-- What holds of two cores with values after each step.
pub record BothCarry {T U : Type 0} (w : CarryingWorld T U) : Type 0 where
  pub paired : IsPaired w.cores
  pub client : Carries (client_part w)
  pub server : Serves w.cores.server w.server_carries w.accepted

-- ---- which core a step moves

sent_client : (w : World) (k : RequestKind) (r : Result Ticket BeginError) → (sent w k r).client ≡ begun w.client k r
sent_client w k (Ok t) = refl
sent_client w k (Err why) = refl

sent_server : (w : World) (k : RequestKind) (r : Result Ticket BeginError) → (sent w k r).server ≡ w.server
sent_server w k (Ok t) = refl
sent_server w k (Err why) = refl

taken_client : (w : World) (m : Message Request) (rest : List (Message Request)) (r : Result RequestKind ServerRefusal) → (taken_in w m rest r).client ≡ w.client
taken_client w m rest (Ok k) = refl
taken_client w m rest (Err why) = refl

taken_server : (w : World) (m : Message Request) (rest : List (Message Request)) (r : Result RequestKind ServerRefusal) → (taken_in w m rest r).server ≡ accepted w.server m.seen r
taken_server w m rest (Ok k) = refl
taken_server w m rest (Err why) = refl

delivered_client : (w : World) (ms : List (Message Request)) → (delivered_up w ms).client ≡ w.client
delivered_client w [] = refl
delivered_client w (m ∷ rest) = taken_client w m rest (accept_of w.server m.seen)

responded_client : (w : World) (id : ℤ) (o : Opcode) (r : Result RequestKind AnswerError) → (responded w id o r).client ≡ w.client
responded_client w id o (Ok k) = refl
responded_client w id o (Err why) = refl

responded_server : (w : World) (id : ℤ) (o : Opcode) (r : Result RequestKind AnswerError) → (responded w id o r).server ≡ answered w.server id o r
responded_server w id o (Ok k) = refl
responded_server w id o (Err why) = refl

down_server : (w : World) (ms : List (Message (Option Request))) → (delivered_down w ms).server ≡ w.server
down_server w [] = refl
down_server w (m ∷ rest) = refl

-- the same parts of another core that is equal
same_client : {T : Type 0} (c d : ClientCore) (carried : List (Option T)) (given : List (Ticket × T)) → d ≡ c → Carries (record { client = record { core = c; carried = carried }; given = given }) → Carries (record { client = record { core = d; carried = carried }; given = given })
same_client c d carried given e p = subst (λ (q : ClientCore). Carries (record { client = record { core = q; carried = carried }; given = given })) (sym e) p

same_server : {U : Type 0} (c d : ServerCore) (carried : List (Option U)) (taken : List (Acceptance U)) → d ≡ c → Serves c carried taken → Serves d carried taken
same_server c d carried taken e p = subst (λ (q : ServerCore). Serves q carried taken) (sym e) p

-- ---- each step

module _ {T U : Type 0} where
  client_came : (w : CarryingWorld T U) (ms : List (Message (Option Request))) → Carries (client_part w) → Carries {T = T} (record { client = record { core = (delivered_down w.cores ms).client; carried = client_after w.cores.client w.client_carries ms }; given = w.given })
  client_came w [] p = p
  client_came w (m ∷ rest) p = carries_after (client_part w) (Reply_to m.seen) p

  server_came : (w : CarryingWorld T U) (value : U) (ms : List (Message Request)) → Serves w.cores.server w.server_carries w.accepted
      → Serves (delivered_up w.cores ms).server (step.server_after w.cores.server w.server_carries value ms) (step.accepted_after w.cores.server w.accepted value ms)
  server_came w value [] p = p
  server_came w value (m ∷ rest) p =
      same_server _ _ _ _ (taken_server w.cores m rest (accept_of w.cores.server m.seen))
      (serves_accepted w.cores.server w.server_carries w.accepted m.seen value (accept_of w.cores.server m.seen) refl p)

  both_after : (w : CarryingWorld T U) (s : CarryingStep T U) → BothCarry w → BothCarry (carries_on w s)
  both_after w (Send k value) p = record {
    paired = paired_happens w.cores (plain.Send k) p.paired;
    client = same_client _ _ _ _ (sent_client w.cores k (ticket_for w.cores.client k)) (carries_after (client_part w) (Begin k value) p.client);
    server = same_server _ _ _ _ (sent_server w.cores k (ticket_for w.cores.client k)) p.server;
  }
  both_after w (Deliver_up value) p = record {
    paired = paired_happens w.cores plain.Deliver_up p.paired;
    client = same_client _ _ _ _ (delivered_client w.cores w.cores.up) p.client;
    server = server_came w value w.cores.up p.server;
  }
  both_after w (Answer id o) p = record {
    paired = paired_happens w.cores (plain.Answer id o) p.paired;
    client = same_client _ _ _ _ (responded_client w.cores id o (answer_of w.cores.server id o)) p.client;
    server = same_server _ _ _ _ (responded_server w.cores id o (answer_of w.cores.server id o)) (serves_answered w.cores.server w.server_carries w.accepted id o (answer_of w.cores.server id o) p.server);
  }
  both_after w Push p = record { paired = paired_happens w.cores plain.Push p.paired; client = p.client; server = p.server }
  both_after w Deliver_down p = record {
    paired = paired_happens w.cores plain.Deliver_down p.paired;
    client = client_came w w.cores.down p.client;
    server = same_server _ _ _ _ (down_server w.cores w.cores.down) p.server;
  }
  both_after w (step.Cancel t) p = record {
    paired = paired_happens w.cores (plain.Cancel t) p.paired;
    client = carries_after (client_part w) (Cancel t) p.client;
    server = p.server;
  }

  both_all : (steps : List (CarryingStep T U)) (w : CarryingWorld T U) → BothCarry w → BothCarry (run_carrying steps w)
  both_all [] w p = p
  both_all (s ∷ steps) w p = both_all steps (carries_on w s) (both_after w s p)

both_start : (T U : Type 0) (c s : ℕ) → BothCarry {T = T} {U = U} (start_carrying c s)
both_start T U c s = record { paired = start_paired c s; client = carries_empty T c; server = serves_new U s }

-- ---- what is handed out

tag_value : {T : Type 0} (given : List (Ticket × T)) (carried : Option T) (tag : Option Request) (r : Result Reply Stray) → IsReplyAbout tag r → IfOk r (IsReturned given carried) → IsValueOf given carried tag
tag_value given carried None (Ok reply.ServerEvent) about value = value
tag_value given carried (Some q) (Ok reply.ServerEvent) about value = absurd (cc about)
tag_value given carried None (Ok (reply.Answer t k)) about value = absurd (cc about)
tag_value given carried (Some q) (Ok (reply.Answer t k)) about value =
    let same : q ≡ (record { ticket = t; kind = k }) = cc in
    subst (λ (x : Ticket). IsGivenUnder given x carried) (sym (ap (λ (x : Request). x.ticket) same)) value
tag_value given carried None (Ok (reply.Dropped t)) about value = absurd about
tag_value given carried (Some q) (Ok (reply.Dropped t)) about value = subst (λ (x : Ticket). IsGivenUnder given x carried) (sym about) value
tag_value given carried tag (Err why) about value = absurd about

some_and : (o : Option Request) (r : Request) (k : RequestKind) → o ≡ Some r → r.kind ≡ k → IsSomeAnd o (λ q. q.kind ≡ k)
some_and None r k e same = absurd (cc e)
some_and (Some q) r k e same = let is : q ≡ r = cc in ap (λ (x : Request). x.kind) is ∙ same

module _ {T U : Type 0} where
  next_value : (w : CarryingWorld T U) (ms : List (Message (Option Request))) → BothCarry w → IfNext ms (λ m. IsReplyAbout m.tag (reply_to w.cores.client m.seen))
      → IfNext ms (λ m. IsReplyWith w.given m.tag (reply_to w.cores.client m.seen) (under w.client_carries m.seen.stream))
  next_value w [] p about = tt
  next_value w (m ∷ rest) p about = record {
    paired = about;
    value = tag_value w.given (under w.client_carries m.seen.stream) m.tag (reply_to w.cores.client m.seen) about (returned_for (client_part w) m.seen (reply_to w.cores.client m.seen) refl p.client);
  }

  answer_with : (w : CarryingWorld T U) (id : ℤ) (o : Opcode) (r : Result RequestKind AnswerError) → answer_of w.cores.server id o ≡ r → BothCarry w
      → IfOk r (IsAnswerWith w.cores w.accepted (under w.server_carries id) id)
  answer_with w id o (Err why) is p = tt
  answer_with w id o (Ok k) is p =
      let there = (answer_found w.cores.server id o k is).there in
      let t = p.paired.taken id k there in
      record { paired = some_and (last_under id w.cores.taken) t.request k t.last t.kind; value = p.server.last id k there }

pub values_paired : (T U : Type 0) → ValuesArePairedAfterAnySteps T U
values_paired T U client server steps =
    let w : CarryingWorld T U = run_carrying steps (start_carrying client server) in
    let p : BothCarry w = both_all steps (start_carrying client server) (both_start T U client server) in
    record {
      replies = next_value w w.cores.down p (replies_paired w.cores p.paired);
      answers = λ id o. answer_with w id o (answer_of w.cores.server id o) refl p;
      apart = all_pairs HaveOtherTickets w.given p.client.apart;
    }
