-- Two conversations that are alike, over the same bytes, make the same next turn.
use Rattle.std.proofs.Common.{◌≡◌, ℕ, ℤ, Bool, List, [], ◌∷◌, ◌++◌, length, refl, sym, ap, subst, ◌∙◌, inl, inr, ◌≤◌, arith}
use Rattle.std.specs.Prelude.{Option, Some, None, IsSome, Result, Ok, Err}
use Rattle.std.proofs.lemmas.Bool.{lt-ltb}
use Rattle.std.specs.Io.KnownBytes.{Appends}
use Rattle.std.proofs.KnownBytes.{Appends-nil, Appends-trans}
use Rattle.cqlp_note.specs.declared.header.Header.{Header}
use Rattle.cqlp_note.specs.declared.opcode.Opcode.{Opcode}
use Rattle.cqlp_note.specs.Limits.{Rules}
use Rattle.cqlp_note.specs.Streams.{counted}
use Rattle.cqlp_message.specs.FrameValues.{FrameValue}
use Rattle.cqlp_message.specs.Frames.{frame_bytes}
use Rattle.cqlp_text.specs.Outputs.{Output, output, with_text}
use Rattle.cqlp_session.specs.declared.kind.RequestKind.{RequestKind}
use Rattle.cqlp_session.specs.declared.ticket.Ticket.{Ticket}
use Rattle.cqlp_session.specs.declared.ticket.Reply.{Reply}
use Rattle.cqlp_session.specs.declared.ticket.Reply.TheVariants.{Answer}
use Rattle.cqlp_session.specs.declared.ticket.Stray.{Stray}
use Rattle.cqlp_session.specs.Signal.{signal_of}
use Rattle.cqlp_session.specs.Client.{ClientCore, begun, replied, reply_to, ticket_for}
use Rattle.cqlp_session.specs.Server.{ServerCore, accept_of, accepted, answer_of, answered}
use Rattle.cqlp_loop.specs.declared.fault.LoopFault.{LoopFault}
use Rattle.cqlp_loop.specs.declared.fault.LoopFault.TheVariants as fault
use Rattle.cqlp_loop.specs.declared.request.Request.{Request}
use Rattle.cqlp_loop.specs.Hearing.{idle}
use Rattle.cqlp_loop.specs.Exchanges.{Writes, kind_of, opcode_of, request_frame, reply_frame}
use Rattle.cqlp_loop.specs.Callers.{CallerState, Prints, IsNoAnswerIn, reply_line, done_line}
use Rattle.cqlp_loop.specs.Inboxes.{InboxState}
use Rattle.cqlp_loop.specs.Callers as caller
use Rattle.cqlp_loop.specs.Hosts.{HostState}
use Rattle.cqlp_loop.specs.Hosts as host
use Rattle.cqlp_loop.specs.Script.{End, Wires, Scene, LoopStep, Comes}
use Rattle.cqlp_loop.specs.Script as turn
use Rattle.cqlp_tool_laws.specs.Conversations.{IsSound, IsSoundEnd, IsDecided, AreGivenTheSame, SaidTheSame}
use Rattle.cqlp_tool_laws.proofs.Receipts.{Conformed, IsDecidedBy, counts_up, conformed_as, one_header, conform_on, not_other, not_one, one_fault}

-- ---- what was given

pub kept_given : (o n : Output) → n ≡ o → Appends o.given n.given []
kept_given o n same = subst (λ (z : Output). Appends o.given z.given []) (sym same) (Appends-nil o.given)

pub given_nothing : (o n o' n' : Output) → n ≡ o → n' ≡ o' → AreGivenTheSame o n o' n'
given_nothing o n o' n' same same' = ([], kept_given o n same, kept_given o' n' same')

given_then : (o m n o' m' n' : Output) → AreGivenTheSame o m o' m' → AreGivenTheSame m n m' n' → AreGivenTheSame o n o' n'
given_then o m n o' m' n' p q = (p.0 ++ q.0, Appends-trans o.given m.given n.given p.0 q.0 p.1 q.1, Appends-trans o'.given m'.given n'.given p.0 q.0 p.2 q.2)

pub said_then : (a b c a' b' c' : Wires) → SaidTheSame a b a' b' → SaidTheSame b c b' c' → SaidTheSame a c a' c'
said_then a b c a' b' c' p q = record {
  client = given_then a.client.target b.client.target c.client.target a'.client.target b'.client.target c'.client.target p.client q.client;
  server = given_then a.server.target b.server.target c.server.target a'.server.target b'.server.target c'.server.target p.server q.server;
  lines = given_then a.out b.out c.out a'.out b'.out c'.out p.lines q.lines;
}

-- ---- what the bytes decided

pub not_memory : (r : Result (Unit {0}) LoopFault) (w v : Wires) → IsDecided r w v → r ≡ Err fault.NoMemory → ⊥
not_memory r w v d is = subst (λ (x : Result (Unit {0}) LoopFault). IsDecided x w v) is d

pub not_output : (r : Result (Unit {0}) LoopFault) (w v : Wires) → IsDecided r w v → r ≡ Err fault.WriteFault → ⊥
not_output r w v d is = subst (λ (x : Result (Unit {0}) LoopFault). IsDecided x w v) is d

pub both_sound : (r : Result (Unit {0}) LoopFault) (w v : Wires) → IsDecided r w v → r ≡ Err fault.SocketFault → IsSoundEnd w.client v.client × IsSoundEnd w.server v.server
both_sound r w v d is = subst (λ (x : Result (Unit {0}) LoopFault). IsDecided x w v) is d

pub client_decided : (r : Result (Unit {0}) LoopFault) (e : LoopFault) (w v : Wires) → r ≡ Err e → IsDecided r w v → IsDecidedBy e w.client.source v.client.source
client_decided r e w v is d = by_fault e (subst (λ (x : Result (Unit {0}) LoopFault). IsDecided x w v) is d) where
  by_fault : (e : LoopFault) → IsDecided (Err e) w v → IsDecidedBy e w.client.source v.client.source
  by_fault fault.BadReply d = tt
  by_fault fault.SocketFault d = d.0.0
  by_fault fault.TooManyTurns d = absurd d
  by_fault fault.NoMemory d = absurd d
  by_fault fault.WriteFault d = absurd d

server_decided : (r : Result (Unit {0}) LoopFault) (e : LoopFault) (w v : Wires) → r ≡ Err e → IsDecided r w v → IsDecidedBy e w.server.source v.server.source
server_decided r e w v is d = by_fault e (subst (λ (x : Result (Unit {0}) LoopFault). IsDecided x w v) is d) where
  by_fault : (e : LoopFault) → IsDecided (Err e) w v → IsDecidedBy e w.server.source v.server.source
  by_fault fault.BadReply d = tt
  by_fault fault.SocketFault d = d.1.0
  by_fault fault.TooManyTurns d = absurd d
  by_fault fault.NoMemory d = absurd d
  by_fault fault.WriteFault d = absurd d

pub wrote : (f : FrameValue) (o n : Output) (r : Result (Unit {0}) LoopFault) → (r ≡ Err fault.NoMemory → ⊥) → (r ≡ Err fault.SocketFault → IsSound o.failures n.failures) → Writes f o r n → (r ≡ Ok tt) × Appends o.given n.given (frame_bytes f)
wrote f o n (Ok u) memory sound w = (refl, w.0)
wrote f o n (Err fault.SocketFault) memory sound (k, within, given) =
    let s = sound refl in
    absurd (counts_up o.failures s.0 (sym (ap (λ (t : Bool). counted t o.failures) (lt-ltb k (length (frame_bytes f)) within)) ∙ sym given.failures ∙ s.1))
wrote f o n (Err fault.NoMemory) memory sound w = absurd (memory refl)
wrote f o n (Err fault.BadReply) memory sound w = absurd w
wrote f o n (Err fault.TooManyTurns) memory sound w = absurd w
wrote f o n (Err fault.WriteFault) memory sound w = absurd w

pub appended : (given : Option (List ℕ)) (failures : ℕ) (n : Output) (line : List ℕ) → (IsSome given → n ≡ with_text (output given failures) line) → Appends given n.given line
appended None failures n line p = tt
appended (Some x) failures n line p = subst (λ (z : Output). Appends (Some x) z.given line) (sym (p refl)) refl

pub printed : (line : List ℕ) (o n : Output) (r : Result (Unit {0}) LoopFault) → (r ≡ Err fault.NoMemory → ⊥) → (r ≡ Err fault.WriteFault → ⊥) → Prints line o r n → (r ≡ Ok tt) × Appends o.given n.given line
printed line o n (Ok u) memory sound p = (refl, appended o.given o.failures n line p)
printed line o n (Err fault.WriteFault) memory sound p = absurd (sound refl)
printed line o n (Err fault.NoMemory) memory sound p = absurd (memory refl)
printed line o n (Err fault.BadReply) memory sound p = absurd p
printed line o n (Err fault.TooManyTurns) memory sound p = absurd p
printed line o n (Err fault.SocketFault) memory sound p = absurd p

-- ---- the cores

pub client_never : (c : ClientCore) (h : Header) → caller.Takes c h → caller.Refuses c h → ⊥
client_never c h t r = subst (λ (x : Result Reply Stray). IsNoAnswerIn x) t.1.1 r

server_never : (c : ServerCore) (h : Header) → host.Takes c h → host.Refuses c h → ⊥
server_never c h t r = let ok = t.1 in let err = r.1 in cc

pub same_ok : {A E : Type 0} (x y : A) (r : Result A E) → r ≡ Ok x → r ≡ Ok y → y ≡ x
same_ok x y r a b = cc

pub ok_or_err : {A E : Type 0} (x : A) (e : E) (r : Result A E) → r ≡ Ok x → r ≡ Err e → ⊥
ok_or_err x e r a b = cc

pub same_ticket : (t u : Ticket) (k j : RequestKind) → ◌≡◌ {A = Reply} (Answer u j) (Answer t k) → u ≡ t
same_ticket t u k j same = cc

pub same_cons : (x y : ℤ) (xs ys : List ℤ) → x ∷ xs ≡ y ∷ ys → (x ≡ y) × (xs ≡ ys)
same_cons x y xs ys same = (cc, cc)

fewer : {m n : ℕ} → m ≡ n → n ≤ 4096 → m ≤ 4096
fewer same few = omega (arith, same, few)

-- ---- two scenes

module _ (l : Rules) (to_client to_server : List ℕ) where
  -- the clients have the same requests open, and heard the same
  pub record ClientsAlike (a a' : Scene) : Type 0 where
    pub core : a'.caller.core ≡ a.caller.core
    pub heard : List Header
    pub used : List ℕ
    pub here : Conformed l to_client used a.caller.inbox a.wires.client.source (idle heard)
    pub there : Conformed l to_client used a'.caller.inbox a'.wires.client.source (idle heard)
    pub waiting : length a.caller.inbox.waiting ≤ 4096
    pub waiting' : length a'.caller.inbox.waiting ≤ 4096

  -- the same of the servers
  pub record ServersAlike (a a' : Scene) : Type 0 where
    pub core : a'.host.core ≡ a.host.core
    pub ids : a'.unanswered ≡ a.unanswered
    pub heard : List Header
    pub used : List ℕ
    pub here : Conformed l to_server used a.host.inbox a.wires.server.source (idle heard)
    pub there : Conformed l to_server used a'.host.inbox a'.wires.server.source (idle heard)
    pub waiting : length a.host.inbox.waiting ≤ 4096
    pub waiting' : length a'.host.inbox.waiting ≤ 4096

  abbrev pub Alike : (a a' : Scene) → Type 0
  Alike a a' = ClientsAlike a a' × ServersAlike a a'

  -- one answer of a turn
  pub record Once (r r' : Result (Unit {0}) LoopFault) (a b a' b' : Scene) : Type 0 where
    pub answer : r' ≡ r
    pub said : SaidTheSame a.wires b.wires a'.wires b'.wires
    pub alike : r ≡ Ok tt → Alike b b'

  clients_kept : (a b a' b' : Scene) → b.caller ≡ a.caller → b'.caller ≡ a'.caller → b.wires.client.source ≡ a.wires.client.source → b'.wires.client.source ≡ a'.wires.client.source → ClientsAlike a a' → ClientsAlike b b'
  clients_kept a b a' b' c c' s s' al = record {
    core = ap (λ (z : CallerState). z.core) c' ∙ al.core ∙ sym (ap (λ (z : CallerState). z.core) c);
    heard = al.heard;
    used = al.used;
    here = conformed_as l to_client al.used a.caller.inbox b.caller.inbox a.wires.client.source b.wires.client.source (idle al.heard) (ap (λ (z : CallerState). z.inbox) c) s al.here;
    there = conformed_as l to_client al.used a'.caller.inbox b'.caller.inbox a'.wires.client.source b'.wires.client.source (idle al.heard) (ap (λ (z : CallerState). z.inbox) c') s' al.there;
    waiting = fewer (ap (λ (z : InboxState). length z.waiting) (ap (λ (z : CallerState). z.inbox) c)) al.waiting;
    waiting' = fewer (ap (λ (z : InboxState). length z.waiting) (ap (λ (z : CallerState). z.inbox) c')) al.waiting';
  }

  servers_kept : (a b a' b' : Scene) → b.host ≡ a.host → b'.host ≡ a'.host → b.unanswered ≡ a.unanswered → b'.unanswered ≡ a'.unanswered → b.wires.server.source ≡ a.wires.server.source → b'.wires.server.source ≡ a'.wires.server.source → ServersAlike a a' → ServersAlike b b'
  servers_kept a b a' b' h h' i i' s s' al = record {
    core = ap (λ (z : HostState). z.core) h' ∙ al.core ∙ sym (ap (λ (z : HostState). z.core) h);
    ids = i' ∙ al.ids ∙ sym i;
    heard = al.heard;
    used = al.used;
    here = conformed_as l to_server al.used a.host.inbox b.host.inbox a.wires.server.source b.wires.server.source (idle al.heard) (ap (λ (z : HostState). z.inbox) h) s al.here;
    there = conformed_as l to_server al.used a'.host.inbox b'.host.inbox a'.wires.server.source b'.wires.server.source (idle al.heard) (ap (λ (z : HostState). z.inbox) h') s' al.there;
    waiting = fewer (ap (λ (z : InboxState). length z.waiting) (ap (λ (z : HostState). z.inbox) h)) al.waiting;
    waiting' = fewer (ap (λ (z : InboxState). length z.waiting) (ap (λ (z : HostState). z.inbox) h')) al.waiting';
  }

  module _ (r r' : Result (Unit {0}) LoopFault) (a b a' b' : Scene) (al : Alike a a') (d : IsDecided r a.wires b.wires) (d' : IsDecided r' a'.wires b'.wires) where
    -- the client asks
    pub asks : (q : Request) → Comes (turn.Asks q) a r b → Comes (turn.Asks q) a' r' b' → Once r r' a b a' b'
    asks q (inl (t, ok, new, w), e) (inl (t', ok', new', w'), e') =
        let same : t' ≡ t = same_ok t t' (ticket_for a.caller.core (kind_of q)) ok (ap (λ (c : ClientCore). ticket_for c (kind_of q)) (sym al.0.core) ∙ ok') in
        let x = wrote (request_frame q t.id) a.wires.client.target b.wires.client.target r (not_memory r a.wires b.wires d) (λ is. (both_sound r a.wires b.wires d is).0.1) w in
        let x' = wrote (request_frame q t'.id) a'.wires.client.target b'.wires.client.target r' (not_memory r' a'.wires b'.wires d') (λ is. (both_sound r' a'.wires b'.wires d' is).0.1) w' in
        record {
          answer = x'.0 ∙ sym x.0;
          said = record {
            client = (frame_bytes (request_frame q t.id), x.1, subst (λ (u : Ticket). Appends a'.wires.client.target.given b'.wires.client.target.given (frame_bytes (request_frame q u.id))) same x'.1);
            server = given_nothing _ _ _ _ (ap (λ (z : Scene). z.wires.server.target) e) (ap (λ (z : Scene). z.wires.server.target) e');
            lines = given_nothing _ _ _ _ (ap (λ (z : Scene). z.wires.out) e) (ap (λ (z : Scene). z.wires.out) e');
          };
          alike = λ is. (
            record {
              core = ap (λ (z : CallerState). z.core) new' ∙ ap (λ (c : ClientCore). begun c (kind_of q) (Ok t')) al.0.core ∙ ap (λ (u : Ticket). begun a.caller.core (kind_of q) (Ok u)) same ∙ sym (ap (λ (z : CallerState). z.core) new);
              heard = al.0.heard;
              used = al.0.used;
              here = conformed_as l to_client al.0.used a.caller.inbox b.caller.inbox a.wires.client.source b.wires.client.source (idle al.0.heard) (ap (λ (z : CallerState). z.inbox) new) (ap (λ (z : Scene). z.wires.client.source) e) al.0.here;
              there = conformed_as l to_client al.0.used a'.caller.inbox b'.caller.inbox a'.wires.client.source b'.wires.client.source (idle al.0.heard) (ap (λ (z : CallerState). z.inbox) new') (ap (λ (z : Scene). z.wires.client.source) e') al.0.there;
              waiting = fewer (ap (λ (z : InboxState). length z.waiting) (ap (λ (z : CallerState). z.inbox) new)) al.0.waiting;
              waiting' = fewer (ap (λ (z : InboxState). length z.waiting) (ap (λ (z : CallerState). z.inbox) new')) al.0.waiting';
            },
            servers_kept a b a' b' (ap (λ (z : Scene). z.host) e) (ap (λ (z : Scene). z.host) e') (ap (λ (z : Scene). z.unanswered) e) (ap (λ (z : Scene). z.unanswered) e') (ap (λ (z : Scene). z.wires.server.source) e) (ap (λ (z : Scene). z.wires.server.source) e') al.1,
          );
        }
    asks q (inl (t, ok, new, w), e) (inr (f', err', is', new', s'), e') = absurd (ok_or_err t f' (ticket_for a.caller.core (kind_of q)) ok (ap (λ (c : ClientCore). ticket_for c (kind_of q)) (sym al.0.core) ∙ err'))
    asks q (inr (f, err, is, new, s), e) (inl (t', ok', new', w'), e') = absurd (ok_or_err t' f (ticket_for a.caller.core (kind_of q)) (ap (λ (c : ClientCore). ticket_for c (kind_of q)) (sym al.0.core) ∙ ok') err)
    asks q (inr (f, err, is, new, s), e) (inr (f', err', is', new', s'), e') = record {
      answer = is' ∙ sym is;
      said = record {
        client = given_nothing _ _ _ _ s s';
        server = given_nothing _ _ _ _ (ap (λ (z : Scene). z.wires.server.target) e) (ap (λ (z : Scene). z.wires.server.target) e');
        lines = given_nothing _ _ _ _ (ap (λ (z : Scene). z.wires.out) e) (ap (λ (z : Scene). z.wires.out) e');
      };
      alike = λ ok. absurd (ok_or_err tt fault.BadReply r ok is);
    }

    -- ---- the server takes a request

    ids_kept : (x y : ℤ) → x ≡ y → x ∷ a'.unanswered ≡ y ∷ a.unanswered
    ids_kept x y same = ap (λ (z : List ℤ). x ∷ z) al.1.ids ∙ ap (λ (z : ℤ). z ∷ a.unanswered) same

    pub takes : Comes turn.Takes a r b → Comes turn.Takes a' r' b' → Once r r' a b a' b'
    takes (inl (h, ok, x, ids), e) (inl (h', ok', x', ids'), e') =
        let core = a.host.core in
        let same : h' ≡ h = one_header l to_server host.Takes host.Refuses server_never core a'.host.core al.1.core a.host.inbox b.host.inbox a'.host.inbox b'.host.inbox a.wires.server.source b.wires.server.source a'.wires.server.source b'.wires.server.source al.1.heard al.1.used al.1.here al.1.there h h' x.0 x'.0 in
        let conform = conform_on l to_server host.Takes host.Refuses server_never core a'.host.core al.1.core a.host.inbox b.host.inbox a'.host.inbox b'.host.inbox a.wires.server.source b.wires.server.source a'.wires.server.source b'.wires.server.source al.1.heard al.1.used al.1.here al.1.there h h' x.0 x'.0 in
        record {
          answer = ok' ∙ sym ok;
          said = record {
            client = given_nothing _ _ _ _ (ap (λ (z : Scene). z.wires.client.target) e) (ap (λ (z : Scene). z.wires.client.target) e');
            server = given_nothing _ _ _ _ (ap (λ (z : Scene). z.wires.server.target) e) (ap (λ (z : Scene). z.wires.server.target) e');
            lines = given_nothing _ _ _ _ (ap (λ (z : Scene). z.wires.out) e) (ap (λ (z : Scene). z.wires.out) e');
          };
          alike = λ is. (
            clients_kept a b a' b' (ap (λ (z : Scene). z.caller) e) (ap (λ (z : Scene). z.caller) e') (ap (λ (z : Scene). z.wires.client.source) e) (ap (λ (z : Scene). z.wires.client.source) e') al.0,
            record {
              core = x'.1 ∙ ap (λ (c : ServerCore). accepted c (signal_of h') (accept_of c (signal_of h'))) al.1.core ∙ ap (λ (y : Header). accepted core (signal_of y) (accept_of core (signal_of y))) same ∙ sym x.1;
              ids = ids' ∙ ids_kept h'.stream h.stream (ap (λ (y : Header). y.stream) same) ∙ sym ids;
              heard = al.1.heard ++ h ∷ [];
              used = conform.bytes;
              here = conform.near;
              there = conform.far;
              waiting = conform.waiting;
              waiting' = conform.waiting';
            },
          );
        }
    takes (inl (h, ok, x, ids), e) (inr (f', is', x', ids'), e') =
        absurd (not_other l to_server host.Takes host.Refuses server_never a.host.core a'.host.core al.1.core a.host.inbox b.host.inbox a'.host.inbox b'.host.inbox a.wires.server.source b.wires.server.source a'.wires.server.source b'.wires.server.source al.1.heard al.1.used al.1.here al.1.there h f' x.0 x' (server_decided r' f' a'.wires b'.wires is' d'))
    takes (inr (f, is, x, ids), e) (inl (h', ok', x', ids'), e') =
        absurd (not_one l to_server host.Takes host.Refuses server_never a.host.core a'.host.core al.1.core a.host.inbox b.host.inbox a'.host.inbox b'.host.inbox a.wires.server.source b.wires.server.source a'.wires.server.source b'.wires.server.source al.1.heard al.1.used al.1.here al.1.there f h' x x'.0 (server_decided r f a.wires b.wires is d))
    takes (inr (f, is, x, ids), e) (inr (f', is', x', ids'), e') = record {
      answer =
          is' ∙ ap (λ (y : LoopFault). Err y) (one_fault l to_server host.Takes host.Refuses server_never a.host.core a'.host.core al.1.core a.host.inbox b.host.inbox a'.host.inbox b'.host.inbox a.wires.server.source b.wires.server.source a'.wires.server.source b'.wires.server.source al.1.heard al.1.used al.1.here al.1.there f f' x x' (server_decided r f a.wires b.wires is d) (server_decided r' f' a'.wires b'.wires is' d'))
          ∙ sym is;
      said = record {
        client = given_nothing _ _ _ _ (ap (λ (z : Scene). z.wires.client.target) e) (ap (λ (z : Scene). z.wires.client.target) e');
        server = given_nothing _ _ _ _ (ap (λ (z : Scene). z.wires.server.target) e) (ap (λ (z : Scene). z.wires.server.target) e');
        lines = given_nothing _ _ _ _ (ap (λ (z : Scene). z.wires.out) e) (ap (λ (z : Scene). z.wires.out) e');
      };
      alike = λ ok. absurd (ok_or_err tt f r ok is);
    }

    -- ---- the server answers

    pub answers : (q : Request) → Comes (turn.Answers q) a r b → Comes (turn.Answers q) a' r' b' → Once r r' a b a' b'
    answers q (id, ids, inl (k, ok, new, w), e) (id', ids', inl (k', ok', new', w'), e') =
        let both = same_cons id' id b'.unanswered b.unanswered (sym ids' ∙ al.1.ids ∙ ids) in
        let there : answer_of a.host.core id (opcode_of q) ≡ Ok k' = ap (λ (c : ServerCore). answer_of c id (opcode_of q)) (sym al.1.core) ∙ ap (λ (z : ℤ). answer_of a'.host.core z (opcode_of q)) (sym both.0) ∙ ok' in
        let same : k' ≡ k = same_ok k k' (answer_of a.host.core id (opcode_of q)) ok there in
        let x = wrote (reply_frame q id) a.wires.server.target b.wires.server.target r (not_memory r a.wires b.wires d) (λ is. (both_sound r a.wires b.wires d is).1.1) w in
        let x' = wrote (reply_frame q id') a'.wires.server.target b'.wires.server.target r' (not_memory r' a'.wires b'.wires d') (λ is. (both_sound r' a'.wires b'.wires d' is).1.1) w' in
        record {
          answer = x'.0 ∙ sym x.0;
          said = record {
            client = given_nothing _ _ _ _ (ap (λ (z : Scene). z.wires.client.target) e) (ap (λ (z : Scene). z.wires.client.target) e');
            server = (frame_bytes (reply_frame q id), x.1, subst (λ (z : ℤ). Appends a'.wires.server.target.given b'.wires.server.target.given (frame_bytes (reply_frame q z))) both.0 x'.1);
            lines = given_nothing _ _ _ _ (ap (λ (z : Scene). z.wires.out) e) (ap (λ (z : Scene). z.wires.out) e');
          };
          alike = λ is. (
            clients_kept a b a' b' (ap (λ (z : Scene). z.caller) e) (ap (λ (z : Scene). z.caller) e') (ap (λ (z : Scene). z.wires.client.source) e) (ap (λ (z : Scene). z.wires.client.source) e') al.0,
            record {
              core = ap (λ (z : HostState). z.core) new' ∙ ap (λ (c : ServerCore). answered c id' (opcode_of q) (Ok k')) al.1.core ∙ ap (λ (z : ℤ). answered a.host.core z (opcode_of q) (Ok k')) both.0 ∙ ap (λ (z : RequestKind). answered a.host.core id (opcode_of q) (Ok z)) same ∙ sym (ap (λ (z : HostState). z.core) new);
              ids = both.1;
              heard = al.1.heard;
              used = al.1.used;
              here = conformed_as l to_server al.1.used a.host.inbox b.host.inbox a.wires.server.source b.wires.server.source (idle al.1.heard) (ap (λ (z : HostState). z.inbox) new) (ap (λ (z : Scene). z.wires.server.source) e) al.1.here;
              there = conformed_as l to_server al.1.used a'.host.inbox b'.host.inbox a'.wires.server.source b'.wires.server.source (idle al.1.heard) (ap (λ (z : HostState). z.inbox) new') (ap (λ (z : Scene). z.wires.server.source) e') al.1.there;
              waiting = fewer (ap (λ (z : InboxState). length z.waiting) (ap (λ (z : HostState). z.inbox) new)) al.1.waiting;
              waiting' = fewer (ap (λ (z : InboxState). length z.waiting) (ap (λ (z : HostState). z.inbox) new')) al.1.waiting';
            },
          );
        }
    answers q (id, ids, inl (k, ok, new, w), e) (id', ids', inr (f', err', is', new', s'), e') =
        let both = same_cons id' id b'.unanswered b.unanswered (sym ids' ∙ al.1.ids ∙ ids) in
        let there : answer_of a.host.core id (opcode_of q) ≡ Err f' = ap (λ (c : ServerCore). answer_of c id (opcode_of q)) (sym al.1.core) ∙ ap (λ (z : ℤ). answer_of a'.host.core z (opcode_of q)) (sym both.0) ∙ err' in
        absurd (ok_or_err k f' (answer_of a.host.core id (opcode_of q)) ok there)
    answers q (id, ids, inr (f, err, is, new, s), e) (id', ids', inl (k', ok', new', w'), e') =
        let both = same_cons id' id b'.unanswered b.unanswered (sym ids' ∙ al.1.ids ∙ ids) in
        let there : answer_of a.host.core id (opcode_of q) ≡ Ok k' = ap (λ (c : ServerCore). answer_of c id (opcode_of q)) (sym al.1.core) ∙ ap (λ (z : ℤ). answer_of a'.host.core z (opcode_of q)) (sym both.0) ∙ ok' in
        absurd (ok_or_err k' f (answer_of a.host.core id (opcode_of q)) there err)
    answers q (id, ids, inr (f, err, is, new, s), e) (id', ids', inr (f', err', is', new', s'), e') = record {
      answer = is' ∙ sym is;
      said = record {
        client = given_nothing _ _ _ _ (ap (λ (z : Scene). z.wires.client.target) e) (ap (λ (z : Scene). z.wires.client.target) e');
        server = given_nothing _ _ _ _ s s';
        lines = given_nothing _ _ _ _ (ap (λ (z : Scene). z.wires.out) e) (ap (λ (z : Scene). z.wires.out) e');
      };
      alike = λ ok. absurd (ok_or_err tt fault.BadReply r ok is);
    }

    -- ---- the client hears a reply

    pub hears : Comes turn.Hears a r b → Comes turn.Hears a' r' b' → Once r r' a b a' b'
    hears (inl (x, (h, (k, is_answer), opcode, got, new), p), e) (inl (x', (h', (k', is_answer'), opcode', got', new'), p'), e') =
        let core = a.caller.core in
        let same : h' ≡ h = one_header l to_client caller.Takes caller.Refuses client_never core a'.caller.core al.0.core a.caller.inbox b.caller.inbox a'.caller.inbox b'.caller.inbox a.wires.client.source b.wires.client.source a'.wires.client.source b'.wires.client.source al.0.heard al.0.used al.0.here al.0.there h h' got got' in
        let conform = conform_on l to_client caller.Takes caller.Refuses client_never core a'.caller.core al.0.core a.caller.inbox b.caller.inbox a'.caller.inbox b'.caller.inbox a.wires.client.source b.wires.client.source a'.wires.client.source b'.wires.client.source al.0.heard al.0.used al.0.here al.0.there h h' got got' in
        let there : reply_to core (signal_of h) ≡ Ok (Answer x'.0 k') = ap (λ (c : ClientCore). reply_to c (signal_of h)) (sym al.0.core) ∙ ap (λ (y : Header). reply_to a'.caller.core (signal_of y)) (sym same) ∙ is_answer' in
        let ticket : x'.0 ≡ x.0 = same_ticket x.0 x'.0 k k' (same_ok (Answer x.0 k) (Answer x'.0 k') (reply_to core (signal_of h)) is_answer there) in
        let code : x'.1 ≡ x.1 = opcode' ∙ ap (λ (y : Header). y.opcode) same ∙ sym opcode in
        let line : reply_line x'.0 x'.1 ≡ reply_line x.0 x.1 = ap (λ (t : Ticket). reply_line t x'.1) ticket ∙ ap (λ (o : Opcode). reply_line x.0 o) code in
        let w = printed (reply_line x.0 x.1) a.wires.out b.wires.out r (not_memory r a.wires b.wires d) (not_output r a.wires b.wires d) p in
        let w' = printed (reply_line x'.0 x'.1) a'.wires.out b'.wires.out r' (not_memory r' a'.wires b'.wires d') (not_output r' a'.wires b'.wires d') p' in
        record {
          answer = w'.0 ∙ sym w.0;
          said = record {
            client = given_nothing _ _ _ _ (ap (λ (z : Scene). z.wires.client.target) e) (ap (λ (z : Scene). z.wires.client.target) e');
            server = given_nothing _ _ _ _ (ap (λ (z : Scene). z.wires.server.target) e) (ap (λ (z : Scene). z.wires.server.target) e');
            lines = (reply_line x.0 x.1, w.1, subst (λ (z : List ℕ). Appends a'.wires.out.given b'.wires.out.given z) line w'.1);
          };
          alike = λ is. (
            record {
              core = new' ∙ ap (λ (c : ClientCore). replied c (signal_of h') (reply_to c (signal_of h'))) al.0.core ∙ ap (λ (y : Header). replied core (signal_of y) (reply_to core (signal_of y))) same ∙ sym new;
              heard = al.0.heard ++ h ∷ [];
              used = conform.bytes;
              here = conform.near;
              there = conform.far;
              waiting = conform.waiting;
              waiting' = conform.waiting';
            },
            servers_kept a b a' b' (ap (λ (z : Scene). z.host) e) (ap (λ (z : Scene). z.host) e') (ap (λ (z : Scene). z.unanswered) e) (ap (λ (z : Scene). z.unanswered) e') (ap (λ (z : Scene). z.wires.server.source) e) (ap (λ (z : Scene). z.wires.server.source) e') al.1,
          );
        }
    hears (inl (x, (h, is_answer, opcode, got, new), p), e) (inr (f', is', x', s'), e') =
        absurd (not_other l to_client caller.Takes caller.Refuses client_never a.caller.core a'.caller.core al.0.core a.caller.inbox b.caller.inbox a'.caller.inbox b'.caller.inbox a.wires.client.source b.wires.client.source a'.wires.client.source b'.wires.client.source al.0.heard al.0.used al.0.here al.0.there h f' got x' (client_decided r' f' a'.wires b'.wires is' d'))
    hears (inr (f, is, x, s), e) (inl (x', (h', is_answer', opcode', got', new'), p'), e') =
        absurd (not_one l to_client caller.Takes caller.Refuses client_never a.caller.core a'.caller.core al.0.core a.caller.inbox b.caller.inbox a'.caller.inbox b'.caller.inbox a.wires.client.source b.wires.client.source a'.wires.client.source b'.wires.client.source al.0.heard al.0.used al.0.here al.0.there f h' x got' (client_decided r f a.wires b.wires is d))
    hears (inr (f, is, x, s), e) (inr (f', is', x', s'), e') = record {
      answer =
          is' ∙ ap (λ (y : LoopFault). Err y) (one_fault l to_client caller.Takes caller.Refuses client_never a.caller.core a'.caller.core al.0.core a.caller.inbox b.caller.inbox a'.caller.inbox b'.caller.inbox a.wires.client.source b.wires.client.source a'.wires.client.source b'.wires.client.source al.0.heard al.0.used al.0.here al.0.there f f' x x' (client_decided r f a.wires b.wires is d) (client_decided r' f' a'.wires b'.wires is' d'))
          ∙ sym is;
      said = record {
        client = given_nothing _ _ _ _ (ap (λ (z : Scene). z.wires.client.target) e) (ap (λ (z : Scene). z.wires.client.target) e');
        server = given_nothing _ _ _ _ (ap (λ (z : Scene). z.wires.server.target) e) (ap (λ (z : Scene). z.wires.server.target) e');
        lines = given_nothing _ _ _ _ s s';
      };
      alike = λ ok. absurd (ok_or_err tt f r ok is);
    }

    -- ---- the last line

    pub closes : (count : ℕ) → Comes (turn.Closes count) a r b → Comes (turn.Closes count) a' r' b' → Once r r' a b a' b'
    closes count (p, e) (p', e') =
        let w = printed (done_line count) a.wires.out b.wires.out r (not_memory r a.wires b.wires d) (not_output r a.wires b.wires d) p in
        let w' = printed (done_line count) a'.wires.out b'.wires.out r' (not_memory r' a'.wires b'.wires d') (not_output r' a'.wires b'.wires d') p' in
        record {
          answer = w'.0 ∙ sym w.0;
          said = record {
            client = given_nothing _ _ _ _ (ap (λ (z : Scene). z.wires.client.target) e) (ap (λ (z : Scene). z.wires.client.target) e');
            server = given_nothing _ _ _ _ (ap (λ (z : Scene). z.wires.server.target) e) (ap (λ (z : Scene). z.wires.server.target) e');
            lines = (done_line count, w.1, w'.1);
          };
          alike = λ is. (
            clients_kept a b a' b' (ap (λ (z : Scene). z.caller) e) (ap (λ (z : Scene). z.caller) e') (ap (λ (z : Scene). z.wires.client.source) e) (ap (λ (z : Scene). z.wires.client.source) e') al.0,
            servers_kept a b a' b' (ap (λ (z : Scene). z.host) e) (ap (λ (z : Scene). z.host) e') (ap (λ (z : Scene). z.unanswered) e) (ap (λ (z : Scene). z.unanswered) e') (ap (λ (z : Scene). z.wires.server.source) e) (ap (λ (z : Scene). z.wires.server.source) e') al.1,
          );
        }

    pub once : (t : LoopStep) → Comes t a r b → Comes t a' r' b' → Once r r' a b a' b'
    once (turn.Asks q) c c' = asks q c c'
    once turn.Takes c c' = takes c c'
    once (turn.Answers q) c c' = answers q c c'
    once turn.Hears c c' = hears c c'
    once (turn.Closes count) c c' = closes count c c'
