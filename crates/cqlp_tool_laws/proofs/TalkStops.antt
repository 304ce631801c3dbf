-- Where a turn ends a conversation, what was given of it is a front of what the turn gives.
use Rattle.std.proofs.Common.{◌≡◌, ℕ, ℤ, ◌⊎◌, List, [], ◌∷◌, ◌++◌, take, drop, refl, sym, ap, subst, ◌∙◌, append_assoc, inl, inr}
use Rattle.std.proofs.lemmas.List.{append-nil, take-append-drop}
use Rattle.std.specs.Prelude.{Option, Some, None, IsSome, Result, Ok, Err}
use Rattle.std.specs.Io.KnownBytes.{Appends}
use Rattle.std.proofs.KnownBytes.{Appends-trans}
use Rattle.cqlp_note.specs.declared.header.Header.{Header}
use Rattle.cqlp_note.specs.declared.opcode.Opcode.{Opcode}
use Rattle.cqlp_note.specs.Limits.{Rules}
use Rattle.cqlp_message.specs.FrameValues.{FrameValue}
use Rattle.cqlp_message.specs.Frames.{frame_bytes}
use Rattle.cqlp_text.specs.Outputs.{Output, output, StopsWithin}
use Rattle.cqlp_session.specs.declared.ticket.Ticket.{Ticket}
use Rattle.cqlp_session.specs.declared.ticket.Reply.TheVariants.{Answer}
use Rattle.cqlp_session.specs.Signal.{signal_of}
use Rattle.cqlp_session.specs.Client.{ClientCore, reply_to, ticket_for}
use Rattle.cqlp_session.specs.Server.{ServerCore, answer_of}
use Rattle.cqlp_loop.specs.declared.fault.LoopFault.{LoopFault}
use Rattle.cqlp_loop.specs.declared.fault.LoopFault.TheVariants as fault
use Rattle.cqlp_loop.specs.declared.request.Request.{Request}
use Rattle.cqlp_loop.specs.Exchanges.{Writes, kind_of, opcode_of, request_frame, reply_frame}
use Rattle.cqlp_loop.specs.Callers.{Prints, Listens, reply_line, done_line}
use Rattle.cqlp_loop.specs.Callers as caller
use Rattle.cqlp_loop.specs.Script.{End, Wires, Scene, LoopStep, Comes}
use Rattle.cqlp_loop.specs.Script as turn
use Rattle.cqlp_tool_laws.specs.Conversations.{AreGivenTheSame, IsDecided, IsGivenMore, SaidTheSame, SaidMore}
use Rattle.cqlp_tool_laws.proofs.Receipts.{one_header, not_other}
use Rattle.cqlp_tool_laws.proofs.TalkTurns.{Alike, appended, both_sound, client_decided, client_never, kept_given, not_memory, not_output, ok_or_err, printed, same_cons, same_ok, same_ticket, wrote}

-- ---- some of a text

-- the target was given this front of a text
record Part (text : List ℕ) (o n : Output) : Type 0 where
  pub bytes : List ℕ
  pub rest : List ℕ
  pub split : bytes ++ rest ≡ text
  pub given : Appends o.given n.given bytes

part_none : (text : List ℕ) (o n : Output) → n ≡ o → Part text o n
part_none text o n same = record { bytes = []; rest = text; split = refl; given = kept_given o n same }

part_all : (text : List ℕ) (o n : Output) → Appends o.given n.given text → Part text o n
part_all text o n given = record { bytes = text; rest = []; split = append-nil text; given = given }

wrote_part : (f : FrameValue) (o n : Output) (r : Result (Unit {0}) LoopFault) → Writes f o r n → Part (frame_bytes f) o n
wrote_part f o n (Ok u) w = part_all (frame_bytes f) o n w.0
wrote_part f o n (Err fault.SocketFault) w = record { bytes = take w.0 (frame_bytes f); rest = drop w.0 (frame_bytes f); split = take-append-drop w.0 (frame_bytes f); given = w.2.given }
wrote_part f o n (Err fault.NoMemory) w = part_none (frame_bytes f) o n w
wrote_part f o n (Err fault.BadReply) w = absurd w
wrote_part f o n (Err fault.TooManyTurns) w = absurd w
wrote_part f o n (Err fault.WriteFault) w = absurd w

stopped_part : (given : Option (List ℕ)) (failures : ℕ) (n : Output) (line : List ℕ) → (IsSome given → StopsWithin (output given failures) line n) → Part line (output given failures) n
stopped_part None failures n line p = record { bytes = []; rest = line; split = refl; given = tt }
stopped_part (Some x) failures n line p =
    let s = p refl in
    record { bytes = s.sent; rest = s.lost ∷ s.later; split = s.split; given = subst (λ (z : Option (List ℕ)). Appends (Some x) z s.sent) (sym s.given) refl }

printed_part : (line : List ℕ) (o n : Output) (r : Result (Unit {0}) LoopFault) → Prints line o r n → Part line o n
printed_part line o n (Ok u) p = part_all line o n (appended o.given o.failures n line p)
printed_part line o n (Err fault.WriteFault) p = stopped_part o.given o.failures n line p
printed_part line o n (Err fault.NoMemory) p = part_none line o n p
printed_part line o n (Err fault.BadReply) p = absurd p
printed_part line o n (Err fault.TooManyTurns) p = absurd p
printed_part line o n (Err fault.SocketFault) p = absurd p

-- two fronts of one text
fronts : (x y x' y' : List ℕ) → x ++ y ≡ x' ++ y' → ((more : List ℕ) × (x' ≡ x ++ more)) ⊎ ((more : List ℕ) × (x ≡ x' ++ more))
fronts [] y x' y' e = inl (x', refl)
fronts (a ∷ x) y [] y' e = inr (a ∷ x, refl)
fronts (a ∷ x) y (b ∷ x') y' e =
    let first : a ≡ b = cc in
    let rest : x ++ y ≡ x' ++ y' = cc in
    elim (fronts x y x' y' rest) [
      | inl m ↦ let more : x' ≡ x ++ m.0 = m.1 in inl (m.0, cc)
      | inr m ↦ let more : x ≡ x' ++ m.0 = m.1 in inr (m.0, cc)
    ]

-- the target was given some bytes
pub record GivenSome (o n : Output) : Type 0 where
  pub bytes : List ℕ
  pub given : Appends o.given n.given bytes

-- ---- more than the other

pub more_nothing : (o n o' n' : Output) → n ≡ o → n' ≡ o' → IsGivenMore o n o' n'
more_nothing o n o' n' same same' = ([], [], kept_given o n same, kept_given o' n' same')

more_whole : (text : List ℕ) (o n o' n' : Output) → Part text o n → Appends o'.given n'.given text → IsGivenMore o n o' n'
more_whole text o n o' n' p given = (p.bytes, p.rest, p.given, subst (λ (z : List ℕ). Appends o'.given n'.given z) (sym p.split) given)

more_either : (text : List ℕ) (o n o' n' : Output) → Part text o n → Part text o' n' → IsGivenMore o n o' n' ⊎ IsGivenMore o' n' o n
more_either text o n o' n' p q = elim (fronts p.bytes p.rest q.bytes q.rest (p.split ∙ sym q.split)) [
  | inl m ↦ inl (p.bytes, m.0, p.given, subst (λ (z : List ℕ). Appends o'.given n'.given z) m.1 q.given)
  | inr m ↦ inr (q.bytes, m.0, q.given, subst (λ (z : List ℕ). Appends o.given n.given z) m.1 p.given)
]

more_some : (text : List ℕ) (o n o' n' : Output) → n ≡ o → Part text o' n' → IsGivenMore o n o' n'
more_some text o n o' n' same q = ([], q.bytes, kept_given o n same, q.given)

more_then : (o m n o' m' n' : Output) → IsGivenMore o m o' m' → GivenSome m' n' → m ≡ n → IsGivenMore o n o' n'
more_then o m n o' m' n' p q same =
    (p.0, p.1 ++ q.bytes, subst (λ (z : Output). Appends o.given z.given p.0) same p.2, subst (λ (z : List ℕ). Appends o'.given n'.given z) (append_assoc p.0 p.1 q.bytes) (Appends-trans o'.given m'.given n'.given (p.0 ++ p.1) q.bytes p.3 q.given))

same_then : (o m n o' m' n' : Output) → AreGivenTheSame o m o' m' → IsGivenMore m n m' n' → IsGivenMore o n o' n'
same_then o m n o' m' n' p q = (
  p.0 ++ q.0,
  q.1,
  Appends-trans o.given m.given n.given p.0 q.0 p.1 q.2,
  subst (λ (z : List ℕ). Appends o'.given n'.given z) (sym (append_assoc p.0 q.0 q.1)) (Appends-trans o'.given m'.given n'.given p.0 (q.0 ++ q.1) p.2 q.3),
)

-- ---- what all targets were given

-- something was given to each
pub record Gave (a b : Wires) : Type 0 where
  pub client : GivenSome a.client.target b.client.target
  pub server : GivenSome a.server.target b.server.target
  pub lines : GivenSome a.out b.out

gave_nothing : (o n : Output) → n ≡ o → GivenSome o n
gave_nothing o n same = record { bytes = []; given = kept_given o n same }

pub gave_as : (a b : Wires) → b ≡ a → Gave a b
gave_as a b same = record {
  client = gave_nothing _ _ (ap (λ (z : Wires). z.client.target) same);
  server = gave_nothing _ _ (ap (λ (z : Wires). z.server.target) same);
  lines = gave_nothing _ _ (ap (λ (z : Wires). z.out) same);
}

gave_both : (o m n : Output) → GivenSome o m → GivenSome m n → GivenSome o n
gave_both o m n p q = record { bytes = p.bytes ++ q.bytes; given = Appends-trans o.given m.given n.given p.bytes q.bytes p.given q.given }

pub gave_then : (a b c : Wires) → Gave a b → Gave b c → Gave a c
gave_then a b c p q = record {
  client = gave_both a.client.target b.client.target c.client.target p.client q.client;
  server = gave_both a.server.target b.server.target c.server.target p.server q.server;
  lines = gave_both a.out b.out c.out p.lines q.lines;
}

some_more : (o n o' n' : Output) → n ≡ o → GivenSome o' n' → IsGivenMore o n o' n'
some_more o n o' n' same q = ([], q.bytes, kept_given o n same, q.given)

pub more_than_nothing : (a b a' b' : Wires) → b ≡ a → Gave a' b' → SaidMore a b a' b'
more_than_nothing a b a' b' same g = record {
  client = some_more _ _ _ _ (ap (λ (z : Wires). z.client.target) same) g.client;
  server = some_more _ _ _ _ (ap (λ (z : Wires). z.server.target) same) g.server;
  lines = some_more _ _ _ _ (ap (λ (z : Wires). z.out) same) g.lines;
}

pub said_more_then : (a b c a' b' c' : Wires) → SaidMore a b a' b' → b ≡ c → Gave b' c' → SaidMore a c a' c'
said_more_then a b c a' b' c' p same g = record {
  client = more_then a.client.target b.client.target c.client.target a'.client.target b'.client.target c'.client.target p.client g.client (ap (λ (z : Wires). z.client.target) same);
  server = more_then a.server.target b.server.target c.server.target a'.server.target b'.server.target c'.server.target p.server g.server (ap (λ (z : Wires). z.server.target) same);
  lines = more_then a.out b.out c.out a'.out b'.out c'.out p.lines g.lines (ap (λ (z : Wires). z.out) same);
}

pub said_same_then : (a b c a' b' c' : Wires) → SaidTheSame a b a' b' → SaidMore b c b' c' → SaidMore a c a' c'
said_same_then a b c a' b' c' p q = record {
  client = same_then a.client.target b.client.target c.client.target a'.client.target b'.client.target c'.client.target p.client q.client;
  server = same_then a.server.target b.server.target c.server.target a'.server.target b'.server.target c'.server.target p.server q.server;
  lines = same_then a.out b.out c.out a'.out b'.out c'.out p.lines q.lines;
}

gave_part : (text : List ℕ) (o n : Output) → Part text o n → GivenSome o n
gave_part text o n p = record { bytes = p.bytes; given = p.given }

pub gave_in : (t : LoopStep) (a b : Scene) (r : Result (Unit {0}) LoopFault) → Comes t a r b → Gave a.wires b.wires
gave_in (turn.Asks q) a b r (inl (t, ok, new, w), e) = record {
  client = gave_part (frame_bytes (request_frame q t.id)) _ _ (wrote_part (request_frame q t.id) a.wires.client.target b.wires.client.target r w);
  server = gave_nothing _ _ (ap (λ (z : Scene). z.wires.server.target) e);
  lines = gave_nothing _ _ (ap (λ (z : Scene). z.wires.out) e);
}
gave_in (turn.Asks q) a b r (inr (f, err, is, new, s), e) = record {
  client = gave_nothing _ _ s;
  server = gave_nothing _ _ (ap (λ (z : Scene). z.wires.server.target) e);
  lines = gave_nothing _ _ (ap (λ (z : Scene). z.wires.out) e);
}
gave_in turn.Takes a b r (x, e) = record {
  client = gave_nothing _ _ (ap (λ (z : Scene). z.wires.client.target) e);
  server = gave_nothing _ _ (ap (λ (z : Scene). z.wires.server.target) e);
  lines = gave_nothing _ _ (ap (λ (z : Scene). z.wires.out) e);
}
gave_in (turn.Answers q) a b r (id, ids, inl (k, ok, new, w), e) = record {
  client = gave_nothing _ _ (ap (λ (z : Scene). z.wires.client.target) e);
  server = gave_part (frame_bytes (reply_frame q id)) _ _ (wrote_part (reply_frame q id) a.wires.server.target b.wires.server.target r w);
  lines = gave_nothing _ _ (ap (λ (z : Scene). z.wires.out) e);
}
gave_in (turn.Answers q) a b r (id, ids, inr (f, err, is, new, s), e) = record {
  client = gave_nothing _ _ (ap (λ (z : Scene). z.wires.client.target) e);
  server = gave_nothing _ _ s;
  lines = gave_nothing _ _ (ap (λ (z : Scene). z.wires.out) e);
}
gave_in turn.Hears a b r (inl (x, heard, p), e) = record {
  client = gave_nothing _ _ (ap (λ (z : Scene). z.wires.client.target) e);
  server = gave_nothing _ _ (ap (λ (z : Scene). z.wires.server.target) e);
  lines = gave_part (reply_line x.0 x.1) _ _ (printed_part (reply_line x.0 x.1) a.wires.out b.wires.out r p);
}
gave_in turn.Hears a b r (inr (f, is, x, s), e) = record {
  client = gave_nothing _ _ (ap (λ (z : Scene). z.wires.client.target) e);
  server = gave_nothing _ _ (ap (λ (z : Scene). z.wires.server.target) e);
  lines = gave_nothing _ _ s;
}
gave_in (turn.Closes count) a b r (p, e) = record {
  client = gave_nothing _ _ (ap (λ (z : Scene). z.wires.client.target) e);
  server = gave_nothing _ _ (ap (λ (z : Scene). z.wires.server.target) e);
  lines = gave_part (done_line count) _ _ (printed_part (done_line count) a.wires.out b.wires.out r p);
}

-- ---- the same turn in two conversations

module _ (l : Rules) (to_client to_server : List ℕ) (r r' : Result (Unit {0}) LoopFault) (a b a' b' : Scene) (al : Alike l to_client to_server a a') where
  same_request : (q : Request) (t t' : Ticket) → ticket_for a.caller.core (kind_of q) ≡ Ok t → ticket_for a'.caller.core (kind_of q) ≡ Ok t' → t' ≡ t
  same_request q t t' ok ok' = same_ok t t' (ticket_for a.caller.core (kind_of q)) ok (ap (λ (c : ClientCore). ticket_for c (kind_of q)) (sym al.0.core) ∙ ok')

  same_line : (x x' : Ticket × Opcode) → Listens a.caller a.wires.client.source (Ok x) b.caller b.wires.client.source → Listens a'.caller a'.wires.client.source (Ok x') b'.caller b'.wires.client.source → reply_line x'.0 x'.1 ≡ reply_line x.0 x.1
  same_line x x' (h, (k, is_answer), opcode, got, new) (h', (k', is_answer'), opcode', got', new') =
      let core = a.caller.core in
      let same : h' ≡ h = one_header l to_client caller.Takes caller.Refuses client_never core a'.caller.core al.0.core a.caller.inbox b.caller.inbox a'.caller.inbox b'.caller.inbox a.wires.client.source b.wires.client.source a'.wires.client.source b'.wires.client.source al.0.heard al.0.used al.0.here al.0.there h h' got got' in
      let there : reply_to core (signal_of h) ≡ Ok (Answer x'.0 k') = ap (λ (c : ClientCore). reply_to c (signal_of h)) (sym al.0.core) ∙ ap (λ (y : Header). reply_to a'.caller.core (signal_of y)) (sym same) ∙ is_answer' in
      let ticket : x'.0 ≡ x.0 = same_ticket x.0 x'.0 k k' (same_ok (Answer x.0 k) (Answer x'.0 k') (reply_to core (signal_of h)) is_answer there) in
      let code : x'.1 ≡ x.1 = opcode' ∙ ap (λ (y : Header). y.opcode) same ∙ sym opcode in
      ap (λ (t : Ticket). reply_line t x'.1) ticket ∙ ap (λ (o : Opcode). reply_line x.0 o) code

  -- what a turn said that the bytes decided is not less than what it said in the other conversation
  pub furthest : (t : LoopStep) → Comes t a r b → Comes t a' r' b' → IsDecided r' a'.wires b'.wires → SaidMore a.wires b.wires a'.wires b'.wires
  furthest (turn.Asks q) (inl (t, ok, new, w), e) (inl (t', ok', new', w'), e') d =
      let whole = wrote (request_frame q t'.id) a'.wires.client.target b'.wires.client.target r' (not_memory r' a'.wires b'.wires d) (λ is. (both_sound r' a'.wires b'.wires d is).0.1) w' in
      record {
        client = more_whole (frame_bytes (request_frame q t.id)) a.wires.client.target b.wires.client.target a'.wires.client.target b'.wires.client.target (wrote_part (request_frame q t.id) a.wires.client.target b.wires.client.target r w) (subst (λ (u : Ticket). Appends a'.wires.client.target.given b'.wires.client.target.given (frame_bytes (request_frame q u.id))) (same_request q t t' ok ok') whole.1);
        server = more_nothing _ _ _ _ (ap (λ (z : Scene). z.wires.server.target) e) (ap (λ (z : Scene). z.wires.server.target) e');
        lines = more_nothing _ _ _ _ (ap (λ (z : Scene). z.wires.out) e) (ap (λ (z : Scene). z.wires.out) e');
      }
  furthest (turn.Asks q) (inl (t, ok, new, w), e) (inr (f', err', is', new', s'), e') d = absurd (ok_or_err t f' (ticket_for a.caller.core (kind_of q)) ok (ap (λ (c : ClientCore). ticket_for c (kind_of q)) (sym al.0.core) ∙ err'))
  furthest (turn.Asks q) (inr (f, err, is, new, s), e) c' d =
      let g = gave_in (turn.Asks q) a' b' r' c' in
      record {
        client = some_more _ _ _ _ s g.client;
        server = some_more _ _ _ _ (ap (λ (z : Scene). z.wires.server.target) e) g.server;
        lines = some_more _ _ _ _ (ap (λ (z : Scene). z.wires.out) e) g.lines;
      }
  furthest turn.Takes (x, e) c' d =
      let g = gave_in turn.Takes a' b' r' c' in
      record {
        client = some_more _ _ _ _ (ap (λ (z : Scene). z.wires.client.target) e) g.client;
        server = some_more _ _ _ _ (ap (λ (z : Scene). z.wires.server.target) e) g.server;
        lines = some_more _ _ _ _ (ap (λ (z : Scene). z.wires.out) e) g.lines;
      }
  furthest (turn.Answers q) (id, ids, inl (k, ok, new, w), e) (id', ids', inl (k', ok', new', w'), e') d =
      let both = same_cons id' id b'.unanswered b.unanswered (sym ids' ∙ al.1.ids ∙ ids) in
      let whole = wrote (reply_frame q id') a'.wires.server.target b'.wires.server.target r' (not_memory r' a'.wires b'.wires d) (λ is. (both_sound r' a'.wires b'.wires d is).1.1) w' in
      record {
        client = more_nothing _ _ _ _ (ap (λ (z : Scene). z.wires.client.target) e) (ap (λ (z : Scene). z.wires.client.target) e');
        server = more_whole (frame_bytes (reply_frame q id)) a.wires.server.target b.wires.server.target a'.wires.server.target b'.wires.server.target (wrote_part (reply_frame q id) a.wires.server.target b.wires.server.target r w) (subst (λ (z : ℤ). Appends a'.wires.server.target.given b'.wires.server.target.given (frame_bytes (reply_frame q z))) both.0 whole.1);
        lines = more_nothing _ _ _ _ (ap (λ (z : Scene). z.wires.out) e) (ap (λ (z : Scene). z.wires.out) e');
      }
  furthest (turn.Answers q) (id, ids, inl (k, ok, new, w), e) (id', ids', inr (f', err', is', new', s'), e') d =
      let both = same_cons id' id b'.unanswered b.unanswered (sym ids' ∙ al.1.ids ∙ ids) in
      let there : answer_of a.host.core id (opcode_of q) ≡ Err f' = ap (λ (c : ServerCore). answer_of c id (opcode_of q)) (sym al.1.core) ∙ ap (λ (z : ℤ). answer_of a'.host.core z (opcode_of q)) (sym both.0) ∙ err' in
      absurd (ok_or_err k f' (answer_of a.host.core id (opcode_of q)) ok there)
  furthest (turn.Answers q) (id, ids, inr (f, err, is, new, s), e) c' d =
      let g = gave_in (turn.Answers q) a' b' r' c' in
      record {
        client = some_more _ _ _ _ (ap (λ (z : Scene). z.wires.client.target) e) g.client;
        server = some_more _ _ _ _ s g.server;
        lines = some_more _ _ _ _ (ap (λ (z : Scene). z.wires.out) e) g.lines;
      }
  furthest turn.Hears (inl (x, heard, p), e) (inl (x', heard', p'), e') d =
      let whole = printed (reply_line x'.0 x'.1) a'.wires.out b'.wires.out r' (not_memory r' a'.wires b'.wires d) (not_output r' a'.wires b'.wires d) p' in
      record {
        client = more_nothing _ _ _ _ (ap (λ (z : Scene). z.wires.client.target) e) (ap (λ (z : Scene). z.wires.client.target) e');
        server = more_nothing _ _ _ _ (ap (λ (z : Scene). z.wires.server.target) e) (ap (λ (z : Scene). z.wires.server.target) e');
        lines = more_whole (reply_line x.0 x.1) a.wires.out b.wires.out a'.wires.out b'.wires.out (printed_part (reply_line x.0 x.1) a.wires.out b.wires.out r p) (subst (λ (z : List ℕ). Appends a'.wires.out.given b'.wires.out.given z) (same_line x x' heard heard') whole.1);
      }
  furthest turn.Hears (inl (x, (h, is_answer, opcode, got, new), p), e) (inr (f', is', x', s'), e') d =
      absurd (not_other l to_client caller.Takes caller.Refuses client_never a.caller.core a'.caller.core al.0.core a.caller.inbox b.caller.inbox a'.caller.inbox b'.caller.inbox a.wires.client.source b.wires.client.source a'.wires.client.source b'.wires.client.source al.0.heard al.0.used al.0.here al.0.there h f' got x' (client_decided r' f' a'.wires b'.wires is' d))
  furthest turn.Hears (inr (f, is, x, s), e) c' d =
      let g = gave_in turn.Hears a' b' r' c' in
      record {
        client = some_more _ _ _ _ (ap (λ (z : Scene). z.wires.client.target) e) g.client;
        server = some_more _ _ _ _ (ap (λ (z : Scene). z.wires.server.target) e) g.server;
        lines = some_more _ _ _ _ s g.lines;
      }
  furthest (turn.Closes count) (p, e) (p', e') d =
      let whole = printed (done_line count) a'.wires.out b'.wires.out r' (not_memory r' a'.wires b'.wires d) (not_output r' a'.wires b'.wires d) p' in
      record {
        client = more_nothing _ _ _ _ (ap (λ (z : Scene). z.wires.client.target) e) (ap (λ (z : Scene). z.wires.client.target) e');
        server = more_nothing _ _ _ _ (ap (λ (z : Scene). z.wires.server.target) e) (ap (λ (z : Scene). z.wires.server.target) e');
        lines = more_whole (done_line count) a.wires.out b.wires.out a'.wires.out b'.wires.out (printed_part (done_line count) a.wires.out b.wires.out r p) whole.1;
      }

  abbrev Either : Type 0
  Either = SaidMore a.wires b.wires a'.wires b'.wires ⊎ SaidMore a'.wires b'.wires a.wires b.wires

  -- of what a turn said in both, one is a front of the other
  pub either_front : (t : LoopStep) → Comes t a r b → Comes t a' r' b' → Either
  either_front (turn.Asks q) (inl (t, ok, new, w), e) (inl (t', ok', new', w'), e') =
      let there = subst (λ (u : Ticket). Part (frame_bytes (request_frame q u.id)) a'.wires.client.target b'.wires.client.target) (same_request q t t' ok ok') (wrote_part (request_frame q t'.id) a'.wires.client.target b'.wires.client.target r' w') in
      elim (more_either (frame_bytes (request_frame q t.id)) _ _ _ _ (wrote_part (request_frame q t.id) a.wires.client.target b.wires.client.target r w) there) [
        | inl m ↦ inl (record {
          client = m;
          server = more_nothing _ _ _ _ (ap (λ (z : Scene). z.wires.server.target) e) (ap (λ (z : Scene). z.wires.server.target) e');
          lines = more_nothing _ _ _ _ (ap (λ (z : Scene). z.wires.out) e) (ap (λ (z : Scene). z.wires.out) e');
        })
        | inr m ↦ inr (record {
          client = m;
          server = more_nothing _ _ _ _ (ap (λ (z : Scene). z.wires.server.target) e') (ap (λ (z : Scene). z.wires.server.target) e);
          lines = more_nothing _ _ _ _ (ap (λ (z : Scene). z.wires.out) e') (ap (λ (z : Scene). z.wires.out) e);
        })
      ]
  either_front (turn.Asks q) (inl x, e) (inr (f', err', is', new', s'), e') =
      let g = gave_in (turn.Asks q) a b r (inl x, e) in
      inr (record {
        client = some_more _ _ _ _ s' g.client;
        server = some_more _ _ _ _ (ap (λ (z : Scene). z.wires.server.target) e') g.server;
        lines = some_more _ _ _ _ (ap (λ (z : Scene). z.wires.out) e') g.lines;
      })
  either_front (turn.Asks q) (inr (f, err, is, new, s), e) c' =
      let g = gave_in (turn.Asks q) a' b' r' c' in
      inl (record {
        client = some_more _ _ _ _ s g.client;
        server = some_more _ _ _ _ (ap (λ (z : Scene). z.wires.server.target) e) g.server;
        lines = some_more _ _ _ _ (ap (λ (z : Scene). z.wires.out) e) g.lines;
      })
  either_front turn.Takes (x, e) c' =
      let g = gave_in turn.Takes a' b' r' c' in
      inl (record {
        client = some_more _ _ _ _ (ap (λ (z : Scene). z.wires.client.target) e) g.client;
        server = some_more _ _ _ _ (ap (λ (z : Scene). z.wires.server.target) e) g.server;
        lines = some_more _ _ _ _ (ap (λ (z : Scene). z.wires.out) e) g.lines;
      })
  either_front (turn.Answers q) (id, ids, inl (k, ok, new, w), e) (id', ids', inl (k', ok', new', w'), e') =
      let both = same_cons id' id b'.unanswered b.unanswered (sym ids' ∙ al.1.ids ∙ ids) in
      let there = subst (λ (z : ℤ). Part (frame_bytes (reply_frame q z)) a'.wires.server.target b'.wires.server.target) both.0 (wrote_part (reply_frame q id') a'.wires.server.target b'.wires.server.target r' w') in
      elim (more_either (frame_bytes (reply_frame q id)) _ _ _ _ (wrote_part (reply_frame q id) a.wires.server.target b.wires.server.target r w) there) [
        | inl m ↦ inl (record {
          client = more_nothing _ _ _ _ (ap (λ (z : Scene). z.wires.client.target) e) (ap (λ (z : Scene). z.wires.client.target) e');
          server = m;
          lines = more_nothing _ _ _ _ (ap (λ (z : Scene). z.wires.out) e) (ap (λ (z : Scene). z.wires.out) e');
        })
        | inr m ↦ inr (record {
          client = more_nothing _ _ _ _ (ap (λ (z : Scene). z.wires.client.target) e') (ap (λ (z : Scene). z.wires.client.target) e);
          server = m;
          lines = more_nothing _ _ _ _ (ap (λ (z : Scene). z.wires.out) e') (ap (λ (z : Scene). z.wires.out) e);
        })
      ]
  either_front (turn.Answers q) (id, ids, inl x, e) (id', ids', inr (f', err', is', new', s'), e') =
      let g = gave_in (turn.Answers q) a b r (id, ids, inl x, e) in
      inr (record {
        client = some_more _ _ _ _ (ap (λ (z : Scene). z.wires.client.target) e') g.client;
        server = some_more _ _ _ _ s' g.server;
        lines = some_more _ _ _ _ (ap (λ (z : Scene). z.wires.out) e') g.lines;
      })
  either_front (turn.Answers q) (id, ids, inr (f, err, is, new, s), e) c' =
      let g = gave_in (turn.Answers q) a' b' r' c' in
      inl (record {
        client = some_more _ _ _ _ (ap (λ (z : Scene). z.wires.client.target) e) g.client;
        server = some_more _ _ _ _ s g.server;
        lines = some_more _ _ _ _ (ap (λ (z : Scene). z.wires.out) e) g.lines;
      })
  either_front turn.Hears (inl (x, heard, p), e) (inl (x', heard', p'), e') =
      let there = subst (λ (z : List ℕ). Part z a'.wires.out b'.wires.out) (same_line x x' heard heard') (printed_part (reply_line x'.0 x'.1) a'.wires.out b'.wires.out r' p') in
      elim (more_either (reply_line x.0 x.1) _ _ _ _ (printed_part (reply_line x.0 x.1) a.wires.out b.wires.out r p) there) [
        | inl m ↦ inl (record {
          client = more_nothing _ _ _ _ (ap (λ (z : Scene). z.wires.client.target) e) (ap (λ (z : Scene). z.wires.client.target) e');
          server = more_nothing _ _ _ _ (ap (λ (z : Scene). z.wires.server.target) e) (ap (λ (z : Scene). z.wires.server.target) e');
          lines = m;
        })
        | inr m ↦ inr (record {
          client = more_nothing _ _ _ _ (ap (λ (z : Scene). z.wires.client.target) e') (ap (λ (z : Scene). z.wires.client.target) e);
          server = more_nothing _ _ _ _ (ap (λ (z : Scene). z.wires.server.target) e') (ap (λ (z : Scene). z.wires.server.target) e);
          lines = m;
        })
      ]
  either_front turn.Hears (inl x, e) (inr (f', is', x', s'), e') =
      let g = gave_in turn.Hears a b r (inl x, e) in
      inr (record {
        client = some_more _ _ _ _ (ap (λ (z : Scene). z.wires.client.target) e') g.client;
        server = some_more _ _ _ _ (ap (λ (z : Scene). z.wires.server.target) e') g.server;
        lines = some_more _ _ _ _ s' g.lines;
      })
  either_front turn.Hears (inr (f, is, x, s), e) c' =
      let g = gave_in turn.Hears a' b' r' c' in
      inl (record {
        client = some_more _ _ _ _ (ap (λ (z : Scene). z.wires.client.target) e) g.client;
        server = some_more _ _ _ _ (ap (λ (z : Scene). z.wires.server.target) e) g.server;
        lines = some_more _ _ _ _ s g.lines;
      })
  either_front (turn.Closes count) (p, e) (p', e') =
      elim (more_either (done_line count) _ _ _ _ (printed_part (done_line count) a.wires.out b.wires.out r p) (printed_part (done_line count) a'.wires.out b'.wires.out r' p')) [
        | inl m ↦ inl (record {
          client = more_nothing _ _ _ _ (ap (λ (z : Scene). z.wires.client.target) e) (ap (λ (z : Scene). z.wires.client.target) e');
          server = more_nothing _ _ _ _ (ap (λ (z : Scene). z.wires.server.target) e) (ap (λ (z : Scene). z.wires.server.target) e');
          lines = m;
        })
        | inr m ↦ inr (record {
          client = more_nothing _ _ _ _ (ap (λ (z : Scene). z.wires.client.target) e') (ap (λ (z : Scene). z.wires.client.target) e);
          server = more_nothing _ _ _ _ (ap (λ (z : Scene). z.wires.server.target) e') (ap (λ (z : Scene). z.wires.server.target) e);
          lines = m;
        })
      ]
