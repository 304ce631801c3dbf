-- Two conversations over the same bytes, turn by turn.
use Rattle.std.proofs.Common.{◌≡◌, ℕ, ◌⊎◌, List, [], ◌∷◌, ◌++◌, refl, sym, ap, subst, ◌∙◌, inl, inr, ◌≤◌, length, arith}
use Rattle.std.specs.Prelude.{Some, Result, Ok, Err}
use Rattle.cqlp_note.specs.declared.limits.TheConstants.Limits.{DEFAULT}
use Rattle.cqlp_note.specs.Limits.{Rules, rules_of}
use Rattle.cqlp_loop.specs.declared.fault.LoopFault.{LoopFault}
use Rattle.cqlp_loop.specs.declared.fault.LoopFault.TheVariants as fault
use Rattle.cqlp_loop.specs.Hearing.{Hearing, idle}
use Rattle.cqlp_loop.specs.Inboxes.{Supply, InboxState, IsNew}
use Rattle.cqlp_loop.specs.Script.{End, Wires, Scene, LoopStep, Comes, Does, Ends, IsFresh, Talks, script}
use Rattle.cqlp_loop.specs.Script as turn
use Rattle.cqlp_tool_laws.specs.Conversations.{IsSound, ReadTo, BothReadTheSame, IsDecided, SaidTheSame, SaidMore, TalksOver, IsOneAnswerOfTalk, OneGoesOnFromOther, DecidedGoesFurthest}
use Rattle.cqlp_tool_laws.proofs.Receipts.{Conformed}
use Rattle.cqlp_tool_laws.proofs.TalkTurns.{Alike, given_nothing, once, said_then}
use Rattle.cqlp_tool_laws.proofs.TalkStops.{Gave, gave_as, gave_then, gave_in, furthest, either_front, more_than_nothing, said_more_then, said_same_then}

-- ---- a turn that is done leaves the counts of failures

-- no read and no write of a socket failed, as many as are counted
record CountsKept (a b : Wires) : Type 0 where
  pub client_source : b.client.source.failures ≡ a.client.source.failures
  pub client_target : b.client.target.failures ≡ a.client.target.failures
  pub server_source : b.server.source.failures ≡ a.server.source.failures
  pub server_target : b.server.target.failures ≡ a.server.target.failures

counts_kept : (t : LoopStep) (a b : Scene) → Does t a b → CountsKept a.wires b.wires
counts_kept (turn.Asks q) a b (inl (t, ok, new, w), e) = record {
  client_source = ap (λ (z : Scene). z.wires.client.source.failures) e;
  client_target = w.1;
  server_source = ap (λ (z : Scene). z.wires.server.source.failures) e;
  server_target = ap (λ (z : Scene). z.wires.server.target.failures) e;
}
counts_kept (turn.Asks q) a b (inr (f, err, is, new, s), e) = absurd cc
counts_kept turn.Takes a b (inl (h, ok, x, ids), e) = record {
  client_source = ap (λ (z : Scene). z.wires.client.source.failures) e;
  client_target = ap (λ (z : Scene). z.wires.client.target.failures) e;
  server_source = x.0.2.reads.failures;
  server_target = ap (λ (z : Scene). z.wires.server.target.failures) e;
}
counts_kept turn.Takes a b (inr (f, is, x, ids), e) = absurd cc
counts_kept (turn.Answers q) a b (id, ids, inl (k, ok, new, w), e) = record {
  client_source = ap (λ (z : Scene). z.wires.client.source.failures) e;
  client_target = ap (λ (z : Scene). z.wires.client.target.failures) e;
  server_source = ap (λ (z : Scene). z.wires.server.source.failures) e;
  server_target = w.1;
}
counts_kept (turn.Answers q) a b (id, ids, inr (f, err, is, new, s), e) = absurd cc
counts_kept turn.Hears a b (inl (x, (h, is_answer, opcode, got, new), p), e) = record {
  client_source = got.2.reads.failures;
  client_target = ap (λ (z : Scene). z.wires.client.target.failures) e;
  server_source = ap (λ (z : Scene). z.wires.server.source.failures) e;
  server_target = ap (λ (z : Scene). z.wires.server.target.failures) e;
}
counts_kept turn.Hears a b (inr (f, is, x, s), e) = absurd cc
counts_kept (turn.Closes count) a b (p, e) = record {
  client_source = ap (λ (z : Scene). z.wires.client.source.failures) e;
  client_target = ap (λ (z : Scene). z.wires.client.target.failures) e;
  server_source = ap (λ (z : Scene). z.wires.server.source.failures) e;
  server_target = ap (λ (z : Scene). z.wires.server.target.failures) e;
}

sound_from : (x y z : ℕ) → y ≡ x → IsSound x z → IsSound y z
sound_from x y z same s = rw same s

-- what the bytes decided of all turns, they decided of those after the first
decided_on : (r : Result (Unit {0}) LoopFault) (a b c : Wires) → CountsKept a b → IsDecided r a c → IsDecided r b c
decided_on (Ok u) a b c k d = tt
decided_on (Err fault.BadReply) a b c k d = tt
decided_on (Err fault.SocketFault) a b c k d = (
  (sound_from _ _ _ k.client_source d.0.0, sound_from _ _ _ k.client_target d.0.1),
  (sound_from _ _ _ k.server_source d.1.0, sound_from _ _ _ k.server_target d.1.1),
)
decided_on (Err fault.TooManyTurns) a b c k d = absurd d
decided_on (Err fault.NoMemory) a b c k d = absurd d
decided_on (Err fault.WriteFault) a b c k d = absurd d

-- ---- turn by turn

-- the first turn is done, and the others come; or it ends the conversation
abbrev First : LoopStep → List LoopStep → Scene → Result (Unit {0}) LoopFault → Scene → Type 0
First t turns a r b =
    ((mid : Scene) × Does t a mid × Ends turns mid r b)
    ⊎ ((e : LoopFault) × (stop : Scene) × (r ≡ Err e) × Comes t a (Err e) stop × (stop.wires ≡ b.wires))

first : (t : LoopStep) (turns : List LoopStep) (a b : Scene) (r : Result (Unit {0}) LoopFault) → Ends (t ∷ turns) a r b → First t turns a r b
first t turns a b (Ok u) p = inl p
first t turns a b (Err e) (inl p) = inr (e, p.0, refl, p.1, p.2)
first t turns a b (Err e) (inr p) = inl p

said_nothing : (a b a' b' : Wires) → b ≡ a → b' ≡ a' → SaidTheSame a b a' b'
said_nothing a b a' b' same same' = record {
  client = given_nothing _ _ _ _ (ap (λ (z : Wires). z.client.target) same) (ap (λ (z : Wires). z.client.target) same');
  server = given_nothing _ _ _ _ (ap (λ (z : Wires). z.server.target) same) (ap (λ (z : Wires). z.server.target) same');
  lines = given_nothing _ _ _ _ (ap (λ (z : Wires). z.out) same) (ap (λ (z : Wires). z.out) same');
}

gave_first : (t : LoopStep) (turns : List LoopStep) (on : (a b : Scene) (r : Result (Unit {0}) LoopFault) → Ends turns a r b → Gave a.wires b.wires) (a b : Scene) (r : Result (Unit {0}) LoopFault) → First t turns a r b → Gave a.wires b.wires
gave_first t turns on a b r (inl (mid, x, q)) = gave_then a.wires mid.wires b.wires (gave_in t a mid (Ok tt) x) (on mid b r q)
gave_first t turns on a b r (inr (e, stop, is, c, same)) = subst (λ (z : Wires). Gave a.wires z) same (gave_in t a stop (Err e) c)

-- each target was given something
gave_on : (turns : List LoopStep) (a b : Scene) (r : Result (Unit {0}) LoopFault) → Ends turns a r b → Gave a.wires b.wires
gave_on [] a b (Ok u) p = gave_as a.wires b.wires (ap (λ (z : Scene). z.wires) p)
gave_on [] a b (Err e) p = absurd p
gave_on (t ∷ turns) a b r p = gave_first t turns (gave_on turns) a b r (first t turns a b r p)

same_swapped : (a b a' b' : Wires) → SaidTheSame a b a' b' → SaidTheSame a' b' a b
same_swapped a b a' b' s = record {
  client = (s.client.0, s.client.2, s.client.1);
  server = (s.server.0, s.server.2, s.server.1);
  lines = (s.lines.0, s.lines.2, s.lines.1);
}

alike_swapped : (l : Rules) (to_client to_server : List ℕ) (a a' : Scene) → Alike l to_client to_server a a' → Alike l to_client to_server a' a
alike_swapped l to_client to_server a a' al = (
  record { core = sym al.0.core; heard = al.0.heard; used = al.0.used; here = al.0.there; there = al.0.here; waiting = al.0.waiting'; waiting' = al.0.waiting },
  record { core = sym al.1.core; ids = sym al.1.ids; heard = al.1.heard; used = al.1.used; here = al.1.there; there = al.1.here; waiting = al.1.waiting'; waiting' = al.1.waiting },
)

read_to : (l : Rules) (xs used : List ℕ) (i : InboxState) (at : Supply) (x : Hearing) → Conformed l xs used i at x → length i.waiting ≤ 4096 → ReadTo xs used at
read_to l xs used i at x st few = record { ahead = i.waiting; rest = st.rest; split = st.stream; few = few; left = st.left }

both_read : (l : Rules) (to_client to_server : List ℕ) (a a' : Scene) → Alike l to_client to_server a a' → BothReadTheSame to_client to_server a.wires a'.wires
both_read l to_client to_server a a' al = (
  (al.0.used, read_to l to_client al.0.used a.caller.inbox a.wires.client.source _ al.0.here al.0.waiting, read_to l to_client al.0.used a'.caller.inbox a'.wires.client.source _ al.0.there al.0.waiting'),
  (al.1.used, read_to l to_server al.1.used a.host.inbox a.wires.server.source _ al.1.here al.1.waiting, read_to l to_server al.1.used a'.host.inbox a'.wires.server.source _ al.1.there al.1.waiting'),
)

module _ (l : Rules) (to_client to_server : List ℕ) where
  abbrev AreOne : (r r' : Result (Unit {0}) LoopFault) (a b a' b' : Wires) → Type 0
  AreOne r r' a b a' b' = (r' ≡ r) × SaidTheSame a b a' b' × (r ≡ Ok tt → BothReadTheSame to_client to_server b b')

  stopped : (t : LoopStep) (a b a' b' : Scene) (r r' : Result (Unit {0}) LoopFault) (e e' : LoopFault) (stop stop' : Scene) → Alike l to_client to_server a a' → r ≡ Err e → r' ≡ Err e' → Comes t a (Err e) stop → Comes t a' (Err e') stop' → stop.wires ≡ b.wires → stop'.wires ≡ b'.wires → IsDecided r a.wires b.wires → IsDecided r' a'.wires b'.wires → AreOne r r' a.wires b.wires a'.wires b'.wires
  stopped t a b a' b' r r' e e' stop stop' al is is' c c' same same' d d' =
      let o = once l to_client to_server (Err e) (Err e') a stop a' stop' al (rw (← same, is) at d) (rw (← same', is') at d') t c c' in
      (is' ∙ o.answer ∙ sym is, rw (same, same') at o.said, λ ok. absurd cc)

  -- all conversations of these turns
  abbrev Plays_once : List LoopStep → Type 0
  Plays_once turns =
      (a b a' b' : Scene) (r r' : Result (Unit {0}) LoopFault) → Alike l to_client to_server a a'
      → Ends turns a r b → Ends turns a' r' b' → IsDecided r a.wires b.wires → IsDecided r' a'.wires b'.wires
      → AreOne r r' a.wires b.wires a'.wires b'.wires

  first_once : (t : LoopStep) (turns : List LoopStep) (on : Plays_once turns) (a b a' b' : Scene) (r r' : Result (Unit {0}) LoopFault) → Alike l to_client to_server a a' → First t turns a r b → First t turns a' r' b' → IsDecided r a.wires b.wires → IsDecided r' a'.wires b'.wires → AreOne r r' a.wires b.wires a'.wires b'.wires
  first_once t turns on a b a' b' r r' al (inl (mid, x, q)) (inl (mid', x', q')) d d' =
      let o = once l to_client to_server (Ok tt) (Ok tt) a mid a' mid' al tt tt t x x' in
      let later = on mid b mid' b' r r' (o.alike refl) q q' (decided_on r a.wires mid.wires b.wires (counts_kept t a mid x) d) (decided_on r' a'.wires mid'.wires b'.wires (counts_kept t a' mid' x') d') in
      (later.0, said_then a.wires mid.wires b.wires a'.wires mid'.wires b'.wires o.said later.1, later.2)
  first_once t turns on a b a' b' r r' al (inl (mid, x, q)) (inr (e', stop', is', c', same')) d d' =
      let o = once l to_client to_server (Ok tt) (Err e') a mid a' stop' al tt (rw (← same', is') at d') t x c' in
      let wrong = o.answer in
      absurd cc
  first_once t turns on a b a' b' r r' al (inr (e, stop, is, c, same)) (inl (mid', x', q')) d d' =
      let o = once l to_client to_server (Err e) (Ok tt) a stop a' mid' al (rw (← same, is) at d) tt t c x' in
      let wrong = o.answer in
      absurd cc
  first_once t turns on a b a' b' r r' al (inr (e, stop, is, c, same)) (inr (e', stop', is', c', same')) d d' = stopped t a b a' b' r r' e e' stop stop' al is is' c c' same same' d d'

  plays_once : (turns : List LoopStep) → Plays_once turns
  plays_once [] a b a' b' (Ok u) (Ok u') al p p' d d' = (refl, said_nothing a.wires b.wires a'.wires b'.wires (ap (λ (z : Scene). z.wires) p) (ap (λ (z : Scene). z.wires) p'), λ ok. rw (p, p') (both_read l to_client to_server a a' al))
  plays_once [] a b a' b' (Ok u) (Err e') al p p' d d' = absurd p'
  plays_once [] a b a' b' (Err e) r' al p p' d d' = absurd p
  plays_once (t ∷ turns) a b a' b' r r' al p p' d d' = first_once t turns (plays_once turns) a b a' b' r r' al (first t turns a b r p) (first t turns a' b' r' p') d d'

  -- the same of what each said: one is a front of the other, and so it is of each with one that the bytes decided
  abbrev Fronts_of : List LoopStep → Type 0
  Fronts_of turns =
      (a b a' b' : Scene) (r r' : Result (Unit {0}) LoopFault) → Alike l to_client to_server a a'
      → Ends turns a r b → Ends turns a' r' b'
      → (SaidMore a.wires b.wires a'.wires b'.wires ⊎ SaidMore a'.wires b'.wires a.wires b.wires)
      × (IsDecided r' a'.wires b'.wires → SaidMore a.wires b.wires a'.wires b'.wires)

  decided_stop : (e : LoopFault) (t : LoopStep) (a mid a' stop' b' : Scene) (r' : Result (Unit {0}) LoopFault) → Alike l to_client to_server a a' → Does t a mid → Comes t a' (Err e) stop' → r' ≡ Err e → stop'.wires ≡ b'.wires → IsDecided r' a'.wires b'.wires → ⊥
  decided_stop e t a mid a' stop' b' r' al x c' is' same' d' =
      let o = once l to_client to_server (Ok tt) (Err e) a mid a' stop' al tt (rw (← same', is') at d') t x c' in
      let wrong = o.answer in
      cc

  first_fronts : (t : LoopStep) (turns : List LoopStep) (on : Fronts_of turns) (a b a' b' : Scene) (r r' : Result (Unit {0}) LoopFault) → Alike l to_client to_server a a' → First t turns a r b → First t turns a' r' b' → (SaidMore a.wires b.wires a'.wires b'.wires ⊎ SaidMore a'.wires b'.wires a.wires b.wires) × (IsDecided r' a'.wires b'.wires → SaidMore a.wires b.wires a'.wires b'.wires)
  first_fronts t turns on a b a' b' r r' al (inl (mid, x, q)) (inl (mid', x', q')) =
      let o = once l to_client to_server (Ok tt) (Ok tt) a mid a' mid' al tt tt t x x' in
      let later = on mid b mid' b' r r' (o.alike refl) q q' in (
        elim later.0 [
          | inl m ↦ inl (said_same_then a.wires mid.wires b.wires a'.wires mid'.wires b'.wires o.said m)
          | inr m ↦ inr (said_same_then a'.wires mid'.wires b'.wires a.wires mid.wires b.wires (same_swapped a.wires mid.wires a'.wires mid'.wires o.said) m)
        ],
        λ d'. said_same_then a.wires mid.wires b.wires a'.wires mid'.wires b'.wires o.said (later.1 (decided_on r' a'.wires mid'.wires b'.wires (counts_kept t a' mid' x') d')),
      )
  first_fronts t turns on a b a' b' r r' al (inl (mid, x, q)) (inr (e', stop', is', c', same')) =
      let more = furthest l to_client to_server (Err e') (Ok tt) a' stop' a mid (alike_swapped l to_client to_server a a' al) t c' x tt in
      (inr (said_more_then a'.wires stop'.wires b'.wires a.wires mid.wires b.wires more same' (gave_on turns mid b r q)), λ d'. absurd (decided_stop e' t a mid a' stop' b' r' al x c' is' same' d'))
  first_fronts t turns on a b a' b' r r' al (inr (e, stop, is, c, same)) (inl (mid', x', q')) =
      let more = furthest l to_client to_server (Err e) (Ok tt) a stop a' mid' al t c x' tt in
      let all = said_more_then a.wires stop.wires b.wires a'.wires mid'.wires b'.wires more same (gave_on turns mid' b' r' q') in
      (inl all, λ d'. all)
  first_fronts t turns on a b a' b' r r' al (inr (e, stop, is, c, same)) (inr (e', stop', is', c', same')) = (
    rw (same, same') at (either_front l to_client to_server (Err e) (Err e') a stop a' stop' al t c c'),
    λ d'. rw (same, same') at (furthest l to_client to_server (Err e) (Err e') a stop a' stop' al t c c' (rw (← same', is') at d')),
  )

  plays_fronts : (turns : List LoopStep) → Fronts_of turns
  plays_fronts [] a b a' b' (Ok u) (Ok u') al p p' =
      let all = more_than_nothing a.wires b.wires a'.wires b'.wires (ap (λ (z : Scene). z.wires) p) (gave_as a'.wires b'.wires (ap (λ (z : Scene). z.wires) p')) in
      (inl all, λ d'. all)
  plays_fronts [] a b a' b' (Ok u) (Err e') al p p' = absurd p'
  plays_fronts [] a b a' b' (Err e) r' al p p' = absurd p
  plays_fronts (t ∷ turns) a b a' b' r r' al p p' = first_fronts t turns (plays_fronts turns) a b a' b' r r' al (first t turns a b r p) (first t turns a' b' r' p')

-- ---- from the start

new_conforms : (i : InboxState) (from : Supply) (xs : List ℕ) → IsNew i → from.left ≡ Some xs → Conformed (rules_of DEFAULT) xs [] i from (idle [])
new_conforms i from xs new left = record {
  events = [];
  rest = xs;
  emitted = new.emitted;
  rules = new.rules;
  left = left;
  stream = ap (λ (z : List ℕ). z ++ xs) (sym new.waiting);
  heard = refl;
}

-- these bytes are all that come to the client and to the server
abbrev AreAllThatCome : (to_client to_server : List ℕ) → Wires → Type 0
AreAllThatCome to_client to_server before =
    (before.client.source.left ≡ Some to_client) × (before.server.source.left ≡ Some to_server)

all_that_come : (count : ℕ) (to_client to_server : List ℕ) (before after w : Wires) (r : Result (Unit {0}) LoopFault) → TalksOver count to_client to_server before r after → w ≡ before → AreAllThatCome to_client to_server w
all_that_come count to_client to_server before after w r over from = subst (λ (z : Wires). AreAllThatCome to_client to_server z) (sym from) (over.client, over.server)

none_wait : (i : InboxState) → IsNew i → length i.waiting ≤ 4096
none_wait i new = omega (arith, ap (λ (z : List ℕ). length z) new.waiting)

fresh_alike : (to_client to_server : List ℕ) (a a' : Scene) → IsFresh a → IsFresh a' → AreAllThatCome to_client to_server a.wires → AreAllThatCome to_client to_server a'.wires → Alike (rules_of DEFAULT) to_client to_server a a'
fresh_alike to_client to_server a a' f f' all all' = (
  record {
    core = f'.client ∙ sym f.client;
    heard = [];
    used = [];
    here = new_conforms a.caller.inbox a.wires.client.source to_client f.client_inbox all.0;
    there = new_conforms a'.caller.inbox a'.wires.client.source to_client f'.client_inbox all'.0;
    waiting = none_wait a.caller.inbox f.client_inbox;
    waiting' = none_wait a'.caller.inbox f'.client_inbox;
  },
  record {
    core = f'.server ∙ sym f.server;
    ids = f'.unanswered ∙ sym f.unanswered;
    heard = [];
    used = [];
    here = new_conforms a.host.inbox a.wires.server.source to_server f.server_inbox all.1;
    there = new_conforms a'.host.inbox a'.wires.server.source to_server f'.server_inbox all'.1;
    waiting = none_wait a.host.inbox f.server_inbox;
    waiting' = none_wait a'.host.inbox f'.server_inbox;
  },
)

not_decided : (r : Result (Unit {0}) LoopFault) (before after : Wires) → r ≡ Err fault.NoMemory → IsDecided r before after → ⊥
not_decided r before after is d = subst (λ (x : Result (Unit {0}) LoopFault). IsDecided x before after) is d

gave_all : (count : ℕ) (r : Result (Unit {0}) LoopFault) (before after : Wires) → Talks count before r after → Gave before after
gave_all count r before after (inl (a, b, fresh, from, to, p)) = rw (from, to) at (gave_on (script count) a b r p)
gave_all count r before after (inr (is, same)) = gave_as before after same

module _ (count : ℕ) (to_client to_server : List ℕ) (r r' : Result (Unit {0}) LoopFault) (before after before' after' : Wires) (over : TalksOver count to_client to_server before r after) (over' : TalksOver count to_client to_server before' r' after') where
  alike : (a a' : Scene) → IsFresh a → IsFresh a' → a.wires ≡ before → a'.wires ≡ before' → Alike (rules_of DEFAULT) to_client to_server a a'
  alike a a' fresh fresh' from from' =
      fresh_alike to_client to_server a a' fresh fresh' (all_that_come count to_client to_server before after a.wires r over from) (all_that_come count to_client to_server before' after' a'.wires r' over' from')

  answers : Talks count before r after → Talks count before' r' after' → IsDecided r before after → IsDecided r' before' after' → (r' ≡ r) × SaidTheSame before after before' after' × (r ≡ Ok tt → BothReadTheSame to_client to_server after after')
  answers (inl (a, b, fresh, from, to, p)) (inl (a', b', fresh', from', to', p')) d d' =
      rw (from, to, from', to') at (plays_once (rules_of DEFAULT) to_client to_server (script count) a b a' b' r r' (alike a a' fresh fresh' from from') p p' (rw (← from, ← to) at d) (rw (← from', ← to') at d'))
  answers (inr (is, same)) t' d d' = absurd (not_decided r before after is d)
  answers (inl t) (inr (is, same)) d d' = absurd (not_decided r' before' after' is d')

  fronts_of : Talks count before r after → Talks count before' r' after' → (SaidMore before after before' after' ⊎ SaidMore before' after' before after) × (IsDecided r' before' after' → SaidMore before after before' after')
  fronts_of (inl (a, b, fresh, from, to, p)) (inl (a', b', fresh', from', to', p')) =
      rw (from, to, from', to') at (plays_fronts (rules_of DEFAULT) to_client to_server (script count) a b a' b' r r' (alike a a' fresh fresh' from from') p p')
  fronts_of (inr (is, same)) t' = let more = more_than_nothing before after before' after' same (gave_all count r' before' after' t') in (inl more, λ d'. more)
  fronts_of (inl t) (inr (is, same)) = (inr (more_than_nothing before' after' before after same (gave_all count r before after (inl t))), λ d'. absurd (not_decided r' before' after' is d'))

pub one_answer : IsOneAnswerOfTalk
one_answer count to_client to_server r r' before after before' after' over over' = answers count to_client to_server r r' before after before' after' over over' over.talks over'.talks

pub one_goes_on : OneGoesOnFromOther
one_goes_on count to_client to_server r r' before after before' after' over over' = (fronts_of count to_client to_server r r' before after before' after' over over' over.talks over'.talks).0

pub decided_goes_furthest : DecidedGoesFurthest
decided_goes_furthest count to_client to_server r r' before after before' after' over over' = (fronts_of count to_client to_server r r' before after before' after' over over' over.talks over'.talks).1
